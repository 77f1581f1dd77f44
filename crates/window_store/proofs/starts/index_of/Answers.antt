use Rattle.std.proofs.Common.{◌+◌, take, subst, sym}
use Rattle.std.specs.FinMap.{empty}
use Rattle.state_store.specs.Store.{replay}
use Rattle.window_store.specs.Windows.{IsWindowKey}
use Rattle.window_store.specs.Starts.{Starts, IsByStart}
use Rattle.window_store.proofs.WindowKeys.{long}
use Rattle.window_store.proofs.IndexLemmas.{IsMore, IsByStart-empty, IsByStart-more}
use Rattle.window_store.proofs.Noting.{AreNoted, AreNoted-empty, AreNoted-value, AreNoted-none, window_at}
use Rattle.window_store.proofs.starts.index_of.Goals as goal
use Rattle.window_store.proofs.starts.index_of.Goals.{then-is_some+in_ok-note, else-is_some}

pub note-requires : goal.note-requires
note-requires c =
    long c.items.result.now (subst IsWindowKey (sym c.items.ensures) (window_at c.args.changes.now c.loop-change.change-index c.change-item.result c.loop-change-test.true c.change-item.is c.requires))

pub loop-change-init : goal.loop-change-init
loop-change-init c = record {
  by_start = IsByStart-empty c.new-starts.result c.new-starts.ensures.empty;
  held = AreNoted-empty c.new-starts.result;
}

pub loop-change-preserved : goal.loop-change-preserved
loop-change-preserved c =
    let changes = c.args.changes.now in
    let i = c.loop-change.change-index in
    let change = c.change-item.result in
    let old = c.loop-change.starts in
    let before = c.loop-change.invariant in
    let within = c.loop-change-test.true in
    let window = window_at changes i change within c.change-item.is c.requires in
    let Noted : Starts → Type 0 = λ starts. AreNoted starts (replay empty (take (i + 1) changes)) in
    elim c.if-is_some.branch [
      | then-is_some+in_ok-note w ↦
          let new = w.note.new.starts in
          let more : IsMore old new change.key = subst (IsMore old new) w.items.ensures w.in_ok-note.ensures.noted in
          record {
            by_start = subst IsByStart (sym w.starts-is) (IsByStart-more old new change.key window more before.by_start);
            held = subst Noted (sym w.starts-is) (AreNoted-value old new empty changes i change within c.change-item.is more before.held);
          }
      | else-is_some w ↦ record {
        by_start = subst IsByStart (sym w.starts-is) before.by_start;
        held = subst Noted (sym w.starts-is) (AreNoted-none old empty changes i change within c.change-item.is (sym w.if-is_some.ensures) before.held);
      }
    ]
