use Rattle.std.proofs.Common.{◌≡◌, ℕ, true, Option, None, Some, IfSome, IsSome, is_some, ap, sym, ◌∙◌, true≢false}
use Rattle.std.specs.FinMap as finite
use Rattle.std.proofs.lemmas.Result.{on_ok_weaker}
use Rattle.window_store.proofs.HeldStarts.{is_some-copied}
use Rattle.window_store.proofs.WindowKeys.{long}
use Rattle.window_store.proofs.IndexLemmas.{IsIndex-noted, noted-itself}
use Rattle.window_store.proofs.starts.note_new.Goals as goal
use Rattle.window_store.proofs.starts.note_new.Goals.{then-is_some-via-then-is_some, then-is_some-via-else-is_some+then-is_some-2}

pub note-requires : goal.note-requires
note-requires c = long c.args.at.now c.requires.window

pub returns-clause-index : goal.returns-clause-index
returns-clause-index c =
    IsIndex-noted c.note.result c.args.starts.now c.note.new.starts c.args.kept.now c.args.at.now c.requires.window c.note.ensures.noted c.note.ensures.kept c.requires.index

pub returns-clause-noted : goal.returns-clause-noted
returns-clause-noted c =
    on_ok_weaker c.note.result (noted-itself c.args.starts.now c.note.new.starts c.args.at.now) c.note.ensures.noted

-- a property that holds if there is a place
at_place : (place : Option ℕ) (P : Type 0) → true ≡ is_some place → IfSome place (λ _. P) → P
at_place None P e h = absurd (true≢false e)
at_place (Some n) P e h = h

pub returns-then-is_some-clause-noted : goal.returns-then-is_some-clause-noted
returns-then-is_some-clause-noted c =
    let held : IsSome (finite.get c.args.kept.now.map c.args.at.now) =
    elim c.then-is_some.branch [
      | then-is_some-via-then-is_some w ↦ at_place c.args.place (IsSome (finite.get c.args.kept.now.map c.args.at.now)) w.if-is_some.ensures c.requires.held
      | then-is_some-via-else-is_some+then-is_some-2 w ↦ ap is_some (sym w.get.ensures) ∙ is_some-copied w.get.result ∙ sym w.if-is_some-2.ensures
    ] in
    c.requires.index.held c.args.at.now held
