use Rattle.std.proofs.Common.{◌≡◌, All, subst, sym, ◌∙◌}
use Rattle.std.proofs.lemmas.List.Elements.{All-weaker}
use Rattle.window_store.specs.Windows.{IsWindowKey}
use Rattle.window_store.specs.Starts.{noted, IsOfStart}
use Rattle.window_store.proofs.Removals.{popped, noted-found, IsIndex-without, IsIndex-left, later-left, gone_before}
use Rattle.window_store.proofs.ending.end_until.Goals as goal
use Rattle.window_store.proofs.ending.end_until.Goals.{After-deref}

-- the keys of the first start
noted_is : (c : After-deref) → noted c.loop-start.starts c.in-Some.start.now ≡ c.deref.result.now
noted_is c = noted-found c.loop-start.starts c.in-Some.start.now c.in-Some.keys.now c.in-Some.ensures.value ∙ sym c.deref.ensures.value

of_start : (c : After-deref) → All (IsOfStart c.in-Some.start.now) c.deref.result.now
of_start c = subst (All (IsOfStart c.in-Some.start.now)) (noted_is c) (c.loop-start.invariant.index.by_start c.in-Some.start.now)

pub delete_all-requires-clause-windows : goal.delete_all-requires-clause-windows
delete_all-requires-clause-windows c =
    All-weaker (IsOfStart c.in-Some.start.now) IsWindowKey (λ b is. is.0) c.deref.result.now (of_start c)

pub returns-in_err-delete_all-clause-index : goal.returns-in_err-delete_all-clause-index
returns-in_err-delete_all-clause-index c =
    IsIndex-left c.loop-start.starts c.loop-start.kept c.delete_all.new.kept c.deref.result.now c.delete_all.ensures.others c.delete_all.ensures.written c.loop-start.invariant.index

pub returns-in_err-delete_all-clause-others : goal.returns-in_err-delete_all-clause-others
returns-in_err-delete_all-clause-others c b late =
    later-left c.deref.result.now c.in-Some.start.now c.args.last c.loop-start.kept.map c.delete_all.new.kept.map c.if-start-last.false (of_start (goal.at.returns-in_err-delete_all-clause-others c).After-deref) c.delete_all.ensures.others b late
    ∙ c.loop-start.invariant.others b late

pub loop-start-preserved : goal.loop-start-preserved
loop-start-preserved c =
    let at = (goal.at.loop-start-preserved c).After-deref in
    let start = c.in-Some.start.now in
    let old = c.loop-start.starts in
    let new = c.pop_first.new.self in
    let gone = c.in_ok-delete_all.ensures in
    let popping = c.pop_first.ensures in
    let without = popped old new c.pop_first.result start c.in-Some.keys.now c.in-Some.ensures.first popping.variant popping.removal popping.updates in
    record {
      index = IsIndex-without old new c.loop-start.kept c.delete_all.new.kept start c.deref.result.now (noted_is at) without gone.others gone.gone gone.written c.loop-start.invariant.index;
      others = λ b late.
          later-left c.deref.result.now start c.args.last c.loop-start.kept.map c.delete_all.new.kept.map c.if-start-last.false (of_start at) gone.others b late
          ∙ c.loop-start.invariant.others b late;
      base = λ base is. gone.base base (c.loop-start.invariant.base base is);
    }

pub returns-then-start-last-clause-gone : goal.returns-then-start-last-clause-gone
returns-then-start-last-clause-gone c =
    gone_before c.loop-start.starts c.loop-start.kept c.in-Some.start.now c.args.last c.in-Some.ensures.least c.if-start-last.true c.loop-start.invariant.index
