use Rattle.std.proofs.Common.{Global, ◌∙◌, ap, sym, subst, List, [], ◌++◌, map, Option}
use Rattle.std.specs.Prelude.{option_map, unwrap_or}
use Rattle.std.specs.declared.collections.VecDeque.{VecDeque}
use Rattle.ksql_place.specs.Ascending.{Rises}
use Rattle.ksql_place.specs.Routing.{change_cmp}
use Rattle.ksql_place.specs.declared.change.Change.{Change}
use Rattle.core_state.specs.Routes.{merged}
use Rattle.core_state.specs.State.{upto}
use Rattle.topic_log.specs.Commits.{waiting_lists}
use Rattle.topic_log.specs.Shelves.{waiting_in}
use Rattle.topic_log.proofs.Applying.{waiting_in-lists}
use Rattle.topic_log.proofs.OneTopic.{All-slice_get, slice_get-some}
use Rattle.topic_log.proofs.Whole.{whole-left, whole-shown}
use Rattle.topic_log.proofs.commits.show_due.Goals as goal

rises : (c : goal.After-show_whole) → Rises change_cmp (waiting_in c.in-Some.writer c.args.part.now)
rises c =
    let ws = c.args.part.now.waiting.items in
    let some = slice_get-some ws c.in-Some.writer c.in-Some.ensures.within in
    subst (Rises change_cmp) (sym (ap (λ (o : Option (VecDeque Change Global)). unwrap_or (option_map (λ w. w.items) o) []) some.1))
    (All-slice_get (λ w. Rises change_cmp w.items) ws c.in-Some.writer some.0 c.requires.ascends some.1)

pub returns-in-Some-clause-said : goal.returns-in-Some-clause-said
returns-in-Some-clause-said c =
    let part = c.args.part.now in
    let writer = c.in-Some.writer in
    let is = c.in-Some.ensures in
    c.show_whole.ensures.said
    ∙ sym (whole-shown c.args.closed (waiting_lists part) writer (waiting_in writer part) (waiting_in-lists writer part) is.alone is.due (rises c))
    ∙ ap (λ (xs : List Change). xs ++ merged (map (upto c.args.closed) (waiting_lists part))) (sym is.none)

pub returns-in-Some-clause-waiting : goal.returns-in-Some-clause-waiting
returns-in-Some-clause-waiting c =
    let part = c.args.part.now in
    let writer = c.in-Some.writer in
    let is = c.in-Some.ensures in
    c.show_whole.ensures.waiting
    ∙ sym (whole-left c.args.closed (waiting_lists part) writer (waiting_in writer part) (waiting_in-lists writer part) is.alone is.due (rises c))
