use Rattle.std.proofs.Common.{Global, ◌≡◌, ◌∙◌, ◌≤◌, [], ap, sym, refl, subst, arith, length, map, List, Some, Option}
use Rattle.std.specs.Prelude.{All, option_map, unwrap_or}
use Rattle.std.specs.declared.collections.VecDeque.{VecDeque}
use Rattle.std.proofs.lemmas.Bool.{eqb-true}
use Rattle.std.proofs.lemmas.List.{nil_from_length}
use Rattle.std.proofs.lemmas.Option.{slice_get_read}
use Rattle.ksql_place.specs.Ascending.{Rises}
use Rattle.ksql_place.specs.Routing.{change_cmp}
use Rattle.ksql_place.specs.declared.change.Change.{Change}
use Rattle.core_state.specs.State.{feed_of}
use Rattle.topic_log.specs.Commits.{IsAlone}
use Rattle.topic_log.specs.Shelves.{waiting_in}
use Rattle.topic_log.proofs.Showing.{next_at, next_within}
use Rattle.topic_log.proofs.commits.whole_due.Goals as goal

pub is_all_due-requires : goal.is_all_due-requires
is_all_due-requires c =
    let part = c.args.part.now in
    let writer = c.in_ok-writer.writer in
    let within = next_within c.args.closed part writer (next_at c.args.closed part c.as_slice.result.now (Some writer) c.as_slice.ensures.value c.in_ok-writer.ensures) in
    subst (λ (w : VecDeque Change Global). Rises change_cmp w.items) (sym c.index.ensures) (c.requires writer c.index.result.now within)

pub returns-then-is_all_due : goal.returns-then-is_all_due
returns-then-is_all_due c =
    let part = c.args.part.now in
    let writer = c.in_ok-writer.writer in
    let within = next_within c.args.closed part writer (next_at c.args.closed part c.as_slice.result.now (Some writer) c.as_slice.ensures.value c.in_ok-writer.ensures) in
    let waits : waiting_in writer part ≡ c.index.result.now.items =
    ap (λ (o : Option (VecDeque Change Global)). unwrap_or (option_map (λ w. w.items) o) []) (slice_get_read part.waiting.items (length part.waiting.items) writer c.index.result.now refl within c.index.ensures) in
    let zero : part.said.len ≡ 0 = eqb-true part.said.len 0 (sym c.is_empty.ensures ∙ c.if-not-is_empty.false) in
    record {
      within = within;
      alone = subst (λ (ws : List (VecDeque Change Global)). IsAlone (map (λ w. w.items) ws) writer) c.as_slice-2.ensures.value (c.is_alone.ensures c.if-is_alone.true);
      due = subst (All (λ x. feed_of x ≤ c.args.closed)) (sym waits) (c.is_all_due.ensures c.if-is_all_due.true);
      none = nil_from_length part.said.items (omega (arith, zero, part.said.ok.0));
    }
