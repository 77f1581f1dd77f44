use Rattle.std.proofs.Common.{◌≡◌, ◌∙◌, ap, ℕ, List, ◌++◌}
use Rattle.std.specs.Prelude.{Option, option_map, unwrap_or}
use Rattle.std.specs.Option.{option_to_list}
use Rattle.std.proofs.lemmas.Result.{on_ok_weaker}
use Rattle.ksql_place.specs.declared.change.Change.{Change}
use Rattle.ksql_nodes.specs.Entries.{Row, Entry, of_key, of_side, row_after, time_after}
use Rattle.ksql_nodes.specs.Joins.{other_side}
use Rattle.row_ops.proofs.InputTable.{row-latest, time-latest}
use Rattle.row_steps.specs.Joining.{turned_beside, standing_before}
use Rattle.join_ops.proofs.table_table_op.give.Goals as goal

pub returns-clause-next : goal.returns-clause-next
returns-clause-next c =
    let change = c.args.change in
    let side = c.args.side in
    on_ok_weaker c.push_given.result
    (λ added es h.
    let mine : List Entry = of_side side (of_key change.key es) in
    let others : List Entry = of_side (other_side side) (of_key change.key es) in
    let stood = c.in_ok-latest.ensures.next es h in
    let own : c.row_of.result ≡ row_after mine =
    c.row_of.ensures ∙ ap (option_map (λ (timed : ℕ × Row). timed.1)) stood.0 ∙ row-latest mine in
    let other : c.row_of-2.result ≡ row_after others =
    c.row_of-2.ensures ∙ ap (option_map (λ (timed : ℕ × Row). timed.1)) stood.1 ∙ row-latest others in
    let time : c.time_of.result ≡ time_after others =
    c.time_of.ensures ∙ ap (λ (o : Option (ℕ × Row)). unwrap_or (option_map (λ (timed : ℕ × Row). timed.0) o) 0) stood.1 ∙ time-latest others in
    let given : option_to_list c.in_ok-given.given ≡ turned_beside c.args.join.now side change (standing_before side change.key es) =
    c.in_ok-given.ensures ∙ (λ i. turned_beside c.args.join.now side change (record { own = own i; other = other i; time = time i })) in
    (added ∙ ap (λ (made : List Change). c.args.out.now.items ++ made) given, stood.2))
    c.push_given.ensures.given
