use Rattle.std.proofs.Common.{◌≡◌, ◌∙◌, ap, ℕ, List, ◌++◌}
use Rattle.std.specs.Prelude.{Option, option_map}
use Rattle.std.proofs.lemmas.Result.{on_ok_weaker}
use Rattle.ksql_place.specs.Said.{row_in}
use Rattle.ksql_place.specs.declared.change.Change.{Change}
use Rattle.ksql_nodes.specs.Entries.{Row, of_key, row_after}
use Rattle.ksql_nodes.specs.Rows.{turned, with_body}
use Rattle.row_ops.proofs.InputTable.{row-latest}
use Rattle.row_ops.proofs.table_op.give.Goals as goal

pub returns-clause-next : goal.returns-clause-next
returns-clause-next c =
    let change = c.args.change in
    on_ok_weaker c.push_given.result
    (λ added side es h.
    let turned_to = c.in_ok-found.ensures.next side es h in
    let old : c.row_of.result ≡ row_after (of_key change.key es) =
    c.row_of.ensures ∙ ap (option_map (λ (timed : ℕ × Row). timed.1)) turned_to.0 ∙ row-latest (of_key change.key es) in (
      added
          ∙ ap (λ (made : List Change). c.args.out.now.items ++ made)
          (c.changed.ensures ∙ ap (λ (old : Option Row). with_body change (turned old (row_in change.body))) old),
      turned_to.1,
    ))
    c.push_given.ensures.given
