use Rattle.std.proofs.Common.{◌≡◌, ◌∙◌, ap, ℕ}
use Rattle.std.proofs.lemmas.Result.{IfOk-weaker}
use Rattle.std.specs.Prelude.{option_map}
use Rattle.ksql_nodes.specs.Entries.{Row, of_key, of_side, row_after}
use Rattle.row_ops.proofs.InputTable.{row-latest}
use Rattle.row_steps.specs.Joining.{beside}
use Rattle.join_ops.proofs.Sides.{key-of_side}
use Rattle.join_ops.proofs.stream_table_op.beside_row.Goals as goal

pub returns : goal.returns
returns c =
    let change = c.args.change in
    IfOk-weaker c.stream_joined.result _ _
    (λ made given es h.
    let row : c.row_of.result ≡ row_after (of_side 1 (of_key change.key es)) =
    c.row_of.ensures
    ∙ ap (option_map (λ (timed : ℕ × Row). timed.1)) (c.in_ok-found.ensures (of_side 1 es) h)
    ∙ row-latest (of_key change.key (of_side 1 es))
    ∙ ap row_after (key-of_side change.key 1 es) in
    given ∙ ap (beside c.args.join.now change) row)
    c.stream_joined.ensures
