-- The stages of a grouped query.
use Rattle.std.proofs.Common.{List, [], ◌∷◌, ◌++◌}
use Rattle.ksql_expr.specs.declared.typed.Typed.{Typed}
use Rattle.ksql_program.specs.declared.program.Item.{Item}
use Rattle.ksql_program.specs.declared.query.Query.{Query}
use Rattle.ksql_nodes.specs.declared.node.Node.{Node}
use Rattle.ksql_nodes.specs.declared.node.Node.TheVariants as node
use Rattle.query_meaning.specs.Queries.{lanes_of, leftmost}
use Rattle.topology.specs.Stages.{input_nodes, inputs_of}
use Rattle.topology.specs.declared.stage.CutName.TheVariants as cut
use Rattle.topology.specs.declared.stage.Link.TheVariants as link
use Rattle.topology.specs.declared.stage.Stage.{Stage}

-- the stages of a grouped query that isn't cut, and of one that is
abbrev pub whole_stages : List Item → Query → List Typed → List Node → List Stage
whole_stages items q keys rest =
    record { inputs = inputs_of items q.from; nodes = (input_nodes items q ++ node.Group keys ∷ []) ++ rest; partitions = lanes_of items q; output = link.Relation q.out.number } ∷ []

abbrev pub cut_stages : List Item → Query → List Typed → List Node → List Stage
cut_stages items q keys rest =
    record { inputs = inputs_of items q.from; nodes = input_nodes items q ++ node.Group keys ∷ []; partitions = lanes_of items q; output = link.Cut cut.Group (leftmost q.from) }
    ∷ record { inputs = link.Cut cut.Group (leftmost q.from) ∷ []; nodes = rest; partitions = lanes_of items q; output = link.Relation q.out.number } ∷ []
