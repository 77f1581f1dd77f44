use Rattle.std.proofs.Common.{◌≡◌, ◌++◌, drop, option_map}
use Rattle.serde_json.specs.Data.{object}
use Rattle.topic_files.specs.Tree.{members_view}
use Rattle.topic_files.specs.Cells.{cells}
use Rattle.topic_files.proofs.fields.cells.Given as goal

-- the values so far are those of the columns so far
abbrev pub invariant-loop-column : goal.invariant-loop-column
invariant-loop-column l =
    cells l.fn.columns (object (members_view l.fn.members))
    ≡ option_map (λ more. l.values.items ++ more) (cells (drop l.column-index l.columns) (object (members_view l.fn.members)))
