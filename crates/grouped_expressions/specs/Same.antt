-- Whether two typed trees, or their forms, are the same.
use base.Stored.{Gv, gnil, gnum, gcons}
use Rattle.std.specs.Prelude.{◌==◌, Bool, true, false, ◌&&◌}
use Rattle.ksql_expr.specs.contracts.typed.Typed as tree
use Rattle.ksql_expr.specs.contracts.typed.TypedNode as form
use Rattle.ksql_expr.specs.declared.typed.Typed.{Typed}
use Rattle.ksql_expr.specs.declared.typed.TypedNode.{TypedNode}

-- whether two codes are the same
abbrev pub same_code : Gv → Gv → Bool
same_code gnil gnil = true
same_code (gnum m) (gnum n) = m == n
same_code (gcons a b) (gcons c d) = same_code a c && same_code b d
same_code _ _ = false

-- whether two forms are the same: each form has a code of its own, and their codes are the same
unfoldable pub same_form : TypedNode → TypedNode → Bool
same_form a b = same_code (form.the_row.coded.code a) (form.the_row.coded.code b)

-- whether two trees are the same
unfoldable pub same_tree : Typed → Typed → Bool
same_tree a b = same_code (tree.the_row.coded.code a) (tree.the_row.coded.code b)
