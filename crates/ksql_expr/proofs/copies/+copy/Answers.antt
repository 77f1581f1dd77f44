use Rattle.std.proofs.Common.{◌≡◌, IfOk, sym, subst}
use Rattle.ksql_expr.specs.declared.typed.TypedNode.{TypedNode}
use Rattle.ksql_expr.proofs.copies.+copy.Goals as goal

pub copy_node-returns-in-Case : goal.copy_node-returns-in-Case
copy_node-returns-in-Case t c =
    subst (λ (form : TypedNode). IfOk c.case_of.result (λ copied. copied ≡ form)) (sym c.in-Case.is)
    (c.case_of.ensures c.in-Case.arg c.in-Case.whens c.in-Case.otherwise c.copy_perhaps.ensures c.copy_whens.ensures c.copy_perhaps-in-Case.ensures)
