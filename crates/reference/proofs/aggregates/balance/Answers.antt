use Rattle.std.proofs.Common.{◌≡◌, ◌∙◌, ap, arith}
use Rattle.std.proofs.lemmas.Int.{ints}
use Rattle.ksql_expr.specs.Value.{number}
use Rattle.ksql_nodes.specs.Aggregates.{amount}
use Rattle.reference.proofs.aggregates.balance.Goals as goal

pub returns : goal.returns
returns c =
    let fun = c.args.fun in
    let entered : c.amount-entered.result ≡ amount fun c.args.entered.items = c.amount-entered.ensures.value ∙ ap (amount fun) c.as_slice.ensures.value in
    let gone : c.amount-gone.result ≡ amount fun c.args.gone.items = c.amount-gone.ensures.value ∙ ap (amount fun) c.as_slice-2.ensures.value in
    c.number_in.ensures ∙ ap (number c.args.ty) (omega (arith, ints))
