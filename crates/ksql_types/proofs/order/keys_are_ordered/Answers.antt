use Rattle.std.proofs.Common.{◌∙◌, ap, sym}
use Rattle.ksql_types.specs.Order.{key_cmp}
use Rattle.ksql_types.proofs.OrderLemmas.{key_cmp-Equal, key_cmp-itself, key_cmp-reversed, key_cmp-trans}
use Rattle.ksql_types.proofs.order.keys_are_ordered.Goals as goal

pub returns-clause-reflexive : goal.returns-clause-reflexive
returns-clause-reflexive c = key_cmp-itself

pub returns-clause-antisymmetric : goal.returns-clause-antisymmetric
returns-clause-antisymmetric c = λ a b e. (key_cmp-Equal a b e, λ same. ap (key_cmp a) (sym same) ∙ key_cmp-itself a)

pub returns-clause-reversed : goal.returns-clause-reversed
returns-clause-reversed c = key_cmp-reversed

pub returns-clause-transitive : goal.returns-clause-transitive
returns-clause-transitive c = key_cmp-trans
