use Rattle.std.proofs.Common.{◌∙◌, ap, sym}
use Rattle.std.proofs.lemmas.Cmp.{tied_itself}
use Rattle.ksql_place.specs.Order.{stamp_cmp}
use Rattle.ksql_place.proofs.Orders.{stamp_total, stamp_cmp-equal}
use Rattle.ksql_place.proofs.laws.stamps_are_ordered.Goals as goal

pub returns : goal.returns
returns c = record {
  ties = λ a b. (stamp_cmp-equal a b, λ same. ap (stamp_cmp a) (sym same) ∙ tied_itself stamp_total a);
  turned = stamp_total.antisymm;
  transitive = stamp_total.trans;
}
