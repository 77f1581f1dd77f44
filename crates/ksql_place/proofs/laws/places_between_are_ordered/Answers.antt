use Rattle.ksql_place.proofs.Orders.{between_total, between_cmp-equal, between_cmp-same}
use Rattle.ksql_place.proofs.laws.places_between_are_ordered.Goals as goal

pub returns : goal.returns
returns c = record {
  ties = λ a b ra rb. (between_cmp-equal a b ra rb, between_cmp-same a b ra rb);
  turned = λ a b ra rb. between_total.antisymm (a, ra) (b, rb);
  transitive = λ a b d ra rb rd. between_total.trans (a, ra) (b, rb) (d, rd);
}
