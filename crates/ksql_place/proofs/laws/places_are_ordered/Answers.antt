use Rattle.ksql_place.proofs.Orders.{place_total, place_cmp-equal, place_cmp-same}
use Rattle.ksql_place.proofs.laws.places_are_ordered.Goals as goal

pub returns : goal.returns
returns c = record {
  ties = λ a b. (place_cmp-equal a b, place_cmp-same a b);
  turned = place_total.antisymm;
  transitive = place_total.trans;
}
