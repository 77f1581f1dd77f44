use Rattle.std.proofs.Common.{◌∷◌}
use Rattle.ksql_place.proofs.Ascending.{IsPermutation-ascending, Ascends-ascending, Ascends-from_sort, IsSorted-from_ascends, IsStable-ascending, ascending-kept, ascending-again, ascending-append, filter-ascending, merge-left, merge-right}
use Rattle.ksql_place.specs.Ascending.{ascending}
use Rattle.ksql_place.proofs.TwoLists.{cut, Rises-from_sort, same_members}
use Rattle.ksql_place.proofs.laws.lists_ascend.Goals as goal

pub returns : goal.returns
returns g c = record {
  members = λ cmp total xs. IsPermutation-ascending total xs;
  ascends = λ cmp total xs. IsSorted-from_ascends total (ascending cmp xs) (Ascends-ascending total xs);
  stable = λ cmp total xs. IsStable-ascending total xs;
  kept = λ cmp total xs sorted. ascending-kept total xs (Ascends-from_sort total xs sorted);
  part = λ cmp total passes xs. filter-ascending total passes xs;
  follow = λ cmp total xs ys apart. ascending-append total xs ys apart;
  again = λ cmp total xs ys. ascending-again total xs ys;
  first_head = λ cmp total x y xs ys low xs-up ys-up. merge-left total x y xs ys low (Ascends-from_sort total (x ∷ xs) xs-up) (Ascends-from_sort total (y ∷ ys) ys-up);
  second_head = λ cmp total x y xs ys gt xs-up ys-up. merge-right total x y xs ys gt (Ascends-from_sort total (x ∷ xs) xs-up) (Ascends-from_sort total (y ∷ ys) ys-up);
  cut = λ passes xs first. cut passes xs first;
  rises = λ cmp total xs sorted apart. Rises-from_sort total xs sorted apart;
  same = λ cmp total xs ys xs-up ys-up both. same_members total xs ys xs-up ys-up both;
}
