-- The orders of stamps and places are total.
use Rattle.std.proofs.Common.{◌≡◌, ◌∙◌, ap, ap₂, sym, refl, ℕ, List, [], ◌∷◌, true, arith}
use Rattle.std.specs.declared.cmp.Ordering.{Ordering}
use Rattle.std.specs.declared.cmp.Ordering.TheVariants.{Less, Equal, Greater}
use Rattle.std.specs.Ordering.{nat_cmp, ordering_then, is_eq}
use Rattle.std.specs.Cmp.{IsTotalOrder, Equal-is}
use Rattle.std.specs.Cmp.Lexicographic.{slice_cmp}
use Rattle.std.proofs.lemmas.Bool.Decides.{nat_tests}
use Rattle.std.proofs.lemmas.Cmp.{then_total, on_total, nat_cmp_total, nat_list_cmp_total, tied_itself}
use Rattle.ksql_place.specs.declared.change.SourceRecord.{SourceRecord}
use Rattle.ksql_place.specs.declared.stamp.Place.{Place}
use Rattle.ksql_place.specs.declared.stamp.Stamp.{Stamp}
use Rattle.ksql_place.specs.Order.{stamp_cmp, record_cmp, place_cmp, between_cmp}

pub stamp_total : IsTotalOrder stamp_cmp
stamp_total =
    then_total (on_total (λ (s : Stamp). s.feed) nat_cmp_total)
    (then_total (on_total (λ (s : Stamp). s.high) nat_cmp_total)
    (then_total (on_total (λ (s : Stamp). s.topic) nat_cmp_total)
    (then_total (on_total (λ (s : Stamp). s.part) nat_cmp_total) (on_total (λ (s : Stamp). s.offset) nat_cmp_total))))

pub record_total : IsTotalOrder record_cmp
record_total = on_total (λ (r : SourceRecord). r.stamp) stamp_total

then-equal : (o p : Ordering) → ordering_then o p ≡ Equal → (o ≡ Equal) × (p ≡ Equal)
then-equal Less p h = absurd (cc (h))
then-equal Equal p h = (refl, h)
then-equal Greater p h = absurd (cc (h))

nat_cmp-equal : (a b : ℕ) → nat_cmp a b ≡ Equal → a ≡ b
nat_cmp-equal a b h = grind (arith, nat_tests)

-- stamps that tie are the same
pub stamp_cmp-equal : (a b : Stamp) → stamp_cmp a b ≡ Equal → a ≡ b
stamp_cmp-equal a b h =
    let feed = then-equal (nat_cmp a.feed b.feed) _ h in
    let high = then-equal (nat_cmp a.high b.high) _ feed.1 in
    let topic = then-equal (nat_cmp a.topic b.topic) _ high.1 in
    let part = then-equal (nat_cmp a.part b.part) _ topic.1 in
    λ i. record {
      feed = nat_cmp-equal a.feed b.feed feed.0 i;
      high = nat_cmp-equal a.high b.high high.0 i;
      topic = nat_cmp-equal a.topic b.topic topic.0 i;
      part = nat_cmp-equal a.part b.part part.0 i;
      offset = nat_cmp-equal a.offset b.offset part.1 i;
    }

pub stamps-tied : (a b : Stamp) → is_eq (stamp_cmp a b) ≡ true → a ≡ b
stamps-tied a b is = stamp_cmp-equal a b ((Equal-is (stamp_cmp a b)).0 is)

slice_cmp-equal : (xs ys : List ℕ) → slice_cmp nat_cmp xs ys ≡ Equal → xs ≡ ys
slice_cmp-equal [] [] h = refl
slice_cmp-equal [] (y ∷ ys) h = absurd (cc (h))
slice_cmp-equal (x ∷ xs) [] h = absurd (cc (h))
slice_cmp-equal (x ∷ xs) (y ∷ ys) h =
    let parts = then-equal (nat_cmp x y) (slice_cmp nat_cmp xs ys) h in
    ap₂ (λ (n : ℕ) (ns : List ℕ). n ∷ ns) (nat_cmp-equal x y parts.0) (slice_cmp-equal xs ys parts.1)

pub place_total : IsTotalOrder place_cmp
place_total = then_total (on_total (λ (p : Place). p.stamp) stamp_total) (on_total (λ (p : Place). p.path) nat_list_cmp_total)

pub place_cmp-equal : (a b : Place) → place_cmp a b ≡ Equal → a ≡ b
place_cmp-equal a b h =
    let parts = then-equal _ (slice_cmp nat_cmp a.path b.path) h in
    λ i. record { stamp = stamp_cmp-equal a.stamp b.stamp parts.0 i; path = slice_cmp-equal a.path b.path parts.1 i }

pub place_cmp-same : (a b : Place) → a ≡ b → place_cmp a b ≡ Equal
place_cmp-same a b same = ap (place_cmp a) (sym same) ∙ tied_itself place_total a

-- the order of places with the numbers of their relations
abbrev numbered_cmp : (a b : Place × ℕ) → Ordering
numbered_cmp a b = between_cmp a.0 a.1 b.0 b.1

pub between_total : IsTotalOrder numbered_cmp
between_total =
    then_total (on_total (λ (p : Place × ℕ). p.0.stamp) stamp_total)
    (then_total (on_total (λ (p : Place × ℕ). p.1) nat_cmp_total) (on_total (λ (p : Place × ℕ). p.0.path) nat_list_cmp_total))

pub between_cmp-equal : (a b : Place) (ra rb : ℕ) → between_cmp a ra b rb ≡ Equal → (a ≡ b) × (ra ≡ rb)
between_cmp-equal a b ra rb h =
    let parts = then-equal _ (ordering_then (nat_cmp ra rb) (slice_cmp nat_cmp a.path b.path)) h in
    let rest = then-equal (nat_cmp ra rb) (slice_cmp nat_cmp a.path b.path) parts.1 in
    (λ i. record { stamp = stamp_cmp-equal a.stamp b.stamp parts.0 i; path = slice_cmp-equal a.path b.path rest.1 i }, nat_cmp-equal ra rb rest.0)

pub between_cmp-same : (a b : Place) (ra rb : ℕ) → (a ≡ b) × (ra ≡ rb) → between_cmp a ra b rb ≡ Equal
between_cmp-same a b ra rb same = ap₂ (λ (p : Place) (n : ℕ). between_cmp a ra p n) (sym same.0) (sym same.1) ∙ tied_itself between_total (a, ra)
