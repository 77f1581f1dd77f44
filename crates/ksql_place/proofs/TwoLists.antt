-- Two lists that rise are equal by their members; the order of a map; a list cut in two.
use Rattle.std.proofs.Common.{◌≡◌, ◌∙◌, ap, ap₂, sym, refl, subst, zero, suc, List, [], ◌∷◌, ◌++◌, Bool, true, false, cond, map, get_or, arith, inl, inr, ◌⊎◌}
use Rattle.std.specs.Prelude.{filter, not, if◌then◌else◌, ◌↔◌}
use Rattle.std.specs.List.{Contains, AllByRecursion, AllPairs}
use Rattle.std.specs.List.Sorted.{IsSorted}
use Rattle.std.specs.declared.cmp.Ordering.TheVariants.{Less, Equal, Greater}
use Rattle.std.specs.declared.cmp.Ordering.{Ordering}
use Rattle.std.specs.Ordering.{is_gt, is_lt, on, ordering_reverse}
use Rattle.std.specs.Cmp.{IsTotalOrder}
use Rattle.std.proofs.lemmas.Bool.{false≢true}
use Rattle.std.proofs.lemmas.Cmp.{tied_itself}
use Rattle.std.proofs.lemmas.List.Elements.{recursion_from_All, All-from_recursion, All-contains}
use Rattle.std.proofs.lemmas.List.Sorted.{ranks_by, sorted_far}
use Rattle.ksql_place.specs.Ascending.{placed, ascending, Rises, PassesFirst}

-- the order of a map is the map of the order
pub map-ascending : {A B : Type 0} (cmp : B → B → Ordering) (f : A → B) (xs : List A) → map f (ascending (on f cmp) xs) ≡ ascending cmp (map f xs)
map-ascending cmp f [] = refl
map-ascending {A} {B} cmp f (x ∷ xs) = map-placed x (ascending (on f cmp) xs) ∙ ap (placed cmp (f x)) (map-ascending cmp f xs)
  where
    map-placed : (a : A) (bs : List A) → map f (placed (on f cmp) a bs) ≡ placed cmp (f a) (map f bs)
    map-placed a [] = refl
    map-placed a (b ∷ bs) = by (is_gt (cmp (f a) (f b))) (map-placed a bs)
      where
        by : (up : Bool) → map f (placed (on f cmp) a bs) ≡ placed cmp (f a) (map f bs) →
            map f (if up then b ∷ placed (on f cmp) a bs else a ∷ b ∷ bs) ≡ (if up then f b ∷ placed cmp (f a) (map f bs) else f a ∷ f b ∷ map f bs)
        by true rest = ap (λ (cs : List B). f b ∷ cs) rest
        by false rest = refl

module _ {A : Type 0} (p : A → Bool) where
  none-pass : (a : A) (bs : List A) → p a ≡ false → AllByRecursion (λ later. p later ≡ true → p a ≡ true) bs → AllByRecursion (λ later. p later ≡ false) bs
  none-pass a [] gone first = tt
  none-pass a (b ∷ bs) gone first = (by (p b) refl, none-pass a bs gone first.1)
    where
      by : (t : Bool) → p b ≡ t → p b ≡ false
      by true is = absurd (false≢true (sym gone ∙ first.0 is))
      by false is = is

  filter-none : (bs : List A) → AllByRecursion (λ b. p b ≡ false) bs → filter p bs ≡ []
  filter-none [] gone = refl
  filter-none (b ∷ bs) gone = ap₂ (λ (t : Bool) (us : List A). cond t (b ∷ us) us) gone.0 (filter-none bs gone.1)

  filter-not : (bs : List A) → AllByRecursion (λ b. p b ≡ false) bs → filter (λ x. not (p x)) bs ≡ bs
  filter-not [] gone = refl
  filter-not (b ∷ bs) gone = ap₂ (λ (t : Bool) (us : List A). cond (not t) (b ∷ us) us) gone.0 (filter-not bs gone.1)

  -- a list whose passing members come first is these and then the others
  pub cut : (xs : List A) → PassesFirst p xs → xs ≡ filter p xs ++ filter (λ x. not (p x)) xs
  cut [] first = refl
  cut (a ∷ bs) first = by (p a) refl (cut bs first.1)
    where
      by : (t : Bool) → p a ≡ t → bs ≡ filter p bs ++ filter (λ x. not (p x)) bs →
          a ∷ bs ≡ cond t (a ∷ filter p bs) (filter p bs) ++ cond (not t) (a ∷ filter (λ x. not (p x)) bs) (filter (λ x. not (p x)) bs)
      by true is rest = ap (λ (us : List A). a ∷ us) rest
      by false is rest =
          let gone = none-pass a bs is first.0 in
          sym (ap₂ (λ (us vs : List A). us ++ a ∷ vs) (filter-none bs gone) (filter-not bs gone))

-- this is below each member
abbrev BelowAll : {A : Type 0} → (A → A → Ordering) → A → List A → Type 0
BelowAll cmp a bs = AllByRecursion (λ b. cmp a b ≡ Less) bs

-- each member is below all those after it, by recursion
abbrev Climbs : {A : Type 0} → (A → A → Ordering) → List A → Type 0
Climbs cmp [] = Unit {0}
Climbs cmp (b ∷ bs) = BelowAll cmp b bs × Climbs cmp bs

Climbs-from_rises : {A : Type 0} (cmp : A → A → Ordering) (bs : List A) → Rises cmp bs → Climbs cmp bs
Climbs-from_rises cmp [] up = tt
Climbs-from_rises cmp (b ∷ bs) up = (
  recursion_from_All (λ c. cmp b c ≡ Less) bs (λ i d below. up 0 (suc i) d (omega arith) (omega (arith, below))),
  Climbs-from_rises cmp bs (λ i j d low below. up (suc i) (suc j) d (omega (arith, low)) (omega (arith, below))),
)

less-from_far : (o p : Ordering) → o ≡ ordering_reverse p → is_lt p ≡ false → (o ≡ Equal → ⊥) → o ≡ Less
less-from_far o Less turned far apart = absurd (false≢true (sym far))
less-from_far o Equal turned far apart = absurd (apart turned)
less-from_far o Greater turned far apart = turned

module _ {A : Type 0} {cmp : A → A → Ordering} (total : IsTotalOrder cmp) where
  -- a list that ascends without ties rises
  pub Rises-from_sort : (bs : List A) → IsSorted cmp bs → AllPairs (λ a b. cmp a b ≡ Equal → ⊥) bs → Rises cmp bs
  Rises-from_sort bs sorted apart =
      let far = sorted_far (λ a b. is_lt (cmp a b)) (ranks_by total (λ a. a)) bs sorted in
      λ i j d low below. less-from_far (cmp (get_or bs i d) (get_or bs j d)) (cmp (get_or bs j d) (get_or bs i d)) (total.antisymm (get_or bs i d) (get_or bs j d)) (far i j d (omega (arith, low)) below) (apart i j d low below)

  Contains-cases : (b x : A) (bs : List A) → Contains (b ∷ bs) x → (b ≡ x) ⊎ Contains bs x
  Contains-cases b x bs (zero, below, at) = inl at
  Contains-cases b x bs (suc i, below, at) = inr (i, omega (arith, below), at)

  Contains-after : (b x : A) (bs : List A) → Contains bs x → Contains (b ∷ bs) x
  Contains-after b x bs among = (suc among.0, omega (arith, among.1), among.2)

  Contains-first : (b : A) (bs : List A) → Contains (b ∷ bs) b
  Contains-first b bs = (0, omega arith, refl)

  below-member : (s x : A) (bs : List A) → BelowAll cmp s bs → Contains bs x → cmp s x ≡ Less
  below-member s x bs below among = All-contains (λ b. cmp s b ≡ Less) bs x (All-from_recursion (λ b. cmp s b ≡ Less) bs below) among

  not-below-itself : (s : A) → cmp s s ≡ Less → ⊥
  not-below-itself s less = cc (sym less ∙ tied_itself total s)

  nothing-among : (x : A) → Contains [] x → ⊥
  nothing-among x among = omega (arith, among.1)

  same-heads : (u v : A) (us vs : List A) → BelowAll cmp u us → BelowAll cmp v vs → Contains (v ∷ vs) u → Contains (u ∷ us) v → u ≡ v
  same-heads u v us vs us-up vs-up u-among v-among = by (Contains-cases v u vs u-among) (Contains-cases u v us v-among)
    where
      by : (v ≡ u) ⊎ Contains vs u → (u ≡ v) ⊎ Contains us v → u ≡ v
      by (inl same) other = sym same
      by (inr after) (inl same) = same
      by (inr after) (inr other) = absurd (not-below-itself v (total.trans v u v (below-member v u vs vs-up after) (below-member u v us us-up other)))

  rest-among : (u x : A) (us vs : List A) → BelowAll cmp u us → Contains us x → Contains (u ∷ vs) x → Contains vs x
  rest-among u x us vs up among both = by (Contains-cases u x vs both)
    where
      by : (u ≡ x) ⊎ Contains vs x → Contains vs x
      by (inl same) = absurd (not-below-itself u (ap (cmp u) same ∙ below-member u x us up among))
      by (inr after) = after

  same-climbing : (us vs : List A) → Climbs cmp us → Climbs cmp vs → ((x : A) → Contains us x ↔ Contains vs x) → us ≡ vs
  same-climbing [] [] us-up vs-up same = refl
  same-climbing [] (v ∷ vs) us-up vs-up same = absurd (nothing-among v ((same v).1 (Contains-first v vs)))
  same-climbing (u ∷ us) [] us-up vs-up same = absurd (nothing-among u ((same u).0 (Contains-first u us)))
  same-climbing (u ∷ us) (v ∷ vs) us-up vs-up same =
      let heads : u ≡ v = same-heads u v us vs us-up.0 vs-up.0 ((same u).0 (Contains-first u us)) ((same v).1 (Contains-first v vs)) in
      ap₂ (λ (a : A) (bs : List A). a ∷ bs) heads
      (same-climbing us vs us-up.1 vs-up.1
      (λ x. (
        λ among. rest-among u x us vs us-up.0 among (subst (λ (a : A). Contains (a ∷ vs) x) (sym heads) ((same x).0 (Contains-after u x us among))),
        λ among. rest-among v x vs us vs-up.0 among (subst (λ (a : A). Contains (a ∷ us) x) heads ((same x).1 (Contains-after v x vs among))),
      )))

  -- two lists that rise are equal if they have the same members
  pub same_members : (us vs : List A) → Rises cmp us → Rises cmp vs → ((x : A) → Contains us x ↔ Contains vs x) → us ≡ vs
  same_members us vs us-up vs-up same = same-climbing us vs (Climbs-from_rises cmp us us-up) (Climbs-from_rises cmp vs vs-up) same
