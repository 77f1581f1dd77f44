-- Members of lists, and lists cut at a feed.
use mathlib.Core.Logic.{inl, inr}
use Rattle.std.specs.Prelude.{filter, map, nat_le, nat_lt, All, Contains, ◌==◌}
use Rattle.std.proofs.Common.{◌≡◌, ◌∙◌, ap, ap₂, refl, subst, ℕ, suc, List, [], ◌∷◌, ◌++◌, ◌<◌, ◌≤◌, arith, Bool, true, false, length, ◌⊎◌, Some, None}
use Rattle.std.proofs.lemmas.Bool.Decides.{nat_tests}
use Rattle.std.proofs.lemmas.List.{append-nil}
use Rattle.std.proofs.lemmas.List.Elements.{All-head, All-tail, All-cons, All-nil, All-weaker, filter-append}
use Rattle.ksql_types.specs.declared.relation.TaskName.{TaskName}
use Rattle.ksql_place.specs.declared.change.Change.{Change}
use Rattle.core_state.specs.State.{feed_of, upto, after, least, lowest}

pub nat_which : (a b : ℕ) → (a ≡ b) ⊎ ¬ (a ≡ b)
nat_which a b = by (a == b) refl
  where
    by : (c : Bool) → (a == b) ≡ c → (a ≡ b) ⊎ ¬ (a ≡ b)
    by true is = inl (grind (arith, nat_tests))
    by false is = inr (λ e. grind (arith, nat_tests))

pub which : (u t : TaskName) → (u ≡ t) ⊎ ¬ (u ≡ t)
which u t = subs (nat_which u.sub t.sub)
  where
    parts : u.sub ≡ t.sub → (u.part ≡ t.part) ⊎ ¬ (u.part ≡ t.part) → (u ≡ t) ⊎ ¬ (u ≡ t)
    parts e (inl f) = inl (λ i. record { sub = e i; part = f i })
    parts e (inr n) = inr (λ same. n (ap (λ (v : TaskName). v.part) same))

    subs : (u.sub ≡ t.sub) ⊎ ¬ (u.sub ≡ t.sub) → (u ≡ t) ⊎ ¬ (u ≡ t)
    subs (inl e) = parts e (nat_which u.part t.part)
    subs (inr n) = inr (λ same. n (ap (λ (v : TaskName). v.sub) same))

module _ {A : Type 0} where
  pub some_same : (a b : A) → Some a ≡ Some b → a ≡ b
  some_same a b e = cc

  pub none_some : (a : A) → None ≡ Some a → ⊥
  none_some a e = cc

  pub Contains-here : (x : A) (xs : List A) → Contains (x ∷ xs) x
  Contains-here x xs = (0, omega arith, refl)

  pub Contains-next : (x y : A) (xs : List A) → Contains xs y → Contains (x ∷ xs) y
  Contains-next x y xs at = (suc at.0, omega arith, at.2)

  pub not_empty : (x : A) (xs : List A) → Contains xs x → ¬ (xs ≡ [])
  not_empty x xs at none = absurd (omega (arith, at.1, ap length none))

  pub map-members : {B : Type 0} (f g : A → B) (xs : List A) → ((x : A) → Contains xs x → f x ≡ g x) → map f xs ≡ map g xs
  map-members f g [] h = refl
  map-members f g (x ∷ xs) h = ap₂ (λ b bs. b ∷ bs) (h x (Contains-here x xs)) (map-members f g xs (λ y at. h y (Contains-next x y xs at)))

  pub filter-all : (f : A → Bool) (xs : List A) → All (λ x. f x ≡ true) xs → filter f xs ≡ xs
  filter-all f [] h = refl
  filter-all f (x ∷ xs) h = rw (All-head (λ x. f x ≡ true) x xs h) (ap (λ l. x ∷ l) (filter-all f xs (All-tail (λ x. f x ≡ true) x xs h)))

  pub filter-none : (f : A → Bool) (xs : List A) → All (λ x. f x ≡ false) xs → filter f xs ≡ []
  filter-none f [] h = refl
  filter-none f (x ∷ xs) h = rw (All-head (λ x. f x ≡ false) x xs h) (filter-none f xs (All-tail (λ x. f x ≡ false) x xs h))

  -- without a member in the middle
  pub All-without : (P : A → Type 0) (us vs : List A) (x : A) → All P (us ++ x ∷ vs) → All P (us ++ vs)
  All-without P [] vs x h = All-tail P x vs h
  All-without P (u ∷ us) vs x h = All-cons P u (us ++ vs) (All-head P u (us ++ x ∷ vs) h) (All-without P us vs x (All-tail P u (us ++ x ∷ vs) h))

  pub All-middle : (P : A → Type 0) (us vs : List A) (x : A) → All P (us ++ x ∷ vs) → P x
  All-middle P [] vs x h = All-head P x vs h
  All-middle P (u ∷ us) vs x h = All-middle P us vs x (All-tail P u (us ++ x ∷ vs) h)

  -- ---- the least of some numbers
  least-head : (f : A → ℕ) (x : A) (xs : List A) → least f x xs ≤ f x
  least-head f x [] = omega arith
  least-head f x (y ∷ ys) = omega arith

  least-all : (f : A → ℕ) (x : A) (xs : List A) → All (λ y. least f x xs ≤ f y) (x ∷ xs)
  least-all f x [] = All-cons (λ y. least f x [] ≤ f y) x [] (least-head f x []) (All-nil (λ y. least f x [] ≤ f y))
  least-all f x (y ∷ ys) =
      All-cons (λ z. least f x (y ∷ ys) ≤ f z) x (y ∷ ys) (least-head f x (y ∷ ys))
      (All-weaker (λ z. least f y ys ≤ f z) (λ z. least f x (y ∷ ys) ≤ f z) (λ z h. omega (arith, h)) (y ∷ ys) (least-all f y ys))

  pub lowest-le : (n : ℕ) (f : A → ℕ) (xs : List A) (x : A) → Contains xs x → lowest n f xs ≤ f x
  lowest-le n f [] x at = absurd (omega (arith, at.1))
  lowest-le n f (y ∷ ys) x at = subst (λ (z : A). least f y ys ≤ f z) at.2 (least-all f y ys at.0 x at.1)

  pub lowest-below : (n m : ℕ) (f : A → ℕ) (xs : List A) → n ≤ m → ((x : A) → Contains xs x → f x ≤ m) → lowest n f xs ≤ m
  lowest-below n m f [] low h = low
  lowest-below n m f (x ∷ xs) low h =
      let first : f x ≤ m = h x (Contains-here x xs) in
      let head : least f x xs ≤ f x = least-head f x xs in
      omega (arith, first, head)

  pub lowest-up : (n m : ℕ) (f g : A → ℕ) (xs : List A) → n ≤ m → ((x : A) → Contains xs x → f x ≤ g x) → lowest n f xs ≤ lowest m g xs
  lowest-up n m f g [] low h = low
  lowest-up n m f g (x ∷ xs) low h = more x xs h
    where
      more : (x : A) (xs : List A) → ((y : A) → Contains (x ∷ xs) y → f y ≤ g y) → least f x xs ≤ least g x xs
      more x [] h = h x (Contains-here x [])
      more x (y ∷ ys) h =
          let first : f x ≤ g x = h x (Contains-here x (y ∷ ys)) in
          let rest : least f y ys ≤ least g y ys = more y ys (λ z at. h z (Contains-next x z (y ∷ ys) at)) in
          omega (arith, first, rest)

  pub lowest-same : (n m : ℕ) (f g : A → ℕ) (xs : List A) → n ≡ m → ((x : A) → Contains xs x → f x ≡ g x) → lowest n f xs ≡ lowest m g xs
  lowest-same n m f g [] e h = e
  lowest-same n m f g (x ∷ xs) e h = more x xs h
    where
      more : (x : A) (xs : List A) → ((y : A) → Contains (x ∷ xs) y → f y ≡ g y) → least f x xs ≡ least g x xs
      more x [] h = h x (Contains-here x [])
      more x (y ∷ ys) h = rw (h x (Contains-here x (y ∷ ys)), more y ys (λ z at. h z (Contains-next x z (y ∷ ys) at))) refl

  -- of some members the default doesn't matter
  pub lowest-of_some : (n m : ℕ) (f g : A → ℕ) (xs : List A) → ¬ (xs ≡ []) → ((x : A) → Contains xs x → f x ≡ g x) → lowest n f xs ≡ lowest m g xs
  lowest-of_some n m f g [] some h = absurd (some refl)
  lowest-of_some n m f g (x ∷ xs) some h = lowest-same n n f g (x ∷ xs) refl h

-- ---- lists cut at a feed

test-le : (a b : ℕ) → a ≤ b → nat_le a b ≡ true
test-le a b h = grind (arith, nat_tests)

test-not_le : (a b : ℕ) → b < a → nat_le a b ≡ false
test-not_le a b h = grind (arith, nat_tests)

test-lt : (a b : ℕ) → a < b → nat_lt a b ≡ true
test-lt a b h = grind (arith, nat_tests)

test-not_lt : (a b : ℕ) → b ≤ a → nat_lt a b ≡ false
test-not_lt a b h = grind (arith, nat_tests)

pub upto-parts : (c : ℕ) (xs ys : List Change) → All (λ x. feed_of x ≤ c) xs → All (λ x. c < feed_of x) ys → upto c (xs ++ ys) ≡ xs
upto-parts c xs ys low high =
    filter-append (λ x. nat_le (feed_of x) c) xs ys
    ∙ ap₂ (λ us vs. us ++ vs)
    (filter-all (λ x. nat_le (feed_of x) c) xs (All-weaker (λ x. feed_of x ≤ c) (λ x. nat_le (feed_of x) c ≡ true) (λ x h. test-le (feed_of x) c h) xs low))
    (filter-none (λ x. nat_le (feed_of x) c) ys (All-weaker (λ x. c < feed_of x) (λ x. nat_le (feed_of x) c ≡ false) (λ x h. test-not_le (feed_of x) c h) ys high))
    ∙ append-nil xs

pub after-parts : (c : ℕ) (xs ys : List Change) → All (λ x. feed_of x ≤ c) xs → All (λ x. c < feed_of x) ys → after c (xs ++ ys) ≡ ys
after-parts c xs ys low high =
    filter-append (λ x. nat_lt c (feed_of x)) xs ys
    ∙ ap₂ (λ us vs. us ++ vs)
    (filter-none (λ x. nat_lt c (feed_of x)) xs (All-weaker (λ x. feed_of x ≤ c) (λ x. nat_lt c (feed_of x) ≡ false) (λ x h. test-not_lt c (feed_of x) h) xs low))
    (filter-all (λ x. nat_lt c (feed_of x)) ys (All-weaker (λ x. c < feed_of x) (λ x. nat_lt c (feed_of x) ≡ true) (λ x h. test-lt c (feed_of x) h) ys high))
