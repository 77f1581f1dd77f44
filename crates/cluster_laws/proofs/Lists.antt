-- Lists with one member in the middle.
use Rattle.std.proofs.Common.{◌≡◌, ap, List, [], ◌∷◌, ◌++◌, map}
use Rattle.std.specs.List.{AllByRecursion}
use Rattle.meaning_laws.proofs.Lists.{All-map, Pairwise}

module _ {A : Type 0} (P : A → Type 0) where
  pub all-middle : (front : List A) (x : A) (back : List A) → AllByRecursion P (front ++ x ∷ back) → P x
  all-middle [] x back all = all.0
  all-middle (y ∷ front) x back all = all-middle front x back all.1

  -- another member in its place
  pub all-instead : (front : List A) (x y : A) (back : List A) → P y → AllByRecursion P (front ++ x ∷ back) → AllByRecursion P (front ++ y ∷ back)
  all-instead [] x y back h all = (h, all.1)
  all-instead (z ∷ front) x y back h all = (all.0, all-instead front x y back h all.1)

  -- the list without that member, and with one more
  pub all-without : (front : List A) (x : A) (back : List A) → AllByRecursion P (front ++ x ∷ back) → AllByRecursion P (front ++ back)
  all-without [] x back all = all.1
  all-without (y ∷ front) x back all = (all.0, all-without front x back all.1)

  pub all-with : (front : List A) (x : A) (back : List A) → P x → AllByRecursion P (front ++ back) → AllByRecursion P (front ++ x ∷ back)
  all-with [] x back h all = (h, all)
  all-with (y ∷ front) x back h all = (all.0, all-with front x back h all.1)

  -- the members before a place, and those from it on
  pub all-before : (front back : List A) → AllByRecursion P (front ++ back) → AllByRecursion P front
  all-before [] back all = tt
  all-before (x ∷ front) back all = (all.0, all-before front back all.1)

  pub all-after : (front back : List A) → AllByRecursion P (front ++ back) → AllByRecursion P back
  all-after [] back all = all
  all-after (x ∷ front) back all = all-after front back all.1

pub map-instead : {A B : Type 0} (f : A → B) (front : List A) (x y : A) (back : List A) → f y ≡ f x → map f (front ++ y ∷ back) ≡ map f (front ++ x ∷ back)
map-instead f [] x y back same = ap (λ z. z ∷ map f back) same
map-instead f (z ∷ front) x y back same = ap (λ zs. f z ∷ zs) (map-instead f front x y back same)

pub all-mapped : {A B : Type 0} (P : B → Type 0) (f : A → B) (xs : List A) → AllByRecursion P (map f xs) → AllByRecursion (λ x. P (f x)) xs
all-mapped P f [] all = tt
all-mapped P f (x ∷ xs) all = (all.0, all-mapped P f xs all.1)

-- ---- pairs

module _ {A : Type 0} (R : A → A → Type 0) where
  pub pairs-before : (front : List A) (x : A) (back : List A) → Pairwise R (front ++ x ∷ back) → AllByRecursion (λ y. R y x) front
  pairs-before [] x back pairs = tt
  pairs-before (y ∷ front) x back pairs = (all-middle (R y) front x back pairs.0, pairs-before front x back pairs.1)

  pub pairs-after : (front : List A) (x : A) (back : List A) → Pairwise R (front ++ x ∷ back) → AllByRecursion (R x) back
  pairs-after [] x back pairs = pairs.0
  pairs-after (y ∷ front) x back pairs = pairs-after front x back pairs.1

module _ {A B : Type 0} (R : B → B → Type 0) (f : A → B) where
  -- pairs of the list without one member, and with one more
  pub pairs-without : (front : List A) (x : A) (back : List A) → Pairwise R (map f (front ++ x ∷ back)) → Pairwise R (map f (front ++ back))
  pairs-without [] x back pairs = pairs.1
  pairs-without (y ∷ front) x back pairs = (
    All-map (R (f y)) f (front ++ back) (all-without (λ z. R (f y) (f z)) front x back (all-mapped (R (f y)) f (front ++ x ∷ back) pairs.0)),
    pairs-without front x back pairs.1,
  )

  pub pairs-with : (front : List A) (x : A) (back : List A) → AllByRecursion (λ y. R (f y) (f x)) front → AllByRecursion (λ y. R (f x) (f y)) back →
      Pairwise R (map f (front ++ back)) → Pairwise R (map f (front ++ x ∷ back))
  pairs-with [] x back before after pairs = (All-map (R (f x)) f back after, pairs)
  pairs-with (y ∷ front) x back before after pairs = (
    All-map (R (f y)) f (front ++ x ∷ back) (all-with (λ z. R (f y) (f z)) front x back before.0 (all-mapped (R (f y)) f (front ++ back) pairs.0)),
    pairs-with front x back before.1 after pairs.1,
  )
