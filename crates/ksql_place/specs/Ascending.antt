-- Lists in the order of a comparison.
use Rattle.std.specs.Prelude.{◌≡◌, Bool, true, List, [], ◌∷◌, if◌then◌else◌}
use Rattle.std.specs.List.{AllByRecursion, AllPairs}
use Rattle.std.specs.declared.cmp.Ordering.{Ordering}
use Rattle.std.specs.declared.cmp.Ordering.TheVariants.{Less}
use Rattle.std.specs.Ordering.{is_gt}

-- a member inserted among members that ascend, before those that tie with it
abbrev pub placed : {A : Type 0} → (A → A → Ordering) → A → List A → List A
placed cmp a [] = a ∷ []
placed cmp a (b ∷ bs) = if is_gt (cmp a b) then b ∷ placed cmp a bs else a ∷ b ∷ bs

-- the members sorted; those that tie keep their order
abbrev pub ascending : {A : Type 0} → (A → A → Ordering) → List A → List A
ascending cmp [] = []
ascending cmp (a ∷ bs) = placed cmp a (ascending cmp bs)

-- each member is below all later ones
abbrev pub Rises : {A : Type 0} → (A → A → Ordering) → List A → Type 0
Rises cmp xs = AllPairs (λ a b. cmp a b ≡ Less) xs

-- the members that pass a test come before those that don't
abbrev pub PassesFirst : {A : Type 0} → (A → Bool) → List A → Type 0
PassesFirst p [] = Unit {0}
PassesFirst p (a ∷ bs) = AllByRecursion (λ later. p later ≡ true → p a ≡ true) bs × PassesFirst p bs
