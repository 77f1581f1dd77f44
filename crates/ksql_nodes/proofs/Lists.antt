-- Lists, whatever is in them.
use Rattle.std.proofs.Common.{◌≡◌, ◌∙◌, ap, ap₂, refl, sym, List, [], ◌∷◌, ◌++◌, Bool, true, false, cond, true≢false}
use Rattle.std.specs.Prelude.{filter}
use Rattle.std.specs.List.{AllByRecursion}

pub All-append : {A : Type 0} (P : A → Type 0) (xs ys : List A) → AllByRecursion P xs → AllByRecursion P ys → AllByRecursion P (xs ++ ys)
All-append P [] ys hx hy = hy
All-append P (x ∷ xs) ys hx hy = (hx.0, All-append P xs ys hx.1 hy)

-- a filter after one that keeps all that it keeps
pub filter-within : {A : Type 0} (q p : A → Bool) → ((x : A) → q x ≡ true → p x ≡ true) → (xs : List A) → filter q (filter p xs) ≡ filter q xs
filter-within q p within [] = refl
filter-within {A} q p within (x ∷ xs) = by (q x) (p x) refl refl (within x) (filter-within q p within xs)
  where
    by : (b d : Bool) → q x ≡ b → p x ≡ d → (q x ≡ true → p x ≡ true) → filter q (filter p xs) ≡ filter q xs →
        filter q (cond (p x) (x ∷ filter p xs) (filter p xs)) ≡ cond (q x) (x ∷ filter q xs) (filter q xs)
    by true true eq ep h ih =
        ap (λ d. filter q (cond d (x ∷ filter p xs) (filter p xs))) ep
        ∙ ap₂ (λ b rest. cond b (x ∷ rest) rest) eq ih ∙ sym (ap (λ b. cond b (x ∷ filter q xs) (filter q xs)) eq)
    by true false eq ep h ih = absurd (true≢false (sym (h eq) ∙ ep))
    by false d eq ep h ih = by_p d ep
      where
        by_p : (d : Bool) → p x ≡ d → filter q (cond (p x) (x ∷ filter p xs) (filter p xs)) ≡ cond (q x) (x ∷ filter q xs) (filter q xs)
        by_p true e = ap (λ d. filter q (cond d (x ∷ filter p xs) (filter p xs))) e ∙ ap₂ (λ b rest. cond b (x ∷ rest) rest) eq ih ∙ sym (ap (λ b. cond b (x ∷ filter q xs) (filter q xs)) eq)
        by_p false e = ap (λ d. filter q (cond d (x ∷ filter p xs) (filter p xs))) e ∙ ih ∙ sym (ap (λ b. cond b (x ∷ filter q xs) (filter q xs)) eq)
