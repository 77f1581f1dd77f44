-- Lists that change at one place.
use Rattle.std.proofs.Common.{◌≡◌, ◌≢◌, ◌⊎◌, ℕ, zero, suc, ◌+◌, ◌<◌, ◌≤◌, List, [], ◌∷◌, ◌++◌, length, map, get_or, set, take, sym, refl, subst, inl, inr, arith}
use Rattle.std.specs.Prelude.{IfSome, Option, slice_get}
use Rattle.std.proofs.lemmas.Bool.{cases_eq}
use Rattle.std.proofs.lemmas.List.{get_or-set_same, get_or-set_other, get_or_append_left, get_or_push, length-set, length_push, length-take-le, take_more_set, take_all}
use Rattle.std.proofs.lemmas.Option.{slice_get_past, slice_get_read}
use Rattle.topic_log.specs.Views.{EachAt}
use Rattle.topic_log.proofs.OneTopic.{map-set_same, slice_get-set_same}

module _ {A : Type 0} where
  -- f says the same of what is written as of what was read there
  pub map-written : {B : Type 0} (f : A → B) (xs : List A) (i : ℕ) (x y : A) → i < length xs → x ≡ get_or xs i x → f y ≡ f x → map f (set xs i y) ≡ map f xs
  map-written f xs i x y inside is same = map-set_same f xs i x y (slice_get_read xs (length xs) i x refl inside is) same

  -- what was written is there
  pub IfSome-written : (P : A → Type 0) (xs : List A) (i : ℕ) (x y : A) → i < length xs → x ≡ get_or xs i x → P y → IfSome (slice_get (set xs i y) i) P
  IfSome-written P xs i x y inside is p =
      subst (λ (o : Option A). IfSome o P) (sym (slice_get-set_same xs i x y (slice_get_read xs (length xs) i x refl inside is))) p

  -- what was read is there
  pub IfSome-read : (P : A → Type 0) (xs : List A) (i : ℕ) (x : A) → i < length xs → x ≡ get_or xs i x → P x → IfSome (slice_get xs i) P
  IfSome-read P xs i x inside is p = subst (λ (o : Option A). IfSome o P) (sym (slice_get_read xs (length xs) i x refl inside is)) p

  -- there is nothing past the end
  pub IfSome-past : (P : A → Type 0) (xs : List A) (i : ℕ) → length xs ≤ i → IfSome (slice_get xs i) P
  IfSome-past P xs i past = subst (λ (o : Option A). IfSome o P) (sym (slice_get_past xs i past)) tt

  -- one member is written, and of the others something else is known
  pub EachAt-written : (P Q : ℕ → A → Type 0) (xs : List A) (i : ℕ) (y : A) → i < length xs → ((k : ℕ) (x : A) → k ≢ i → P k x → Q k x) → Q i y → EachAt P xs → EachAt Q (set xs i y)
  EachAt-written P Q xs i y inside else here each k d below =
      let within : k < length xs = subst (λ (n : ℕ). k < n) (length-set xs i y) below in
      let by : (k ≡ i) ⊎ (k ≢ i) → Q k (get_or (set xs i y) k d) =
      λ c. elim c as (λ _. Q k (get_or (set xs i y) k d)) [
        | inl e ↦ subst (λ (n : ℕ). Q n (get_or (set xs i y) n d)) (sym e) (subst (Q i) (sym (get_or-set_same xs i y d inside)) here)
        | inr apart ↦ subst (Q k) (sym (get_or-set_other xs i k y d apart)) (else k (get_or xs k d) apart (each k d within))
      ] in
      by (cases_eq k i)

  pub EachAt-push : (P : ℕ → A → Type 0) (xs : List A) (y : A) → EachAt P xs → P (length xs) y → EachAt P (xs ++ y ∷ [])
  EachAt-push P xs y each last k d below =
      let n : length (xs ++ y ∷ []) ≡ length xs + 1 = length_push xs y in
      let by : (k ≡ length xs) ⊎ (k ≢ length xs) → P k (get_or (xs ++ y ∷ []) k d) =
      λ c. elim c as (λ _. P k (get_or (xs ++ y ∷ []) k d)) [
        | inl e ↦ subst (λ (n : ℕ). P n (get_or (xs ++ y ∷ []) n d)) (sym e) (subst (P (length xs)) (sym (get_or_push xs y d (length xs) refl)) last)
        | inr apart ↦ (let within : k < length xs = omega arith in
            subst (P k) (sym (get_or_append_left xs (y ∷ []) d k within)) (each k d within))
      ] in
      by (cases_eq k (length xs))

  -- the next member of a list is written
  pub EachAt-next : (P : ℕ → A → Type 0) (xs : List A) (i : ℕ) (y : A) → i < length xs → EachAt P (take i xs) → P i y → EachAt P (take (i + 1) (set xs i y))
  EachAt-next P xs i y inside each here =
      let n : length (take i xs) ≡ i = length-take-le i xs (omega arith) in
      subst (EachAt P) (sym (take_more_set xs i y inside)) (EachAt-push P (take i xs) y each (subst (λ (n : ℕ). P n y) (sym n) here))

  pub EachAt-all : (P : ℕ → A → Type 0) (xs : List A) (n : ℕ) → length xs ≡ n → EachAt P (take n xs) → EachAt P xs
  EachAt-all P xs n e each = subst (EachAt P) (take_all n xs (omega arith)) each

  pub EachAt-weaker : (P Q : ℕ → A → Type 0) (xs : List A) → ((k : ℕ) (x : A) → k < length xs → P k x → Q k x) → EachAt P xs → EachAt Q xs
  EachAt-weaker P Q xs weaker each k d below = weaker k (get_or xs k d) below (each k d below)

  -- the member at an index, if any
  pub EachAt-IfSome : (P : ℕ → A → Type 0) (xs : List A) → EachAt P xs → (k : ℕ) → IfSome (slice_get xs k) (P k)
  EachAt-IfSome P [] each k = tt
  EachAt-IfSome P (x ∷ xs) each zero = each 0 x (omega arith)
  EachAt-IfSome P (x ∷ xs) each (suc k) = EachAt-IfSome (λ n. P (suc n)) xs (λ n d below. each (suc n) d (omega arith)) k
