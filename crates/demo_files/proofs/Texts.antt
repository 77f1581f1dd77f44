-- Lemmas on texts that are appended to.
use Rattle.std.proofs.Common.{◌≡◌, ◌∙◌, ℕ, ◌+◌, zero, suc, List, [], ◌∷◌, ◌++◌, ap, sym, flat_map, append_assoc, append-nil, add-one, add-zero, arith, Result, Ok, Err, OnOk}
use Rattle.std.specs.Prelude.{if◌then◌else◌, is_ok}
use Rattle.std.specs.List.{range_with_len}
use Rattle.std.proofs.lemmas.List.Concat.{flat_map-append}

-- one text after another, in any grouping
pub ruleset appends = (append_assoc)

-- one number more
range-more : (a n : ℕ) → range_with_len a (suc n) ≡ range_with_len a n ++ (a + n) ∷ []
range-more a zero = ap (λ (k : ℕ). k ∷ []) (sym (add-zero a))
range-more a (suc n) =
    let last : (a + 1) + n ≡ a + suc n = omega arith in
    ap (λ (ks : List ℕ). a ∷ ks) (range-more (a + 1) n ∙ ap (λ (k : ℕ). range_with_len (a + 1) n ++ k ∷ []) last)

-- the text of one number more
pub texts_more : (f : ℕ → List ℕ) (n : ℕ) → flat_map f (range_with_len 0 (n + 1)) ≡ flat_map f (range_with_len 0 n) ++ f n
texts_more f n =
    let last : 0 + n ≡ n = omega arith in
    ap (λ (k : ℕ). flat_map f (range_with_len 0 k)) (add-one n)
    ∙ ap (flat_map f) (range-more 0 n)
    ∙ flat_map-append f (range_with_len 0 n) ((0 + n) ∷ [])
    ∙ ap (λ (xs : List ℕ). flat_map f (range_with_len 0 n) ++ xs) (append-nil (f (0 + n)) ∙ ap f last)

-- what holds after a call that succeeded
pub on-more : {A E P Q : Type 0} (r : Result A E) → (P → Q) → OnOk r P → OnOk r Q
on-more (Ok a) f h = f h
on-more (Err e) f h = tt

pub on-ok : {A E : Type 0} (r : Result A E) (x y z : List ℕ) → x ≡ (if is_ok r then y else z) → OnOk r (x ≡ y)
on-ok (Ok a) x y z h = h
on-ok (Err e) x y z h = tt

-- five texts that were put one after another
pub five : (a b c d e f t u v w x : List ℕ) → b ≡ a ++ t → c ≡ b ++ u → d ≡ c ++ v → e ≡ d ++ w → f ≡ e ++ x → f ≡ a ++ (t ++ (u ++ (v ++ (w ++ x))))
five a b c d e f t u v w x first second third fourth fifth =
    fifth
    ∙ ap (λ (k : List ℕ). k ++ x) (fourth ∙ ap (λ (k : List ℕ). k ++ w) (third ∙ ap (λ (k : List ℕ). k ++ v) (second ∙ ap (λ (k : List ℕ). k ++ u) first)))
    ∙ append_assoc (((a ++ t) ++ u) ++ v) w x
    ∙ append_assoc ((a ++ t) ++ u) v (w ++ x)
    ∙ append_assoc (a ++ t) u (v ++ (w ++ x))
    ∙ append_assoc a t (u ++ (v ++ (w ++ x)))
