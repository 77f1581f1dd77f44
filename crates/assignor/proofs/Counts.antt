-- Counts of the tasks of several workers.
use Rattle.std.proofs.Common.{◌≡◌, ◌≢◌, ◌∙◌, ap, ap₂, sym, refl, subst, ℕ, suc, ◌+◌, ◌*◌, ◌<◌, ◌≤◌, ◌⊎◌, inl, inr, List, [], ◌∷◌, length, Bool, true, false, arith}
use Rattle.std.specs.Prelude.{Option, None, Some, is_some, slice_index, if◌then◌else◌, ◌==◌, ◌||◌, ◌&&◌}
use Rattle.std.specs.List.{list_all}
use Rattle.std.specs.List.Sorted.{IsStrictlyIncreasing}
use Rattle.std.proofs.lemmas.Bool.Decides.{nat_tests}
use Rattle.assignor.specs.Rule.{how_many, is_live, tasks_of}

-- the sum of a number for each worker
abbrev pub total : (ℕ → ℕ) → List ℕ → ℕ
total f [] = 0
total f (w ∷ ws) = f w + total f ws

-- no worker is named twice
abbrev pub Distinct : List ℕ → Type 0
Distinct [] = Unit {0}
Distinct (w ∷ ws) = (is_live ws w ≡ false) × Distinct ws

pub same_from_test : (a b : ℕ) → (a == b) ≡ true → a ≡ b
same_from_test a b e = grind (arith, nat_tests)

pub other_from_test : (a b : ℕ) → (a == b) ≡ false → a ≢ b
other_from_test a b e = λ same. grind (arith, nat_tests)

pub test_of_same : (a : ℕ) → (a == a) ≡ true
test_of_same a = grind (arith, nat_tests)

pub test_of_other : (a b : ℕ) → a ≢ b → (a == b) ≡ false
test_of_other a b ne = grind (arith, nat_tests)

pub test_turned : (a b : ℕ) → (a == b) ≡ (b == a)
test_turned a b = grind (arith, nat_tests)

pub or_right : (a b : Bool) → b ≡ true → (a || b) ≡ true
or_right true b e = refl
or_right false b e = e

pub or_left : (a b : Bool) → a ≡ true → (a || b) ≡ true
or_left true b e = refl
or_left false b e = absurd (cc (e))

pub or_cases : (a b : Bool) → (a || b) ≡ true → (a ≡ true) ⊎ (b ≡ true)
or_cases true b e = inl refl
or_cases false b e = inr e

pub and_parts : (a b : Bool) → (a && b) ≡ true → (a ≡ true) × (b ≡ true)
and_parts true b e = (refl, e)
and_parts false b e = absurd (cc (e))

pub bool_cases : (b : Bool) → (b ≡ true) ⊎ (b ≡ false)
bool_cases true = inl refl
bool_cases false = inr refl

later_ascend : (x : ℕ) (xs : List ℕ) → IsStrictlyIncreasing (x ∷ xs) → IsStrictlyIncreasing xs
later_ascend x xs up = λ k inside.
    let next : suc k + 1 ≡ suc (k + 1) = omega arith in
    subst (λ (n : ℕ). slice_index xs k < slice_index (x ∷ xs) n) next (up (suc k) (omega arith))

above : (v x : ℕ) (xs : List ℕ) → v ≤ x → IsStrictlyIncreasing (x ∷ xs) → is_live xs v ≡ false
above v x [] le up = refl
above v x (y ∷ ys) le up =
    let first = up 0 (omega arith) in
    let rest : is_live ys v ≡ false = above v y ys (omega (arith, first)) (later_ascend x (y ∷ ys) up) in
    let ne : (y == v) ≡ false = test_of_other y v (λ e. omega (arith, first, e)) in
    ap₂ (λ (a b : Bool). a || b) ne rest

-- workers that ascend are not named twice
pub Distinct-ascending : (live : List ℕ) → IsStrictlyIncreasing live → Distinct live
Distinct-ascending [] up = tt
Distinct-ascending (w ∷ ws) up = (above w w ws (omega arith) up, Distinct-ascending ws (later_ascend w ws up))

pub how_many-same : {X : Type 0} (p q : X → Bool) (xs : List X) → ((x : X) → p x ≡ q x) → how_many p xs ≡ how_many q xs
how_many-same p q [] same = refl
how_many-same p q (x ∷ xs) same = ap₂ (λ (b : Bool) (n : ℕ). (if b then 1 else 0) + n) (same x) (how_many-same p q xs same)

-- where the worker is not, nothing differs
how_many-absent : (p q : ℕ → Bool) (w : ℕ) (ws : List ℕ) → is_live ws w ≡ false → ((v : ℕ) → (w == v) ≡ false → p v ≡ q v) → how_many p ws ≡ how_many q ws
how_many-absent p q w [] gone same = refl
how_many-absent p q w (v ∷ ws) gone same = elim (bool_cases (v == w)) [
  | inl here ↦ absurd (let e : true ≡ false = sym (or_left (v == w) (is_live ws w) here) ∙ gone in cc (e))
  | inr other ↦ ap₂ (λ (b : Bool) (n : ℕ). (if b then 1 else 0) + n) (same v (test_turned w v ∙ other))
      (how_many-absent p q w ws (sym (ap (λ (b : Bool). b || is_live ws w) other) ∙ gone) same)
]

-- tests that differ at one worker alone
pub how_many-one : (p q : ℕ → Bool) (w : ℕ) (ws : List ℕ) → Distinct ws → ((v : ℕ) → (w == v) ≡ false → p v ≡ q v) → how_many p ws ≤ how_many q ws + 1
how_many-one p q w [] distinct same = omega arith
how_many-one p q w (v ∷ ws) distinct same = elim (bool_cases (w == v)) [
  | inl here ↦
      (let at : w ≡ v = same_from_test w v here in
      let rest : how_many p ws ≡ how_many q ws = how_many-absent p q w ws (subst (λ (u : ℕ). is_live ws u ≡ false) (sym at) distinct.0) same in
      at_most (p v) (q v) (how_many p ws) (how_many q ws) rest)
  | inr other ↦
      (let rest = how_many-one p q w ws distinct.1 same in
      let here : ◌≡◌ {A = ℕ} (if p v then 1 else 0) (if q v then 1 else 0) = ap (λ (b : Bool). if b then 1 else 0) (same v other) in
      omega (arith, rest, here))
]
  where
    at_most : (a b : Bool) (m n : ℕ) → m ≡ n → (if a then 1 else 0) + m ≤ (if b then 1 else 0) + n + 1
    at_most true true m n e = omega (arith, e)
    at_most true false m n e = omega (arith, e)
    at_most false true m n e = omega (arith, e)
    at_most false false m n e = omega (arith, e)

pub total-same : (f g : ℕ → ℕ) (ws : List ℕ) → ((w : ℕ) → f w ≡ g w) → total f ws ≡ total g ws
total-same f g [] same = refl
total-same f g (w ∷ ws) same = ap₂ (λ (m n : ℕ). m + n) (same w) (total-same f g ws same)

pub total-add : (f g : ℕ → ℕ) (ws : List ℕ) → total (λ w. f w + g w) ws ≡ total f ws + total g ws
total-add f g [] = omega arith
total-add f g (w ∷ ws) = let rest = total-add f g ws in omega (arith, rest)

pub total-zero : (ws : List ℕ) → total (λ w. 0) ws ≡ 0
total-zero [] = refl
total-zero (w ∷ ws) = let rest = total-zero ws in omega (arith, rest)

pub total-each : (n : ℕ) (ws : List ℕ) → total (λ w. n) ws ≡ length ws * n
total-each n [] = omega arith
total-each n (w ∷ ws) = let rest = total-each n ws in rest_more n (length ws) (total (λ w. n) ws) rest
  where
    rest_more : (n m t : ℕ) → t ≡ m * n → n + t ≡ suc m * n
    rest_more n m t e = grind arith

-- one for a worker that is named once
total-one : (v : ℕ) (ws : List ℕ) → Distinct ws → total (λ w. if v == w then 1 else 0) ws ≡ (if is_live ws v then 1 else 0)
total-one v [] distinct = refl
total-one v (w ∷ ws) distinct = elim (bool_cases (v == w)) [
  | inl here ↦
      (let at : v ≡ w = same_from_test v w here in
      let gone : is_live ws v ≡ false = subst (λ (u : ℕ). is_live ws u ≡ false) (sym at) distinct.0 in
      let rest : total (λ u. if v == u then 1 else 0) ws ≡ 0 = total-one v ws distinct.1 ∙ ap (λ (b : Bool). if b then 1 else 0) gone in
      ap₂ (λ (b : Bool) (n : ℕ). (if b then 1 else 0) + n) here rest ∙ (let one : 1 + 0 ≡ 1 = refl in one)
      ∙ sym (ap (λ (b : Bool). if b || is_live ws v then 1 else 0) (test_turned w v ∙ here)))
  | inr other ↦
      (let rest = total-one v ws distinct.1 in
      ap₂ (λ (b : Bool) (n : ℕ). (if b then 1 else 0) + n) other rest ∙ zero_plus (if is_live ws v then 1 else 0)
      ∙ sym (ap (λ (b : Bool). if b || is_live ws v then 1 else 0) (test_turned w v ∙ other)))
]
  where
    zero_plus : (n : ℕ) → 0 + n ≡ n
    zero_plus n = omega arith

-- whether a place is with no worker but a live one
abbrev pub is_sound : List ℕ → Option ℕ → Bool
is_sound live None = true
is_sound live (Some w) = is_live live w

-- the tasks of all live workers are the tasks that are not set aside
pub total-placed : (live : List ℕ) (places : List (Option ℕ)) → Distinct live → list_all (is_sound live) places ≡ true → total (λ w. tasks_of w places) live ≡ how_many is_some places
total-placed live [] distinct sound = total-zero live
total-placed live (None ∷ places) distinct sound =
    let rest = total-placed live places distinct sound in
    total-same (λ w. 0 + tasks_of w places) (λ w. tasks_of w places) live (λ w. omega arith) ∙ rest ∙ (let e : how_many is_some places ≡ 0 + how_many is_some places = omega arith in e)
total-placed live (Some v ∷ places) distinct sound =
    let parts = and_parts (is_live live v) (list_all (is_sound live) places) sound in
    let rest = total-placed live places distinct parts.1 in
    let one : total (λ w. if v == w then 1 else 0) live ≡ 1 = total-one v live distinct ∙ ap (λ (b : Bool). if b then 1 else 0) parts.0 in
    total-add (λ w. if v == w then 1 else 0) (λ w. tasks_of w places) live ∙ ap₂ (λ (m n : ℕ). m + n) one rest

unit_if : (n low : ℕ) → n ≤ low + 1 → n ≤ low + (if n == low + 1 then 1 else 0)
unit_if n low le = grind (arith, nat_tests)

low_if : (n low : ℕ) → low ≤ n → low + (if n == low + 1 then 1 else 0) ≤ n
low_if n low le = grind (arith, nat_tests)

-- all have at most low + 1
pub total-most : (f : ℕ → ℕ) (low : ℕ) (ws : List ℕ) → ((w : ℕ) → is_live ws w ≡ true → f w ≤ low + 1) → total f ws ≤ total (λ w. low) ws + how_many (λ w. f w == low + 1) ws
total-most f low [] most = omega arith
total-most f low (w ∷ ws) most =
    let here = unit_if (f w) low (most w (or_left (w == w) (is_live ws w) (test_of_same w))) in
    let rest = total-most f low ws (λ v live. most v (or_right (w == v) (is_live ws v) live)) in
    omega (arith, here, rest)

-- one of them has fewer than `low`
pub total-fewer : (f : ℕ → ℕ) (low v : ℕ) (ws : List ℕ) → ((w : ℕ) → is_live ws w ≡ true → f w ≤ low + 1) → is_live ws v ≡ true → f v < low →
    total f ws < total (λ w. low) ws + how_many (λ w. f w == low + 1) ws
total-fewer f low v [] most live few = absurd (cc (live))
total-fewer f low v (w ∷ ws) most live few =
    let others = λ (u : ℕ) (there : is_live ws u ≡ true). most u (or_right (w == u) (is_live ws u) there) in
    let here = unit_if (f w) low (most w (or_left (w == w) (is_live ws w) (test_of_same w))) in
    elim (or_cases (w == v) (is_live ws v) live) [
      | inl same ↦
          (let at : f w ≡ f v = ap f (same_from_test w v same) in
          let rest = total-most f low ws others in
          omega (arith, at, rest, few))
      | inr there ↦ (let rest = total-fewer f low v ws others there few in omega (arith, here, rest))
    ]

-- all have at least low
pub total-least : (f : ℕ → ℕ) (low : ℕ) (ws : List ℕ) → ((w : ℕ) → is_live ws w ≡ true → low ≤ f w) → total (λ w. low) ws + how_many (λ w. f w == low + 1) ws ≤ total f ws
total-least f low [] least = omega arith
total-least f low (w ∷ ws) least =
    let here = low_if (f w) low (least w (or_left (w == w) (is_live ws w) (test_of_same w))) in
    let rest = total-least f low ws (λ v live. least v (or_right (w == v) (is_live ws v) live)) in
    omega (arith, here, rest)
