-- The windows of a time, by their numbers.
use Rattle.std.proofs.Common.{◌≡◌, ◌∙◌, ap, ap₂, refl, sym, ℕ, zero, suc, ◌+◌, ◌*◌, ◌-◌, ◌/◌, ◌<◌, ◌≤◌, ◌^◌, ◌∷◌, map, Bool, true, false, cond, arith}
use Rattle.std.specs.Prelude.{filter, nat_lt, IsTrue}
use Rattle.std.specs.List.{range_with_len}
use Rattle.std.proofs.Math.Nat.{mul-le-mul_right}
use Rattle.std.proofs.lemmas.Bool.{lt-ltb, le-ltb}
use Rattle.std.proofs.lemmas.Bool.Decides.{nat_tests}
use Rattle.ksql_types.specs.declared.relation.Span.{Span}
use Rattle.ksql_types.specs.declared.relation.Window.{Window}
use Rattle.ksql_nodes.specs.Windows.{windows_of}
use Rattle.agg_ops.specs.Totals.{is_sound_window}

-- the window with a number
abbrev pub span_at : Window → ℕ → Span
span_at w number = record { start = number * w.advance; end = number * w.advance + w.size }

-- ---- a sound window

pub size-short : (w : Window) → IsTrue (is_sound_window w) → w.size ≤ 2 ^ 53
size-short w h = grind (arith, nat_tests)

pub grace-short : (w : Window) → IsTrue (is_sound_window w) → w.grace ≤ 2 ^ 53
grace-short w h = grind (arith, nat_tests)

-- ---- the windows that are open

filter-all : {A : Type 0} (p : A → Bool) (f : ℕ → A) (a n : ℕ) → ((k : ℕ) → a ≤ k → p (f k) ≡ true) → filter p (map f (range_with_len a n)) ≡ map f (range_with_len a n)
filter-all p f a zero all = refl
filter-all p f a (suc n) all =
    ap₂ (λ b rest. cond b (f a ∷ rest) rest) (all a (omega arith)) (filter-all p f (a + 1) n (λ k h. all k (omega arith)))

-- numbers that pass a test exactly from a + d on
filter-from : {A : Type 0} (p : A → Bool) (f : ℕ → A) (d a n : ℕ) → ((k : ℕ) → a ≤ k → k < a + d → p (f k) ≡ false) → ((k : ℕ) → a + d ≤ k → p (f k) ≡ true) →
    filter p (map f (range_with_len a (d + n))) ≡ map f (range_with_len (a + d) n)
filter-from p f zero a n below above =
    ap (λ k. filter p (map f (range_with_len a k))) (omega arith) ∙ filter-all p f a n (λ k h. above k (omega arith)) ∙ ap (λ k. map f (range_with_len k n)) (omega arith)
filter-from p f (suc d) a n below above =
    let e : suc d + n ≡ suc (d + n) = omega arith in
    let g : a + 1 + d ≡ a + suc d = omega arith in
    ap (λ k. filter p (map f (range_with_len a k))) e
    ∙ ap (λ b. cond b (f a ∷ filter p (map f (range_with_len (a + 1) (d + n)))) (filter p (map f (range_with_len (a + 1) (d + n))))) (below a (omega arith) (omega arith))
    ∙ filter-from p f d (a + 1) n (λ k h i. below k (omega arith) (omega arith)) (λ k h. above k (omega arith))
    ∙ ap (λ k. map f (range_with_len k n)) g

-- the first open window is at most one after the last
pub first-few : (w : Window) (time first : ℕ) → 0 < w.advance → ((number : ℕ) → number < first → number * w.advance + w.size ≤ time) → first ≤ time / w.advance + 1
first-few w time first moves over = by (nat_lt (time / w.advance + 1) first) refl
  where
    by : (b : Bool) → nat_lt (time / w.advance + 1) first ≡ b → first ≤ time / w.advance + 1
    by true is =
        let lt : time / w.advance + 1 < first = grind (arith, nat_tests) in
        let ends : (time / w.advance + 1) * w.advance + w.size ≤ time = over (time / w.advance + 1) lt in
        omega arith
    by false is = grind (arith, nat_tests)

-- the windows of a time are those from the first open one on
pub spans-are : (w : Window) (time first : ℕ) → 0 < w.advance → ((number : ℕ) → number < first → number * w.advance + w.size ≤ time) → time < first * w.advance + w.size →
    map (span_at w) (range_with_len first (time / w.advance + 1 - first)) ≡ windows_of w time
spans-are w time first moves over ends =
    let few : first ≤ time / w.advance + 1 = first-few w time first moves over in
    let rest : ℕ = time / w.advance + 1 - first in
    let sum : time / w.advance + 1 ≡ first + rest = omega arith in
    let lasts : Span → Bool = λ (s : Span). nat_lt time s.end in
    sym (ap (λ n. filter lasts (map (span_at w) (range_with_len 0 n))) sum
    ∙ filter-from lasts (span_at w) first 0 rest
    (λ k h g. le-ltb time (k * w.advance + w.size) (over k (omega arith)))
    (λ k h.
    let later : first * w.advance ≤ k * w.advance = mul-le-mul_right w.advance (omega arith) in
    lt-ltb time (k * w.advance + w.size) (omega arith))
    ∙ ap (λ k. map (span_at w) (range_with_len k rest)) (omega arith))
