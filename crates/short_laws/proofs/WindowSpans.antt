-- The windows of a time start before they end.
use Rattle.std.proofs.Common.{ℕ, zero, suc, ◌+◌, ◌*◌, ◌/◌, ◌<◌, ◌≤◌, List, [], ◌∷◌, map, Bool, true, arith}
use Rattle.std.specs.Prelude.{◌≡◌, nat_lt}
use Rattle.std.specs.List.{AllByRecursion, enumerate_from, range_with_len}
use Rattle.std.proofs.Math.Nat.{div-mul-le_self, mul-le-mul_right}
use Rattle.std.proofs.lemmas.Bool.Decides.{nat_tests}
use Rattle.ksql_types.specs.declared.relation.Span.{Span}
use Rattle.ksql_types.specs.declared.relation.Window.{Window}
use Rattle.ksql_nodes.specs.Windows.{windows_of}
use Rattle.meaning_laws.proofs.Lists.{All-both, All-filter, All-map, All-passes, All-weaker}

numbers-below : (a n : ℕ) → AllByRecursion (λ k. k < a + n) (range_with_len a n)
numbers-below a zero = tt
numbers-below a (suc n) = (omega arith, All-weaker (λ k. k < a + 1 + n) (λ k. k < a + suc n) (λ k h. omega (arith, h)) (range_with_len (a + 1) n) (numbers-below (a + 1) n))

start-reached : (time advance k : ℕ) → k < 0 + (time / advance + 1) → k * advance ≤ time
start-reached time advance k h =
    let below : k ≤ time / advance = omega (arith, h) in
    let less : k * advance ≤ time / advance * advance = mul-le-mul_right advance below in
    let whole : time / advance * advance ≤ time = div-mul-le_self time advance in
    omega (arith, less, whole)

numbered-forward : (i : ℕ) (spans : List Span) → AllByRecursion (λ (s : Span). s.start < s.end) spans → AllByRecursion (λ (p : ℕ × Span). p.1.start < p.1.end) (enumerate_from i spans)
numbered-forward i [] h = tt
numbered-forward i (s ∷ ss) h = (h.0, numbered-forward (i + 1) ss h.1)

-- the windows of a time, with their numbers
pub windows-forward : (w : Window) (time : ℕ) → AllByRecursion (λ p. p.1.start < p.1.end) (enumerate_from 0 (windows_of w time))
windows-forward w time = numbered-forward 0 (windows_of w time) forward
  where
    ends : Span → Bool
    ends s = nat_lt time s.end

    spans : List Span
    spans = map (λ k. record { start = k * w.advance; end = k * w.advance + w.size }) (range_with_len 0 (time / w.advance + 1))

    reached : AllByRecursion (λ (s : Span). s.start ≤ time) spans
    reached =
        All-map (λ (s : Span). s.start ≤ time) (λ k. record { start = k * w.advance; end = k * w.advance + w.size }) (range_with_len 0 (time / w.advance + 1))
        (All-weaker (λ k. k < 0 + (time / w.advance + 1)) (λ k. k * w.advance ≤ time) (start-reached time w.advance) (range_with_len 0 (time / w.advance + 1)) (numbers-below 0 (time / w.advance + 1)))

    before : (s : Span) → (s.start ≤ time) × (ends s ≡ true) → s.start < s.end
    before s (reached, ended) = let later : time < s.end = grind (arith, nat_tests) in omega (arith, reached, later)

    forward : AllByRecursion (λ (s : Span). s.start < s.end) (windows_of w time)
    forward =
        All-weaker (λ (s : Span). (s.start ≤ time) × (ends s ≡ true)) (λ s. s.start < s.end) before (windows_of w time)
        (All-both (λ (s : Span). s.start ≤ time) (λ s. ends s ≡ true) (windows_of w time) (All-filter (λ (s : Span). s.start ≤ time) ends spans reached) (All-passes ends spans))
