-- The live workers, in ascending order, as one of them comes or goes.
use Rattle.std.proofs.Common.{◌≡◌, ℕ, ◌+◌, ◌<◌, List, ◌∷◌, true, arith}
use Rattle.std.proofs.lemmas.Bool.Decides.{nat_tests}
use Rattle.std.proofs.lemmas.List.FromFn.{get_or-range_with_len, length-range_with_len}
use Rattle.std.proofs.lemmas.List.Kept.{AllPairs-from_increasing, IsStrictlyIncreasing-filter}
use Rattle.std.specs.Prelude.{filter, nat_lt, slice_index}
use Rattle.std.specs.List.{AllByRecursion, range_with_len}
use Rattle.std.specs.List.Sorted.{IsStrictlyIncreasing}
use Rattle.meaning_laws.proofs.Lists.{All-both, All-passes, All-weaker, Pairwise, Pairwise-from_all, all-from_pairwise}
use Rattle.cluster_laws.specs.Progress.{with_worker, without_worker}
use Rattle.cluster_laws.proofs.Names.{pairs-append}

-- ---- numbers that rise

-- each number is below all later ones
abbrev Rise : List ℕ → Type 0
Rise xs = Pairwise (λ (a b : ℕ). a < b) xs

rising-pairs : (xs : List ℕ) → IsStrictlyIncreasing xs → Rise xs
rising-pairs xs rises = Pairwise-from_all (λ (a b : ℕ). a < b) xs (AllPairs-from_increasing xs rises)

pairs-rising : (xs : List ℕ) → Rise xs → IsStrictlyIncreasing xs
pairs-rising xs pairs = λ k inside. all-from_pairwise (λ (a b : ℕ). a < b) xs pairs k (k + 1) 0 (omega arith) inside

-- ---- the workers of lower and of higher numbers

test-below : (a b : ℕ) → nat_lt a b ≡ true → a < b
test-below a b is = grind (arith, nat_tests)

lower : (worker : ℕ) (live : List ℕ) → AllByRecursion (λ (w : ℕ). w < worker) (filter (λ w. nat_lt w worker) live)
lower worker live =
    All-weaker (λ (w : ℕ). nat_lt w worker ≡ true) (λ (w : ℕ). w < worker) (λ w is. test-below w worker is) (filter (λ w. nat_lt w worker) live)
    (All-passes (λ w. nat_lt w worker) live)

higher : (worker : ℕ) (live : List ℕ) → AllByRecursion (λ (w : ℕ). worker < w) (filter (λ w. nat_lt worker w) live)
higher worker live =
    All-weaker (λ (w : ℕ). nat_lt worker w ≡ true) (λ (w : ℕ). worker < w) (λ w is. test-below worker w is) (filter (λ w. nat_lt worker w) live)
    (All-passes (λ w. nat_lt worker w) live)

-- each of the lower is below each of the higher
between : (worker : ℕ) (live : List ℕ) →
    AllByRecursion (λ (a : ℕ). AllByRecursion (λ (b : ℕ). a < b) (filter (λ w. nat_lt worker w) live)) (filter (λ w. nat_lt w worker) live)
between worker live =
    All-weaker (λ (a : ℕ). a < worker) (λ (a : ℕ). AllByRecursion (λ (b : ℕ). a < b) (filter (λ w. nat_lt worker w) live))
    (λ a low. All-weaker (λ (b : ℕ). worker < b) (λ (b : ℕ). a < b) (λ b high. omega (arith, low, high)) (filter (λ w. nat_lt worker w) live) (higher worker live))
    (filter (λ w. nat_lt w worker) live) (lower worker live)

lower-rise : (worker : ℕ) (live : List ℕ) → IsStrictlyIncreasing live → Rise (filter (λ w. nat_lt w worker) live)
lower-rise worker live rises = rising-pairs (filter (λ w. nat_lt w worker) live) (IsStrictlyIncreasing-filter (λ w. nat_lt w worker) live rises)

higher-rise : (worker : ℕ) (live : List ℕ) → IsStrictlyIncreasing live → Rise (filter (λ w. nat_lt worker w) live)
higher-rise worker live rises = rising-pairs (filter (λ w. nat_lt worker w) live) (IsStrictlyIncreasing-filter (λ w. nat_lt worker w) live rises)

-- ---- the workers still rise

pub with-rising : (worker : ℕ) (live : List ℕ) → IsStrictlyIncreasing live → IsStrictlyIncreasing (with_worker worker live)
with-rising worker live rises =
    pairs-rising (with_worker worker live)
    (pairs-append (λ (a b : ℕ). a < b) (filter (λ w. nat_lt w worker) live) (worker ∷ filter (λ w. nat_lt worker w) live)
    (lower-rise worker live rises) (higher worker live, higher-rise worker live rises)
    (All-both (λ (a : ℕ). a < worker) (λ (a : ℕ). AllByRecursion (λ (b : ℕ). a < b) (filter (λ w. nat_lt worker w) live)) (filter (λ w. nat_lt w worker) live)
    (lower worker live) (between worker live)))

pub without-rising : (worker : ℕ) (live : List ℕ) → IsStrictlyIncreasing live → IsStrictlyIncreasing (without_worker worker live)
without-rising worker live rises =
    pairs-rising (without_worker worker live)
    (pairs-append (λ (a b : ℕ). a < b) (filter (λ w. nat_lt w worker) live) (filter (λ w. nat_lt worker w) live)
    (lower-rise worker live rises) (higher-rise worker live rises) (between worker live))

pub first-rising : (n : ℕ) → IsStrictlyIncreasing (range_with_len 1 n)
first-rising n = λ k inside.
    let long = length-range_with_len 1 n in
    let this : slice_index (range_with_len 1 n) k ≡ 1 + k = get_or-range_with_len 1 n k 0 (omega (arith, long, inside)) in
    let next : slice_index (range_with_len 1 n) (k + 1) ≡ 1 + (k + 1) = get_or-range_with_len 1 n (k + 1) 0 (omega (arith, long, inside)) in
    omega (arith, this, next)
