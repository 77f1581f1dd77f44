-- The bytes of windows end with their start.
use Rattle.std.proofs.Common.{◌≡◌, ℕ, ◌+◌, ◌-◌, ◌<◌, ◌≤◌, ◌^◌, List, length, refl, ap, ◌∙◌, arith}
use Rattle.std.proofs.lemmas.List.{drop_at, length-append}
use Rattle.std.proofs.lemmas.Nat.{from_be_bytes-to_be_bytes_8}
use Rattle.std.specs.Int.{w64, from_be_bytes}
use Rattle.record_codec.specs.Spelling.{eight}
use Rattle.window_store.specs.Windows.{under, IsWindowKey, start_of}

pub length-eight : (n : ℕ) → length (eight n) ≡ 8
unfolding eight
length-eight n = refl

pub eight-again : (n : ℕ) → n < 2 ^ 64 → from_be_bytes w64 (eight n) ≡ n
unfolding eight
eight-again n lt = from_be_bytes-to_be_bytes_8 n lt

length-under : (key : List ℕ) (start : ℕ) → length (under key start) ≡ length key + 8
length-under key start = omega (arith, length-append key (eight start), length-eight start)

pub start_of-under : (key : List ℕ) (start : ℕ) → start < 2 ^ 64 → start_of (under key start) ≡ start
unfolding start_of
start_of-under key start lt =
    let at : length key ≡ length (under key start) - 8 = omega (arith, length-under key start) in
    ap (from_be_bytes w64) (drop_at key (eight start) (length (under key start) - 8) at) ∙ eight-again start lt

-- such bytes are those of a start, which they end with
pub long : (b : List ℕ) → IsWindowKey b → 8 ≤ length b
long b w = omega (arith, length-under w.0 w.1, ap length w.2)

-- the start of a window is at most the latest that there can be
pub start_of-bounded : (b : List ℕ) → IsWindowKey b → start_of b ≤ 2 ^ 56
start_of-bounded b w = omega (arith, ap start_of w.2, start_of-under w.0 w.1 (omega (arith, w.3)), w.3)
