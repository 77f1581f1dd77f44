-- Texts of UTF-8 stay so, and become no longer.
use Rattle.std.proofs.Common.{◌≡◌, ◌∙◌, ap, ap₂, refl, sym, subst, ℕ, zero, suc, ◌+◌, ◌<◌, ◌≤◌, Bool, true, false, cond, List, [], ◌∷◌, ◌++◌, length, map, take, drop, arith, true≢false, length-append}
use Rattle.std.specs.Prelude.{◌&&◌, codes, ◌/◌, ◌%◌, ◌==◌, if◌then◌else◌, reverse, ℤ, pos, negsuc, Option, Some, None, nat_lt}
use Rattle.std.specs.Char.{encode_utf8, to_ascii_lowercase, to_ascii_uppercase}
use Rattle.std.specs.Fmt.{decimal, digit_glyph, digits, digits_onto, signed_decimal}
use Rattle.std.specs.Str.{IsAscii, IsUtf8, all_scalars, chars, encode_utf8_all, str_to_ascii_lowercase, str_to_ascii_uppercase}
use Rattle.std.proofs.lemmas.Str.{IsCharBoundary-at_seam, IsUtf8-from_ascii, IsUtf8-past_char, IsUtf8-take, encode_ascii, encodes-append, encodes-chars, scalars-chars}
use Rattle.std.proofs.lemmas.Str.Ascii.{IsAscii-cons, IsAscii-nil, uppercase_ascii, lowercase_ascii}
use Rattle.std.proofs.lemmas.Bool.Decides.{nat_tests}
use Rattle.std.proofs.Math.Utf8.{low_scalar, scalar}
use Rattle.std.proofs.lemmas.List.{length-reverse, map-append, reverse-append, reverse-reverse, take-append-drop}
use Rattle.ksql_expr.specs.Value.{at_most, after_spaces, index_of, part_of, trimmed, truth_text}

both-true : (a b : Bool) → (a && b) ≡ true → (a ≡ true) × (b ≡ true)
both-true true b h = (refl, h)
both-true false b h = absurd (true≢false (sym h))

-- ---- parts

scalars-split : (cs ds : List ℕ) → all_scalars (cs ++ ds) ≡ true → (all_scalars cs ≡ true) × (all_scalars ds ≡ true)
scalars-split [] ds h = (refl, h)
scalars-split (c ∷ cs) ds h =
    let both = both-true _ (all_scalars (cs ++ ds)) h in
    let rest = scalars-split cs ds both.1 in
    (ap₂ (λ a b. a && b) both.0 rest.0, rest.1)

-- characters whose text is of UTF-8 and no longer than another
abbrev IsWithin : List ℕ → List ℕ → Type 0
IsWithin cs t = (all_scalars cs ≡ true) × (length (encode_utf8_all cs) ≤ length t)

split-within : (cs ds t : List ℕ) → IsWithin (cs ++ ds) t → IsWithin cs t × IsWithin ds t
split-within cs ds t h =
    let scalars = scalars-split cs ds h.0 in
    let long : length (encode_utf8_all (cs ++ ds)) ≡ length (encode_utf8_all cs) + length (encode_utf8_all ds) =
    ap length (encodes-append cs ds) ∙ length-append (encode_utf8_all cs) (encode_utf8_all ds) in
    let most : length (encode_utf8_all (cs ++ ds)) ≤ length t = h.1 in
    ((scalars.0, omega (arith, long, most)), (scalars.1, omega (arith, long, most)))

drop-within : (n : ℕ) (cs t : List ℕ) → IsWithin cs t → IsWithin (drop n cs) t
drop-within n cs t h = (split-within (take n cs) (drop n cs) t (subst (λ x. IsWithin x t) (sym (take-append-drop n cs)) h)).1

take-within : (n : ℕ) (cs t : List ℕ) → IsWithin cs t → IsWithin (take n cs) t
take-within n cs t h = (split-within (take n cs) (drop n cs) t (subst (λ x. IsWithin x t) (sym (take-append-drop n cs)) h)).0

most-within : (len : Option ℤ) (cs t : List ℕ) → IsWithin cs t → IsWithin (at_most len cs) t
most-within None cs t h = h
most-within (Some (pos n)) cs t h = take-within n cs t h
most-within (Some (negsuc n)) cs t h = (refl, omega arith)

-- a part of a text
pub part-short : (t : List ℕ) (at : ℤ) (len : Option ℤ) → IsUtf8 t → (length (part_of t at len) ≤ length t) × IsUtf8 (part_of t at len)
part-short t at len u =
    let whole : IsWithin (chars t) t = (scalars-chars t u, let same : length (encode_utf8_all (chars t)) ≡ length t = ap length (encodes-chars t u) in omega (arith, same)) in
    let cs : List ℕ = at_most len (drop (index_of (length (chars t)) at) (chars t)) in
    let part : IsWithin cs t = most-within len (drop (index_of (length (chars t)) at) (chars t)) t (drop-within (index_of (length (chars t)) at) (chars t) t whole) in
    (part.1, (cs, (part.0, refl)))

-- ---- spaces

space-utf8 : IsUtf8 (32 ∷ [])
space-utf8 = IsUtf8-from_ascii (32 ∷ []) (IsAscii-cons 32 [] (omega arith) IsAscii-nil)

behind-utf8 : (t : List ℕ) → IsUtf8 t → IsUtf8 (after_spaces t)
behind-utf8 [] u = u
behind-utf8 (c ∷ cs) u = by (c == 32) refl (behind-utf8 cs)
  where
    by : (b : Bool) → (c == 32) ≡ b → (IsUtf8 cs → IsUtf8 (after_spaces cs)) → IsUtf8 (if b then after_spaces cs else c ∷ cs)
    by true is rest =
        let same : c ≡ 32 = grind (arith, nat_tests) in
        let first : c ∷ cs ≡ encode_utf8 32 ++ cs = ap (λ x. x ∷ cs) same ∙ ap (λ e. e ++ cs) (sym (encode_ascii 32 (omega arith))) in
        rest (IsUtf8-past_char (c ∷ cs) cs 32 u first)
    by false is rest = u

take-front : (front rest : List ℕ) → take (length front) (front ++ rest) ≡ front
take-front [] rest = refl
take-front (c ∷ cs) rest = ap (λ x. c ∷ x) (take-front cs rest)

last-utf8 : (front : List ℕ) → IsUtf8 (front ++ 32 ∷ []) → IsUtf8 front
last-utf8 front u =
    subst IsUtf8 (take-front front (32 ∷ []))
    (IsUtf8-take (front ++ 32 ∷ []) (length front) u (IsCharBoundary-at_seam (front ++ 32 ∷ []) front (32 ∷ []) refl space-utf8))

before-utf8 : (t : List ℕ) → IsUtf8 (reverse t) → IsUtf8 (reverse (after_spaces t))
before-utf8 [] u = u
before-utf8 (c ∷ cs) u = by (c == 32) refl (before-utf8 cs)
  where
    by : (b : Bool) → (c == 32) ≡ b → (IsUtf8 (reverse cs) → IsUtf8 (reverse (after_spaces cs))) → IsUtf8 (reverse (if b then after_spaces cs else c ∷ cs))
    by true is rest =
        let same : c ≡ 32 = grind (arith, nat_tests) in
        let last : reverse (c ∷ cs) ≡ reverse cs ++ 32 ∷ [] = reverse-append (c ∷ []) cs ∙ ap (λ x. reverse cs ++ x ∷ []) same in
        rest (last-utf8 (reverse cs) (subst IsUtf8 last u))
    by false is rest = u

pub trimmed-utf8 : (t : List ℕ) → IsUtf8 t → IsUtf8 (trimmed t)
trimmed-utf8 t u = before-utf8 (reverse (after_spaces t)) (subst IsUtf8 (sym (reverse-reverse (after_spaces t))) (behind-utf8 t u))

-- ---- letters

-- a function of bytes that leaves those from 128 on as they are, and the others below 128
module _ (f : ℕ → ℕ) (low : (b : ℕ) → b < 128 → f b < 128) (high : (b : ℕ) → 128 ≤ b → f b ≡ b) where
  above : (c : ℕ) → 128 ≤ c → map f (encode_utf8 c) ≡ encode_utf8 c
  unfolding encode_utf8
  above c h = by (nat_lt c 128) refl (nat_lt c 2048) (nat_lt c 65536)
    where
      next : (n : ℕ) → f (128 + n % 64) ≡ 128 + n % 64
      next n = high (128 + n % 64) (omega arith)

      by : (x : Bool) → nat_lt c 128 ≡ x → (y z : Bool) →
          map f (cond x (c ∷ []) (cond y ((192 + c / 64) ∷ (128 + c % 64) ∷ [])
          (cond z ((224 + c / 4096) ∷ (128 + c / 64 % 64) ∷ (128 + c % 64) ∷ []) ((240 + c / 262144) ∷ (128 + c / 4096 % 64) ∷ (128 + c / 64 % 64) ∷ (128 + c % 64) ∷ []))))
          ≡ cond x (c ∷ []) (cond y ((192 + c / 64) ∷ (128 + c % 64) ∷ [])
          (cond z ((224 + c / 4096) ∷ (128 + c / 64 % 64) ∷ (128 + c % 64) ∷ []) ((240 + c / 262144) ∷ (128 + c / 4096 % 64) ∷ (128 + c / 64 % 64) ∷ (128 + c % 64) ∷ [])))
      by true is y z = absurd (grind (arith, nat_tests))
      by false is true z = ap₂ (λ a b. a ∷ b ∷ []) (high (192 + c / 64) (omega arith)) (next c)
      by false is false true =
          ap₂ (λ a rest. a ∷ rest) (high (224 + c / 4096) (omega arith)) (ap₂ (λ a b. a ∷ b ∷ []) (next (c / 64)) (next c))
      by false is false false =
          ap₂ (λ a rest. a ∷ rest) (high (240 + c / 262144) (omega arith)) (ap₂ (λ a rest. a ∷ rest) (next (c / 4096)) (ap₂ (λ a b. a ∷ b ∷ []) (next (c / 64)) (next c)))

  each : (c : ℕ) → map f (encode_utf8 c) ≡ encode_utf8 (f c)
  each c = by (nat_lt c 128) refl
    where
      by : (b : Bool) → nat_lt c 128 ≡ b → map f (encode_utf8 c) ≡ encode_utf8 (f c)
      by true is = let h : c < 128 = grind (arith, nat_tests) in ap (map f) (encode_ascii c h) ∙ sym (encode_ascii (f c) (low c h))
      by false is = let h : 128 ≤ c = grind (arith, nat_tests) in above c h ∙ ap encode_utf8 (sym (high c h))

  all-each : (cs : List ℕ) → map f (encode_utf8_all cs) ≡ encode_utf8_all (map f cs)
  all-each [] = refl
  all-each (c ∷ cs) = map-append f (encode_utf8 c) (encode_utf8_all cs) ∙ ap₂ (λ a b. a ++ b) (each c) (all-each cs)

  still-scalar : (c : ℕ) → scalar c ≡ true → scalar (f c) ≡ true
  still-scalar c h = by (nat_lt c 128) refl
    where
      by : (b : Bool) → nat_lt c 128 ≡ b → scalar (f c) ≡ true
      by true is = let below : c < 128 = grind (arith, nat_tests) in let small : f c < 128 = low c below in low_scalar (f c) (omega (arith, small))
      by false is = let same : 128 ≤ c = grind (arith, nat_tests) in ap scalar (high c same) ∙ h

  still-scalars : (cs : List ℕ) → all_scalars cs ≡ true → all_scalars (map f cs) ≡ true
  still-scalars [] h = refl
  still-scalars (c ∷ cs) h = let both = both-true (scalar c) (all_scalars cs) h in ap₂ (λ a b. a && b) (still-scalar c both.0) (still-scalars cs both.1)

  letters-utf8 : (t : List ℕ) → IsUtf8 t → IsUtf8 (map f t)
  letters-utf8 t u = (map f u.0, (still-scalars u.0 u.1.0, sym (all-each u.0) ∙ ap (map f) u.1.1))

upper-high : (b : ℕ) → 128 ≤ b → to_ascii_uppercase b ≡ b
upper-high b h = grind (arith, nat_tests)

lower-high : (b : ℕ) → 128 ≤ b → to_ascii_lowercase b ≡ b
lower-high b h = grind (arith, nat_tests)

pub capitals-utf8 : (t : List ℕ) → IsUtf8 t → IsUtf8 (str_to_ascii_uppercase t)
capitals-utf8 t u = letters-utf8 to_ascii_uppercase uppercase_ascii upper-high t u

pub small-utf8 : (t : List ℕ) → IsUtf8 t → IsUtf8 (str_to_ascii_lowercase t)
small-utf8 t u = letters-utf8 to_ascii_lowercase lowercase_ascii lower-high t u

-- ---- numbers

glyph-low : (d : ℕ) → d < 10 → digit_glyph false d < 128
glyph-low d h = by (nat_lt d 10) refl
  where
    by : (b : Bool) → nat_lt d 10 ≡ b → (if b then 48 + d else 87 + d) < 128
    by true is = omega (arith, h)
    by false is = absurd (grind (arith, nat_tests))

digits-onto : (k n : ℕ) (after : List ℕ) → IsAscii after → (length (digits_onto k 10 false n after) ≤ k + length after) × IsAscii (digits_onto k 10 false n after)
digits-onto zero n after h = (omega arith, h)
digits-onto (suc k) n after h = by (n / 10 == 0) (digits-onto k (n / 10) (digit_glyph false (n % 10) ∷ after) (IsAscii-cons (digit_glyph false (n % 10)) after (glyph-low (n % 10) (omega arith)) h))
  where
    last : List ℕ
    last = digit_glyph false (n % 10) ∷ after

    ascii : IsAscii last
    ascii = IsAscii-cons (digit_glyph false (n % 10)) after (glyph-low (n % 10) (omega arith)) h

    by : (b : Bool) → (length (digits_onto k 10 false (n / 10) last) ≤ k + length last) × IsAscii (digits_onto k 10 false (n / 10) last) →
        (length (if b then last else digits_onto k 10 false (n / 10) last) ≤ suc k + length after) × IsAscii (if b then last else digits_onto k 10 false (n / 10) last)
    by true rest = (omega arith, ascii)
    by false rest =
        let most : length (digits_onto k 10 false (n / 10) last) ≤ k + length last = rest.0 in
        (omega (arith, most), rest.1)

decimal-short : (n : ℕ) → (length (decimal n) ≤ 64) × IsAscii (decimal n)
unfolding digits
decimal-short n = let all = digits-onto 64 n [] IsAscii-nil in (let most : length (digits_onto 64 10 false n []) ≤ 64 + 0 = all.0 in omega (arith, most), all.1)

pub signed-short : (z : ℤ) → (length (signed_decimal z) ≤ 65536) × IsUtf8 (signed_decimal z)
signed-short (pos n) = let all = decimal-short n in (let most : length (decimal n) ≤ 64 = all.0 in omega (arith, most), IsUtf8-from_ascii (decimal n) all.1)
signed-short (negsuc n) =
    let all = decimal-short (suc n) in
    (let most : length (decimal (suc n)) ≤ 64 = all.0 in omega (arith, most), IsUtf8-from_ascii (45 ∷ decimal (suc n)) (IsAscii-cons 45 (decimal (suc n)) (omega arith) all.1))

-- ---- truth

pub truth-utf8 : (b : Bool) → (length (truth_text b) ≤ 65536) × IsUtf8 (truth_text b)
unfolding encode_utf8
truth-utf8 true = (omega arith, (codes "true", (refl, refl)))
truth-utf8 false = (omega arith, (codes "false", (refl, refl)))

behind-short : (t : List ℕ) → length (after_spaces t) ≤ length t
behind-short [] = omega arith
behind-short (c ∷ cs) = by (c == 32) (behind-short cs)
  where
    by : (b : Bool) → length (after_spaces cs) ≤ length cs → length (if b then after_spaces cs else c ∷ cs) ≤ length (c ∷ cs)
    by true rest = omega (arith, rest)
    by false rest = omega arith

pub trimmed-short : (t : List ℕ) → length (trimmed t) ≤ length t
trimmed-short t =
    let first : length (after_spaces t) ≤ length t = behind-short t in
    let turned : length (reverse (after_spaces t)) ≡ length (after_spaces t) = length-reverse (after_spaces t) in
    let second : length (after_spaces (reverse (after_spaces t))) ≤ length (reverse (after_spaces t)) = behind-short (reverse (after_spaces t)) in
    let last : length (trimmed t) ≡ length (after_spaces (reverse (after_spaces t))) = length-reverse (after_spaces (reverse (after_spaces t))) in
    omega (arith, first, turned, second, last)
