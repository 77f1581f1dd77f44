-- In a text of UTF-8, the content of a string is of UTF-8.
use Rattle.std.proofs.Common.{◌≡◌, ◌∙◌, ap, sym, refl, subst, ℕ, zero, suc, List, [], ◌∷◌, ◌++◌, ◌+◌, ◌*◌, ◌<◌, ◌≤◌, Bool, true, false, cond, length, get_or, Option, Some, None, arith, inl, inr, ◌⊎◌}
use Rattle.std.specs.Prelude.{◌&&◌, ◌||◌, ◌==◌, nat_lt, nat_le, option_and_then, IfSome}
use Rattle.std.specs.Char.{IsScalar, digit_value, is_digit, encode_utf8}
use Rattle.std.specs.List.{AllByRecursion}
use Rattle.std.specs.Str.{IsUtf8}
use lib.Utf8.{encodes, scalar, scalars}
use Rattle.std.proofs.lemmas.Bool.{and_cases, and_parts, cases_lt, eqb-true, le-ltb, leb-false, leb-true, ltb-false, ltb-true, ne_eqb, or_cases}
use Rattle.std.proofs.lemmas.Bool.Decides.{nat_tests}
use Rattle.std.proofs.lemmas.List.{append-nil, length-append}
use Rattle.std.proofs.lemmas.List.Elements.{All-from_get_or, recursion_from_All}
use Rattle.std.proofs.lemmas.Str.{IsCharBoundary-after_ascii, IsUtf8-append, IsUtf8-drop, IsUtf8-encode, IsUtf8-nil, byte_from_char, encode_ascii, inside_one, len_utf8_bounds, length-encode}
use Rattle.json.specs.Text.{after_backslash, after_high, after_u, code_unit, content, is_high_surrogate, is_low_surrogate, plain, prepend, short_escape, surrogate_pair}

-- what follows an ASCII byte of a text is a text
pub text-after_ascii : (x : ℕ) (xs : List ℕ) → x < 128 → IsUtf8 (x ∷ xs) → IsUtf8 xs
text-after_ascii x xs low text = IsUtf8-drop (x ∷ xs) 1 text (IsCharBoundary-after_ascii (x ∷ xs) 0 text (omega arith) low)

scalar-below : (c : ℕ) → c < 0xd800 → IsScalar c
scalar-below c low = grind (arith, nat_tests)

scalar-above : (c : ℕ) → 0xe000 ≤ c → c < 0x110000 → IsScalar c
scalar-above c high low = grind (arith, nat_tests)

-- one ASCII byte is a text
text-of_ascii : (x : ℕ) → x < 128 → IsUtf8 (x ∷ [])
text-of_ascii x low = subst IsUtf8 (encode_ascii x low) (IsUtf8-encode x (scalar-below x (omega arith)))

-- a hex digit is ASCII
hex-ascii : (x : ℕ) → is_digit x 16 ≡ true → (x < 128) × (digit_value x < 16)
hex-ascii x is = by (cases_lt x 123)
  where
    value : digit_value x < 16
    value = ltb-true (digit_value x) 16 is

    by : (x < 123) ⊎ (123 ≤ x) → (x < 128) × (digit_value x < 16)
    by (inl low) = (omega arith, value)
    by (inr high) = absurd (grind (arith, nat_tests))

-- a byte and what it means after a backslash are ASCII
abbrev AreAscii : ℕ → ℕ → Type 0
AreAscii x c = (x < 128) × (c < 128)

escape-pick : (b : Bool) (x k : ℕ) (o : Option ℕ) → (b ≡ true → AreAscii x k) → IfSome o (AreAscii x) → IfSome (cond b (Some k) o) (AreAscii x)
escape-pick true x k o here rest = here refl
escape-pick false x k o here rest = rest

escape-low : (x k c : ℕ) → k < 128 → c < 128 → (x == k) ≡ true → AreAscii x c
escape-low x k c low small is = (omega (arith, eqb-true x k is), small)

escape-itself : (x k : ℕ) → k < 128 → (x == k) ≡ true → AreAscii x x
escape-itself x k low is = (omega (arith, eqb-true x k is), omega (arith, eqb-true x k is))

escape-three : (x : ℕ) → ((x == 34) || (x == 92) || (x == 47)) ≡ true → AreAscii x x
escape-three x is = by (or_cases _ (x == 47) is)
  where
    first : ((x == 34) ≡ true) ⊎ ((x == 92) ≡ true) → AreAscii x x
    first (inl quote) = escape-itself x 34 (omega arith) quote
    first (inr slash) = escape-itself x 92 (omega arith) slash

    by : (((x == 34) || (x == 92)) ≡ true) ⊎ ((x == 47) ≡ true) → AreAscii x x
    by (inl two) = first (or_cases (x == 34) (x == 92) two)
    by (inr slash) = escape-itself x 47 (omega arith) slash

short-ascii : (x : ℕ) → IfSome (short_escape x) (AreAscii x)
unfolding short_escape
short-ascii x =
    escape-pick ((x == 34) || (x == 92) || (x == 47)) x x _ (escape-three x)
    (escape-pick (x == 98) x 8 _ (escape-low x 98 8 (omega arith) (omega arith))
    (escape-pick (x == 102) x 12 _ (escape-low x 102 12 (omega arith) (omega arith))
    (escape-pick (x == 110) x 10 _ (escape-low x 110 10 (omega arith) (omega arith))
    (escape-pick (x == 114) x 13 _ (escape-low x 114 13 (omega arith) (omega arith))
    (escape-pick (x == 116) x 9 None (escape-low x 116 9 (omega arith) (omega arith)) tt)))))

-- the digits of a code unit are ASCII, and it has sixteen bits
record IsUnit (a b c d u : ℕ) : Type 0 where
  a_low : a < 128
  b_low : b < 128
  c_low : c < 128
  d_low : d < 128
  low : u < 65536

unit-low : (p q r s : ℕ) → p < 16 → q < 16 → r < 16 → s < 16 → p * 4096 + q * 256 + r * 16 + s < 65536
unit-low p q r s p-low q-low r-low s_low = omega arith

unit-is : (a b c d : ℕ) → IfSome (code_unit a b c d) (IsUnit a b c d)
unfolding code_unit
unit-is a b c d = by (is_digit a 16 && is_digit b 16 && is_digit c 16 && is_digit d 16) refl
  where
    by : (hex : Bool) → (is_digit a 16 && is_digit b 16 && is_digit c 16 && is_digit d 16) ≡ hex →
        IfSome (cond hex (Some (digit_value a * 4096 + digit_value b * 256 + digit_value c * 16 + digit_value d)) None) (IsUnit a b c d)
    by false is = tt
    by true is =
        let three = and_parts _ (is_digit d 16) is in
        let two = and_parts _ (is_digit c 16) three.0 in
        let one = and_parts (is_digit a 16) (is_digit b 16) two.0 in
        let a_hex = hex-ascii a one.0 in
        let b_hex = hex-ascii b one.1 in
        let c_hex = hex-ascii c two.1 in
        let d_hex = hex-ascii d three.1 in
        record {
          a_low = a_hex.0;
          b_low = b_hex.0;
          c_low = c_hex.0;
          d_low = d_hex.0;
          low = unit-low (digit_value a) (digit_value b) (digit_value c) (digit_value d) a_hex.1 b_hex.1 c_hex.1 d_hex.1;
        }

-- what follows the digits of a code unit is a text
text-after_unit : (a b c d u : ℕ) (xs : List ℕ) → IsUnit a b c d u → IsUtf8 (a ∷ b ∷ c ∷ d ∷ xs) → IsUtf8 xs
text-after_unit a b c d u xs is text =
    text-after_ascii d xs is.d_low (text-after_ascii c (d ∷ xs) is.c_low (text-after_ascii b (c ∷ d ∷ xs) is.b_low (text-after_ascii a (b ∷ c ∷ d ∷ xs) is.a_low text)))

-- a unit that is no surrogate is a character
unit-scalar : (u : ℕ) → u < 65536 → is_high_surrogate u ≡ false → is_low_surrogate u ≡ false → IsScalar u
unit-scalar u low not_high not_low = by (and_cases _ _ not_high) (and_cases _ _ not_low)
  where
    by : ((nat_le 0xd800 u ≡ false) ⊎ (nat_lt u 0xdc00 ≡ false)) → ((nat_le 0xdc00 u ≡ false) ⊎ (nat_lt u 0xe000 ≡ false)) → IsScalar u
    by (inl below) other = scalar-below u (leb-false 0xd800 u below)
    by (inr from) (inl below) = absurd (omega (arith, ltb-false u 0xdc00 from, leb-false 0xdc00 u below))
    by (inr from) (inr above) = scalar-above u (ltb-false u 0xe000 above) (omega arith)

prepended : (bytes : List ℕ) (o : Option (List ℕ)) → IsUtf8 bytes → IfSome o IsUtf8 → IfSome (prepend bytes o) IsUtf8
prepended bytes None text rest = tt
prepended bytes (Some s) text rest = IsUtf8-append bytes s text rest

-- a byte that isn't ASCII means itself
high-byte : (x : ℕ) (xs : List ℕ) → 128 ≤ x → content plain (x ∷ xs) ≡ prepend (x ∷ []) (content plain xs)
unfolding content
high-byte x xs high = λ i.
    cond (ne_eqb x 34 (λ is. absurd (omega (arith, is, high))) i) (Some [])
    (cond (ne_eqb x 92 (λ is. absurd (omega (arith, is, high))) i) (content after_backslash xs) (cond (le-ltb x 32 (omega (arith, high)) i) None (prepend (x ∷ []) (content plain xs))))

prepend-prepend : (x : ℕ) (bs : List ℕ) (o : Option (List ℕ)) → prepend (x ∷ []) (prepend bs o) ≡ prepend (x ∷ bs) o
prepend-prepend x bs None = refl
prepend-prepend x bs (Some s) = refl

prepend-nil : (o : Option (List ℕ)) → o ≡ prepend [] o
prepend-nil None = refl
prepend-nil (Some s) = refl

high-bytes : (bs rest : List ℕ) → AllByRecursion (λ b. 128 ≤ b) bs → content plain (bs ++ rest) ≡ prepend bs (content plain rest)
high-bytes [] rest high = prepend-nil (content plain rest)
high-bytes (b ∷ bs) rest high =
    high-byte b (bs ++ rest) high.0 ∙ ap (prepend (b ∷ [])) (high-bytes bs rest high.1) ∙ prepend-prepend b bs (content plain rest)

-- the bytes of a character that isn't ASCII aren't either
char-high : (c : ℕ) → 128 ≤ c → AllByRecursion (λ b. 128 ≤ b) (encode_utf8 c)
char-high c high = recursion_from_All (λ b. 128 ≤ b) (encode_utf8 c) (All-from_get_or (λ b. 128 ≤ b) (encode_utf8 c) 0 each)
  where
    each : (k : ℕ) → k < length (encode_utf8 c) → 128 ≤ get_or (encode_utf8 c) k 0
    each k below = by (cases_lt (get_or (encode_utf8 c) k 0) 128)
      where
        by : (get_or (encode_utf8 c) k 0 < 128) ⊎ (128 ≤ get_or (encode_utf8 c) k 0) → 128 ≤ get_or (encode_utf8 c) k 0
        by (inl low) = absurd (omega (arith, inside_one c [] (encode_utf8 c) k (sym (append-nil (encode_utf8 c))) below low, low, high))
        by (inr up) = up

-- if the result for any text of at most n bytes is UTF-8
module _ (n : ℕ) (ih : (ys : List ℕ) → length ys ≤ n → IsUtf8 ys → IfSome (content plain ys) IsUtf8) where
  content-after_high : (h : ℕ) (xs : List ℕ) → 0xd800 ≤ h → h < 0xdc00 → length xs ≤ n → IsUtf8 xs → IfSome (content (after_high h) xs) IsUtf8
  unfolding content
  content-after_high h [] from below few text = tt
  content-after_high h (s ∷ []) from below few text = tt
  content-after_high h (s ∷ u ∷ []) from below few text = tt
  content-after_high h (s ∷ u ∷ a ∷ []) from below few text = tt
  content-after_high h (s ∷ u ∷ a ∷ b ∷ []) from below few text = tt
  content-after_high h (s ∷ u ∷ a ∷ b ∷ c ∷ []) from below few text = tt
  content-after_high h (s ∷ u ∷ a ∷ b ∷ c ∷ d ∷ xs) from below few text = by ((s == 92) && (u == 117)) refl
    where
      pair : ℕ → Option (List ℕ)
      pair l = cond (is_low_surrogate l) (prepend (encode_utf8 (surrogate_pair h l)) (content plain xs)) None

      low : (l : ℕ) (is : Bool) → is_low_surrogate l ≡ is → IsUtf8 xs → IfSome (cond is (prepend (encode_utf8 (surrogate_pair h l)) (content plain xs)) None) IsUtf8
      low l false is rest = tt
      low l true is rest =
          let bounds = and_parts (nat_le 0xdc00 l) (nat_lt l 0xe000) is in
          let up : 0xdc00 ≤ l = leb-true 0xdc00 l bounds.0 in
          let down : l < 0xe000 = ltb-true l 0xe000 bounds.1 in
          prepended (encode_utf8 (surrogate_pair h l)) (content plain xs) (IsUtf8-encode (surrogate_pair h l) (scalar-above (surrogate_pair h l) (omega arith) (omega arith)))
          (ih xs (omega arith) rest)

      unit : (o : Option ℕ) → IfSome o (IsUnit a b c d) → s < 128 → u < 128 → IfSome (option_and_then pair o) IsUtf8
      unit None is s_low u_low = tt
      unit (Some l) is s_low u_low =
          low l (is_low_surrogate l) refl
          (text-after_unit a b c d l xs is (text-after_ascii u (a ∷ b ∷ c ∷ d ∷ xs) u_low (text-after_ascii s (u ∷ a ∷ b ∷ c ∷ d ∷ xs) s_low text)))

      by : (is : Bool) → ((s == 92) && (u == 117)) ≡ is → IfSome (cond is (option_and_then pair (code_unit a b c d)) None) IsUtf8
      by false is = tt
      by true is =
          let parts = and_parts (s == 92) (u == 117) is in
          unit (code_unit a b c d) (unit-is a b c d) (omega (arith, eqb-true s 92 parts.0)) (omega (arith, eqb-true u 117 parts.1))

  content-after_u : (xs : List ℕ) → length xs ≤ n → IsUtf8 xs → IfSome (content after_u xs) IsUtf8
  unfolding content
  content-after_u [] few text = tt
  content-after_u (a ∷ []) few text = tt
  content-after_u (a ∷ b ∷ []) few text = tt
  content-after_u (a ∷ b ∷ c ∷ []) few text = tt
  content-after_u (a ∷ b ∷ c ∷ d ∷ xs) few text = by (code_unit a b c d) (unit-is a b c d)
    where
      then : (u : ℕ) → Bool → Bool → Option (List ℕ)
      then u high low = cond high (content (after_high u) xs) (cond low None (prepend (encode_utf8 u) (content plain xs)))

      unit : (u : ℕ) (high low : Bool) → u < 65536 → is_high_surrogate u ≡ high → is_low_surrogate u ≡ low → IsUtf8 xs → IfSome (then u high low) IsUtf8
      unit u true low small is_high is_low rest =
          let bounds = and_parts (nat_le 0xd800 u) (nat_lt u 0xdc00) is_high in
          content-after_high u xs (leb-true 0xd800 u bounds.0) (ltb-true u 0xdc00 bounds.1) (omega arith) rest
      unit u false true small is_high is_low rest = tt
      unit u false false small is_high is_low rest =
          prepended (encode_utf8 u) (content plain xs) (IsUtf8-encode u (unit-scalar u small is_high is_low)) (ih xs (omega arith) rest)

      by : (o : Option ℕ) → IfSome o (IsUnit a b c d) → IfSome (option_and_then (λ u. then u (is_high_surrogate u) (is_low_surrogate u)) o) IsUtf8
      by None is = tt
      by (Some u) is =
          unit u (is_high_surrogate u) (is_low_surrogate u) is.low refl refl
          (text-after_unit a b c d u xs is text)

  content-after_backslash : (xs : List ℕ) → length xs ≤ n → IsUtf8 xs → IfSome (content after_backslash xs) IsUtf8
  unfolding content
  content-after_backslash [] few text = tt
  content-after_backslash (x ∷ xs) few text = by (x == 117) refl
    where
      short : (o : Option ℕ) → IfSome o (AreAscii x) → IfSome (option_and_then (λ c. prepend (c ∷ []) (content plain xs)) o) IsUtf8
      short None low = tt
      short (Some c) low = prepended (c ∷ []) (content plain xs) (text-of_ascii c low.1) (ih xs (omega arith) (text-after_ascii x xs low.0 text))

      by : (is : Bool) → (x == 117) ≡ is → IfSome (cond is (content after_u xs) (option_and_then (λ c. prepend (c ∷ []) (content plain xs)) (short_escape x))) IsUtf8
      by true is = content-after_u xs (omega arith) (text-after_ascii x xs (omega (arith, eqb-true x 117 is)) text)
      by false is = short (short_escape x) (short-ascii x)

  -- a character that isn't ASCII means itself
  content-of_char : (x : ℕ) (xs : List ℕ) → 128 ≤ x → length xs ≤ n → IsUtf8 (x ∷ xs) → IfSome (content plain (x ∷ xs)) IsUtf8
  content-of_char x xs high few text = by text.0 text.1.0 text.1.1
    where
      by : (cs : List ℕ) → scalars cs ≡ true → encodes cs ≡ x ∷ xs → IfSome (content plain (x ∷ xs)) IsUtf8
      by [] are is = absurd (cc)
      by (c ∷ cs) are is = char (cases_lt c 128)
        where
          both : (scalar c ≡ true) × (scalars cs ≡ true)
          both = and_parts (scalar c) (scalars cs) are

          rest : List ℕ
          rest = encodes cs

          fewer : length rest ≤ n
          fewer = omega (arith, few, ap length is, length-append (encode_utf8 c) rest, length-encode c, (len_utf8_bounds c).0)

          char : (c < 128) ⊎ (128 ≤ c) → IfSome (content plain (x ∷ xs)) IsUtf8
          char (inl low) = absurd (omega (arith, high, low, byte_from_char (x ∷ xs) rest c (sym is) low))
          char (inr up) =
              subst (λ (ys : List ℕ). IfSome (content plain ys) IsUtf8) is
              (subst (λ (o : Option (List ℕ)). IfSome o IsUtf8) (sym (high-bytes (encode_utf8 c) rest (char-high c up)))
              (prepended (encode_utf8 c) (content plain rest) (IsUtf8-encode c both.0) (ih rest fewer (cs, (both.1, refl)))))

  content-step : (xs : List ℕ) → length xs ≤ suc n → IsUtf8 xs → IfSome (content plain xs) IsUtf8
  unfolding content
  content-step [] few text = tt
  content-step (x ∷ xs) few text = by (x == 34) refl
    where
      fewer : length xs ≤ n
      fewer = omega arith

      rest : Option (List ℕ)
      rest = prepend (x ∷ []) (content plain xs)

      here : (x < 128) ⊎ (128 ≤ x) → IfSome rest IsUtf8
      here (inl low) = prepended (x ∷ []) (content plain xs) (text-of_ascii x low) (ih xs fewer (text-after_ascii x xs low text))
      here (inr high) = subst (λ (o : Option (List ℕ)). IfSome o IsUtf8) (high-byte x xs high) (content-of_char x xs high fewer text)

      control : (is : Bool) → IfSome (cond is None rest) IsUtf8
      control true = tt
      control false = here (cases_lt x 128)

      slash : (is : Bool) → (x == 92) ≡ is → IfSome (cond is (content after_backslash xs) (cond (nat_lt x 32) None rest)) IsUtf8
      slash true is = content-after_backslash xs fewer (text-after_ascii x xs (omega (arith, eqb-true x 92 is)) text)
      slash false is = control (nat_lt x 32)

      by : (is : Bool) → (x == 34) ≡ is → IfSome (cond is (Some []) (cond (x == 92) (content after_backslash xs) (cond (nat_lt x 32) None rest))) IsUtf8
      by true is = IsUtf8-nil
      by false is = slash (x == 92) refl

content-few : (n : ℕ) (xs : List ℕ) → length xs ≤ n → IsUtf8 xs → IfSome (content plain xs) IsUtf8
unfolding content
content-few zero [] few text = tt
content-few zero (x ∷ xs) few text = absurd (omega arith)
content-few (suc n) xs few text = content-step n (λ ys. content-few n ys) xs few text

-- the content of a string in a text is a text
pub content-text : (xs : List ℕ) → IsUtf8 xs → IfSome (content plain xs) IsUtf8
content-text xs text = content-few (length xs) xs (omega arith) text
