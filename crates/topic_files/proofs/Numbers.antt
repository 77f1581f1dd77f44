-- A number of a few digits is what these write.
use Rattle.std.proofs.Common.{◌≡◌, ℕ, ◌+◌, ◌-◌, ◌^◌, ◌<◌, ◌≤◌, List, [], ◌++◌, length, take, drop, true, false, cond, not, ◌&&◌, ◌||◌, ◌==◌, nat_lt, Some, ap, ap₂, ◌∙◌, arith, append-nil, lt-ltb, ne_eqb}
use Rattle.std.specs.Prelude.{slice_index, slice_range}
use Rattle.std.specs.Char.{is_ascii_digit}
use Rattle.std.specs.Str.Parse.{AllDigits, digits_value}
use Rattle.std.proofs.lemmas.Bool.{and_from, cond-true}
use Rattle.std.proofs.lemmas.List.{get_or_past, length-take-le, take_all}
use Rattle.std.proofs.lemmas.Str.Parse.{digit_at, digits_value_short, numerals_by_value, tells_digits}
use Rattle.fast_float.specs.Text.{digits_end, digits_of, exponent_start, has_exponent, scan}
use Rattle.fast_float.proofs.Integers.{digits_len_all}
use Rattle.serde_json.specs.Data.{unsigned}
use Rattle.serde_json.specs.Read.{float_of, is_integer, number_from, number_of}

-- fewer than 18 digits write a number below 10 ^ 17
pub few-below : (bs : List ℕ) (i n : ℕ) → i < length bs → length bs ≤ 18 → AllDigits 10 (take i bs) → n ≡ digits_value 10 (take i bs) → n < 10 ^ 17
few-below bs i n inside few digits is =
    let len : length (take i bs) ≤ 17 = omega (arith, length-take-le i bs (omega (arith, inside)), inside, few) in
    omega (arith, is, digits_value_short (numerals_by_value (AllDigits 10) tells_digits) (take i bs) 17 digits len)

-- the digits of the exponent that would stand at i
abbrev exponent_at : List ℕ → ℕ → List ℕ
exponent_at bs i = cond (has_exponent bs i) (slice_range bs (exponent_start bs i) (digits_end bs (exponent_start bs i))) []

module _ (bs : List ℕ) (digits : AllDigits 10 bs) where
  ends : digits_end bs 0 ≡ length bs
  ends = omega (arith, digits_len_all bs digits)

  past : slice_index bs (digits_end bs 0) ≡ 0
  past = ap (slice_index bs) ends ∙ get_or_past bs (length bs) 0 (omega arith)

  whole_is : (scan bs).whole ≡ bs
  unfolding scan
  whole_is = ap (slice_range bs 0) ends ∙ take_all (length bs - 0) bs (omega arith)

  point_is : (scan bs).point ≡ false
  unfolding scan
  point_is = ap (λ b. b == 46) past

  fraction_is : (scan bs).fraction ≡ []
  unfolding scan
  fraction_is = rw past

  exponent_is : (scan bs).exponent ≡ []
  unfolding scan
  exponent_is =
      let a = digits_end bs 0 in
      let c = exponent_start bs a in
      ap (λ p. exponent_at bs (cond p (digits_end bs (a + 1)) a)) (ap (λ x. x == 46) past)
      ∙ ap (λ x. cond ((x == 101 || x == 69) && is_ascii_digit (slice_index bs c)) (slice_range bs c (digits_end bs c)) []) past

  value_is : digits_of (scan bs) ≡ digits_value 10 bs
  value_is = ap₂ (λ w f. digits_value 10 (w ++ f)) whole_is fraction_is ∙ ap (digits_value 10) (append-nil bs)

  -- 1 to 18 digits are read as the number that they write
  pub few_digits-read : 0 < length bs → length bs ≤ 18 → number_of bs ≡ Some (unsigned (digits_value 10 bs))
  unfolding number_of
  few_digits-read some few =
      let first : (slice_index bs 0 == 45) ≡ false = ne_eqb (slice_index bs 0) 45 (λ e. let range = digit_at bs 0 digits some in omega (arith, range.0, e)) in
      let whole : nat_lt 0 (length (scan bs).whole) ≡ true = ap (λ w. nat_lt 0 (length w)) whole_is ∙ lt-ltb 0 (length bs) some in
      let integer : is_integer (scan bs) ≡ true = ap₂ (λ a b. a && b) (ap₂ (λ a b. a && b) whole (ap not point_is)) (ap (λ e. length e == 0) exponent_is) in
      let small : digits_value 10 bs < 10 ^ 18 = digits_value_short (numerals_by_value (AllDigits 10) tells_digits) bs 18 digits few in
      let fits : nat_lt (digits_of (scan bs)) (2 ^ 64) ≡ true = ap (λ n. nat_lt n (2 ^ 64)) value_is ∙ lt-ltb (digits_value 10 bs) (2 ^ 64) (omega (arith, small)) in
      ap (λ b. cond b (number_from true (scan (drop 1 bs))) (number_from false (scan bs))) first
      ∙ cond-true (is_integer (scan bs) && nat_lt (digits_of (scan bs)) (2 ^ 64)) (Some (unsigned (digits_of (scan bs)))) (float_of false (scan bs)) (and_from _ _ integer fits)
      ∙ ap (λ n. Some (unsigned n)) value_is
