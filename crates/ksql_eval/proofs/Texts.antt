-- Characters of texts, digits, and spaces.
use Rattle.std.proofs.Common.{◌≡◌, ◌∙◌, ap, sym, subst, refl, ℕ, ◌+◌, ◌-◌, ◌^◌, ◌<◌, ◌≤◌, ◌≢◌, ◌==◌, true, false, nat_lt, List, [], ◌∷◌, ◌++◌, length, take, drop, reverse, Option, Some, None, is_some, inl, inr, lit≤, arith}
use Rattle.std.specs.Prelude.{ℤ, pos, negsuc, MatchOption, FitsSigned, if◌then◌else◌, nat_le, slice_range}
use Rattle.std.specs.Int.{w64, cast_signed, cast_unsigned}
use Rattle.std.specs.Char.{encode_utf8, is_ascii_digit, digit_value}
use Rattle.std.specs.List.{list_all}
use Rattle.std.specs.Str.{chars, encode_utf8_all, IsUtf8, IsCharBoundary}
use Rattle.std.specs.Str.Parse.{AllDigits, IsNumeral}
use Rattle.std.proofs.lemmas.Bool.{and_parts, and_from, cases_Bool, lt-ltb, ltb-true, le-ltb, le-leb, leb-true, ne_eqb, cases_lt, cond-true, cond-false, cond_both, true≢false, false≢true}
use Rattle.std.proofs.lemmas.Int.{to_z-of_z}
use Rattle.std.proofs.lemmas.List.{drop_all, length-drop, drop-drop, length-append, take-append-drop, reverse-append, reverse-reverse, length-reverse}
use Rattle.std.proofs.lemmas.Str.{encodes-append, encodes-chars, length-le-encodes, digit_value_digit, cons_from_encodes, IsCharBoundary-at_seam}
use Rattle.std.proofs.Math.Seq.{take-append_seam}
use Rattle.std.proofs.lemmas.Str.Parse.{digit_from_value}
use Rattle.ksql_types.specs.declared.value.SqlType.{SqlType}
use Rattle.ksql_types.specs.declared.value.SqlType.TheVariants as sql
use Rattle.ksql_types.specs.declared.value.Value.TheVariants.{Null, Int, Big}
use Rattle.ksql_expr.specs.Value.{fitting, are_digits, after_spaces, trimmed}

-- ---- characters

pub none_first : (r : Option ℕ) (P : Type 0) (Q : ℕ → Type 0) → MatchOption r P Q → is_some r ≡ false → P
none_first None P Q h e = h
none_first (Some x) P Q h e = absurd (true≢false e)

-- one character further on
pub next_character : (cs : List ℕ) (i : ℕ) (r : Option ℕ) (rest after : List ℕ) (P : Type 0)
    → MatchOption r P (λ x. rest ≡ encode_utf8 x ++ after) → is_some r ≡ true → rest ≡ encode_utf8_all (drop i cs) → after ≡ encode_utf8_all (drop (i + 1) cs)
next_character cs i None rest after P h some is = absurd (false≢true some)
next_character cs i (Some x) rest after P h some is =
    let found = cons_from_encodes (drop i cs) after x (sym is ∙ h) in
    sym (ap encode_utf8_all (sym (drop-drop 1 i cs) ∙ ap (drop 1) found.1) ∙ found.2)

pub next_shorter : (r : Option ℕ) (rest after : List ℕ) (P : Type 0) → MatchOption r P (λ x. rest ≡ encode_utf8 x ++ after) → is_some r ≡ true → length after ≤ length rest
next_shorter None rest after P h some = absurd (false≢true some)
next_shorter (Some x) rest after P h some = omega (arith, ap length h, length-append (encode_utf8 x) after)

-- after the last character there is nothing
pub past_the_end : (cs rest : List ℕ) (i n : ℕ) → rest ≡ encode_utf8_all (drop i cs) → length rest ≡ 0 → i < n → [] ≡ encode_utf8_all (drop n cs)
past_the_end cs rest i n is none below =
    let short : length cs ≤ n = omega (arith, ap length is, length-le-encodes (drop i cs), length-drop i cs) in
    sym (ap encode_utf8_all (drop_all n cs short))

-- a text is its first characters and the others
pub cut : (bs : List ℕ) (n : ℕ) → IsUtf8 bs → bs ≡ encode_utf8_all (take n (chars bs)) ++ encode_utf8_all (drop n (chars bs))
cut bs n utf8 =
    sym (sym (encodes-append (take n (chars bs)) (drop n (chars bs))) ∙ ap encode_utf8_all (take-append-drop n (chars bs)) ∙ encodes-chars bs utf8)

pub front_and_rest : (bs rest : List ℕ) (n : ℕ) → IsUtf8 bs → rest ≡ encode_utf8_all (drop n (chars bs)) → bs ≡ encode_utf8_all (take n (chars bs)) ++ rest
front_and_rest bs rest n utf8 is = cut bs n utf8 ∙ ap (λ r. encode_utf8_all (take n (chars bs)) ++ r) (sym is)

pub length_front : (bs front rest : List ℕ) → bs ≡ front ++ rest → length bs - length rest ≡ length front
length_front bs front rest is = omega (arith, ap length is, length-append front rest)

pub take_front : (bs front rest : List ℕ) → bs ≡ front ++ rest → take (length bs - length rest) bs ≡ front
take_front bs front rest is = ap (λ n. take n bs) (length_front bs front rest is) ∙ ap (take (length front)) is ∙ take-append_seam front rest

pub range_front : (xs : List ℕ) (n : ℕ) → slice_range xs 0 n ≡ take n xs
range_front xs n = grind arith

pub seam : (bs front rest : List ℕ) → bs ≡ front ++ rest → IsUtf8 rest → IsCharBoundary bs (length bs - length rest)
seam bs front rest is utf8 = let P : ℕ → Type 0 = λ n. IsCharBoundary bs n in subst P (sym (length_front bs front rest is)) (IsCharBoundary-at_seam bs front rest is utf8)

pub few_characters : (bs : List ℕ) → IsUtf8 bs → length (chars bs) ≤ length bs
few_characters bs utf8 = omega (arith, ap length (encodes-chars bs utf8), length-le-encodes (chars bs))

-- ---- digits

pub all_digits : (ds : List ℕ) → AllDigits 10 ds → list_all is_ascii_digit ds ≡ true
all_digits [] h = refl
all_digits (c ∷ cs) h =
    let range = digit_from_value c h.0 in
    and_from (is_ascii_digit c) (list_all is_ascii_digit cs) (and_from (nat_le 48 c) (nat_le c 57) (le-leb 48 c range.0) (le-leb c 57 range.1)) (all_digits cs h.1)

pub digits_all : (ds : List ℕ) → list_all is_ascii_digit ds ≡ true → AllDigits 10 ds
digits_all [] h = tt
digits_all (c ∷ cs) h =
    let both = and_parts (is_ascii_digit c) (list_all is_ascii_digit cs) h in
    let range = and_parts (nat_le 48 c) (nat_le c 57) both.0 in
    let low : 48 ≤ c = leb-true 48 c range.0 in
    let high : c ≤ 57 = leb-true c 57 range.1 in
    let value : digit_value c + 48 ≡ c = digit_value_digit c (low, high) in
    (omega arith, digits_all cs both.1)

pub read_right : (ds : List ℕ) (x z : ℤ) (to : SqlType) → IsNumeral 10 ds → x ≡ z → FitsSigned w64 x
    → fitting to (cast_signed w64 (cast_unsigned w64 x)) ≡ (if are_digits ds then fitting to z else Null)
read_right ds x z to numeral is fits =
    ap (fitting to) (to_z-of_z w64 x fits ∙ is)
    ∙ sym (cond-true (are_digits ds) (fitting to z) Null (and_from (nat_lt 0 (length ds)) (list_all is_ascii_digit ds) (lt-ltb 0 (length ds) numeral.0) (all_digits ds numeral.1)))

not_below : (n limit : ℕ) → limit ≤ 2 ^ 63 → (n < 2 ^ 63 → ⊥) → nat_lt n limit ≡ false
not_below n limit small h = le-ltb n limit (elim (cases_lt n (2 ^ 63)) [ inl below ↦ absurd (h below) | inr above ↦ omega arith ])

too_large : (to : SqlType) (z : ℤ) → (FitsSigned w64 z → ⊥) → fitting to z ≡ Null
too_large sql.Int (pos n) h = cond-false (nat_lt n (2 ^ 31)) (Int (pos n)) Null (not_below n (2 ^ 31) (lit≤ tt) (λ below. h (record { sfits = below })))
too_large sql.Int (negsuc n) h = cond-false (nat_lt n (2 ^ 31)) (Int (negsuc n)) Null (not_below n (2 ^ 31) (lit≤ tt) (λ below. h (record { sfits = below })))
too_large sql.Big (pos n) h = cond-false (nat_lt n (2 ^ 63)) (Big (pos n)) Null (not_below n (2 ^ 63) (lit≤ tt) (λ below. h (record { sfits = below })))
too_large sql.Big (negsuc n) h = cond-false (nat_lt n (2 ^ 63)) (Big (negsuc n)) Null (not_below n (2 ^ 63) (lit≤ tt) (λ below. h (record { sfits = below })))
too_large sql.Text z h = refl
too_large sql.Bool z h = refl

pub read_wrong : (ds : List ℕ) (z : ℤ) (to : SqlType) → ¬ (IsNumeral 10 ds × FitsSigned w64 z) → Null ≡ (if are_digits ds then fitting to z else Null)
read_wrong ds z to wrong =
    elim (cases_Bool (are_digits ds)) [
      | inl digits ↦
          let both = and_parts (nat_lt 0 (length ds)) (list_all is_ascii_digit ds) digits in
          sym (cond-true (are_digits ds) (fitting to z) Null digits ∙ too_large to z (λ fits. wrong ((ltb-true 0 (length ds) both.0, digits_all ds both.1), fits)))
      | inr others ↦ sym (cond-false (are_digits ds) (fitting to z) Null others)
    ]

-- ---- spaces

pub no_space_first : (t : List ℕ) → ((rest : List ℕ) → t ≢ 32 ∷ rest) → after_spaces t ≡ t
no_space_first [] h = refl
no_space_first (c ∷ cs) h = cond-false (c == 32) (after_spaces cs) (c ∷ cs) (ne_eqb c 32 (λ e. h cs (ap (λ x. x ∷ cs) e)))

pub space_last : (t before : List ℕ) → t ≡ before ++ 32 ∷ [] → after_spaces (reverse before) ≡ after_spaces (reverse t)
space_last t before is = sym (ap (λ l. after_spaces (reverse l)) is ∙ ap after_spaces (reverse-append before (32 ∷ [])))

pub no_space_last : (t : List ℕ) → ((front : List ℕ) → t ≢ front ++ 32 ∷ []) → t ≡ reverse (after_spaces (reverse t))
no_space_last t h =
    let none : (rest : List ℕ) → reverse t ≢ 32 ∷ rest = λ rest e. h (reverse rest) (sym (reverse-reverse t) ∙ ap reverse e ∙ reverse-append (32 ∷ []) rest) in
    sym (ap reverse (no_space_first (reverse t) none) ∙ reverse-reverse t)

pub after_shorter : (t : List ℕ) → length (after_spaces t) ≤ length t
after_shorter [] = omega arith
after_shorter (c ∷ cs) = cond_both (c == 32) (after_spaces cs) (c ∷ cs) (λ l. length l ≤ length (c ∷ cs)) (λ is. let h = after_shorter cs in omega arith) (λ other. omega arith)

pub trimmed_shorter : (t : List ℕ) → length (trimmed t) ≤ length t
trimmed_shorter t = omega (arith, length-reverse (after_spaces (reverse (after_spaces t))), after_shorter (reverse (after_spaces t)), length-reverse (after_spaces t), after_shorter t)
