-- Lemmas on the fields of a row: as values of columns, as whole numbers and as truth values.
use Rattle.std.proofs.Common.{◌≡◌, ◌≢◌, ℕ, ◌+◌, ◌^◌, ◌<◌, ◌≤◌, zero, suc, List, [], ◌∷◌, ◌++◌, length, map, get_or, drop, Bool, true, false, cond, ◌==◌, ◌&&◌, ◌↔◌, IsTrue, nat_lt, nat_le, Result, Ok, Err, Option, Some, None, option_map, option_and_then, refl, sym, ap, ap₂, ◌∙◌, inl, inr, arith, add-one, append_assoc, append-nil, lt-ltb, ltb-true, le-leb, leb-true}
use Rattle.std.specs.Prelude.{ℤ, pos, negsuc, FitsSigned, slice_index}
use Rattle.std.specs.Int.{w64}
use Rattle.std.specs.Char.{is_ascii_digit, to_ascii_lowercase}
use Rattle.std.specs.List.{list_all}
use Rattle.std.specs.Result.{result_ok}
use Rattle.std.specs.Str.Parse.{AllDigits, IsNumeral, ParsesSigned, signed_digits_value, without_leading_sign}
use Rattle.std.proofs.lemmas.Bool.{and_parts, and_from, cases_Bool, cond-true, cond-false, eqb-true, false_from_ne_true}
use Rattle.std.proofs.lemmas.List.{drop_all, drop_more}
use Rattle.std.proofs.lemmas.Str.{digit_value_digit}
use Rattle.std.proofs.lemmas.Str.Parse.{digit_from_value}
use Rattle.csv.specs.Records.{field_at}
use Rattle.ksql_types.specs.declared.relation.Column.{Column}
use Rattle.ksql_types.specs.declared.value.Value.{Value}
use Rattle.ksql_expr.specs.Value.{are_digits}
use Rattle.topic_files.specs.Cells.{is_like}
use Rattle.topic_files.specs.Delimited.{as_big, field_value, row_of, whole, without_minus}
use Rattle.topic_files.proofs.Members.{is_like-is}

-- ---- whole numbers

all_digits : (ds : List ℕ) → AllDigits 10 ds → list_all is_ascii_digit ds ≡ true
all_digits [] h = refl
all_digits (c ∷ cs) h =
    let range = digit_from_value c h.0 in
    and_from (is_ascii_digit c) (list_all is_ascii_digit cs) (and_from (nat_le 48 c) (nat_le c 57) (le-leb 48 c range.0) (le-leb c 57 range.1)) (all_digits cs h.1)

digits_all : (ds : List ℕ) → list_all is_ascii_digit ds ≡ true → AllDigits 10 ds
digits_all [] h = tt
digits_all (c ∷ cs) h =
    let both = and_parts (is_ascii_digit c) (list_all is_ascii_digit cs) h in
    let range = and_parts (nat_le 48 c) (nat_le c 57) both.0 in
    let low : 48 ≤ c = leb-true 48 c range.0 in
    let high : c ≤ 57 = leb-true c 57 range.1 in
    let value = digit_value_digit c (low, high) in
    (omega arith, digits_all cs both.1)

are_digits-numeral : (ds : List ℕ) → IsNumeral 10 ds → are_digits ds ≡ true
are_digits-numeral ds numeral = and_from (nat_lt 0 (length ds)) (list_all is_ascii_digit ds) (lt-ltb 0 (length ds) numeral.0) (all_digits ds numeral.1)

numeral-are_digits : (ds : List ℕ) → are_digits ds ≡ true → IsNumeral 10 ds
numeral-are_digits ds digits =
    let both = and_parts (nat_lt 0 (length ds)) (list_all is_ascii_digit ds) digits in
    (ltb-true 0 (length ds) both.0, digits_all ds both.1)

as_big-fits : (z : ℤ) → FitsSigned w64 z → as_big z ≡ Some z
as_big-fits (pos n) fits = cond-true (nat_lt n (2 ^ 63)) (Some (pos n)) None (lt-ltb n (2 ^ 63) fits.sfits)
as_big-fits (negsuc n) fits = cond-true (nat_lt n (2 ^ 63)) (Some (negsuc n)) None (lt-ltb n (2 ^ 63) fits.sfits)

as_big-passes : (z : ℤ) → (FitsSigned w64 z → ⊥) → as_big z ≡ None
as_big-passes (pos n) passes =
    cond-false (nat_lt n (2 ^ 63)) (Some (pos n)) None (false_from_ne_true (nat_lt n (2 ^ 63)) (λ below. passes (record { sfits = ltb-true n (2 ^ 63) below })))
as_big-passes (negsuc n) passes =
    cond-false (nat_lt n (2 ^ 63)) (Some (negsuc n)) None (false_from_ne_true (nat_lt n (2 ^ 63)) (λ below. passes (record { sfits = ltb-true n (2 ^ 63) below })))

-- without a plus sign at its start, a field has a minus sign or none
without_minus-is : (field : List ℕ) → (slice_index field 0 == 43) ≡ false → without_leading_sign field ≡ without_minus field
without_minus-is [] none = refl
without_minus-is (byte ∷ more) none = ap (λ plus. cond (byte == 45) more (drop (cond plus 1 0) (byte ∷ more))) none

-- a plus sign is no digit
pub whole-plus : (field : List ℕ) → (slice_index field 0 == 43) ≡ true → whole field ≡ None
whole-plus [] plus = refl
whole-plus (byte ∷ more) plus =
    ap (λ b. whole (b ∷ more)) (eqb-true byte 43 plus)
    ∙ cond-false (are_digits (43 ∷ more)) (Some (signed_digits_value 10 (43 ∷ more))) None (ap (λ some. some && false) (lt-ltb 0 (length (43 ∷ more)) (omega arith)))

-- the number that is parsed is the number that a field without a plus sign writes
pub whole-parsed : {E : Type 0} (field : List ℕ) (r : Result ℤ E) → (slice_index field 0 == 43) ≡ false → ParsesSigned w64 10 field r
    → result_ok r ≡ option_and_then as_big (whole field)
whole-parsed field (Ok number) none parsed =
    let numeral = parsed.0.0 in
    let digits = ap are_digits (sym (without_minus-is field none)) ∙ are_digits-numeral _ numeral in
    let is = cond-true (are_digits (without_minus field)) (Some (signed_digits_value 10 field)) None digits in
    ap Some parsed.1 ∙ sym (ap (option_and_then as_big) is ∙ as_big-fits _ parsed.0.1)
whole-parsed field (Err e) none parsed = elim (cases_Bool (are_digits (without_minus field))) [
  | inl digits ↦
      let numeral = numeral-are_digits _ (ap are_digits (without_minus-is field none) ∙ digits) in
      let is = cond-true (are_digits (without_minus field)) (Some (signed_digits_value 10 field)) None digits in
      sym (ap (option_and_then as_big) is ∙ as_big-passes _ (λ fits. parsed (numeral, fits)))
  | inr others ↦ sym (ap (option_and_then as_big) (cond-false (are_digits (without_minus field)) (Some (signed_digits_value 10 field)) None others))
]

-- ---- truth values

-- a field matches a text if they are equal in lower case
pub is_like-text : (text field : List ℕ) (b : Bool) → IsTrue b ↔ (map to_ascii_lowercase field ≡ map to_ascii_lowercase text) → is_like text field ≡ b
is_like-text text field b test = is_like-is text field b (λ t. sym (test.0 t), λ e. test.1 (sym e))

-- ---- rows

-- if there are more or fewer fields than columns, they are no row
pub row_of-lengths : (columns : List Column) (fields : List (List ℕ)) → length fields ≢ length columns → row_of columns fields ≡ None
row_of-lengths [] [] other = absurd (other refl)
row_of-lengths [] (field ∷ fields) other = refl
row_of-lengths (column ∷ columns) [] other = refl
row_of-lengths (column ∷ columns) (field ∷ fields) other = by_value (field_value column.ty field) (row_of-lengths columns fields (λ e. other (ap suc e)))
  where
    by_value : (o : Option Value) → row_of columns fields ≡ None
        → option_and_then (λ value. option_map (λ more. value ∷ more) (row_of columns fields)) o ≡ None
    by_value None none = refl
    by_value (Some value) none = ap (option_map (λ more. value ∷ more)) none

-- a field at a place is the first of those from it on
drop-field_at : (fields : List (List ℕ)) (i : ℕ) (field : List ℕ) → field_at fields i ≡ Some field → drop i fields ≡ field ∷ drop (suc i) fields
unfolding field_at
drop-field_at [] i field e = cc e
drop-field_at (first ∷ fields) zero field e = let same : first ≡ field = cc in ap (λ f. f ∷ fields) same
drop-field_at (first ∷ fields) (suc i) field e = drop-field_at fields i field e

values_before : (values : List Value) (value : Value) (o : Option (List Value))
    → option_map (λ more. values ++ more) (option_map (λ more. value ∷ more) o) ≡ option_map (λ more. (values ++ value ∷ []) ++ more) o
values_before values value None = refl
values_before values value (Some more) = ap Some (sym (append_assoc values (value ∷ []) more))

module _ (columns : List Column) (fields : List (List ℕ)) (i : ℕ) (column : Column) (field : List ℕ)
    (inside : i < length columns) (there : column ≡ get_or columns i column) (is : field_at fields i ≡ Some field) where
  -- the row from a place on is its field's value before the rest
  next_field : row_of (drop i columns) (drop i fields)
      ≡ option_and_then (λ value. option_map (λ more. value ∷ more) (row_of (drop (i + 1) columns) (drop (i + 1) fields))) (field_value column.ty field)
  next_field =
      ap₂ row_of (drop_more columns i column inside ∙ ap (λ c. c ∷ drop (i + 1) columns) (sym there))
      (drop-field_at fields i field is ∙ ap (λ n. field ∷ drop n fields) (sym (add-one i)))

  -- with the value of one more field
  pub row_of-more : (values : List Value) (value : Value) → Some value ≡ field_value column.ty field
      → option_map (λ more. values ++ more) (row_of (drop i columns) (drop i fields))
      ≡ option_map (λ more. (values ++ value ∷ []) ++ more) (row_of (drop (i + 1) columns) (drop (i + 1) fields))
  row_of-more values value e =
      ap (option_map (λ more. values ++ more)) (next_field ∙ ap (option_and_then (λ value. option_map (λ more. value ∷ more) (row_of (drop (i + 1) columns) (drop (i + 1) fields)))) (sym e))
      ∙ values_before values value (row_of (drop (i + 1) columns) (drop (i + 1) fields))

  -- a field that isn't of its column's type
  pub row_of-other : (values : List Value) → None ≡ field_value column.ty field
      → option_map (λ more. values ++ more) (row_of (drop i columns) (drop i fields)) ≡ None
  row_of-other values e =
      ap (option_map (λ more. values ++ more)) (next_field ∙ ap (option_and_then (λ value. option_map (λ more. value ∷ more) (row_of (drop (i + 1) columns) (drop (i + 1) fields)))) (sym e))

-- after the last field
pub row_of-end : (columns : List Column) (fields : List (List ℕ)) (n : ℕ) (values : List Value) → length columns ≤ n → length fields ≡ length columns
    → option_map (λ more. values ++ more) (row_of (drop n columns) (drop n fields)) ≡ Some values
row_of-end columns fields n values ends same =
    ap (option_map (λ more. values ++ more)) (ap₂ row_of (drop_all n columns ends) (drop_all n fields (omega arith)))
    ∙ ap Some (append-nil values)
