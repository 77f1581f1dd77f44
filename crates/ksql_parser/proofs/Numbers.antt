-- What `parse` reads from decimal digits.
use Rattle.std.proofs.Common.{◌≡◌, ℕ, ◌<◌, ◌^◌, ◌-◌, min, true, List, length, Result, Err, subst, arith, rules}
use Rattle.std.specs.Prelude.{IsTrue, nat_lt}
use Rattle.std.specs.List.{list_all}
use Rattle.std.specs.Char.{is_ascii_digit}
use Rattle.std.specs.Str.Parse.{ParsesUnsigned, digits_value}
use Rattle.std.specs.Result.{OkIff}
use Rattle.std.proofs.lemmas.Str.Parse.{IsNumeralModel, numerals_by_value, parse_digits}
use Rattle.std.proofs.lemmas.Bool.{and_parts, ltb-true}
use Rattle.ksql_parser.specs.Words.{are_digits, capped_value}

own : IsNumeralModel (λ ds. list_all is_ascii_digit ds ≡ true) (digits_value 10)
own = numerals_by_value _ (search rules)

-- an error says that the number takes more than 64 bits
pub capped : {E : Type 0} (ds : List ℕ) (r : Result ℕ E) → ParsesUnsigned 64 10 ds r → (e : E) → r ≡ Err e → IsTrue (are_digits ds) → 2 ^ 64 - 1 ≡ capped_value ds
capped {E = E} ds r parses e is_err written =
    let parts = and_parts (nat_lt 0 (length ds)) (list_all is_ascii_digit ds) written in
    let none : ¬ ((0 < length ds) × (digits_value 10 ds < 2 ^ 64)) =
    subst (λ (x : Result ℕ E). OkIff x ((0 < length ds) × (digits_value 10 ds < 2 ^ 64)) (digits_value 10 ds)) is_err (parse_digits own 64 ds r parses parts.1) in
    over (length ds) (digits_value 10 ds) (ltb-true 0 (length ds) parts.0) none
  where
    over : (n v : ℕ) → 0 < n → ¬ ((0 < n) × (v < 2 ^ 64)) → 2 ^ 64 - 1 ≡ min v (2 ^ 64 - 1)
    over n v some none = grind arith
