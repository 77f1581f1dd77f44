-- A value within the bounds of a parser of numbers reads as a number within them.
use Rattle.std.proofs.Common.{◌≡◌, ◌≤◌, ℕ, Bool, true, false, List, [], ◌∷◌, cond, Some, None, refl, sym, subst, arith}
use Rattle.std.specs.Prelude.{pos, slice_get}
use Rattle.std.specs.Option.{IfSome, option_map, unwrap_or}
use Rattle.std.specs.Str.Parse.{IsNumeral, starts_with_minus, without_leading_plus}
use Rattle.std.proofs.lemmas.Int.{ints}
use Rattle.clap.specs.Kinds.{value_kinds, values_kinds}
use Rattle.clap.specs.Lexer.{without_minus}
use Rattle.clap.specs.Values.{IsSignedIn, read_as}
use Rattle.clap.specs.ValueTests.{accepts}
use Rattle.clap.specs.Walk.{Text}
use Rattle.clap.specs.declared.builder.value_parser.Reading.TheVariants.{WithoutMinus}
use Rattle.clap.specs.declared.builder.value_parser.ValueParser.{ValueParser}
use Rattle.clap.specs.declared.builder.value_parser.ValueParser.TheVariants.{Signed}
use Rattle.clap.proofs.ValueTestLemmas.{accepts-Accepts}
use Rattle.command_line.specs.Words.{number_in}
use Rattle.command_line.proofs.Uses.{both_pass}

-- the text is a number within the bounds
pub record IsNumberFrom (low high : ℕ) (text : Text) : Type 0 where
  pub numeral : IsNumeral 10 (without_leading_plus text)
  pub least : low ≤ number_in text
  pub most : number_in text ≤ high

minus_kept : (text : Text) → starts_with_minus text ≡ false → without_minus text ≡ text
minus_kept [] none = refl
minus_kept (x ∷ xs) none = subst (λ b. unwrap_or (cond b (Some xs) None) (x ∷ xs) ≡ x ∷ xs) (sym none) refl

signed_number : (low high : ℕ) (text : Text) → 1 ≤ low → IsSignedIn (pos low) (pos high) text → IsNumberFrom low high (without_minus text)
signed_number low high text least is = go (starts_with_minus text) refl
  where
    go : (b : Bool) → starts_with_minus text ≡ b → IsNumberFrom low high (without_minus text)
    go true minus =
        let low_ok = rw minus at is.2 in
        absurd (omega (arith, ints))
    go false none =
        let numeral = rw none at is.0 in
        let low_ok = rw none at is.2 in
        let high_ok = rw none at is.3 in
        subst (IsNumberFrom low high) (sym (minus_kept text none)) (record { numeral = numeral; least = omega (arith, ints); most = omega (arith, ints) })

accepted_value : (ignore_case : Bool) (parser : ValueParser) (text : Text) → value_kinds ignore_case parser text ≡ [] → accepts ignore_case parser text ≡ true
accepted_value ignore_case parser text none = go (accepts ignore_case parser text) refl
  where
    go : (b : Bool) → accepts ignore_case parser text ≡ b → accepts ignore_case parser text ≡ true
    go true e = e
    go false e =
        let bad = subst (λ b. cond b [] (Rattle.clap.specs.Values.refused_kind parser ∷ []) ≡ []) e none in
        cc

-- the first of the values that such a parser accepts
pub first_number : (low high : ℕ) (ignore_case : Bool) (values : List Text) → 1 ≤ low
    → values_kinds ignore_case (Signed (pos low) (pos high)) values ≡ []
    → IfSome (option_map (read_as WithoutMinus) (slice_get values 0)) (IsNumberFrom low high)
first_number low high ignore_case [] least none = tt
first_number low high ignore_case (v ∷ vs) least none =
    let first = both_pass (value_kinds ignore_case (Signed (pos low) (pos high)) v) _ none in
    signed_number low high v least
    (accepts-Accepts ignore_case (Signed (pos low) (pos high)) v (accepted_value ignore_case (Signed (pos low) (pos high)) v first.0))
