-- What a loop over expressions has found, and what remains.
use Rattle.std.proofs.Common.{◌≡◌, ◌∙◌, ap, sym, ℕ, ◌+◌, ◌<◌, Bool, true, false, List, ◌∷◌, length, drop, get_or, Option, Some}
use Rattle.std.specs.Prelude.{map, ◌||◌}
use Rattle.std.specs.List.{list_any}
use Rattle.std.proofs.lemmas.Bool.{cond-true, cond-false}
use Rattle.std.proofs.lemmas.List.{drop_more}
use Rattle.ksql_types.specs.Key.{is_null}
use Rattle.ksql_types.specs.declared.value.Value.{Value}
use Rattle.ksql_expr.specs.declared.typed.TypedWhen.{TypedWhen}
use Rattle.ksql_eval.specs.Operand.{whens_of}
use Rattle.ksql_expr.specs.Value.{value_of, is_taken, first_taken, first_value}

-- the item at an index, and the rest
pub item_and_rest : {X : Type 0} (xs : List X) (i : ℕ) (x : X) → i < length xs → x ≡ get_or xs i x → drop i xs ≡ x ∷ drop (i + 1) xs
item_and_rest xs i x below is = drop_more xs i x below ∙ ap (λ y. y ∷ drop (i + 1) xs) (sym is)

module _ {X : Type 0} (f : X → Value) (xs rest : List X) (x : X) (at : xs ≡ x ∷ rest) where
  pub value_found : (v : Value) → v ≡ f x → (whole : Value) → is_null v ≡ false → first_value (map f xs) ≡ whole → v ≡ whole
  value_found v is whole there same = is ∙ sym (ap (λ l. first_value (map f l)) at ∙ cond-false (is_null (f x)) (first_value (map f rest)) (f x) (ap is_null (sym is) ∙ there)) ∙ same

  pub any_found : (test : Value → Bool) (whole : Bool) → test (f x) ≡ true → list_any test (map f xs) ≡ whole → true ≡ whole
  any_found test whole passes same = sym (ap (λ l. list_any test (map f l)) at ∙ ap (λ b. b || list_any test (map f rest)) passes) ∙ same

-- WHENs
module _ (row : List Value) (time : ℕ) (operand : Option Value) (ws rest : List TypedWhen) (w : TypedWhen) (at : ws ≡ w ∷ rest) where
  pub when_found : (whole : Option Value) → is_taken operand (value_of row time w.cond) ≡ true → first_taken operand (whens_of row time ws) ≡ whole → Some (value_of row time w.result) ≡ whole
  when_found whole taken same =
      sym (ap (λ l. first_taken operand (whens_of row time l)) at
      ∙ cond-true (is_taken operand (value_of row time w.cond)) (Some (value_of row time w.result)) (first_taken operand (whens_of row time rest)) taken) ∙ same
