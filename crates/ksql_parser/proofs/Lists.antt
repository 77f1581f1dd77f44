-- Lists with commas: what is read is spelled, and what is spelled is read.
use Rattle.std.proofs.Common.{◌≡◌, ℕ, zero, suc, List, [], ◌∷◌, Option, Some, None, ap, ◌∙◌}
use Rattle.ksql_lexer.specs.declared.token.Mark.TheVariants as mark
use Rattle.ksql_grammar.specs.declared.symbol.Symbol.{Symbol}
use Rattle.ksql_grammar.specs.declared.symbol.Symbol.TheVariants.{Sign}
use Rattle.ksql_parser.specs.Grammar.{Phrase, Spells}
use Rattle.ksql_grammar.specs.Expressions.{Reader, after_sign, list_end, list_of}
use Rattle.ksql_grammar.proofs.Chains.{then, end_more}
use Rattle.ksql_parser.proofs.Steps.{along}
use Rattle.ksql_grammar.proofs.Steps.{If, if_bind, if_weaker, sign_found, sign_there}

end_found : {A : Type 0} (o : Option (List Symbol)) (x : A × List Symbol) (others : Reader (List A)) (P : List Symbol → Type 0) (Q : List A × List Symbol → Type 0)
    → If o P → Q (x.0 ∷ [], x.1) → ((us : List Symbol) → P us → If (others us) (λ xs. Q (x.0 ∷ xs.0, xs.1))) → If (list_end x others o) Q
end_found None x others P Q h last next = last
end_found (Some us) x others P Q h last next = if_bind (others us) _ (λ xs. Q (x.0 ∷ xs.0, xs.1)) Q (next us h) (λ xs q. q)

module _ {A : Type 0} (item : Reader A) where
  -- with the phrases of an item and of a list, and the rules for its last item and for more of them
  pub list_found : (one : A → Phrase) (all : List A → Phrase) → ((ts : List Symbol) → If (item ts) (λ x. Spells (one x.0) ts x.1))
      → ((x : A) (ts us : List Symbol) → Spells (one x) ts us → Spells (all (x ∷ [])) ts us)
      → ((x : A) (xs : List A) (ts us vs : List Symbol) → Spells (one x) ts (Sign mark.Comma ∷ us) → Spells (all xs) us vs → Spells (all (x ∷ xs)) ts vs)
      → (n : ℕ) (ts : List Symbol) → If (list_of item (after_sign mark.Comma) n ts) (λ x. Spells (all x.0) ts x.1)
  unfolding list_of
  list_found one all item_found last next zero ts = tt
  list_found one all item_found last next (suc n) ts =
      if_bind (item ts) _ (λ x. Spells (one x.0) ts x.1) (λ x. Spells (all x.0) ts x.1) (item_found ts)
      (λ a d. end_found (after_sign mark.Comma a.1) a (list_of item (after_sign mark.Comma) n) (λ us. a.1 ≡ Sign mark.Comma ∷ us)
      (λ x. Spells (all x.0) ts x.1) (sign_found mark.Comma a.1) (last a.0 ts a.1 d)
      (λ us h. if_weaker (list_of item (after_sign mark.Comma) n us) (λ x. Spells (all x.0) us x.1) _ (list_found one all item_found last next n us)
      (λ xs f. next a.0 xs.0 ts us xs.1 (along d h) f)))

  pub last_only : (x : A) (ts us : List Symbol) (n : ℕ) → item ts ≡ Some (x, us) → after_sign mark.Comma us ≡ None → list_of item (after_sign mark.Comma) (suc n) ts ≡ Some (x ∷ [], us)
  unfolding list_of
  last_only x ts us n h none = then (item ts) _ (x, us) _ h (ap (list_end (x, us) (list_of item (after_sign mark.Comma) n)) none)

  pub more_only : (x : A) (xs : List A) (ts us vs : List Symbol) (n : ℕ) → item ts ≡ Some (x, Sign mark.Comma ∷ us) → list_of item (after_sign mark.Comma) n us ≡ Some (xs, vs)
      → list_of item (after_sign mark.Comma) (suc n) ts ≡ Some (x ∷ xs, vs)
  unfolding list_of
  more_only x xs ts us vs n h k =
      then (item ts) _ (x, Sign mark.Comma ∷ us) _ h
      (ap (list_end (x, Sign mark.Comma ∷ us) (list_of item (after_sign mark.Comma) n)) (sign_there mark.Comma us)
      ∙ end_more (Some us) (x, Sign mark.Comma ∷ us) (list_of item (after_sign mark.Comma) n) xs vs k)
