-- A table of words in parts.
use Rattle.std.proofs.Common.{◌≡◌, ℕ, true, false, cond, List, [], ◌∷◌, ◌++◌, Some, refl, ap, ◌∙◌, bytes_eq}
use Rattle.std.specs.Option.{option_or}
use Rattle.ksql_grammar.specs.Symbols.{reserved_words}
use Rattle.expression_trees.specs.Words.{beside}
use Rattle.ksql_parser.specs.Words.{statement_words, clause_words, expression_words, closing_words}

-- the entry of a word in two tables is that in the first, or else that in the second
pub beside-append : {A : Type 0} (xs ys : List (List ℕ × A)) (word : List ℕ) → beside (xs ++ ys) word ≡ option_or (beside xs word) (beside ys word)
beside-append [] ys word = refl
beside-append (x ∷ xs) ys word =
    elim (bytes_eq x.0 word) as (λ b. cond b (Some x.1) (beside (xs ++ ys) word) ≡ option_or (cond b (Some x.1) (beside xs word)) (beside ys word)) [
      | true ↦ refl
      | false ↦ beside-append xs ys word
    ]

pub joined : (word : List ℕ) → beside reserved_words word ≡ option_or (option_or (option_or (beside statement_words word) (beside clause_words word)) (beside expression_words word)) (beside closing_words word)
joined word =
    beside-append (statement_words ++ (clause_words ++ expression_words)) closing_words word
    ∙ ap (λ o. option_or o (beside closing_words word)) (beside-append (statement_words ++ clause_words) expression_words word
    ∙ ap (λ o. option_or o (beside expression_words word)) (beside-append statement_words clause_words word))
