-- Each list of tokens has the trees of its statements, or a first refusal.
use Rattle.std.proofs.Common.{ℕ, zero, suc, ◌+◌, ◌⊎◌, inl, inr, ⊎_elim, List, [], ◌∷◌, length, take, refl, subst, arith, add-one}
use Rattle.std.specs.Prelude.{◌||◌, count_by, map}
use Rattle.std.specs.List.{list_any}
use Rattle.std.proofs.lemmas.Bool.{cases_lt, cases_Bool, both_ways}
use Rattle.ksql_types.specs.declared.code.Code.{Code}
use Rattle.ksql_lexer.specs.declared.token.TokenKind.{TokenKind}
use Rattle.statement_trees.specs.declared.tree.Statement.{Statement}
use Rattle.ksql_grammar.specs.Symbols.{symbol_of}
use Rattle.ksql_parser.specs.Limits.{Rule, too_many, too_deep, too_large, unsupported, unspelled, rules, Refuses, RefusesFirst, NoneRefuses, code_of, is_opening, is_closing, is_too_large, begins_with_select, joins_twice, is_unsupported, IsTooDeep, IsSpelled, HasUnsupported}
use Rattle.ksql_parser.specs.Script.{IsTreeOf, AreTrees, FirstRefused, here, later}
use Rattle.ksql_parser.proofs.Runs.{ShallowTo, shallow_none, shallow_more, not_deep}
use Rattle.ksql_script.proofs.SomeStatements.{some_spelling}

-- ---- each rule refuses a statement or doesn't

deep_or_shallow : (ts : List TokenKind) (i : ℕ) → IsTooDeep ts ⊎ ShallowTo i ts
deep_or_shallow ts zero = inr (shallow_none ts)
deep_or_shallow ts (suc i) =
    ⊎_elim inl
    (λ before. ⊎_elim
    (λ deep. inl (i + 1, deep))
    (λ shallow. inr (subst (λ n. ShallowTo n ts) (add-one i) (shallow_more ts i before shallow)))
    (cases_lt (count_by is_closing (take (i + 1) ts) + 64) (count_by is_opening (take (i + 1) ts))))
    (deep_or_shallow ts i)

some_spelled : (ts : List TokenKind) → Dec (IsSpelled ts)
some_spelled ts = some_spelling (map symbol_of ts)

some_form : (ts : List TokenKind) → Dec (HasUnsupported ts)
some_form ts =
    let test = begins_with_select ts || joins_twice ts || list_any is_unsupported ts in
    ⊎_elim yes (λ f. no (both_ways test f)) (cases_Bool test)

some_unsupported : (ts : List TokenKind) → Dec (IsSpelled ts) → Dec (HasUnsupported ts) → Dec (Refuses unsupported ts)
some_unsupported ts (yes s) form = no (λ h. h.0 s)
some_unsupported ts (no n) (yes f) = yes (n, f)
some_unsupported ts (no n) (no none) = no (λ h. none h.1)

some_refusal : (r : Rule) (ts : List TokenKind) → Dec (Refuses r ts)
some_refusal too_many ts = ⊎_elim yes (λ few. no (λ many. omega arith)) (cases_lt 2000 (length ts))
some_refusal too_deep ts = ⊎_elim yes (λ shallow. no (not_deep ts (length ts) (omega arith) shallow)) (deep_or_shallow ts (length ts))
some_refusal too_large ts = ⊎_elim yes (λ f. no (both_ways (list_any is_too_large ts) f)) (cases_Bool (list_any is_too_large ts))
some_refusal unsupported ts = some_unsupported ts (some_spelled ts) (some_form ts)
some_refusal unspelled ts = refused (some_spelled ts)
  where
    refused : Dec (IsSpelled ts) → Dec (¬ (IsSpelled ts))
    refused (yes s) = no (λ n. n s)
    refused (no n) = yes n

-- one refuses it first, or none does
abbrev IsRuled : List Rule → List TokenKind → Type 0
IsRuled rs ts = ((code : Code) × RefusesFirst rs ts code) ⊎ NoneRefuses rs ts

ruled_by : (r : Rule) (rs : List Rule) (ts : List TokenKind) → Dec (Refuses r ts) → IsRuled rs ts → IsRuled (r ∷ rs) ts
ruled_by r rs ts (yes h) others = inl (code_of r, inl (h, refl))
ruled_by r rs ts (no h) (inl first) = inl (first.0, inr (h, first.1))
ruled_by r rs ts (no h) (inr none) = inr (h, none)

some_rule : (rs : List Rule) (ts : List TokenKind) → IsRuled rs ts
some_rule [] ts = inr tt
some_rule (r ∷ rs) ts = ruled_by r rs ts (some_refusal r ts) (some_rule rs ts)

-- ---- each statement has a tree or is refused, and so all of them

some_tree : (ts : List TokenKind) → ((code : Code) × RefusesFirst rules ts code) ⊎ ((s : Statement) × IsTreeOf ts s)
some_tree ts = at (some_rule rules ts) (some_spelled ts)
  where
    at : IsRuled rules ts → Dec (IsSpelled ts) → ((code : Code) × RefusesFirst rules ts code) ⊎ ((s : Statement) × IsTreeOf ts s)
    at (inl first) spelled = inl first
    at (inr none) (yes s) = inr (s.0, (none, s.1))
    at (inr none) (no n) = absurd (none.1.1.1.1.0 n)

abbrev AreParsedOrRefused : List (List TokenKind) → Type 0
AreParsedOrRefused tss = ((trees : List Statement) × AreTrees tss trees) ⊎ ((n : ℕ) × (code : Code) × FirstRefused tss n code)

parsed_behind : (ts : List TokenKind) (tss : List (List TokenKind)) → ((code : Code) × RefusesFirst rules ts code) ⊎ ((s : Statement) × IsTreeOf ts s)
    → AreParsedOrRefused tss → AreParsedOrRefused (ts ∷ tss)
parsed_behind ts tss (inl first) others = inr (1, first.0, here first.1)
parsed_behind ts tss (inr s) (inl trees) = inl (s.0 ∷ trees.0, (s.1, trees.1))
parsed_behind ts tss (inr s) (inr refused) = inr (suc refused.0, refused.1, later s.1.0 refused.2)

pub some_trees : (tss : List (List TokenKind)) → ((trees : List Statement) × AreTrees tss trees) ⊎ ((n : ℕ) × (code : Code) × FirstRefused tss n code)
some_trees [] = inl ([], tt)
some_trees (ts ∷ tss) = parsed_behind ts tss (some_tree ts) (some_trees tss)
