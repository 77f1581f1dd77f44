-- The findings about an expression, given those about its parts: one equation for each form.
use Rattle.std.proofs.lemmas.Bool.Decides.{nat_tests}
use Rattle.std.proofs.Common.{◌≡◌, ℕ, suc, arith, Bool, true, false, not, ◌&&◌, ◌||◌, if◌then◌else◌, List, [], ◌∷◌, ◌++◌, map, length, Option, Some, None, refl, ap, ap₂, sym, ◌∙◌}
use Rattle.std.specs.Prelude.{◌==◌, nat_lt}
use Rattle.std.specs.List.{list_any}
use Rattle.std.proofs.lemmas.List.Folds.{list_any-append}
use Rattle.ksql_types.specs.declared.operator.BinaryOp.{BinaryOp}
use Rattle.ksql_types.specs.declared.value.SqlType.{SqlType}
use Rattle.ksql_types.specs.declared.value.SqlType.TheVariants as sql
use Rattle.ksql_types.specs.declared.value.Value.TheVariants as value
use Rattle.expression_trees.specs.declared.tree.Expr.{Expr}
use Rattle.expression_trees.specs.declared.tree.Expr.TheVariants as e
use Rattle.expression_trees.specs.declared.tree.WhenText.{WhenText}
use Rattle.ksql_expr.specs.declared.typed.Typed.{Typed}
use Rattle.ksql_expr.specs.declared.typed.TypedWhen.{TypedWhen}
use Rattle.ksql_scopes.specs.declared.scope.Scope.{Scope}
use Rattle.ksql_scopes.specs.Functions.{is_aggregate, aggregate_of, function_of}
use Rattle.ksql_type_sets.specs.Sets as t
use Rattle.ksql_typing.specs.Possible.{possible, name_types, each_of, perhaps_of, scope_within, conds_of, results_of}
use Rattle.ksql_scopes.specs.Scope.{Meaning, meanings, seen}
use Rattle.ksql_scopes.specs.Senses.{sense}
use Rattle.ksql_scopes.specs.Uses.{Use, names, meanings_of, all_of, in_aggregate}
use Rattle.ksql_scopes.specs.Uses as uses
use Rattle.ksql_scopes.proofs.Equations as q
use Rattle.expression_trees.proofs.Folds.{perhaps_folded}
use Rattle.ksql_scopes.proofs.NameFlags.{counted, counted-inside}
use Rattle.ksql_typing.specs.declared.judged.Judged.{Judged}
use Rattle.ksql_typing.specs.Judged as j
use Rattle.ksql_typing.specs.Judged.{judged, judged_when, after}
use Rattle.ksql_typing.specs.Made as m
use Rattle.ksql_typing.specs.Made.{made, all_there, perhaps_there, literal_tree, typed_when}
use Rattle.ksql_typing.specs.Standing.{digits_type, digits_value}
use Rattle.ksql_typing.proofs.Equations as forms

abbrev lost : Scope → Use → Bool
lost s = counted (λ n. n == 0) s

abbrev several : Scope → Use → Bool
several s = counted (λ n. nat_lt 1 n) s

-- a test on names in two or three parts
two : (t : Use → Bool) (us xs ys : List Use) → us ≡ xs ++ ys → list_any t us ≡ (list_any t xs || list_any t ys)
two t us xs ys h = ap (list_any t) h ∙ list_any-append t xs ys

three : (t : Use → Bool) (us xs ys zs : List Use) → us ≡ xs ++ ys ++ zs → list_any t us ≡ (list_any t xs || list_any t ys || list_any t zs)
three t us xs ys zs h = two t us (xs ++ ys) zs h ∙ ap (λ b. b || list_any t zs) (list_any-append t xs ys)

pub judged-Digits : (number : ℕ) (s : Scope) → judged (e.Digits number) s ≡ j.sure (literal_tree (digits_value number)) (digits_type number)
unfolding judged
judged-Digits number s = λ i. record {
  tree = forms.made-Digits number s i;
  types = forms.possible-Digits number s i;
  unknown = ap (list_any (lost s)) (q.names-Digits number) i;
  ambiguous = ap (list_any (several s)) (q.names-Digits number) i;
}

pub judged-Text : (content : List ℕ) (s : Scope) → judged (e.Text content) s ≡ j.sure (literal_tree (value.Txt content)) sql.Text
unfolding judged
judged-Text content s = λ i. record {
  tree = forms.made-Text content s i;
  types = forms.possible-Text content s i;
  unknown = ap (list_any (lost s)) (q.names-Text content) i;
  ambiguous = ap (list_any (several s)) (q.names-Text content) i;
}

pub judged-Truth : (b : Bool) (s : Scope) → judged (e.Truth b) s ≡ j.sure (literal_tree (value.Bool b)) sql.Bool
unfolding judged
judged-Truth b s = λ i. record {
  tree = forms.made-Truth b s i;
  types = forms.possible-Truth b s i;
  unknown = ap (list_any (lost s)) (q.names-Truth b) i;
  ambiguous = ap (list_any (several s)) (q.names-Truth b) i;
}

pub judged-Null : (s : Scope) → judged (e.Null) s ≡ j.null
unfolding judged
judged-Null s = λ i. record {
  tree = forms.made-Null s i;
  types = forms.possible-Null s i;
  unknown = ap (list_any (lost s)) (q.names-Null) i;
  ambiguous = ap (list_any (several s)) (q.names-Null) i;
}

pub judged-Sign : (minus : Bool) (a : Expr) (s : Scope) → judged (e.Sign minus a) s ≡ j.sign minus (judged a s)
unfolding judged
judged-Sign minus a s = λ i. record {
  tree = forms.made-Sign minus a s i;
  types = forms.possible-Sign minus a s i;
  unknown = ap (list_any (lost s)) (q.names-Sign minus a) i;
  ambiguous = ap (list_any (several s)) (q.names-Sign minus a) i;
}

pub judged-Not : (a : Expr) (s : Scope) → judged (e.Not a) s ≡ j.negation (judged a s)
unfolding judged
judged-Not a s = λ i. record {
  tree = forms.made-Not a s i;
  types = forms.possible-Not a s i;
  unknown = ap (list_any (lost s)) (q.names-Not a) i;
  ambiguous = ap (list_any (several s)) (q.names-Not a) i;
}

pub judged-IsNull : (n : Bool) (a : Expr) (s : Scope) → judged (e.IsNull n a) s ≡ j.is_null n (judged a s)
unfolding judged
judged-IsNull n a s = λ i. record {
  tree = forms.made-IsNull n a s i;
  types = forms.possible-IsNull n a s i;
  unknown = ap (list_any (lost s)) (q.names-IsNull n a) i;
  ambiguous = ap (list_any (several s)) (q.names-IsNull n a) i;
}

pub judged-Like : (n : Bool) (a : Expr) (pattern : List ℕ) (s : Scope) → judged (e.Like n a pattern) s ≡ j.like n pattern (judged a s)
unfolding judged
judged-Like n a pattern s = λ i. record {
  tree = forms.made-Like n a pattern s i;
  types = forms.possible-Like n a pattern s i;
  unknown = ap (list_any (lost s)) (q.names-Like n a pattern) i;
  ambiguous = ap (list_any (several s)) (q.names-Like n a pattern) i;
}

pub judged-Cast : (a : Expr) (to : SqlType) (s : Scope) → judged (e.Cast a to) s ≡ j.cast to (judged a s)
unfolding judged
judged-Cast a to s = λ i. record {
  tree = forms.made-Cast a to s i;
  types = forms.possible-Cast a to s i;
  unknown = ap (list_any (lost s)) (q.names-Cast a to) i;
  ambiguous = ap (list_any (several s)) (q.names-Cast a to) i;
}

pub judged-Binary : (o : BinaryOp) (a b : Expr) (s : Scope) → judged (e.Binary o a b) s ≡ j.binary o (judged a s) (judged b s)
unfolding judged
judged-Binary o a b s = λ i. record {
  tree = forms.made-Binary o a b s i;
  types = forms.possible-Binary o a b s i;
  unknown = two (lost s) (names (e.Binary o a b)) (names a) (names b) (q.names-Binary o a b) i;
  ambiguous = two (several s) (names (e.Binary o a b)) (names a) (names b) (q.names-Binary o a b) i;
}

pub judged-Between : (n : Bool) (a b c : Expr) (s : Scope) → judged (e.Between n a b c) s ≡ j.between n (judged a s) (judged b s) (judged c s)
unfolding judged
judged-Between n a b c s = λ i. record {
  tree = forms.made-Between n a b c s i;
  types = forms.possible-Between n a b c s i;
  unknown = three (lost s) (names (e.Between n a b c)) (names a) (names b) (names c) (q.names-Between n a b c) i;
  ambiguous = three (several s) (names (e.Between n a b c)) (names a) (names b) (names c) (q.names-Between n a b c) i;
}

-- ---- lists of parts

abbrev pub each_judged : Scope → List Expr → List Judged
each_judged s es = map (λ a. judged a s) es

trees-each : (s : Scope) (es : List Expr) → j.trees (each_judged s es) ≡ all_there s (map made es)
unfolding judged
trees-each s [] = refl
trees-each s (a ∷ es) = ap (λ z. after (made a s) (λ x. after z (λ xs. Some (x ∷ xs)))) (trees-each s es)

types-each : (s : Scope) (es : List Expr) → j.types_of (each_judged s es) ≡ each_of (map possible es) s
unfolding judged
types-each s [] = refl
types-each s (a ∷ es) = ap (λ z. possible a s ∷ z) (types-each s es)

unknown-each : (s : Scope) (es : List Expr) → list_any j.unknown (each_judged s es) ≡ list_any (lost s) (all_of (map names es))
unfolding judged
unknown-each s [] = refl
unknown-each s (a ∷ es) = ap (λ b. list_any (lost s) (names a) || b) (unknown-each s es) ∙ sym (list_any-append (lost s) (names a) (all_of (map names es)))

ambiguous-each : (s : Scope) (es : List Expr) → list_any j.ambiguous (each_judged s es) ≡ list_any (several s) (all_of (map names es))
unfolding judged
ambiguous-each s [] = refl
ambiguous-each s (a ∷ es) = ap (λ b. list_any (several s) (names a) || b) (ambiguous-each s es) ∙ sym (list_any-append (several s) (names a) (all_of (map names es)))

pub judged-OneOf : (n : Bool) (a : Expr) (es : List Expr) (s : Scope) → judged (e.OneOf n a es) s ≡ j.one_of n (judged a s) (each_judged s es)
unfolding judged
judged-OneOf n a es s = λ i. record {
  tree = (forms.made-OneOf n a es s ∙ ap (λ z. after (made a s) (λ x. after z (m.one_of_tree n x))) (sym (trees-each s es))) i;
  types = (forms.possible-OneOf n a es s ∙ ap (t.one_of_types (possible a s)) (sym (types-each s es))) i;
  unknown = (two (lost s) (names (e.OneOf n a es)) (names a) (all_of (map names es)) (q.names-OneOf n a es)
      ∙ ap (λ b. list_any (lost s) (names a) || b) (sym (unknown-each s es))) i;
  ambiguous = (two (several s) (names (e.OneOf n a es)) (names a) (all_of (map names es)) (q.names-OneOf n a es)
      ∙ ap (λ b. list_any (several s) (names a) || b) (sym (ambiguous-each s es))) i;
}

-- the names in a call's arguments
called : (p : ℕ → Bool) (s : Scope) (g : List ℕ) (b : Bool) → is_aggregate g ≡ b → (us : List Use)
    → list_any (counted p s) (if is_aggregate g then map in_aggregate us else us) ≡ list_any (counted p (scope_within g s)) us
called p s g true h us =
    ap (λ c. list_any (counted p s) (if c then map in_aggregate us else us)) h ∙ counted-inside p s us
    ∙ ap (λ c. list_any (counted p (seen (not c && s.windowed) s)) us) (sym h)
called p s g false h us =
    ap (λ c. list_any (counted p s) (if c then map in_aggregate us else us)) h
    ∙ ap (λ c. list_any (counted p (seen (not c && s.windowed) s)) us) (sym h)

pub judged-Call : (g : List ℕ) (star : Bool) (es : List Expr) (s : Scope)
    → judged (e.Call g star es) s ≡ j.call g star (each_judged (scope_within g s) es)
unfolding judged
judged-Call g star es s = λ i. record {
  tree = (forms.made-Call g star es s ∙ ap (λ z. after z (m.named_tree (aggregate_of g) (function_of g) star)) (sym (trees-each (scope_within g s) es))) i;
  types = (forms.possible-Call g star es s ∙ ap (t.call_types (aggregate_of g) (function_of g) star) (sym (types-each (scope_within g s) es))) i;
  unknown = (ap (list_any (lost s)) (q.names-Call g star es) ∙ called (λ n. n == 0) s g (is_aggregate g) refl (all_of (map names es)) ∙ sym (unknown-each (scope_within g s) es)) i;
  ambiguous = (ap (list_any (several s)) (q.names-Call g star es) ∙ called (λ n. nat_lt 1 n) s g (is_aggregate g) refl (all_of (map names es)) ∙ sym (ambiguous-each (scope_within g s) es)) i;
}

-- ---- names

or-none : (b : Bool) → (b || false) ≡ b
or-none true = refl
or-none false = refl

more-zero : (n : ℕ) → (suc (suc n) == 0) ≡ false
more-zero n = grind (arith, nat_tests)

more-one : (n : ℕ) → nat_lt 1 (suc (suc n)) ≡ true
more-one n = grind (arith, nat_tests)

name-is : (s : Scope) (ms : List Meaning)
    → j.named (sense ms) ≡ record { tree = m.name_tree ms; types = name_types ms; unknown = length ms == 0; ambiguous = nat_lt 1 (length ms) }
name-is s [] = refl
name-is s (a ∷ []) = refl
name-is s (a ∷ b ∷ ms) = λ i. record { tree = None; types = t.no_types; unknown = sym (more-zero (length ms)) i; ambiguous = sym (more-one (length ms)) i }

-- ---- CASE

perhaps-is : (s : Scope) (x : Option Expr)
    → j.perhaps s x ≡ record {
      tree = perhaps_there s (perhaps_folded made x);
      types = perhaps_of (perhaps_folded possible x) s;
      unknown = list_any (lost s) (uses.perhaps (perhaps_folded names x));
      ambiguous = list_any (several s) (uses.perhaps (perhaps_folded names x));
    }
unfolding judged
perhaps-is s None = refl
perhaps-is s (Some a) = refl

pub judged-Name : (qualifier : Option (List ℕ)) (name : List ℕ) (s : Scope)
    → judged (e.Name qualifier name) s ≡ j.named (sense (meanings s qualifier name))
unfolding judged
judged-Name qualifier name s = (λ i. record {
  tree = forms.made-Name qualifier name s i;
  types = forms.possible-Name qualifier name s i;
  unknown = (ap (list_any (lost s)) (q.names-Name qualifier name) ∙ or-none (length (meanings s qualifier name) == 0)) i;
  ambiguous = (ap (list_any (several s)) (q.names-Name qualifier name) ∙ or-none (nat_lt 1 (length (meanings s qualifier name)))) i;
}) ∙ sym (name-is s (meanings s qualifier name))

-- ---- the WHENs of a CASE

joined : (o p : Option Typed) (rest : Option (List TypedWhen))
    → after o (λ a. after p (λ b. after rest (λ ws. Some (typed_when a b ∷ ws))))
    ≡ after (after o (λ a. after p (λ b. Some (typed_when a b)))) (λ x. after rest (λ xs. Some (x ∷ xs)))
joined None p rest = refl
joined (Some a) None rest = refl
joined (Some a) (Some b) rest = refl

when_trees-each : (s : Scope) (ws : List WhenText) → j.when_trees (map (judged_when s) ws) ≡ all_there s (map forms.made_when ws)
unfolding judged
when_trees-each s [] = refl
when_trees-each s (w ∷ ws) =
    joined (made w.cond s) (made w.result s) (j.when_trees (map (judged_when s) ws))
    ∙ ap₂ (λ o z. after o (λ x. after z (λ xs. Some (x ∷ xs)))) (sym (forms.made-when w s)) (when_trees-each s ws)

cond_types-each : (s : Scope) (ws : List WhenText) → j.cond_types (map (judged_when s) ws) ≡ conds_of (each_of (map forms.possible_when ws) s)
unfolding judged
cond_types-each s [] = refl
cond_types-each s (w ∷ ws) = ap₂ (λ p ts. p.0 ∷ ts) (sym (forms.possible-when w s)) (cond_types-each s ws)

result_types-each : (s : Scope) (ws : List WhenText) → j.result_types (map (judged_when s) ws) ≡ results_of (each_of (map forms.possible_when ws) s)
unfolding judged
result_types-each s [] = refl
result_types-each s (w ∷ ws) = ap₂ (λ p ts. p.1 ∷ ts) (sym (forms.possible-when w s)) (result_types-each s ws)

unknown-whens : (s : Scope) (ws : List WhenText)
    → list_any (j.is_in_when j.unknown) (map (judged_when s) ws) ≡ list_any (lost s) (all_of (map q.names_when ws))
unfolding judged
unknown-whens s [] = refl
unknown-whens s (w ∷ ws) =
    ap₂ (λ a b. a || b) (sym (two (lost s) (q.names_when w) (names w.cond) (names w.result) (q.names-when w))) (unknown-whens s ws)
    ∙ sym (list_any-append (lost s) (q.names_when w) (all_of (map q.names_when ws)))

ambiguous-whens : (s : Scope) (ws : List WhenText)
    → list_any (j.is_in_when j.ambiguous) (map (judged_when s) ws) ≡ list_any (several s) (all_of (map q.names_when ws))
unfolding judged
ambiguous-whens s [] = refl
ambiguous-whens s (w ∷ ws) =
    ap₂ (λ a b. a || b) (sym (two (several s) (q.names_when w) (names w.cond) (names w.result) (q.names-when w))) (ambiguous-whens s ws)
    ∙ sym (list_any-append (several s) (q.names_when w) (all_of (map q.names_when ws)))

pub judged-Case : (x : Option Expr) (ws : List WhenText) (z : Option Expr) (s : Scope)
    → judged (e.Case x ws z) s ≡ j.case (j.perhaps s x) (map (judged_when s) ws) (j.perhaps s z)
unfolding judged
judged-Case x ws z s =
    (λ i. record {
      tree = (forms.made-Case x ws z s
          ∙ ap (λ o. after (perhaps_there s (perhaps_folded made x)) (λ a. after o (λ bs. after (perhaps_there s (perhaps_folded made z)) (m.case_tree a bs))))
          (sym (when_trees-each s ws))) i;
      types = (forms.possible-Case x ws z s
          ∙ ap₂ (λ cs rs. t.case_types (perhaps_of (perhaps_folded possible x) s) cs (t.with_otherwise_types rs (perhaps_of (perhaps_folded possible z) s)))
          (sym (cond_types-each s ws)) (sym (result_types-each s ws))) i;
      unknown = (three (lost s) (names (e.Case x ws z)) (uses.perhaps (perhaps_folded names x)) (all_of (map q.names_when ws)) (uses.perhaps (perhaps_folded names z)) (q.names-Case x ws z)
          ∙ ap (λ b. list_any (lost s) (uses.perhaps (perhaps_folded names x)) || b || list_any (lost s) (uses.perhaps (perhaps_folded names z))) (sym (unknown-whens s ws))) i;
      ambiguous = (three (several s) (names (e.Case x ws z)) (uses.perhaps (perhaps_folded names x)) (all_of (map q.names_when ws)) (uses.perhaps (perhaps_folded names z)) (q.names-Case x ws z)
          ∙ ap (λ b. list_any (several s) (uses.perhaps (perhaps_folded names x)) || b || list_any (several s) (uses.perhaps (perhaps_folded names z))) (sym (ambiguous-whens s ws))) i;
    })
    ∙ ap₂ (λ o p. j.case o (map (judged_when s) ws) p) (sym (perhaps-is s x)) (sym (perhaps-is s z))
