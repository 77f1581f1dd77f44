-- A grouped query whose expressions call few functions has few aggregates.
use Rattle.std.proofs.Common.{◌≡◌, ℕ, suc, ◌+◌, ◌*◌, ◌-◌, ◌^◌, ◌≤◌, Bool, true, false, if◌then◌else◌, List, [], ◌∷◌, ◌++◌, map, length, Option, Some, None, refl, ap, arith}
use Rattle.std.specs.Prelude.{option_map}
use Rattle.std.specs.List.{flat_map, list_any, AllByRecursion as Each}
use Rattle.std.proofs.lemmas.Bool.{ltb-false}
use Rattle.std.proofs.lemmas.List.{length-append, length-map}
use Rattle.ksql_types.specs.declared.relation.Relation.{Relation}
use Rattle.expression_trees.specs.declared.tree.Expr.{Expr}
use Rattle.expression_trees.specs.declared.tree.Expr.TheVariants as e
use Rattle.statement_trees.specs.declared.tree.Property.{Property}
use Rattle.statement_trees.specs.declared.tree.Select.{Select}
use Rattle.expression_trees.specs.declared.tree.WhenText.{WhenText}
use Rattle.ksql_scopes.specs.Functions.{is_aggregate}
use Rattle.ksql_scopes.specs.Uses.{calls, all_of, perhaps}
use Rattle.ksql_scopes.proofs.Equations as equation
use Rattle.ksql_scopes.proofs.Equations.{calls_when, calls-when}
use Rattle.expression_trees.proofs.Folds.{perhaps_folded}
use Rattle.ksql_scopes.proofs.Induction.{IfThere, InWhen, induction}
use Rattle.ksql_clauses.specs.declared.items.Named.{Named}
use Rattle.ksql_clauses.specs.declared.sources.Known.{Known}
use Rattle.ksql_clauses.specs.Items.{result_columns}
use Rattle.ksql_scopes.specs.Resolved.{resolved}
use Rattle.ksql_clauses.specs.Sources.{from_scope, item_scope, late_exprs, there}
use Rattle.aggregate_rules.specs.Grouping.{aggregates_of, once_from}
use Rattle.expression_trees.specs.Same.{same_expr}
use Rattle.ksql_rules.specs.Breaks.{group_exprs, shown_exprs}
use Rattle.ksql_analyse.specs.Few.{CallsFew}
use Rattle.ksql_analyse.specs.Judgement.{aggregate_exprs, exprs}
use Rattle.ksql_analyse.proofs.forms.AggregatesIn as found
use Rattle.ksql_analyse.proofs.forms.AggregatesIn.{when_aggregates}
use Rattle.ksql_analyse.proofs.accepted.Refusals.{KeepsQuery}
use Rattle.ksql_analyse.proofs.forms.Resolution.{calls-resolved}
use Rattle.ksql_analyse.proofs.sound.SoundColumns.{each-append, each-map}
use Rattle.ksql_analyse.proofs.sound.SoundPlain.{exprs-hold}
use Rattle.ksql_analyse.proofs.sound.SoundQuery.{items-part, having-part}

-- ---- each aggregate is a call

abbrev IsFew : Expr → Type 0
IsFew a = length (aggregates_of a) ≤ length (calls a)

-- no more of one list than of another
alike : {A B : Type 0} (xs ys : List A) (us vs : List B) → xs ≡ ys → us ≡ vs → length ys ≤ length vs → length xs ≤ length us
alike xs ys us vs h k few = let l : length xs ≡ length ys = ap length h in let r : length us ≡ length vs = ap length k in omega (arith, l, r, few)

both-few : {A B : Type 0} (xs ys : List A) (us vs : List B) → length xs ≤ length us → length ys ≤ length vs → length (xs ++ ys) ≤ length (us ++ vs)
both-few xs ys us vs h k = omega (arith, length-append xs ys, length-append us vs, h, k)

all-few : (es : List Expr) → Each IsFew es → length (all_of (map aggregates_of es)) ≤ length (all_of (map calls es))
all-few [] k = omega arith
all-few (a ∷ es) k = both-few (aggregates_of a) (all_of (map aggregates_of es)) (calls a) (all_of (map calls es)) k.0 (all-few es k.1)

whens-few : (ws : List WhenText) → Each (InWhen IsFew) ws → length (all_of (map when_aggregates ws)) ≤ length (all_of (map calls_when ws))
whens-few [] k = omega arith
whens-few (w ∷ ws) k =
    both-few (when_aggregates w) (all_of (map when_aggregates ws)) (calls_when w) (all_of (map calls_when ws))
    (alike (when_aggregates w) (when_aggregates w) (calls_when w) (calls w.cond ++ calls w.result) refl (calls-when w)
    (both-few (aggregates_of w.cond) (aggregates_of w.result) (calls w.cond) (calls w.result) k.0.0 k.0.1))
    (whens-few ws k.1)

part-few : (x : Option Expr) → IfThere IsFew x → length (perhaps (option_map aggregates_of x)) ≤ length (perhaps (perhaps_folded calls x))
part-few None k = omega arith
part-few (Some a) k = k

call-few : (f : List ℕ) (star : Bool) (es : List Expr) → Each IsFew es → IsFew (e.Call f star es)
call-few f star es k = at (is_aggregate f) refl
  where
    at : (b : Bool) → is_aggregate f ≡ b → IsFew (e.Call f star es)
    at true h = alike _ (e.Call f star es ∷ []) _ (f ∷ all_of (map calls es)) (found.of-aggregate f star es h) (equation.calls-Call f star es) (omega arith)
    at false h =
        alike _ (all_of (map aggregates_of es)) _ (f ∷ all_of (map calls es)) (found.of-function f star es h) (equation.calls-Call f star es)
        (omega (arith, all-few es k))

aggregates-few : (a : Expr) → IsFew a
aggregates-few = induction IsFew (record {
  digits = λ n. alike _ [] _ [] (found.of-Digits n) (equation.calls-Digits n) (omega arith);
  text = λ t. alike _ [] _ [] (found.of-Text t) (equation.calls-Text t) (omega arith);
  truth = λ b. alike _ [] _ [] (found.of-Truth b) (equation.calls-Truth b) (omega arith);
  null = alike _ [] _ [] found.of-Null equation.calls-Null (omega arith);
  name = λ q t. alike _ [] _ [] (found.of-Name q t) (equation.calls-Name q t) (omega arith);
  sign = λ m a ka. alike _ (aggregates_of a) _ (calls a) (found.of-Sign m a) (equation.calls-Sign m a) ka;
  binary = λ o a b ka kb. alike _ (aggregates_of a ++ aggregates_of b) _ (calls a ++ calls b) (found.of-Binary o a b) (equation.calls-Binary o a b)
      (both-few (aggregates_of a) (aggregates_of b) (calls a) (calls b) ka kb);
  not = λ a ka. alike _ (aggregates_of a) _ (calls a) (found.of-Not a) (equation.calls-Not a) ka;
  is_null = λ m a ka. alike _ (aggregates_of a) _ (calls a) (found.of-IsNull m a) (equation.calls-IsNull m a) ka;
  between = λ m a b c ka kb kc. alike _ (aggregates_of a ++ aggregates_of b ++ aggregates_of c) _ (calls a ++ calls b ++ calls c)
      (found.of-Between m a b c) (equation.calls-Between m a b c)
      (both-few (aggregates_of a ++ aggregates_of b) (aggregates_of c) (calls a ++ calls b) (calls c)
      (both-few (aggregates_of a) (aggregates_of b) (calls a) (calls b) ka kb) kc);
  one_of = λ m a es ka kes. alike _ (aggregates_of a ++ all_of (map aggregates_of es)) _ (calls a ++ all_of (map calls es))
      (found.of-OneOf m a es) (equation.calls-OneOf m a es)
      (both-few (aggregates_of a) (all_of (map aggregates_of es)) (calls a) (all_of (map calls es)) ka (all-few es kes));
  like = λ m a t ka. alike _ (aggregates_of a) _ (calls a) (found.of-Like m a t) (equation.calls-Like m a t) ka;
  cast = λ a to ka. alike _ (aggregates_of a) _ (calls a) (found.of-Cast a to) (equation.calls-Cast a to) ka;
  case = λ x ws z kx kws kz. alike _ (perhaps (option_map aggregates_of x) ++ all_of (map when_aggregates ws) ++ perhaps (option_map aggregates_of z)) _
      (perhaps (perhaps_folded calls x) ++ all_of (map calls_when ws) ++ perhaps (perhaps_folded calls z))
      (found.of-Case x ws z) (equation.calls-Case x ws z)
      (both-few (perhaps (option_map aggregates_of x) ++ all_of (map when_aggregates ws)) (perhaps (option_map aggregates_of z))
      (perhaps (perhaps_folded calls x) ++ all_of (map calls_when ws)) (perhaps (perhaps_folded calls z))
      (both-few (perhaps (option_map aggregates_of x)) (all_of (map when_aggregates ws)) (perhaps (perhaps_folded calls x)) (all_of (map calls_when ws))
      (part-few x kx) (whens-few ws kws)) (part-few z kz));
  call = call-few;
})

-- ---- the aggregates of some expressions

flat-few : (es : List Expr) → Each CallsFew es → length (flat_map aggregates_of es) ≤ 2000 * length es
flat-few [] k = omega arith
flat-few (a ∷ es) k = omega (arith, length-append (aggregates_of a) (flat_map aggregates_of es), aggregates-few a, k.0, flat-few es k.1)

once-few : (xs kept : List Expr) → length (once_from kept xs) ≤ length kept + length xs
once-few [] kept = omega arith
once-few (a ∷ xs) kept = at (list_any (same_expr a) kept) (once-few xs)
  where
    at : (b : Bool) → ((more : List Expr) → length (once_from more xs) ≤ length more + length xs)
        → length (once_from (if b then kept else kept ++ a ∷ []) xs) ≤ length kept + suc (length xs)
    at true rest = omega (arith, rest kept)
    at false rest = omega (arith, rest (kept ++ a ∷ []), length-append kept (a ∷ []))

-- ---- of an accepted query

module _ (catalog : List Relation) (table : Bool) (name : List ℕ) (ps : List Property) (q : Select) (ks : List Known)
    (keeps : KeepsQuery catalog table name ps q ks) (few : Each CallsFew (late_exprs q)) where
  shown-few : Each CallsFew (shown_exprs q ks)
  shown-few =
      each-append CallsFew (exprs (result_columns q ks)) (there (option_map (resolved (item_scope q ks)) q.having))
      (each-map CallsFew (λ (c : Named). c.expr) (result_columns q ks)
      (exprs-hold CallsFew q ks (λ alias n. named (Some alias) n) kept keeps.few (items-part CallsFew q few)))
      (having q.having (having-part CallsFew q few))
    where
      named : (p : Option (List ℕ)) (n : List ℕ) → CallsFew (e.Name p n)
      named p n = omega (arith, ap length (equation.calls-Name p n))

      kept : (a : Expr) → CallsFew a → CallsFew (resolved (item_scope q ks) a)
      kept a h = omega (arith, h, ap length (calls-resolved (item_scope q ks) a))

      having : (o : Option Expr) → Each CallsFew (there o) → Each CallsFew (there (option_map (resolved (item_scope q ks)) o))
      having None h = tt
      having (Some a) h = (kept a h.0, tt)

  shown-counted : length (shown_exprs q ks) ≤ 65
  shown-counted =
      let columns : length (result_columns q ks) ≤ 64 = ltb-false 64 (length (result_columns q ks)) keeps.few in
      omega (
        arith,
        columns,
        length-append (exprs (result_columns q ks)) (there (option_map (resolved (item_scope q ks)) q.having)),
        length-map (result_columns q ks) (λ (c : Named). c.expr),
        one (option_map (resolved (item_scope q ks)) q.having),
      )
    where
      one : (o : Option Expr) → length (there o) ≤ 1
      one None = omega arith
      one (Some a) = omega arith

  pub few-columns : length (group_exprs q ks) + length (aggregate_exprs q ks) ≤ 2 ^ 32 - 2
  few-columns =
      let groups : length q.group ≤ 8 = ltb-false 8 (length q.group) keeps.few_groups in
      omega (
        arith,
        groups,
        length-map q.group (resolved (from_scope q ks)),
        once-few (flat_map aggregates_of (shown_exprs q ks)) [],
        flat-few (shown_exprs q ks) shown-few,
        shown-counted,
      )
