-- The set of types that an expression can have, computed from those of its parts.
use Rattle.std.specs.Prelude.{ℕ, true, not, ◌&&◌, List, [], ◌∷◌, map, Option, Some, None}
use Rattle.ksql_types.specs.declared.value.SqlType.TheVariants as sql
use Rattle.expression_trees.specs.declared.tree.Expr.{Expr, fold-Expr}
use Rattle.expression_trees.specs.declared.tree.Expr.TheOpen.{Expr-F, WhenText-F}
use Rattle.ksql_scopes.specs.declared.scope.Scope.{Scope}
use Rattle.ksql_scopes.specs.Functions.{function_of, aggregate_of, is_aggregate}
use Rattle.ksql_scopes.specs.Scope.{Meaning, meanings, seen}
use Rattle.ksql_type_sets.specs.declared.possible.Types.{Types}
use Rattle.ksql_type_sets.specs.Sets.{where_found, no_types, truth_where, sign_types, binary_types, fitting, is_some_in, between_types, one_of_types, cast_types, with_otherwise_types, case_types, call_types}
use Rattle.ksql_typing.specs.Standing.{digits_type}

abbrev pub name_types : List Meaning → Types
name_types (m ∷ []) = where_found true (Some m.1)
name_types _ = no_types

-- the set of a part in a scope
abbrev pub Sets : Type 0
Sets = Scope → Types

-- the sets of a WHEN's condition and result
abbrev pub WhenSets : Type 0
WhenSets = Scope → Types × Types

abbrev pub each_of : {A : Type 0} → List (Scope → A) → Scope → List A
each_of fs s = map (λ f. f s) fs

abbrev pub perhaps_of : Option Sets → Scope → Option Types
perhaps_of None s = None
perhaps_of (Some f) s = Some (f s)

abbrev pub conds_of : List (Types × Types) → List Types
conds_of ws = map (λ w. w.0) ws

abbrev pub results_of : List (Types × Types) → List Types
results_of ws = map (λ w. w.1) ws

-- the scope of the arguments of a function
abbrev pub scope_within : List ℕ → Scope → Scope
scope_within f s = seen (not (is_aggregate f) && s.windowed) s

abbrev pub sets_step : Expr-F Sets WhenSets → Sets
sets_step (Expr-F.Digits number) s = where_found true (Some (digits_type number))
sets_step (Expr-F.Text content) s = where_found true (Some sql.Text)
sets_step (Expr-F.Truth b) s = where_found true (Some sql.Bool)
sets_step Expr-F.Null s = where_found true None
sets_step (Expr-F.Name q name) s = name_types (meanings s q name)
sets_step (Expr-F.Sign minus a) s = sign_types (a s)
sets_step (Expr-F.Binary o a b) s = binary_types o (a s) (b s)
sets_step (Expr-F.Not a) s = fitting sql.Bool (a s)
sets_step (Expr-F.IsNull negated a) s = truth_where (is_some_in (a s))
sets_step (Expr-F.Between negated a low high) s = between_types (a s) (low s) (high s)
sets_step (Expr-F.OneOf negated a choices) s = one_of_types (a s) (each_of choices s)
sets_step (Expr-F.Like negated a pattern) s = fitting sql.Text (a s)
sets_step (Expr-F.Cast a to) s = cast_types to (a s)
sets_step (Expr-F.Case operand whens otherwise) s =
    let ws = each_of whens s in
    case_types (perhaps_of operand s) (conds_of ws) (with_otherwise_types (results_of ws) (perhaps_of otherwise s))
sets_step (Expr-F.Call f star args) s = call_types (aggregate_of f) (function_of f) star (each_of args (scope_within f s))

abbrev pub when_sets : WhenText-F Sets WhenSets → WhenSets
when_sets w s = (w.cond s, w.result s)

-- the types that an expression can have in a scope
unfoldable pub possible : Expr → Sets
possible = fold-Expr Sets WhenSets sets_step when_sets
