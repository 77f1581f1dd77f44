-- The findings about an expression, computed at once from those about its parts.
use Rattle.std.specs.Prelude.{◌≡◌, ℕ, Bool, true, false, ◌||◌, List, [], ◌∷◌, map, Option, Some, None, option_map, if◌then◌else◌, Result, Ok, Err}
use Rattle.std.specs.List.{list_any}
use Rattle.ksql_types.specs.declared.operator.BinaryOp.{BinaryOp}
use Rattle.ksql_types.specs.declared.value.SqlType.{SqlType}
use Rattle.ksql_types.specs.declared.value.SqlType.TheVariants as sql
use Rattle.ksql_types.specs.declared.value.Value.TheVariants as value
use Rattle.expression_trees.specs.declared.tree.Expr.{Expr}
use Rattle.expression_trees.specs.declared.tree.WhenText.{WhenText}
use Rattle.expression_trees.specs.Options.{◌>>=◌}
use Rattle.ksql_expr.specs.declared.typed.Typed.{Typed}
use Rattle.ksql_expr.specs.declared.typed.TypedWhen.{TypedWhen}
use Rattle.ksql_expr.specs.Typing.{of}
use Rattle.ksql_type_sets.specs.declared.possible.Types.{Types}
use Rattle.ksql_scopes.specs.declared.scope.Scope.{Scope}
use Rattle.ksql_scopes.specs.Functions.{function_of, aggregate_of}
use Rattle.ksql_type_sets.specs.Sets as types
use Rattle.ksql_typing.specs.Possible.{possible}
use Rattle.ksql_scopes.specs.Scope.{Meaning}
use Rattle.ksql_scopes.specs.Uses.{has_unknown_name, has_ambiguous_name}
use Rattle.ksql_typing.specs.declared.judged.Judged.{Judged}
use Rattle.ksql_typing.specs.declared.judged.Parts.{Parts}
use Rattle.ksql_typing.specs.declared.judged.Perhaps.{Perhaps}
use Rattle.ksql_typing.specs.declared.judged.WhenParts.{WhenParts}
use Rattle.ksql_typing.specs.declared.fault.TypeFault.{TypeFault}
use Rattle.ksql_typing.specs.declared.fault.TypeFault.TheVariants.{UnknownColumn, AmbiguousColumn, TypeMismatch, Unsupported}
use Rattle.ksql_typing.specs.Made as made

-- the findings about an expression in a scope: its typed tree, the types that it can have, and whether a name in it
-- stands for nothing or for several things
unfoldable pub judged : Expr → Scope → Judged
judged a s = record { tree = made.made a s; types = possible a s; unknown = has_unknown_name s a; ambiguous = has_ambiguous_name s a }

-- the same for a condition and its result
pub record JudgedWhen : Type 0 where
  pub cond : Judged
  pub result : Judged

abbrev pub judged_when : Scope → WhenText → JudgedWhen
judged_when s w = record { cond = judged w.cond s; result = judged w.result s }

-- what a tree gives, if any
abbrev pub after : {A B : Type 0} → Option A → (A → Option B) → Option B
after o f = o >>= f

-- ---- the parts

abbrev pub trees : List Judged → Option (List Typed)
trees [] = Some []
trees (x ∷ xs) = x.tree >>= λ a. trees xs >>= λ rest. Some (a ∷ rest)

abbrev pub when_trees : List JudgedWhen → Option (List TypedWhen)
when_trees [] = Some []
when_trees (w ∷ ws) = w.cond.tree >>= λ a. w.result.tree >>= λ b. when_trees ws >>= λ rest. Some (made.typed_when a b ∷ rest)

abbrev pub types_of : List Judged → List Types
types_of xs = map (λ x. x.types) xs

abbrev pub cond_types : List JudgedWhen → List Types
cond_types ws = map (λ w. w.cond.types) ws

abbrev pub result_types : List JudgedWhen → List Types
result_types ws = map (λ w. w.result.types) ws

abbrev pub is_in_when : (Judged → Bool) → JudgedWhen → Bool
is_in_when p w = p w.cond || p w.result

abbrev pub unknown : Judged → Bool
unknown x = x.unknown

abbrev pub ambiguous : Judged → Bool
ambiguous x = x.ambiguous

-- the findings about several parts
pub record AreOf (p : Parts) (xs : List Judged) : Type 0 where
  pub trees_are : option_map (λ v. v.items) p.trees ≡ trees xs
  pub types_are : p.types.items ≡ types_of xs
  pub unknown_is : p.unknown ≡ list_any unknown xs
  pub ambiguous_is : p.ambiguous ≡ list_any ambiguous xs

-- the findings about several WHENs
pub record AreOfWhens (p : WhenParts) (ws : List JudgedWhen) : Type 0 where
  pub trees_are : option_map (λ v. v.items) p.trees ≡ when_trees ws
  pub conds_are : p.conds.items ≡ cond_types ws
  pub results_are : p.results.items ≡ result_types ws
  pub unknown_is : p.unknown ≡ list_any (is_in_when unknown) ws
  pub ambiguous_is : p.ambiguous ≡ list_any (is_in_when ambiguous) ws

-- ---- the forms

abbrev pub sure : Option Typed → SqlType → Judged
sure tree t = record { tree = tree; types = types.where_found true (Some t); unknown = false; ambiguous = false }

abbrev pub null : Judged
null = record { tree = made.literal_tree value.Null; types = types.where_found true None; unknown = false; ambiguous = false }

-- a name without exactly one meaning
abbrev pub lost : Bool → Bool → Judged
lost unknown ambiguous = record { tree = None; types = types.no_types; unknown = unknown; ambiguous = ambiguous }

abbrev pub named : Option (Option Meaning) → Judged
named None = lost true false
named (Some None) = lost false true
named (Some (Some m)) = sure (Some (of (Some m.1) m.0)) m.1

abbrev pub when : Judged → Judged → JudgedWhen
when cond result = record { cond = cond; result = result }

-- a form with one part
abbrev pub one : Judged → (Typed → Option Typed) → (Types → Types) → Judged
one x tree types = record { tree = x.tree >>= tree; types = types x.types; unknown = x.unknown; ambiguous = x.ambiguous }

abbrev pub sign : Bool → Judged → Judged
sign minus x = one x (made.sign_tree minus) types.sign_types

abbrev pub binary : BinaryOp → Judged → Judged → Judged
binary o x y = record {
  tree = x.tree >>= λ a. y.tree >>= made.binary_tree o a;
  types = types.binary_types o x.types y.types;
  unknown = x.unknown || y.unknown;
  ambiguous = x.ambiguous || y.ambiguous;
}

abbrev pub negation : Judged → Judged
negation x = one x made.not_tree (types.fitting sql.Bool)

abbrev pub is_null : Bool → Judged → Judged
is_null negated x = one x (made.is_null_tree negated) (λ a. types.truth_where (types.is_some_in a))

abbrev pub between : Bool → Judged → Judged → Judged → Judged
between negated x y z = record {
  tree = x.tree >>= λ a. y.tree >>= λ b. z.tree >>= made.between_tree negated a b;
  types = types.between_types x.types y.types z.types;
  unknown = x.unknown || y.unknown || z.unknown;
  ambiguous = x.ambiguous || y.ambiguous || z.ambiguous;
}

abbrev pub one_of : Bool → Judged → List Judged → Judged
one_of negated x ys = record {
  tree = x.tree >>= λ a. trees ys >>= made.one_of_tree negated a;
  types = types.one_of_types x.types (types_of ys);
  unknown = x.unknown || list_any unknown ys;
  ambiguous = x.ambiguous || list_any ambiguous ys;
}

abbrev pub like : Bool → List ℕ → Judged → Judged
like negated pattern x = one x (made.like_tree negated pattern) (types.fitting sql.Text)

abbrev pub cast : SqlType → Judged → Judged
cast to x = one x (made.cast_tree to) (types.cast_types to)

-- an optional part that is left out, and one that is present
abbrev pub left_out : Perhaps
left_out = record { tree = Some None; types = None; unknown = false; ambiguous = false }

abbrev pub there : Judged → Perhaps
there x = record { tree = x.tree >>= λ a. Some (Some a); types = Some x.types; unknown = x.unknown; ambiguous = x.ambiguous }

abbrev pub perhaps : Scope → Option Expr → Perhaps
perhaps s None = left_out
perhaps s (Some a) = there (judged a s)

abbrev pub case : Perhaps → List JudgedWhen → Perhaps → Judged
case x ws z = record {
  tree = x.tree >>= λ a. when_trees ws >>= λ bs. z.tree >>= made.case_tree a bs;
  types = types.case_types x.types (cond_types ws) (types.with_otherwise_types (result_types ws) z.types);
  unknown = x.unknown || list_any (is_in_when unknown) ws || z.unknown;
  ambiguous = x.ambiguous || list_any (is_in_when ambiguous) ws || z.ambiguous;
}

abbrev pub call : List ℕ → Bool → List Judged → Judged
call f star args = record {
  tree = trees args >>= made.named_tree (aggregate_of f) (function_of f) star;
  types = types.call_types (aggregate_of f) (function_of f) star (types_of args);
  unknown = list_any unknown args;
  ambiguous = list_any ambiguous args;
}

-- ---- the result

abbrev pub refusal : Types → Bool → Bool → TypeFault
refusal found unknown ambiguous =
    if unknown then UnknownColumn else if ambiguous then AmbiguousColumn
    else if types.is_some_in found then Unsupported else TypeMismatch

-- the tree, or else the first fault that applies
abbrev pub answer_of : Option Typed → TypeFault → Result Typed TypeFault
answer_of (Some tree) fault = Ok tree
answer_of None fault = Err fault

abbrev pub answer : Judged → Result Typed TypeFault
answer x = answer_of x.tree (refusal x.types x.unknown x.ambiguous)
