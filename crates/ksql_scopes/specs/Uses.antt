-- Names, functions and literals in an expression.
use Rattle.std.specs.Prelude.{ℕ, Bool, true, false, ◌&&◌, ◌==◌, nat_lt, nat_le, if◌then◌else◌, List, [], ◌∷◌, ◌++◌, length, map, Option, Some, None, IsTrue}
use Rattle.std.specs.List.{list_any, list_all, flat_map}
use Rattle.expression_trees.specs.declared.tree.Expr.{Expr, fold-Expr}
use Rattle.expression_trees.specs.declared.tree.Expr.TheOpen.{Expr-F, WhenText-F}
use Rattle.expression_trees.specs.declared.tree.WhenText.{WhenText}
use Rattle.ksql_scopes.specs.declared.scope.Scope.{Scope}
use Rattle.ksql_scopes.specs.Functions.{is_aggregate, is_unknown}
use Rattle.ksql_scopes.specs.Scope.{Meaning, meanings, inside}

-- the list of an optional part
abbrev pub perhaps : {A : Type 0} → Option (List A) → List A
perhaps None = []
perhaps (Some xs) = xs

abbrev pub all_of : {A : Type 0} → List (List A) → List A
all_of xss = flat_map (λ xs. xs) xss

-- the lists of a form's parts, one after another
abbrev pub gathered : {A : Type 0} → Expr-F (List A) (List A) → List A
gathered (Expr-F.Digits number) = []
gathered (Expr-F.Text content) = []
gathered (Expr-F.Truth truth) = []
gathered Expr-F.Null = []
gathered (Expr-F.Name qualifier name) = []
gathered (Expr-F.Sign minus a) = a
gathered (Expr-F.Binary o a b) = a ++ b
gathered (Expr-F.Not a) = a
gathered (Expr-F.IsNull negated a) = a
gathered (Expr-F.Between negated a low high) = a ++ low ++ high
gathered (Expr-F.OneOf negated a choices) = a ++ all_of choices
gathered (Expr-F.Like negated a pattern) = a
gathered (Expr-F.Cast a to) = a
gathered (Expr-F.Case operand whens otherwise) = perhaps operand ++ all_of whens ++ perhaps otherwise
gathered (Expr-F.Call name star args) = all_of args

abbrev pub of_when : {A : Type 0} → WhenText-F (List A) (List A) → List A
of_when w = w.cond ++ w.result

-- ---- names

-- a name in an expression, its qualifier, and whether it is in the argument of an aggregate
pub record Use : Type 0 where
  pub within : Bool
  pub qualifier : Option (List ℕ)
  pub name : List ℕ

abbrev pub in_aggregate : Use → Use
in_aggregate u = record u { within = true }

abbrev pub names_step : Expr-F (List Use) (List Use) → List Use
names_step (Expr-F.Name q name) = record { within = false; qualifier = q; name = name } ∷ []
names_step (Expr-F.Call f star args) = if is_aggregate f then map in_aggregate (all_of args) else all_of args
names_step form = gathered form

-- the names in an expression
unfoldable pub names : Expr → List Use
names = fold-Expr (List Use) (List Use) names_step of_when

-- what a name in an expression can stand for
abbrev pub meanings_of : Scope → Use → List Meaning
meanings_of s u = meanings (if u.within then inside s else s) u.qualifier u.name

-- whether a name stands for nothing, and whether one stands for two things
abbrev pub has_unknown_name : Scope → Expr → Bool
has_unknown_name s e = list_any (λ u. length (meanings_of s u) == 0) (names e)

abbrev pub has_ambiguous_name : Scope → Expr → Bool
has_ambiguous_name s e = list_any (λ u. nat_lt 1 (length (meanings_of s u))) (names e)

-- ---- functions

abbrev pub calls_step : Expr-F (List (List ℕ)) (List (List ℕ)) → List (List ℕ)
calls_step (Expr-F.Call f star args) = f ∷ all_of args
calls_step form = gathered form

-- the names of the functions in an expression
unfoldable pub calls : Expr → List (List ℕ)
calls = fold-Expr (List (List ℕ)) (List (List ℕ)) calls_step of_when

abbrev pub has_unknown_function : Expr → Bool
has_unknown_function e = list_any is_unknown (calls e)

-- ---- literals

abbrev pub all_hold : List Bool → Bool
all_hold bs = list_all (λ b. b) bs

abbrev pub holds_perhaps : Option Bool → Bool
holds_perhaps None = true
holds_perhaps (Some b) = b

-- whether literals keep their limits: digits are at most 9223372036854775807, texts have at most 65,536 bytes
abbrev pub small_step : Expr-F Bool Bool → Bool
small_step (Expr-F.Digits number) = nat_le number 9223372036854775807
small_step (Expr-F.Text content) = nat_le (length content) 65536
small_step (Expr-F.Truth truth) = true
small_step Expr-F.Null = true
small_step (Expr-F.Name qualifier name) = true
small_step (Expr-F.Sign minus a) = a
small_step (Expr-F.Binary o a b) = a && b
small_step (Expr-F.Not a) = a
small_step (Expr-F.IsNull negated a) = a
small_step (Expr-F.Between negated a low high) = a && low && high
small_step (Expr-F.OneOf negated a choices) = a && all_hold choices
small_step (Expr-F.Like negated a pattern) = a && nat_le (length pattern) 65536
small_step (Expr-F.Cast a to) = a
small_step (Expr-F.Case operand whens otherwise) = holds_perhaps operand && all_hold whens && holds_perhaps otherwise
small_step (Expr-F.Call name star args) = all_hold args

unfoldable pub is_small : Expr → Bool
is_small = fold-Expr Bool Bool small_step (λ w. w.cond && w.result)

abbrev pub IsSmall : Expr → Type 0
IsSmall e = IsTrue (is_small e)

abbrev pub are_small : List Expr → Bool
are_small es = list_all is_small es

abbrev pub are_whens_small : List WhenText → Bool
are_whens_small ws = list_all (λ w. is_small w.cond && is_small w.result) ws

abbrev pub is_small_perhaps : Option Expr → Bool
is_small_perhaps None = true
is_small_perhaps (Some a) = is_small a
