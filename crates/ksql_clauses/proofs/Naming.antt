-- The names of result columns.
use Rattle.std.proofs.Common.{◌≡◌, ℕ, ◌+◌, ◌^◌, ◌<◌, ◌≤◌, suc, List, [], ◌∷◌, ◌++◌, length, map, Option, Some, None, refl, ap, sym, ◌∙◌, subst, arith, append_assoc}
use Rattle.std.specs.Fmt.{decimal}
use Rattle.std.proofs.lemmas.Fmt.{length-decimal-le}
use Rattle.expression_trees.specs.declared.tree.Expr.{Expr, out-Expr, roll-Expr, roll-out-Expr, fold-roll-Expr}
use Rattle.expression_trees.specs.declared.tree.Expr.TheVariants as e
use Rattle.expression_trees.specs.declared.tree.Expr.TheVariants.{rolls-Name}
use Rattle.expression_trees.specs.declared.tree.Expr.TheOpen.{Expr-F}
use Rattle.statement_trees.specs.declared.tree.SelectItem.{SelectItem}
use Rattle.statement_trees.specs.declared.tree.SelectItem.TheVariants.{Star, StarOf, One}
use Rattle.expression_trees.specs.declared.tree.WhenText.{WhenText}
use Rattle.ksql_clauses.specs.declared.items.Named.{Named}
use Rattle.ksql_scopes.specs.declared.scope.Scope.{Scope}
use Rattle.ksql_clauses.specs.declared.sources.Known.{Known}
use Rattle.ksql_clauses.specs.Items.{plain_name, plain_step, column_name, named, named_from, numbered_name, all_stars, stars_of, without_alias}
use Rattle.ksql_scopes.specs.Resolved.{resolved}
use Rattle.expression_trees.proofs.Folds as f

-- ---- plain columns

pub plain-Name : (ks : List Known) (q : Option (List ℕ)) (name : List ℕ) → plain_name ks (e.Name q name) ≡ Some (column_name ks q name)
unfolding plain_name
plain-Name ks q name = f.fold-Name (Option (List ℕ)) (Option (List ℕ)) (plain_step ks) (λ w. None) q name

at_layer : (ks : List Known) (x : Expr-F Expr WhenText) → ((q : Option (List ℕ)) (name : List ℕ) → roll-Expr x ≡ e.Name q name → ⊥) → plain_name ks (roll-Expr x) ≡ None
unfolding plain_name
at_layer ks (Expr-F.Name q name) other = absurd (other q name (rolls-Name q name))
at_layer ks x other = fold-roll-Expr (Option (List ℕ)) (Option (List ℕ)) (plain_step ks) (λ w. None) x

-- what isn't a name is no plain column
pub plain-other : (ks : List Known) (a : Expr) → ((q : Option (List ℕ)) (name : List ℕ) → a ≡ e.Name q name → ⊥) → plain_name ks a ≡ None
plain-other ks a other =
    let e : roll-Expr (out-Expr a) ≡ a = roll-out-Expr a in
    sym (ap (plain_name ks) e) ∙ at_layer ks (out-Expr a) (λ q name h. other q name (sym e ∙ h))

pub numbered_is_short : (n : ℕ) → n < 2 ^ 64 → length (numbered_name n) ≤ 29
numbered_is_short n h =
    let d : length (decimal n) ≤ 20 = length-decimal-le 20 n (omega arith) (omega arith) h in
    omega arith

-- ---- items

-- appending, in front of the rest
pub appended : (items found more after whole : List Named) → items ≡ found ++ more → whole ≡ more ++ after → items ++ after ≡ found ++ whole
appended items found more after whole h k =
    let e : (found ++ more) ++ after ≡ found ++ (more ++ after) = simp append_assoc in
    ap (λ xs. xs ++ after) h ∙ e ∙ ap (λ xs. found ++ xs) (sym k)

pub from-nothing : (s : Scope) (ks : List Known) (number : ℕ) → named_from s ks number [] ≡ []
unfolding named_from
from-nothing s ks number = refl

pub from-Star : (s : Scope) (ks : List Known) (number : ℕ) (rest : List SelectItem)
    → named_from s ks number (Star ∷ rest) ≡ all_stars ks ++ named_from s ks number rest
unfolding named_from
from-Star s ks number rest = refl

pub from-StarOf : (s : Scope) (ks : List Known) (number : ℕ) (alias : List ℕ) (rest : List SelectItem)
    → named_from s ks number (StarOf alias ∷ rest) ≡ stars_of alias ks ++ named_from s ks number rest
unfolding named_from
from-StarOf s ks number alias rest = refl

pub from-alias : (s : Scope) (ks : List Known) (number : ℕ) (a : Expr) (alias : List ℕ) (rest : List SelectItem)
    → named_from s ks number (One a (Some alias) ∷ rest) ≡ named alias (resolved s a) ∷ named_from s ks number rest
unfolding named_from
from-alias s ks number a alias rest = refl

pub from-plain : (s : Scope) (ks : List Known) (number : ℕ) (a : Expr) (name : List ℕ) (rest : List SelectItem) → plain_name ks a ≡ Some name
    → named_from s ks number (One a None ∷ rest) ≡ named name (resolved s a) ∷ named_from s ks number rest
unfolding named_from
from-plain s ks number a name rest h = ap (λ o. without_alias number o (resolved s a) (named_from s ks number rest) (named_from s ks (suc number) rest)) h

pub from-numbered : (s : Scope) (ks : List Known) (number : ℕ) (a : Expr) (rest : List SelectItem) → plain_name ks a ≡ None
    → named_from s ks number (One a None ∷ rest) ≡ named (numbered_name number) (resolved s a) ∷ named_from s ks (suc number) rest
unfolding named_from
from-numbered s ks number a rest h = ap (λ o. without_alias number o (resolved s a) (named_from s ks number rest) (named_from s ks (suc number) rest)) h
