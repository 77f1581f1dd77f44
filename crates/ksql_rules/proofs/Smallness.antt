-- The expressions of a result keep the limits of those of the items.
use Rattle.std.proofs.Common.{◌≡◌, ℕ, suc, Bool, ◌&&◌, List, [], ◌∷◌, nat_le, length, true, false, map, Option, Some, None, All, refl, ap, ap₂, sym, ◌∙◌}
use Rattle.std.specs.Prelude.{filter, bytes_eq, option_map, unwrap_or}
use Rattle.std.specs.List.{flat_map, AllByRecursion as Each}
use Rattle.std.proofs.lemmas.List.Elements.{All-nil, All-cons, All-head, All-tail, All-append}
use Rattle.ksql_types.specs.declared.relation.Column.{Column}
use Rattle.ksql_types.specs.declared.operator.BinaryOp.TheVariants as op
use Rattle.expression_trees.specs.declared.tree.Expr.{Expr, out-Expr, roll-Expr, roll-out-Expr}
use Rattle.expression_trees.specs.declared.tree.Expr.TheOpen.{Expr-F}
use Rattle.expression_trees.specs.declared.tree.Expr.TheVariants.{rolls-Binary}
use Rattle.expression_trees.specs.declared.tree.Expr.TheVariants as e
use Rattle.statement_trees.specs.declared.tree.SelectItem.{SelectItem}
use Rattle.statement_trees.specs.declared.tree.SelectItem.TheVariants.{Star, StarOf, One}
use Rattle.expression_trees.specs.declared.tree.WhenText.{WhenText}
use Rattle.ksql_types.specs.Columns.{columns}
use Rattle.ksql_scopes.specs.declared.scope.Scope.{Scope}
use Rattle.ksql_scopes.specs.declared.scope.ScopeColumn.{ScopeColumn}
use Rattle.ksql_scopes.specs.Scope.{is_known_as}
use Rattle.ksql_scopes.specs.Uses.{is_small, IsSmall, small_step, are_small, are_whens_small, is_small_perhaps}
use Rattle.expression_trees.proofs.Folds as f
use Rattle.ksql_scopes.proofs.Induction.{IfThere, InWhen, Steps, induction}
use Rattle.ksql_clauses.specs.declared.items.Named.{Named}
use Rattle.ksql_clauses.specs.declared.sources.Known.{Known}
use Rattle.ksql_clauses.specs.Items.{named, named_from, numbered_name, plain_name, star_column, star_of, all_stars, stars_of, is_join}
use Rattle.ksql_scopes.specs.Resolved.{resolved, resolved_when, is_row_time, written_for}
use Rattle.ksql_clauses.specs.Sources.{item_exprs}
use Rattle.ksql_clauses.proofs.Naming.{from-nothing, from-Star, from-StarOf, from-alias, from-plain, from-numbered}
use Rattle.ksql_scopes.proofs.Resolving as r
use Rattle.ksql_clauses.specs.Keys.{on_sides, equated_sides}
use Rattle.std.proofs.lemmas.Bool.{and_parts}
use Rattle.ksql_scopes.proofs.Small.{is_small-OneOf, is_small-Case, is_small-Call}

-- ---- forms

pub small-Name : (q : Option (List ℕ)) (name : List ℕ) → is_small (e.Name q name) ≡ true
unfolding is_small
small-Name q name = f.fold-Name Bool Bool small_step (λ w. w.cond && w.result) q name

-- ---- resolved names

module _ (s : Scope) where
  -- an expression is as small with resolved names
  abbrev Keeps : Expr → Type 0
  Keeps a = is_small (resolved s a) ≡ is_small a

  keeps-each : (es : List Expr) → Each Keeps es → are_small (map (resolved s) es) ≡ are_small es
  keeps-each [] h = refl
  keeps-each (a ∷ es) h = ap₂ (λ b c. b && c) h.0 (keeps-each es h.1)

  keeps-whens : (ws : List WhenText) → Each (InWhen Keeps) ws → are_whens_small (map (resolved_when s) ws) ≡ are_whens_small ws
  keeps-whens [] h = refl
  keeps-whens (w ∷ ws) h =
      ap₂ (λ b c. b && c)
      (ap₂ (λ b c. b && c)
      (ap (λ v. is_small v.cond) (r.resolved-when s w) ∙ h.0.0)
      (ap (λ v. is_small v.result) (r.resolved-when s w) ∙ h.0.1))
      (keeps-whens ws h.1)

  keeps-perhaps : (x : Option Expr) → IfThere Keeps x → is_small_perhaps (option_map (resolved s) x) ≡ is_small_perhaps x
  keeps-perhaps None h = refl
  keeps-perhaps (Some a) h = h

  written-small : (q : Option (List ℕ)) (name : List ℕ) (row : Bool) (cs : List ScopeColumn) → is_row_time s q name ≡ row
      → is_small (written_for s q name cs) ≡ true
  written-small q name true [] h = rw h (small-Name None name)
  written-small q name false [] h = rw h (small-Name q name)
  written-small q name row (c ∷ cs) h = small-Name c.alias name

  named-small : (q : Option (List ℕ)) (name : List ℕ) → Keeps (e.Name q name)
  named-small q name =
      ap is_small (r.resolved-Name s q name)
      ∙ written-small q name (is_row_time s q name) (filter (is_known_as q name) s.columns) refl ∙ sym (small-Name q name)

  via : (x y : Expr) (b c : Bool) → resolved s x ≡ y → is_small y ≡ b → b ≡ c → is_small x ≡ c → Keeps x
  via x y b c h i j k = ap is_small h ∙ i ∙ j ∙ sym k

  steps : Steps Keeps
  unfolding is_small
  steps = record {
    digits = λ n. ap is_small (r.resolved-Digits s n);
    text = λ t. ap is_small (r.resolved-Text s t);
    truth = λ b. ap is_small (r.resolved-Truth s b);
    null = ap is_small (r.resolved-Null s);
    name = λ q n. named-small q n;
    sign = λ m a h. via (e.Sign m a) (e.Sign m (resolved s a)) (is_small (resolved s a)) (is_small a) (r.resolved-Sign s m a)
        (f.fold-Sign Bool Bool small_step (λ w. w.cond && w.result) m (resolved s a)) h (f.fold-Sign Bool Bool small_step (λ w. w.cond && w.result) m a);
    binary = λ o a b h k. via (e.Binary o a b) (e.Binary o (resolved s a) (resolved s b)) (is_small (resolved s a) && is_small (resolved s b)) (is_small a && is_small b)
        (r.resolved-Binary s o a b) (f.fold-Binary Bool Bool small_step (λ w. w.cond && w.result) o (resolved s a) (resolved s b))
        (ap₂ (λ x y. x && y) h k) (f.fold-Binary Bool Bool small_step (λ w. w.cond && w.result) o a b);
    not = λ a h. via (e.Not a) (e.Not (resolved s a)) (is_small (resolved s a)) (is_small a) (r.resolved-Not s a)
        (f.fold-Not Bool Bool small_step (λ w. w.cond && w.result) (resolved s a)) h (f.fold-Not Bool Bool small_step (λ w. w.cond && w.result) a);
    is_null = λ n a h. via (e.IsNull n a) (e.IsNull n (resolved s a)) (is_small (resolved s a)) (is_small a) (r.resolved-IsNull s n a)
        (f.fold-IsNull Bool Bool small_step (λ w. w.cond && w.result) n (resolved s a)) h (f.fold-IsNull Bool Bool small_step (λ w. w.cond && w.result) n a);
    between = λ n a b c h k l. via (e.Between n a b c) (e.Between n (resolved s a) (resolved s b) (resolved s c))
        (is_small (resolved s a) && is_small (resolved s b) && is_small (resolved s c)) (is_small a && is_small b && is_small c)
        (r.resolved-Between s n a b c) (f.fold-Between Bool Bool small_step (λ w. w.cond && w.result) n (resolved s a) (resolved s b) (resolved s c))
        (ap₂ (λ x y. x && y) (ap₂ (λ x y. x && y) h k) l) (f.fold-Between Bool Bool small_step (λ w. w.cond && w.result) n a b c);
    one_of = λ n a es h k. via (e.OneOf n a es) (e.OneOf n (resolved s a) (map (resolved s) es)) (is_small (resolved s a) && are_small (map (resolved s) es))
        (is_small a && are_small es) (r.resolved-OneOf s n a es) (is_small-OneOf n (resolved s a) (map (resolved s) es))
        (ap₂ (λ x y. x && y) h (keeps-each es k)) (is_small-OneOf n a es);
    like = λ n a t h. via (e.Like n a t) (e.Like n (resolved s a) t) (is_small (resolved s a) && nat_le (length t) 65536) (is_small a && nat_le (length t) 65536)
        (r.resolved-Like s n a t) (f.fold-Like Bool Bool small_step (λ w. w.cond && w.result) n (resolved s a) t)
        (ap (λ x. x && nat_le (length t) 65536) h) (f.fold-Like Bool Bool small_step (λ w. w.cond && w.result) n a t);
    cast = λ a to h. via (e.Cast a to) (e.Cast (resolved s a) to) (is_small (resolved s a)) (is_small a) (r.resolved-Cast s a to)
        (f.fold-Cast Bool Bool small_step (λ w. w.cond && w.result) (resolved s a) to) h (f.fold-Cast Bool Bool small_step (λ w. w.cond && w.result) a to);
    case = λ x ws z h k l. via (e.Case x ws z) (e.Case (option_map (resolved s) x) (map (resolved_when s) ws) (option_map (resolved s) z))
        (is_small_perhaps (option_map (resolved s) x) && are_whens_small (map (resolved_when s) ws) && is_small_perhaps (option_map (resolved s) z))
        (is_small_perhaps x && are_whens_small ws && is_small_perhaps z) (r.resolved-Case s x ws z)
        (is_small-Case (option_map (resolved s) x) (map (resolved_when s) ws) (option_map (resolved s) z))
        (ap₂ (λ u v. u && v) (ap₂ (λ u v. u && v) (keeps-perhaps x h) (keeps-whens ws k)) (keeps-perhaps z l)) (is_small-Case x ws z);
    call = λ g star args h. via (e.Call g star args) (e.Call g star (map (resolved s) args)) (are_small (map (resolved s) args)) (are_small args)
        (r.resolved-Call s g star args) (is_small-Call g star (map (resolved s) args)) (keeps-each args h) (is_small-Call g star args);
  }

  pub keeps : (a : Expr) → Keeps a
  keeps = induction Keeps steps

-- ---- result columns

abbrev IsColumnSmall : Named → Type 0
IsColumnSmall c = IsSmall c.expr

star-small : (join : Bool) (alias : List ℕ) (cs : List Column) → All IsColumnSmall (map (star_column join alias) cs)
star-small join alias [] = All-nil IsColumnSmall
star-small join alias (c ∷ cs) =
    All-cons IsColumnSmall (star_column join alias c) (map (star_column join alias) cs) (small-Name (Some alias) c.name) (star-small join alias cs)

stars-small : (all ks : List Known) → All IsColumnSmall (flat_map (star_of all) ks)
stars-small all [] = All-nil IsColumnSmall
stars-small all (k ∷ ks) =
    All-append IsColumnSmall (star_of all k) (flat_map (star_of all) ks) (star-small (is_join all) k.alias (columns k.relation)) (stars-small all ks)

one-small : (s : Scope) (a : Expr) → IsSmall a → IsSmall (resolved s a)
one-small s a h = keeps s a ∙ h

unnamed-small : (s : Scope) (ks : List Known) (number : ℕ) (a : Expr) (items : List SelectItem) (o : Option (List ℕ)) → plain_name ks a ≡ o → IsSmall a
    → All IsColumnSmall (named_from s ks number items) → All IsColumnSmall (named_from s ks (suc number) items)
    → All IsColumnSmall (named_from s ks number (One a None ∷ items))
unnamed-small s ks number a items None e h k l =
    rw (from-numbered s ks number a items e)
    (All-cons IsColumnSmall (named (numbered_name number) (resolved s a)) (named_from s ks (suc number) items) (one-small s a h) l)
unnamed-small s ks number a items (Some name) e h k l =
    rw (from-plain s ks number a name items e)
    (All-cons IsColumnSmall (named name (resolved s a)) (named_from s ks number items) (one-small s a h) k)

-- the expressions of a result
pub columns-small : (s : Scope) (ks : List Known) (number : ℕ) (items : List SelectItem) → All IsSmall (flat_map item_exprs items)
    → All (λ c. IsSmall c.expr) (named_from s ks number items)
columns-small s ks number [] h = rw (from-nothing s ks number) (All-nil IsColumnSmall)
columns-small s ks number (Star ∷ items) h =
    rw (from-Star s ks number items)
    (All-append IsColumnSmall (all_stars ks) (named_from s ks number items) (stars-small ks ks) (columns-small s ks number items h))
columns-small s ks number (StarOf alias ∷ items) h =
    rw (from-StarOf s ks number alias items)
    (All-append IsColumnSmall (stars_of alias ks) (named_from s ks number items)
    (stars-small ks (filter (λ k. bytes_eq k.alias alias) ks)) (columns-small s ks number items h))
columns-small s ks number (One a (Some alias) ∷ items) h =
    rw (from-alias s ks number a alias items)
    (All-cons IsColumnSmall (named alias (resolved s a)) (named_from s ks number items)
    (one-small s a (All-head IsSmall a (flat_map item_exprs items) h))
    (columns-small s ks number items (All-tail IsSmall a (flat_map item_exprs items) h)))
columns-small s ks number (One a None ∷ items) h =
    unnamed-small s ks number a items (plain_name ks a) refl (All-head IsSmall a (flat_map item_exprs items) h)
    (columns-small s ks number items (All-tail IsSmall a (flat_map item_exprs items) h))
    (columns-small s ks (suc number) items (All-tail IsSmall a (flat_map item_exprs items) h))

-- ---- sides

sides-small : (y : Expr-F Expr WhenText) (a b : Expr) → equated_sides y ≡ Some (a, b) → is_small (roll-Expr y) ≡ true → IsSmall a × IsSmall b
unfolding is_small
sides-small (Expr-F.Binary op.Eq x y) a b e h =
    let both = and_parts (is_small x) (is_small y)
    (sym (ap is_small (rolls-Binary op.Eq x y) ∙ f.fold-Binary Bool Bool small_step (λ w. w.cond && w.result) op.Eq x y) ∙ h) in
    let l : x ≡ a = ap (λ o. (unwrap_or {T = Expr × Expr} o (x, y)).0) e in
    let r : y ≡ b = ap (λ o. (unwrap_or {T = Expr × Expr} o (x, y)).1) e in
    (sym (ap is_small l) ∙ both.0, sym (ap is_small r) ∙ both.1)
sides-small form a b e h = absurd (cc (e))

-- the sides of ON
pub on-small : (on a b : Expr) → on_sides on ≡ Some (a, b) → IsSmall on → IsSmall a × IsSmall b
on-small on a b e h = sides-small (out-Expr on) a b e (ap is_small (roll-out-Expr on) ∙ h)
