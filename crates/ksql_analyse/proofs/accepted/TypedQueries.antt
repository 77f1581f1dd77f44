-- The expressions of an accepted query have typed trees.
use Rattle.std.proofs.Common.{◌≡◌, ◌↔◌, ℕ, Bool, true, false, List, [], ◌∷◌, ◌++◌, Option, Some, None, is_some, refl, ap, ◌∙◌, IsTrue}
use Rattle.std.specs.Prelude.{option_map}
use Rattle.std.specs.List.{list_any, flat_map, AllByRecursion as Each}
use Rattle.std.proofs.lemmas.List.Elements.{recursion_from_All}
use Rattle.ksql_types.specs.declared.relation.Relation.{Relation}
use Rattle.expression_trees.specs.declared.tree.Expr.{Expr}
use Rattle.expression_trees.specs.declared.tree.Expr.TheVariants as e
use Rattle.statement_trees.specs.declared.tree.Property.{Property}
use Rattle.statement_trees.specs.declared.tree.Select.{Select}
use Rattle.ksql_scopes.specs.declared.scope.Scope.{Scope}
use Rattle.ksql_type_sets.specs.Decisions as decided
use Rattle.ksql_type_sets.specs.Sets.{is_some_in}
use Rattle.ksql_typing.specs.Standing.{HasSomeType, HasValue, CanBeTrue, CanAgree}
use Rattle.ksql_scopes.specs.Uses.{IsSmall, has_unknown_function}
use Rattle.ksql_scopes.specs.Functions.{is_unknown}
use Rattle.ksql_scopes.proofs.Equations as equation
use Rattle.ksql_typing.specs.Judged.{judged}
use Rattle.ksql_typing.proofs.TypeLaws.{accepted, tree_type, known, some_type, value, truth, agreement}
use Rattle.ksql_clauses.specs.declared.items.Named.{Named}
use Rattle.ksql_clauses.specs.declared.sources.Known.{Known}
use Rattle.ksql_clauses.specs.Items.{result_columns}
use Rattle.ksql_scopes.specs.Resolved.{resolved}
use Rattle.ksql_clauses.specs.Sources.{from_scope, item_scope, on_scope, early_exprs, front_exprs, late_exprs, there, on_exprs}
use Rattle.aggregate_rules.specs.Grouping.{aggregates_of}
use Rattle.ksql_rules.specs.Breaks as rules
use Rattle.ksql_rules.specs.Breaks.{IsQueryTyped, IfThere, group_exprs, shown_exprs}
use Rattle.ksql_clauses.specs.Keys.{on_sides}
use Rattle.ksql_rules.specs.Limits.{IsQueryWithin}
use Rattle.ksql_rules.proofs.Smallness.{small-Name}
use Rattle.ksql_analyse.specs.Judgement.{aggregate_exprs, exprs}
use Rattle.ksql_analyse.specs.Typable.{IsTypable, IsValued, IsAggregable}
use Rattle.ksql_analyse.proofs.forms.AggregateTrees.{aggregates-fine, IsFine}
use Rattle.ksql_analyse.proofs.accepted.PlainColumns.{HasPlainColumns}
use Rattle.ksql_analyse.proofs.forms.Once.{once-each}
use Rattle.ksql_analyse.proofs.accepted.Refusals.{KeepsQuery}
use Rattle.ksql_analyse.proofs.forms.Resolution.{calls-resolved, small-resolved}
use Rattle.ksql_analyse.proofs.forms.NamesTyped.{resolved-typed}
use Rattle.ksql_analyse.proofs.sound.SoundColumns.{each-append, each-map, each-weaker}
use Rattle.ksql_analyse.proofs.sound.SoundPlain.{exprs-hold}
use Rattle.ksql_analyse.proofs.sound.SoundQuery.{filter-part, group-part, items-part, having-part}
use Rattle.ksql_analyse.proofs.sound.SoundTrees.{each-false, each-front, each-behind}

-- ---- what is decided holds where it isn't false that it holds

abbrev Stable : Type 0 → Type 0
Stable P = ¬ ¬ P → P

by-test : (P : Type 0) (b : Bool) → IsTrue b ↔ P → Stable P
by-test P true d h = d.0 refl
by-test P false d h = absurd (h (λ p. let e : false ≡ true = d.1 p in cc))

each-stable : {A : Type 0} (P : A → Type 0) → ((x : A) → Stable (P x)) → (xs : List A) → Stable (rules.Each P xs)
each-stable P s [] h = tt
each-stable P s (x ∷ xs) h = (s x (λ no. h (λ p. no p.0)), each-stable P s xs (λ no. h (λ p. no p.1)))

there-stable : {A : Type 0} (P : A → Type 0) → ((x : A) → Stable (P x)) → (o : Option A) → Stable (IfThere P o)
there-stable P s None h = tt
there-stable P s (Some x) h = s x h

typed-stable : (s : Scope) (a : Expr) → Stable (HasSomeType s a)
typed-stable s a = by-test (HasSomeType s a) (is_some_in (judged a s).types) (some_type s a)

value-stable : (s : Scope) (c : Named) → Stable (HasValue s c.expr)
value-stable s c = by-test (HasValue s c.expr) (decided.has_value (judged c.expr s).types) (value s c.expr)

truth-stable : (s : Scope) (a : Expr) → Stable (CanBeTrue s a)
truth-stable s a = by-test (CanBeTrue s a) (decided.can_be_true (judged a s).types) (truth s a)

agreement-stable : (s : Scope) (sides : Expr × Expr) → Stable (CanAgree s sides)
agreement-stable s sides =
    by-test (CanAgree s sides) (decided.can_agree (judged sides.0 s).types (judged sides.1 s).types) (agreement s sides.0 sides.1)

pub query-typed : (q : Select) (ks : List Known) → ¬ ¬ IsQueryTyped q ks → IsQueryTyped q ks
query-typed q ks h = record {
  on = each-stable (HasSomeType (on_scope q ks)) (typed-stable (on_scope q ks)) (on_exprs q) (λ no. h (λ t. no t.on));
  front = each-stable (HasSomeType (from_scope q ks)) (typed-stable (from_scope q ks)) (front_exprs q) (λ no. h (λ t. no t.front));
  late = each-stable (HasSomeType (item_scope q ks)) (typed-stable (item_scope q ks)) (late_exprs q) (λ no. h (λ t. no t.late));
  where_true = there-stable (CanBeTrue (from_scope q ks)) (truth-stable (from_scope q ks)) q.filter (λ no. h (λ t. no t.where_true));
  having_true = there-stable (CanBeTrue (item_scope q ks)) (truth-stable (item_scope q ks)) q.having (λ no. h (λ t. no t.having_true));
  valued = each-stable (λ c. HasValue (item_scope q ks) c.expr) (value-stable (item_scope q ks)) (result_columns q ks) (λ no. h (λ t. no t.valued));
  on_agrees = each-stable (λ on. IfThere (CanAgree (on_scope q ks)) (on_sides on))
      (λ on. there-stable (CanAgree (on_scope q ks)) (agreement-stable (on_scope q ks)) (on_sides on)) (on_exprs q) (λ no. h (λ t. no t.on_agrees));
}

-- ---- expressions that have typed trees

each-of : {A : Type 0} (P : A → Type 0) (xs : List A) → rules.Each P xs → Each P xs
each-of P [] h = tt
each-of P (x ∷ xs) h = (h.0, each-of P xs h.1)

pub typable : (s : Scope) (a : Expr) → IsSmall a → has_unknown_function a ≡ false → HasSomeType s a → IsTypable s a
typable s a h k l = let r = accepted s a l.0 k l.1 in record { small = h; tree = r.0; is = r.1 }

all-typable : (s : Scope) (es : List Expr) → Each IsSmall es → Each (λ a. has_unknown_function a ≡ false) es → Each (HasSomeType s) es → Each (IsTypable s) es
all-typable s [] h k l = tt
all-typable s (a ∷ es) h k l = (typable s a h.0 k.0 l.0, all-typable s es h.1 k.1 l.1)

resolved-typable : (s : Scope) → HasPlainColumns s → (a : Expr) → IsTypable s a → IsTypable s (resolved s a)
resolved-typable s plain a h =
    typable s (resolved s a) (small-resolved s a ∙ h.small) (ap (list_any is_unknown) (calls-resolved s a) ∙ known s a h.tree h.is)
    (h.tree.ty, resolved-typed s plain a h.tree.ty (tree_type s a h.tree h.is))

aggregables-of : (s : Scope) (a : Expr) → IsTypable s a → Each (IsAggregable s) (aggregates_of a)
aggregables-of s a h =
    each-weaker (IsFine s) (IsAggregable s) (λ b f. record { typable = record { small = f.1; tree = f.0.0; is = f.0.1 }; aggregate = f.0.2 }) (aggregates_of a)
    (aggregates-fine s h.is.0 h.is.1 h.small)

each-aggregable : (s : Scope) (es : List Expr) → Each (IsTypable s) es → Each (IsAggregable s) (flat_map aggregates_of es)
each-aggregable s [] h = tt
each-aggregable s (a ∷ es) h = each-append (IsAggregable s) (aggregates_of a) (flat_map aggregates_of es) (aggregables-of s a h.0) (each-aggregable s es h.1)

-- what holds of ON, and of WHERE, GROUP BY and PARTITION BY
early-of : (P : Expr → Type 0) (q : Select) → Each P (on_exprs q) → Each P (front_exprs q) → Each P (early_exprs q)
early-of P q on front =
    let first = each-front P (there q.filter ++ q.group) (there q.partition) front in
    let filters = each-front P (there q.filter) q.group first in
    let groups = each-behind P (there q.filter) q.group first in
    each-append P (on_exprs q ++ there q.filter ++ q.group) (there q.partition)
    (each-append P (on_exprs q ++ there q.filter) q.group (each-append P (on_exprs q) (there q.filter) on filters) groups)
    (each-behind P (there q.filter ++ q.group) (there q.partition) front)

-- ---- of an accepted query

module _ (catalog : List Relation) (table : Bool) (name : List ℕ) (ps : List Property) (q : Select) (ks : List Known)
    (keeps : KeepsQuery catalog table name ps q ks) (within : IsQueryWithin q)
    (from_plain : HasPlainColumns (from_scope q ks)) (item_plain : HasPlainColumns (item_scope q ks)) where
  abbrev front : Scope
  front = from_scope q ks

  abbrev items : Scope
  items = item_scope q ks

  typed : IsQueryTyped q ks
  typed = query-typed q ks keeps.typed

  pub early : Each (IsTypable front) (early_exprs q)
  early =
      all-typable front (early_exprs q) (recursion_from_All IsSmall (early_exprs q) within.early_small)
      (each-false has_unknown_function (early_exprs q) keeps.early_known)
      (early-of (HasSomeType front) q (each-of (HasSomeType front) (on_exprs q) typed.on) (each-of (HasSomeType front) (front_exprs q) typed.front))

  pub late : Each (IsTypable items) (late_exprs q)
  late =
      all-typable items (late_exprs q) (recursion_from_All IsSmall (late_exprs q) within.late_small)
      (each-false has_unknown_function (late_exprs q) keeps.late_known) (each-of (HasSomeType items) (late_exprs q) typed.late)

  pub filter-typable : Each (IsTypable front) (there q.filter)
  filter-typable = filter-part (IsTypable front) q early

  pub groups-typable : Each (IsTypable front) (group_exprs q ks)
  groups-typable =
      each-map (IsTypable front) (resolved front) q.group
      (each-weaker (IsTypable front) (λ a. IsTypable front (resolved front a)) (resolved-typable front from_plain) q.group (group-part (IsTypable front) q early))

  abbrev IsKnownSmall : Expr → Type 0
  IsKnownSmall a = IsSmall a × (has_unknown_function a ≡ false)

  name-small : (q : Option (List ℕ)) (n : List ℕ) → IsKnownSmall (e.Name q n)
  name-small p n = (small-Name p n, ap (list_any is_unknown) (equation.calls-Name p n))

  columns-small : Each (λ c. IsKnownSmall c.expr) (result_columns q ks)
  columns-small =
      exprs-hold IsKnownSmall q ks (λ alias n. name-small (Some alias) n)
      (λ a h. (small-resolved items a ∙ h.0, ap (list_any is_unknown) (calls-resolved items a) ∙ h.1)) keeps.few
      (items-part IsKnownSmall q (each-weaker (IsTypable items) IsKnownSmall (λ a h. (h.small, known items a h.tree h.is)) (late_exprs q) late))

  pub columns-valued : Each (λ c. IsValued items c.expr) (result_columns q ks)
  columns-valued = all (result_columns q ks) columns-small (each-of (λ c. HasValue items c.expr) (result_columns q ks) typed.valued)
    where
      all : (cs : List Named) → Each (λ c. IsKnownSmall c.expr) cs → Each (λ c. HasValue items c.expr) cs → Each (λ c. IsValued items c.expr) cs
      all [] h k = tt
      all (c ∷ cs) h k =
          let r = accepted items c.expr (Some k.0.0) h.0.1 k.0.1 in
          (record { typable = record { small = h.0.0; tree = r.0; is = r.1 }; value = ap is_some r.2 }, all cs h.1 k.1)

  pub having-typable : Each (IsTypable items) (there (option_map (resolved items) q.having))
  having-typable = at q.having (having-part (IsTypable items) q late)
    where
      at : (o : Option Expr) → Each (IsTypable items) (there o) → Each (IsTypable items) (there (option_map (resolved items) o))
      at None h = tt
      at (Some a) h = (resolved-typable items item_plain a h.0, tt)

  pub shown-typable : Each (IsTypable items) (shown_exprs q ks)
  shown-typable =
      each-append (IsTypable items) (exprs (result_columns q ks)) (there (option_map (resolved items) q.having))
      (each-map (IsTypable items) (λ (c : Named). c.expr) (result_columns q ks)
      (each-weaker (λ c. IsValued items c.expr) (λ c. IsTypable items c.expr) (λ c h. h.typable) (result_columns q ks) columns-valued))
      having-typable

  pub aggregates-typable : Each (IsAggregable items) (aggregate_exprs q ks)
  aggregates-typable = once-each (IsAggregable items) (flat_map aggregates_of (shown_exprs q ks)) [] tt (each-aggregable items (shown_exprs q ks) shown-typable)
