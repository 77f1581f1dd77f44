-- What is decided by the sets of types is whether a query is typed.
use Rattle.std.proofs.Common.{◌≡◌, Bool, ◌&&◌, List, [], ◌∷◌, Option, Some, None, IsTrue, refl, sym, subst}
use Rattle.std.specs.Prelude.{◌↔◌}
use Rattle.std.specs.List.{list_all}
use Rattle.expression_trees.specs.declared.tree.Expr.{Expr}
use Rattle.statement_trees.specs.declared.tree.Select.{Select}
use Rattle.ksql_scopes.specs.declared.scope.Scope.{Scope}
use Rattle.ksql_type_sets.specs.Sets.{is_some_in}
use Rattle.ksql_typing.specs.Standing.{CanBeTrue, CanAgree}
use Rattle.std.proofs.lemmas.Bool.{and_parts, and_from}
use Rattle.ksql_typing.specs.Judged.{judged}
use Rattle.ksql_typing.proofs.TypeLaws as law
use Rattle.ksql_clauses.specs.declared.sources.Known.{Known}
use Rattle.ksql_clauses.specs.Items.{result_columns}
use Rattle.ksql_clauses.specs.Sources.{from_scope, on_scope, item_scope, front_exprs, late_exprs, on_exprs}
use Rattle.ksql_rules.specs.Breaks.{Each, IfThere, IsQueryTyped}
use Rattle.ksql_rules.specs.Decided.{fits_truth, is_valued, do_sides_agree, does_on_agree}
use Rattle.ksql_clauses.specs.Keys.{on_sides}

pub turned : {P : Type 0} (b c : Bool) → b ≡ c → IsTrue c ↔ P → IsTrue b ↔ P
turned {P} b c e h = subst (λ x. IsTrue x ↔ P) (sym e) h

each-decided : {A : Type 0} (P : A → Type 0) (p : A → Bool) → ((x : A) → IsTrue (p x) ↔ P x) → (xs : List A) → IsTrue (list_all p xs) ↔ Each P xs
each-decided P p h [] = (λ k. tt, λ k. refl)
each-decided P p h (x ∷ xs) =
    let others = each-decided P p h xs in (
      λ k. let b = and_parts (p x) (list_all p xs) k in ((h x).0 b.0, others.0 b.1),
      λ k. and_from (p x) (list_all p xs) ((h x).1 k.0) (others.1 k.1),
    )

truth-decided : (s : Scope) (part : Option Expr) → IsTrue (fits_truth s part) ↔ IfThere (CanBeTrue s) part
truth-decided s None = (λ k. tt, λ k. refl)
truth-decided s (Some a) = law.truth s a

sides-decided : (s : Scope) (sides : Option (Expr × Expr)) → IsTrue (do_sides_agree s sides) ↔ IfThere (CanAgree s) sides
sides-decided s None = (λ k. tt, λ k. refl)
sides-decided s (Some sides) = law.agreement s sides.0 sides.1

module _ (q : Select) (ks : List Known) where
  abbrev pub on : Bool
  on = list_all (λ a. is_some_in (judged a (on_scope q ks)).types) (on_exprs q)

  abbrev pub front : Bool
  front = list_all (λ a. is_some_in (judged a (from_scope q ks)).types) (front_exprs q)

  abbrev pub early : Bool
  early = on && front

  abbrev pub late : Bool
  late = list_all (λ a. is_some_in (judged a (item_scope q ks)).types) (late_exprs q)

  abbrev pub fit : Bool
  fit = fits_truth (from_scope q ks) q.filter && fits_truth (item_scope q ks) q.having

  abbrev pub last : Bool
  last = list_all (is_valued (item_scope q ks)) (result_columns q ks) && does_on_agree (on_scope q ks) q

  is-typed : IsTrue ((early && late && fit) && last) → IsQueryTyped q ks
  is-typed h =
      let a = and_parts (early && late && fit) last h in
      let b = and_parts (early && late) fit a.0 in
      let c = and_parts early late b.0 in
      let o = and_parts on front c.0 in
      let d = and_parts (fits_truth (from_scope q ks) q.filter) (fits_truth (item_scope q ks) q.having) b.1 in
      let e = and_parts (list_all (is_valued (item_scope q ks)) (result_columns q ks)) (does_on_agree (on_scope q ks) q) a.1 in
      record {
        on = (each-decided _ (λ x. is_some_in (judged x (on_scope q ks)).types) (law.some_type (on_scope q ks)) (on_exprs q)).0 o.0;
        front = (each-decided _ (λ x. is_some_in (judged x (from_scope q ks)).types) (law.some_type (from_scope q ks)) (front_exprs q)).0 o.1;
        late = (each-decided _ (λ x. is_some_in (judged x (item_scope q ks)).types) (law.some_type (item_scope q ks)) (late_exprs q)).0 c.1;
        where_true = (truth-decided (from_scope q ks) q.filter).0 d.0;
        having_true = (truth-decided (item_scope q ks) q.having).0 d.1;
        valued = (each-decided _ (is_valued (item_scope q ks)) (λ x. law.value (item_scope q ks) x.expr) (result_columns q ks)).0 e.0;
        on_agrees = (each-decided _ (λ on. do_sides_agree (on_scope q ks) (on_sides on)) (λ on. sides-decided (on_scope q ks) (on_sides on)) (on_exprs q)).0 e.1;
      }

  typed-is : IsQueryTyped q ks → IsTrue ((early && late && fit) && last)
  typed-is h =
      and_from (early && late && fit) last
      (and_from (early && late) fit
      (and_from early late
      (and_from on front
      ((each-decided _ (λ x. is_some_in (judged x (on_scope q ks)).types) (law.some_type (on_scope q ks)) (on_exprs q)).1 h.on)
      ((each-decided _ (λ x. is_some_in (judged x (from_scope q ks)).types) (law.some_type (from_scope q ks)) (front_exprs q)).1 h.front))
      ((each-decided _ (λ x. is_some_in (judged x (item_scope q ks)).types) (law.some_type (item_scope q ks)) (late_exprs q)).1 h.late))
      (and_from (fits_truth (from_scope q ks) q.filter) (fits_truth (item_scope q ks) q.having)
      ((truth-decided (from_scope q ks) q.filter).1 h.where_true)
      ((truth-decided (item_scope q ks) q.having).1 h.having_true)))
      (and_from (list_all (is_valued (item_scope q ks)) (result_columns q ks)) (does_on_agree (on_scope q ks) q)
      ((each-decided _ (is_valued (item_scope q ks)) (λ x. law.value (item_scope q ks) x.expr) (result_columns q ks)).1 h.valued)
      ((each-decided _ (λ on. do_sides_agree (on_scope q ks) (on_sides on)) (λ on. sides-decided (on_scope q ks) (on_sides on)) (on_exprs q)).1 h.on_agrees))

  pub query-decided : IsTrue ((early && late && fit) && last) ↔ IsQueryTyped q ks
  query-decided = (is-typed, typed-is)
