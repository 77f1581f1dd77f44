-- The aggregates of a grouped query are sound.
use Rattle.std.proofs.Common.{◌≡◌, ℕ, Bool, true, false, ◌&&◌, if◌then◌else◌, List, [], ◌∷◌, map, Option, Some, None, is_some, refl, ap, sym, ◌∙◌, subst, inl, inr}
use Rattle.std.specs.Prelude.{option_map, bytes_eq}
use Rattle.std.specs.List.{list_any}
use Rattle.std.proofs.lemmas.Bool.{false≢true}
use Rattle.std.proofs.lemmas.List.{append-nil}
use Rattle.std.proofs.lemmas.Option.{same_Some}
use Rattle.std.proofs.lemmas.Slice.Eq.{bytes_eq-Decides}
use Rattle.ksql_types.specs.declared.relation.Kind.{Kind}
use Rattle.ksql_types.specs.declared.relation.Kind.TheVariants as kind
use Rattle.expression_trees.specs.declared.tree.Expr.{Expr, out-Expr, roll-Expr, roll-out-Expr}
use Rattle.expression_trees.specs.declared.tree.Expr.TheVariants as e
use Rattle.expression_trees.specs.declared.tree.Expr.TheOpen.{Expr-F}
use Rattle.expression_trees.specs.declared.tree.WhenText.{WhenText}
use Rattle.expression_trees.specs.Words.{beside}
use Rattle.ksql_expr.specs.declared.typed.AggFun.{AggFun}
use Rattle.ksql_expr.specs.declared.typed.AggFun.TheVariants.{CountAll}
use Rattle.ksql_expr.specs.declared.typed.Typed.{Typed}
use Rattle.ksql_expr.specs.declared.typed.TypedNode.{out-TypedNode}
use Rattle.ksql_expr.specs.declared.typed.TypedNode.TheVariants as n
use Rattle.ksql_expr.specs.declared.typed.TypedNode.TheOpen.{TypedNode-F}
use Rattle.ksql_expr.specs.Rules.{agg_type}
use Rattle.ksql_expr.specs.Typing as w
use Rattle.ksql_expr.specs.Typing.{HasTypes}
use Rattle.ksql_program.specs.declared.query.Agg.{Agg}
use Rattle.ksql_types.specs.Names.{is_among}
use Rattle.ksql_program.specs.Sound.{IsAggOver, IsOverTable, IsArgument, IsSoundOver, argument_type}
use Rattle.ksql_scopes.specs.declared.scope.Scope.{Scope}
use Rattle.ksql_scopes.specs.Functions.{aggregates, aggregate_of, is_aggregate}
use Rattle.ksql_scopes.specs.Scope.{column_types, inside}
use Rattle.ksql_scopes.specs.Uses.{IsSmall, is_small, are_small, calls, all_of}
use Rattle.ksql_scopes.proofs.Small as small
use Rattle.std.proofs.lemmas.Bool.{and_parts}
use Rattle.ksql_typing.specs.Standing.{IsTypedTree}
use Rattle.ksql_typing.proofs.Known.{AreKnown, two-known, call-known}
use Rattle.ksql_typing.proofs.OneTyping.{checked}
use Rattle.ksql_scopes.proofs.Disjoint.{unknown-none}
use Rattle.ksql_typing.proofs.Inversion.{Checks, checks}
use Rattle.expression_trees.specs.Parts.{any_of}
use Rattle.aggregate_rules.specs.Grouping.{has_aggregate, has_nested_aggregate, is_aggregate_call, ordered_aggregates}
use Rattle.aggregate_rules.proofs.Calls as called
use Rattle.aggregate_rules.proofs.Calls.{calls_one}
use Rattle.ksql_analyse.proofs.forms.Bearing.{no-aggregate-held, short-texts-held}
use Rattle.ksql_analyse.proofs.forms.Handing.{IsFlat, CallsNone, nested-Call}
use Rattle.ksql_analyse.proofs.sound.SoundTrees.{IsPlain}
use Rattle.ksql_analyse.proofs.forms.Stood.{Stood, stood}
use Rattle.ksql_analyse.proofs.sound.SoundPlain.{typed_column}
use Rattle.ksql_analyse.proofs.lists.Distinct.{or-false}
use Rattle.ksql_analyse.proofs.forms.Timeless.{IsScopeOver, scope-over, time-over}

-- ---- an aggregate

-- a call of an aggregate that holds no other
pub record IsAlone (a : Expr) : Type 0 where
  pub name : List ℕ
  pub star : Bool
  pub args : List Expr
  pub is : a ≡ e.Call name star args
  pub aggregate : is_aggregate name ≡ true
  pub flat : list_any has_aggregate args ≡ false

call-form : (a : Expr) (z : Expr-F Expr WhenText) → out-Expr a ≡ z → is_aggregate_call a ≡ true
    → (f : List ℕ) × (star : Bool) × (es : List Expr) × (a ≡ e.Call f star es) × (is_aggregate f ≡ true)
call-form a (Expr-F.Call f star es) h k = (f, star, es, sym (roll-out-Expr a) ∙ ap roll-Expr h ∙ e.rolls-Call f star es, rw h at k)
call-form a (Expr-F.Digits number) h k = absurd (false≢true (rw h at k))
call-form a (Expr-F.Text content) h k = absurd (false≢true (rw h at k))
call-form a (Expr-F.Truth b) h k = absurd (false≢true (rw h at k))
call-form a Expr-F.Null h k = absurd (false≢true (rw h at k))
call-form a (Expr-F.Name q name) h k = absurd (false≢true (rw h at k))
call-form a (Expr-F.Sign m x) h k = absurd (false≢true (rw h at k))
call-form a (Expr-F.Binary o x y) h k = absurd (false≢true (rw h at k))
call-form a (Expr-F.Not x) h k = absurd (false≢true (rw h at k))
call-form a (Expr-F.IsNull m x) h k = absurd (false≢true (rw h at k))
call-form a (Expr-F.Between m x y z) h k = absurd (false≢true (rw h at k))
call-form a (Expr-F.OneOf m x es) h k = absurd (false≢true (rw h at k))
call-form a (Expr-F.Like m x t) h k = absurd (false≢true (rw h at k))
call-form a (Expr-F.Cast x to) h k = absurd (false≢true (rw h at k))
call-form a (Expr-F.Case x ws z) h k = absurd (false≢true (rw h at k))

pub aggregate-alone : (a : Expr) → is_aggregate_call a ≡ true → IsFlat a → IsAlone a
aggregate-alone a h k =
    let c = call-form a (out-Expr a) refl h in
    let inner = (or-false (is_aggregate c.0 && list_any has_aggregate c.2) (any_of (map has_nested_aggregate c.2)) (sym (nested-Call c.0 c.1 c.2) ∙ sym (ap has_nested_aggregate c.3) ∙ k)).0 in
    record { name = c.0; star = c.1; args = c.2; is = c.3; aggregate = c.4; flat = none (is_aggregate c.0) (list_any has_aggregate c.2) c.4 inner }
  where
    none : (a b : Bool) → a ≡ true → (a && b) ≡ false → b ≡ false
    none true b h k = k
    none false b h k = absurd (cc (h))

-- ---- which aggregates there are over a table

abbrev IsFree : List ℕ → AggFun → Type 0
IsFree name f = is_among ordered_aggregates name ≡ false → IsOverTable f

abbrev AreFree : List (List ℕ × AggFun) → Type 0
AreFree [] = Unit {0}
AreFree (row ∷ rows) = IsFree row.0 row.1 × AreFree rows

free-row : (name : List ℕ) (f : AggFun) (rows : List (List ℕ × AggFun)) → AreFree rows → beside rows name ≡ Some f → IsFree name f
free-row name f [] k h = absurd (cc (h))
free-row name f (row ∷ rows) k h = at (bytes_eq row.0 name) refl h (free-row name f rows k.1)
  where
    at : (b : Bool) → bytes_eq row.0 name ≡ b → (if b then Some row.1 else beside rows name) ≡ Some f → (beside rows name ≡ Some f → IsFree name f) → IsFree name f
    at true e l rest = λ m. subst IsOverTable (same_Some row.1 f l) (k.0 (ap (is_among ordered_aggregates) ((bytes_eq-Decides row.0 name).0 e) ∙ m))
    at false e l rest = rest l

pub free-aggregate : (name : List ℕ) (f : AggFun) → aggregate_of name ≡ Some f → is_among ordered_aggregates name ≡ false → IsOverTable f
unfolding aggregate_of
free-aggregate name f h =
    free-row name f aggregates
    (λ m. tt, (λ m. tt, (λ m. absurd (false≢true (sym m)), (λ m. absurd (false≢true (sym m)), (λ m. absurd (false≢true (sym m)), (λ m. absurd (false≢true (sym m)), tt)))))) h

over-kind : (f : AggFun) (b : Bool) (k : Kind) → (if b then kind.Stream else kind.Table) ≡ k → (b ≡ false → IsOverTable f) → IsAggOver k f
over-kind f true k e h = subst (λ x. IsAggOver x f) e tt
over-kind f false k e h = subst (λ x. IsAggOver x f) e (h refl)

-- ---- an aggregate's argument

argument-sound : (over : Kind) (s : Scope) → IsScopeOver over s → (a : Expr) (x : Typed) → IsPlain a → IsTypedTree (inside s) a x
    → IsSoundOver over (map typed_column s.columns) x
argument-sound over s scope a x p h = record {
  typed = subst (λ cs. HasTypes cs (w.one x)) (append-nil (map typed_column s.columns)) (checked (inside s) a x h);
  plain = no-aggregate-held (inside s) a x h p.0;
  short = short-texts-held (inside s) a x h p.1;
  timeless = time-over over (inside s) a x scope h;
}

-- ---- an aggregate, typed

same-aggregate : (f g : AggFun) (x y : Option Typed) → n.Aggregate f x ≡ n.Aggregate g y → (f ≡ g) × (x ≡ y)
same-aggregate f g x y h =
    let z : TypedNode-F.Aggregate f x ≡ TypedNode-F.Aggregate g y = sym (n.outs-Aggregate f x) ∙ ap out-TypedNode h ∙ n.outs-Aggregate g y in
    (cc (z), cc (z))

pub record IsSoundAgg (over : Kind) (s : Scope) (g : Agg) : Type 0 where
  pub over_kind : IsAggOver over g.fun
  pub argument : IsArgument over (map typed_column s.columns) g.arg

pub of-argument : (x : Option Typed) → argument_type x ≡ option_map (λ e. e.ty) x
of-argument None = refl
of-argument (Some x) = refl

-- an aggregate of a program has the type of its tree
pub agg-typed : (s : Scope) (g : Agg) (x : Typed) → HasTypes (column_types s) (w.one x) → x.node ≡ n.Aggregate g.fun g.arg → agg_type g.fun (argument_type g.arg) ≡ Some x.ty
agg-typed s g x k is = ap (agg_type g.fun) (of-argument g.arg) ∙ (subst (Checks (column_types s) x.ty) (ap out-TypedNode is ∙ n.outs-Aggregate g.fun g.arg) (checks k)).1

arguments-plain : (args : List Expr) → list_any has_aggregate args ≡ false → (a : Expr) → args ≡ a ∷ [] → has_aggregate a ≡ false
arguments-plain args h a is = (or-false (has_aggregate a) false (ap (list_any has_aggregate) (sym is) ∙ h)).0

pub agg-sound : (over : Kind) (s : Scope) (a : Expr) (g : Agg) → (if s.stream then kind.Stream else kind.Table) ≡ over → IsAlone a → IsSmall a
    → (s.stream ≡ false → CallsNone (is_among ordered_aggregates) a) → (x : Typed) → IsTypedTree s a x → x.node ≡ n.Aggregate g.fun g.arg → IsSoundAgg over s g
agg-sound over s a g kinds alone short free x h node = at (stood s a x (Expr-F.Call alone.name alone.star alone.args) (ap out-Expr alone.is ∙ e.outs-Call alone.name alone.star alone.args) h.0)
  where
    fit : (found : AggFun) → aggregate_of alone.name ≡ Some found → (s.stream ≡ false → IsOverTable found)
    fit found named m =
        let k = or-false (is_among ordered_aggregates alone.name) (any_of (map (calls_one (is_among ordered_aggregates)) alone.args))
        (sym (called.calls-Call (is_among ordered_aggregates) a alone.name alone.star alone.args alone.is) ∙ free m) in
        free-aggregate alone.name found named k.0

    small-argument : (b : Expr) → alone.args ≡ b ∷ [] → IsSmall b
    small-argument b k =
        let all = subst (λ es. are_small es ≡ true) k (small.small-Call a short alone.name alone.star alone.args alone.is) in
        (and_parts (is_small b) true all).0

    known-argument : (b : Expr) → alone.args ≡ b ∷ [] → AreKnown (calls b)
    known-argument b k =
        let all = (call-known alone.name alone.star alone.args (subst (λ z. AreKnown (calls z)) alone.is h.1)).1 in
        (two-known (calls b) [] refl (subst (λ es. AreKnown (all_of (map calls es))) k all)).0

    at : Stood s (Expr-F.Call alone.name alone.star alone.args) x → IsSoundAgg over s g
    at (inl c) = absurd (cc (sym node ∙ ap (λ y. y.node) c.is.1))
    at (inr (inl c)) =
        let same = same-aggregate g.fun CountAll g.arg None (sym node ∙ ap (λ y. y.node) c.is.1) in
        record {
          over_kind = over-kind g.fun s.stream over kinds (λ m. subst IsOverTable (sym same.0) tt);
          argument = subst (IsArgument over (map typed_column s.columns)) (sym same.1) tt;
        }
    at (inr (inr (inl c))) =
        let same = same-aggregate g.fun c.found g.arg (Some c.tree) (sym node ∙ ap (λ y. y.node) c.is.1) in
        record {
          over_kind = over-kind g.fun s.stream over kinds (λ m. subst IsOverTable (sym same.0) (fit c.found c.named m));
          argument = subst (IsArgument over (map typed_column s.columns)) (sym same.1)
              (argument-sound over s (scope-over s over kinds) c.arg c.tree (arguments-plain alone.args alone.flat c.arg c.alone, small-argument c.arg c.alone) (c.stands, known-argument c.arg c.alone));
        }
    at (inr (inr (inr u))) = absurd (false≢true (sym (ap is_some (unknown-none alone.name u).1) ∙ alone.aggregate))
