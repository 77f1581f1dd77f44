-- What a grouped query makes is sound.
use Rattle.std.proofs.Common.{◌≡◌, ℕ, suc, ◌*◌, ◌^◌, ◌≤◌, ◌<◌, arith, Bool, true, false, ◌&&◌, ◌||◌, if◌then◌else◌, nat_lt, List, [], ◌∷◌, ◌++◌, length, map, Option, Some, None, is_some, refl, ap, ap₂, sym, ◌∙◌, subst}
use Rattle.std.specs.Prelude.{option_map}
use Rattle.std.specs.List.{list_any, list_all, flat_map, AllByRecursion as Each}
use Rattle.std.proofs.lemmas.Bool.{false≢true}
use Rattle.ksql_types.specs.declared.relation.Kind.{Kind}
use Rattle.ksql_types.specs.declared.relation.Kind.TheVariants as kind
use Rattle.ksql_types.specs.declared.value.SqlType.{SqlType}
use Rattle.expression_trees.specs.declared.tree.Expr.{Expr}
use Rattle.expression_trees.specs.declared.tree.Expr.TheVariants as e
use Rattle.statement_trees.specs.declared.tree.Select.{Select}
use Rattle.statement_trees.specs.declared.tree.SelectItem.{SelectItem}
use Rattle.statement_trees.specs.declared.tree.SelectItem.TheVariants.{Star, StarOf, One}
use Rattle.statement_trees.specs.declared.tree.SpanText.{SpanText}
use Rattle.statement_trees.specs.declared.tree.WindowText.{WindowText}
use Rattle.statement_trees.specs.declared.tree.WindowText.TheVariants.{Tumbling, Hopping}
use Rattle.ksql_expr.specs.declared.typed.Typed.{Typed}
use Rattle.ksql_expr.specs.declared.typed.TypedNode.{TypedNode}
use Rattle.ksql_expr.specs.declared.typed.TypedNode.TheOpen.{TypedNode-F}
use Rattle.ksql_expr.specs.Aggregates.{holds, holds_aggregate, holds_long_text, holds_row_time, is_long_text, is_row_time}
use Rattle.ksql_expr.specs.Aggregates.{is_aggregate as is_aggregate_node}
use Rattle.ksql_expr.specs.Typing as w
use Rattle.ksql_expr.specs.Typing.{HasTypes}
use Rattle.ksql_types.specs.declared.relation.Column.{Column}
use Rattle.ksql_program.specs.declared.query.Agg.{Agg}
use Rattle.ksql_types.specs.Names.{is_among}
use Rattle.ksql_program.specs.Sound as sound
use Rattle.ksql_program.specs.Sound.{IsSoundWindow, IsSoundOver, AreColumns, Aggregates}
use Rattle.ksql_scopes.specs.declared.scope.Scope.{Scope}
use Rattle.ksql_scopes.specs.Functions.{is_aggregate}
use Rattle.ksql_scopes.specs.Uses.{IsSmall}
use Rattle.ksql_typing.specs.Standing.{IsTypedTree}
use Rattle.ksql_typing.proofs.OneTyping.{checked}
use Rattle.aggregate_rules.specs.Grouping.{has_aggregate, has_bare_column, aggregates_of, ordered_aggregates, place_among}
use Rattle.aggregate_rules.proofs.Calls as called
use Rattle.ksql_clauses.specs.declared.items.Named.{Named}
use Rattle.ksql_clauses.specs.declared.sources.Known.{Known}
use Rattle.ksql_clauses.specs.Items.{result_columns, named_from, all_stars, stars_of, plain_name, numbered_name, named}
use Rattle.ksql_scopes.specs.Resolved.{resolved}
use Rattle.ksql_clauses.specs.Sources.{item_scope, late_exprs, item_exprs, there}
use Rattle.ksql_clauses.specs.Windows.{window_of, is_bad, is_too_large, millis, grace_millis, has_long, has_many}
use Rattle.ksql_clauses.proofs.Naming as naming
use Rattle.ksql_rules.specs.Breaks.{shown_exprs}
use Rattle.grouped_expressions.specs.Grouped.{after}
use Rattle.ksql_analyse.specs.Judgement.{AreTypedTrees, agg_form, aggregate_exprs}
use Rattle.ksql_analyse.proofs.forms.AggregatesIn.{aggregates-inherit, aggregates-seen, Kept}
use Rattle.ksql_analyse.proofs.forms.Bearing.{some, some-append, short-digits, text-small, pattern-short}
use Rattle.ksql_analyse.proofs.lists.EqualLists.{heads, tails}
use Rattle.ksql_analyse.proofs.forms.Handing.{IsFlat, CallsNone, flat-inherits, small-inherits, calls-inherit, nested-Name, nested-resolved}
use Rattle.ksql_analyse.proofs.forms.Once.{IsAmong, once-has, once-each, once-some, each-flat-of, place-found}
use Rattle.ksql_analyse.proofs.forms.ReadyForms as forms
use Rattle.ksql_analyse.proofs.forms.Resolution.{calls-resolved, small-resolved}
use Rattle.ksql_analyse.proofs.sound.SoundAggregates.{IsAlone, aggregate-alone, agg-sound, agg-typed}
use Rattle.ksql_analyse.proofs.sound.SoundPlain.{exprs-hold, plain-name}
use Rattle.ksql_analyse.proofs.sound.SoundTrees.{each-front, each-behind}
use Rattle.ksql_analyse.proofs.forms.TreesAfter.{IsGrouping, IsClear, fit}
use Rattle.ksql_analyse.proofs.sound.SoundPlain.{typed_column}
use Rattle.ksql_analyse.proofs.lists.Distinct.{or-false}
use Rattle.ksql_analyse.proofs.sound.SoundColumns.{each-append, each-map, each-of-map, each-weaker}

-- ---- windows

grace-waits : (grace : Option SpanText) → has_long grace ≡ false → grace_millis grace ≤ 2 ^ 53
grace-waits None h = omega arith
grace-waits (Some s) h = grind arith

few-windows : (size advance : SpanText) → 0 < millis advance → has_many size advance ≡ false → millis size ≤ 64 * millis advance
few-windows size advance moves few = grind arith

pub window-sound : (w : WindowText) → is_bad w ≡ false → is_too_large w ≡ false → IsSoundWindow (window_of w)
window-sound (Tumbling size retention grace) bad large = grind (arith, grace-waits)
window-sound (Hopping size advance retention grace) bad large =
    let moves : 0 < millis advance = grind arith in
    grind (arith, grace-waits, few-windows)

-- ---- what holds of the columns of a result holds of the items

each-move : {A : Type 0} (P : A → Type 0) (xs ys : List A) → xs ≡ ys → Each P xs → Each P ys
each-move P xs ys h = subst (Each P) h

module _ (P : Expr → Type 0) (s : Scope) (ks : List Known) where
  abbrev Behind : List SelectItem → Type 0
  Behind items = (number : ℕ) → Each (λ c. P c.expr) (named_from s ks number items) → Each (λ a. P (resolved s a)) (flat_map item_exprs items)

  pub items-back : (items : List SelectItem) → Behind items
  items-back [] number h = tt
  items-back (Star ∷ items) number h =
      items-back items number
      (each-behind (λ c. P c.expr) (all_stars ks) (named_from s ks number items)
      (each-move (λ c. P c.expr) (named_from s ks number (Star ∷ items)) (all_stars ks ++ named_from s ks number items) (naming.from-Star s ks number items) h))
  items-back (StarOf alias ∷ items) number h =
      items-back items number
      (each-behind (λ c. P c.expr) (stars_of alias ks) (named_from s ks number items)
      (each-move (λ c. P c.expr) (named_from s ks number (StarOf alias ∷ items)) (stars_of alias ks ++ named_from s ks number items)
      (naming.from-StarOf s ks number alias items) h))
  items-back (One a (Some alias) ∷ items) number h =
      let k = each-move (λ c. P c.expr) (named_from s ks number (One a (Some alias) ∷ items)) (record { name = alias; expr = resolved s a } ∷ named_from s ks number items)
      (naming.from-alias s ks number a alias items) h in
      (k.0, items-back items number k.1)
  items-back (One a None ∷ items) number h = at (plain_name ks a) refl (items-back items)
    where
      at : (o : Option (List ℕ)) → plain_name ks a ≡ o → Behind items → Each (λ a. P (resolved s a)) (flat_map item_exprs (One a None ∷ items))
      at (Some name) g rest =
          let k = each-move (λ c. P c.expr) (named_from s ks number (One a None ∷ items)) (record { name = name; expr = resolved s a } ∷ named_from s ks number items)
          (naming.from-plain s ks number a name items g) h in
          (k.0, rest number k.1)
      at None g rest =
          let k = each-move (λ c. P c.expr) (named_from s ks number (One a None ∷ items)) (named (numbered_name number) (resolved s a) ∷ named_from s ks (suc number) items)
          (naming.from-numbered s ks number a items g) h in
          (k.0, rest (suc number) k.1)

-- ---- the expressions that are shown

each-if : {A : Type 0} (C : Type 0) (P : A → Type 0) (xs : List A) → (C → Each P xs) → Each (λ x. C → P x) xs
each-if C P [] h = tt
each-if C P (x ∷ xs) h = (λ c. (h c).0, each-if C P xs (λ c. (h c).1))

each-of-all : {A : Type 0} (P : A → Type 0) (xs : List A) → ((x : A) → P x) → Each P xs
each-of-all P [] h = tt
each-of-all P (x ∷ xs) h = (h x, each-of-all P xs h)

some-flat : (f : Expr → List Expr) (es : List Expr) → some (flat_map f es) ≡ false → Each (λ a. some (f a) ≡ false) es
some-flat f [] h = tt
some-flat f (a ∷ es) h =
    let k = or-false (some (f a)) (some (flat_map f es)) (sym (some-append (f a) (flat_map f es)) ∙ h) in
    (k.0, some-flat f es k.1)

none-again : (p : Expr → Bool) (es : List Expr) → Each (λ a. p a ≡ false) es → list_any p es ≡ false
none-again p [] h = refl
none-again p (a ∷ es) h = ap₂ (λ x y. x || y) h.0 (none-again p es h.1)

-- an expression without nested aggregates, with short literals, and over a table without ordered aggregates
abbrev pub IsShown : Bool → Expr → Type 0
IsShown stream a = IsFlat a × IsSmall a × (stream ≡ false → CallsNone (is_among ordered_aggregates) a)

-- an aggregate of such
abbrev pub IsFit : Bool → Expr → Type 0
IsFit stream g = IsAlone g × IsSmall g × (stream ≡ false → CallsNone (is_among ordered_aggregates) g)

pub shown-name : (stream : Bool) (q : Option (List ℕ)) (name : List ℕ) → IsShown stream (e.Name q name)
shown-name stream q name = (nested-Name q name, (plain-name q name).1, λ m. called.calls-Name (is_among ordered_aggregates) (e.Name q name) q name refl)

pub shown-resolved : (stream : Bool) (s : Scope) (a : Expr) → IsShown stream a → IsShown stream (resolved s a)
shown-resolved stream s a h =
    (nested-resolved s a ∙ h.0, small-resolved s a ∙ h.1, λ m. ap (list_any (is_among ordered_aggregates)) (calls-resolved s a) ∙ h.2 m)

fit-aggregates : (stream : Bool) (a : Expr) → IsShown stream a → Each (IsFit stream) (aggregates_of a)
fit-aggregates stream a h =
    zip (aggregates_of a) (aggregates-inherit IsFlat flat-inherits a h.0) (aggregates-inherit IsSmall small-inherits a h.1)
    (each-if (stream ≡ false) (Kept (CallsNone (is_among ordered_aggregates)) (calls-inherit (is_among ordered_aggregates))) (aggregates_of a)
    (λ m. aggregates-inherit (CallsNone (is_among ordered_aggregates)) (calls-inherit (is_among ordered_aggregates)) a (h.2 m)))
  where
    zip : (gs : List Expr) → Each (Kept IsFlat flat-inherits) gs → Each (Kept IsSmall small-inherits) gs
        → Each (λ g. stream ≡ false → Kept (CallsNone (is_among ordered_aggregates)) (calls-inherit (is_among ordered_aggregates)) g) gs → Each (IsFit stream) gs
    zip [] k l m = tt
    zip (g ∷ gs) k l m = ((aggregate-alone g k.0.1 k.0.0, l.0.0, λ z. (m.0 z).0), zip gs k.1 l.1 m.1)

module _ (q : Select) (ks : List Known) (few : nat_lt 64 (length (result_columns q ks)) ≡ false) where
  abbrev s : Scope
  s = item_scope q ks

  -- of the columns and of HAVING
  pub shown-hold : (P : Expr → Type 0) → ((alias name : List ℕ) → P (e.Name (Some alias) name)) → ((a : Expr) → P a → P (resolved s a)) → Each P (late_exprs q)
      → Each P (shown_exprs q ks)
  shown-hold P named kept h =
      each-append P (map (λ c. c.expr) (result_columns q ks)) (there (option_map (resolved s) q.having))
      (each-map P (λ (c : Named). c.expr) (result_columns q ks) (exprs-hold P q ks named kept few (each-front P (flat_map item_exprs q.items) (there q.having) h)))
      (of-having q.having (each-behind P (flat_map item_exprs q.items) (there q.having) h))
    where
      of-having : (o : Option Expr) → Each P (there o) → Each P (there (option_map (resolved s) o))
      of-having None k = tt
      of-having (Some a) k = (kept a k.0, tt)

  -- and back to the items and HAVING
  late-back : (P : Expr → Type 0) → Each P (shown_exprs q ks) → Each (λ a. P (resolved s a)) (late_exprs q)
  late-back P h =
      each-append (λ a. P (resolved s a)) (flat_map item_exprs q.items) (there q.having)
      (items-back P s ks q.items 0 (each-of-map P (λ (c : Named). c.expr) (result_columns q ks)
      (each-front P (map (λ (c : Named). c.expr) (result_columns q ks)) (there (option_map (resolved s) q.having)) h)))
      (of-having q.having (each-behind P (map (λ (c : Named). c.expr) (result_columns q ks)) (there (option_map (resolved s) q.having)) h))
    where
      of-having : (o : Option Expr) → Each P (there (option_map (resolved s) o)) → Each (λ a. P (resolved s a)) (there o)
      of-having None k = tt
      of-having (Some a) k = (k.0, tt)

  -- there is an aggregate where one is called
  pub some-aggregates : list_any has_aggregate (late_exprs q) ≡ true → some (aggregate_exprs q ks) ≡ true
  some-aggregates h = once-some (flat_map aggregates_of (shown_exprs q ks)) (at (some (flat_map aggregates_of (shown_exprs q ks))) refl)
    where
      at : (b : Bool) → some (flat_map aggregates_of (shown_exprs q ks)) ≡ b → some (flat_map aggregates_of (shown_exprs q ks)) ≡ true
      at true k = k
      at false k =
          let none = late-back (λ a. some (aggregates_of a) ≡ false) (some-flat aggregates_of (shown_exprs q ks) k) in
          let free = each-weaker (λ a. some (aggregates_of (resolved s a)) ≡ false) (λ a. has_aggregate a ≡ false)
          (λ a m. sym (ap (list_any is_aggregate) (calls-resolved s a)) ∙ aggregates-seen (resolved s a) ∙ m) (late_exprs q) none in
          absurd (false≢true (sym (none-again has_aggregate (late_exprs q) free) ∙ h))

  -- each shown expression's aggregates are among those of the query
  pub shown-among : Each (λ a. Each (IsAmong (aggregate_exprs q ks)) (aggregates_of a)) (shown_exprs q ks)
  shown-among =
      each-flat-of (IsAmong (aggregate_exprs q ks)) aggregates_of (shown_exprs q ks) (once-has (flat_map aggregates_of (shown_exprs q ks)) [])

  pub aggregates-fit : (stream : Bool) → Each (IsShown stream) (shown_exprs q ks) → Each (IsFit stream) (aggregate_exprs q ks)
  aggregates-fit stream h = once-each (IsFit stream) (flat_map aggregates_of (shown_exprs q ks)) [] tt (flat (shown_exprs q ks) h)
    where
      flat : (es : List Expr) → Each (IsShown stream) es → Each (IsFit stream) (flat_map aggregates_of es)
      flat [] k = tt
      flat (a ∷ es) k = each-append (IsFit stream) (aggregates_of a) (flat_map aggregates_of es) (fit-aggregates stream a k.0) (flat es k.1)

-- ---- aggregates

-- a program has as many aggregates as its query
pub aggs-length : (xs : List Typed) (gs : List Agg) (s : Scope) (es : List Expr) → AreTypedTrees s es xs → map (λ x. x.node) xs ≡ map agg_form gs → some es ≡ true → 1 ≤ length gs
aggs-length [] gs s [] t h k = absurd (cc (k))
aggs-length (x ∷ xs) gs s [] t h k = absurd t
aggs-length [] gs s (a ∷ es) t h k = absurd t
aggs-length (x ∷ xs) [] s (a ∷ es) t h k = absurd (cc (h))
aggs-length (x ∷ xs) (g ∷ gs) s (a ∷ es) t h k = omega arith

-- aggregates with their types
pub aggs-sound : (over : Kind) (s : Scope) (types : List (Option SqlType)) → map typed_column s.columns ≡ types → (if s.stream then kind.Stream else kind.Table) ≡ over
    → (es : List Expr) (xs : List Typed) (gs : List Agg) → AreTypedTrees s es xs → map (λ x. x.node) xs ≡ map agg_form gs → Each (IsFit s.stream) es
    → Aggregates over types gs (map (λ x. x.ty) xs)
aggs-sound over s types same kinds [] [] [] t h f = sound.none
aggs-sound over s types same kinds [] [] (g ∷ gs) t h f = absurd (cc (h))
aggs-sound over s types same kinds [] (x ∷ xs) gs t h f = absurd t
aggs-sound over s types same kinds (a ∷ es) [] gs t h f = absurd t
aggs-sound over s types same kinds (a ∷ es) (x ∷ xs) [] t h f = absurd (cc (h))
aggs-sound over s types same kinds (a ∷ es) (x ∷ xs) (g ∷ gs) t h f =
    let node = heads h in
    let k = agg-sound over s a g kinds f.0.0 f.0.1 f.0.2 x t.0 node in
    sound.more k.over_kind (subst (λ ts. sound.IsArgument over ts g.arg) same k.argument) (agg-typed s g x (checked s a x t.0) node)
    (aggs-sound over s types same kinds es xs gs t.1 (tails h) f.1)

-- ---- expressions over the rows after a grouping

found-all : (aggs bs : List Expr) → Each (IsAmong aggs) bs → list_all (λ b. is_some (place_among aggs b)) bs ≡ true
found-all aggs [] h = refl
found-all aggs (b ∷ bs) h = ap₂ (λ x y. x && y) (ap is_some (place-found aggs b 0 h.0).1) (found-all aggs bs h.1)

-- without bare columns, and with aggregates that are all the query's
pub all-ready : (groups aggs es : List Expr) → Each (λ a. has_bare_column groups a ≡ false) es → Each (λ a. Each (IsAmong aggs) (aggregates_of a)) es
    → Each (forms.IsReady groups aggs) es
all-ready groups aggs [] h k = tt
all-ready groups aggs (a ∷ es) h k = ((h.0, found-all aggs (aggregates_of a) k.0), all-ready groups aggs es h.1 k.1)

-- over the rows after a grouping a tree is sound whatever their kind
pub after-sound : (over : Kind) (s : Scope) (groups aggs : List Expr) (columns : List TypedNode) (types : List (Option SqlType)) → IsGrouping s groups aggs columns types
    → (a : Expr) (x : Typed) → forms.IsReady groups aggs a → IsSmall a → IsTypedTree s a x → IsSoundOver over types (after columns x)
unfolding holds_aggregate holds_long_text holds_row_time
after-sound over s groups aggs columns types g a x ready short h =
    let fits : (leaf : TypedNode-F Bool Bool Bool → Bool) → IsClear leaf → HasTypes types (w.one (after columns x)) × (holds leaf (after columns x) ≡ false) =
    λ leaf clear. fit s groups aggs columns types leaf g clear h.0 h.1 ready short in
    let plain = fits is_aggregate_node (record { column = λ i. refl; digits = λ i. refl; text = λ t k. refl; truth = λ b. refl; null = refl; like = λ m b c t k. refl }) in
    record {
      typed = plain.0;
      plain = plain.1;
      short = (fits is_long_text (record { column = λ i. refl; digits = short-digits; text = text-small; truth = λ b. refl; null = refl; like = λ m b c t k. pattern-short m c t k })).1;
      timeless = λ k. (fits is_row_time (record { column = λ i. refl; digits = λ i. refl; text = λ t k. refl; truth = λ b. refl; null = refl; like = λ m b c t k. refl })).1;
    }

-- and the trees of columns
pub columns-after : (over : Kind) (s : Scope) (groups aggs : List Expr) (columns : List TypedNode) (types : List (Option SqlType)) → IsGrouping s groups aggs columns types
    → (es : List Expr) (xs : List Typed) (cs : List Column) → Each (λ a. forms.IsReady groups aggs a × IsSmall a) es → AreTypedTrees s es xs
    → map (λ c. Some c.ty) cs ≡ map (λ x. x.ty) (map (after columns) xs) → AreColumns over types (map (after columns) xs) cs
columns-after over s groups aggs columns types g [] [] [] k h e = tt
columns-after over s groups aggs columns types g [] [] (c ∷ cs) k h e = absurd (cc (e))
columns-after over s groups aggs columns types g [] (x ∷ xs) cs k h e = absurd h
columns-after over s groups aggs columns types g (a ∷ es) [] cs k h e = absurd h
columns-after over s groups aggs columns types g (a ∷ es) (x ∷ xs) [] k h e = absurd (cc (e))
columns-after over s groups aggs columns types g (a ∷ es) (x ∷ xs) (c ∷ cs) k h e =
    (after-sound over s groups aggs columns types g a x k.0.0 k.0.1 h.0, sym (heads e), columns-after over s groups aggs columns types g es xs cs k.1 h.1 (tails e))
