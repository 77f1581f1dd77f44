-- What steps give rises where their entries do, whatever the nodes.
use Rattle.std.proofs.Common.{◌≡◌, ◌∙◌, ap, ap₂, refl, sym, subst, subst₂, ℕ, ◌+◌, List, [], ◌∷◌, ◌++◌, Bool, true, false, cond, inl, inr, arith, true≢false, ◌≤◌}
use Rattle.std.proofs.lemmas.List.{append-nil}
use Rattle.std.specs.Prelude.{◌==◌, max, flat_map, if◌then◌else◌, Option, Some, None}
use Rattle.std.specs.List.{AllByRecursion, enumerate_from}
use Rattle.ksql_types.specs.declared.value.Value.{Value}
use Rattle.ksql_types.specs.declared.relation.Kind.{Kind}
use Rattle.ksql_types.specs.declared.relation.Span.{Span}
use Rattle.ksql_types.specs.declared.relation.Window.{Window}
use Rattle.ksql_place.specs.Order.{stamp_cmp}
use Rattle.ksql_place.specs.declared.change.Body.{Body}
use Rattle.ksql_place.specs.declared.change.Body.TheVariants.{Said, Turned}
use Rattle.ksql_place.specs.declared.change.Change.{Change}
use Rattle.ksql_place.specs.declared.stamp.Place.{Place}
use Rattle.ksql_expr.specs.declared.typed.Typed.{Typed}
use Rattle.ksql_program.specs.declared.query.Agg.{Agg}
use Rattle.ksql_program.specs.declared.query.JoinKind.{JoinKind}
use Rattle.ksql_nodes.specs.declared.node.Node.{Node}
use Rattle.ksql_nodes.specs.declared.node.Node.TheVariants.{Rekey, Table, JoinStreamTable, JoinTables, Filter, Group, Aggregate, Having, Select}
use Rattle.ksql_nodes.specs.declared.node.Side.{Side}
use Rattle.ksql_nodes.specs.Aggregates.{group_change}
use Rattle.ksql_nodes.specs.Entries.{Entry, Step, from_side, is_same_key, of_key, of_side, results, through, time_after}
use Rattle.ksql_nodes.specs.Groups.{Member, grouped, in_group, moved}
use Rattle.ksql_nodes.specs.Joins.{join_key, join_row, other_side, rekeyed, side_step}
use Rattle.ksql_nodes.specs.Nodes.{gives}
use Rattle.ksql_nodes.specs.Rows.{at_path, selected_key, with_body}
use Rattle.ksql_nodes.specs.TableAggregates.{aggregate_of_table, held_change}
use Rattle.ksql_nodes.specs.Windows.{Timed, added, is_added, timed, window_change, windowed, windows_of, with_times}
use Rattle.ksql_nodes.proofs.Lists.{All-append}
use Rattle.meaning_laws.proofs.Lists.{All-map, All-weaker, Pairwise, Pairwise-map, Pairwise-weaker}
use Rattle.meaning_laws.proofs.Forks.{Forks, IsBefore, Rise, forks-after, forks-more}

-- a place causes a change: the change has its stamp, and a path that extends its path
abbrev pub SpringsFrom : Place → Change → Type 0
SpringsFrom p c = (c.place.stamp ≡ p.stamp) × ((more : List ℕ) × (c.place.path ≡ p.path ++ more))

springs-before : (a b : Place) (c d : Change) → SpringsFrom a c → SpringsFrom b d → IsBefore a b → IsBefore c.place d.place
springs-before a b c d (s, (us, p)) (t, (vs, q)) (inl h) = inl (ap₂ stamp_cmp s t ∙ h)
springs-before a b c d (s, (us, p)) (t, (vs, q)) (inr (same, h)) =
    inr (s ∙ same ∙ sym t, subst₂ Forks (sym p) (sym q) (forks-more a.path b.path us vs h))

-- entries whose results are caused at places that rise, if they give any
abbrev pub RiseAt : (Entry → Place) → (Entry → Bool) → List Entry → Type 0
RiseAt at t es = Pairwise (λ e f. t e ≡ true → t f ≡ true → IsBefore (at e) (at f)) es

-- a step whose results spring from a place of their entry and rise, and which gives nothing for an entry that doesn't
-- trigger it
pub record IsRising (at : Entry → Place) (t : Entry → Bool) (step : Step) : Type 0 where
  pub springs : (before : List Entry) (e : Entry) → AllByRecursion (SpringsFrom (at e)) (step before e)
  pub rises : (before : List Entry) (e : Entry) → Rise (step before e)
  pub silent : (before : List Entry) (e : Entry) → t e ≡ false → step before e ≡ []

rise-append : (xs ys : List Change) → Rise xs → Rise ys → AllByRecursion (λ c. AllByRecursion (λ d. IsBefore c.place d.place) ys) xs → Rise (xs ++ ys)
rise-append [] ys hx hy cross = hy
rise-append (x ∷ xs) ys hx hy cross = (All-append (λ d. IsBefore x.place d.place) xs ys hx.0 cross.0, rise-append xs ys hx.1 hy cross.1)

-- a change caused at a place comes before what later entries give
results-later : (at : Entry → Place) (t : Entry → Bool) (step : Step) → IsRising at t step → (p : Place) (c : Change) → SpringsFrom p c → (before es : List Entry) →
    AllByRecursion (λ f. t f ≡ true → IsBefore p (at f)) es → AllByRecursion (λ d. IsBefore c.place d.place) (results step before es)
results-later at t step rising p c springs before [] later = tt
results-later at t step rising p c springs before (f ∷ fs) later =
    All-append (λ d. IsBefore c.place d.place) (step before f) (results step (before ++ f ∷ []) fs) (by (t f) refl) (results-later at t step rising p c springs (before ++ f ∷ []) fs later.1)
  where
    by : (b : Bool) → t f ≡ b → AllByRecursion (λ d. IsBefore c.place d.place) (step before f)
    by true is = All-weaker (SpringsFrom (at f)) (λ d. IsBefore c.place d.place) (λ d s. springs-before p (at f) c d springs s (later.0 is)) (step before f) (rising.springs before f)
    by false is = subst (AllByRecursion (λ d. IsBefore c.place d.place)) (sym (rising.silent before f is)) tt

-- places rise
pub results-rise : (at : Entry → Place) (t : Entry → Bool) (step : Step) → IsRising at t step → (before es : List Entry) → RiseAt at t es → Rise (results step before es)
results-rise at t step rising before [] rise = tt
results-rise at t step rising before (e ∷ es) rise =
    rise-append (step before e) (results step (before ++ e ∷ []) es) (rising.rises before e) (results-rise at t step rising (before ++ e ∷ []) es rise.1) (by (t e) refl)
  where
    by : (b : Bool) → t e ≡ b → AllByRecursion (λ c. AllByRecursion (λ d. IsBefore c.place d.place) (results step (before ++ e ∷ []) es)) (step before e)
    by true is =
        All-weaker (SpringsFrom (at e)) (λ c. AllByRecursion (λ d. IsBefore c.place d.place) (results step (before ++ e ∷ []) es))
        (λ c s. results-later at t step rising (at e) c s (before ++ e ∷ []) es (All-weaker (λ f. t e ≡ true → t f ≡ true → IsBefore (at e) (at f)) (λ f. t f ≡ true → IsBefore (at e) (at f)) (λ f h. h is) es rise.0))
        (step before e) (rising.springs before e)
    by false is = subst (AllByRecursion (λ c. AllByRecursion (λ d. IsBefore c.place d.place) (results step (before ++ e ∷ []) es))) (sym (rising.silent before e is)) tt

-- ---- the nodes

abbrev pub base : Node → Entry → Place
base (JoinTables kind l r) e = record { stamp = e.change.place.stamp; path = side_step e.side l r ∷ e.change.place.path }
base node e = e.change.place

abbrev pub triggers : Node → Entry → Bool
triggers (JoinStreamTable kind on l r) e = e.side == 0
triggers node e = true

-- changes that spring from a place and rise
abbrev IsOne : Place → List Change → Type 0
IsOne p cs = AllByRecursion (SpringsFrom p) cs × Rise cs

same-place : (p : Place) → (p.stamp ≡ p.stamp) × ((more : List ℕ) × (p.path ≡ p.path ++ more))
same-place p = (refl, ([], sym (append-nil p.path)))

body-one : (c : Change) (b : Option Body) → IsOne c.place (with_body c b)
body-one c None = (tt, tt)
body-one c (Some b) = ((same-place c.place, tt), (tt, tt))

rekeyed-one : (k : List Value) (c : Change) → IsOne c.place (rekeyed k c)
rekeyed-one [] c = (tt, tt)
rekeyed-one (k ∷ ks) c = ((same-place c.place, tt), (tt, tt))

join-one : (kind : JoinKind) (l r : Side) (before : List Entry) (k : List Value) (c : Change) → IsOne c.place (flat_map (join_row kind l r before) (rekeyed k c))
join-one kind l r before [] c = (tt, tt)
join-one kind l r before (k ∷ ks) c = subst (IsOne c.place) (sym (append-nil (join_row kind l r before (record c { key = k ∷ ks })))) (body-one (record c { key = k ∷ ks }) _)

if-one : (p : Place) (b : Bool) (cs : List Change) → IsOne p cs → IsOne p (if b then cs else [])
if-one p true cs h = h
if-one p false cs h = (tt, tt)

moved-one : (c : Change) (old new : Option Member) → IsOne c.place (moved c old new)
moved-one c None None = (tt, tt)
moved-one c (Some l) None = (((refl, (0 ∷ [], refl)), tt), (tt, tt))
moved-one c None (Some r) = (((refl, (0 ∷ [], refl)), tt), (tt, tt))
moved-one c (Some l) (Some r) =
    elim (is_same_key l.group r.group) as (λ b. IsOne c.place (cond b (in_group r.group 0 c (Turned (Some l.row) (Some r.row)) ∷ [])
    (in_group l.group 0 c (Turned (Some l.row) None) ∷ in_group r.group 1 c (Turned None (Some r.row)) ∷ []))) [
      | true ↦ (((refl, (0 ∷ [], refl)), tt), (tt, tt))
      | false ↦ (
        ((refl, (0 ∷ [], refl)), ((refl, (1 ∷ [], refl)), tt)),
        ((inr (refl, forks-after c.place.path (0 ∷ []) (1 ∷ []) (inl (omega arith))), tt), (tt, tt)),
      )
    ]

grouped-one : (keys : List Typed) (c : Change) → IsOne c.place (grouped keys c)
grouped-one keys c = by_body c.body
  where
    by_body : (b : Body) → IsOne c.place (grouped keys (record c { body = b }))
    by_body (Said row) = rekeyed-one _ (record c { body = Said row })
    by_body (Turned old new) = moved-one (record c { body = Turned old new }) _ _

-- windows by their index
windows-one : (over : Kind) (aggs : List Agg) (w : Window) (before : List Timed) (t : Timed) (i : ℕ) (spans : List Span) →
    AllByRecursion (λ d. (d.place.stamp ≡ t.entry.change.place.stamp) × ((j : ℕ) × (i ≤ j) × (d.place.path ≡ t.entry.change.place.path ++ j ∷ [])))
    (flat_map (window_change over aggs w before t) (enumerate_from i spans))
    × Rise (flat_map (window_change over aggs w before t) (enumerate_from i spans))
windows-one over aggs w before t i [] = (tt, tt)
windows-one over aggs w before t i (s ∷ ss) = by (is_added w s t) (windows-one over aggs w before t (i + 1) ss)
  where
    P : ℕ → Change → Type 0
    P k d = (d.place.stamp ≡ t.entry.change.place.stamp) × ((j : ℕ) × (k ≤ j) × (d.place.path ≡ t.entry.change.place.path ++ j ∷ []))

    rest : List Change
    rest = flat_map (window_change over aggs w before t) (enumerate_from (i + 1) ss)

    weaker : (d : Change) → P (i + 1) d → P i d
    weaker d (s, (j, h, e)) = (s, (j, omega arith, e))

    by : (b : Bool) → AllByRecursion (P (i + 1)) rest × Rise rest →
        AllByRecursion (P i) ((if b then at_path (t.entry.change.place.path ++ i ∷ []) (group_change over aggs (Some s) (added w s t.entry.change.key before) t.entry) ∷ [] else []) ++ rest)
        × Rise ((if b then at_path (t.entry.change.place.path ++ i ∷ []) (group_change over aggs (Some s) (added w s t.entry.change.key before) t.entry) ∷ [] else []) ++ rest)
    by true h = (((refl, (i, omega arith, refl)), All-weaker (P (i + 1)) (P i) weaker rest h.0), (All-weaker (P (i + 1)) _ first rest h.0, h.1))
      where
        first : (d : Change) → P (i + 1) d → IsBefore (at_path (t.entry.change.place.path ++ i ∷ []) (group_change over aggs (Some s) (added w s t.entry.change.key before) t.entry)).place d.place
        first d (st, (j, k, e)) = inr (sym st, subst (Forks (t.entry.change.place.path ++ i ∷ [])) (sym e) (forks-after t.entry.change.place.path (i ∷ []) (j ∷ []) (inl (omega arith))))
    by false h = (All-weaker (P (i + 1)) (P i) weaker rest h.0, h.1)

windowed-one : (over : Kind) (aggs : List Agg) (w : Window) (before : List Timed) (t : Timed) → IsOne t.entry.change.place (windowed over aggs w before t)
windowed-one over aggs w before t =
    let h = windows-one over aggs w before t 0 (windows_of w t.entry.change.time) in (
      All-weaker (λ (d : Change). (d.place.stamp ≡ t.entry.change.place.stamp) × ((j : ℕ) × (0 ≤ j) × (d.place.path ≡ t.entry.change.place.path ++ j ∷ []))) (SpringsFrom t.entry.change.place)
          (λ d (s, (j, k, e)). (s, (j ∷ [], e))) (windowed over aggs w before t) h.0,
      h.1,
    )

gives-one : (n : ℕ) (node : Node) (before : List Entry) (e : Entry) → IsOne (base node e) (gives n node before e)
unfolding gives
gives-one n (Rekey key) before e = rekeyed-one _ e.change
gives-one n (Table relation) before e = body-one e.change _
gives-one n (JoinStreamTable kind on l r) before e = if-one e.change.place (e.side == 0) _ (join-one kind l r before (join_key on e.change) e.change)
gives-one n (JoinTables kind l r) before e =
    body-one (record (at_path (side_step e.side l r ∷ e.change.place.path) e.change) { time = max e.change.time (time_after (of_side (other_side e.side) (of_key e.change.key before))) }) _
gives-one n (Filter on) before e = body-one e.change _
gives-one n (Group keys) before e = grouped-one keys e.change
gives-one n (Aggregate over aggs None) before e = ((same-place e.change.place, tt), (tt, tt))
gives-one n (Aggregate over aggs (Some w)) before e = windowed-one over aggs w (with_times n before) (timed n before e)
gives-one n (Having on) before e = body-one e.change _
gives-one n (Select keys vs) before e = body-one (record e.change { key = selected_key keys e.change }) _

gives-silent : (n : ℕ) (node : Node) (before : List Entry) (e : Entry) → triggers node e ≡ false → gives n node before e ≡ []
unfolding gives
gives-silent n (JoinStreamTable kind on l r) before e is = ap (λ b. if b then flat_map (join_row kind l r before) (rekeyed (join_key on e.change) e.change) else []) is
gives-silent n _ before e is = absurd (true≢false is)

pub gives-rising : (n : ℕ) (node : Node) → IsRising (base node) (triggers node) (gives n node)
gives-rising n node = record {
  springs = λ before e. (gives-one n node before e).0;
  rises = λ before e. (gives-one n node before e).1;
  silent = gives-silent n node;
}

-- ---- steps in a row

-- a step with one input, whose entries have their own places
abbrev pub IsPlain : Step → Type 0
IsPlain step = IsRising (λ e. e.change.place) (λ e. true) step

pub aggregate-rising : (keys : List Typed) (aggs : List Agg) → IsPlain (aggregate_of_table keys aggs)
aggregate-rising keys aggs = record {
  springs = λ before e. All-map (SpringsFrom e.change.place) (held_change keys aggs before e) (grouped keys e.change) (grouped-one keys e.change).0;
  rises = λ before e. Pairwise-map (λ c d. IsBefore c.place d.place) (held_change keys aggs before e) (grouped keys e.change) (grouped-one keys e.change).1;
  silent = λ before e is. absurd (true≢false is);
}

-- changes that rise are entries that do
pub rise-next : (changes : List Change) → Rise changes → RiseAt (λ e. e.change.place) (λ e. true) (from_side 0 changes)
rise-next changes rise =
    Pairwise-map (λ e f. true ≡ true → true ≡ true → IsBefore e.change.place f.change.place) (λ c. record { side = 0; change = c }) changes
    (Pairwise-weaker (λ c d. IsBefore c.place d.place) (λ c d. true ≡ true → true ≡ true → IsBefore c.place d.place) (λ c d h _ _. h) changes rise)

pub through-rise : (steps : List Step) → AllByRecursion IsPlain steps → (es : List Entry) → RiseAt (λ e. e.change.place) (λ e. true) es → Rise (through steps es)
through-rise [] plain es rise =
    Pairwise-map (λ c d. IsBefore c.place d.place) (λ e. e.change) es
    (Pairwise-weaker (λ e f. true ≡ true → true ≡ true → IsBefore e.change.place f.change.place) (λ e f. IsBefore e.change.place f.change.place) (λ e f h. h refl refl) es rise)
through-rise (step ∷ steps) plain es rise =
    through-rise steps plain.1 (from_side 0 (results step [] es))
    (rise-next (results step [] es) (results-rise (λ e. e.change.place) (λ e. true) step plain.0 [] es rise))
