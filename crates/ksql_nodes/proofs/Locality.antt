-- What a node gives is fixed by the entries of the key that it needs, and where it has a stream time by those of its
-- lane.
use Rattle.std.proofs.Common.{◌≡◌, ◌∙◌, ap, ap₂, refl, sym, subst, ℕ, List, [], ◌∷◌, ◌++◌, map, Bool, true, false, cond, true≢false}
use Rattle.std.proofs.lemmas.List.{append-nil}
use Rattle.std.proofs.lemmas.List.Elements.{filter-append}
use Rattle.std.specs.Prelude.{◌==◌, ◌&&◌, filter, Some, None, if◌then◌else◌}
use Rattle.std.specs.List.{flat_map, enumerate_from}
use Rattle.std.specs.Cmp.{unsigned_Decides}
use Rattle.ksql_types.specs.Lane.{lane}
use Rattle.ksql_types.specs.declared.value.Value.{Value}
use Rattle.ksql_types.specs.declared.relation.Kind.{Kind}
use Rattle.ksql_types.specs.declared.relation.Span.{Span}
use Rattle.ksql_types.specs.declared.relation.Window.{Window}
use Rattle.ksql_place.specs.declared.change.Change.{Change}
use Rattle.ksql_program.specs.declared.query.Agg.{Agg}
use Rattle.ksql_program.specs.declared.query.JoinKind.{JoinKind}
use Rattle.ksql_nodes.specs.declared.node.Node.{Node}
use Rattle.ksql_nodes.specs.declared.node.Node.TheVariants.{Rekey, Table, JoinStreamTable, JoinTables, Filter, Group, Aggregate, Having, Select}
use Rattle.ksql_nodes.specs.declared.node.Side.{Side}
use Rattle.ksql_nodes.specs.Entries.{Entry, Step, results, is_same_key, of_key, latest_time}
use Rattle.ksql_nodes.specs.Rows.{at_path}
use Rattle.ksql_nodes.specs.Joins.{rekeyed, join_key, join_row}
use Rattle.ksql_nodes.specs.Aggregates.{group_change}
use Rattle.ksql_nodes.specs.Windows.{Timed, is_same_lane, timed, with_times, windows_of, is_added, added, window_change, windowed}
use Rattle.ksql_nodes.specs.Nodes.{gives}
use Rattle.ksql_nodes.specs.Steps.{is_of_key, Covers, only}
use Rattle.ksql_nodes.proofs.Keys.{key-decides}
use Rattle.ksql_nodes.proofs.Lists.{filter-within}

-- the entries of a key are those among the entries that cover them
of_key-within : (key : List Value) (p : Entry → Bool) → ((e : Entry) → is_same_key e.change.key key ≡ true → p e ≡ true) → (es : List Entry) → of_key key (filter p es) ≡ of_key key es
of_key-within key p within es = filter-within (λ e. is_same_key e.change.key key) p within es

join-within : (kind : JoinKind) (l r : Side) (p : Entry → Bool) (k : List Value) (c : Change) → ((b : Entry) → is_of_key k b ≡ true → p b ≡ true) → (before : List Entry) →
    flat_map (join_row kind l r (filter p before)) (rekeyed k c) ≡ flat_map (join_row kind l r before) (rekeyed k c)
join-within kind l r p [] c covers before = refl
join-within kind l r p (k ∷ ks) c covers before = rw (of_key-within (k ∷ ks) p covers before)

-- ---- windows

-- the entries of one key, with their own stream times, are those among the entries of their lane
abbrev with_time : ℕ → List Entry → Entry → List Timed
with_time n before e = timed n before e ∷ []

abbrev of_entry : (Entry → Bool) → Timed → Bool
of_entry s t = s t.entry

timed-within : (n : ℕ) (e : Entry) (p : Entry → Bool) → ((y : Entry) → is_same_lane n e y ≡ true → p y ≡ true) → (before : List Entry) → timed n (filter p before) e ≡ timed n before e
timed-within n e p within before = ap (λ es. record { entry = e; stream_time = latest_time (es ++ e ∷ []) }) (filter-within (is_same_lane n e) p within before)

times-within : (n : ℕ) (s p : Entry → Bool) → ((x : Entry) → s x ≡ true → p x ≡ true) → ((x y : Entry) → s x ≡ true → is_same_lane n x y ≡ true → p y ≡ true) →
    (before es : List Entry) →
    filter (of_entry s) (results (with_time n) (filter p before) (filter p es)) ≡ filter (of_entry s) (results (with_time n) before es)
times-within n s p own within before [] = refl
times-within n s p own within before (e ∷ es) = by (s e) (p e) refl refl (times-within n s p own within (before ++ e ∷ []) es)
  where
    more : filter p (before ++ e ∷ []) ≡ filter p before ++ cond (p e) (e ∷ []) []
    more = filter-append p before (e ∷ [])

    kept : (b : Bool) → s e ≡ b → filter (of_entry s) (timed n (filter p before) e ∷ results (with_time n) (filter p (before ++ e ∷ [])) (filter p es))
        ≡ filter (of_entry s) (timed n before e ∷ results (with_time n) (filter p (before ++ e ∷ [])) (filter p es))
    kept true is = ap (λ t. filter (of_entry s) (t ∷ results (with_time n) (filter p (before ++ e ∷ [])) (filter p es))) (timed-within n e p (λ y. within e y is) before)
    kept false is = ap (λ b. cond b (timed n (filter p before) e ∷ filter (of_entry s) (results (with_time n) (filter p (before ++ e ∷ [])) (filter p es))) (filter (of_entry s) (results (with_time n) (filter p (before ++ e ∷ [])) (filter p es)))) is
        ∙ sym (ap (λ b. cond b (timed n before e ∷ filter (of_entry s) (results (with_time n) (filter p (before ++ e ∷ [])) (filter p es))) (filter (of_entry s) (results (with_time n) (filter p (before ++ e ∷ [])) (filter p es)))) is)

    by : (b d : Bool) → s e ≡ b → p e ≡ d →
        filter (of_entry s) (results (with_time n) (filter p (before ++ e ∷ [])) (filter p es)) ≡ filter (of_entry s) (results (with_time n) (before ++ e ∷ []) es) →
        filter (of_entry s) (results (with_time n) (filter p before) (cond (p e) (e ∷ filter p es) (filter p es))) ≡ filter (of_entry s) (timed n before e ∷ results (with_time n) (before ++ e ∷ []) es)
    by b true is passes ih =
        ap (λ d. filter (of_entry s) (results (with_time n) (filter p before) (cond d (e ∷ filter p es) (filter p es)))) passes
        ∙ ap (λ seen. filter (of_entry s) (timed n (filter p before) e ∷ results (with_time n) seen (filter p es))) (sym (more ∙ ap (λ d. filter p before ++ cond d (e ∷ []) []) passes))
        ∙ kept b is
        ∙ ap (λ rest. cond (s e) (timed n before e ∷ rest) rest) ih
    by true false is passes ih = absurd (true≢false (sym (own e is) ∙ passes))
    by false false is passes ih =
        ap (λ d. filter (of_entry s) (results (with_time n) (filter p before) (cond d (e ∷ filter p es) (filter p es)))) passes
        ∙ ap (λ seen. filter (of_entry s) (results (with_time n) seen (filter p es))) (sym (more ∙ ap (λ d. filter p before ++ cond d (e ∷ []) []) passes ∙ append-nil (filter p before)))
        ∙ ih
        ∙ sym (ap (λ b. cond b (timed n before e ∷ filter (of_entry s) (results (with_time n) (before ++ e ∷ []) es)) (filter (of_entry s) (results (with_time n) (before ++ e ∷ []) es))) is)

and-first : (a b : Bool) → (a && b) ≡ true → a ≡ true
and-first true b h = refl
and-first false b h = h

each-same : {A B : Type 0} (f g : A → List B) → ((x : A) → f x ≡ g x) → (xs : List A) → flat_map f xs ≡ flat_map g xs
each-same f g same [] = refl
each-same f g same (x ∷ xs) = ap₂ (λ a b. a ++ b) (same x) (each-same f g same xs)

-- whether an entry has a key
abbrev has_key : List Value → Entry → Bool
has_key key e = is_same_key e.change.key key

added-fixed : (w : Window) (span : Span) (key : List Value) (ts us : List Timed) → filter (of_entry (has_key key)) ts ≡ filter (of_entry (has_key key)) us → added w span key ts ≡ added w span key us
added-fixed w span key ts us same =
    let mine : Timed → Bool = λ t. of_entry (has_key key) t && is_added w span t in
    let first : (t : Timed) → mine t ≡ true → of_entry (has_key key) t ≡ true = λ t. and-first (of_entry (has_key key) t) (is_added w span t) in
    ap (map (λ t. t.entry)) (sym (filter-within mine (of_entry (has_key key)) first ts) ∙ ap (filter mine) same ∙ filter-within mine (of_entry (has_key key)) first us)

-- a windowed aggregate is fixed by the entries of the key, each with its own stream time
windowed-fixed : (over : Kind) (aggs : List Agg) (w : Window) (t : Timed) (ts us : List Timed) →
    filter (of_entry (has_key t.entry.change.key)) ts ≡ filter (of_entry (has_key t.entry.change.key)) us → windowed over aggs w ts t ≡ windowed over aggs w us t
windowed-fixed over aggs w t ts us same = each-same (window_change over aggs w ts t) (window_change over aggs w us t) by (enumerate_from 0 (windows_of w t.entry.change.time))
  where
    by : (x : ℕ × Span) → window_change over aggs w ts t x ≡ window_change over aggs w us t x
    by (i, span) =
        ap (λ es. if is_added w span t then at_path (t.entry.change.place.path ++ i ∷ []) (group_change over aggs (Some span) es t.entry) ∷ [] else [])
        (added-fixed w span t.entry.change.key ts us same)

windowed-within : (n : ℕ) (over : Kind) (aggs : List Agg) (w : Window) (e : Entry) (p : Entry → Bool) → ((y : Entry) → is_same_lane n e y ≡ true → p y ≡ true) →
    (before : List Entry) → windowed over aggs w (with_times n (filter p before)) (timed n (filter p before) e) ≡ windowed over aggs w (with_times n before) (timed n before e)
windowed-within n over aggs w e p covers before =
    let key : (x : Entry) → has_key e.change.key x ≡ true → e.change.key ≡ x.change.key = λ x h. sym ((key-decides x.change.key e.change.key).0 h) in
    let own : (x : Entry) → has_key e.change.key x ≡ true → p x ≡ true =
    λ x h. covers x ((unsigned_Decides (lane e.change.key n 0) (lane x.change.key n 0)).1 (ap (λ k. lane k n 0) (key x h))) in
    let within : (x y : Entry) → has_key e.change.key x ≡ true → is_same_lane n x y ≡ true → p y ≡ true =
    λ x y h same. covers y (subst (λ k. (lane k n 0 == lane y.change.key n 0) ≡ true) (sym (key x h)) same) in
    ap (windowed over aggs w (with_times n (filter p before))) (timed-within n e p covers before)
    ∙ windowed-fixed over aggs w (timed n before e) (with_times n (filter p before)) (with_times n before) (times-within n (has_key e.change.key) p own within [] before)

pub gives-fixed : (n : ℕ) (node : Node) (e : Entry) (p : Entry → Bool) → Covers n node e p → (before : List Entry) → gives n node (filter p before) e ≡ gives n node before e
unfolding gives
gives-fixed n (Rekey key) e p covers before = refl
gives-fixed n (Table relation) e p covers before = rw (of_key-within e.change.key p covers before)
gives-fixed n (JoinStreamTable kind on l r) e p covers before =
    ap (λ cs. if e.side == 0 then cs else []) (join-within kind l r p (join_key on e.change) e.change covers before)
gives-fixed n (JoinTables kind l r) e p covers before = rw (of_key-within e.change.key p covers before)
gives-fixed n (Filter on) e p covers before = refl
gives-fixed n (Group keys) e p covers before = refl
gives-fixed n (Aggregate over aggs None) e p covers before = rw (of_key-within e.change.key p covers before)
gives-fixed n (Aggregate over aggs (Some w)) e p covers before = windowed-within n over aggs w e p covers before
gives-fixed n (Having on) e p covers before = refl
gives-fixed n (Select keys vs) e p covers before = refl

-- ---- the results on some entries

-- a step whose results for entries that pass depend only on those that pass
abbrev pub FixedBy : (Entry → Bool) → Step → Type 0
FixedBy p step = (e : Entry) → p e ≡ true → (before : List Entry) → step (filter p before) e ≡ step before e

-- the results on the entries that pass are what these entries cause among all
results-divided : (p : Entry → Bool) (step : Step) → FixedBy p step → (before es : List Entry) →
    results step (filter p before) (filter p es) ≡ results (only p step) before es
results-divided p step fixed before [] = refl
results-divided p step fixed before (e ∷ es) = by (p e) refl (results-divided p step fixed (before ++ e ∷ []) es)
  where
    more : filter p (before ++ e ∷ []) ≡ filter p before ++ cond (p e) (e ∷ []) []
    more = filter-append p before (e ∷ [])

    by : (b : Bool) → p e ≡ b → results step (filter p (before ++ e ∷ [])) (filter p es) ≡ results (only p step) (before ++ e ∷ []) es →
        results step (filter p before) (cond (p e) (e ∷ filter p es) (filter p es)) ≡ (if p e then step before e else []) ++ results (only p step) (before ++ e ∷ []) es
    by true is ih =
        ap (λ d. results step (filter p before) (cond d (e ∷ filter p es) (filter p es))) is
        ∙ ap₂ (λ now seen. now ++ results step seen (filter p es)) (fixed e is before) (sym (more ∙ ap (λ d. filter p before ++ cond d (e ∷ []) []) is))
        ∙ ap (λ rest. step before e ++ rest) ih
        ∙ sym (ap (λ d. (if d then step before e else []) ++ results (only p step) (before ++ e ∷ []) es) is)
    by false is ih =
        ap (λ d. results step (filter p before) (cond d (e ∷ filter p es) (filter p es))) is
        ∙ ap (λ seen. results step seen (filter p es)) (sym (more ∙ ap (λ d. filter p before ++ cond d (e ∷ []) []) is ∙ append-nil (filter p before)))
        ∙ ih
        ∙ sym (ap (λ d. (if d then step before e else []) ++ results (only p step) (before ++ e ∷ []) es) is)

pub gives-divided : (n : ℕ) (node : Node) (p : Entry → Bool) → ((e : Entry) → p e ≡ true → Covers n node e p) →
    (es : List Entry) → results (gives n node) [] (filter p es) ≡ results (only p (gives n node)) [] es
gives-divided n node p covers es =
    results-divided p (gives n node) (λ e is before. gives-fixed n node e p (covers e is) before) [] es
