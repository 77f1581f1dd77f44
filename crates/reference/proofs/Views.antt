-- What a view of a table gives is what the definition looks back for.
use Rattle.std.proofs.Common.{◌≡◌, ◌∙◌, ap, ap₂, refl, sym, arith, ◌+◌, ◌<◌, ℕ, length, get_or, List, [], ◌∷◌, ◌++◌, Bool, true, false, cond, map, take}
use Rattle.std.specs.Prelude.{◌||◌, filter, not, unwrap_or, Option, Some, None, option_map, option_and_then}
use Rattle.std.specs.List.{list_any}
use Rattle.std.proofs.lemmas.List.{get_or-map, length-map, map-append, take-map}
use Rattle.ksql_types.specs.declared.value.Value.{Value}
use Rattle.ksql_place.specs.Said.{row_in, row_out}
use Rattle.ksql_place.specs.declared.change.Body.TheVariants.{Turned}
use Rattle.ksql_place.specs.declared.change.Change.{Change}
use Rattle.ksql_expr.specs.declared.typed.Typed.{Typed}
use Rattle.ksql_program.specs.declared.query.Agg.{Agg}
use Rattle.ksql_nodes.specs.Entries.{Row, Entry, is_same_key, latest_time}
use Rattle.ksql_nodes.specs.Groups.{Member, grouped, member}
use Rattle.ksql_nodes.specs.Aggregates.{unless_none}
use Rattle.ksql_nodes.specs.TableAggregates.{aggregate_of_table, standing, is_in, held_outcome, held_change, touching}
use Rattle.reference.specs.Steps.{entry_of}
use Rattle.reference.specs.declared.table_groups.EntryInGroups.{EntryInGroups}
use Rattle.reference.specs.Grouping.{InGroup, InGroups, View, view_held, view_worth, entries_of, group_of, in_groups, is_group, lent, view_of, view_change, view_outcome, standing_of, view_touching}

-- ---- lists

-- a filter of what a function gives
filter-map : {A B : Type 0} (f : A → B) (q : B → Bool) (xs : List A) → filter q (map f xs) ≡ map f (filter (λ x. q (f x)) xs)
filter-map f q [] = refl
filter-map f q (x ∷ xs) = by (q (f x)) (filter-map f q xs)
  where
    by : (b : Bool) → filter q (map f xs) ≡ map f (filter (λ x. q (f x)) xs) →
        cond b (f x ∷ filter q (map f xs)) (filter q (map f xs)) ≡ map f (cond b (x ∷ filter (λ x. q (f x)) xs) (filter (λ x. q (f x)) xs))
    by true ih = ap (λ rest. f x ∷ rest) ih
    by false ih = ih

-- a filter of what a function gives, taken back, is a filter
filter-back : {A B : Type 0} (f : A → B) (back : B → A) (p : A → Bool) (q : B → Bool) → ((x : A) → back (f x) ≡ x) → ((x : A) → q (f x) ≡ p x) →
    (xs : List A) → map back (filter q (map f xs)) ≡ filter p xs
filter-back f back p q is_back is_p [] = refl
filter-back f back p q is_back is_p (x ∷ xs) =
    ap (λ b. map back (cond b (f x ∷ filter q (map f xs)) (filter q (map f xs)))) (is_p x) ∙ by (p x) (filter-back f back p q is_back is_p xs)
  where
    by : (b : Bool) → map back (filter q (map f xs)) ≡ filter p xs →
        map back (cond b (f x ∷ filter q (map f xs)) (filter q (map f xs))) ≡ cond b (x ∷ filter p xs) (filter p xs)
    by true ih = ap₂ (λ a rest. a ∷ rest) (is_back x) ih
    by false ih = ih

map-same : {A B : Type 0} (f g : A → B) → ((x : A) → f x ≡ g x) → (xs : List A) → map f xs ≡ map g xs
map-same f g same [] = refl
map-same f g same (x ∷ xs) = ap₂ (λ a rest. a ∷ rest) (same x) (map-same f g same xs)

-- ---- the groups of rows

group-is : (group : List Value) (m : Option Member) → is_group group (option_map (λ m. m.group) m) ≡ unwrap_or (option_map (λ m. is_same_key m.group group) m) false
group-is group None = refl
group-is group (Some m) = refl

row-is_in : (keys : List Typed) (group : List Value) (time : ℕ) (row : Option Row) → is_group group (group_of keys time row) ≡ is_in keys group time row
row-is_in keys group time row = group-is group (option_and_then (member keys time) row)

touching-view : (keys : List Typed) (group : List Value) (es : List Entry) → view_touching group (map (in_groups keys) es) ≡ touching keys group es
touching-view keys group es =
    filter-back (in_groups keys) (λ g. g.entry) _ _ (λ e. refl)
    (λ e. ap₂ (λ a b. a || b) (row-is_in keys group e.change.time (row_out e.change.body)) (row-is_in keys group e.change.time (row_in e.change.body))) es

held-view : (keys : List Typed) (group : List Value) (es : List Entry) →
    view_held group (map (λ e. standing_of (in_groups keys e)) es) ≡ filter (λ e. is_in keys group e.change.time (row_in e.change.body)) es
held-view keys group es =
    filter-back (λ e. standing_of (in_groups keys e)) (λ g. g.entry) _ _ (λ e. refl) (λ e. row-is_in keys group e.change.time (row_in e.change.body)) es

-- ---- the changes of groups

outcome-view : (keys : List Typed) (aggs : List Agg) (group : List Value) (es : List Entry) → view_outcome aggs group (view_of keys es) ≡ held_outcome keys aggs group es
outcome-view keys aggs group es =
    ap₂ (λ (mine held : List Entry). unless_none mine (group ++ map (view_worth held) aggs)) (touching-view keys group es) (held-view keys group (standing es))

change-view : (keys : List Typed) (aggs : List Agg) (es : List Entry) (e : Entry) (c : Change) →
    view_change aggs (view_of keys es) (view_of keys (es ++ e ∷ [])) c ≡ held_change keys aggs es e c
change-view keys aggs es e c =
    let all : List Entry = es ++ e ∷ [] in
    ap (λ (mine : List Entry). record c { time = latest_time mine; span = None; body = Turned (view_outcome aggs c.key (view_of keys es)) (view_outcome aggs c.key (view_of keys all)) })
    (touching-view keys c.key all)
    ∙ ap₂ (λ (old new : Option Row). record c { time = latest_time (touching keys c.key all); span = None; body = Turned old new })
    (outcome-view keys aggs c.key es) (outcome-view keys aggs c.key all)

-- the changes of groups from the views before an entry and after it
changes-by-view : (keys : List Typed) (aggs : List Agg) (es : List Entry) (e : Entry) (cs : List Change) →
    map (view_change aggs (view_of keys es) (view_of keys (es ++ e ∷ []))) cs ≡ map (held_change keys aggs es e) cs
changes-by-view keys aggs es e cs = map-same _ _ (change-view keys aggs es e) cs

-- ---- the entries that stand

any-more : (test : Entry → Bool) (es : List Entry) (e : Entry) → list_any test (es ++ e ∷ []) ≡ (list_any test es || test e)
any-more test [] e = by (test e)
  where
    by : (b : Bool) → (b || false) ≡ b
    by true = refl
    by false = refl
any-more test (x ∷ xs) e = by (test x) (any-more test xs e)
  where
    by : (b : Bool) → list_any test (xs ++ e ∷ []) ≡ (list_any test xs || test e) → (b || list_any test (xs ++ e ∷ [])) ≡ ((b || list_any test xs) || test e)
    by true ih = refl
    by false ih = ih

abbrev pub other : List Value → Entry → Bool
other key e = not (is_same_key e.change.key key)

abbrev others : Entry → List Entry → List Entry
others e es = filter (other e.change.key) (standing es)

-- one entry more takes the place of the one of its key
standing-more : (es : List Entry) (e : Entry) → standing (es ++ e ∷ []) ≡ others e es ++ e ∷ []
standing-more [] e = refl
standing-more (x ∷ xs) e =
    ap₂ (λ b (rest : List Entry). cond b rest (x ∷ rest)) (any-more (λ later. is_same_key x.change.key later.change.key) xs e) (standing-more xs e)
    ∙ by (list_any (λ later. is_same_key x.change.key later.change.key) xs) (is_same_key x.change.key e.change.key) refl
  where
    by : (a b : Bool) → is_same_key x.change.key e.change.key ≡ b →
        cond (a || b) (others e xs ++ e ∷ []) (x ∷ others e xs ++ e ∷ []) ≡ filter (other e.change.key) (cond a (standing xs) (x ∷ standing xs)) ++ e ∷ []
    by true b is = refl
    by false b is = ends b ∙ sym (ap (λ d. cond (not d) (x ∷ others e xs) (others e xs) ++ e ∷ []) is)
      where
        ends : (b : Bool) → cond b (others e xs ++ e ∷ []) (x ∷ others e xs ++ e ∷ []) ≡ cond (not b) (x ∷ others e xs) (others e xs) ++ e ∷ []
        ends true = refl
        ends false = refl

pub standing-view : (keys : List Typed) (es : List Entry) (e : Entry) →
    filter (λ g. not (is_same_key g.entry.change.key e.change.key)) (view_of keys es).standing ++ standing_of (in_groups keys e) ∷ []
    ≡ (view_of keys (es ++ e ∷ [])).standing
standing-view keys es e =
    let f : Entry → InGroup = λ e. standing_of (in_groups keys e) in
    ap (λ (gs : List InGroup). gs ++ f e ∷ []) (filter-map f (λ g. not (is_same_key g.entry.change.key e.change.key)) (standing es))
    ∙ sym (map-append f (others e es) (e ∷ []))
    ∙ ap (map f) (sym (standing-more es e))

-- ---- borrowed entries

abbrev AreInGroups : List Typed → List EntryInGroups → Type 0
AreInGroups keys ms = map lent ms ≡ map (in_groups keys) (entries_of ms)

-- the first of the entries in their groups
pub members-taken : (keys : List Typed) (ms : List EntryInGroups) → AreInGroups keys ms → (n : ℕ) → AreInGroups keys (take n ms)
members-taken keys ms are n =
    sym (take-map lent n ms) ∙ ap (take n) are ∙ take-map (in_groups keys) n (entries_of ms) ∙ ap (map (in_groups keys)) (take-map (λ (m : EntryInGroups). entry_of m.entry) n ms)

-- one of them
pub member-at : (keys : List Typed) (ms : List EntryInGroups) → AreInGroups keys ms → (i : ℕ) (m : EntryInGroups) → i < length ms → m ≡ get_or ms i m →
    lent m ≡ in_groups keys (entry_of m.entry)
member-at keys ms are i m within is =
    let entry : EntryInGroups → Entry = λ m. entry_of m.entry in
    let d : InGroups = lent m in
    ap lent is ∙ sym (get_or-map lent ms i m d within) ∙ ap (λ (gs : List InGroups). get_or gs i d) are
    ∙ get_or-map (in_groups keys) (entries_of ms) i (entry m) d (omega (arith, length-map ms entry))
    ∙ ap (in_groups keys) (get_or-map entry ms i m (entry m) within ∙ ap entry (sym is))

-- the changes of groups, given the borrowed views before and after an entry
pub changes-view : (keys : List Typed) (aggs : List Agg) (ms : List EntryInGroups) → AreInGroups keys ms → (i : ℕ) (e : Entry) (stood stands : List InGroup) →
    entries_of (take (i + 1) ms) ≡ entries_of (take i ms) ++ e ∷ [] →
    stood ≡ (view_of keys (entries_of (take i ms))).standing → stands ≡ (view_of keys (entries_of (take i ms) ++ e ∷ [])).standing →
    map (view_change aggs (record { entries = map lent (take i ms); standing = stood }) (record { entries = map lent (take (i + 1) ms); standing = stands }))
    (grouped keys e.change)
    ≡ aggregate_of_table keys aggs (entries_of (take i ms)) e
changes-view keys aggs ms are i e stood stands more is_before is_after =
    let before : List Entry = entries_of (take i ms) in
    let cs : List Change = grouped keys e.change in
    let view : List InGroups → List InGroup → View = λ es ss. record { entries = es; standing = ss } in
    ap₂ (λ (b a : View). map (view_change aggs b a) cs) (ap₂ view (members-taken keys ms are i) is_before)
    (ap₂ view (members-taken keys ms are (i + 1) ∙ ap (map (in_groups keys)) more) is_after)
    ∙ changes-by-view keys aggs before e cs
