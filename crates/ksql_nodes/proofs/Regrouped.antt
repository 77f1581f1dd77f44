-- The regrouped entries of one group, from those of the table.
use Rattle.std.proofs.Common.{◌≡◌, ◌∙◌, ap, ap₂, refl, sym, subst, subst₂, ℕ, List, [], ◌∷◌, ◌++◌, map, Bool, true, false, cond, true≢false}
use Rattle.std.proofs.lemmas.List.{map-append}
use Rattle.std.proofs.lemmas.List.Concat.{flat_map-append}
use Rattle.std.proofs.lemmas.List.Elements.{filter-append}
use Rattle.std.specs.Prelude.{◌||◌, if◌then◌else◌, Option, Some, None, option_and_then, option_map, unwrap_or, is_some}
use Rattle.std.specs.List.{AllByRecursion, flat_map}
use Rattle.ksql_types.specs.Key.{is_key}
use Rattle.ksql_types.specs.declared.value.Value.{Value}
use Rattle.ksql_place.specs.declared.change.Body.TheVariants.{Turned}
use Rattle.ksql_place.specs.declared.change.Change.{Change}
use Rattle.ksql_expr.specs.declared.typed.Typed.{Typed}
use Rattle.ksql_place.specs.Said.{row_in, row_out}
use Rattle.ksql_nodes.specs.Entries.{Row, Entry, from_side, is_same_key, of_key}
use Rattle.ksql_nodes.specs.Rows.{values}
use Rattle.ksql_nodes.specs.Groups.{Member, member, in_group, moved, grouped}
use Rattle.ksql_nodes.specs.Aggregates.{Dated, dated, entered, gone}
use Rattle.ksql_nodes.specs.TableAggregates.{is_in, touching}
use Rattle.ksql_nodes.proofs.Keys.{key-decides}
use Rattle.ksql_nodes.proofs.Results.{entry}

-- the row of a member of a group
abbrev mine : List Value → Option Member → Option Row
mine group None = None
mine group (Some m) = if is_same_key m.group group then Some m.row else None

abbrev pub of_group : List Value → List Change → List Entry
of_group group cs = of_key group (from_side 0 cs)

abbrev pub bring : Option Row → Bool
bring row = is_some row

abbrev pub only_if : ℕ → Bool → List ℕ
only_if time b = if b then time ∷ [] else []

abbrev pub times : List Entry → List ℕ
times es = map (λ e. e.change.time) es

-- the three forms of a moved row
abbrev stays : Change → Member → Member → Entry
stays c l r = entry (in_group r.group 0 c (Turned (Some l.row) (Some r.row)))

abbrev leaves : Change → Member → Entry
leaves c l = entry (in_group l.group 0 c (Turned (Some l.row) None))

abbrev comes : Change → ℕ → Member → Entry
comes c step r = entry (in_group r.group step c (Turned None (Some r.row)))

-- what a change gives to one group: the row that it brings there, the row that it takes away there, and its time
pub record Given (g : List Value) (c : Change) (old new : Option Row) (es : List Entry) : Type 0 where
  pub brought : entered es ≡ dated c.time new
  pub taken : gone es ≡ dated c.time old
  pub timed : times es ≡ only_if c.time (bring old || bring new)

given-leaves : (g : List Value) (c : Change) (l : Member) (b : Bool) → Given g c (if b then Some l.row else None) None (cond b (leaves c l ∷ []) [])
given-leaves g c l true = record { brought = refl; taken = refl; timed = refl }
given-leaves g c l false = record { brought = refl; taken = refl; timed = refl }

given-comes : (g : List Value) (c : Change) (step : ℕ) (r : Member) (b : Bool) → Given g c None (if b then Some r.row else None) (cond b (comes c step r ∷ []) [])
given-comes g c step r true = record { brought = refl; taken = refl; timed = refl }
given-comes g c step r false = record { brought = refl; taken = refl; timed = refl }

given-stays : (g : List Value) (c : Change) (l r : Member) (b : Bool) → Given g c (if b then Some l.row else None) (if b then Some r.row else None) (cond b (stays c l r ∷ []) [])
given-stays g c l r true = record { brought = refl; taken = refl; timed = refl }
given-stays g c l r false = record { brought = refl; taken = refl; timed = refl }

given-both : (g : List Value) (c : Change) (l r : Member) (b d : Bool) → ¬ ((b ≡ true) × (d ≡ true)) →
    Given g c (if b then Some l.row else None) (if d then Some r.row else None) (cond b (leaves c l ∷ cond d (comes c 1 r ∷ []) []) (cond d (comes c 1 r ∷ []) []))
given-both g c l r true true h = absurd (h (refl, refl))
given-both g c l r true false h = record { brought = refl; taken = refl; timed = refl }
given-both g c l r false true h = record { brought = refl; taken = refl; timed = refl }
given-both g c l r false false h = record { brought = refl; taken = refl; timed = refl }

moved-given : (g : List Value) (c : Change) (old new : Option Member) → Given g c (mine g old) (mine g new) (of_group g (moved c old new))
moved-given g c None None = record { brought = refl; taken = refl; timed = refl }
moved-given g c (Some l) None = given-leaves g c l (is_same_key l.group g)
moved-given g c None (Some r) = given-comes g c 0 r (is_same_key r.group g)
moved-given g c (Some l) (Some r) = by (is_same_key l.group r.group) refl
  where
    by : (a : Bool) → is_same_key l.group r.group ≡ a →
        Given g c (mine g (Some l)) (mine g (Some r)) (of_key g (from_side 0 (cond a (in_group r.group 0 c (Turned (Some l.row) (Some r.row)) ∷ [])
        (in_group l.group 0 c (Turned (Some l.row) None) ∷ in_group r.group 1 c (Turned None (Some r.row)) ∷ []))))
    by true is =
        subst (λ b. Given g c (if b then Some l.row else None) (mine g (Some r)) (cond (is_same_key r.group g) (stays c l r ∷ []) []))
        (ap (λ k. is_same_key k g) (sym ((key-decides l.group r.group).0 is))) (given-stays g c l r (is_same_key r.group g))
    by false is = given-both g c l r (is_same_key l.group g) (is_same_key r.group g)
        (λ both. true≢false (sym ((key-decides l.group r.group).1 ((key-decides l.group g).0 both.0 ∙ sym ((key-decides r.group g).0 both.1))) ∙ is))

-- the row of a table in one of its groups
abbrev pub in_of : List Typed → List Value → ℕ → Option Row → Option Row
in_of keys g time row = if is_in keys g time row then row else None

mine-in : (keys : List Typed) (g : List Value) (time : ℕ) (row : Option Row) → mine g (option_and_then (member keys time) row) ≡ in_of keys g time row
mine-in keys g time None = refl
mine-in keys g time (Some r) = by (is_key (values keys time r))
  where
    by : (b : Bool) → mine g (if b then Some (record { group = values keys time r; row = r }) else None)
        ≡ (if unwrap_or (option_map (λ (m : Member). is_same_key m.group g) (if b then Some (record { group = values keys time r; row = r }) else None)) false then Some r else None)
    by true = refl
    by false = refl

-- a table's entry, regrouped
grouped-given : (keys : List Typed) (g : List Value) (c : Change) (old new : Option Row) → c.body ≡ Turned old new →
    Given g c (in_of keys g c.time old) (in_of keys g c.time new) (of_group g (grouped keys c))
grouped-given keys g c old new is =
    subst (λ b. Given g c (in_of keys g c.time old) (in_of keys g c.time new) (of_group g (grouped keys (record c { body = b })))) (sym is)
    (subst₂ (λ o w. Given g c o w (of_group g (moved (record c { body = Turned old new }) (option_and_then (member keys c.time) old) (option_and_then (member keys c.time) new))))
    (mine-in keys g c.time old) (mine-in keys g c.time new)
    (of-other (moved-given g (record c { body = Turned old new }) (option_and_then (member keys c.time) old) (option_and_then (member keys c.time) new))))
  where
    of-other : {o w : Option Row} {es : List Entry} → Given g (record c { body = Turned old new }) o w es → Given g c o w es
    of-other h = record { brought = h.brought; taken = h.taken; timed = h.timed }

-- ---- of all entries of a table

abbrev pub AreTurned : List Entry → Type 0
AreTurned es = AllByRecursion (λ e. e.change.body ≡ Turned (row_out e.change.body) (row_in e.change.body)) es

-- the regrouped entries of a group
abbrev pub regrouped : List Typed → List Value → List Entry → List Entry
regrouped keys g es = of_group g (flat_map (λ e. grouped keys e.change) es)

abbrev pub entered_in : List Typed → List Value → Entry → List Dated
entered_in keys g e = dated e.change.time (in_of keys g e.change.time (row_in e.change.body))

abbrev pub left_in : List Typed → List Value → Entry → List Dated
left_in keys g e = dated e.change.time (in_of keys g e.change.time (row_out e.change.body))

abbrev touched_in : List Typed → List Value → Entry → List ℕ
touched_in keys g e = only_if e.change.time (bring (in_of keys g e.change.time (row_out e.change.body)) || bring (in_of keys g e.change.time (row_in e.change.body)))

pub of_group-append : (g : List Value) (xs ys : List Change) → of_group g (xs ++ ys) ≡ of_group g xs ++ of_group g ys
of_group-append g xs ys = ap (of_key g) (map-append entry xs ys) ∙ filter-append (λ e. is_same_key e.change.key g) (from_side 0 xs) (from_side 0 ys)

pub regrouped-entered : (keys : List Typed) (g : List Value) (es : List Entry) → AreTurned es → entered (regrouped keys g es) ≡ flat_map (entered_in keys g) es
regrouped-entered keys g [] turned = refl
regrouped-entered keys g (e ∷ es) turned =
    ap entered (of_group-append g (grouped keys e.change) (flat_map (λ x. grouped keys x.change) es))
    ∙ flat_map-append (λ (x : Entry). dated x.change.time (row_in x.change.body)) (of_group g (grouped keys e.change)) (regrouped keys g es)
    ∙ ap₂ (λ a b. a ++ b) (grouped-given keys g e.change _ _ turned.0).brought (regrouped-entered keys g es turned.1)

pub regrouped-gone : (keys : List Typed) (g : List Value) (es : List Entry) → AreTurned es → gone (regrouped keys g es) ≡ flat_map (left_in keys g) es
regrouped-gone keys g [] turned = refl
regrouped-gone keys g (e ∷ es) turned =
    ap gone (of_group-append g (grouped keys e.change) (flat_map (λ x. grouped keys x.change) es))
    ∙ flat_map-append (λ (x : Entry). dated x.change.time (row_out x.change.body)) (of_group g (grouped keys e.change)) (regrouped keys g es)
    ∙ ap₂ (λ a b. a ++ b) (grouped-given keys g e.change _ _ turned.0).taken (regrouped-gone keys g es turned.1)

pub bring-in : (keys : List Typed) (g : List Value) (time : ℕ) (row : Option Row) → bring (in_of keys g time row) ≡ is_in keys g time row
bring-in keys g time None = refl
bring-in keys g time (Some r) = by (is_in keys g time (Some r))
  where
    by : (b : Bool) → bring (if b then Some r else None) ≡ b
    by true = refl
    by false = refl

abbrev touches : List Typed → List Value → Entry → Bool
touches keys g e = is_in keys g e.change.time (row_out e.change.body) || is_in keys g e.change.time (row_in e.change.body)

times-touching : (keys : List Typed) (g : List Value) (es : List Entry) → flat_map (touched_in keys g) es ≡ times (touching keys g es)
times-touching keys g [] = refl
times-touching keys g (e ∷ es) =
    ap₂ (λ b rest. only_if e.change.time b ++ rest)
    (ap₂ (λ a b. a || b) (bring-in keys g e.change.time (row_out e.change.body)) (bring-in keys g e.change.time (row_in e.change.body)))
    (times-touching keys g es)
    ∙ by (touches keys g e)
  where
    by : (b : Bool) → only_if e.change.time b ++ times (touching keys g es) ≡ times (cond b (e ∷ touching keys g es) (touching keys g es))
    by true = refl
    by false = refl

pub regrouped-times : (keys : List Typed) (g : List Value) (es : List Entry) → AreTurned es → times (regrouped keys g es) ≡ times (touching keys g es)
regrouped-times keys g es turned = each keys g es turned ∙ times-touching keys g es
  where
    each : (keys : List Typed) (g : List Value) (es : List Entry) → AreTurned es → times (regrouped keys g es) ≡ flat_map (touched_in keys g) es
    each keys g [] turned = refl
    each keys g (e ∷ es) turned =
        ap times (of_group-append g (grouped keys e.change) (flat_map (λ x. grouped keys x.change) es))
        ∙ map-append (λ (x : Entry). x.change.time) (of_group g (grouped keys e.change)) (regrouped keys g es)
        ∙ ap₂ (λ a b. a ++ b) (grouped-given keys g e.change _ _ turned.0).timed (each keys g es turned.1)
