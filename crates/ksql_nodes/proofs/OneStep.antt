-- Regrouping a table and then aggregating what entered less what left is aggregating what the table holds.
use Rattle.std.proofs.Common.{◌≡◌, ◌∙◌, ap, ap₂, refl, sym, subst, ℕ, List, [], ◌∷◌, ◌++◌, map, length, length-append, Bool, true, false, cond, arith, append_assoc}
use Rattle.std.proofs.lemmas.List.{append-nil, map-append}
use Rattle.std.proofs.lemmas.List.Concat.{flat_map-append}
use Rattle.std.proofs.lemmas.List.Elements.{filter-append}
use Rattle.std.proofs.lemmas.Int.{ints}
use Rattle.std.proofs.Math.IntN.{pos-+ℤ-pos}
use Rattle.std.specs.Prelude.{filter, not, if◌then◌else◌, Option, Some, None, option_map, unwrap_or, ℤ, pos, ◌+ℤ◌, ◌-ℤ◌}
use Rattle.std.specs.List.{AllByRecursion, flat_map}
use Rattle.ksql_types.specs.Key.{is_key, is_null}
use Rattle.ksql_types.specs.declared.value.SqlType.{SqlType}
use Rattle.ksql_types.specs.declared.value.Value.{Value}
use Rattle.ksql_types.specs.declared.relation.Kind.TheVariants.{Table}
use Rattle.ksql_place.specs.Order.{greatest}
use Rattle.ksql_place.specs.declared.change.Body.{Body}
use Rattle.ksql_place.specs.declared.change.Body.TheVariants.{Turned}
use Rattle.ksql_place.specs.declared.change.Change.{Change}
use Rattle.ksql_expr.specs.declared.typed.AggFun.{AggFun}
use Rattle.ksql_expr.specs.declared.typed.AggFun.TheVariants.{CountAll, Count, Sum, Min, Max, Latest, Earliest}
use Rattle.ksql_expr.specs.declared.typed.Typed.{Typed}
use Rattle.ksql_expr.specs.Value.{whole, number}
use Rattle.ksql_program.specs.declared.query.Agg.{Agg}
use Rattle.ksql_program.specs.Sound.{IsOverTable}
use Rattle.ksql_place.specs.Said.{row_in, row_out}
use Rattle.ksql_nodes.specs.declared.node.Node.TheVariants.{Group, Aggregate}
use Rattle.ksql_nodes.specs.Entries.{Row, Entry, results, from_side, through, is_same_key, of_key, row_after, latest_time}
use Rattle.ksql_nodes.specs.Rows.{values}
use Rattle.ksql_nodes.specs.Groups.{Member, in_group, moved, grouped}
use Rattle.ksql_nodes.specs.Aggregates.{present, total, amount, aggregate, Dated, dated, entered, gone, argument, arguments, type_of_agg, worth, unless_none, outcome, group_change}
use Rattle.ksql_nodes.specs.Nodes.{gives}
use Rattle.ksql_nodes.specs.TableAggregates.{standing, is_in, held, touching, held_worth, held_outcome, held_change, aggregate_of_table}
use Rattle.ksql_nodes.specs.Steps.{followed_by, Timeless, HasTimelessArgument, IsHeld, IsTableFrom}
use Rattle.ksql_nodes.proofs.Keys.{key-own, key-turned}
use Rattle.ksql_nodes.proofs.Results.{entry, results-followed_by}
use Rattle.ksql_nodes.proofs.Held.{weight, balanced}
use Rattle.ksql_nodes.proofs.Regrouped.{of_group, of_group-append, times, regrouped-times, AreTurned, regrouped, in_of, entered_in, regrouped-entered, regrouped-gone}

-- ---- expressions that look at no time

values-timeless : (keys : List Typed) → AllByRecursion Timeless keys → (row : Row) (time : ℕ) → values keys time row ≡ values keys 0 row
values-timeless [] timeless row time = refl
values-timeless (k ∷ ks) timeless row time = ap₂ (λ v vs. v ∷ vs) (timeless.0 row time) (values-timeless ks timeless.1 row time)

in-timeless : (keys : List Typed) → AllByRecursion Timeless keys → (g : List Value) (time : ℕ) (row : Option Row) → in_of keys g time row ≡ in_of keys g 0 row
in-timeless keys timeless g time None = refl
in-timeless keys timeless g time (Some r) =
    ap (λ (vs : List Value). if unwrap_or (option_map (λ (m : Member). is_same_key m.group g) (if is_key vs then Some (record { group = vs; row = r }) else None)) false then Some r else None)
    (values-timeless keys timeless r time)

-- ---- amounts

total-append : (xs ys : List Value) → total (xs ++ ys) ≡ total xs +ℤ total ys
total-append [] ys = omega (arith, ints)
total-append (x ∷ xs) ys = ap (λ z. unwrap_or (whole x) (pos 0) +ℤ z) (total-append xs ys) ∙ omega (arith, ints)

length-add : (xs ys : List Value) → pos (length (xs ++ ys)) ≡ pos (length xs) +ℤ pos (length ys)
length-add xs ys = ap (λ n. pos n) (length-append xs ys) ∙ sym (pos-+ℤ-pos (length xs) (length ys))

amount-append : (f : AggFun) (xs ys : List Value) → amount f (xs ++ ys) ≡ amount f xs +ℤ amount f ys
amount-append CountAll xs ys = length-add xs ys
amount-append Count xs ys = ap (λ vs. pos (length vs)) (filter-append (λ v. not (is_null v)) xs ys) ∙ length-add (present xs) (present ys)
amount-append Sum xs ys = ap total (filter-append (λ v. not (is_null v)) xs ys) ∙ total-append (present xs) (present ys)
amount-append _ xs ys = omega (arith, ints)

amount-none : (f : AggFun) → amount f [] ≡ pos 0
amount-none CountAll = refl
amount-none Count = refl
amount-none Sum = refl
amount-none _ = refl

-- what a row adds to an aggregate, and nothing adds nothing
shared : Agg → Option Row → ℤ
shared a None = pos 0
shared a (Some r) = amount a.fun (argument a.arg (record { row = r; time = 0 }) ∷ [])

argument-timeless : (a : Agg) → HasTimelessArgument a → (r : Row) (time : ℕ) → argument a.arg (record { row = r; time = time }) ≡ argument a.arg (record { row = r; time = 0 })
argument-timeless a timeless r time = by a.arg timeless
  where
    by : (arg : Option Typed) → HasTimelessArgument (record a { arg = arg }) → argument arg (record { row = r; time = time }) ≡ argument arg (record { row = r; time = 0 })
    by None h = refl
    by (Some e) h = h r time

dated-amount : (a : Agg) → HasTimelessArgument a → (time : ℕ) (o : Option Row) → amount a.fun (arguments a.arg (dated time o)) ≡ shared a o
unfolding shared
dated-amount a timeless time None = amount-none a.fun
dated-amount a timeless time (Some r) = ap (λ v. amount a.fun (v ∷ [])) (argument-timeless a timeless r time)

-- what a row adds to an aggregate of a group
abbrev weigh : List Typed → List Value → Agg → Option Row → ℤ
weigh keys g a row = shared a (in_of keys g 0 row)

abbrev in_step : List Typed → List Value → (Entry → Option Row) → Entry → List Dated
in_step keys g side e = dated e.change.time (in_of keys g e.change.time (side e))

amount-each : (keys : List Typed) → AllByRecursion Timeless keys → (g : List Value) (a : Agg) → HasTimelessArgument a → (side : Entry → Option Row) (es : List Entry) →
    amount a.fun (arguments a.arg (flat_map (in_step keys g side) es)) ≡ weight (λ e. weigh keys g a (side e)) es
unfolding weight
amount-each keys tk g a ta side [] = amount-none a.fun
amount-each keys tk g a ta side (e ∷ es) =
    ap (amount a.fun) (map-append (argument a.arg) (in_step keys g side e) (flat_map (in_step keys g side) es))
    ∙ amount-append a.fun (arguments a.arg (in_step keys g side e)) (arguments a.arg (flat_map (in_step keys g side) es))
    ∙ ap₂ (λ x y. x +ℤ y)
    (dated-amount a ta e.change.time (in_of keys g e.change.time (side e)) ∙ ap (shared a) (in-timeless keys tk g e.change.time (side e)))
    (amount-each keys tk g a ta side es)

-- the rows in a group
held-each : (keys : List Typed) (g : List Value) (es : List Entry) →
    entered (filter (λ e. is_in keys g e.change.time (row_in e.change.body)) es) ≡ flat_map (entered_in keys g) es
held-each keys g [] = refl
held-each keys g (e ∷ es) = by (is_in keys g e.change.time (row_in e.change.body)) (held-each keys g es)
  where
    kept : List Entry
    kept = filter (λ e. is_in keys g e.change.time (row_in e.change.body)) es

    by : (b : Bool) → entered kept ≡ flat_map (entered_in keys g) es →
        entered (cond b (e ∷ kept) kept) ≡ dated e.change.time (if b then row_in e.change.body else None) ++ flat_map (entered_in keys g) es
    by true ih = ap (λ rest. dated e.change.time (row_in e.change.body) ++ rest) ih
    by false ih = ih

turned-table : (before es : List Entry) → IsTableFrom before es → AreTurned es
turned-table before [] table = tt
turned-table before (e ∷ es) table = (by e.change.body table.0, turned-table (before ++ e ∷ []) es table.1)
  where
    by : (b : Body) → b ≡ Turned (row_after (of_key e.change.key before)) (row_in b) → b ≡ Turned (row_out b) (row_in b)
    by b is = is ∙ ap (λ o. Turned o (row_in b)) (sym (ap row_out is))

last-turned : (before : List Entry) (e : Entry) → AreTurned (before ++ e ∷ []) → e.change.body ≡ Turned (row_out e.change.body) (row_in e.change.body)
last-turned [] e turned = turned.0
last-turned (x ∷ xs) e turned = last-turned xs e turned.1

minus : (i o h : ℤ) → i ≡ o +ℤ h → i -ℤ o ≡ h
minus i o h e = omega (arith, ints)

-- the balance of a group of a table is its amount over the rows held
amount-held : (keys : List Typed) → AllByRecursion Timeless keys → (g : List Value) (a : Agg) → HasTimelessArgument a → (es : List Entry) → IsTableFrom [] es →
    amount a.fun (arguments a.arg (entered (regrouped keys g es))) -ℤ amount a.fun (arguments a.arg (gone (regrouped keys g es))) ≡ amount a.fun (arguments a.arg (held keys g es))
unfolding shared
amount-held keys tk g a ta es table =
    let turned : AreTurned es = turned-table [] es table in
    let amounts : List Dated → ℤ = λ rows. amount a.fun (arguments a.arg rows) in
    minus _ _ _
    (ap amounts (regrouped-entered keys g es turned) ∙ amount-each keys tk g a ta (λ e. row_in e.change.body) es
    ∙ balanced (weigh keys g a) refl es table
    ∙ ap₂ (λ x y. x +ℤ y)
    (sym (ap amounts (regrouped-gone keys g es turned) ∙ amount-each keys tk g a ta (λ e. row_out e.change.body) es))
    (sym (ap amounts (held-each keys g (standing es)) ∙ amount-each keys tk g a ta (λ e. row_in e.change.body) (standing es))))

worth-held : (keys : List Typed) → AllByRecursion Timeless keys → (g : List Value) (a : Agg) → HasTimelessArgument a → IsOverTable a.fun → (es : List Entry) → IsTableFrom [] es →
    worth Table (regrouped keys g es) a ≡ held_worth keys g es a
worth-held keys tk g a ta over es table =
    ap (number (type_of_agg a)) (amount-held keys tk g a ta es table) ∙ by a.fun over (type_of_agg a) (arguments a.arg (held keys g es))
  where
    by : (f : AggFun) → IsOverTable f → (ty : Option SqlType) (vs : List Value) → number ty (amount f vs) ≡ aggregate f ty vs
    by CountAll h ty vs = refl
    by Count h ty vs = refl
    by Sum h ty vs = refl
    by Min h ty vs = absurd h
    by Max h ty vs = absurd h
    by Latest h ty vs = absurd h
    by Earliest h ty vs = absurd h

worths-held : (keys : List Typed) → AllByRecursion Timeless keys → (g : List Value) (aggs : List Agg) → AllByRecursion IsHeld aggs → (es : List Entry) → IsTableFrom [] es →
    map (worth Table (regrouped keys g es)) aggs ≡ map (held_worth keys g es) aggs
worths-held keys tk g [] ok es table = refl
worths-held keys tk g (a ∷ more) ok es table =
    ap₂ (λ v vs. v ∷ vs) (worth-held keys tk g a (ok.0).0 (ok.0).1 es table) (worths-held keys tk g more ok.1 es table)

unless-same : (xs ys : List Entry) (row : Row) → times xs ≡ times ys → unless_none xs row ≡ unless_none ys row
unless-same [] [] row same = refl
unless-same [] (y ∷ ys) row same = absurd (cc)
unless-same (x ∷ xs) [] row same = absurd (cc)
unless-same (x ∷ xs) (y ∷ ys) row same = refl

outcome-held : (keys : List Typed) → AllByRecursion Timeless keys → (g : List Value) (aggs : List Agg) → AllByRecursion IsHeld aggs → (es : List Entry) → IsTableFrom [] es →
    outcome Table aggs g None (regrouped keys g es) ≡ held_outcome keys aggs g es
outcome-held keys tk g aggs ok es table =
    unless-same (regrouped keys g es) (touching keys g es) _ (regrouped-times keys g es (turned-table [] es table))
    ∙ ap (unless_none (touching keys g es)) (append-nil (g ++ map (worth Table (regrouped keys g es)) aggs) ∙ ap (λ ws. g ++ ws) (worths-held keys tk g aggs ok es table))

-- ---- the changes of one entry

regrouped-more : (keys : List Typed) (g : List Value) (es : List Entry) (e : Entry) →
    regrouped keys g (es ++ e ∷ []) ≡ regrouped keys g es ++ of_group g (grouped keys e.change)
regrouped-more keys g es e =
    ap (of_group g) (flat_map-append (λ (x : Entry). grouped keys x.change) es (e ∷ []) ∙ ap (λ rest. flat_map (λ (x : Entry). grouped keys x.change) es ++ rest) (append-nil (grouped keys e.change)))
    ∙ of_group-append g (flat_map (λ (x : Entry). grouped keys x.change) es) (grouped keys e.change)

abbrev summed : List Agg → List Entry → Change → Change
summed aggs seen c = group_change Table aggs None (of_key c.key seen) (entry c)

-- a regrouped change of its group
change-held : (keys : List Typed) → AllByRecursion Timeless keys → (aggs : List Agg) → AllByRecursion IsHeld aggs → (before : List Entry) (e : Entry) →
    IsTableFrom [] before → IsTableFrom [] (before ++ e ∷ []) → (c : Change) → of_group c.key (grouped keys e.change) ≡ entry c ∷ [] →
    summed aggs (from_side 0 (flat_map (λ (x : Entry). grouped keys x.change) before)) c ≡ held_change keys aggs before e c
change-held keys tk aggs ok before e t0 t1 c alone =
    let all : regrouped keys c.key before ++ entry c ∷ [] ≡ regrouped keys c.key (before ++ e ∷ []) =
    sym (regrouped-more keys c.key before e ∙ ap (λ rest. regrouped keys c.key before ++ rest) alone) in
    let time : latest_time (regrouped keys c.key before ++ entry c ∷ []) ≡ latest_time (touching keys c.key (before ++ e ∷ [])) =
    ap latest_time all ∙ ap greatest (regrouped-times keys c.key (before ++ e ∷ []) (turned-table [] (before ++ e ∷ []) t1)) in
    let old : outcome Table aggs c.key None (regrouped keys c.key before) ≡ held_outcome keys aggs c.key before = outcome-held keys tk c.key aggs ok before t0 in
    let new : outcome Table aggs c.key None (regrouped keys c.key before ++ entry c ∷ []) ≡ held_outcome keys aggs c.key (before ++ e ∷ []) =
    ap (outcome Table aggs c.key None) all ∙ outcome-held keys tk c.key aggs ok (before ++ e ∷ []) t1 in
    λ i. record c { time = time i; span = None; body = Turned (old i) (new i) }

-- changes of groups that differ
record AreApart (cs : List Change) : Type 0 where
  alone : AllByRecursion (λ c. of_group c.key cs ≡ entry c ∷ []) cs
  each : (aggs : List Agg) (seen : List Entry) → results (λ b e. group_change Table aggs None (of_key e.change.key b) e ∷ []) seen (from_side 0 cs) ≡ map (summed aggs seen) cs

one-apart : (c : Change) → AreApart (c ∷ [])
one-apart c = record { alone = (ap (λ b. cond b (entry c ∷ []) []) (key-own c.key), tt); each = λ aggs seen. refl }

two-apart : (c d : Change) → is_same_key c.key d.key ≡ false → is_same_key d.key c.key ≡ false → AreApart (c ∷ d ∷ [])
two-apart c d apart back = record {
  alone = (
    ap₂ (λ a b. cond a (entry c ∷ cond b (entry d ∷ []) []) (cond b (entry d ∷ []) [])) (key-own c.key) back,
    (ap₂ (λ a b. cond a (entry c ∷ cond b (entry d ∷ []) []) (cond b (entry d ∷ []) [])) apart (key-own d.key), tt),
  );
  each = λ aggs seen. ap (λ mine. summed aggs seen c ∷ group_change Table aggs None mine (entry d) ∷ [])
      (filter-append (λ x. is_same_key x.change.key d.key) seen (entry c ∷ [])
      ∙ ap (λ b. of_key d.key seen ++ cond b (entry c ∷ []) []) apart ∙ append-nil (of_key d.key seen));
}

moved-apart : (c : Change) (old new : Option Member) → AreApart (moved c old new)
moved-apart c None None = record { alone = tt; each = λ aggs seen. refl }
moved-apart c (Some l) None = one-apart (in_group l.group 0 c (Turned (Some l.row) None))
moved-apart c None (Some r) = one-apart (in_group r.group 0 c (Turned None (Some r.row)))
moved-apart c (Some l) (Some r) = by (is_same_key l.group r.group) refl
  where
    by : (b : Bool) → is_same_key l.group r.group ≡ b → AreApart (cond b (in_group r.group 0 c (Turned (Some l.row) (Some r.row)) ∷ [])
        (in_group l.group 0 c (Turned (Some l.row) None) ∷ in_group r.group 1 c (Turned None (Some r.row)) ∷ []))
    by true is = one-apart (in_group r.group 0 c (Turned (Some l.row) (Some r.row)))
    by false is = two-apart (in_group l.group 0 c (Turned (Some l.row) None)) (in_group r.group 1 c (Turned None (Some r.row))) is (sym (key-turned l.group r.group) ∙ is)

grouped-apart : (keys : List Typed) (c : Change) (old new : Option Row) → c.body ≡ Turned old new → AreApart (grouped keys c)
grouped-apart keys c old new is = subst (λ b. AreApart (grouped keys (record c { body = b }))) (sym is) (moved-apart (record c { body = Turned old new }) _ _)

map-held : (f h : Change → Change) (P : Change → Type 0) → ((c : Change) → P c → f c ≡ h c) → (cs : List Change) → AllByRecursion P cs → map f cs ≡ map h cs
map-held f h P same [] all = refl
map-held f h P same (c ∷ cs) all = ap₂ (λ x xs. x ∷ xs) (same c all.0) (map-held f h P same cs all.1)

group-each : (n : ℕ) (keys : List Typed) (before es : List Entry) → results (gives n (Group keys)) before es ≡ flat_map (λ (x : Entry). grouped keys x.change) es
unfolding gives
group-each n keys before [] = refl
group-each n keys before (e ∷ es) = ap (λ rest. grouped keys e.change ++ rest) (group-each n keys (before ++ e ∷ []) es)

-- one entry of a table, after others
aggregate_of_table-one : (n : ℕ) (keys : List Typed) → AllByRecursion Timeless keys → (aggs : List Agg) → AllByRecursion IsHeld aggs → (before : List Entry) (e : Entry) →
    IsTableFrom [] before → IsTableFrom [] (before ++ e ∷ []) →
    followed_by (gives n (Group keys)) (gives n (Aggregate Table aggs None)) before e ≡ aggregate_of_table keys aggs before e
unfolding gives
aggregate_of_table-one n keys tk aggs ok before e t0 t1 =
    let apart : AreApart (grouped keys e.change) = grouped-apart keys e.change _ _ (last-turned before e (turned-table [] (before ++ e ∷ []) t1)) in
    ap (λ (seen : List Change). results (λ b x. group_change Table aggs None (of_key x.change.key b) x ∷ []) (from_side 0 seen) (from_side 0 (grouped keys e.change))) (group-each n keys [] before)
    ∙ apart.each aggs (from_side 0 (flat_map (λ (x : Entry). grouped keys x.change) before))
    ∙ map-held _ (held_change keys aggs before e) (λ c. of_group c.key (grouped keys e.change) ≡ entry c ∷ []) (change-held keys tk aggs ok before e t0 t1) (grouped keys e.change) apart.alone

-- ---- a whole table

table-append : (b xs ys : List Entry) → IsTableFrom b xs → IsTableFrom (b ++ xs) ys → IsTableFrom b (xs ++ ys)
table-append b [] ys hx hy = subst (λ z. IsTableFrom z ys) (append-nil b) hy
table-append b (x ∷ xs) ys hx hy = (hx.0, table-append (b ++ x ∷ []) xs ys hx.1 (subst (λ z. IsTableFrom z ys) (sym (append_assoc b (x ∷ []) xs)) hy))

held-results : (n : ℕ) (keys : List Typed) → AllByRecursion Timeless keys → (aggs : List Agg) → AllByRecursion IsHeld aggs → (before es : List Entry) →
    IsTableFrom [] before → IsTableFrom before es →
    results (followed_by (gives n (Group keys)) (gives n (Aggregate Table aggs None))) before es ≡ results (aggregate_of_table keys aggs) before es
held-results n keys tk aggs ok before [] t0 t = refl
held-results n keys tk aggs ok before (e ∷ es) t0 t =
    let t1 : IsTableFrom [] (before ++ e ∷ []) = table-append [] before (e ∷ []) t0 (t.0, tt) in
    ap₂ (λ x y. x ++ y) (aggregate_of_table-one n keys tk aggs ok before e t0 t1) (held-results n keys tk aggs ok (before ++ e ∷ []) es t1 t.1)

-- an aggregate of a table in one step gives the same as regrouping, then entered less left
pub aggregate_of_table-through : (n : ℕ) (keys : List Typed) → AllByRecursion Timeless keys → (aggs : List Agg) → AllByRecursion IsHeld aggs → (es : List Entry) → IsTableFrom [] es →
    through (gives n (Group keys) ∷ gives n (Aggregate Table aggs None) ∷ []) es ≡ through (aggregate_of_table keys aggs ∷ []) es
aggregate_of_table-through n keys tk aggs ok es table =
    ap (λ cs. map (λ (e : Entry). e.change) (from_side 0 cs))
    (results-followed_by (gives n (Group keys)) (gives n (Aggregate Table aggs None)) [] es ∙ held-results n keys tk aggs ok [] es tt table)
