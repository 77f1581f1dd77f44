-- WHERE, HAVING, a select list and an aggregate leave tables tables.
use Rattle.std.proofs.Common.{◌≡◌, ◌∙◌, ap, ap₂, refl, sym, subst, ℕ, List, [], ◌∷◌, ◌++◌, map, Bool, true, false, cond}
use Rattle.std.proofs.lemmas.List.{append-nil}
use Rattle.std.proofs.lemmas.List.Elements.{filter-append}
use Rattle.std.specs.Prelude.{if◌then◌else◌, Option, Some, None, option_map, option_and_then}
use Rattle.std.specs.List.{AllByRecursion}
use Rattle.ksql_types.specs.declared.value.Value.{Value}
use Rattle.ksql_types.specs.declared.relation.Kind.{Kind}
use Rattle.ksql_types.specs.declared.relation.Kind.TheVariants as kind
use Rattle.ksql_place.specs.Said.{row_in}
use Rattle.ksql_place.specs.declared.change.Body.{Body}
use Rattle.ksql_place.specs.declared.change.Body.TheVariants.{Turned}
use Rattle.ksql_place.specs.declared.change.Change.{Change}
use Rattle.ksql_expr.specs.Value.{is_true_value}
use Rattle.ksql_expr.specs.declared.typed.Typed.{Typed}
use Rattle.ksql_program.specs.declared.query.Agg.{Agg}
use Rattle.ksql_nodes.specs.declared.node.Node.TheVariants.{Aggregate, Filter, Group, Having, Select}
use Rattle.ksql_nodes.specs.Aggregates.{group_change, outcome}
use Rattle.ksql_nodes.specs.Entries.{Entry, Row, Step, from_side, is_same_key, of_key, results, row_after}
use Rattle.ksql_nodes.specs.Nodes.{gives}
use Rattle.ksql_nodes.specs.Rows.{by_rows, passing, selected_key, turned, values, with_body}
use Rattle.ksql_nodes.specs.Steps.{IsHeld, IsTableFrom, Timeless}
use Rattle.ksql_nodes.specs.TableAggregates.{aggregate_of_table}
use Rattle.ksql_nodes.proofs.Keys.{key-decides}
use Rattle.ksql_nodes.proofs.OneStep.{aggregate_of_table-through}
use Rattle.ksql_nodes.proofs.Results.{entry}
use Rattle.query_meaning.specs.Queries.{key_cells, with_key_cells}
use Rattle.meaning_laws.proofs.Turning.{AreTurned, IsStep, KeepsTable, after-more, changed-from-side, step-some, step-turned, table-more}

values-timeless : (keys : List Typed) → AllByRecursion Timeless keys → (row : Row) (time : ℕ) → values keys time row ≡ values keys 0 row
values-timeless [] timeless row time = refl
values-timeless (k ∷ ks) timeless row time = ap₂ (λ (v : Value) (vs : List Value). v ∷ vs) (timeless.0 row time) (values-timeless ks timeless.1 row time)

-- a step that turns each row of a table by itself
abbrev IsRowwise : (Row → Option Row) → Step → Type 0
IsRowwise f g = (before : List Entry) (e : Entry) (old new : Option Row) → e.change.body ≡ Turned old new →
    (c : Change) × (c.key ≡ e.change.key) × (g before e ≡ with_body c (turned (option_and_then f old) (option_and_then f new)))

abbrev Follows : (Row → Option Row) → List Entry → List Entry → Type 0
Follows f outs before = (key : List Value) → row_after (of_key key outs) ≡ option_and_then f (row_after (of_key key before))

row-step : (f : Row → Option Row) (outs before : List Entry) → Follows f outs before → (e : Entry) → e.change.body ≡ Turned (row_after (of_key e.change.key before)) (row_in e.change.body) →
    (c : Change) → c.key ≡ e.change.key → (cs : List Change) → cs ≡ with_body c (turned (option_and_then f (row_after (of_key e.change.key before))) (option_and_then f (row_in e.change.body))) →
    IsTableFrom outs (from_side 0 cs) × Follows f (outs ++ from_side 0 cs) (before ++ e ∷ [])
row-step f outs before follows e is c same cs gave =
    let step : IsStep outs c.key (option_and_then f (row_in e.change.body)) cs =
    subst (IsStep outs c.key (option_and_then f (row_in e.change.body))) (sym gave)
    (step-turned outs c (option_and_then f (row_after (of_key e.change.key before))) (option_and_then f (row_in e.change.body)) (ap (λ k. row_after (of_key k outs)) same ∙ follows e.change.key)) in (
      step.table,
      λ key. step.after key ∙ ap₂ (λ k o. cond (is_same_key k key) (option_and_then f (row_in e.change.body)) o) same (follows key)
          ∙ by key (is_same_key e.change.key key) ∙ sym (ap (option_and_then f) (after-more key before e)),
    )
  where
    by : (key : List Value) (b : Bool) → cond b (option_and_then f (row_in e.change.body)) (option_and_then f (row_after (of_key key before))) ≡ option_and_then f (cond b (row_in e.change.body) (row_after (of_key key before)))
    by key true = refl
    by key false = refl

rows-from : (f : Row → Option Row) (g : Step) → IsRowwise f g → (outs before es : List Entry) → Follows f outs before → IsTableFrom before es → IsTableFrom outs (from_side 0 (results g before es))
rows-from f g rowwise outs before [] follows table = tt
rows-from f g rowwise outs before (e ∷ es) follows table =
    let (c, same, gave) = rowwise before e _ _ table.0 in
    let (now, next) = row-step f outs before follows e table.0 c same (g before e) gave in
    table-more g outs before e es now (rows-from f g rowwise (outs ++ from_side 0 (g before e)) (before ++ e ∷ []) es next table.1)

-- a table stays a table
rows-turned : (f : Row → Option Row) (g : Step) → IsRowwise f g → (es : List Entry) → IsTableFrom [] es → IsTableFrom [] (from_side 0 (results g [] es))
rows-turned f g rowwise es table = rows-from f g rowwise [] [] es (λ key. refl) table

abbrev turning : (Row → Option Row) → Option Row → Option Row → Option Body
turning f old new = turned (option_and_then f old) (option_and_then f new)

both-same : (f h : Row → Option Row) → ((row : Row) → f row ≡ h row) → (old new : Option Row) → turning f old new ≡ turning h old new
both-same f h same None None = refl
both-same f h same None (Some n) = ap (turned None) (same n)
both-same f h same (Some o) None = ap (λ x. turned x None) (same o)
both-same f h same (Some o) (Some n) = ap₂ turned (same o) (same n)

filter-rowwise : (n : ℕ) (on : Typed) → Timeless on → IsRowwise (passing on 0) (gives n (Filter on))
unfolding gives
filter-rowwise n on timeless before e old new is = (
  e.change,
  refl,
  ap (λ b. with_body e.change (by_rows (passing on e.change.time) b)) is
      ∙ ap (with_body e.change) (both-same (passing on e.change.time) (passing on 0) (λ row. ap (λ v. if is_true_value v then Some row else None) (timeless row e.change.time)) old new),
)

select-rowwise : (n : ℕ) (keys vs : List Typed) → AllByRecursion Timeless vs → IsRowwise (λ row. Some (values vs 0 row)) (gives n (Select keys vs))
unfolding gives
select-rowwise n keys vs timeless before e old new is = (
  record e.change { key = selected_key keys e.change },
  ap (λ b. selected_key keys (record e.change { body = b })) is,
  ap (λ b. with_body (record e.change { key = selected_key keys e.change }) (by_rows (λ row. Some (values vs e.change.time row)) b)) is
      ∙ ap (with_body (record e.change { key = selected_key keys e.change }))
      (both-same (λ row. Some (values vs e.change.time row)) (λ row. Some (values vs 0 row)) (λ row. ap (λ v. Some v) (values-timeless vs timeless row e.change.time)) old new),
)

having-rowwise : (n : ℕ) (on : Typed) → Timeless on → IsRowwise (passing on 0) (gives n (Having on))
unfolding gives
having-rowwise n on timeless = filter-rowwise n on timeless

pub filter-keeps : (n : ℕ) (on : Typed) → Timeless on → KeepsTable (gives n (Filter on))
filter-keeps n on timeless es table = rows-turned (passing on 0) (gives n (Filter on)) (filter-rowwise n on timeless) es table

pub having-keeps : (n : ℕ) (on : Typed) → Timeless on → KeepsTable (gives n (Having on))
having-keeps n on timeless es table = rows-turned (passing on 0) (gives n (Having on)) (having-rowwise n on timeless) es table

pub select-keeps : (n : ℕ) (keys vs : List Typed) → AllByRecursion Timeless vs → KeepsTable (gives n (Select keys vs))
select-keeps n keys vs timeless es table = rows-turned (λ row. Some (values vs 0 row)) (gives n (Select keys vs)) (select-rowwise n keys vs timeless) es table

-- ---- whole rows

module _ (n : ℕ) where
  abbrev whole : List Value → Row → Row
  whole key row = key_cells n key ++ row

  abbrev FollowsWhole : List Entry → List Entry → Type 0
  FollowsWhole outs before = (key : List Value) → row_after (of_key key outs) ≡ option_map (whole key) (row_after (of_key key before))

  whole-from : (outs before : List Entry) (cs : List Change) → FollowsWhole outs before → IsTableFrom before (from_side 0 cs) → IsTableFrom outs (from_side 0 (map (with_key_cells n) cs))
  whole-from outs before [] follows table = tt
  whole-from outs before (c ∷ cs) follows table =
      (is ∙ ap₂ Turned (sym (follows c.key)) (sym (ap row_in is)), whole-from (outs ++ entry w ∷ []) (before ++ entry c ∷ []) cs next table.1)
    where
      w : Change
      w = with_key_cells n c

      is : w.body ≡ Turned (option_map (whole c.key) (row_after (of_key c.key before))) (option_map (whole c.key) (row_in c.body))
      is = ap (λ b. (with_key_cells n (record c { body = b })).body) table.0

      by : (key : List Value) (b : Bool) → is_same_key c.key key ≡ b →
          cond b (option_map (whole c.key) (row_in c.body)) (option_map (whole key) (row_after (of_key key before)))
          ≡ option_map (whole key) (cond b (row_in c.body) (row_after (of_key key before)))
      by key true same = ap (λ k. option_map (whole k) (row_in c.body)) ((key-decides c.key key).0 same)
      by key false same = refl

      next : FollowsWhole (outs ++ entry w ∷ []) (before ++ entry c ∷ [])
      next key =
          after-more key outs (entry w)
          ∙ ap₂ (λ new old. cond (is_same_key c.key key) new old) (ap row_in is) (follows key)
          ∙ by key (is_same_key c.key key) refl
          ∙ sym (ap (option_map (whole key)) (after-more key before (entry c)))

  pub whole-turned : (cs : List Change) → AreTurned cs → AreTurned (map (with_key_cells n) cs)
  whole-turned cs table = whole-from [] [] cs (λ key. refl) table

-- ---- aggregates

grouped-from : (n : ℕ) (over : Kind) (aggs : List Agg) (outs before es : List Entry) →
    ((key : List Value) → row_after (of_key key outs) ≡ outcome over aggs key None (of_key key before)) →
    IsTableFrom outs (from_side 0 (results (gives n (Aggregate over aggs None)) before es))
unfolding gives
grouped-from n over aggs outs before [] follows = tt
grouped-from n over aggs outs before (e ∷ es) follows =
    let k : List Value = e.change.key in
    let mine : List Entry = of_key k before in
    let c : Change = group_change over aggs None mine e in
    let step : IsStep outs k (outcome over aggs k None (mine ++ e ∷ [])) (c ∷ []) =
    step-some outs c (outcome over aggs k None mine) (outcome over aggs k None (mine ++ e ∷ [])) (follows k) in (
      step.table.0,
      grouped-from n over aggs (outs ++ entry c ∷ []) (before ++ e ∷ []) es (λ key. step.after key ∙ by key (is_same_key k key) refl
          ∙ sym (ap (outcome over aggs key None) (filter-append (λ x. is_same_key x.change.key key) before (e ∷ [])))),
    )
  where
    by : (key : List Value) (b : Bool) → is_same_key e.change.key key ≡ b →
        cond (is_same_key e.change.key key) (outcome over aggs e.change.key None (of_key e.change.key before ++ e ∷ [])) (row_after (of_key key outs))
        ≡ outcome over aggs key None (of_key key before ++ cond (is_same_key e.change.key key) (e ∷ []) [])
    by key true is =
        ap (λ b. cond b (outcome over aggs e.change.key None (of_key e.change.key before ++ e ∷ [])) (row_after (of_key key outs))) is
        ∙ ap (λ k. outcome over aggs k None (of_key k before ++ e ∷ [])) ((key-decides e.change.key key).0 is)
        ∙ sym (ap (λ b. outcome over aggs key None (of_key key before ++ cond b (e ∷ []) [])) is)
    by key false is =
        ap (λ b. cond b (outcome over aggs e.change.key None (of_key e.change.key before ++ e ∷ [])) (row_after (of_key key outs))) is
        ∙ follows key
        ∙ sym (ap (λ b. outcome over aggs key None (of_key key before ++ cond b (e ∷ []) [])) is ∙ ap (outcome over aggs key None) (append-nil (of_key key before)))

-- the groups of an aggregate are a table
pub grouped-turned : (n : ℕ) (over : Kind) (aggs : List Agg) (es : List Entry) → IsTableFrom [] (from_side 0 (results (gives n (Aggregate over aggs None)) [] es))
grouped-turned n over aggs es = grouped-from n over aggs [] [] es (λ key. refl)

pub table-aggregate-keeps : (keys : List Typed) → AllByRecursion Timeless keys → (aggs : List Agg) → AllByRecursion IsHeld aggs → KeepsTable (aggregate_of_table keys aggs)
table-aggregate-keeps keys timeless aggs held es table =
    subst AreTurned
    (sym (changed-from-side (results (gives 1 (Aggregate kind.Table aggs None)) [] (from_side 0 (results (gives 1 (Group keys)) [] es))))
    ∙ aggregate_of_table-through 1 keys timeless aggs held es table ∙ changed-from-side (results (aggregate_of_table keys aggs) [] es))
    (grouped-turned 1 kind.Table aggs (from_side 0 (results (gives 1 (Group keys)) [] es)))
