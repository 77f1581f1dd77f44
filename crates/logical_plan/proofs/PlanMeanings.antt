-- What the plan of a query means.
use Rattle.std.proofs.Common.{◌≡◌, ◌∙◌, ap, ap₂, sym, refl, ℕ, Bool, true, false, List, [], ◌∷◌, ◌++◌, map}
use Rattle.std.specs.Prelude.{Option, Some, None, if◌then◌else◌, Result, Ok, Err, IfOk}
use Rattle.ksql_types.specs.declared.relation.Kind.{Kind}
use Rattle.ksql_types.specs.declared.relation.Kind.TheVariants.{Stream, Table, Windowed}
use Rattle.ksql_types.specs.declared.relation.Window.{Window}
use Rattle.ksql_place.specs.Ascending.{ascending}
use Rattle.ksql_place.specs.declared.change.Change.{Change}
use Rattle.ksql_expr.specs.declared.typed.Typed.{Typed}
use Rattle.ksql_program.specs.declared.program.Item.{Item}
use Rattle.ksql_program.specs.declared.query.Agg.{Agg}
use Rattle.ksql_program.specs.declared.query.From.{From}
use Rattle.ksql_program.specs.declared.query.From.TheVariants.{One, Join}
use Rattle.ksql_program.specs.declared.query.JoinKind.{JoinKind}
use Rattle.ksql_program.specs.declared.query.Query.{Query}
use Rattle.ksql_program.specs.declared.query.Shape.{Shape}
use Rattle.ksql_program.specs.declared.query.Shape.TheVariants.{Plain, Group}
use Rattle.ksql_nodes.specs.declared.node.Node.{Node}
use Rattle.ksql_nodes.specs.declared.node.Node.TheVariants as node
use Rattle.ksql_nodes.specs.Entries.{Entry, from_side, results, through}
use Rattle.ksql_nodes.specs.Nodes.{gives}
use Rattle.query_meaning.specs.Queries.{after_aggregate, entry_cmp, filter_of, join_over, kind_at, leftmost, partitions_at, query_changes, read_entries, shape_steps, side_at, whole_changes}
use Rattle.query_meaning.specs.Parts.{joined_changes}
use Rattle.query_meaning.proofs.QuerySteps.{changed-from-side, query-steps}
use Rattle.topology.specs.Stages.{is_rekeyed}
use Rattle.lane_laws.proofs.Rekeying.{rekeyed-join}
use Rattle.logical_plan.specs.Plans.{Meant, after_join, after_node, aggregate_plan, aggregated, filter_plan, having_plan, join_plan, left_plan, meaning_step, plan_changes, plan_meaning, plan_of, read_plan, shape_plan}
use Rattle.logical_plan.specs.declared.tree.Plan.{Plan}
use Rattle.logical_plan.specs.declared.tree.Plan.TheVariants as tree
use Rattle.logical_plan.proofs.Folds.{fold-Source, fold-Filter, fold-Rekey, fold-JoinStreamTable, fold-JoinTables, fold-Group, fold-Aggregate, fold-Having, fold-Select}

-- what makes some changes, and begins with a relation
abbrev made : ℕ → List Change → Meant
made number changes = record { changes = changes; leftmost = number; groups = [] }

module _ (items : List Item) (lists : List (List Change)) where
  abbrev meant : Plan → Meant
  meant = plan_meaning items lists

  abbrev lanes : ℕ → ℕ
  lanes number = partitions_at items number

  -- ---- what is read

  source-meant : (number : ℕ) → meant (tree.Source number) ≡ made number (whole_changes items lists number)
  unfolding plan_meaning
  source-meant number = fold-Source Meant (meaning_step items lists) number

  -- the left side of a join, rekeyed or not
  left-meant : (b : Bool) (left : ℕ) (on : Typed) → meant (if b then tree.Rekey on (tree.Source left) else tree.Source left)
      ≡ made left (if b then results (gives (lanes left) (node.Rekey on)) [] (from_side 0 (whole_changes items lists left)) else whole_changes items lists left)
  unfolding plan_meaning
  left-meant true left on = fold-Rekey Meant (meaning_step items lists) on (tree.Source left) ∙ ap (after_node items (node.Rekey on)) (source-meant left)
  left-meant false left on = source-meant left

  -- what the two sides of a join are
  abbrev both : ℕ → ℕ → List Change → List Entry
  both left right lefts = ascending (entry_cmp left right) (from_side 0 lefts ++ from_side 1 (whole_changes items lists right))

  rekeyed-or-not : (b : Bool) (k : JoinKind) (left right : ℕ) (on : Typed) →
      results (gives (lanes left) (node.JoinStreamTable k on (side_at items left) (side_at items right))) []
      (both left right (if b then results (gives (lanes left) (node.Rekey on)) [] (from_side 0 (whole_changes items lists left)) else whole_changes items lists left))
      ≡ results (gives (lanes left) (node.JoinStreamTable k on (side_at items left) (side_at items right))) [] (both left right (whole_changes items lists left))
  rekeyed-or-not true k left right on =
      rekeyed-join (lanes left) left right k on (side_at items left) (side_at items right) (whole_changes items lists left) (whole_changes items lists right)
  rekeyed-or-not false k left right on = refl

  -- a join, whatever its left side is
  join-meant : (k : JoinKind) (left right : ℕ) (on : Typed) (over : Kind) → meant (join_plan items k left right on over)
      ≡ made left (through (map (gives (lanes left)) (join_over items k left right on over)) (both left right (whole_changes items lists left)))
  unfolding plan_meaning
  join-meant k left right on over = by over
    where
      stream : Node
      stream = node.JoinStreamTable k on (side_at items left) (side_at items right)

      tables : Node
      tables = node.JoinTables k (side_at items left) (side_at items right)

      entries : List Entry
      entries = both left right (whole_changes items lists left)

      of-tables : meant (tree.JoinTables k (tree.Source left) (tree.Source right)) ≡ made left (through (gives (lanes left) tables ∷ []) entries)
      of-tables =
          fold-JoinTables Meant (meaning_step items lists) k (tree.Source left) (tree.Source right)
          ∙ ap₂ (λ (l r : Meant). after_join items (node.JoinTables k (side_at items l.leftmost) (side_at items r.leftmost)) l r) (source-meant left) (source-meant right)
          ∙ ap (made left) (sym (changed-from-side (results (gives (lanes left) tables) [] entries)))

      by : (over : Kind) → meant (join_plan items k left right on over) ≡ made left (through (map (gives (lanes left)) (join_over items k left right on over)) entries)
      by Stream =
          fold-JoinStreamTable Meant (meaning_step items lists) k on (left_plan items k left right on) (tree.Source right)
          ∙ ap₂ (λ (l r : Meant). after_join items (node.JoinStreamTable k on (side_at items l.leftmost) (side_at items r.leftmost)) l r)
          (left-meant (is_rekeyed items (Join k left right on)) left on) (source-meant right)
          ∙ ap (made left) (rekeyed-or-not (is_rekeyed items (Join k left right on)) k left right on)
          ∙ ap (made left) (sym (changed-from-side (results (gives (lanes left) stream) [] entries)))
      by Table = of-tables
      by Windowed = of-tables

  read-meant : (f : From) → meant (read_plan items f) ≡ made (leftmost f) (joined_changes items lists f)
  unfolding read_entries
  read-meant (One number) = source-meant number ∙ ap (made number) (sym (changed-from-side (whole_changes items lists number)))
  read-meant (Join k left right on) = join-meant k left right on (kind_at items left)

  -- ---- the steps

  module _ (number : ℕ) where
    abbrev after : List Node → List Change → List Change
    after nodes changes = through (map (gives (lanes number)) nodes) (from_side 0 changes)

    filter-meant : (filter : Option Typed) (p : Plan) (changes : List Change) → meant p ≡ made number changes → meant (filter_plan filter p) ≡ made number (after (filter_of filter) changes)
    unfolding plan_meaning
    filter-meant None p changes is = is ∙ ap (made number) (sym (changed-from-side changes))
    filter-meant (Some on) p changes is =
        fold-Filter Meant (meaning_step items lists) on p ∙ ap (after_node items (node.Filter on)) is
        ∙ ap (made number) (sym (changed-from-side (results (gives (lanes number) (node.Filter on)) [] (from_side 0 changes))))

    select-meant : (keys values : List Typed) (out : ℕ) (p : Plan) (changes : List Change) → meant p ≡ made number changes →
        meant (tree.Select keys values out p) ≡ made number (after (node.Select keys values ∷ []) changes)
    unfolding plan_meaning
    select-meant keys values out p changes is =
        fold-Select Meant (meaning_step items lists) keys values out p ∙ ap (after_node items (node.Select keys values)) is
        ∙ ap (made number) (sym (changed-from-side (results (gives (lanes number) (node.Select keys values)) [] (from_side 0 changes))))

    -- HAVING, if any, and the items
    items-meant : (having : Option Typed) (values : List Typed) (out : ℕ) (p : Plan) (changes : List Change) → meant p ≡ made number changes →
        meant (tree.Select [] values out (having_plan having p)) ≡ made number (after (after_aggregate having values) changes)
    unfolding plan_meaning
    items-meant None values out p changes is = select-meant [] values out p changes is
    items-meant (Some on) values out p changes is =
        select-meant [] values out (tree.Having on p) (results (gives (lanes number) (node.Having on)) [] (from_side 0 changes))
        (fold-Having Meant (meaning_step items lists) on p ∙ ap (after_node items (node.Having on)) is)

    -- groups and their aggregates
    aggregate-meant : (over : Kind) (keys : List Typed) (aggs : List Agg) (window : Option Window) (p : Plan) (changes : List Change) → meant p ≡ made number changes →
        meant (aggregate_plan over keys aggs window p)
        ≡ made number (aggregated (lanes number) over aggs window (record { changes = changes; leftmost = number; groups = keys }))
    unfolding plan_meaning
    aggregate-meant over keys aggs window p changes is =
        fold-Aggregate Meant (meaning_step items lists) over aggs window (tree.Group keys p)
        ∙ ap (λ (m : Meant). made m.leftmost (aggregated (lanes m.leftmost) over aggs window m))
        (fold-Group Meant (meaning_step items lists) keys p ∙ ap (λ (m : Meant). record { changes = m.changes; leftmost = m.leftmost; groups = keys }) is)

    shape-meant : (over : Kind) (out : ℕ) (shape : Shape) (p : Plan) (changes : List Change) → meant p ≡ made number changes →
        meant (shape_plan over out shape p) ≡ made number (through (shape_steps (lanes number) over shape) (from_side 0 changes))
    shape-meant over out (Plain keys values) p changes is = select-meant keys values out p changes is
    shape-meant Stream out (Group keys window aggs having values) p changes is =
        items-meant having values out (aggregate_plan Stream keys aggs window p) _ (aggregate-meant Stream keys aggs window p changes is)
    shape-meant Table out (Group keys window aggs having values) p changes is =
        items-meant having values out (aggregate_plan Table keys aggs window p) _ (aggregate-meant Table keys aggs window p changes is)
    shape-meant Windowed out (Group keys window aggs having values) p changes is =
        items-meant having values out (aggregate_plan Windowed keys aggs window p) _ (aggregate-meant Windowed keys aggs window p changes is)

  -- the plan of a query means what the query means
  pub plan-meant : (q : Query) → plan_changes items lists (plan_of items q) ≡ query_changes items lists q
  unfolding plan_of
  plan-meant q =
      ap (λ (m : Meant). m.changes)
      (shape-meant (leftmost q.from) (kind_at items (leftmost q.from)) q.out.number q.shape (filter_plan q.filter (read_plan items q.from)) _
      (filter-meant (leftmost q.from) q.filter (read_plan items q.from) (joined_changes items lists q.from) (read-meant q.from)))
      ∙ sym (query-steps items lists q)

-- the plan of a query, from what each step made
pub plan-made : (items : List Item) (q : Query) (number : ℕ) (over : Kind) (read filtered : Plan) → number ≡ leftmost q.from → over ≡ kind_at items number →
    read ≡ read_plan items q.from → filtered ≡ filter_plan q.filter read → shape_plan over q.out.number q.shape filtered ≡ plan_of items q
unfolding plan_of
plan-made items q number over read filtered is_number is_over is_read is_filtered =
    ap₂ (λ (o : Kind) (p : Plan). shape_plan o q.out.number q.shape p) (is_over ∙ ap (kind_at items) is_number) (is_filtered ∙ ap (filter_plan q.filter) is_read)

pub plan-means : {E : Type 0} (r : Result Plan E) (items : List Item) (q : Query) → IfOk r (λ p. p ≡ plan_of items q) →
    IfOk r (λ p. (lists : List (List Change)) → plan_changes items lists p ≡ query_changes items lists q)
plan-means (Ok p) items q is = λ lists. ap (plan_changes items lists) is ∙ plan-meant items lists q
plan-means (Err e) items q is = tt
