-- What the stages of a query read: relations as what they are, and repartition topics that are written.
use Rattle.std.proofs.Common.{◌≡◌, ◌∙◌, ap, refl, sym, subst, ℕ, List, [], ◌∷◌, ◌++◌, append_assoc, Bool, true, false, inl, true≢false}
use Rattle.std.specs.Prelude.{if◌then◌else◌, Option, Some, None, option_map, unwrap_or}
use Rattle.std.specs.List.{AllByRecursion}
use Rattle.ksql_types.specs.declared.relation.Kind.{Kind}
use Rattle.ksql_types.specs.declared.relation.Kind.TheVariants as kind
use Rattle.ksql_types.specs.declared.relation.Relation.{Relation}
use Rattle.ksql_types.specs.declared.value.SqlType.{SqlType}
use Rattle.ksql_expr.specs.declared.typed.Typed.{Typed}
use Rattle.ksql_program.specs.Program.{relation_at}
use Rattle.ksql_program.specs.Sound.{IsSoundQuery, Reads, joined as of_join, one as of_one, query as of_query}
use Rattle.ksql_program.specs.declared.program.Item.{Item}
use Rattle.ksql_program.specs.declared.query.From.{From}
use Rattle.ksql_program.specs.declared.query.From.TheVariants.{One, Join}
use Rattle.ksql_program.specs.declared.query.JoinKind.{JoinKind}
use Rattle.ksql_program.specs.declared.query.Query.{Query}
use Rattle.ksql_program.specs.declared.query.Shape.{Shape}
use Rattle.ksql_program.specs.declared.query.Shape.TheVariants as shape
use Rattle.ksql_nodes.specs.declared.node.Node.{Node}
use Rattle.ksql_nodes.specs.declared.node.Node.TheVariants as node
use Rattle.ksql_nodes.proofs.Lists.{All-append}
use Rattle.query_meaning.specs.Queries.{filter_of, join_of, join_over, kind_at, lanes_of}
use Rattle.meaning_laws.proofs.EachRelation.{AreAmong}
use Rattle.meaning_laws.proofs.RelationTables.{reads-unwindowed}
use Rattle.topology.specs.Stages.{aggregate_nodes, are_own_key, input_nodes, inputs_of, is_rekeyed, rekey_from, rekey_stages, shape_stages, stages_of, table_of}
use Rattle.topology.specs.Topologies.{cuts_of}
use Rattle.topology.specs.declared.stage.CutName.{CutName}
use Rattle.topology.specs.declared.stage.CutName.TheVariants as cut
use Rattle.topology.specs.declared.stage.Link.{Link}
use Rattle.topology.specs.declared.stage.Link.TheVariants as link
use Rattle.topology.specs.declared.stage.Stage.{Stage}
use Rattle.sending_laws.proofs.CutNames.{IsIn, back-in, front-in, if-in}
use Rattle.sending_laws.proofs.GroupStages.{cut_stages, whole_stages}
use Rattle.task_core.specs.Reading.{kind_read}

module _ (items : List Item) where
  -- nodes read this on a side: a relation as its kind, or a repartition topic that is written
  abbrev pub IsReadBy : List CutName → List Node → ℕ → Link → Type 0
  IsReadBy cuts nodes side (link.Relation number) = (r : Relation) × (relation_at items number ≡ Some r) × (kind_read nodes side ≡ r.kind)
  IsReadBy cuts nodes side (link.Cut name relation) = IsIn name cuts

  abbrev pub AreDistinct : Link → Link → Type 0
  AreDistinct (link.Relation a) (link.Relation b) = a ≡ b → ⊥
  AreDistinct (link.Cut name relation) (link.Relation b) = Unit {0}
  AreDistinct a (link.Cut name relation) = ⊥

  -- nodes read one topic, or two
  abbrev pub ReadsWell : List CutName → List Node → List Link → Type 0
  ReadsWell cuts nodes [] = ⊥
  ReadsWell cuts nodes (a ∷ []) = IsReadBy cuts nodes 0 a
  ReadsWell cuts nodes (a ∷ b ∷ []) = IsReadBy cuts nodes 0 a × IsReadBy cuts nodes 1 b × AreDistinct a b
  ReadsWell cuts nodes (a ∷ b ∷ c ∷ more) = ⊥

  -- ---- the first nodes of a query

  -- nodes that read streams
  abbrev ReadsStreams : List Node → Type 0
  ReadsStreams nodes = (side : ℕ) → kind_read nodes side ≡ kind.Stream

  filters-read : (on : Option Typed) (more : List Node) → ReadsStreams more → ReadsStreams (filter_of on ++ more)
  filters-read None more reads side = reads side
  filters-read (Some e) more reads side = refl

  module _ (before : List Item) (among : AreAmong before items) where
    kind-is : (number : ℕ) (r : Relation) → relation_at before number ≡ Some r → kind_at items number ≡ r.kind
    kind-is number r at = ap (λ (o : Option Relation). unwrap_or (option_map (λ x. x.kind) o) kind.Stream) (among number r at)

    module _ (cuts : List CutName) (on : Option Typed) (more : List Node) (last : ReadsStreams more) where
      one-reads : (number : ℕ) (r : Relation) → relation_at before number ≡ Some r → (over : Kind) → r.kind ≡ over → (over ≡ kind.Windowed → ⊥) →
          ReadsWell cuts ((table_of items (One number) ++ ([] ++ filter_of on)) ++ more) (link.Relation number ∷ [])
      one-reads number r at kind.Stream is un =
          let nodes : table_of items (One number) ≡ [] = rw (kind-is number r at, is) refl in
          (r, among number r at, ap (λ xs. kind_read ((xs ++ ([] ++ filter_of on)) ++ more) 0) nodes ∙ filters-read on more last 0 ∙ sym is)
      one-reads number r at kind.Table is un =
          let nodes : table_of items (One number) ≡ node.Table number ∷ [] = rw (kind-is number r at, is) refl in
          (r, among number r at, ap (λ xs. kind_read ((xs ++ ([] ++ filter_of on)) ++ more) 0) nodes ∙ sym is)
      one-reads number r at kind.Windowed is un = absurd (un refl)

      module _ (k : JoinKind) (left right : ℕ) (expression : Typed) (l r : Relation) (at_left : relation_at before left ≡ Some l) (at_right : relation_at before right ≡ Some r)
          (apart : left ≡ right → ⊥) (table : r.kind ≡ kind.Table) where
        abbrev joined_nodes : Kind → List Node
        joined_nodes over = ([] ++ (join_over items k left right expression over ++ filter_of on)) ++ more

        over-reads : (over : Kind) → l.kind ≡ over → (over ≡ kind.Windowed → ⊥) → (again : Bool) → (again ≡ true → IsIn cut.Left cuts) →
            ReadsWell cuts (joined_nodes over) ((if again then link.Cut cut.Left left else link.Relation left) ∷ link.Relation right ∷ [])
        over-reads kind.Stream is un true rekeyed = (rekeyed refl, (r, among right r at_right, sym table), tt)
        over-reads kind.Stream is un false rekeyed = ((l, among left l at_left, sym is), (r, among right r at_right, sym table), apart)
        over-reads kind.Table is un true rekeyed = (rekeyed refl, (r, among right r at_right, sym table), tt)
        over-reads kind.Table is un false rekeyed = ((l, among left l at_left, sym is), (r, among right r at_right, sym table), apart)
        over-reads kind.Windowed is un again rekeyed = absurd (un refl)

      -- the nodes up to WHERE read what the query reads
      input-reads : (from : From) (types : List (Option SqlType)) (l : Relation) → Reads before from types l → (is_rekeyed items from ≡ true → IsIn cut.Left cuts) →
          ReadsWell cuts ((table_of items from ++ (join_of items from ++ filter_of on)) ++ more) (inputs_of items from)
      input-reads (One number) types l (of_one at unwindowed) rekeyed = one-reads number l at l.kind refl unwindowed
      input-reads (Join k left right e) types l (of_join {r = r} at_left at_right apart table alike joins) rekeyed =
          subst (λ over. ReadsWell cuts (([] ++ (join_over items k left right e over ++ filter_of on)) ++ more) (inputs_of items (Join k left right e))) (sym (kind-is left l at_left))
          (over-reads k left right e l r at_left at_right apart table l.kind refl (reads-unwindowed before (of_join at_left at_right apart table alike joins)) (is_rekeyed items (Join k left right e)) rekeyed)

    -- ---- the stages of a query

    abbrev StageReads : List CutName → Stage → Type 0
    StageReads cuts s = ReadsWell cuts s.nodes s.inputs

    rekeyed-stream : (k : JoinKind) (left right : ℕ) (on : Typed) (over : Kind) → kind_at items left ≡ over → is_rekeyed items (Join k left right on) ≡ true → over ≡ kind.Stream
    rekeyed-stream k left right on kind.Stream is rekeyed = refl
    rekeyed-stream k left right on kind.Table is rekeyed = let none : is_rekeyed items (Join k left right on) ≡ false = rw is refl in absurd (true≢false (sym rekeyed ∙ none))
    rekeyed-stream k left right on kind.Windowed is rekeyed = let none : is_rekeyed items (Join k left right on) ≡ false = rw is refl in absurd (true≢false (sym rekeyed ∙ none))

    rekeys-read : (cuts : List CutName) (q : Query) (from : From) (types : List (Option SqlType)) (l : Relation) → Reads before from types l → AllByRecursion (StageReads cuts) (rekey_from items q from)
    rekeys-read cuts q (One number) types l reads = tt
    rekeys-read cuts q (Join k left right on) types l (of_join {r = r} at_left at_right apart table alike joins) = by (is_rekeyed items (Join k left right on)) refl
      where
        by : (again : Bool) → is_rekeyed items (Join k left right on) ≡ again →
            AllByRecursion (StageReads cuts) (if again then record { inputs = link.Relation left ∷ []; nodes = node.Rekey on ∷ []; partitions = lanes_of items q; output = link.Cut cut.Left left } ∷ [] else [])
        by true is = ((l, among left l at_left, sym (rekeyed-stream k left right on l.kind (kind-is left l at_left) is)), tt)
        by false is = tt

    module _ (cuts : List CutName) (q : Query) (types : List (Option SqlType)) (l : Relation) (reads : Reads before q.from types l) (rekeyed : is_rekeyed items q.from ≡ true → IsIn cut.Left cuts) where
      shape-reads : (form : Shape) → (IsIn cut.Group (cuts_of (shape_stages items q form)) → IsIn cut.Group cuts) → AllByRecursion (StageReads cuts) (shape_stages items q form)
      shape-reads (shape.Plain keys values) group = (input-reads cuts q.filter (node.Select keys values ∷ []) (λ side. refl) q.from types l reads rekeyed, tt)
      shape-reads (shape.Group keys window aggs having values) group = by (are_own_key items q.from keys) group
        where
          rest : List Node
          rest = aggregate_nodes items q (shape.Group keys window aggs having values)

          by : (own : Bool) → (IsIn cut.Group (cuts_of (if own then whole_stages items q keys rest else cut_stages items q keys rest)) → IsIn cut.Group cuts) →
              AllByRecursion (StageReads cuts) (if own then whole_stages items q keys rest else cut_stages items q keys rest)
          by true group = (
            subst (λ nodes. ReadsWell cuts nodes (inputs_of items q.from)) (sym (append_assoc (input_nodes items q) (node.Group keys ∷ []) rest))
                (input-reads cuts q.filter (node.Group keys ∷ rest) (λ side. refl) q.from types l reads rekeyed),
            tt,
          )
          by false group = (input-reads cuts q.filter (node.Group keys ∷ []) (λ side. refl) q.from types l reads rekeyed, (group (inl refl), tt))

  rekey-in : (q : Query) (from : From) → is_rekeyed items from ≡ true → IsIn cut.Left (cuts_of (rekey_from items q from))
  rekey-in q (One number) is = absurd (true≢false (sym is))
  rekey-in q (Join k left right on) is = if-in cut.Left (is_rekeyed items (Join k left right on)) true is _ _ (inl refl)

  -- each stage of a sound query reads what is written, and relations as what they are
  pub stages-read : (before : List Item) → AreAmong before items → (q : Query) → IsSoundQuery before q →
      AllByRecursion (λ (s : Stage). ReadsWell (cuts_of (stages_of items q)) s.nodes s.inputs) (stages_of items q)
  unfolding stages_of
  stages-read before among q (of_query {types = types} {left = l} reads _ _ _ _) =
      let rekeys : List Stage = rekey_stages items q in
      let shapes : List Stage = shape_stages items q q.shape in
      let cuts : List CutName = cuts_of (rekeys ++ shapes) in
      All-append (λ (s : Stage). ReadsWell cuts s.nodes s.inputs) rekeys shapes
      (rekeys-read before among cuts q q.from types l reads)
      (shape-reads before among cuts q types l reads (λ is. front-in cut.Left rekeys shapes (rekey-in q q.from is)) q.shape (back-in cut.Group rekeys shapes))
