-- Worked examples, by evaluation.
use Rattle.std.proofs.Common.{◌≡◌, ◌∙◌, ap, refl, sym, ℕ, zero, List, [], ◌∷◌}
use Rattle.std.specs.Prelude.{Bool, true, false, Option, Some, None, pos, codes, map}
use Rattle.std.specs.Int.{int_wrap}
use Rattle.std.specs.List.{range_with_len}
use Rattle.std.proofs.lemmas.Bool.{false≢true}
use Rattle.ksql_types.specs.Lane.{hash}
use Rattle.ksql_types.specs.declared.relation.Format.TheVariants.{Json}
use Rattle.ksql_types.specs.declared.relation.Kind.{Kind}
use Rattle.ksql_types.specs.declared.relation.Kind.TheVariants.{Stream, Table}
use Rattle.ksql_types.specs.declared.relation.Relation.{Relation as OneRelation}
use Rattle.ksql_types.specs.declared.value.SqlType.{SqlType}
use Rattle.ksql_types.specs.declared.value.SqlType.TheVariants as sql
use Rattle.ksql_types.specs.declared.value.Value.{Value}
use Rattle.ksql_types.specs.declared.value.Value.TheVariants.{Big, Txt}
use Rattle.ksql_place.specs.Said.{said}
use Rattle.ksql_place.specs.declared.change.Body.{Body}
use Rattle.ksql_place.specs.declared.change.Body.TheVariants.{Said, Turned}
use Rattle.ksql_place.specs.declared.change.Change.{Change}
use Rattle.ksql_place.specs.declared.change.Decoded.TheVariants.{Good}
use Rattle.ksql_place.specs.declared.change.SourceRecord.{SourceRecord}
use Rattle.ksql_place.specs.declared.stamp.Stamp.{Stamp}
use Rattle.ksql_expr.specs.Value.{value_of, node_value, cell}
use Rattle.ksql_expr.specs.declared.typed.AggFun.TheVariants.{CountAll}
use Rattle.ksql_expr.specs.declared.typed.Typed.{Typed, fold-roll-Typed}
use Rattle.ksql_expr.specs.declared.typed.TypedNode.{TypedNode, fold-TypedNode, fold-roll-TypedNode, out-TypedNode}
use Rattle.ksql_expr.specs.declared.typed.TypedWhen.{TypedWhen}
use Rattle.ksql_expr.specs.declared.typed.TypedNode.TheOpen.{TypedNode-F}
use Rattle.ksql_expr.specs.declared.typed.TypedNode.TheVariants as form
use Rattle.grouped_expressions.specs.Same.{same_form}
use Rattle.grouped_expressions.proofs.Equality.{decided}
use Rattle.ksql_program.specs.declared.program.Item.{Item}
use Rattle.ksql_program.specs.declared.program.Item.TheVariants.{Declared, Started}
use Rattle.ksql_program.specs.declared.query.Agg.{Agg}
use Rattle.ksql_program.specs.declared.query.From.{From}
use Rattle.ksql_program.specs.declared.query.From.TheVariants.{One, Join}
use Rattle.ksql_program.specs.declared.query.JoinKind.TheVariants.{Inner}
use Rattle.ksql_program.specs.declared.query.Query.{Query}
use Rattle.ksql_program.specs.declared.query.Shape.{Shape}
use Rattle.ksql_program.specs.declared.query.Shape.TheVariants.{Plain, Group}
use Rattle.ksql_nodes.specs.declared.node.Node.{Node}
use Rattle.ksql_nodes.specs.declared.node.Node.TheVariants as node
use Rattle.ksql_nodes.specs.declared.node.Side.{Side}
use Rattle.ksql_nodes.specs.Entries.{is_same_key}
use Rattle.ksql_nodes.specs.Nodes.{gives}
use Rattle.topology.specs.declared.stage.CutName.TheVariants as cut
use Rattle.topology.specs.declared.stage.Link.TheVariants.{Relation, Cut}
use Rattle.topology.specs.Contents.{contents, contents_from}
use Rattle.topology.specs.Stages.{stages_of}
use Rattle.topology.specs.Tasks.{chain_of, depth_after, tasks_of}
use Rattle.topology.specs.Topologies.{cut_topics, subs_of, topology_of}

-- ---- parts of programs

-- a column of a row
abbrev cell_at : SqlType → ℕ → Typed
cell_at ty i = record { ty = Some ty; node = form.Column i }

cell-value : (row : List Value) (time : ℕ) (ty : SqlType) (i : ℕ) → value_of row time (cell_at ty i) ≡ cell row i
unfolding value_of
cell-value row time ty i =
    fold-roll-Typed (Option SqlType → Value) Value (Value × Value) (node_value row time) (λ e. e.node e.ty) (λ w. (w.cond, w.result)) (record { ty = Some ty; node = form.Column i })
    ∙ ap (λ (n : TypedNode). fold-TypedNode (Option SqlType → Value) Value (Value × Value) (node_value row time) (λ e. e.node e.ty) (λ w. (w.cond, w.result)) n (Some ty))
    (sym (form.rolls-Column i))
    ∙ ap (λ (made : Option SqlType → Value). made (Some ty))
    (fold-roll-TypedNode (Option SqlType → Value) Value (Value × Value) (node_value row time) (λ e. e.node e.ty) (λ w. (w.cond, w.result)) (TypedNode-F.Column i))

-- whether a form is the first column
is_first : TypedNode-F TypedNode Typed TypedWhen → Bool
is_first (TypedNode-F.Column zero) = true
is_first _ = false

-- the second column isn't the first
second-column : same_form (form.Column 1) (form.Column 0) ≡ false
unfolding is_first
second-column =
    decided false (form.Column 1) (form.Column 0)
    ((λ none. absurd (false≢true none)), (λ same. ap is_first (sym (form.outs-Column 1) ∙ ap out-TypedNode same ∙ form.outs-Column 0)))

-- a relation with two partitions, a text as its key and one value column
abbrev relation : ℕ → List ℕ → Kind → List ℕ → List ℕ → SqlType → OneRelation
relation number name kind key value ty = record {
  number = number;
  name = name;
  kind = kind;
  schema = record { keys = record { name = key; ty = sql.Text } ∷ []; values = record { name = value; ty = ty } ∷ [] };
  topic = name;
  partitions = 2;
  format = Json;
  declared = true;
}

abbrev query : From → Shape → OneRelation → Query
query from shape out = record { from = from; filter = None; shape = shape; out = record out { declared = false } }

abbrev text_at : ℕ → Typed
text_at i = cell_at sql.Text i

abbrev count_all : Agg
count_all = record { fun = CountAll; arg = None }

-- ---- records and changes

abbrev text : ℕ → Value
text letter = Txt (letter ∷ [])

-- the stamp of the first record of a partition in the first feed
abbrev stamp : ℕ → ℕ → ℕ → Stamp
stamp topic part time = record { feed = 1; high = time; topic = topic; part = part; offset = 0 }

abbrev fed : ℕ → ℕ → ℕ → List Value → List Value → SourceRecord
fed topic part time key row = record { stamp = stamp topic part time; time = time; key = key; value = Good row }

-- what this record causes
abbrev caused : ℕ → ℕ → ℕ → List Value → Body → Change
caused topic part time key body = record { place = record { stamp = stamp topic part time; path = [] }; time = time; key = key; span = None; body = body }

-- the first n partitions of a topic
abbrev parts : ℕ → List Item → List SourceRecord → ℕ → List (List Change)
parts count items order topic = map (contents items (topology_of items) order topic) (range_with_len 0 count)

-- ---- groups

-- views of pages, and how many each page has
abbrev views : OneRelation
views = record (relation 0 (codes "K") Stream (codes "ID") (codes "PAGE") sql.Text) { topic = codes "k" }

abbrev counting : Query
counting =
    query (One 0) (Group (text_at 1 ∷ []) None (count_all ∷ []) None (cell_at sql.Big 1 ∷ []))
    (relation 1 (codes "P") Table (codes "PAGE") (codes "C") sql.Big)

abbrev page_counts : List Item
page_counts = Declared views ∷ Started counting ∷ []

abbrev grouping : List Node
grouping = node.Group (text_at 1 ∷ []) ∷ []

abbrev aggregating : List Node
aggregating = node.Aggregate Stream (count_all ∷ []) None ∷ node.Select [] (cell_at sql.Big 1 ∷ []) ∷ []

-- the groups aren't by the key, so there is a repartition topic before the aggregate
pub groups_are_cut :
    stages_of page_counts counting
    ≡ record { inputs = Relation 0 ∷ []; nodes = grouping; partitions = 2; output = Cut cut.Group 0 }
    ∷ record { inputs = Cut cut.Group 0 ∷ []; nodes = aggregating; partitions = 2; output = Relation 1 } ∷ []
unfolding stages_of
groups_are_cut = simp second-column refl

pub groups_have_two_sub_topologies :
    topology_of page_counts
    ≡ record {
      topics = record { number = 0; name = codes "k"; partitions = 2; writer = None }
          ∷ record { number = 1; name = codes "P"; partitions = 2; writer = Some (record { sub = 1; partitions = 2 }) }
          ∷ record { number = 2; name = codes "ksql-P-group-repartition"; partitions = 2; writer = Some (record { sub = 0; partitions = 2 }) } ∷ [];
      subs = record { number = 0; query = 1; partitions = 2; inputs = record { topic = 0; relation = 0; keys = 1 } ∷ []; nodes = grouping; output = 2 }
          ∷ record { number = 1; query = 1; partitions = 2; inputs = record { topic = 2; relation = 0; keys = 0 } ∷ []; nodes = aggregating; output = 1 } ∷ [];
    }
unfolding stages_of subs_of cut_topics
groups_have_two_sub_topologies = simp second-column refl

pub groups_have_a_chain_of_two : chain_of (topology_of page_counts).subs ≡ 2
unfolding stages_of subs_of depth_after
groups_have_a_chain_of_two = simp second-column refl

pub groups_have_four_tasks :
    tasks_of (topology_of page_counts).subs
    ≡ record { sub = 0; part = 0 } ∷ record { sub = 0; part = 1 } ∷ record { sub = 1; part = 0 } ∷ record { sub = 1; part = 1 } ∷ []
unfolding stages_of subs_of
groups_have_four_tasks = simp second-column refl

-- two views of the page x, by a in partition 1 and then by b in partition 0
abbrev viewed : List SourceRecord
viewed = fed 0 1 1 (text 97 ∷ []) (text 120 ∷ []) ∷ fed 0 0 2 (text 98 ∷ []) (text 120 ∷ []) ∷ []

-- both go to the partition of x, which is 0
pub views_are_sent_to_their_pages :
    parts 2 page_counts viewed 2
    ≡ (caused 0 1 1 (text 120 ∷ []) (Said (text 97 ∷ text 120 ∷ [])) ∷ caused 0 0 2 (text 120 ∷ []) (Said (text 98 ∷ text 120 ∷ [])) ∷ []) ∷ [] ∷ []
unfolding stages_of subs_of cut_topics contents_from said gives is_same_key hash
views_are_sent_to_their_pages = simp (second-column, cell-value) refl

abbrev counted : ℕ → List Value
counted n = Big (pos n) ∷ []

-- and are counted there
pub views_are_counted :
    parts 2 page_counts viewed 1
    ≡ (caused 0 1 1 (text 120 ∷ []) (Turned None (Some (counted 1))) ∷ caused 0 0 2 (text 120 ∷ []) (Turned (Some (counted 1)) (Some (counted 2))) ∷ []) ∷ [] ∷ []
unfolding stages_of subs_of cut_topics contents_from said gives is_same_key int_wrap hash
views_are_counted = simp (second-column, cell-value) refl

-- ---- a join

abbrev names : OneRelation
names = relation 1 (codes "N") Table (codes "PAGE") (codes "NAME") sql.Text

-- views are joined with the names of their pages
abbrev naming : Query
naming = query (Join Inner 0 1 (text_at 1)) (Plain (text_at 1 ∷ []) (text_at 3 ∷ [])) (relation 2 (codes "J") Stream (codes "PAGE") (codes "NAME") sql.Text)

abbrev page_names : List Item
page_names = Declared views ∷ Declared names ∷ Started naming ∷ []

abbrev side : ℕ → Side
side number = record { relation = number; columns = 2 }

-- the join isn't by the stream's key, so the stream is rekeyed
pub a_stream_is_rekeyed :
    stages_of page_names naming
    ≡ record { inputs = Relation 0 ∷ []; nodes = node.Rekey (text_at 1) ∷ []; partitions = 2; output = Cut cut.Left 0 }
    ∷ record {
      inputs = Cut cut.Left 0 ∷ Relation 1 ∷ [];
      nodes = node.JoinStreamTable Inner (text_at 1) (side 0) (side 1) ∷ node.Select (text_at 1 ∷ []) (text_at 3 ∷ []) ∷ [];
      partitions = 2;
      output = Relation 2;
    } ∷ []
unfolding stages_of
a_stream_is_rekeyed = simp second-column refl

-- x, in partition 0, is named n, and then a, in partition 1, views it
abbrev named : List SourceRecord
named = fed 1 0 1 (text 120 ∷ []) (text 110 ∷ []) ∷ fed 0 1 2 (text 97 ∷ []) (text 120 ∷ []) ∷ []

-- the view goes to the partition of x
pub a_view_is_sent_to_its_page : parts 2 page_names named 3 ≡ (caused 0 1 2 (text 120 ∷ []) (Said (text 97 ∷ text 120 ∷ [])) ∷ []) ∷ [] ∷ []
unfolding stages_of subs_of cut_topics contents_from said gives is_same_key hash
a_view_is_sent_to_its_page = simp (second-column, cell-value) refl

-- and meets its name there
pub a_view_meets_its_name : parts 2 page_names named 2 ≡ (caused 0 1 2 (text 120 ∷ []) (Said (text 110 ∷ [])) ∷ []) ∷ [] ∷ []
unfolding stages_of subs_of cut_topics contents_from said gives is_same_key hash
a_view_meets_its_name = simp (second-column, cell-value) refl

-- views are joined with the counts of their pages
abbrev meeting : Query
meeting = query (Join Inner 0 1 (text_at 1)) (Plain (text_at 1 ∷ []) (cell_at sql.Big 3 ∷ [])) (relation 2 (codes "J") Stream (codes "PAGE") (codes "C") sql.Big)

abbrev views_and_counts : List Item
views_and_counts = Declared views ∷ Started counting ∷ Started meeting ∷ []

-- a rekeyed view comes before the count that it causes, as the stream comes before the table
pub a_view_meets_the_count_before_it : parts 2 views_and_counts viewed 2 ≡ (caused 0 0 2 (text 120 ∷ []) (Said (counted 1)) ∷ []) ∷ [] ∷ []
unfolding stages_of subs_of cut_topics contents_from said gives is_same_key int_wrap hash
a_view_meets_the_count_before_it = simp (second-column, cell-value) refl

-- ---- another number of partitions

-- a result with two partitions of a stream with three
abbrev copying : Query
copying = query (One 0) (Plain (text_at 0 ∷ []) (text_at 1 ∷ [])) (relation 1 (codes "C") Stream (codes "ID") (codes "PAGE") sql.Text)

abbrev copies : List Item
copies = Declared (record views { partitions = 3 }) ∷ Started copying ∷ []

-- records of a in partition 1, without a key in partition 2, and of c in partition 0
abbrev in_three : List SourceRecord
in_three = fed 0 1 1 (text 97 ∷ []) (text 120 ∷ []) ∷ fed 0 2 2 [] (text 120 ∷ []) ∷ fed 0 0 3 (text 99 ∷ []) (text 120 ∷ []) ∷ []

-- of two partitions a and c are in 1, and what has no key is in 0 since its record is in 2
pub each_copy_is_in_its_partition :
    parts 2 copies in_three 1
    ≡ (caused 0 2 2 [] (Said (text 120 ∷ [])) ∷ []) ∷ (caused 0 1 1 (text 97 ∷ []) (Said (text 120 ∷ [])) ∷ caused 0 0 3 (text 99 ∷ []) (Said (text 120 ∷ [])) ∷ []) ∷ []
unfolding stages_of subs_of cut_topics contents_from said gives is_same_key hash
each_copy_is_in_its_partition = simp cell-value refl
