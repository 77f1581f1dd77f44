-- The text that explains a topology: a line with its numbers, the lines of each sub-topology, and a last line.
use Rattle.std.specs.Prelude.{ℕ, List, [], ◌++◌, length, flat_map, codes, decimal, Option, Some, None, slice_get}
use Rattle.std.specs.Option.{option_map_or}
use Rattle.ksql_types.specs.declared.relation.Window.{Window}
use Rattle.ksql_types.specs.declared.topic.TopicSpec.{TopicSpec}
use Rattle.ksql_program.specs.Program.{relation_at}
use Rattle.ksql_program.specs.declared.program.Item.{Item}
use Rattle.ksql_nodes.specs.declared.node.Node.{Node}
use Rattle.ksql_nodes.specs.declared.node.Node.TheVariants as node
use Rattle.topology.specs.declared.topology.Sub.{Sub}
use Rattle.topology.specs.declared.topology.SubInput.{SubInput}
use Rattle.topology.specs.declared.topology.Topology.{Topology}
use Rattle.topology.specs.Tasks.{chain_of, tasks_of}

-- ---- names

-- the name of a query, by the number of its item; the empty text if there is none
abbrev pub query_name : List Item → ℕ → List ℕ
query_name items number = option_map_or (λ relation. relation.name) (relation_at items number) []

-- the name of a topic, by its number; the empty text if there is none
abbrev pub topic_name : List TopicSpec → ℕ → List ℕ
topic_name topics number = option_map_or (λ topic. topic.name) (slice_get topics number) []

-- the changelog topic of a query's store
unfoldable pub changelog_name : List ℕ → List ℕ → List ℕ
changelog_name query store = codes "ksql-" ++ (query ++ (codes "-" ++ (store ++ codes "-changelog")))

-- ---- nodes

-- the line of a node without a store: its kind
unfoldable pub node_line : List ℕ → List ℕ
node_line kind = codes "node " ++ (kind ++ codes "\n")

-- the line of a node with a store: its kind and the store's changelog topic
unfoldable pub stored_line : List ℕ → List ℕ → List ℕ → List ℕ
stored_line query kind store = codes "node " ++ (kind ++ (codes " " ++ (changelog_name query store ++ codes "\n")))

-- the line of a table that a query reads, with its rows in the store of its side
abbrev pub table_line : List ℕ → List ℕ → List ℕ
table_line query side = stored_line query (codes "table") side

-- the name of an aggregate, with a window and without
abbrev pub aggregate_kind : Option Window → List ℕ
aggregate_kind None = codes "aggregate"
aggregate_kind (Some window) = codes "window-aggregate"

-- the lines of a join, after those of the table on its right side
unfoldable pub join_lines : List ℕ → List ℕ → List ℕ
join_lines query kind = table_line query (codes "right") ++ node_line kind

-- the lines of a node of a query; a join of two tables also has those of the table on its left side
unfoldable pub node_lines : List ℕ → Node → List ℕ
node_lines query (node.Rekey key) = node_line (codes "rekey")
node_lines query (node.Table relation) = table_line query (codes "left")
node_lines query (node.JoinStreamTable kind on left right) = join_lines query (codes "join-stream-table")
node_lines query (node.JoinTables kind left right) = table_line query (codes "left") ++ join_lines query (codes "join-table-table")
node_lines query (node.Filter on) = node_line (codes "filter")
node_lines query (node.Group keys) = node_line (codes "group")
node_lines query (node.Aggregate over aggs window) = stored_line query (aggregate_kind window) (codes "aggregate")
node_lines query (node.Having on) = node_line (codes "having")
node_lines query (node.Select keys values) = node_line (codes "select")

-- ---- sub-topologies

-- the first line of a sub-topology: its number, its query and its number of partitions
unfoldable pub sub_line : List ℕ → Sub → List ℕ
sub_line query s =
    codes "sub " ++ (decimal s.number
    ++ (codes " " ++ (query
    ++ (codes " partitions=" ++ (decimal s.partitions ++ codes "\n")))))

-- the line of a topic that is read
unfoldable pub read_line : List TopicSpec → SubInput → List ℕ
read_line topics input = codes "read " ++ (topic_name topics input.topic ++ codes "\n")

-- the line of the topic that is written
unfoldable pub write_line : List TopicSpec → ℕ → List ℕ
write_line topics output = codes "write " ++ (topic_name topics output ++ codes "\n")

-- the lines of a sub-topology: its first line, what it reads, its nodes and what it writes
unfoldable pub sub_text : List Item → List TopicSpec → Sub → List ℕ
sub_text items topics s =
    let query = query_name items s.query in
    sub_line query s ++ (flat_map (read_line topics) s.inputs ++ (flat_map (node_lines query) s.nodes ++ write_line topics s.output))

-- ---- topologies

-- the first line: the numbers of sub-topologies and tasks, and the number of sub-topologies on the longest path
unfoldable pub counts_line : List Sub → List ℕ
counts_line subs =
    codes "subs=" ++ (decimal (length subs)
    ++ (codes " tasks=" ++ (decimal (length (tasks_of subs))
    ++ (codes " chain=" ++ (decimal (chain_of subs) ++ codes "\n")))))

-- the text of a topology of a program with these items
unfoldable pub topology_text : List Item → Topology → List ℕ
topology_text items t = counts_line t.subs ++ (flat_map (sub_text items t.topics) t.subs ++ codes "end\n")
