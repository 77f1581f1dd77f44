-- The meaning of a topology as equations: the content of each partition for an order of records.
use Rattle.std.specs.Prelude.{◌≡◌, ℕ, ◌<◌, ◌≤◌, Bool, false, List, [], ◌∷◌, ◌++◌, ◌==◌, ◌&&◌, nat_lt, nat_le, map, filter, flat_map, if◌then◌else◌, All, Contains}
use Rattle.std.specs.Cmp.{IsTotalOrder}
use Rattle.std.specs.Ordering.{is_gt}
use Rattle.std.specs.declared.cmp.Ordering.{Ordering}
use Rattle.ksql_types.specs.declared.relation.StoreEntry.{StoreEntry}
use Rattle.ksql_types.specs.declared.relation.TaskName.{TaskName}
use Rattle.ksql_place.specs.Ascending.{ascending}
use Rattle.ksql_place.specs.declared.change.Change.{Change}
use Rattle.ksql_place.specs.declared.change.SourceRecord.{SourceRecord}
use Rattle.core_state.specs.Meaning.{Meaning}
use Rattle.core_state.specs.Routes.{Routes, merged, sent_to}
use Rattle.core_state.specs.State.{Topology, feed_of, is_in}
use Rattle.core_state.specs.declared.log.LogEntry.{LogEntry}
use Rattle.core_state.specs.declared.log.LogEntry.TheVariants.{Fed, Said}

-- ---- feeds

-- whether a member is of a feed after a up to b
abbrev pub is_between : {A : Type 0} → (A → ℕ) → ℕ → ℕ → A → Bool
is_between feed a b x = nat_lt a (feed x) && nat_le (feed x) b

-- the members of the feeds after a up to b
abbrev pub between : {A : Type 0} → (A → ℕ) → ℕ → ℕ → List A → List A
between feed a b xs = filter (is_between feed a b) xs

-- the feed of an entry of a topic
abbrev pub log_feed : LogEntry → ℕ
log_feed (Fed r) = r.stamp.feed
log_feed (Said x) = feed_of x

-- ---- tasks

-- how tasks are wired, and what they give for entries E
pub record Wiring (E : Type 0) : Type 0 where
  pub names : List TaskName
  pub inputs : TaskName → List ℕ
  pub routes : Routes
  pub entry_cmp : TaskName → E → E → Ordering
  pub feed : E → ℕ
  -- what a task takes of an entry of an input topic: an entry of its own, or none for a record that is skipped
  pub entry : TaskName → ℕ → LogEntry → List E
  -- what a task gives for further entries, after earlier ones
  pub gives : TaskName → List E → List E → List Change

module _ {E : Type 0} where
  -- the entries that a task reads of what its inputs show, in order
  abbrev pub reads : Wiring E → TaskName → (ℕ → List LogEntry) → List E
  reads w t shown = ascending (w.entry_cmp t) (flat_map (λ i. flat_map (w.entry t i) (shown i)) (w.inputs t))

  -- all entries of a task, given the contents of the partitions
  abbrev pub all_entries : Wiring E → (ℕ → ℕ → List LogEntry) → TaskName → List E
  all_entries w contents t = reads w t (λ i. contents i t.part)

  -- the meaning of an order, given the contents of the partitions
  abbrev pub meaning_of : Wiring E → List SourceRecord → (ℕ → ℕ → List LogEntry) → Meaning E
  meaning_of w order contents = record {
    order = order;
    entries = λ t c. between w.feed 0 c (all_entries w contents t);
    results = λ t a b. w.gives t (between w.feed 0 a (all_entries w contents t)) (between w.feed a b (all_entries w contents t));
    has = λ topic q c. between log_feed 0 c (contents topic q);
  }

  -- What a task gives for entries is what it gives for a first part and then for the rest, and has their feeds. Entries
  -- have the feeds of what they are made of, and their order keeps feeds together.
  pub record GivesWell (w : Wiring E) : Type 0 where
    pub goes_on : (t : TaskName) (es us vs : List E) → w.gives t es (us ++ vs) ≡ w.gives t es us ++ w.gives t (es ++ us) vs
    pub keeps_feed : (t : TaskName) (es us : List E) (a b : ℕ) → All (λ e. (a < w.feed e) × (w.feed e ≤ b)) us →
        All (λ x. (a < feed_of x) × (feed_of x ≤ b)) (w.gives t es us)
    pub entry_feed : (t : TaskName) (i : ℕ) (x : LogEntry) → All (λ e. w.feed e ≡ log_feed x) (w.entry t i x)
    pub total : (t : TaskName) → IsTotalOrder (w.entry_cmp t)
    pub rises : (t : TaskName) (x y : E) → is_gt (w.entry_cmp t x y) ≡ false → w.feed x ≤ w.feed y

  -- the contents of all partitions for an order whose feeds are 1 to last
  pub record Solves (w : Wiring E) (order : List SourceRecord) (last : ℕ) (contents : ℕ → ℕ → List LogEntry) : Type 0 where
    pub sources : (topic q : ℕ) → w.routes.writers topic ≡ [] → contents topic q ≡ map Fed (filter (is_in topic q) order)
    pub written : (topic q : ℕ) → ¬ (w.routes.writers topic ≡ []) →
        contents topic q ≡ map Said (merged (map (λ u. sent_to w.routes u q (w.gives u [] (all_entries w contents u))) (w.routes.writers topic)))
    pub bounded : (topic q : ℕ) → All (λ x. (0 < log_feed x) × (log_feed x ≤ last)) (contents topic q)

  -- the writers of a topic are the tasks whose output it is
  pub record IsWired (w : Wiring E) : Type 0 where
    pub writes : (t : TaskName) → Contains w.names t → Contains (w.routes.writers (w.routes.output t)) t
    pub written_by : (topic : ℕ) (u : TaskName) → Contains (w.routes.writers topic) u → Contains w.names u × (w.routes.output u ≡ topic)

-- the topology of tasks with this wiring, and how they keep stores H
abbrev pub wired : {E H : Type 0} → Wiring E → (TaskName → H → List E → Type 0) → (TaskName → List StoreEntry → H) → (TaskName → StoreEntry → Type 0) → Topology E H
wired w Stands replay MayLoad = record {
  names = w.names;
  inputs = w.inputs;
  routes = w.routes;
  takes = λ t shown a b. reads w t (λ i. between log_feed a b (shown i));
  gives = w.gives;
  Stands = Stands;
  replay = replay;
  MayLoad = MayLoad;
}

-- ---- the meaning by recursion on the topics that are written, inputs first

-- the content of a source's partition
abbrev pub source_contents : List SourceRecord → ℕ → ℕ → List LogEntry
source_contents order topic q = map Fed (filter (is_in topic q) order)

module _ {E : Type 0} where
  -- what all writers of a topic send to a partition, in the order of places, given the contents of the partitions
  abbrev pub sent_by_all : Wiring E → (ℕ → ℕ → List LogEntry) → ℕ → ℕ → List LogEntry
  sent_by_all w has topic q = map Said (merged (map (λ u. sent_to w.routes u q (w.gives u [] (all_entries w has u))) (w.routes.writers topic)))

  -- the contents with those of one more topic
  abbrev pub with_topic : Wiring E → (ℕ → ℕ → List LogEntry) → ℕ → ℕ → ℕ → List LogEntry
  with_topic w has topic o q = if o == topic then sent_by_all w has topic q else has o q

  -- the contents with those of further topics, one after another
  unfoldable pub contents_from : Wiring E → (ℕ → ℕ → List LogEntry) → List ℕ → ℕ → ℕ → List LogEntry
  contents_from w has [] = has
  contents_from w has (topic ∷ topics) = contents_from w (with_topic w has topic) topics

  -- the contents of all partitions
  abbrev pub contents_of : Wiring E → List ℕ → List SourceRecord → ℕ → ℕ → List LogEntry
  contents_of w topics order = contents_from w (source_contents order) topics

  -- each topic comes once, after the inputs of its writers
  abbrev pub InStages : Wiring E → List ℕ → Type 0
  InStages w [] = Unit {0}
  InStages w (topic ∷ later) = (¬ Contains later topic)
      × ((u : TaskName) → Contains (w.routes.writers topic) u → (i : ℕ) → Contains (w.inputs u) i → ¬ Contains (topic ∷ later) i)
      × InStages w later

  -- the topics are the written ones, each after the inputs of its writers
  pub record IsStaged (w : Wiring E) (topics : List ℕ) : Type 0 where
    pub stages : InStages w topics
    pub all : (topic : ℕ) → ¬ (w.routes.writers topic ≡ []) → Contains topics topic
    pub only : (topic : ℕ) → Contains topics topic → ¬ (w.routes.writers topic ≡ [])

  -- the meaning of an order
  abbrev pub mean_of : Wiring E → List ℕ → List SourceRecord → Meaning E
  mean_of w topics order = meaning_of w order (contents_of w topics order)

-- feeds are counted from 1
abbrev pub AreCounted : List SourceRecord → Type 0
AreCounted order = All (λ r. 0 < r.stamp.feed) order

-- the records of the feeds up to c
abbrev pub order_upto : ℕ → List SourceRecord → List SourceRecord
order_upto c order = between (λ (r : SourceRecord). r.stamp.feed) 0 c order

-- the contents of the order cut at a feed are the contents of the order, cut there
abbrev pub CutsAlike : {E : Type 0} → Wiring E → List ℕ → Type 0
CutsAlike w topics = (order : List SourceRecord) → AreCounted order → (c topic q : ℕ) →
    contents_of w topics (order_upto c order) topic q ≡ between log_feed 0 c (contents_of w topics order topic q)
