-- The meaning of a topology for an order of records, and what the law of the core needs of it.
use Rattle.std.specs.Prelude.{◌≡◌, ℕ, ◌+◌, ◌<◌, ◌≤◌, List, [], ◌++◌, map, filter, All, Contains}
use Rattle.ksql_types.specs.declared.relation.StoreEntry.{StoreEntry}
use Rattle.ksql_types.specs.declared.relation.TaskName.{TaskName}
use Rattle.ksql_place.specs.declared.change.Change.{Change}
use Rattle.ksql_place.specs.declared.change.SourceRecord.{SourceRecord}
use Rattle.core_state.specs.declared.log.LogEntry.{LogEntry}
use Rattle.core_state.specs.declared.log.LogEntry.TheVariants.{Fed, Said}
use Rattle.core_state.specs.Routes.{merged, sent_to}
use Rattle.core_state.specs.State.{IsTask, Topology, feed_of, is_in}

-- the meaning of a topology for an order of records: a task's entries up to a feed, its results after one feed up to
-- another, and the content of a topic's partition up to a feed
pub record Meaning (E : Type 0) : Type 0 where
  pub order : List SourceRecord
  pub entries : TaskName → ℕ → List E
  pub results : TaskName → ℕ → ℕ → List Change
  pub has : ℕ → ℕ → ℕ → List LogEntry

module _ {E H : Type 0} where
  -- ---- what the meaning of a topology must satisfy

  pub record Means (top : Topology E H) (d : Meaning E) : Type 0 where
    -- a task is among the writers of its topic, and these are tasks that write it
    pub writes : (t : TaskName) → IsTask top t → Contains (top.routes.writers (top.routes.output t)) t
    pub written_by : (topic : ℕ) (w : TaskName) → Contains (top.routes.writers topic) w → IsTask top w × (top.routes.output w ≡ topic)
    -- what a task takes of inputs that show their partitions up to a feed or further are its next entries up to that
    -- feed
    pub taken : (t : TaskName) → IsTask top t → (shown : ℕ → List LogEntry) (a b : ℕ) → a ≤ b →
        ((topic : ℕ) → Contains (top.inputs t) topic → (c : ℕ) × (b ≤ c) × (shown topic ≡ d.has topic t.part c)) →
        d.entries t b ≡ d.entries t a ++ top.takes t shown a b
    -- the results of some feeds are what the task gives for the entries of these feeds
    pub given : (t : TaskName) → IsTask top t → (a b : ℕ) (more : List E) → a ≤ b → d.entries t b ≡ d.entries t a ++ more →
        top.gives t (d.entries t a) more ≡ d.results t a b
    pub in_parts : (t : TaskName) → IsTask top t → (a b c : ℕ) → a ≤ b → b ≤ c → d.results t a c ≡ d.results t a b ++ d.results t b c
    pub within : (t : TaskName) → IsTask top t → (a b : ℕ) → All (λ x. (a < feed_of x) × (feed_of x ≤ b)) (d.results t a b)
    -- a partition has up to a later feed its earlier content, then what its writers sent there since, in place order
    pub written : (topic q a b : ℕ) → ¬ (top.routes.writers topic ≡ []) → a ≤ b →
        d.has topic q b ≡ d.has topic q a ++ map Said (merged (map (λ w. sent_to top.routes w q (d.results w a b)) (top.routes.writers topic)))
    -- a replay can be continued from where it ended
    pub replayed : (t : TaskName) → IsTask top t → (us vs more : List StoreEntry) → top.replay t us ≡ top.replay t vs → top.replay t (us ++ more) ≡ top.replay t (vs ++ more)

  -- one more feed of records keeps what was, and adds the records to the sources
  pub record Grows (top : Topology E H) (fed : ℕ) (records : List SourceRecord) (d later : Meaning E) : Type 0 where
    pub order : later.order ≡ d.order ++ records
    pub entries : (t : TaskName) → IsTask top t → (c : ℕ) → c ≤ fed → later.entries t c ≡ d.entries t c
    pub results : (t : TaskName) → IsTask top t → (a b : ℕ) → a ≤ b → b ≤ fed → later.results t a b ≡ d.results t a b
    pub has : (topic q c : ℕ) → c ≤ fed → later.has topic q c ≡ d.has topic q c
    pub sources : (topic q : ℕ) → top.routes.writers topic ≡ [] → later.has topic q (fed + 1) ≡ d.has topic q fed ++ map Fed (filter (is_in topic q) records)

  -- nothing was fed yet
  pub record Opens (top : Topology E H) (d : Meaning E) : Type 0 where
    pub order : d.order ≡ []
    pub has : (topic q : ℕ) → d.has topic q 0 ≡ []
    pub results : (t : TaskName) → IsTask top t → d.results t 0 0 ≡ []
    pub stands : (t : TaskName) → IsTask top t → top.Stands t (top.replay t []) (d.entries t 0)
