-- Taking the records of a feed one by one: each time the head with the smallest time (Kafka Streams developer guide).
use Rattle.std.specs.Prelude.{◌≡◌, ℕ, List, [], ◌∷◌, map, Bool, ◌&&◌, ◌==◌, IsTrue, ⊤}
use Rattle.std.specs.List.{All, zip}
use Rattle.std.specs.declared.cmp.Ordering.{Ordering}
use Rattle.std.specs.Ordering.{nat_cmp, ordering_then, is_le}
use Rattle.ksql_place.specs.declared.stamp.Stamp.{Stamp}
use Rattle.ksql_place.specs.declared.order.PartTimes.{PartTimes}
use Rattle.ksql_place.specs.Order.{part_stamps}

-- a record waiting in its partition: its time and its stamp
pub record Waiting : Type 0 where
  pub time : ℕ
  pub stamp : Stamp

-- the waiting records of one partition, in the partition's order
abbrev pub Queue : Type 0
Queue = List Waiting

-- heads compare by time, then by topic, then by partition
abbrev pub head_cmp : Waiting → Waiting → Ordering
head_cmp a b =
    ordering_then (nat_cmp a.time b.time)
    (ordering_then (nat_cmp a.stamp.topic b.stamp.topic) (nat_cmp a.stamp.part b.stamp.part))

-- the record isn't after the head of the queue, if any
abbrev pub IsNoLater : Waiting → Queue → Type 0
IsNoLater w [] = ⊤
IsNoLater w (head ∷ q) = IsTrue (is_le (head_cmp w head))

-- the head of one of the queues is taken, which leaves these queues
pub data Takes : List Queue → Waiting → List Queue → Type 0 where
  here : {w : Waiting} {q : Queue} {qs : List Queue} → Takes ((w ∷ q) ∷ qs) w (q ∷ qs)
  behind : {q : Queue} {qs rest : List Queue} {w : Waiting} → Takes qs w rest → Takes (q ∷ qs) w (q ∷ rest)

-- the stamps in the order that results from taking a head that is after no other, until none is left
pub data Taken : List Queue → List Stamp → Type 0 where
  done : {qs : List Queue} → All (λ q. q ≡ []) qs → Taken qs []
  next : {qs rest : List Queue} {w : Waiting} {stamps : List Stamp} →
      Takes qs w rest → All (IsNoLater w) qs → Taken rest stamps → Taken qs (w.stamp ∷ stamps)

-- a record's time and stamp
abbrev pub waiting : ℕ × Stamp → Waiting
waiting p = record { time = p.0; stamp = p.1 }

-- the records of a partition, before any is taken
abbrev pub queue : ℕ → PartTimes → Queue
queue feed p = map waiting (zip p.times (part_stamps feed p))

-- the records of all partitions, before any is taken
abbrev pub queues : ℕ → List PartTimes → List Queue
queues feed parts = map (queue feed) parts

-- whether a stamp is of this partition
abbrev pub is_of : PartTimes → Stamp → Bool
is_of p s = (s.topic == p.topic) && (s.part == p.part)
