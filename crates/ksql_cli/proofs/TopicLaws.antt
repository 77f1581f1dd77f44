-- From the facts about one topic file, and about those after it, to the facts about all of them.
use Rattle.std.proofs.Common.{◌≡◌, ◌∙◌, ap, sym, refl, subst, ℕ, ◌-◌, List, [], ◌∷◌, ◌++◌, append_assoc, inl, inr, length, take, drop, arith}
use Rattle.std.specs.Prelude.{◌≤◌, All, Option, None, Some, IfSome, Result, Ok, Err, IfOk, IfErr, slice_index_or}
use Rattle.std.specs.List.{AllByRecursion}
use Rattle.std.proofs.lemmas.List.{take_all}
use Rattle.std.proofs.lemmas.List.Elements.{All-rest}
use Rattle.ksql_types.specs.declared.relation.Relation.{Relation}
use Rattle.ksql_outside.specs.Outside.{JoinedLast, MayJoin}
use Rattle.ksql_program.specs.declared.program.Item.{Item}
use Rattle.ksql_program.specs.declared.program.Item.TheVariants.{Declared, Started}
use Rattle.ksql_program.specs.declared.query.Query.{Query}
use Rattle.topic_files.specs.declared.topic.Room.{Room}
use Rattle.topic_files.specs.declared.topic.TopicLines.{TopicLines}
use Rattle.topic_files.specs.File.{topic_lines}
use Rattle.ksql_cli.specs.declared.status.Status.{Status}
use Rattle.ksql_cli.specs.declared.status.Status.TheVariants as ended
use Rattle.ksql_cli.specs.Command.{Files, topic_file, whole_room, room_after, IsGood, AreFed, IsFirstBad, IsTopicDue}
use Rattle.ksql_cli.specs.Run.{declared_of}
use Rattle.ksql_cli.specs.Steps.{AreTopicsDue, IsFeedable, IsJoined, IsTopicFailure}

-- the items after the first
abbrev pub rest_of : List Item → List Item
rest_of items = take (length items - 1) (drop 1 items)

-- a declared relation is the first of the declared ones
pub declared_first : (items : List Item) (item : Item) (relation : Relation) → 1 ≤ length items → item ≡ slice_index_or items 0 item →
    item ≡ Declared relation → declared_of items ≡ relation ∷ declared_of (rest_of items)
declared_first [] item relation some first is = absurd (omega (arith, some))
declared_first (i ∷ items) item relation some first is =
    ap (λ (x : Item). declared_of (x ∷ items)) (sym first ∙ is)
    ∙ ap (λ (xs : List Item). relation ∷ declared_of xs) (sym (take_all (length (i ∷ items) - 1) items (omega arith)))

pub rest_feedable : (relation : Relation) (rest all : List Relation) → all ≡ relation ∷ rest → All IsFeedable all → All IsFeedable rest
rest_feedable relation rest all first feedable = All-rest IsFeedable relation rest all first feedable

-- the topic file of a relation is good: it comes after others, and it leaves this room
abbrev IsOneRead : List ℕ → Room → Relation → Room → List TopicLines → List TopicLines → Files → Type 0
IsOneRead dir room relation left before middle all =
    (file : List ℕ) × IsGood dir all room relation file × (left ≡ room_after room relation file) × (middle ≡ before ++ topic_lines relation file ∷ [])

-- these are the topic files of the relations, after others
abbrev AreAllRead : List ℕ → Room → List Relation → List TopicLines → List TopicLines → Files → Type 0
AreAllRead dir room relations before after all =
    (files : List TopicLines) × AreFed dir all room relations files × (after ≡ before ++ files)

all_read : (dir : List ℕ) (all : Files) (room left : Room) (relation : Relation) (rest : List Relation) (before middle after : List TopicLines) →
    IsOneRead dir room relation left before middle all → AreAllRead dir left rest middle after all → AreAllRead dir room (relation ∷ rest) before after all
all_read dir all room left relation rest before middle after one others = (
  topic_lines relation one.0 ∷ others.0,
  (one.0, others.0, one.1, subst (λ (r : Room). AreFed dir all r rest others.0) one.2 others.1, refl),
  others.2 ∙ ap (λ (files : List TopicLines). files ++ others.0) one.3 ∙ append_assoc before (topic_lines relation one.0 ∷ []) others.0,
)

pub all_found : (dir : List ℕ) {A : Type 0} (result : Result A Status) (items : A → List TopicLines) (known later : Option Files) (room left : Room)
    (relation : Relation) (rest relations : List Relation) (before middle : List TopicLines) → relations ≡ relation ∷ rest → later ≡ known →
    IfSome known (IsOneRead dir room relation left before middle) →
    IfOk result (λ a. IfSome later (AreAllRead dir left rest middle (items a))) → IfOk result (λ a. IfSome known (AreAllRead dir room relations before (items a)))
all_found dir (Err e) items known later room left relation rest relations before middle first same one others = tt
all_found dir (Ok a) items None later room left relation rest relations before middle first same one others = tt
all_found dir (Ok a) items (Some all) later room left relation rest relations before middle first same one others =
    subst (λ (rs : List Relation). AreAllRead dir room rs before (items a) all) (sym first)
    (all_read dir all room left relation rest before middle (items a) one
    (subst (λ (o : Option Files). IfSome o (AreAllRead dir left rest middle (items a))) same others))

-- ---- the records fit

-- the first of some items, and those after it
pub items_first : (items : List Item) (item : Item) → 1 ≤ length items → item ≡ slice_index_or items 0 item → items ≡ item ∷ rest_of items
items_first [] item some first = absurd (omega (arith, some))
items_first (i ∷ items) item some first =
    ap (λ (x : Item). x ∷ items) (sym first) ∙ ap (λ (xs : List Item). item ∷ xs) (sym (take_all (length (i ∷ items) - 1) items (omega arith)))

-- the declared relations where the first item is a query
pub declared_later : (items : List Item) (item : Item) (query : Query) → 1 ≤ length items → item ≡ slice_index_or items 0 item → item ≡ Started query
    → declared_of items ≡ declared_of (rest_of items)
declared_later items item query some first is =
    ap declared_of (items_first items item some first ∙ ap (λ (x : Item). x ∷ rest_of items) is)

-- ---- the names that joined

-- a name that may have joined, and others after it
pub joined_behind : (old mid new : List (List ℕ)) (here name : List ℕ) → MayJoin old mid here → JoinedLast mid new name → JoinedLast old new name
joined_behind old mid new here name (inl same) joined =
    (joined.0, joined.1 ∙ ap (λ (names : List (List ℕ)). names ++ (joined.0 ++ name ∷ [])) same)
joined_behind old mid new here name (inr is) joined =
    (here ∷ joined.0, joined.1 ∙ ap (λ (names : List (List ℕ)). names ++ (joined.0 ++ name ∷ [])) is ∙ append_assoc old (here ∷ []) (joined.0 ++ name ∷ []))

status_joined : (old mid new : List (List ℕ)) (here : List ℕ) (status : Status) → MayJoin old mid here → IsJoined mid new status → IsJoined old new status
status_joined old mid new here (ended.ReadFault name) grown joined = joined_behind old mid new here name grown joined
status_joined old mid new here ended.Done grown joined = tt
status_joined old mid new here ended.Usage grown joined = tt
status_joined old mid new here (ended.Script statement code) grown joined = tt
status_joined old mid new here (ended.TopicFile topic line why) grown joined = tt
status_joined old mid new here (ended.Schedule line why) grown joined = tt
status_joined old mid new here ended.WriteFault grown joined = tt
status_joined old mid new here ended.OutOfMemory grown joined = tt

pub all_joined : {A : Type 0} (result : Result A Status) (old mid new : List (List ℕ)) (here : List ℕ) → MayJoin old mid here →
    IfErr result (IsJoined mid new) → IfErr result (IsJoined old new)
all_joined (Ok a) old mid new here grown joined = tt
all_joined (Err status) old mid new here grown joined = status_joined old mid new here status grown joined

-- ---- the causes

-- the topic file of a relation is good, and leaves this room
abbrev Leaves : List ℕ → Files → Room → Relation → Room → Type 0
Leaves dir all room relation left = (file : List ℕ) × IsGood dir all room relation file × (left ≡ room_after room relation file)

due_behind : (dir : List ℕ) (all : Files) (room left : Room) (relation : Relation) (rest : List Relation) (name : List ℕ) → Leaves dir all room relation left →
    IsTopicDue dir all left rest name → IsTopicDue dir all room (relation ∷ rest) name
due_behind dir all room left relation rest name one due = inr (one.0, one.1, subst (λ (r : Room). IsTopicDue dir all r rest name) one.2 due)

failure_behind : (dir : List ℕ) (all : Files) (room left : Room) (relation : Relation) (rest : List Relation) (old mid new : List (List ℕ)) (status : Status) →
    Leaves dir all room relation left → MayJoin old mid (topic_file dir relation) → IsTopicFailure dir all left rest mid new status →
    IsTopicFailure dir all room (relation ∷ rest) old new status
failure_behind dir all room left relation rest old mid new (ended.TopicFile topic line why) one grown bad =
    (one.0, one.1.0, inr (one.1.1, subst (λ (r : Room). IsFirstBad dir all r rest topic line why) one.2 bad))
failure_behind dir all room left relation rest old mid new (ended.ReadFault name) one grown failed =
    (due_behind dir all room left relation rest name one failed.0, joined_behind old mid new (topic_file dir relation) name grown failed.1)
failure_behind dir all room left relation rest old mid new ended.OutOfMemory one grown failed = tt
failure_behind dir all room left relation rest old mid new ended.Done one grown failed = absurd failed
failure_behind dir all room left relation rest old mid new ended.Usage one grown failed = absurd failed
failure_behind dir all room left relation rest old mid new (ended.Script statement code) one grown failed = absurd failed
failure_behind dir all room left relation rest old mid new (ended.Schedule line why) one grown failed = absurd failed
failure_behind dir all room left relation rest old mid new ended.WriteFault one grown failed = absurd failed

pub all_caused : (dir : List ℕ) {A : Type 0} (result : Result A Status) (known later : Option Files) (room left : Room) (relation : Relation)
    (rest relations : List Relation) (before middle : List TopicLines) (old mid new : List (List ℕ)) → relations ≡ relation ∷ rest → later ≡ known →
    IfSome known (IsOneRead dir room relation left before middle) → MayJoin old mid (topic_file dir relation) →
    IfErr result (λ status. IfSome later (λ all. IsTopicFailure dir all left rest mid new status)) →
    IfErr result (λ status. IfSome known (λ all. IsTopicFailure dir all room relations old new status))
all_caused dir (Ok a) known later room left relation rest relations before middle old mid new first same one grown failed = tt
all_caused dir (Err status) None later room left relation rest relations before middle old mid new first same one grown failed = tt
all_caused dir (Err status) (Some all) later room left relation rest relations before middle old mid new first same one grown failed =
    subst (λ (rs : List Relation). IsTopicFailure dir all room rs old new status) (sym first)
    (failure_behind dir all room left relation rest old mid new status (one.0, one.1, one.2) grown
    (subst (λ (o : Option Files). IfSome o (λ files. IsTopicFailure dir files left rest mid new status)) same failed))

-- ---- what is due

each_behind : (dir : List ℕ) (all : Files) (room left : Room) (relation : Relation) (rest : List Relation) → Leaves dir all room relation left → (names : List (List ℕ)) →
    AllByRecursion (IsTopicDue dir all left rest) names → AllByRecursion (IsTopicDue dir all room (relation ∷ rest)) names
each_behind dir all room left relation rest one [] due = tt
each_behind dir all room left relation rest one (name ∷ names) due =
    (due_behind dir all room left relation rest name one due.0, each_behind dir all room left relation rest one names due.1)

after_due : (dir : List ℕ) (all : Files) (room left : Room) (relation : Relation) (rest : List Relation) (old mid new : List (List ℕ)) → Leaves dir all room relation left →
    MayJoin old mid (topic_file dir relation) → AreTopicsDue dir all left rest mid new → AreTopicsDue dir all room (relation ∷ rest) old new
after_due dir all room left relation rest old mid new one (inl same) due =
    (due.0, due.1 ∙ ap (λ (names : List (List ℕ)). names ++ due.0) same, each_behind dir all room left relation rest one due.0 due.2)
after_due dir all room left relation rest old mid new one (inr is) due = (
  topic_file dir relation ∷ due.0,
  due.1 ∙ ap (λ (names : List (List ℕ)). names ++ due.0) is ∙ append_assoc old (topic_file dir relation ∷ []) due.0,
  (inl refl, each_behind dir all room left relation rest one due.0 due.2),
)

pub all_due : (dir : List ℕ) (known later : Option Files) (room left : Room) (relation : Relation)
    (rest relations : List Relation) (before middle : List TopicLines) (old mid new : List (List ℕ)) → relations ≡ relation ∷ rest → later ≡ known →
    IfSome known (IsOneRead dir room relation left before middle) → MayJoin old mid (topic_file dir relation) →
    IfSome later (λ all. AreTopicsDue dir all left rest mid new) → IfSome known (λ all. AreTopicsDue dir all room relations old new)
all_due dir None later room left relation rest relations before middle old mid new first same one grown due = tt
all_due dir (Some all) later room left relation rest relations before middle old mid new first same one grown due =
    subst (λ (rs : List Relation). AreTopicsDue dir all room rs old new) (sym first)
    (after_due dir all room left relation rest old mid new (one.0, one.1, one.2) grown
    (subst (λ (o : Option Files). IfSome o (λ files. AreTopicsDue dir files left rest mid new)) same due))

-- ---- the room that all share

pub whole_few : (room : Room) → room ≡ whole_room → room.records ≤ 200000
unfolding whole_room
whole_few room is = omega (arith, ap (λ (r : Room). r.records) is)

pub whole_short : (room : Room) → room ≡ whole_room → room.bytes ≤ 67108864
unfolding whole_room
whole_short room is = omega (arith, ap (λ (r : Room). r.bytes) is)

-- what is said of the files as they are later, of a room and of some items is said of the files as they were, of that
-- room and of those items
pub as_before : (P : Files → Room → List Item → Type 0) (known later : Option Files) (room whole : Room) (items all : List Item) →
    later ≡ known → room ≡ whole → items ≡ all → IfSome later (λ files. P files room items) → IfSome known (λ files. P files whole all)
as_before P known later room whole items all same is are said =
    subst (λ (o : Option Files). IfSome o (λ files. P files whole all)) same
    (subst (λ (r : Room). IfSome later (λ files. P files r all)) is (subst (λ (xs : List Item). IfSome later (λ files. P files room xs)) are said))
