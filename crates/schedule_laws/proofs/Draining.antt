-- As many rounds as the longest path has sub-topologies bring each task to the last feed: each round goes one
-- sub-topology further along every path.
use Rattle.std.proofs.Common.{◌≡◌, ◌∙◌, ap, ap₂, refl, sym, subst, eq-eqb, ℕ, zero, suc, ◌+◌, ◌<◌, ◌≤◌, Bool, true, false, true≢false, List, [], ◌∷◌, ◌++◌, map, max, arith, inl, inr}
use Rattle.std.specs.Prelude.{◌⊎◌, ◌==◌, ◌&&◌, if◌then◌else◌, flat_map, option_map, unwrap_or, Contains, Option, None, Some}
use Rattle.std.specs.Option.{option_or}
use Rattle.std.specs.Cmp.{unsigned_Decides}
use Rattle.std.specs.List.{AllByRecursion}
use Rattle.ksql_types.specs.declared.relation.TaskName.{TaskName}
use Rattle.ksql_place.specs.Ascending.{ascending}
use Rattle.ksql_place.specs.Order.{greatest, record_cmp}
use Rattle.ksql_place.specs.declared.change.SourceRecord.{SourceRecord}
use Rattle.ksql_program.specs.Sound.{IsSound}
use Rattle.ksql_program.specs.declared.program.Item.{Item}
use Rattle.ksql_program.specs.declared.program.Item.TheVariants.{Declared, Started}
use Rattle.topic_files.specs.declared.topic.TopicLines.{TopicLines}
use Rattle.topic_feeds.specs.Feeding.{all_fed, fed_in, order_of}
use Rattle.topology.specs.Tasks.{chain_of, depth_after, tasks_of, tasks_of_sub, with_depth}
use Rattle.topology.specs.Topologies.{subs, topology_of}
use Rattle.topology.specs.declared.schedule.Step.TheVariants as step
use Rattle.topology.specs.declared.topology.Sub.{Sub}
use Rattle.topology.specs.declared.topology.SubInput.{SubInput}
use Rattle.topology.specs.declared.topology.Topology.{Topology}
use Rattle.sending_laws.proofs.Paths.{StandInOrder, topics_read}
use Rattle.sending_laws.proofs.SubOrder.{subs-in-order}
use Rattle.core_state.proofs.Lists.{Contains-here, Contains-next}
use Rattle.core_state.proofs.Staging.{Contains-cases}
use Rattle.core_state.specs.Routes.{routes_of}
use Rattle.core_state.specs.State.{least, lowest}
use Rattle.task_core.specs.Core.{inputs_at}
use Rattle.feed_laws.specs.Feeds.{fed_of, sources_of}
use Rattle.wiring_laws.proofs.Members.{flat-member, map-member, member-flat, no-member}
use Rattle.wiring_laws.proofs.Wirings.{output-of, sub-of, wired-well}
use Rattle.assignor.specs.Rule.{owner_of}
use Rattle.assignor.specs.declared.assignment.Owned.{Owned}
use Rattle.cluster_laws.specs.Progress.{Progress, after_steps, bound, closed, opening, round, rounds, takes_part, whole}
use Rattle.ksql_cli.specs.Run.{declared_of}
use Rattle.schedule_laws.specs.Reports.{at_once}

-- ---- depths

-- the number of a member is at most the greatest
greatest-of : {A : Type 0} (f : A → ℕ) (xs : List A) (x : A) → Contains xs x → f x ≤ greatest (map f xs)
greatest-of f [] x among = absurd (no-member x among)
greatest-of f (y ∷ xs) x among = by (Contains-cases y xs x among) (greatest-of f xs x)
  where
    by : (y ≡ x) ⊎ Contains xs x → (Contains xs x → f x ≤ greatest (map f xs)) → f x ≤ max (f y) (greatest (map f xs))
    by (inl same) rest = let is : f y ≡ f x = ap f same in omega (arith, is)
    by (inr there) rest = let low : f x ≤ greatest (map f xs) = rest there in omega (arith, low)

-- a sub-topology makes its topic one deeper than the deepest of its inputs
with-own : (depth : ℕ → ℕ) (s : Sub) → with_depth depth s s.output ≡ 1 + greatest (map (λ (i : SubInput). depth i.topic) s.inputs)
with-own depth s =
    ap (λ b. if b then 1 + greatest (map (λ (i : SubInput). depth i.topic) s.inputs) else depth s.output) ((unsigned_Decides s.output s.output).1 refl)

-- and leaves other topics as they are
with-other : (depth : ℕ → ℕ) (s : Sub) (topic : ℕ) → (s.output ≡ topic → ⊥) → with_depth depth s topic ≡ depth topic
with-other depth s topic apart = by (topic == s.output) refl
  where
    by : (b : Bool) → (topic == s.output) ≡ b → (if b then 1 + greatest (map (λ (i : SubInput). depth i.topic) s.inputs) else depth topic) ≡ depth topic
    by true is = absurd (apart (sym ((unsigned_Decides topic s.output).0 is)))
    by false is = refl

-- a topic's depth stays as it is after sub-topologies that write others
depth-kept : (depth : ℕ → ℕ) (ss : List Sub) (topic : ℕ) → AllByRecursion (λ (t : Sub). t.output ≡ topic → ⊥) ss → depth_after depth ss topic ≡ depth topic
unfolding depth_after
depth-kept depth [] topic apart = refl
depth-kept depth (s ∷ ss) topic apart = depth-kept (with_depth depth s) ss topic apart.1 ∙ with-other depth s topic apart.0

-- a topic that a sub-topology reads isn't written by those whose topics it doesn't read
unread : (s : Sub) (topic : ℕ) → Contains (topics_read s) topic → (ss : List Sub) → AllByRecursion (λ (t : Sub). Contains (topics_read s) t.output → ⊥) ss →
    AllByRecursion (λ (t : Sub). t.output ≡ topic → ⊥) ss
unread s topic reads [] none = tt
unread s topic reads (t ∷ ss) none = (λ same. none.0 (subst (Contains (topics_read s)) (sym same) reads), unread s topic reads ss none.1)

-- in the end each topic that is written is deeper than nothing
some-depth : (depth : ℕ → ℕ) (ss : List Sub) → StandInOrder ss → (s : Sub) → Contains ss s → 0 < depth_after depth ss s.output
unfolding depth_after
some-depth depth [] order s among = absurd (no-member s among)
some-depth depth (x ∷ ss) order s among = by (Contains-cases x ss s among) (some-depth (with_depth depth x) ss order.2 s)
  where
    after : ℕ → ℕ
    after = depth_after (with_depth depth x) ss

    by : (x ≡ s) ⊎ Contains ss s → (Contains ss s → 0 < after s.output) → 0 < after s.output
    by (inl same) rest =
        let now : after x.output ≡ with_depth depth x x.output = depth-kept (with_depth depth x) ss x.output order.1 in
        let own : with_depth depth x x.output ≡ 1 + greatest (map (λ (i : SubInput). depth i.topic) x.inputs) = with-own depth x in
        subst (λ (y : Sub). 0 < after y.output) same (omega (arith, now, own))
    by (inr later) rest = rest later

-- and deeper than the topics that its writer reads
deeper : (depth : ℕ → ℕ) (ss : List Sub) → StandInOrder ss → (s : Sub) → Contains ss s → (input : SubInput) → Contains s.inputs input →
    depth_after depth ss input.topic < depth_after depth ss s.output
unfolding depth_after
deeper depth [] order s among input reads = absurd (no-member s among)
deeper depth (x ∷ ss) order s among input reads = by (Contains-cases x ss s among) (λ later. deeper (with_depth depth x) ss order.2 s later input reads)
  where
    after : ℕ → ℕ
    after = depth_after (with_depth depth x) ss

    first : Contains x.inputs input → after input.topic < after x.output
    first own =
        let apart : AllByRecursion (λ (t : Sub). t.output ≡ input.topic → ⊥) (x ∷ ss) = unread x input.topic (map-member (λ (i : SubInput). i.topic) x.inputs input own) (x ∷ ss) order.0 in
        let before : after input.topic ≡ depth input.topic = depth-kept (with_depth depth x) ss input.topic apart.1 ∙ with-other depth x input.topic apart.0 in
        let now : after x.output ≡ with_depth depth x x.output = depth-kept (with_depth depth x) ss x.output order.1 in
        let most : depth input.topic ≤ greatest (map (λ (i : SubInput). depth i.topic) x.inputs) = greatest-of (λ (i : SubInput). depth i.topic) x.inputs input own in
        let more : with_depth depth x x.output ≡ 1 + greatest (map (λ (i : SubInput). depth i.topic) x.inputs) = with-own depth x in
        omega (arith, before, now, most, more)

    by : (x ≡ s) ⊎ Contains ss s → (Contains ss s → after input.topic < after s.output) → after input.topic < after s.output
    by (inl same) rest = subst (λ (y : Sub). after input.topic < after y.output) same (first (subst (λ (y : Sub). Contains y.inputs input) (sym same) reads))
    by (inr later) rest = rest later

-- ---- the lowest of equal numbers

pub lowest-all : {A : Type 0} (n m : ℕ) (f : A → ℕ) (xs : List A) → n ≡ m → ((x : A) → Contains xs x → f x ≡ m) → lowest n f xs ≡ m
lowest-all n m f [] same all = same
lowest-all {A} n m f (x ∷ xs) same all = more x xs all
  where
    more : (y : A) (ys : List A) → ((z : A) → Contains (y ∷ ys) z → f z ≡ m) → least f y ys ≡ m
    more y [] all = all y (Contains-here y [])
    more y (z ∷ zs) all =
        let first : f y ≡ m = all y (Contains-here y (z ∷ zs)) in
        let rest : least f z zs ≡ m = more z zs (λ a among. all a (Contains-next y a (z ∷ zs) among)) in
        omega (arith, first, rest)

-- ---- rounds

-- rounds leave the last feed and the order of consumption
pub rounds-fed : (t : Topology) (n : ℕ) (p : Progress) → (rounds t n p).fed ≡ p.fed
rounds-fed t zero p = refl
rounds-fed t (suc n) p = rounds-fed t n (round None t p)

pub rounds-order : (t : Topology) (n : ℕ) (p : Progress) → (rounds t n p).order ≡ p.order
rounds-order t zero p = refl
rounds-order t (suc n) p = rounds-order t n (round None t p)

module _ (items : List Item) (sound : IsSound items) where
  abbrev top : Topology
  top = topology_of items

  -- the depth of a topic
  abbrev deep : ℕ → ℕ
  deep topic = depth_after (λ t. 0) (subs items) topic

  within-chain : (s : Sub) → Contains (subs items) s → deep s.output ≤ chain_of (subs items)
  within-chain s among = greatest-of (λ (x : Sub). depth_after (λ t. 0) (subs items) x.output) (subs items) s among

  -- a task reads what its sub-topology reads
  inputs-of : (s : Sub) (u : TaskName) → Contains (subs items) s → Contains (tasks_of_sub s) u → inputs_at top u ≡ s.inputs
  inputs-of s u among task = ap (λ o. unwrap_or (option_map (λ (x : Sub). x.inputs) o) []) (sub-of items sound s u among task)

  -- who writes a topic is a task of the sub-topology that writes it
  writer-sub : (topic : ℕ) (u : TaskName) → Contains ((routes_of top.topics).writers topic) u → (s : Sub) × Contains (subs items) s × Contains (tasks_of_sub s) u × (s.output ≡ topic)
  writer-sub topic u writes =
      let written = (wired-well items sound).written_by topic u writes in
      let found = member-flat tasks_of_sub (subs items) u written.0 in
      (found.0, found.1, found.2, sym (output-of items sound found.0 u found.1 found.2) ∙ written.1)

  -- each task is done with the last feed
  abbrev pub AreDone : Progress → Type 0
  AreDone p = (u : TaskName) → Contains (tasks_of top.subs) u → p.done u ≡ p.fed

  -- where tasks are done with this feed, a topic is closed for it
  closed-at : (p : Progress) (n topic : ℕ) → p.fed ≡ n → ((u : TaskName) → Contains ((routes_of top.topics).writers topic) u → p.done u ≡ n) → closed top p topic ≡ n
  closed-at p n topic fed done = lowest-all p.fed n p.done ((routes_of top.topics).writers topic) fed done

  -- each task has an owner, which takes part in a round without losses
  abbrev pub AreOwned : Progress → Type 0
  AreOwned p = (u : TaskName) → Contains (tasks_of top.subs) u → takes_part None (owner_of p.owners u) ≡ true

  -- ---- by depth

  -- the tasks that write topics up to a depth are done with the last feed
  abbrev AreDoneTo : ℕ → Progress → Type 0
  AreDoneTo n p = (s : Sub) → Contains (subs items) s → deep s.output ≤ n → (u : TaskName) → Contains (tasks_of_sub s) u → p.done u ≡ p.fed

  -- a round goes one level deeper
  round-deeper : (n : ℕ) (p : Progress) → AreOwned p → AreDoneTo n p → AreDoneTo (suc n) (round None top p)
  round-deeper n p owned done s among low u task =
      ap (λ (c : Bool). if c then bound top p u else p.done u) (owned u (flat-member tasks_of_sub (subs items) s u among task))
      ∙ lowest-all p.fed p.fed (λ (i : SubInput). closed top p i.topic) (inputs_at top u) refl by
    where
      by : (i : SubInput) → Contains (inputs_at top u) i → closed top p i.topic ≡ p.fed
      by i reads = closed-at p p.fed i.topic refl each
        where
          under : deep i.topic < deep s.output
          under = deeper (λ t. 0) (subs items) (subs-in-order items sound) s among i (subst (λ inputs. Contains inputs i) (inputs-of s u among task) reads)

          each : (v : TaskName) → Contains ((routes_of top.topics).writers i.topic) v → p.done v ≡ p.fed
          each v writes =
              let found = writer-sub i.topic v writes in
              let same : deep found.0.output ≡ deep i.topic = ap deep found.3 in
              done found.0 found.1 (omega (arith, same, under, low)) v found.2

  -- no topic that is written has the depth 0
  none-done : (p : Progress) → AreDoneTo 0 p
  none-done p s among low u task = let some : 0 < deep s.output = some-depth (λ t. 0) (subs items) (subs-in-order items sound) s among in absurd (omega (arith, some, low))

  rounds-deeper : (n k : ℕ) (p : Progress) → AreOwned p → chain_of (subs items) ≤ k + n → AreDoneTo k p → AreDone (rounds top n p)
  rounds-deeper zero k p owned enough done = λ u task.
      let found = member-flat tasks_of_sub (subs items) u task in
      let low : deep found.0.output ≤ chain_of (subs items) = within-chain found.0 found.1 in
      done found.0 found.1 (omega (arith, low, enough)) u found.2
  rounds-deeper (suc n) k p owned enough done = rounds-deeper n (suc k) (round None top p) owned (omega (arith, enough)) (round-deeper k p owned done)

  -- ---- a drain

  -- as many rounds as the longest path has sub-topologies bring each task to the last feed, wherever it was
  pub drained : (p : Progress) → AreOwned p → (u : TaskName) → Contains (tasks_of top.subs) u → (rounds top (chain_of top.subs) p).done u ≡ p.fed
  drained p owned u task = rounds-deeper (chain_of (subs items)) 0 p owned (omega arith) (none-done p) u task ∙ rounds-fed top (chain_of top.subs) p

-- a task among the owned ones has an owner
pub owned-some : (owners : List Owned) (u : TaskName) → Contains (map (λ (o : Owned). o.task) owners) u → takes_part None (owner_of owners u) ≡ true
owned-some [] u among = absurd (no-member u among)
owned-some (o ∷ os) u among = by (owner_of os u) refl (Contains-cases o.task (map (λ (x : Owned). x.task) os) u among) (owned-some os u)
  where
    named : o.task ≡ u → ((o.task.sub == u.sub) && (o.task.part == u.part)) ≡ true
    named same = ap₂ (λ a b. a && b) (eq-eqb o.task.sub u.sub (ap (λ (v : TaskName). v.sub) same)) (eq-eqb o.task.part u.part (ap (λ (v : TaskName). v.part) same))

    by : (x : Option ℕ) → owner_of os u ≡ x → (o.task ≡ u) ⊎ Contains (map (λ (x : Owned). x.task) os) u → (Contains (map (λ (x : Owned). x.task) os) u → takes_part None (owner_of os u) ≡ true) →
        takes_part None (option_or (owner_of os u) (if (o.task.sub == u.sub) && (o.task.part == u.part) then Some o.worker else None)) ≡ true
    by (Some w) is either rest = ap (λ (x : Option ℕ). takes_part None (option_or x (if (o.task.sub == u.sub) && (o.task.part == u.part) then Some o.worker else None))) is
    by None is (inl same) rest = (λ i. takes_part None (option_or (is i) (if named same i then Some o.worker else None)))
    by None is (inr later) rest = absurd (true≢false (sym (rest later) ∙ ap (takes_part None) is))

-- ---- one feed of all there is, and a drain

-- what a feed brings of all sources is all that is fed of their files
whole-fed : (items : List Item) (files : List TopicLines) → flat_map (fed_of 1 whole) (sources_of items files) ≡ all_fed at_once (declared_of items) files
unfolding fed_in
whole-fed [] [] = refl
whole-fed [] (file ∷ files) = refl
whole-fed (Declared r ∷ items) [] = refl
whole-fed (Declared r ∷ items) (file ∷ files) = ap (λ (rest : List SourceRecord). fed_in r [] 1 (at_once r file.feds) file.feds ++ rest) (whole-fed items files)
whole-fed (Started q ∷ items) files = whole-fed items files

module _ (items : List Item) (files : List TopicLines) (workers : ℕ) where
  -- how far a program is after it was fed once and drained
  abbrev pub fed_once : Progress
  fed_once = after_steps (topology_of items) (opening (topology_of items) items files workers) (record { line = 1; step = step.FeedAll } ∷ record { line = 2; step = step.Drain } ∷ [])

  -- and the order of consumption is that of all records of the files in one feed
  pub fed-once-order : fed_once.order ≡ order_of at_once (declared_of items) files
  fed-once-order = rounds-order (topology_of items) (chain_of (topology_of items).subs) _ ∙ ap (ascending record_cmp) (whole-fed items files)
