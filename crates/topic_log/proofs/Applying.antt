-- A commit to a topic is a commit of the broker.
use Rattle.std.proofs.Common.{◌≡◌, ◌∙◌, ◌⊎◌, ap, ap₂, refl, sym, subst, inl, inr, ℕ, ◌+◌, ◌<◌, ◌≤◌, Bool, true, false, cond, List, [], ◌∷◌, ◌++◌, length, map, get_or, set, arith, Option, Some, None, vec_capacity}
use Rattle.std.specs.Prelude.{All, IfSome, ◌&&◌, ◌==◌, option_and_then, option_map, slice_get, unwrap_or}
use Rattle.std.specs.Global.{Vec}
use Rattle.std.specs.List.{flat_map, range_with_len}
use Rattle.std.proofs.Math.ListN.{get_or-map}
use Rattle.std.proofs.lemmas.Bool.{cases_eq, cases_lt, cond-false, cond-true, eq-eqb, ne_eqb}
use Rattle.std.proofs.lemmas.List.{get_or-set_other, get_or-set_same, length-map, length-set}
use Rattle.std.proofs.lemmas.List.Elements.{All-filter}
use Rattle.std.proofs.lemmas.List.FromFn.{fill_by_all}
use Rattle.std.proofs.lemmas.List.Kept.{AllPairs-filter}
use Rattle.std.proofs.lemmas.Option.{same_Some, slice_get-map, slice_get_past, unwrap_or-slice_get}
use Rattle.std.specs.declared.cmp.Ordering.TheVariants.{Less}
use Rattle.ksql_types.specs.Lane.{lane}
use Rattle.ksql_types.specs.declared.relation.StoreEntry.{StoreEntry}
use Rattle.ksql_types.specs.declared.relation.TaskName.{TaskName}
use Rattle.ksql_types.specs.declared.topic.TopicSpec.{TopicSpec}
use Rattle.ksql_types.specs.declared.value.Value.{Value}
use Rattle.ksql_place.specs.Ascending.{Rises, ascending}
use Rattle.ksql_place.specs.Routing.{change_cmp, partitions_of}
use Rattle.ksql_place.specs.declared.change.Change.{Change}
use Rattle.core_state.specs.Routes.{IsWriter, Routes, merged, sent_to, tasks_of_writer}
use Rattle.core_state.specs.Shelf.{ShelfApplies, shelf_closed}
use Rattle.core_state.specs.State.{after, feed_of, upto}
use Rattle.core_state.specs.declared.log.LogEntry.{LogEntry}
use Rattle.core_state.specs.declared.log.LogEntry.TheVariants.{Said}
use Rattle.core_state.specs.declared.log.Proposal.{Proposal}
use Rattle.topic_log.specs.Commits.{PartCommits, TopicCommits, TopicFits, gathered, waiting_lists}
use Rattle.topic_log.specs.Entries.{shown_in}
use Rattle.topic_log.specs.Ready.{HasRoom, IsReady}
use Rattle.topic_log.specs.Shelves.{AreShelves, IsTopic, IsPartShelf, IsTopicShelf, Waits, closed_in, dones_of, part_at, routes_in, shelf_of, task_at, topics_of, waiting_in}
use Rattle.topic_log.proofs.Contents.{shows-sent}
use Rattle.topic_log.specs.declared.prepared.Prepared.{Prepared}
use Rattle.topic_log.specs.declared.shelves.PartShelf.{PartShelf}
use Rattle.topic_log.specs.declared.shelves.Shelves.{Shelves}
use Rattle.topic_log.specs.declared.shelves.TaskShelf.{TaskShelf}
use Rattle.topic_log.specs.declared.shelves.TopicShelf.{TopicShelf}
use Rattle.topic_log.proofs.Kept.{zip-long}
use Rattle.topic_log.proofs.Read.{read-topic}
use Rattle.topic_log.proofs.OneTopic.{All-slice_get, IfSome-at, Replaces, Writes, closed-is, is-writer, length-tasks, map-map, output-of, part-else, part-there, part-was, routes-same, same-task, shelves-kept, slice_get-set_else, slice_get-set_same, slice_get-some, task-else, task-there, task-was, topic-there, writers-of, writes}

-- ---- where changes go

lane_low : (key : List Value) (n home : ℕ) → 1 ≤ n → lane key n home < n
lane_low [] n home some = omega arith
lane_low (first ∷ more) n home some = omega arith

-- nothing goes beyond the last partition
none_sent : (r : Routes) (t : TaskName) (q : ℕ) (xs : List Change) → ((x : Change) → r.lane_of t x < q) → sent_to r t q xs ≡ []
none_sent r t q [] low = refl
none_sent r t q (x ∷ xs) low =
    cond-false (r.lane_of t x == q) (x ∷ sent_to r t q xs) (sent_to r t q xs) (ne_eqb (r.lane_of t x) q (λ e. let below = low x in omega (arith, below, e))) ∙ none_sent r t q xs low

-- ---- tasks

abbrev is_task : TaskName → TaskName → Bool
is_task u v = (u.sub == v.sub) && (u.part == v.part)

task_cases : (u v : TaskName) → (u ≡ v) ⊎ (¬ (u ≡ v))
task_cases u v = by (cases_eq u.sub v.sub) (cases_eq u.part v.part)
  where
    by : (u.sub ≡ v.sub) ⊎ (¬ (u.sub ≡ v.sub)) → (u.part ≡ v.part) ⊎ (¬ (u.part ≡ v.part)) → (u ≡ v) ⊎ (¬ (u ≡ v))
    by (inl sub) (inl part) = inl (λ i. record { sub = sub i; part = part i })
    by (inl sub) (inr part) = inr (λ e. part (ap (λ (t : TaskName). t.part) e))
    by (inr sub) part = inr (λ e. sub (ap (λ (t : TaskName). t.sub) e))

is_task-itself : (u : TaskName) → is_task u u ≡ true
is_task-itself u = ap₂ (λ a b. a && b) (eq-eqb u.sub u.sub refl) (eq-eqb u.part u.part refl)

is_task-else : (u v : TaskName) → ¬ (u ≡ v) → is_task u v ≡ false
is_task-else u v apart = by (cases_eq u.sub v.sub) (cases_eq u.part v.part)
  where
    and_no : (b : Bool) → (b && false) ≡ false
    and_no true = refl
    and_no false = refl

    by : (u.sub ≡ v.sub) ⊎ (¬ (u.sub ≡ v.sub)) → (u.part ≡ v.part) ⊎ (¬ (u.part ≡ v.part)) → is_task u v ≡ false
    by (inl sub) (inl part) = absurd (apart (λ i. record { sub = sub i; part = part i }))
    by (inl sub) (inr part) = ap (λ b. (u.sub == v.sub) && b) (ne_eqb u.part v.part part) ∙ and_no (u.sub == v.sub)
    by (inr sub) part = ap (λ b. b && (u.part == v.part)) (ne_eqb u.sub v.sub sub)

-- ---- what a partition has, before and after

-- what waits of each writer in a partition, with what the task sent there
abbrev gather : Shelves → TaskName → List Change → TaskName → ℕ → List Change
gather s t sent u q = cond (is_task u t) ((shelf_of s).waiting u q ++ sent) ((shelf_of s).waiting u q)

-- a partition of the topic that the task writes, before and after the commit
record Inside (s next : Shelves) (closed writer topic q : ℕ) (sent : List Change) : Type 0 where
  part : PartShelf
  made : PartShelf
  was : part_at s topic q ≡ Some part
  now : part_at next topic q ≡ Some made
  commits : PartCommits closed writer sent part made
  within : writer < length part.waiting.items

pub waiting_in-lists : (k : ℕ) (p : PartShelf) → waiting_in k p ≡ get_or (waiting_lists p) k []
waiting_in-lists k p = ap (λ (o : Option (List Change)). unwrap_or o []) (sym (slice_get-map (λ w. w.items) p.waiting.items k)) ∙ unwrap_or-slice_get (waiting_lists p) k []

abbrev waiting_at : ℕ → Option PartShelf → List Change
waiting_at k o = unwrap_or (option_map (waiting_in k) o) []

abbrev shown_at : Option PartShelf → List LogEntry
shown_at o = unwrap_or (option_map shown_in o) []

module _ (s next : Shelves) (closed writer topic q : ℕ) (sent : List Change) (h : Inside s next closed writer topic q sent) where
  waiting-was : (u : TaskName) → (routes_in s).output u ≡ topic → (shelf_of s).waiting u q ≡ get_or (waiting_lists h.part) u.part []
  waiting-was u to =
      ap (λ (i : ℕ). waiting_at u.part (part_at s i q)) to ∙ ap (waiting_at u.part) h.was ∙ waiting_in-lists u.part h.part

  waiting-now : (u : TaskName) → (routes_in next).output u ≡ topic → (shelf_of next).waiting u q ≡ after closed (get_or (gathered writer sent h.part) u.part [])
  waiting-now u to =
      ap (λ (i : ℕ). waiting_at u.part (part_at next i q)) to ∙ ap (waiting_at u.part) h.now ∙ waiting_in-lists u.part h.made
      ∙ ap (λ (ls : List (List Change)). get_or ls u.part []) h.commits.waiting ∙ get_or-map (after closed) (gathered writer sent h.part) u.part []

  gather-is : (u t : TaskName) → (routes_in s).output u ≡ topic → t.part ≡ writer → (u.part ≡ t.part → u ≡ t) → gather s t sent u q ≡ get_or (gathered writer sent h.part) u.part []
  gather-is u t to at same = by (task_cases u t)
    where
      long : length (waiting_lists h.part) ≡ length h.part.waiting.items
      long = length-map h.part.waiting.items (λ w. w.items)

      by : (u ≡ t) ⊎ (¬ (u ≡ t)) → gather s t sent u q ≡ get_or (gathered writer sent h.part) u.part []
      by (inl is) =
          let part : u.part ≡ writer = ap (λ (v : TaskName). v.part) is ∙ at in
          let inside : writer < length (waiting_lists h.part) = let within = h.within in let l = long in omega (arith, within, l) in
          cond-true (is_task u t) ((shelf_of s).waiting u q ++ sent) ((shelf_of s).waiting u q) (ap (λ (v : TaskName). is_task u v) (sym is) ∙ is_task-itself u)
          ∙ ap (λ (xs : List Change). xs ++ sent) (waiting-was u to ∙ ap (λ (k : ℕ). get_or (waiting_lists h.part) k []) part ∙ sym (waiting_in-lists writer h.part))
          ∙ sym (get_or-set_same (waiting_lists h.part) writer (waiting_in writer h.part ++ sent) [] inside)
          ∙ ap (λ (k : ℕ). get_or (gathered writer sent h.part) k []) (sym part)
      by (inr apart) =
          cond-false (is_task u t) ((shelf_of s).waiting u q ++ sent) ((shelf_of s).waiting u q) (is_task-else u t apart)
          ∙ waiting-was u to
          ∙ sym (get_or-set_other (waiting_lists h.part) writer u.part (waiting_in writer h.part ++ sent) [] (λ e. apart (same (e ∙ sym at))))

  shown-now : (shelf_of next).shown topic q ≡ (shelf_of s).shown topic q ++ map Said (merged (map (upto closed) (gathered writer sent h.part)))
  shown-now = ap shown_at h.now ∙ shows-sent h.part h.made (merged (map (upto closed) (gathered writer sent h.part))) h.commits.fed h.commits.said ∙ ap (λ (xs : List LogEntry). xs ++ map Said (merged (map (upto closed) (gathered writer sent h.part)))) (sym (ap shown_at h.was))

-- ---- what was prepared fits

spec-at : (s : Shelves) (i : ℕ) (t : TopicShelf) → slice_get s.topics.items i ≡ Some t → slice_get (topics_of s) i ≡ Some t.spec
spec-at s i t at = slice_get-map (λ (t : TopicShelf). t.spec) s.topics.items i ∙ ap (option_map (λ (t : TopicShelf). t.spec)) at

parts-at : (s : Shelves) (i : ℕ) (t : TopicShelf) → slice_get s.topics.items i ≡ Some t → partitions_of (topics_of s) i ≡ t.spec.partitions
parts-at s i t at = ap (λ (o : Option TopicSpec). unwrap_or (option_map (λ x. x.partitions) o) 1) (spec-at s i t at)

module _ (s : Shelves) (made : Prepared) (p : Proposal) (are : AreShelves s) (ready : IsReady s made p) (w : Writes s p.task) where
  abbrev topic : ℕ
  topic = (routes_in s).output p.task

  shelf-kept : IsTopicShelf s.fed w.topic
  shelf-kept = All-slice_get (IsTopicShelf s.fed) s.topics.items topic w.topic are.each w.at

  part-is : made.task.part ≡ p.task.part
  part-is = ap (λ (t : TaskName). t.part) ready.task

  parts-are : length made.sent.items ≡ length w.topic.parts.items
  parts-are = ready.parts ∙ parts-at s topic w.topic w.at ∙ sym shelf-kept.parts

  part-here : (q : ℕ) (part : PartShelf) → slice_get w.topic.parts.items q ≡ Some part → part_at s topic q ≡ Some part
  part-here q part at = ap (λ (o : Option TopicShelf). option_and_then (λ t. slice_get t.parts.items q) o) w.at ∙ at

  sent-is : (q : ℕ) (part : PartShelf) (xs : Vec Change) → slice_get w.topic.parts.items q ≡ Some part → slice_get made.sent.items q ≡ Some xs → xs.items ≡ sent_to (routes_in s) p.task q p.outputs
  sent-is q part xs at there =
      IfSome-at (λ (xs : Vec Change). xs.items ≡ sent_to (routes_in s) p.task q p.outputs) (slice_get made.sent.items q) xs there
      (IfSome-at (λ (part : PartShelf). IfSome (slice_get made.sent.items q) (λ xs. xs.items ≡ sent_to (routes_in s) p.task q p.outputs)) (part_at s topic q) part (part-here q part at) (ready.sent q))

  room-is : (q : ℕ) (part : PartShelf) → slice_get w.topic.parts.items q ≡ Some part → HasRoom p.task.part (length (sent_to (routes_in s) p.task q p.outputs)) part
  room-is q part at = IfSome-at (HasRoom p.task.part (length (sent_to (routes_in s) p.task q p.outputs))) (part_at s topic q) part (part-here q part at) (ready.rooms q)

  pub topic-fits : (shelf_of s).done made.task ≡ made.from → TopicFits made w.topic
  topic-fits begins = record {
    rises = let up = ready.proposal.rises in omega (arith, up, ready.from, ready.to);
    task = (
      w.kept,
      ap (slice_get w.topic.tasks.items) part-is ∙ w.there,
      record {
        begins = sym (ap (λ (t : TaskName). (shelf_of s).done t) ready.task ∙ ap (λ (o : Option TaskShelf). unwrap_or (option_map (λ k. k.done) o) 0) w.task) ∙ begins;
        room =
            let room : length w.kept.logs.items + length p.entries ≤ vec_capacity w.kept.logs = IfSome-at (λ (k : TaskShelf). length k.logs.items + length p.entries ≤ vec_capacity k.logs) (task_at s p.task) w.kept w.task ready.room in
            subst (λ (es : List StoreEntry). length w.kept.logs.items + length es ≤ vec_capacity w.kept.logs) (sym ready.entries) room;
      },
    );
    parts = parts-are;
    each = λ q part xs at there.
        let is : xs.items ≡ sent_to (routes_in s) p.task q p.outputs = sent-is q part xs at there in
        record {
          ascends = subst (Rises change_cmp) (sym is) (AllPairs-filter (λ a b. change_cmp a b ≡ Less) (λ x. (routes_in s).lane_of p.task x == q) p.outputs ready.proposal.ascends);
          within =
              subst (All (λ x. (made.from < feed_of x) × (feed_of x ≤ made.to))) (sym is)
              (subst (λ (n : ℕ). All (λ x. (n < feed_of x) × (feed_of x ≤ made.to)) (sent_to (routes_in s) p.task q p.outputs)) (sym ready.from)
              (subst (λ (n : ℕ). All (λ x. (p.from < feed_of x) × (feed_of x ≤ n)) (sent_to (routes_in s) p.task q p.outputs)) (sym ready.to)
              (All-filter (λ x. (routes_in s).lane_of p.task x == q) (λ x. (p.from < feed_of x) × (feed_of x ≤ p.to)) p.outputs ready.proposal.within)));
          room =
              subst (λ (k : ℕ). HasRoom k (length xs.items) part) (sym part-is)
              (subst (λ (us : List Change). HasRoom p.task.part (length us) part) (sym is) (room-is q part at));
        };
  }

-- ---- what it becomes

nothing_there : (f : ℕ → List Change) → ((k : ℕ) → f k ≡ []) → (ks : List ℕ) → flat_map (λ xs. xs) (map f ks) ≡ []
nothing_there f none [] = refl
nothing_there f none (k ∷ ks) = ap₂ (λ (us vs : List Change). us ++ vs) (none k) (nothing_there f none ks)

module _ (s next : Shelves) (made : Prepared) (p : Proposal) (changed : TopicShelf) (are : AreShelves s) (ready : IsReady s made p) (w : Writes s p.task)
    (h : Replaces s next ((routes_in s).output p.task) w.topic changed) (fed : next.fed ≡ s.fed) (kept : IsTopicShelf s.fed changed) (c : TopicCommits s.fed made w.topic changed) where
  abbrev there : ℕ
  there = (routes_in s).output p.task

  abbrev mine : ℕ
  mine = p.task.part

  abbrev closed : ℕ
  closed = closed_in s.fed changed

  abbrev to_part : ℕ → List Change
  to_part q = sent_to (routes_in s) p.task q p.outputs

  pub next-kept : AreShelves next
  next-kept = shelves-kept h fed (subst (λ (n : ℕ). IsTopicShelf n changed) (sym fed) kept) are

  pub closed-now : shelf_closed (routes_in s) (shelf_of next) there ≡ closed
  closed-now =
      ap (λ (r : Routes). shelf_closed r (shelf_of next) there) (sym (routes-same h))
      ∙ closed-is next next-kept there changed (topic-there h)
      ∙ ap (λ (n : ℕ). closed_in n changed) fed

  mine-is : made.task.part ≡ mine
  mine-is = ap (λ (t : TaskName). t.part) ready.task

  -- ---- tasks

  tasks-set : changed.tasks.items ≡ set w.topic.tasks.items mine c.task.1
  tasks-set = c.task.3 ∙ ap (λ (k : ℕ). set w.topic.tasks.items k c.task.1) mine-is

  kept-is : c.task.0 ≡ w.kept
  kept-is = same_Some c.task.0 w.kept (sym c.task.2 ∙ ap (slice_get w.topic.tasks.items) mine-is ∙ w.there)

  task-now : task_at next p.task ≡ Some c.task.1
  task-now =
      task-there h p.task refl ∙ ap (λ (ks : List TaskShelf). slice_get ks mine) tasks-set
      ∙ slice_get-set_same w.topic.tasks.items mine w.kept c.task.1 w.there

  task-stays : (u : TaskName) → IsWriter (routes_in s) u → ¬ (u ≡ p.task) → task_at next u ≡ task_at s u
  task-stays u is apart = by (cases_eq ((routes_in s).output u) there)
    where
      by : ((routes_in s).output u ≡ there) ⊎ (¬ ((routes_in s).output u ≡ there)) → task_at next u ≡ task_at s u
      by (inl to) =
          task-there h u to ∙ ap (λ (ks : List TaskShelf). slice_get ks u.part) tasks-set
          ∙ slice_get-set_else w.topic.tasks.items mine u.part c.task.1 (λ e. apart (same-task s u p.task is ready.writer to e))
          ∙ sym (task-was h u to)
      by (inr else) = task-else h u else

  newest-now : (u : TaskName) → IsWriter (routes_in s) u → (shelf_of next).newest u ≡ (shelf_of s).newest u
  newest-now u is = by (task_cases u p.task)
    where
      by : (u ≡ p.task) ⊎ (¬ (u ≡ p.task)) → (shelf_of next).newest u ≡ (shelf_of s).newest u
      by (inl e) =
          subst (λ (v : TaskName). (shelf_of next).newest v ≡ (shelf_of s).newest v) (sym e)
          (ap (λ (o : Option TaskShelf). unwrap_or (option_map (λ k. k.newest) o) 0) task-now ∙ c.task.4.newest ∙ ap (λ (k : TaskShelf). k.newest) kept-is
          ∙ sym (ap (λ (o : Option TaskShelf). unwrap_or (option_map (λ k. k.newest) o) 0) w.task))
      by (inr apart) = ap (λ (o : Option TaskShelf). unwrap_or (option_map (λ k. k.newest) o) 0) (task-stays u is apart)

  logs-now : (shelf_of next).logs p.task ≡ (shelf_of s).logs p.task ++ p.entries
  logs-now =
      ap (λ (o : Option TaskShelf). unwrap_or (option_map (λ k. k.logs.items) o) []) task-now ∙ c.task.4.logs
      ∙ ap₂ (λ (k : TaskShelf) (es : List StoreEntry). k.logs.items ++ es) kept-is ready.entries
      ∙ ap (λ (ls : List StoreEntry). ls ++ p.entries) (sym (ap (λ (o : Option TaskShelf). unwrap_or (option_map (λ k. k.logs.items) o) []) w.task))

  -- ---- partitions

  writers-long : (part : PartShelf) → IsPartShelf (closed_in s.fed w.topic) (dones_of w.topic) part → length part.waiting.items ≡ length w.topic.tasks.items
  writers-long part shelf =
      sym (zip-long (λ d xs. Waits (closed_in s.fed w.topic) d xs.items) (dones_of w.topic) part.waiting.items shelf.waits) ∙ length-map w.topic.tasks.items (λ k. k.done)

  part-shelf : (q : ℕ) (part : PartShelf) → slice_get w.topic.parts.items q ≡ Some part → IsPartShelf (closed_in s.fed w.topic) (dones_of w.topic) part
  part-shelf q part at = All-slice_get (IsPartShelf (closed_in s.fed w.topic) (dones_of w.topic)) w.topic.parts.items q part (shelf-kept s made p are ready w).each at

  inside : (q : ℕ) → q < length w.topic.parts.items → Inside s next closed mine there q (to_part q)
  inside q below =
      let was = slice_get-some w.topic.parts.items q below in
      let sent = slice_get-some made.sent.items q (let same = parts-are s made p are ready w in omega (arith, below, same)) in
      let part = c.each q was.0 sent.0 was.1 sent.1 in
      let shelf = part-shelf q was.0 was.1 in
      record {
        part = was.0;
        made = part.0;
        was = part-was h q ∙ was.1;
        now = part-there h q ∙ part.1;
        commits =
            subst (λ (xs : List Change). PartCommits closed mine xs was.0 part.0) (sent-is s made p are ready w q was.0 sent.0 was.1 sent.1)
            (subst (λ (k : ℕ). PartCommits closed k sent.0.items was.0 part.0) mine-is part.2);
        within = let long = writers-long was.0 shelf in let low = w.within in omega (arith, long, low);
      }

  -- what waits, with what was sent
  abbrev gathers : TaskName → ℕ → List Change
  gathers u q = gather s p.task (to_part q) u q

  now-to : (u : TaskName) → (routes_in s).output u ≡ there → (routes_in next).output u ≡ there
  now-to u to = ap (λ (r : Routes). r.output u) (routes-same h) ∙ to

  outside-was : (q : ℕ) → length w.topic.parts.items ≤ q → part_at s there q ≡ None
  outside-was q past = part-was h q ∙ slice_get_past w.topic.parts.items q past

  outside-now : (q : ℕ) → length w.topic.parts.items ≤ q → part_at next there q ≡ None
  outside-now q past = part-there h q ∙ slice_get_past changed.parts.items q (let same = c.parts in omega (arith, past, same))

  none-to : (q : ℕ) → length w.topic.parts.items ≤ q → to_part q ≡ []
  none-to q past =
      none_sent (routes_in s) p.task q p.outputs
      (λ x.
      let n : ℕ = partitions_of (topics_of s) there in
      let count : n ≡ w.topic.spec.partitions = parts-at s there w.topic w.at in
      let topic-is : IsTopic w.topic.spec = All-slice_get IsTopic (topics_of s) there w.topic.spec are.topics.each (spec-at s there w.topic w.at) in
      let some : 1 ≤ w.topic.spec.partitions = topic-is.some in
      let parts : length w.topic.parts.items ≡ w.topic.spec.partitions = (shelf-kept s made p are ready w).parts in
      let low : lane x.key n x.place.stamp.part < n = lane_low x.key n x.place.stamp.part (omega (arith, count, some)) in
      omega (arith, low, count, parts, past))

  none-gathers : (u : TaskName) (q : ℕ) → (routes_in s).output u ≡ there → length w.topic.parts.items ≤ q → gathers u q ≡ []
  none-gathers u q to past =
      ap₂ (λ (us vs : List Change). cond (is_task u p.task) (us ++ vs) us)
      (ap (λ (i : ℕ). waiting_at u.part (part_at s i q)) to ∙ ap (waiting_at u.part) (outside-was q past)) (none-to q past)
      ∙ either (is_task u p.task) [] refl
    where
      either : (b : Bool) (us : List Change) → us ≡ [] → cond b (us ++ us) us ≡ []
      either true us none = ap (λ (vs : List Change). vs ++ vs) none
      either false us none = none

  waiting-next : (u : TaskName) → IsWriter (routes_in s) u → (routes_in s).output u ≡ there → (q : ℕ) → (shelf_of next).waiting u q ≡ after closed (gathers u q)
  waiting-next u is to q = by (cases_lt q (length w.topic.parts.items))
    where
      by : (q < length w.topic.parts.items) ⊎ (length w.topic.parts.items ≤ q) → (shelf_of next).waiting u q ≡ after closed (gathers u q)
      by (inl below) =
          let at = inside q below in
          waiting-now s next closed mine there q (to_part q) at u (now-to u to)
          ∙ ap (after closed) (sym (gather-is s next closed mine there q (to_part q) at u p.task to refl (λ e. same-task s u p.task is ready.writer to e)))
      by (inr past) =
          ap (λ (i : ℕ). waiting_at u.part (part_at next i q)) (now-to u to) ∙ ap (waiting_at u.part) (outside-now q past)
          ∙ ap (after closed) (sym (none-gathers u q to past))

  waiting-stays : (u : TaskName) → ¬ ((routes_in s).output u ≡ there) → (q : ℕ) → (shelf_of next).waiting u q ≡ (shelf_of s).waiting u q
  waiting-stays u else q =
      ap (λ (r : Routes). waiting_at u.part (part_at next (r.output u) q)) (routes-same h) ∙ ap (waiting_at u.part) (part-else h ((routes_in s).output u) else q)

  abbrev make : ℕ → TaskName
  make k = record { sub = w.writer.sub; part = k }

  writers-are : (routes_in s).writers there ≡ map make (range_with_len 0 w.writer.partitions)
  writers-are = writers-of s there w.topic w.at ∙ ap tasks_of_writer w.writer_is

  make-to : (k : ℕ) → (routes_in s).output (make k) ≡ there
  make-to k = output-of s are there w.topic w.writer w.at w.writer_is k

  shown-next : (q : ℕ) → (shelf_of next).shown there q ≡ (shelf_of s).shown there q ++ map Said (merged (map (λ u. upto closed (gathers u q)) ((routes_in s).writers there)))
  shown-next q = by (cases_lt q (length w.topic.parts.items))
    where
      lists : map (λ u. upto closed (gathers u q)) ((routes_in s).writers there) ≡ map (λ k. upto closed (gathers (make k) q)) (range_with_len 0 w.writer.partitions)
      lists = ap (map (λ u. upto closed (gathers u q))) writers-are ∙ map-map (λ u. upto closed (gathers u q)) make (range_with_len 0 w.writer.partitions)

      all-gathered : (at : Inside s next closed mine there q (to_part q)) → gathered mine (to_part q) at.part ≡ map (λ k. gathers (make k) q) (range_with_len 0 w.writer.partitions)
      all-gathered at =
          fill_by_all (λ k. gathers (make k) q) (gathered mine (to_part q) at.part) w.writer.partitions []
          (length-set (waiting_lists at.part) mine (waiting_in mine at.part ++ to_part q) ∙ length-map at.part.waiting.items (λ v. v.items)
          ∙ writers-long at.part (part-shelf q at.part (sym (part-was h q) ∙ at.was)) ∙ length-tasks s are there w.topic w.writer w.at w.writer_is)
          (λ k low. sym (gather-is s next closed mine there q (to_part q) at (make k) p.task (make-to k) refl
          (λ e. same-task s (make k) p.task (is-writer s are there w.topic w.writer w.at w.writer_is k low) ready.writer (make-to k) e)))

      by : (q < length w.topic.parts.items) ⊎ (length w.topic.parts.items ≤ q) → (shelf_of next).shown there q ≡ (shelf_of s).shown there q ++ map Said (merged (map (λ u. upto closed (gathers u q)) ((routes_in s).writers there)))
      by (inl below) =
          let at = inside q below in
          shown-now s next closed mine there q (to_part q) at
          ∙ ap (λ (ls : List (List Change)). (shelf_of s).shown there q ++ map Said (merged ls))
          (ap (map (upto closed)) (all-gathered at) ∙ map-map (upto closed) (λ k. gathers (make k) q) (range_with_len 0 w.writer.partitions) ∙ sym lists)
      by (inr past) =
          let none = nothing_there (λ k. upto closed (gathers (make k) q)) (λ k. ap (upto closed) (none-gathers (make k) q (make-to k) past)) (range_with_len 0 w.writer.partitions) in
          ap shown_at (outside-now q past)
          ∙ sym (ap₂ (λ (us : List LogEntry) (vs : List Change). us ++ map Said (ascending change_cmp vs)) (ap shown_at (outside-was q past)) (ap (flat_map (λ xs. xs)) lists ∙ none))

  -- the broker commits the proposal
  pub applies : ShelfApplies (routes_in s) p.task p (shelf_of s) (shelf_of next)
  applies = record {
    fed = fed;
    done = ap (λ (o : Option TaskShelf). unwrap_or (option_map (λ k. k.done) o) 0) task-now ∙ c.task.4.done ∙ ready.to;
    done_else = λ u is apart. ap (λ (o : Option TaskShelf). unwrap_or (option_map (λ k. k.done) o) 0) (task-stays u is apart);
    newest = newest-now;
    logs = logs-now;
    logs_else = λ u is apart. ap (λ (o : Option TaskShelf). unwrap_or (option_map (λ k. k.logs.items) o) []) (task-stays u is apart);
    gathered = gathers;
    own = λ q. cond-true (is_task p.task p.task) ((shelf_of s).waiting p.task q ++ to_part q) ((shelf_of s).waiting p.task q) (is_task-itself p.task);
    of_others = λ u is apart q. cond-false (is_task u p.task) ((shelf_of s).waiting u q ++ to_part q) ((shelf_of s).waiting u q) (is_task-else u p.task apart);
    waiting = λ u is to q. waiting-next u is to q ∙ ap (λ (n : ℕ). after n (gathers u q)) (sym closed-now);
    waiting_else = λ u is else q. waiting-stays u else q;
    shown = λ q. shown-next q ∙ ap (λ (n : ℕ). (shelf_of s).shown there q ++ map Said (merged (map (λ u. upto n (gathers u q)) ((routes_in s).writers there)))) (sym closed-now);
    shown_else = λ topic else q. ap shown_at (part-else h topic else q);
  }

-- ---- the same of what the code reads

module _ (s : Shelves) (made : Prepared) (p : Proposal) (are : AreShelves s) (ready : IsReady s made p) (j : ℕ) (output : j ≡ (routes_in s).output made.task) (t : TopicShelf) (read : t ≡ get_or s.topics.items j t) where
  abbrev its : Writes s p.task
  its = writes s p.task are ready.writer

  output-is : j ≡ (routes_in s).output p.task
  output-is = output ∙ ap (λ (u : TaskName). (routes_in s).output u) ready.task

  topic-is : its.topic ≡ t
  topic-is = same_Some its.topic t (sym its.at ∙ read-topic s p.task are ready.writer j output-is t read)

  pub read-fits : (shelf_of s).done made.task ≡ made.from → TopicFits made t
  read-fits begins = subst (TopicFits made) topic-is (topic-fits s made p are ready its begins)

  module _ (next : Shelves) (changed : TopicShelf) (items : next.topics.items ≡ set s.topics.items j changed) (fed : next.fed ≡ s.fed) (kept : IsTopicShelf s.fed changed) (c : TopicCommits s.fed made t changed) where
    pub replaced : Replaces s next ((routes_in s).output p.task) its.topic changed
    replaced = record {
      at = its.at;
      items = items ∙ ap (λ (i : ℕ). set s.topics.items i changed) output-is;
      spec = c.spec ∙ ap (λ (v : TopicShelf). v.spec) (sym topic-is);
    }

    commits-its : TopicCommits s.fed made its.topic changed
    commits-its = subst (λ (v : TopicShelf). TopicCommits s.fed made v changed) (sym topic-is) c

    pub read-kept : AreShelves next
    read-kept = next-kept s next made p changed are ready its replaced fed kept commits-its

    pub read-applies : ShelfApplies (routes_in s) p.task p (shelf_of s) (shelf_of next)
    read-applies = applies s next made p changed are ready its replaced fed kept commits-its
