-- A commit keeps what must hold of a topic.
use Rattle.std.proofs.Common.{◌≡◌, ◌∙◌, ap, sym, refl, subst, ℕ, zero, suc, List, [], ◌∷◌, ◌++◌, ◌<◌, ◌≤◌, length, map, get_or, set, arith, Some, Global}
use Rattle.std.specs.Prelude.{All, Option, option_map, slice_get, unwrap_or}
use Rattle.std.specs.Global.{Vec}
use Rattle.std.specs.List.{AllByRecursion, AllZip}
use Rattle.std.specs.declared.collections.VecDeque.{VecDeque}
use Rattle.std.proofs.lemmas.List.{length-map, length-set, map-set}
use Rattle.std.proofs.lemmas.List.Elements.{All-from_recursion, All-weaker}
use Rattle.std.proofs.lemmas.Option.{get_or_from_slice_get, slice_get-map, slice_get_within}
use Rattle.ksql_place.specs.Ascending.{Rises}
use Rattle.ksql_place.specs.Routing.{change_cmp}
use Rattle.ksql_place.specs.declared.change.Change.{Change}
use Rattle.core_state.specs.Routes.{merged, tasks_of_writer}
use Rattle.core_state.specs.State.{after, feed_of, least, lowest, upto}
use Rattle.topic_log.specs.Commits.{EachFits, PartCommits, TopicCommits, TopicFits, gathered, waiting_lists}
use Rattle.topic_log.specs.Entries.{shown_in}
use Rattle.topic_log.specs.Order.{IsInPlaceOrder, feed_in}
use Rattle.topic_log.specs.Shelves.{IsPartShelf, IsTopicShelf, Waits, closed_in, dones_of, waiting_in}
use Rattle.topic_log.proofs.Contents.{shows-sent}
use Rattle.topic_log.specs.declared.prepared.Prepared.{Prepared}
use Rattle.topic_log.specs.declared.shelves.PartShelf.{PartShelf}
use Rattle.topic_log.specs.declared.shelves.TaskShelf.{TaskShelf}
use Rattle.topic_log.specs.declared.shelves.TopicShelf.{TopicShelf}
use Rattle.topic_log.proofs.OneTopic.{All-slice_get, slice_get-some}
use Rattle.topic_log.proofs.InOrder.{closed_more, in_order_more, waits_after, waits_more}

-- ---- lists side by side

module _ {A B : Type 0} where
  zip-map : {C : Type 0} (R : A → C → Type 0) (f : B → C) (xs : List A) (ys : List B) → AllZip (λ x y. R x (f y)) xs ys → AllZip R xs (map f ys)
  zip-map R f [] [] zip = tt
  zip-map R f [] (y ∷ ys) zip = absurd zip
  zip-map R f (x ∷ xs) [] zip = absurd zip
  zip-map R f (x ∷ xs) (y ∷ ys) zip = (zip.0, zip-map R f xs ys zip.1)

  zip-unmap : {C : Type 0} (R : A → C → Type 0) (f : B → C) (xs : List A) (ys : List B) → AllZip R xs (map f ys) → AllZip (λ x y. R x (f y)) xs ys
  zip-unmap R f [] [] zip = tt
  zip-unmap R f [] (y ∷ ys) zip = absurd zip
  zip-unmap R f (x ∷ xs) [] zip = absurd zip
  zip-unmap R f (x ∷ xs) (y ∷ ys) zip = (zip.0, zip-unmap R f xs ys zip.1)

  zip-set : (R : A → B → Type 0) (xs : List A) (ys : List B) (i : ℕ) (x : A) (y : B) → R x y → AllZip R xs ys → AllZip R (set xs i x) (set ys i y)
  zip-set R [] [] i x y here zip = tt
  zip-set R [] (v ∷ ys) i x y here zip = absurd zip
  zip-set R (u ∷ xs) [] i x y here zip = absurd zip
  zip-set R (u ∷ xs) (v ∷ ys) zero x y here zip = (here, zip.1)
  zip-set R (u ∷ xs) (v ∷ ys) (suc i) x y here zip = (zip.0, zip-set R xs ys i x y here zip.1)

  zip-weaker : (R Q : A → B → Type 0) → ((x : A) (y : B) → R x y → Q x y) → (xs : List A) (ys : List B) → AllZip R xs ys → AllZip Q xs ys
  zip-weaker R Q more [] [] zip = tt
  zip-weaker R Q more [] (y ∷ ys) zip = absurd zip
  zip-weaker R Q more (x ∷ xs) [] zip = absurd zip
  zip-weaker R Q more (x ∷ xs) (y ∷ ys) zip = (more x y zip.0, zip-weaker R Q more xs ys zip.1)

  zip-right : (R : A → B → Type 0) (P : B → Type 0) → ((x : A) (y : B) → R x y → P y) → (xs : List A) (ys : List B) → AllZip R xs ys → AllByRecursion P ys
  zip-right R P more [] [] zip = tt
  zip-right R P more [] (y ∷ ys) zip = absurd zip
  zip-right R P more (x ∷ xs) [] zip = absurd zip
  zip-right R P more (x ∷ xs) (y ∷ ys) zip = (more x y zip.0, zip-right R P more xs ys zip.1)

  pub zip-long : (R : A → B → Type 0) (xs : List A) (ys : List B) → AllZip R xs ys → length xs ≡ length ys
  zip-long R [] [] zip = refl
  zip-long R [] (y ∷ ys) zip = absurd zip
  zip-long R (x ∷ xs) [] zip = absurd zip
  zip-long R (x ∷ xs) (y ∷ ys) zip = ap suc (zip-long R xs ys zip.1)

  zip-at : (R : A → B → Type 0) (xs : List A) (ys : List B) (i : ℕ) (d : A) (e : B) → i < length xs → AllZip R xs ys → R (get_or xs i d) (get_or ys i e)
  zip-at R [] ys i d e within zip = absurd (omega (arith, within))
  zip-at R (x ∷ xs) [] i d e within zip = absurd zip
  zip-at R (x ∷ xs) (y ∷ ys) zero d e within zip = zip.0
  zip-at R (x ∷ xs) (y ∷ ys) (suc i) d e within zip = zip-at R xs ys i d e (omega (arith, within)) zip.1

-- ---- the closed feed

module _ {A : Type 0} (n : ℕ) (f : A → ℕ) where
  least-first : (x y : A) (xs : List A) → f x ≤ f y → least f x xs ≤ least f y xs
  least-first x y [] low = low
  least-first x y (z ∷ zs) low = omega (arith, low)

  least-set : (x : A) (xs : List A) (i : ℕ) (y : A) → f (get_or xs i y) ≤ f y → least f x xs ≤ least f x (set xs i y)
  least-set x [] i y low = omega arith
  least-set x (z ∷ zs) zero y low = let up = least-first z y zs low in omega (arith, up)
  least-set x (z ∷ zs) (suc i) y low = let up = least-set z zs i y low in omega (arith, up)

  pub lowest-set : (xs : List A) (i : ℕ) (y : A) → f (get_or xs i y) ≤ f y → lowest n f xs ≤ lowest n f (set xs i y)
  lowest-set [] i y low = omega arith
  lowest-set (x ∷ xs) zero y low = least-first x y xs low
  lowest-set (x ∷ xs) (suc i) y low = least-set x xs i y low

  least-le : (x : A) (xs : List A) → least f x xs ≤ f x
  least-le x [] = omega arith
  least-le x (y ∷ ys) = omega arith

  least-at : (x : A) (xs : List A) (i : ℕ) (d : A) → i < length xs → least f x xs ≤ f (get_or xs i d)
  least-at x [] i d within = absurd (omega (arith, within))
  least-at x (y ∷ ys) zero d within = let low = least-le y ys in omega (arith, low)
  least-at x (y ∷ ys) (suc i) d within = let low = least-at y ys i d (omega (arith, within)) in omega (arith, low)

  pub lowest-le : (xs : List A) (i : ℕ) (d : A) → i < length xs → lowest n f xs ≤ f (get_or xs i d)
  lowest-le [] i d within = absurd (omega (arith, within))
  lowest-le (x ∷ xs) zero d within = least-le x xs
  lowest-le (x ∷ xs) (suc i) d within = least-at x xs i d (omega (arith, within))

-- ---- a partition

-- what waits with what a writer sends lies between the closed feed and what is done then
module _ (closed from to writer : ℕ) (dones : List ℕ) (p : PartShelf) (sent : List Change)
    (kept : IsPartShelf closed dones p) (within : writer < length dones) (begins : get_or dones writer 0 ≡ from) (low : closed ≤ from) (rises : from < to)
    (ascends : Rises change_cmp sent) (feeds : All (λ x. (from < feed_of x) × (feed_of x ≤ to)) sent) where
  lists_wait : AllZip (Waits closed) dones (waiting_lists p)
  lists_wait = zip-map (Waits closed) (λ w. w.items) dones p.waiting.items kept.waits

  pub writer-within : writer < length p.waiting.items
  writer-within = let same = zip-long (λ done w. Waits closed done w.items) dones p.waiting.items kept.waits in omega (arith, same, within)

  was_waiting : (w : VecDeque Change Global) → slice_get p.waiting.items writer ≡ Some w → Waits closed from w.items
  was_waiting w at =
      subst (λ (d : ℕ). Waits closed d w.items) begins
      (subst (λ (v : VecDeque Change Global). Waits closed (get_or dones writer 0) v.items) (get_or_from_slice_get p.waiting.items writer w w at)
      (zip-at (λ done w. Waits closed done w.items) dones p.waiting.items writer 0 w within kept.waits))

  waits_here : Waits closed to (waiting_in writer p ++ sent)
  waits_here =
      let some = slice_get-some p.waiting.items writer writer-within in
      subst (λ (xs : List Change). Waits closed to (xs ++ sent)) (sym (ap (λ (o : Option (VecDeque Change Global)). unwrap_or (option_map (λ w. w.items) o) []) some.1))
      (waits_more closed from to some.0.items sent low rises (was_waiting some.0 some.1) ascends feeds)

  pub gathered_wait : AllZip (Waits closed) (set dones writer to) (gathered writer sent p)
  gathered_wait = zip-set (Waits closed) dones (waiting_lists p) writer to (waiting_in writer p ++ sent) waits_here lists_wait

  pub gathered_ascends : All (Rises change_cmp) (gathered writer sent p)
  gathered_ascends =
      All-from_recursion (Rises change_cmp) (gathered writer sent p)
      (zip-right (Waits closed) (Rises change_cmp) (λ d xs waits. waits.0) (set dones writer to) (gathered writer sent p) gathered_wait)

  gathered_later : AllByRecursion (λ xs. All (λ x. closed < feed_of x) xs) (gathered writer sent p)
  gathered_later =
      zip-right (Waits closed) (λ xs. All (λ x. closed < feed_of x) xs)
      (λ d xs waits. All-weaker (λ x. (closed < feed_of x) × (feed_of x ≤ d)) (λ x. closed < feed_of x) (λ x h. h.0) xs waits.1) (set dones writer to) (gathered writer sent p) gathered_wait

  pub part_kept : (now : ℕ) (next : PartShelf) → closed ≤ now → PartCommits now writer sent p next → IsPartShelf now (set dones writer to) next
  part_kept now next up commits = let shown = shows-sent p next (merged (map (upto now) (gathered writer sent p))) commits.fed commits.said in record {
    in_order = subst IsInPlaceOrder (sym shown) (in_order_more closed now (shown_in p) (gathered writer sent p) kept.in_order kept.is_closed gathered_later);
    is_closed = subst (All (λ x. feed_in x ≤ now)) (sym shown) (closed_more closed now (shown_in p) (gathered writer sent p) up kept.is_closed gathered_later);
    unwritten = λ none.
        let same = length-set dones writer to in
        let no : length (set dones writer to) ≡ 0 = ap length none in
        absurd (omega (arith, within, same, no));
    waits =
        zip-unmap (Waits now) (λ w. w.items) (set dones writer to) next.waiting.items
        (subst (AllZip (Waits now) (set dones writer to)) (sym commits.waiting)
        (zip-map (Waits now) (after now) (set dones writer to) (gathered writer sent p)
        (zip-weaker (Waits closed) (λ d xs. Waits now d (after now xs)) (λ d xs waits. waits_after closed now d xs waits) (set dones writer to) (gathered writer sent p) gathered_wait)));
  }

-- ---- a topic

module _ (fed : ℕ) (t : TopicShelf) (made : Prepared) (kept : IsTopicShelf fed t) (fits : TopicFits made t) where
  task_was : get_or t.tasks.items made.task.part fits.task.0 ≡ fits.task.0
  task_was = get_or_from_slice_get t.tasks.items made.task.part fits.task.0 fits.task.0 fits.task.1

  task_within : made.task.part < length t.tasks.items
  task_within = slice_get_within t.tasks.items made.task.part fits.task.0 fits.task.1

  done_within : made.task.part < length (dones_of t)
  done_within = let within = task_within in let same = length-map t.tasks.items (λ k. k.done) in omega (arith, within, same)

  done_begins : get_or (dones_of t) made.task.part 0 ≡ made.from
  done_begins =
      get_or_from_slice_get (dones_of t) made.task.part fits.task.0.done 0
      (slice_get-map (λ k. k.done) t.tasks.items made.task.part ∙ ap (option_map (λ k. k.done)) fits.task.1)
      ∙ fits.task.2.begins

  closed_low : closed_in fed t ≤ made.from
  closed_low =
      subst (λ (n : ℕ). closed_in fed t ≤ n) (ap (λ (k : TaskShelf). k.done) task_was ∙ fits.task.2.begins)
      (lowest-le fed (λ (k : TaskShelf). k.done) t.tasks.items made.task.part fits.task.0 task_within)

  part_was : (q : ℕ) (p : PartShelf) → slice_get t.parts.items q ≡ Some p → IsPartShelf (closed_in fed t) (dones_of t) p
  part_was q p at = All-slice_get (IsPartShelf (closed_in fed t) (dones_of t)) t.parts.items q p kept.each at

  -- each partition has room for what was sent there
  pub each_fits : EachFits made.task.part made.sent.items t.parts.items
  each_fits q p xs at there =
      let sent = fits.each q p xs at there in
      record {
        writer_in = writer-within (closed_in fed t) made.from made.to made.task.part (dones_of t) p xs.items (part_was q p at) done_within done_begins closed_low fits.rises sent.ascends sent.within;
        room = sent.room;
        ascends = gathered_ascends (closed_in fed t) made.from made.to made.task.part (dones_of t) p xs.items (part_was q p at) done_within done_begins closed_low fits.rises sent.ascends sent.within;
      }

  module _ (next : TopicShelf) (commits : TopicCommits fed made t next) where
    dones_are : dones_of next ≡ set (dones_of t) made.task.part made.to
    dones_are =
        ap (map (λ k. k.done)) commits.task.3 ∙ map-set (λ k. k.done) t.tasks.items made.task.part commits.task.1
        ∙ ap (set (dones_of t) made.task.part) commits.task.4.done

    closed_rises : closed_in fed t ≤ closed_in fed next
    closed_rises =
        let was : get_or t.tasks.items made.task.part commits.task.1 ≡ fits.task.0 = get_or_from_slice_get t.tasks.items made.task.part fits.task.0 commits.task.1 fits.task.1 in
        let done_was : (get_or t.tasks.items made.task.part commits.task.1).done ≡ made.from = ap (λ (k : TaskShelf). k.done) was ∙ fits.task.2.begins in
        let done_is : commits.task.1.done ≡ made.to = commits.task.4.done in
        let up : made.from < made.to = fits.rises in
        subst (λ (ks : List TaskShelf). closed_in fed t ≤ lowest fed (λ k. k.done) ks) (sym commits.task.3)
        (lowest-set fed (λ (k : TaskShelf). k.done) t.tasks.items made.task.part commits.task.1 (omega (arith, done_was, done_is, up)))

    next_part : (q : ℕ) (p : PartShelf) (xs : Vec Change) (made_part : PartShelf) → slice_get t.parts.items q ≡ Some p → slice_get made.sent.items q ≡ Some xs → PartCommits (closed_in fed next) made.task.part xs.items p made_part →
        IsPartShelf (closed_in fed next) (dones_of next) made_part
    next_part q p xs made_part at there part =
        let sent = fits.each q p xs at there in
        subst (λ (ds : List ℕ). IsPartShelf (closed_in fed next) ds made_part) (sym dones_are)
        (part_kept (closed_in fed t) made.from made.to made.task.part (dones_of t) p xs.items (part_was q p at) done_within done_begins closed_low fits.rises sent.ascends sent.within
        (closed_in fed next) made_part closed_rises part)

    -- what must hold of a topic holds after a commit
    pub topic_kept : IsTopicShelf fed next
    topic_kept = record {
      parts = commits.parts ∙ kept.parts ∙ ap (λ s. s.partitions) (sym commits.spec);
      tasks = ap length commits.task.3 ∙ length-set t.tasks.items made.task.part commits.task.1 ∙ kept.tasks ∙ ap (λ s. length (tasks_of_writer s.writer)) (sym commits.spec);
      each = λ q d below.
          let inside : q < length t.parts.items = subst (λ (n : ℕ). q < n) commits.parts below in
          let was = slice_get-some t.parts.items q inside in
          let sent = slice_get-some made.sent.items q (subst (λ (n : ℕ). q < n) (sym fits.parts) inside) in
          let part = commits.each q was.0 sent.0 was.1 sent.1 in
          subst (IsPartShelf (closed_in fed next) (dones_of next)) (sym (get_or_from_slice_get next.parts.items q part.0 d part.1)) (next_part q was.0 sent.0 part.0 was.1 sent.1 part.2);
    }
