-- All tasks of a round, one after another.
use Rattle.std.proofs.Common.{◌≡◌, ◌∙◌, ap, refl, sym, subst, ℕ, Bool, true, false, List, [], ◌∷◌, ◌++◌, map, append_assoc}
use Rattle.std.proofs.lemmas.Option.{none-some}
use Rattle.std.specs.Prelude.{IfSome, Option, Some, None, flat_map}
use Rattle.std.specs.List.{AllByRecursion, AllZip}
use Rattle.ksql_types.specs.declared.relation.TaskName.{TaskName}
use Rattle.ksql_place.specs.declared.change.SourceRecord.{SourceRecord}
use Rattle.ksql_program.specs.Sound.{IsSound}
use Rattle.ksql_program.specs.declared.program.Item.{Item}
use Rattle.meaning_laws.proofs.Lists.{Pairwise}
use Rattle.topology.specs.Topologies.{topology_of}
use Rattle.core_state.specs.Events.{Happens, advance, commit}
use Rattle.core_state.specs.Law.{AllHappen}
use Rattle.core_state.specs.Routes.{Routes}
use Rattle.core_state.specs.Shelf.{Shelf}
use Rattle.core_state.specs.declared.log.Proposal.{Proposal}
use Rattle.storing_laws.specs.Stored.{CanBeStored, ResultsRise}
use Rattle.topic_log.specs.Shelves.{topics_of}
use Rattle.topic_log.specs.declared.shelves.Shelves.{Shelves}
use Rattle.assignor.specs.Rule.{is_with}
use Rattle.task_core.specs.Tasks.{CanRead, IsProposedBy}
use Rattle.task_core.specs.declared.task.Moved.{Moved}
use Rattle.feed_laws.specs.Fitting.{Fits}
use Rattle.cluster_laws.specs.Tasks.{idle}
use Rattle.task_core.specs.Advancing.{CanAdvance}
use Rattle.cluster_laws.specs.Rounds.{AllSettle, CanCommit, HasParts, HasRun, ProposeApart, Settles, noted, offered}
use Rattle.cluster_laws.specs.Told.{committing, told}
use Rattle.cluster_laws.specs.declared.seats.Ran.{Ran}
use Rattle.cluster_laws.specs.declared.seats.Seat.{Seat}
use Rattle.cluster_core.proofs.Advanced.{advance-happens, advanced-task, still-waits}
use Rattle.cluster_core.proofs.Advancing.{can-advance, readable}
use Rattle.cluster_laws.proofs.Lists.{all-mapped}
use Rattle.cluster_laws.proofs.Names.{AreApart}
use Rattle.cluster_laws.proofs.Running.{on_shelf}
use Rattle.cluster_laws.proofs.Telling.{happen-along}
use Rattle.cluster_core.proofs.Settling.{commit-happens, own, settled}
use Rattle.cluster_core.proofs.Tasks.{AreRunning, IsNamed, can-commit, top}

-- a task after the commits of a round: it waits with no proposal
abbrev pub after_commit : Ran → Moved
after_commit r = idle r.moved.task

-- tasks of different names offer for different tasks
apart-one : (r : Ran) (rs : List Ran) → IsNamed r.moved → AllByRecursion (λ (x : Ran). IsNamed x.moved) rs →
    AllByRecursion (λ (x : Ran). AreApart r.moved.task.name x.moved.task.name) rs → AllByRecursion (ProposeApart (offered r)) (map offered rs)
apart-one r [] named all apart = tt
apart-one r (x ∷ rs) named all apart = (both (offered r) (offered x) named all.0, apart-one r rs named all.1 apart.1)
  where
    both : (o q : Option Proposal) → IfSome o (λ p. p.task ≡ r.moved.task.name) → IfSome q (λ p. p.task ≡ x.moved.task.name) → IfSome o (λ a. IfSome q (λ b. a.task ≡ b.task → ⊥))
    both None q h k = tt
    both (Some a) None h k = tt
    both (Some a) (Some b) h k = λ same. apart.0 (sym h ∙ same ∙ k)

apart-all : (rs : List Ran) → AllByRecursion (λ (x : Ran). IsNamed x.moved) rs → Pairwise (λ (x y : Ran). AreApart x.moved.task.name y.moved.task.name) rs → Pairwise ProposeApart (map offered rs)
apart-all [] named pairs = tt
apart-all (r ∷ rs) named pairs = (apart-one r rs named.0 named.1 pairs.0, apart-all rs named.1 pairs.1)

-- pairs of names are pairs of tasks
pairs-of : (rs : List Ran) → Pairwise AreApart (map (λ (m : Moved). m.task.name) (map (λ (r : Ran). r.moved) rs)) → Pairwise (λ (x y : Ran). AreApart x.moved.task.name y.moved.task.name) rs
pairs-of [] pairs = tt
pairs-of (r ∷ rs) pairs = (
  all-mapped (λ (m : Moved). AreApart r.moved.task.name m.task.name) (λ (x : Ran). x.moved) rs
      (all-mapped (AreApart r.moved.task.name) (λ (m : Moved). m.task.name) (map (λ (x : Ran). x.moved) rs) pairs.0),
  pairs-of rs pairs.1,
)

-- commits leave the last feed
pub settle-fed : (r : Routes) (os : List (Option Proposal)) (b c : Shelf) → AllSettle r os b c → c.fed ≡ b.fed
settle-fed r [] b c same = λ i. (same i).fed
settle-fed r (q ∷ os) b c does = by q does.1 (settle-fed r os does.0 c does.2)
  where
    by : (o : Option Proposal) → Settles r o b does.0 → c.fed ≡ does.0.fed → c.fed ≡ b.fed
    by None same rest = rest ∙ (λ i. (same i).fed)
    by (Some p) applies rest = rest ∙ applies.fed

module _ (items : List Item) (order : List SourceRecord) (sound : IsSound items) (fits : Fits items order) where
  pub offers-apart : (b : Shelf) (rs : List Ran) → AreRunning items order b (map (λ (r : Ran). r.moved) rs) → Pairwise ProposeApart (map offered rs)
  offers-apart b rs run = apart-all rs (all-mapped IsNamed (λ (r : Ran). r.moved) rs run.named) (pairs-of rs run.apart)

  -- ---- all process what the broker has, but those of a worker that is lost

  module _ (b : Shelf) where
    abbrev routes : Routes
    routes = (top items order sound fits).routes

    pub all-can-advance : CanBeStored items (topology_of items) order → (front : List Moved) (ss : List Seat) → AreRunning items order b (front ++ map (λ (s : Seat). idle s.task) ss) →
        AllByRecursion (λ (s : Seat). CanAdvance routes b s.task) ss
    all-can-advance law front [] run = tt
    all-can-advance law front (x ∷ xs) run = (
      can-advance items order sound fits b front x.task (map (λ (s : Seat). idle s.task) xs) run law,
      all-can-advance law (front ++ idle x.task ∷ []) xs (subst (AreRunning items order b) (sym (append_assoc front (idle x.task ∷ []) (map (λ (s : Seat). idle s.task) xs))) run),
    )

    pub all-readable : (broker : Shelves) → topics_of broker ≡ (topology_of items).topics → HasParts broker → (front : List Moved) (ss : List Seat) →
        AreRunning items order b (front ++ map (λ (s : Seat). idle s.task) ss) → AllByRecursion (λ (s : Seat). CanRead broker s.task) ss
    all-readable broker topics has front [] run = tt
    all-readable broker topics has front (x ∷ xs) run = (
      readable items order sound fits b front x.task (map (λ (s : Seat). idle s.task) xs) run broker topics has,
      all-readable broker topics has (front ++ idle x.task ∷ []) xs
          (subst (AreRunning items order b) (sym (append_assoc front (idle x.task ∷ []) (map (λ (s : Seat). idle s.task) xs))) run),
    )

    -- the first of them
    first-advanced : (lost : Option ℕ) (front : List Moved) (x : Seat) (xs : List Seat) (r : Ran) → HasRun lost routes b x r →
        AreRunning items order b (front ++ map (λ (s : Seat). idle s.task) (x ∷ xs)) → AreRunning items order b (front ++ r.moved ∷ map (λ (s : Seat). idle s.task) xs)
    first-advanced lost front x xs r has run = now (is_with x.worker lost) refl
      where
        now : (l : Bool) → is_with x.worker lost ≡ l → AreRunning items order b (front ++ r.moved ∷ map (λ (s : Seat). idle s.task) xs)
        now true is = subst (λ (m : Moved). AreRunning items order b (front ++ m ∷ map (λ (s : Seat). idle s.task) xs)) (sym (has.waits is)) run
        now false is = advanced-task items order sound fits b front x.task (map (λ (s : Seat). idle s.task) xs) run r.moved (has.moved is)

    pub all-advanced : (lost : Option ℕ) (front : List Moved) (ss : List Seat) (rs : List Ran) → AllZip (HasRun lost routes b) ss rs →
        AreRunning items order b (front ++ map (λ (s : Seat). idle s.task) ss) → AreRunning items order b (front ++ map (λ (r : Ran). r.moved) rs)
    all-advanced lost front [] [] zip run = run
    all-advanced lost front [] (r ∷ rs) zip run = absurd zip
    all-advanced lost front (x ∷ xs) [] zip run = absurd zip
    all-advanced lost front (x ∷ xs) (r ∷ rs) zip run =
        subst (AreRunning items order b) (append_assoc front (r.moved ∷ []) (map (λ (y : Ran). y.moved) rs))
        (all-advanced lost (front ++ r.moved ∷ []) xs rs zip.1
        (subst (AreRunning items order b) (sym (append_assoc front (r.moved ∷ []) (map (λ (s : Seat). idle s.task) xs))) (first-advanced lost front x xs r zip.0 run)))

    -- a task that proposes nothing waits as before
    unmoved : (lost : Option ℕ) (front : List Moved) (x : Seat) (xs : List Seat) (r : Ran) → HasRun lost routes b x r →
        AreRunning items order b (front ++ map (λ (s : Seat). idle s.task) (x ∷ xs)) → r.moved.proposal ≡ None → idle x.task ≡ r.moved
    unmoved lost front x xs r has run none = now (is_with x.worker lost) refl
      where
        now : (l : Bool) → is_with x.worker lost ≡ l → idle x.task ≡ r.moved
        now true is = sym (has.waits is)
        now false is = still-waits items order sound fits b front x.task (map (λ (s : Seat). idle s.task) xs) run r.moved (has.moved is) none

    -- and that one proposes something is an event
    one-advances : (lost : Option ℕ) (front : List Moved) (x : Seat) (xs : List Seat) (r : Ran) → HasRun lost routes b x r →
        AreRunning items order b (front ++ map (λ (s : Seat). idle s.task) (x ∷ xs)) → (p : Proposal) → r.moved.proposal ≡ Some p →
        Happens (top items order sound fits) (advance p.task) (on_shelf b (front ++ map (λ (s : Seat). idle s.task) (x ∷ xs)))
        (on_shelf b (front ++ r.moved ∷ map (λ (s : Seat). idle s.task) xs))
    one-advances lost front x xs r has run p offers = now (is_with x.worker lost) refl
      where
        back : List Moved
        back = map (λ (s : Seat). idle s.task) xs

        now : (l : Bool) → is_with x.worker lost ≡ l → Happens (top items order sound fits) (advance p.task) (on_shelf b (front ++ idle x.task ∷ back)) (on_shelf b (front ++ r.moved ∷ back))
        now true is = absurd (none-some p (sym (ap (λ (m : Moved). m.proposal) (has.waits is)) ∙ offers))
        now false is =
            let name : p.task ≡ x.task.name = (subst (λ (o : Option Proposal). IfSome o (IsProposedBy routes b x.task r.moved.task)) offers (has.moved is).proposal).task in
            subst (λ (u : TaskName). Happens (top items order sound fits) (advance u) (on_shelf b (front ++ idle x.task ∷ back)) (on_shelf b (front ++ r.moved ∷ back))) (sym name)
            (advance-happens items order sound fits b front x.task back run r.moved (has.moved is) p offers)

    -- the advances of those that propose something
    pub all-advance : (lost : Option ℕ) (front : List Moved) (ss : List Seat) (rs : List Ran) → AllZip (HasRun lost routes b) ss rs →
        AreRunning items order b (front ++ map (λ (s : Seat). idle s.task) ss) →
        AllHappen (top items order sound fits) (map advance (committing (flat_map noted (map offered rs))))
        (on_shelf b (front ++ map (λ (s : Seat). idle s.task) ss)) (on_shelf b (front ++ map (λ (r : Ran). r.moved) rs))
    all-advance lost front [] [] zip run = refl
    all-advance lost front [] (r ∷ rs) zip run = absurd zip
    all-advance lost front (x ∷ xs) [] zip run = absurd zip
    all-advance lost front (x ∷ xs) (r ∷ rs) zip run =
        now r.moved.proposal refl
        (happen-along (top items order sound fits) (map advance (committing (flat_map noted (map offered rs)))) b b front r.moved (map (λ (s : Seat). idle s.task) xs) (map (λ (y : Ran). y.moved) rs)
        (all-advance lost (front ++ r.moved ∷ []) xs rs zip.1
        (subst (AreRunning items order b) (sym (append_assoc front (r.moved ∷ []) (map (λ (s : Seat). idle s.task) xs))) (first-advanced lost front x xs r zip.0 run))))
      where
        waiting : List Moved
        waiting = map (λ (s : Seat). idle s.task) xs

        moved : List Moved
        moved = map (λ (y : Ran). y.moved) rs

        now : (o : Option Proposal) → r.moved.proposal ≡ o →
            AllHappen (top items order sound fits) (map advance (committing (flat_map noted (map offered rs)))) (on_shelf b (front ++ r.moved ∷ waiting)) (on_shelf b (front ++ r.moved ∷ moved)) →
            AllHappen (top items order sound fits) (map advance (committing (noted o ++ flat_map noted (map offered rs)))) (on_shelf b (front ++ idle x.task ∷ waiting)) (on_shelf b (front ++ r.moved ∷ moved))
        now None is others =
            subst (λ (m : Moved). AllHappen (top items order sound fits) (map advance (committing (flat_map noted (map offered rs)))) (on_shelf b (front ++ m ∷ waiting))
            (on_shelf b (front ++ r.moved ∷ moved))) (sym (unmoved lost front x xs r zip.0 run is)) others
        now (Some p) is others = (on_shelf b (front ++ r.moved ∷ waiting), one-advances lost front x xs r zip.0 run p is, others)

  -- ---- all proposals are committed

  pub all-can-commit : (b : Shelf) → ResultsRise items (topology_of items) order → (front : List Moved) (rs : List Ran) → AreRunning items order b (front ++ map (λ (r : Ran). r.moved) rs) →
      AllByRecursion (λ o. IfSome o (CanCommit (top items order sound fits).routes b)) (map offered rs)
  all-can-commit b rises front [] run = tt
  all-can-commit b rises front (r ∷ rs) run = (
    one r.moved.proposal refl,
    all-can-commit b rises (front ++ r.moved ∷ []) rs (subst (AreRunning items order b) (sym (append_assoc front (r.moved ∷ []) (map (λ (x : Ran). x.moved) rs))) run),
  )
    where
      one : (o : Option Proposal) → r.moved.proposal ≡ o → IfSome o (CanCommit (top items order sound fits).routes b)
      one None is = tt
      one (Some p) is = can-commit items order sound fits b front r.moved (map (λ (x : Ran). x.moved) rs) run p is rises

  pub all-settled : (front : List Moved) (rs : List Ran) (b c : Shelf) → AllSettle (top items order sound fits).routes (map offered rs) b c →
      AreRunning items order b (front ++ map (λ (r : Ran). r.moved) rs) → AreRunning items order c (front ++ map after_commit rs)
  all-settled front [] b c same run = subst (λ (x : Shelf). AreRunning items order x (front ++ [])) (sym same) run
  all-settled front (r ∷ rs) b c does run =
      subst (AreRunning items order c) (append_assoc front (after_commit r ∷ []) (map after_commit rs))
      (all-settled (front ++ after_commit r ∷ []) rs does.0 c does.2
      (subst (AreRunning items order does.0) (sym (append_assoc front (after_commit r ∷ []) (map (λ (x : Ran). x.moved) rs)))
      (settled items order sound fits b does.0 front r.moved (map (λ (x : Ran). x.moved) rs) does.1 run)))

  -- the commits, one after another
  pub all-commit : (records : List SourceRecord) (front : List Moved) (rs : List Ran) (b c : Shelf) → AllSettle (top items order sound fits).routes (map offered rs) b c →
      AreRunning items order b (front ++ map (λ (r : Ran). r.moved) rs) →
      AllHappen (top items order sound fits) (told records (flat_map noted (map offered rs))) (on_shelf b (front ++ map (λ (r : Ran). r.moved) rs)) (on_shelf c (front ++ map after_commit rs))
  all-commit records front [] b c same run = ap (λ (x : Shelf). on_shelf x (front ++ [])) (sym same)
  all-commit records front (r ∷ rs) b c does run =
      now r.moved.proposal refl does.1
      (happen-along (top items order sound fits) (told records (flat_map noted (map offered rs))) does.0 c front (after_commit r) (map (λ (y : Ran). y.moved) rs) (map after_commit rs)
      (all-commit records (front ++ after_commit r ∷ []) rs does.0 c does.2
      (subst (AreRunning items order does.0) (sym (append_assoc front (after_commit r ∷ []) (map (λ (y : Ran). y.moved) rs)))
      (settled items order sound fits b does.0 front r.moved (map (λ (y : Ran). y.moved) rs) does.1 run))))
    where
      moved : List Moved
      moved = map (λ (y : Ran). y.moved) rs

      done : List Moved
      done = map after_commit rs

      now : (o : Option Proposal) → r.moved.proposal ≡ o → Settles (top items order sound fits).routes o b does.0 →
          AllHappen (top items order sound fits) (told records (flat_map noted (map offered rs))) (on_shelf does.0 (front ++ after_commit r ∷ moved)) (on_shelf c (front ++ after_commit r ∷ done)) →
          AllHappen (top items order sound fits) (told records (noted o ++ flat_map noted (map offered rs))) (on_shelf b (front ++ r.moved ∷ moved)) (on_shelf c (front ++ after_commit r ∷ done))
      now None is same others =
          subst (λ (x : Shelf). AllHappen (top items order sound fits) (told records (flat_map noted (map offered rs))) (on_shelf x (front ++ r.moved ∷ moved)) (on_shelf c (front ++ after_commit r ∷ done))) same
          (subst (λ (m : Moved). AllHappen (top items order sound fits) (told records (flat_map noted (map offered rs))) (on_shelf does.0 (front ++ m ∷ moved)) (on_shelf c (front ++ after_commit r ∷ done)))
          (λ i. record { task = r.moved.task; proposal = sym is i }) others)
      now (Some p) is applies others = (
        on_shelf does.0 (front ++ after_commit r ∷ moved),
        subst (λ (u : TaskName). Happens (top items order sound fits) (commit u) (on_shelf b (front ++ r.moved ∷ moved)) (on_shelf does.0 (front ++ after_commit r ∷ moved)))
            (sym (own items order sound fits b does.0 front r.moved moved p is applies run))
            (commit-happens items order sound fits b does.0 front r.moved moved p is applies run),
        others,
      )
