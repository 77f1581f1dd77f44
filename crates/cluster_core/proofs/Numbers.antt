-- How far the tasks come in a round, in numbers.
use Rattle.std.proofs.Common.{◌≡◌, ◌∙◌, ap, ap₂, refl, sym, subst, ℕ, zero, suc, ◌+◌, arith, List, [], ◌∷◌, ◌++◌, map, append_assoc, Bool, true, false, true≢false, min}
use Rattle.std.proofs.lemmas.Bool.{eqb-true}
use Rattle.std.specs.Prelude.{Contains, IfSome, Option, Some, None, ◌==◌, if◌then◌else◌, flat_map, is_none, not}
use Rattle.std.specs.List.{AllByRecursion, AllZip}
use Rattle.std.specs.Option.{option_or}
use Rattle.ksql_types.specs.declared.relation.TaskName.{TaskName}
use Rattle.ksql_place.specs.declared.change.SourceRecord.{SourceRecord}
use Rattle.ksql_program.specs.Sound.{IsSound}
use Rattle.ksql_program.specs.declared.program.Item.{Item}
use Rattle.meaning_laws.proofs.Lists.{Pairwise}
use Rattle.topology.specs.Tasks.{tasks_of}
use Rattle.topology.specs.Topologies.{subs, topology_of}
use Rattle.topology.specs.declared.topology.SubInput.{SubInput}
use Rattle.topology.specs.declared.topology.Topology.{Topology}
use Rattle.core_state.specs.Routes.{IsWriter, Routes}
use Rattle.core_state.specs.Shelf.{Shelf, shelf_closed}
use Rattle.core_state.specs.State.{lowest, least}
use Rattle.core_state.specs.State as core
use Rattle.core_state.specs.declared.journal.JournalEntry.{JournalEntry}
use Rattle.core_state.specs.declared.journal.JournalEntry.TheVariants as entry
use Rattle.core_state.specs.declared.log.Proposal.{Proposal}
use Rattle.core_state.proofs.Lists.{lowest-same}
use Rattle.assignor.specs.Rule.{is_with, owner_of}
use Rattle.assignor.specs.declared.assignment.Owned.{Owned}
use Rattle.task_core.specs.Core.{inputs_at}
use Rattle.task_core.specs.Tasks.{IsProposedBy, bound_of}
use Rattle.task_core.specs.declared.task.Moved.{Moved}
use Rattle.feed_laws.specs.Fitting.{Fits}
use Rattle.cluster_laws.specs.Tasks.{idle, is_named}
use Rattle.cluster_laws.specs.Moves.{owned_of}
use Rattle.cluster_laws.specs.Progress as progress
use Rattle.cluster_laws.specs.Progress.{Progress, takes_part}
use Rattle.cluster_laws.specs.Rounds.{AllSettle, HasRun, Settles, noted, offered}
use Rattle.cluster_laws.specs.declared.seats.Ran.{Ran}
use Rattle.cluster_laws.specs.declared.seats.Seat.{Seat}
use Rattle.cluster_core.proofs.Advancing.{bound-same, is, step}
use Rattle.cluster_laws.proofs.Names.{AreApart}
use Rattle.cluster_laws.proofs.Running.{both-true, named-itself, named-other, on_shelf}
use Rattle.cluster_core.proofs.Tasks.{AreRunning, IsNamed, means, top}

-- ---- lists

least-map : {A B : Type 0} (f : B → ℕ) (g : A → B) (x : A) (xs : List A) → least f (g x) (map g xs) ≡ least (λ y. f (g y)) x xs
least-map f g x [] = refl
least-map f g x (y ∷ ys) = ap (min (f (g x))) (least-map f g y ys)

lowest-map : {A B : Type 0} (n : ℕ) (f : B → ℕ) (g : A → B) (xs : List A) → lowest n f (map g xs) ≡ lowest n (λ y. f (g y)) xs
lowest-map n f g [] = refl
lowest-map n f g (x ∷ xs) = least-map f g x xs

-- ---- what the commits of a round leave

settle-done : (r : Routes) (q : Option Proposal) (b c : Shelf) (u : TaskName) → IsWriter r u → IfSome q (λ p. AreApart p.task u) → Settles r q b c → c.done u ≡ b.done u
settle-done r None b c u writes apart same = λ i. (same i).done u
settle-done r (Some p) b c u writes apart does = does.done_else u writes (λ same. apart (sym same))

settle-newest : (r : Routes) (q : Option Proposal) (b c : Shelf) (u : TaskName) → IsWriter r u → Settles r q b c → c.newest u ≡ b.newest u
settle-newest r None b c u writes same = λ i. (same i).newest u
settle-newest r (Some p) b c u writes does = does.newest u writes

-- generations stay
pub all-newest : (r : Routes) (os : List (Option Proposal)) (b c : Shelf) (u : TaskName) → IsWriter r u → AllSettle r os b c → c.newest u ≡ b.newest u
all-newest r [] b c u writes same = λ i. (same i).newest u
all-newest r (q ∷ os) b c u writes does = all-newest r os does.0 c u writes does.2 ∙ settle-newest r q b does.0 u writes does.1

-- ---- a round

named-is : (u : TaskName) (m : Moved) → is_named u m ≡ true → m.task.name ≡ u
named-is u m is =
    let tests = both-true (m.task.name.sub == u.sub) (m.task.name.part == u.part) is in
    let sub = eqb-true m.task.name.sub u.sub tests.0 in
    let part = eqb-true m.task.name.part u.part tests.1 in
    λ i. record { sub = sub i; part = part i }

-- the owner of a task is that of the first seat with its name if no other has it, else that of the others
owner-first : (s : Seat) (os : List Owned) (u : TaskName) → is_named u (idle s.task) ≡ true → owner_of os u ≡ None → owner_of (owned_of s ∷ os) u ≡ Some s.worker
owner-first s os u named none = ap₂ (λ (o : Option ℕ) (c : Bool). option_or o (if c then Some s.worker else None)) none named

owner-other : (s : Seat) (os : List Owned) (u : TaskName) → is_named u (idle s.task) ≡ false → owner_of (owned_of s ∷ os) u ≡ owner_of os u
owner-other s os u other = ap (λ (c : Bool). option_or (owner_of os u) (if c then Some s.worker else None)) other ∙ same (owner_of os u)
  where
    same : (o : Option ℕ) → option_or o None ≡ o
    same None = refl
    same (Some w) = refl

owner-none : (ss : List Seat) (u : TaskName) → AllByRecursion (λ (s : Seat). AreApart u s.task.name) ss → owner_of (map owned_of ss) u ≡ None
owner-none [] u apart = refl
owner-none (s ∷ ss) u apart = owner-other s (map owned_of ss) u (named-other u (idle s.task) (λ same. apart.0 (sym same))) ∙ owner-none ss u apart.1

-- a task of a cluster and what it did in a round: it writes, it is done with what the broker has, and this is the feed
-- up to which it can go
pub record IsReady (r : Routes) (b : Shelf) (bound : TaskName → ℕ) (s : Seat) : Type 0 where
  pub writes : IsWriter r s.task.name
  pub step : s.task.done ≡ b.done s.task.name
  pub goes : bound_of r b s.task ≡ bound s.task.name

-- a task keeps its name in a round
pub same-name : (lost : Option ℕ) (r : Routes) (b : Shelf) (s : Seat) (x : Ran) → HasRun lost r b s x → x.moved.task.name ≡ s.task.name
same-name lost r b s x ran = by (is_with s.worker lost) refl
  where
    by : (l : Bool) → is_with s.worker lost ≡ l → x.moved.task.name ≡ s.task.name
    by true is = ap (λ (m : Moved). m.task.name) (ran.waits is)
    by false is = (ran.moved is).same.name

module _ (r : Routes) (lost : Option ℕ) (b : Shelf) (bound : TaskName → ℕ) where
  -- what a task's own commit leaves
  own-done : (from c : Shelf) (s : Seat) (x : Ran) → HasRun lost r b s x → IsReady r b bound s → from.done s.task.name ≡ b.done s.task.name → Settles r (offered x) from c →
      c.done s.task.name ≡ (if takes_part lost (Some s.worker) then bound s.task.name else from.done s.task.name)
  own-done from c s x ran ready same does = part (is_with s.worker lost) refl
    where
      commits : (o : Option Proposal) → is_none o ≡ (bound_of r b s.task == s.task.done) → IfSome o (IsProposedBy r b s.task x.moved.task) → Settles r o from c → c.done s.task.name ≡ bound s.task.name
      commits None none proposed still =
          let equal : bound_of r b s.task ≡ s.task.done = eqb-true (bound_of r b s.task) s.task.done (sym none) in
          (λ i. (still i).done s.task.name) ∙ same ∙ sym ready.step ∙ sym equal ∙ ready.goes
      commits (Some p) none proposed applies = ap c.done (sym proposed.task) ∙ applies.done ∙ proposed.to ∙ ready.goes

      part : (l : Bool) → is_with s.worker lost ≡ l → c.done s.task.name ≡ (if not l then bound s.task.name else from.done s.task.name)
      part true is = let still : c ≡ from = subst (λ (m : Moved). Settles r m.proposal from c) (ran.waits is) does in λ i. (still i).done s.task.name
      part false is = commits x.moved.proposal (ran.moved is).none (ran.moved is).proposal does

  -- what the commits of a round leave of what a task is done with
  pub commits-done : (ss : List Seat) (rs : List Ran) → AllZip (HasRun lost r b) ss rs → AllByRecursion (IsReady r b bound) ss → AllByRecursion (λ (x : Ran). IsNamed x.moved) rs →
      Pairwise (λ (x y : Seat). AreApart x.task.name y.task.name) ss → (from c : Shelf) → AllByRecursion (λ (s : Seat). from.done s.task.name ≡ b.done s.task.name) ss →
      AllSettle r (map offered rs) from c → (u : TaskName) → IsWriter r u → c.done u ≡ (if takes_part lost (owner_of (map owned_of ss) u) then bound u else from.done u)
  commits-done [] [] zip ready named apart from c same does u writes = λ i. (does i).done u
  commits-done [] (x ∷ rs) zip ready named apart from c same does u writes = absurd zip
  commits-done (s ∷ ss) [] zip ready named apart from c same does u writes = absurd zip
  commits-done (s ∷ ss) (x ∷ rs) zip ready named apart from c same does u writes =
      by (is_named u (idle s.task)) refl (commits-done ss rs zip.1 ready.1 named.1 apart.1 mid c (later ss ready.1 apart.0 same.1) does.2 u writes)
    where
      mid : Shelf
      mid = does.0

      offer : IfSome (offered x) (λ p. p.task ≡ s.task.name)
      offer = subst (λ (v : TaskName). IfSome (offered x) (λ p. p.task ≡ v)) (same-name lost r b s x zip.0) named.0

      else-done : (v : TaskName) → IsWriter r v → AreApart s.task.name v → mid.done v ≡ from.done v
      else-done v writer other = settle-done r (offered x) from mid v writer (name (offered x) offer) does.1
        where
          name : (q : Option Proposal) → IfSome q (λ p. p.task ≡ s.task.name) → IfSome q (λ p. AreApart p.task v)
          name None h = tt
          name (Some p) h = λ is. other (sym h ∙ is)

      later : (ys : List Seat) → AllByRecursion (IsReady r b bound) ys → AllByRecursion (λ (y : Seat). AreApart s.task.name y.task.name) ys →
          AllByRecursion (λ (y : Seat). from.done y.task.name ≡ b.done y.task.name) ys → AllByRecursion (λ (y : Seat). mid.done y.task.name ≡ b.done y.task.name) ys
      later [] ready apart same = tt
      later (y ∷ ys) ready apart same = (else-done y.task.name ready.0.writes apart.0 ∙ same.0, later ys ready.1 apart.1 same.1)

      by : (t : Bool) → is_named u (idle s.task) ≡ t → c.done u ≡ (if takes_part lost (owner_of (map owned_of ss) u) then bound u else mid.done u) →
          c.done u ≡ (if takes_part lost (owner_of (owned_of s ∷ map owned_of ss) u) then bound u else from.done u)
      by true is rest =
          let name : s.task.name ≡ u = named-is u (idle s.task) is in
          let none : owner_of (map owned_of ss) u ≡ None = owner-none ss u (subst (λ (v : TaskName). AllByRecursion (λ (y : Seat). AreApart v y.task.name) ss) name apart.0) in
          rest
          ∙ ap (λ (o : Option ℕ). if takes_part lost o then bound u else mid.done u) none
          ∙ subst (λ (v : TaskName). mid.done v ≡ (if takes_part lost (Some s.worker) then bound v else from.done v)) name (own-done from mid s x zip.0 ready.0 same.0 does.1)
          ∙ sym (ap (λ (o : Option ℕ). if takes_part lost o then bound u else from.done u) (owner-first s (map owned_of ss) u is none))
      by false is rest =
          let other : AreApart s.task.name u = λ name. true≢false (sym (named-itself u (idle s.task) name) ∙ is) in
          rest
          ∙ ap (λ (n : ℕ). if takes_part lost (owner_of (map owned_of ss) u) then bound u else n) (else-done u writes other)
          ∙ sym (ap (λ (o : Option ℕ). if takes_part lost o then bound u else from.done u) (owner-other s (map owned_of ss) u is))

-- ---- a cluster's round

module _ (items : List Item) (order : List SourceRecord) (sound : IsSound items) (fits : Fits items order)
    (b : Shelf) (p : Progress) (fed : b.fed ≡ p.fed)
    (dones : (u : TaskName) → Contains (tasks_of (subs items)) u → b.done u ≡ p.done u) where
  abbrev routes : Routes
  routes = (top items order sound fits).routes

  -- the broker closes each topic up to the feed that the numbers say
  pub closed-same : (topic : ℕ) → shelf_closed routes b topic ≡ progress.closed (topology_of items) p topic
  closed-same topic =
      lowest-same b.fed p.fed b.done p.done ((top items order sound fits).routes.writers topic) fed
      (λ w at. dones w ((means items order sound fits).written_by topic w at).0)

  pub core-bound : (ms : List Moved) (u : TaskName) → core.bound (top items order sound fits) (on_shelf b ms) u ≡ progress.bound (topology_of items) p u
  core-bound ms u =
      lowest-map b.fed (core.closed (top items order sound fits).routes (on_shelf b ms)) (λ (i : SubInput). i.topic) (inputs_at (topology_of items) u)
      ∙ lowest-same b.fed p.fed (λ (i : SubInput). core.closed (top items order sound fits).routes (on_shelf b ms) i.topic)
      (λ (i : SubInput). progress.closed (topology_of items) p i.topic) (inputs_at (topology_of items) u) fed (λ i at. closed-same i.topic)

  -- each task is ready
  pub all-ready : (front : List Moved) (ss : List Seat) → AreRunning items order b (front ++ map (λ (s : Seat). idle s.task) ss) →
      AllByRecursion (IsReady routes b (progress.bound (topology_of items) p)) ss
  all-ready front [] run = tt
  all-ready front (s ∷ ss) run = (
    record {
      writes = (means items order sound fits).writes s.task.name (is items order sound fits b front s.task (map (λ (x : Seat). idle x.task) ss) run);
      step = (step items order sound fits b front s.task (map (λ (x : Seat). idle x.task) ss) run).0;
      goes = bound-same items order sound fits b front s.task (map (λ (x : Seat). idle x.task) ss) run
          ∙ core-bound (front ++ idle s.task ∷ map (λ (x : Seat). idle x.task) ss) s.task.name;
    },
    all-ready (front ++ idle s.task ∷ []) ss (subst (AreRunning items order b) (sym (append_assoc front (idle s.task ∷ []) (map (λ (x : Seat). idle x.task) ss))) run),
  )

  -- what a task's offer is noted as
  one-noted : (lost : Option ℕ) (s : Seat) (x : Ran) → HasRun lost routes b s x → IsReady routes b (progress.bound (topology_of items) p) s → s.task.done ≡ p.done s.task.name →
      noted (offered x) ≡ (if takes_part lost (Some s.worker) then progress.committed (topology_of items) p s.task.name else [])
  one-noted lost s x ran ready done = part (is_with s.worker lost) refl
    where
      test : (bound_of routes b s.task == s.task.done) ≡ (progress.bound (topology_of items) p s.task.name == p.done s.task.name)
      test = ap₂ (λ n k. n == k) ready.goes done

      some : List JournalEntry
      some = entry.Committed s.task.name (p.done s.task.name) (progress.bound (topology_of items) p s.task.name) ∷ []

      by : (o : Option Proposal) → is_none o ≡ (bound_of routes b s.task == s.task.done) → IfSome o (IsProposedBy routes b s.task x.moved.task) → noted o ≡ progress.committed (topology_of items) p s.task.name
      by None none proposal = ap (λ (c : Bool). if c then [] else some) (none ∙ test)
      by (Some q) none proposal =
          let from : q.from ≡ p.done s.task.name = proposal.from ∙ done in
          let to : q.to ≡ progress.bound (topology_of items) p s.task.name = proposal.to ∙ ready.goes in
          (λ i. entry.Committed (proposal.task i) (from i) (to i) ∷ []) ∙ ap (λ (c : Bool). if c then [] else some) (none ∙ test)

      part : (l : Bool) → is_with s.worker lost ≡ l → noted (offered x) ≡ (if not l then progress.committed (topology_of items) p s.task.name else [])
      part true is = ap (λ (m : Moved). noted m.proposal) (ran.waits is)
      part false is = by x.moved.proposal (ran.moved is).none (ran.moved is).proposal

  -- what a round notes
  pub all-noted : (lost : Option ℕ) (ss : List Seat) (rs : List Ran) → AllZip (HasRun lost routes b) ss rs →
      AllByRecursion (IsReady routes b (progress.bound (topology_of items) p)) ss → AllByRecursion (λ (s : Seat). s.task.done ≡ p.done s.task.name) ss →
      flat_map noted (map offered rs) ≡ flat_map (λ (o : Owned). if takes_part lost (Some o.worker) then progress.committed (topology_of items) p o.task else []) (map owned_of ss)
  all-noted lost [] [] zip ready dones = refl
  all-noted lost [] (x ∷ rs) zip ready dones = absurd zip
  all-noted lost (s ∷ ss) [] zip ready dones = absurd zip
  all-noted lost (s ∷ ss) (x ∷ rs) zip ready dones = ap₂ (λ us vs. us ++ vs) (one-noted lost s x zip.0 ready.0 dones.0) (all-noted lost ss rs zip.1 ready.1 dones.1)

-- ---- several rounds

pub rounds-next : (t : Topology) (n : ℕ) (p : Progress) → progress.rounds t (n + 1) p ≡ progress.round None t (progress.rounds t n p)
rounds-next t n p = let next : n + 1 ≡ suc n = omega arith in ap (λ m. progress.rounds t m p) next ∙ more n p
  where
    more : (m : ℕ) (q : Progress) → progress.rounds t (suc m) q ≡ progress.round None t (progress.rounds t m q)
    more zero q = refl
    more (suc m) q = more m (progress.round None t q)

pub rounds-count : (t : Topology) (n : ℕ) (p : Progress) → (progress.rounds t n p).rounds ≡ p.rounds + n
rounds-count t zero p = omega arith
rounds-count t (suc n) p = let rest : (progress.rounds t n (progress.round None t p)).rounds ≡ (p.rounds + 1) + n = rounds-count t n (progress.round None t p) in omega (arith, rest)
