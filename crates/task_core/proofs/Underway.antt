-- Operators that took a part of what a reader gives.
use Rattle.std.proofs.Common.{◌≡◌, ◌∙◌, ap, sym, refl, subst, List, [], ◌∷◌, ◌++◌, ◌+◌, map, length, arith, append-nil, append_assoc, All}
use Rattle.std.specs.List.{AllZip}
use Rattle.ksql_types.specs.declared.relation.Kind.{Kind}
use Rattle.ksql_types.specs.declared.relation.StoreEntry.{StoreEntry}
use Rattle.ksql_place.specs.declared.change.Change.{Change}
use Rattle.ksql_nodes.specs.declared.node.Node.{Node}
use Rattle.ksql_nodes.specs.Entries.{Entry}
use Rattle.operator.specs.Holding.{Held, IsBaseOf, Maps, committed, maps_of}
use Rattle.op_chain.specs.Chain.{AreBasesOf, AreStorable, ChainView, MayLoad, Runs, StandAlong, at_rest, given, maps_in, passed, replayed_along}
use Rattle.op_chain.proofs.Laws.{given-append, replayed-after, storable-append}
use Rattle.core_state.specs.declared.log.LogEntry.{LogEntry}
use Rattle.topic_log.specs.Entries.{entries_in}
use Rattle.task_core.specs.Readers.{left_len, pending}
use Rattle.task_core.specs.declared.reader.Reader.{Reader}
use Rattle.task_core.proofs.Merging.{both}
use Rattle.topology.specs.declared.topology.SubInput.{SubInput}

given-none : (nodes : List Node) (earlier : List Entry) → given nodes earlier [] ≡ []
unfolding given
given-none [] earlier = refl
given-none (n ∷ ns) earlier = given-none ns (passed n [] earlier)

-- ---- some of the entries

-- operators took some of the entries, these remain, and they gave their results
pub record IsUnderWay (nodes : List Node) (old now : List Maps) (before out : List Change) (all left : List Entry) : Type 0 where
  pub taken : List Entry
  pub parts : taken ++ left ≡ all
  pub stands : (earlier : List Entry) → StandAlong nodes old earlier → (out ≡ before ++ given nodes earlier taken) × StandAlong nodes now (earlier ++ taken)

pub not-begun : (nodes : List Node) (old : List Maps) (before : List Change) (all : List Entry) → IsUnderWay nodes old old before before all all
not-begun nodes old before all = record {
  taken = [];
  parts = refl;
  stands = λ earlier stand. (
    sym (append-nil before) ∙ ap (λ (xs : List Change). before ++ xs) (sym (given-none nodes earlier)),
    subst (StandAlong nodes old) (sym (append-nil earlier)) stand,
  );
}

-- what a call over further entries gives
abbrev pub Goes : List Node → List Maps → List Maps → List Change → List Change → List Entry → Type 0
Goes nodes old new before out more = (earlier : List Entry) → StandAlong nodes old earlier → (out ≡ before ++ given nodes earlier more) × StandAlong nodes new (earlier ++ more)

pub one-more : (nodes : List Node) (old now next : List Maps) (before mid out : List Change) (all left more later : List Entry) →
    IsUnderWay nodes old now before mid all left → more ++ later ≡ left → Goes nodes now next mid out more → IsUnderWay nodes old next before out all later
one-more nodes old now next before mid out all left more later under split goes = record {
  taken = under.taken ++ more;
  parts = append_assoc under.taken more later ∙ ap (λ (es : List Entry). under.taken ++ es) split ∙ under.parts;
  stands = λ earlier stand.
      let first = under.stands earlier stand in
      let second = goes (earlier ++ under.taken) first.1 in (
        second.0
            ∙ ap (λ (xs : List Change). xs ++ given nodes (earlier ++ under.taken) more) first.0
            ∙ append_assoc before (given nodes earlier under.taken) (given nodes (earlier ++ under.taken) more)
            ∙ ap (λ (xs : List Change). before ++ xs) (sym (given-append nodes earlier under.taken more)),
        subst (StandAlong nodes next) (append_assoc earlier under.taken more) second.1,
      );
}

pub all-taken : (nodes : List Node) (old new : List Maps) (before out : List Change) (all left : List Entry) → IsUnderWay nodes old new before out all left → left ≡ [] → Goes nodes old new before out all
all-taken nodes old new before out all left under none =
    let same : under.taken ≡ all = sym (append-nil under.taken) ∙ ap (λ (es : List Entry). under.taken ++ es) (sym none) ∙ under.parts in
    subst (Goes nodes old new before out) same under.stands

-- the next of them can be stored, if all can
abbrev pub CanGo : List Node → List Maps → List Entry → Type 0
CanGo nodes maps more = (earlier : List Entry) × StandAlong nodes maps earlier × AreStorable nodes earlier more

pub next-storable : (nodes : List Node) (old now : List Maps) (before mid : List Change) (all left more later : List Entry) →
    IsUnderWay nodes old now before mid all left → more ++ later ≡ left → CanGo nodes old all → CanGo nodes now more
next-storable nodes old now before mid all left more later under split can =
    let behind = storable-append nodes can.0 under.taken left (subst (AreStorable nodes can.0) (sym under.parts) can.2) in
    let next = storable-append nodes (can.0 ++ under.taken) more later (subst (AreStorable nodes (can.0 ++ under.taken)) (sym split) behind.1) in
    (can.0 ++ under.taken, (under.stands can.0 can.1).1, next.0)

-- ---- a reader that gave all

none-both : (j k : Kind) (one other : SubInput) (xs ys : List LogEntry) → length xs + length ys ≡ 0 → both j k one other xs ys ≡ []
none-both j k one other [] [] h = refl
none-both j k one other [] (y ∷ ys) h = absurd (omega (arith, h))
none-both j k one other (x ∷ xs) ys h = absurd (omega (arith, h))

pub nothing-left : (r : Reader) → left_len r ≡ 0 → pending r ≡ []
nothing-left r h = none-both r.left.kind r.right.kind r.left.input r.right.input (entries_in r.left.entries) (entries_in r.right.entries) h

-- ---- commits

maps-committed : (ms : List Maps) → map maps_of (map committed ms) ≡ ms
maps-committed [] = refl
maps-committed (m ∷ ms) = ap (λ (rest : List Maps). m ∷ rest) (maps-committed ms)

-- operators at rest have the maps with which they are
pub maps-at_rest : (nodes : List Node) (ms : List Maps) → maps_in (at_rest nodes ms) ≡ ms
maps-at_rest nodes ms = maps-committed ms

bases-committed : (ms : List Maps) → AllZip IsBaseOf ms (map committed ms)
bases-committed [] = tt
bases-committed (m ∷ ms) = (record { left = refl; right = refl; aggregate = refl; windows = refl; time = omega arith }, bases-committed ms)

-- and these are their own bases
pub bases-at_rest : (c : ChainView) → c ≡ at_rest c.nodes (maps_in c) → AreBasesOf (maps_in c) c
bases-at_rest c rest = subst (λ (held : List Held). AllZip IsBaseOf (maps_in c) held) (ap (λ (d : ChainView). d.held) (sym rest)) (bases-committed (maps_in c))

-- ---- a step of a task

pub step-runs : (nodes : List Node) (old mid new : List Maps) (more : List Entry) (outputs : List Change) (entries : List StoreEntry) →
    Goes nodes old mid [] outputs more → replayed_along nodes old entries ≡ mid → All (MayLoad nodes) entries → mid ≡ new → Runs nodes old more outputs entries new
step-runs nodes old mid new more outputs entries goes replays loads same =
    subst (Runs nodes old more outputs entries) same (record {
      stands = goes;
      replays = λ logs before. sym (replayed-after nodes logs entries) ∙ ap (λ (ms : List Maps). replayed_along nodes ms entries) before ∙ replays;
      loads = loads;
    })

-- operators at rest after a commit
pub after-changes : (old mid new : ChainView) → old ≡ at_rest old.nodes (maps_in old) → mid.nodes ≡ old.nodes → mid.failed ≡ old.failed →
    new ≡ record (at_rest mid.nodes (maps_in mid)) { failed = mid.failed } → new ≡ at_rest old.nodes (maps_in mid)
after-changes old mid new rest nodes sound is =
    let failed = sound ∙ ap (λ (c : ChainView). c.failed) rest in
    is ∙ (λ i. record { nodes = nodes i; held = map committed (maps_in mid); failed = failed i })

pub at-rest-again : (new : ChainView) (nodes : List Node) (ms : List Maps) → new ≡ at_rest nodes ms → new ≡ at_rest nodes (maps_in new)
at-rest-again new nodes ms is = is ∙ ap (at_rest nodes) (sym (ap maps_in is ∙ maps-at_rest nodes ms))

pub at-rest-itself : (c : ChainView) (nodes : List Node) (ms : List Maps) → c ≡ at_rest nodes ms → c ≡ at_rest c.nodes (maps_in c)
at-rest-itself c nodes ms is = at-rest-again c nodes ms is ∙ ap (λ (ns : List Node). at_rest ns (maps_in c)) (sym (ap (λ (d : ChainView). d.nodes) is))
