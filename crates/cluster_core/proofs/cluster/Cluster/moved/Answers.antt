use Rattle.std.proofs.Common.{◌∙◌, ◌++◌, ap, ap₂, refl, subst, sym, List}
use Rattle.std.specs.Prelude.{All, Option}
use Rattle.ksql_types.specs.declared.topic.TopicSpec.{TopicSpec}
use Rattle.core_state.specs.Routes.{routes_of}
use Rattle.core_state.specs.declared.journal.JournalEntry.{JournalEntry}
use Rattle.topic_log.specs.Shelves.{shelf_of}
use Rattle.cluster_laws.specs.Moves.{CanRestore, seat_notes, seated}
use Rattle.cluster_core.specs.declared.cluster.Cluster.{Cluster}
use Rattle.cluster_laws.specs.declared.seats.Seat.{Seat}
use Rattle.cluster_core.proofs.Moving.{IsMoved, after-moving, leave-places, leave-ready, moving-happened, restore-ready}
use Rattle.cluster_core.proofs.cluster.Cluster.moved.Goals as goal

pub leave_all-requires-clause-writers : goal.leave_all-requires-clause-writers
leave_all-requires-clause-writers c =
    let come = c.requires.come in leave-ready come.0 come.1 come.2 c.args.self come.4 come.5 come.3 c.args.stays.now c.args.owners.now come.6

pub leave_all-requires-clause-places : goal.leave_all-requires-clause-places
leave_all-requires-clause-places c =
    let come = c.requires.come in leave-places come.0 come.1 come.2 c.args.self come.4 come.5 come.3 c.args.stays.now c.args.owners.now come.6

pub seat_all-requires : goal.seat_all-requires
seat_all-requires c =
    let come = c.requires.come in
    let left = c.in_ok-kept.ensures.left in
    let after = shelf_of c.leave_all.new.broker in
    subst (λ (ts : List TopicSpec). All (CanRestore c.args.self.topology (routes_of ts) after) c.args.owners.now) (sym c.in_ok-kept.ensures.topics)
    (restore-ready come.0 come.1 come.2 c.args.self come.4 come.5 come.3 c.args.stays.now c.args.owners.now come.6 after left.0 left.1)

pub returns : goal.returns
returns c =
    let old : Cluster = c.args.self in
    let left = c.in_ok-kept.ensures.left in
    let after = shelf_of c.leave_all.new.broker in
    let next : Cluster = record {
      topology = old.topology;
      chain = old.chain;
      broker = c.leave_all.new.broker;
      live = old.live;
      seats = c.in_ok-seats.seats;
      sources = old.sources;
      rounds = old.rounds;
      journal = c.seat_all.new.journal;
    } in
    let is : IsMoved c.args.stays.now c.args.owners.now old left.0 next = record {
      left = left.1;
      seats = c.in_ok-seats.ensures.seats ∙ ap (λ (kept : List (Option Seat)). seated old.topology after c.args.owners.now kept) c.in_ok-kept.ensures.kept;
      topics = c.in_ok-kept.ensures.topics;
      topology = refl;
      chain = refl;
      live = refl;
      sources = refl;
      rounds = refl;
      journal = c.in_ok-seats.ensures.journal
          ∙ ap₂ (λ (es : List JournalEntry) (kept : List (Option Seat)). es ++ seat_notes after c.args.owners.now kept) left.2 c.in_ok-kept.ensures.kept;
    } in
    record {
      come = λ items p ms leaves sound h can. after-moving items p ms old sound h leaves c.args.stays.now c.args.owners.now can left.0 next is;
      events = λ items p ms leaves records sound h can. moving-happened items p ms old sound h leaves c.args.stays.now c.args.owners.now can left.0 next is records;
    }
