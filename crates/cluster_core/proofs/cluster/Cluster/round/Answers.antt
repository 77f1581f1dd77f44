use Rattle.std.proofs.Common.{◌∙◌, ◌+◌, ◌++◌, List, ap, map, refl}
use Rattle.std.specs.Prelude.{flat_map}
use Rattle.core_state.specs.declared.journal.JournalEntry.{JournalEntry}
use Rattle.cluster_laws.specs.Rounds.{noted, offered}
use Rattle.cluster_core.specs.declared.cluster.Cluster.{Cluster}
use Rattle.cluster_laws.specs.declared.seats.Ran.{Ran}
use Rattle.cluster_core.proofs.Ready.{IsRound, after-round, can-go, commit-apart, commit-ready, round-happened}
use Rattle.cluster_laws.proofs.Parts.{all-parts}
use Rattle.cluster_core.proofs.cluster.Cluster.round.Goals as goal

pub advance_all-requires : goal.advance_all-requires
advance_all-requires c =
    let come = c.requires.come in
    can-go come.0 come.1 c.args.self come.2 come.3 (all-parts c.args.self.broker c.has_parts.ensures)

pub commit_all-requires-clause-each : goal.commit_all-requires-clause-each
commit_all-requires-clause-each c =
    let come = c.requires.come in
    commit-ready come.0 come.1 c.args.self come.2 come.3 c.args.lost c.in_ok-rans.rans.items c.in_ok-rans.ensures

pub commit_all-requires-clause-apart : goal.commit_all-requires-clause-apart
commit_all-requires-clause-apart c =
    let come = c.requires.come in
    commit-apart come.0 come.1 c.args.self come.2 come.3 c.args.lost c.in_ok-rans.rans.items c.in_ok-rans.ensures

pub returns : goal.returns
returns c =
    let old : Cluster = c.args.self in
    let rans : List Ran = c.in_ok-rans.rans.items in
    let next : Cluster = record {
      topology = old.topology;
      chain = old.chain;
      broker = c.commit_all.new.broker;
      live = old.live;
      seats = c.in_ok-seats.seats;
      sources = old.sources;
      rounds = old.rounds + 1;
      journal = c.commit_all.new.journal;
    } in
    let is : IsRound c.args.lost old rans next = record {
      ran = c.in_ok-rans.ensures;
      settled = c.in_ok-seats.ensures.settled;
      seats = c.in_ok-seats.ensures.seats;
      topics = c.in_ok-seats.ensures.topics;
      topology = refl;
      chain = refl;
      live = refl;
      sources = refl;
      rounds = refl;
      journal = c.in_ok-seats.ensures.journal ∙ ap (λ (es : List JournalEntry). es ++ flat_map noted (map offered rans)) c.in_ok-push.ensures.items;
    } in
    record {
      topology = refl;
      next = λ items p sound h. after-round items p old sound h c.args.lost rans next is;
      events = λ items p records sound h. round-happened items p old sound h c.args.lost rans next is records;
    }
