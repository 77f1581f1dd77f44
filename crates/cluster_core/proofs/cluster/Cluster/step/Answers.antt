-- A step: its line is noted, and then it is taken.
use Rattle.std.proofs.Common.{◌∷◌, ◌++◌, ◌+◌, [], map, refl, subst, sym}
use Rattle.topology.specs.declared.schedule.Step.{Step}
use Rattle.core_state.specs.declared.journal.JournalEntry.TheVariants as entry
use Rattle.cluster_core.specs.Cluster.{HasCome}
use Rattle.cluster_laws.specs.Progress.{Progress, after_step, feed, taken}
use Rattle.feed_laws.specs.Feeds.{records_of}
use Rattle.cluster_laws.specs.Tasks.{idle}
use Rattle.cluster_laws.specs.declared.seats.Seat.{Seat}
use Rattle.cluster_core.proofs.Happening.{happened-begun}
use Rattle.cluster_core.proofs.Turning.{begun, ok-more}
use Rattle.cluster_core.proofs.cluster.Cluster.step.Goals as goal

pub round_losing-requires : goal.round_losing-requires
round_losing-requires c =
    let come = c.requires.come in
    record {
      come = (
        come.0,
        record come.1 { journal = come.1.journal ++ entry.Step c.args.step.now.line ∷ [] },
        come.2,
        begun come.0 come.1 c.args.self _ c.args.step.now.line
            (record { topology = refl; chain = refl; broker = refl; these = refl; seats = refl; sources = refl; rounds = refl; notes = c.in_ok-push.ensures.items }) come.3,
      );
    }

pub with-requires : goal.with-requires
with-requires c =
    let come = c.requires.come in
    record {
      come = (
        come.0,
        record come.1 { journal = come.1.journal ++ entry.Step c.args.step.now.line ∷ [] },
        come.2,
        begun come.0 come.1 c.args.self _ c.args.step.now.line
            (record { topology = refl; chain = refl; broker = refl; these = refl; seats = refl; sources = refl; rounds = refl; notes = c.in_ok-push.ensures.items }) come.3,
      );
    }

pub without-requires : goal.without-requires
without-requires c =
    let come = c.requires.come in
    record {
      come = (
        come.0,
        record come.1 { journal = come.1.journal ++ entry.Step c.args.step.now.line ∷ [] },
        come.2,
        begun come.0 come.1 c.args.self _ c.args.step.now.line
            (record { topology = refl; chain = refl; broker = refl; these = refl; seats = refl; sources = refl; rounds = refl; notes = c.in_ok-push.ensures.items }) come.3,
      );
    }

pub losing-requires : goal.losing-requires
losing-requires c =
    let come = c.requires.come in
    record {
      come = (
        come.0,
        record come.1 { journal = come.1.journal ++ entry.Step c.args.step.now.line ∷ [] },
        come.2,
        begun come.0 come.1 c.args.self _ c.args.step.now.line
            (record { topology = refl; chain = refl; broker = refl; these = refl; seats = refl; sources = refl; rounds = refl; notes = c.in_ok-push.ensures.items }) come.3,
      );
    }

pub drained-requires : goal.drained-requires
drained-requires c =
    let come = c.requires.come in
    record {
      come = (
        come.0,
        record come.1 { journal = come.1.journal ++ entry.Step c.args.step.now.line ∷ [] },
        come.2,
        begun come.0 come.1 c.args.self _ c.args.step.now.line
            (record { topology = refl; chain = refl; broker = refl; these = refl; seats = refl; sources = refl; rounds = refl; notes = c.in_ok-push.ensures.items }) come.3,
      );
    }

pub fed-requires : goal.fed-requires
fed-requires c =
    let come = c.requires.come in
    record {
      come = (
        come.0,
        record come.1 { journal = come.1.journal ++ entry.Step c.args.step.now.line ∷ [] },
        come.2,
        begun come.0 come.1 c.args.self _ c.args.step.now.line
            (record { topology = refl; chain = refl; broker = refl; these = refl; seats = refl; sources = refl; rounds = refl; notes = c.in_ok-push.ensures.items }) come.3,
      );
    }

pub fed-requires-in-Feed : goal.fed-requires-in-Feed
fed-requires-in-Feed c =
    let come = c.requires.come in
    record {
      come = (
        come.0,
        record come.1 { journal = come.1.journal ++ entry.Step c.args.step.now.line ∷ [] },
        come.2,
        begun come.0 come.1 c.args.self _ c.args.step.now.line
            (record { topology = refl; chain = refl; broker = refl; these = refl; seats = refl; sources = refl; rounds = refl; notes = c.in_ok-push.ensures.items }) come.3,
      );
    }

pub returns-in-Round-clause-come : goal.returns-in-Round-clause-come
returns-in-Round-clause-come c = ok-more c.round_losing.result
    (λ next has items p sound h.
    let now : Progress = record p { journal = p.journal ++ entry.Step c.args.step.now.line ∷ [] } in
    subst (λ (s : Step). HasCome items (after_step c.args.self.topology now s) next) (sym c.in-Round.is)
    (has items now sound
    (begun items p c.args.self _ c.args.step.now.line
    (record { topology = refl; chain = refl; broker = refl; these = refl; seats = refl; sources = refl; rounds = refl; notes = c.in_ok-push.ensures.items }) h)))
    c.round_losing.ensures.come

pub returns-in-Start-clause-come : goal.returns-in-Start-clause-come
returns-in-Start-clause-come c = ok-more c.with.result
    (λ next has items p sound h.
    let now : Progress = record p { journal = p.journal ++ entry.Step c.args.step.now.line ∷ [] } in
    subst (λ (s : Step). HasCome items (after_step c.args.self.topology now s) next) (sym c.in-Start.is)
    (has items now sound
    (begun items p c.args.self _ c.args.step.now.line
    (record { topology = refl; chain = refl; broker = refl; these = refl; seats = refl; sources = refl; rounds = refl; notes = c.in_ok-push.ensures.items }) h)))
    c.with.ensures.come

pub returns-in-Stop-clause-come : goal.returns-in-Stop-clause-come
returns-in-Stop-clause-come c = ok-more c.without.result
    (λ next has items p sound h.
    let now : Progress = record p { journal = p.journal ++ entry.Step c.args.step.now.line ∷ [] } in
    subst (λ (s : Step). HasCome items (after_step c.args.self.topology now s) next) (sym c.in-Stop.is)
    (has items now sound
    (begun items p c.args.self _ c.args.step.now.line
    (record { topology = refl; chain = refl; broker = refl; these = refl; seats = refl; sources = refl; rounds = refl; notes = c.in_ok-push.ensures.items }) h)))
    c.without.ensures.come

pub returns-in-Lose-clause-come : goal.returns-in-Lose-clause-come
returns-in-Lose-clause-come c = ok-more c.losing.result
    (λ next has items p sound h.
    let now : Progress = record p { journal = p.journal ++ entry.Step c.args.step.now.line ∷ [] } in
    subst (λ (s : Step). HasCome items (after_step c.args.self.topology now s) next) (sym c.in-Lose.is)
    (has items now sound
    (begun items p c.args.self _ c.args.step.now.line
    (record { topology = refl; chain = refl; broker = refl; these = refl; seats = refl; sources = refl; rounds = refl; notes = c.in_ok-push.ensures.items }) h)))
    c.losing.ensures.come

pub returns-in-Drain-clause-come : goal.returns-in-Drain-clause-come
returns-in-Drain-clause-come c = ok-more c.drained.result
    (λ next has items p sound h.
    let now : Progress = record p { journal = p.journal ++ entry.Step c.args.step.now.line ∷ [] } in
    subst (λ (s : Step). HasCome items (after_step c.args.self.topology now s) next) (sym c.in-Drain.is)
    (has items now sound
    (begun items p c.args.self _ c.args.step.now.line
    (record { topology = refl; chain = refl; broker = refl; these = refl; seats = refl; sources = refl; rounds = refl; notes = c.in_ok-push.ensures.items }) h)))
    c.drained.ensures.come

pub returns-in-FeedAll-clause-come : goal.returns-in-FeedAll-clause-come
returns-in-FeedAll-clause-come c = ok-more c.fed.result
    (λ next has items p sound h.
    let now : Progress = record p { journal = p.journal ++ entry.Step c.args.step.now.line ∷ [] } in
    subst (λ (s : Step). HasCome items (feed (taken s) now) next → HasCome items (after_step c.args.self.topology now s) next) (sym c.in-FeedAll.is) (λ x. x)
    (has items now sound
    (begun items p c.args.self _ c.args.step.now.line
    (record { topology = refl; chain = refl; broker = refl; these = refl; seats = refl; sources = refl; rounds = refl; notes = c.in_ok-push.ensures.items }) h)))
    c.fed.ensures.come

pub returns-in-Feed-clause-come : goal.returns-in-Feed-clause-come
returns-in-Feed-clause-come c = ok-more c.fed-in-Feed.result
    (λ next has items p sound h.
    let now : Progress = record p { journal = p.journal ++ entry.Step c.args.step.now.line ∷ [] } in
    subst (λ (s : Step). HasCome items (feed (taken s) now) next → HasCome items (after_step c.args.self.topology now s) next) (sym c.in-Feed.is) (λ x. x)
    (has items now sound
    (begun items p c.args.self _ c.args.step.now.line
    (record { topology = refl; chain = refl; broker = refl; these = refl; seats = refl; sources = refl; rounds = refl; notes = c.in_ok-push.ensures.items }) h)))
    c.fed-in-Feed.ensures.come

pub returns-in-Round-clause-events : goal.returns-in-Round-clause-events
returns-in-Round-clause-events c = ok-more c.round_losing.result
    (λ next has items p sound h.
    let now : Progress = record p { journal = p.journal ++ entry.Step c.args.step.now.line ∷ [] } in
    happened-begun items (records_of (p.fed + 1) (taken c.args.step.now.step) p.sources) (map (λ (s : Seat). idle s.task) c.args.self.seats.items)
    c.args.self c.args.step.now.line _ next refl c.in_ok-push.ensures.items
    (has items now (records_of (p.fed + 1) (taken c.args.step.now.step) p.sources) sound
    (begun items p c.args.self _ c.args.step.now.line
    (record { topology = refl; chain = refl; broker = refl; these = refl; seats = refl; sources = refl; rounds = refl; notes = c.in_ok-push.ensures.items }) h)))
    c.round_losing.ensures.events

pub returns-in-Start-clause-events : goal.returns-in-Start-clause-events
returns-in-Start-clause-events c = ok-more c.with.result
    (λ next has items p sound h.
    let now : Progress = record p { journal = p.journal ++ entry.Step c.args.step.now.line ∷ [] } in
    happened-begun items (records_of (p.fed + 1) (taken c.args.step.now.step) p.sources) (map (λ (s : Seat). idle s.task) c.args.self.seats.items)
    c.args.self c.args.step.now.line _ next refl c.in_ok-push.ensures.items
    (has items now (records_of (p.fed + 1) (taken c.args.step.now.step) p.sources) sound
    (begun items p c.args.self _ c.args.step.now.line
    (record { topology = refl; chain = refl; broker = refl; these = refl; seats = refl; sources = refl; rounds = refl; notes = c.in_ok-push.ensures.items }) h)))
    c.with.ensures.events

pub returns-in-Stop-clause-events : goal.returns-in-Stop-clause-events
returns-in-Stop-clause-events c = ok-more c.without.result
    (λ next has items p sound h.
    let now : Progress = record p { journal = p.journal ++ entry.Step c.args.step.now.line ∷ [] } in
    happened-begun items (records_of (p.fed + 1) (taken c.args.step.now.step) p.sources) (map (λ (s : Seat). idle s.task) c.args.self.seats.items)
    c.args.self c.args.step.now.line _ next refl c.in_ok-push.ensures.items
    (has items now (records_of (p.fed + 1) (taken c.args.step.now.step) p.sources) sound
    (begun items p c.args.self _ c.args.step.now.line
    (record { topology = refl; chain = refl; broker = refl; these = refl; seats = refl; sources = refl; rounds = refl; notes = c.in_ok-push.ensures.items }) h)))
    c.without.ensures.events

pub returns-in-Lose-clause-events : goal.returns-in-Lose-clause-events
returns-in-Lose-clause-events c = ok-more c.losing.result
    (λ next has items p sound h.
    let now : Progress = record p { journal = p.journal ++ entry.Step c.args.step.now.line ∷ [] } in
    happened-begun items (records_of (p.fed + 1) (taken c.args.step.now.step) p.sources) (map (λ (s : Seat). idle s.task) c.args.self.seats.items)
    c.args.self c.args.step.now.line _ next refl c.in_ok-push.ensures.items
    (has items now (records_of (p.fed + 1) (taken c.args.step.now.step) p.sources) sound
    (begun items p c.args.self _ c.args.step.now.line
    (record { topology = refl; chain = refl; broker = refl; these = refl; seats = refl; sources = refl; rounds = refl; notes = c.in_ok-push.ensures.items }) h)))
    c.losing.ensures.events

pub returns-in-Drain-clause-events : goal.returns-in-Drain-clause-events
returns-in-Drain-clause-events c = ok-more c.drained.result
    (λ next has items p sound h.
    let now : Progress = record p { journal = p.journal ++ entry.Step c.args.step.now.line ∷ [] } in
    happened-begun items (records_of (p.fed + 1) (taken c.args.step.now.step) p.sources) (map (λ (s : Seat). idle s.task) c.args.self.seats.items)
    c.args.self c.args.step.now.line _ next refl c.in_ok-push.ensures.items
    (has items now (records_of (p.fed + 1) (taken c.args.step.now.step) p.sources) sound
    (begun items p c.args.self _ c.args.step.now.line
    (record { topology = refl; chain = refl; broker = refl; these = refl; seats = refl; sources = refl; rounds = refl; notes = c.in_ok-push.ensures.items }) h)))
    c.drained.ensures.events

pub returns-in-FeedAll-clause-events : goal.returns-in-FeedAll-clause-events
returns-in-FeedAll-clause-events c = ok-more c.fed.result
    (λ next has items p sound h.
    let now : Progress = record p { journal = p.journal ++ entry.Step c.args.step.now.line ∷ [] } in
    happened-begun items (records_of (p.fed + 1) (taken c.args.step.now.step) p.sources) (map (λ (s : Seat). idle s.task) c.args.self.seats.items)
    c.args.self c.args.step.now.line _ next refl c.in_ok-push.ensures.items
    (has items now sound
    (begun items p c.args.self _ c.args.step.now.line
    (record { topology = refl; chain = refl; broker = refl; these = refl; seats = refl; sources = refl; rounds = refl; notes = c.in_ok-push.ensures.items }) h)))
    c.fed.ensures.events

pub returns-in-Feed-clause-events : goal.returns-in-Feed-clause-events
returns-in-Feed-clause-events c = ok-more c.fed-in-Feed.result
    (λ next has items p sound h.
    let now : Progress = record p { journal = p.journal ++ entry.Step c.args.step.now.line ∷ [] } in
    happened-begun items (records_of (p.fed + 1) (taken c.args.step.now.step) p.sources) (map (λ (s : Seat). idle s.task) c.args.self.seats.items)
    c.args.self c.args.step.now.line _ next refl c.in_ok-push.ensures.items
    (has items now sound
    (begun items p c.args.self _ c.args.step.now.line
    (record { topology = refl; chain = refl; broker = refl; these = refl; seats = refl; sources = refl; rounds = refl; notes = c.in_ok-push.ensures.items }) h)))
    c.fed-in-Feed.ensures.events
