-- What of a run depends on its feeds alone: the last feed, the sources, and the order of consumption.
use Rattle.std.proofs.Common.{◌≡◌, ◌∙◌, ap, refl, sym, ℕ, zero, suc, ◌+◌, List, [], ◌∷◌, ◌++◌, map}
use Rattle.std.specs.Prelude.{None, Some}
use Rattle.ksql_place.specs.declared.change.SourceRecord.{SourceRecord}
use Rattle.ksql_program.specs.declared.program.Item.{Item}
use Rattle.topic_files.specs.declared.topic.TopicLines.{TopicLines}
use Rattle.topology.specs.Tasks.{chain_of}
use Rattle.topology.specs.Topologies.{topology_of}
use Rattle.topology.specs.declared.schedule.Lined.{Lined}
use Rattle.topology.specs.declared.schedule.Step.{Step}
use Rattle.topology.specs.declared.schedule.Step.TheVariants as step
use Rattle.topology.specs.declared.topology.Topology.{Topology}
use Rattle.core_state.specs.declared.journal.JournalEntry.TheVariants as entry
use Rattle.feed_laws.specs.Feeds.{Source, after_feed, records_of, sources_of}
use Rattle.cluster_laws.specs.Progress.{Progress, after_line, after_step, after_steps, opening, round, rounds, taken}
use Rattle.ksql_cli.specs.Run.{progress}
use Rattle.schedule_laws.specs.Drained.{fed_by, feeds_of}

-- what feeds change
pub record Fed : Type 0 where
  pub fed : ℕ
  pub sources : List Source
  pub order : List SourceRecord

abbrev pub fed_in : Progress → Fed
fed_in p = record { fed = p.fed; sources = p.sources; order = p.order }

-- one feed more
abbrev pub one_feed : Fed → Step → Fed
one_feed f s = record {
  fed = f.fed + 1;
  sources = map (after_feed (f.fed + 1) (taken s)) f.sources;
  order = f.order ++ records_of (f.fed + 1) (taken s) f.sources;
}

-- feeds in their order
abbrev pub after_feeds : Fed → List Step → Fed
after_feeds f [] = f
after_feeds f (s ∷ ss) = after_feeds (one_feed f s) ss

feeds-append : (f : Fed) (first then : List Step) → after_feeds f (first ++ then) ≡ after_feeds (after_feeds f first) then
feeds-append f [] then = refl
feeds-append f (s ∷ first) then = feeds-append (one_feed f s) first then

rounds-feeds : (t : Topology) (n : ℕ) (p : Progress) → fed_in (rounds t n p) ≡ fed_in p
rounds-feeds t zero p = refl
rounds-feeds t (suc n) p = rounds-feeds t n (round None t p)

step-feeds : (t : Topology) (p : Progress) (s : Step) → fed_in (after_step t p s) ≡ after_feeds (fed_in p) (fed_by s)
step-feeds t p step.FeedAll = refl
step-feeds t p (step.Feed counts) = refl
step-feeds t p (step.Round None stalled) = refl
step-feeds t p (step.Round (Some lost) stalled) = refl
step-feeds t p (step.Start worker) = refl
step-feeds t p (step.Stop worker) = refl
step-feeds t p (step.Lose task) = refl
step-feeds t p step.Drain = rounds-feeds t (chain_of t.subs) p
step-feeds t p (step.Wake worker) = refl

pub steps-feeds : (t : Topology) (p : Progress) (steps : List Lined) → fed_in (after_steps t p steps) ≡ after_feeds (fed_in p) (feeds_of steps)
steps-feeds t p [] = refl
steps-feeds t p (l ∷ ls) =
    steps-feeds t (after_line t p l) ls
    ∙ ap (λ (f : Fed). after_feeds f (feeds_of ls)) (step-feeds t (record p { journal = p.journal ++ entry.Step l.line ∷ [] }) l.step)
    ∙ sym (feeds-append (fed_in p) (fed_by l.step) (feeds_of ls))

-- before any feed
abbrev pub unfed : List Item → List TopicLines → Fed
unfed items files = record { fed = 0; sources = sources_of items files; order = [] }

-- the order of consumption of a schedule is that of its feeds, whatever the workers are
pub order-of-feeds : (items : List Item) (files : List TopicLines) (workers : ℕ) (steps : List Lined) →
    (after_steps (topology_of items) (opening (topology_of items) items files workers) steps).order ≡ (after_feeds (unfed items files) (feeds_of steps)).order
order-of-feeds items files workers steps = ap (λ (f : Fed). f.order) (steps-feeds (topology_of items) (opening (topology_of items) items files workers) steps)

pub same-order : (items : List Item) (files : List TopicLines) (workers others : ℕ) (steps moves : List Lined) → feeds_of steps ≡ feeds_of moves →
    (progress items files workers steps).order ≡ (progress items files others moves).order
same-order items files workers others steps moves same =
    order-of-feeds items files workers steps ∙ ap (λ (feeds : List Step). (after_feeds (unfed items files) feeds).order) same ∙ sym (order-of-feeds items files others moves)
