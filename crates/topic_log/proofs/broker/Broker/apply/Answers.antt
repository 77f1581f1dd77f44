use Rattle.std.proofs.Common.{◌≡◌, ◌∙◌, ap, refl, sym, subst, ℕ, List}
use Rattle.std.specs.Prelude.{unwrap_or}
use Rattle.std.specs.BTreeMap.{get}
use Rattle.std.specs.Ordering.{nat_cmp}
use Rattle.std.specs.Vec.{with_item}
use Rattle.std.proofs.lemmas.List.{length-set}
use Rattle.ksql_types.specs.declared.topic.TopicSpec.{TopicSpec}
use Rattle.core_state.specs.Routes.{topic_from}
use Rattle.core_state.specs.Shelf.{ShelfApplies}
use Rattle.core_state.specs.declared.log.Proposal.{Proposal}
use Rattle.topic_log.specs.Ready.{IsReady}
use Rattle.topic_log.specs.Shelves.{routes_in, shelf_of, topics_of}
use Rattle.topic_log.specs.declared.shelves.Shelves.{Shelves}
use Rattle.topic_log.proofs.Applying.{read-applies, read-fits, read-kept, replaced}
use Rattle.topic_log.proofs.OneTopic.{topics-same}
use Rattle.topic_log.proofs.Read.{output-inside}
use Rattle.topic_log.proofs.broker.Broker.apply.Goals as goal

pub commit-requires-clause-fits : goal.commit-requires-clause-fits
commit-requires-clause-fits c =
    let s : Shelves = c.self.inside.inner in
    let p : Proposal = c.requires.ready.0 in
    let ready : IsReady s c.args.prepared p = subst (λ (b : Shelves). IsReady b c.args.prepared p) (sym c.self.view_is) c.requires.ready.1 in
    let begins : (shelf_of s).done c.args.prepared.task ≡ c.args.prepared.from = subst (λ (b : Shelves). (shelf_of b).done c.args.prepared.task ≡ c.args.prepared.from) (sym c.self.view_is) c.requires.begins in
    read-fits s c.args.prepared p c.self.invariant.0 ready c.output-topic.result
    (output-inside s c.args.self.now c.args.prepared.task c.output-topic.result c.self.view_is c.output-topic.ensures) c.index_mut.result.now c.index_mut.ensures.value begins

-- the shelves after the commit
abbrev next : goal.After-self-1 → Shelves
next c = record { fed = c.self.inside.inner.fed; topics = with_item c.self.inside.inner.topics c.output-topic.result c.commit.new.topic }

ready : (c : goal.After-self-1) → IsReady c.self.inside.inner c.args.prepared c.requires.ready.0
ready c = subst (λ (b : Shelves). IsReady b c.args.prepared c.requires.ready.0) (sym c.self.view_is) c.requires.ready.1

output : (c : goal.After-self-1) → c.output-topic.result ≡ (routes_in c.self.inside.inner).output c.args.prepared.task
output c = output-inside c.self.inside.inner c.args.self.now c.args.prepared.task c.output-topic.result c.self.view_is c.output-topic.ensures

topics : (c : goal.After-self-1) → topics_of (next c) ≡ topics_of c.self.inside.inner
topics c =
    topics-same
    (replaced c.self.inside.inner c.args.prepared c.requires.ready.0 c.self.invariant.0 (ready c) c.output-topic.result (output c) c.index_mut.result.now c.index_mut.ensures.value
    (next c) c.commit.new.topic refl refl c.commit.ensures.shelf c.commit.ensures.commits)

pub invariant_of-self : goal.invariant_of-self
invariant_of-self c =
    let s : Shelves = c.self.inside.inner in (
      read-kept s c.args.prepared c.requires.ready.0 c.self.invariant.0 (ready c) c.output-topic.result (output c) c.index_mut.result.now c.index_mut.ensures.value
          (next c) c.commit.new.topic refl refl c.commit.ensures.shelf c.commit.ensures.commits,
      λ sub. ap (λ (n : ℕ). unwrap_or (get nat_cmp c.self.inside.written sub) n) (length-set s.topics.items c.output-topic.result c.commit.new.topic) ∙ c.self.invariant.1 sub
          ∙ ap (λ (ts : List TopicSpec). topic_from 0 ts sub) (sym (topics c)),
    )

pub returns-clause-topics : goal.returns-clause-topics
returns-clause-topics c = topics c ∙ ap topics_of c.self.view_is

pub returns-clause-applies : goal.returns-clause-applies
returns-clause-applies c p is-ready =
    let s : Shelves = c.self.inside.inner in
    subst (λ (b : Shelves). ShelfApplies (routes_in b) p.task p (shelf_of b) (shelf_of (next c))) c.self.view_is
    (read-applies s c.args.prepared p c.self.invariant.0 (subst (λ (b : Shelves). IsReady b c.args.prepared p) (sym c.self.view_is) is-ready) c.output-topic.result (output c)
    c.index_mut.result.now c.index_mut.ensures.value (next c) c.commit.new.topic refl refl c.commit.ensures.shelf c.commit.ensures.commits)
