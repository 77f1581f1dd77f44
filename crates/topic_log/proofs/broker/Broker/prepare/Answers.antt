use Rattle.std.proofs.Common.{◌∙◌, ap, subst, sym}
use Rattle.std.specs.BTreeMap.{get}
use Rattle.std.specs.Ordering.{nat_cmp}
use Rattle.core_state.specs.Shelf.{ShelfStays}
use Rattle.topic_log.specs.declared.shelves.Shelves.{Shelves}
use Rattle.topic_log.specs.Ready.{IsReady}
use Rattle.topic_log.specs.Shelves.{routes_in, shelf_of, topics_of}
use Rattle.topic_log.proofs.ViewLemmas.{stays, topics-same, written-same}
use Rattle.topic_log.proofs.broker.Broker.prepare.Goals as goal

pub invariant_of-self : goal.invariant_of-self
invariant_of-self c = (
  c.prepare.ensures.shelves,
  λ sub. written-same c.self.inside.inner c.prepare.new.shelves c.prepare.ensures.views (get nat_cmp c.self.inside.written sub) sub (c.self.invariant.1 sub),
)

pub returns-clause-topics : goal.returns-clause-topics
returns-clause-topics c = topics-same c.self.inside.inner c.prepare.new.shelves c.prepare.ensures.views ∙ ap topics_of c.self.view_is

pub returns-clause-kept : goal.returns-clause-kept
returns-clause-kept c =
    subst (λ (s : Shelves). ShelfStays (routes_in s) (shelf_of s) (shelf_of c.prepare.new.shelves)) c.self.view_is
    (stays c.self.inside.inner c.prepare.new.shelves c.prepare.ensures.views c.prepare.ensures.fed)

pub returns-clause-kept_ready : goal.returns-clause-kept_ready
returns-clause-kept_ready c = λ made p ready. c.prepare.ensures.kept_ready made p (subst (λ (b : Shelves). IsReady b made p) (sym c.self.view_is) ready)
