-- A proposal that is applied after a period without changes.
use Rattle.std.proofs.Common.{◌≡◌, ◌∙◌, ap, sym, subst, List, [], ◌∷◌}
use Rattle.std.specs.Prelude.{IfSome, Option, Some, None}
use Rattle.std.specs.List.{AllByRecursion}
use Rattle.core_state.specs.Routes.{Routes}
use Rattle.core_state.specs.Shelf.{Shelf, ShelfStays}
use Rattle.core_state.specs.declared.log.Proposal.{Proposal}
use Rattle.topic_log.specs.Ready.{IsReady}
use Rattle.topic_log.specs.Shelves.{shelf_of}
use Rattle.topic_log.specs.declared.prepared.Prepared.{Prepared}
use Rattle.topic_log.specs.declared.shelves.Shelves.{Shelves}
use Rattle.cluster_laws.specs.Rounds.{CanCommit, ProposeApart, Settles}

-- what another task proposes can be committed as before
still-one : (r : Routes) (b next : Shelf) (o q : Option Proposal) → Settles r o b next → IfSome o (λ p. IfSome q (λ p'. p.task ≡ p'.task → ⊥)) → IfSome q (CanCommit r b) → IfSome q (CanCommit r next)
still-one r b next o None does apart can = tt
still-one r b next None (Some q) same apart can = subst (λ (x : Shelf). CanCommit r x q) (sym same) can
still-one r b next (Some p) (Some q) does apart can = record {
  writer = can.writer;
  proposal = can.proposal;
  newest = can.newest ∙ sym (does.newest q.task can.writer);
  begins = does.done_else q.task can.writer (λ same. apart (sym same)) ∙ can.begins;
}

-- and so what all others offer
pub still-all : (r : Routes) (b next : Shelf) (o : Option Proposal) (os : List (Option Proposal)) → Settles r o b next → AllByRecursion (ProposeApart o) os →
    AllByRecursion (λ (q : Option Proposal). IfSome q (CanCommit r b)) os → AllByRecursion (λ (q : Option Proposal). IfSome q (CanCommit r next)) os
still-all r b next o [] does apart can = tt
still-all r b next o (q ∷ os) does apart can = (still-one r b next o q does apart.0 can.0, still-all r b next o os does apart.1 can.1)

-- what was prepared of a proposal that can be committed is of the newest generation, and begins where its task is done
module _ (r : Routes) (b : Shelf) (mid : Shelves) (made : Prepared) (p : Proposal) (ready : IsReady mid made p) (can : CanCommit r b p) (stays : ShelfStays r b (shelf_of mid)) where
  pub made-newest : made.generation ≡ (shelf_of mid).newest made.task
  made-newest = ready.generation ∙ can.newest ∙ sym (stays.newest p.task can.writer) ∙ ap (shelf_of mid).newest (sym ready.task)

  pub made-begins : (shelf_of mid).done made.task ≡ made.from
  made-begins = ap (shelf_of mid).done ready.task ∙ stays.done p.task can.writer ∙ can.begins ∙ sym ready.from
