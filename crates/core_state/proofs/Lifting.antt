-- A change of a broker's shelf and of instances is an event of the core.
use Rattle.std.specs.Prelude.{All}
use Rattle.std.proofs.Common.{◌≡◌, ap, sym, subst, List, [], ◌∷◌, ◌++◌, ◌+◌, ◌<◌, ◌≤◌, Some, None}
use Rattle.std.proofs.lemmas.List.Elements.{All-append}
use Rattle.ksql_types.specs.declared.relation.TaskName.{TaskName}
use Rattle.ksql_place.specs.declared.change.SourceRecord.{SourceRecord}
use Rattle.core_state.specs.Events.{feed, commit, Applies, advance, offer, Runs, Happens, OnlyOf, restore, leave}
use Rattle.core_state.specs.Good.{IsOpening}
use Rattle.core_state.specs.Routes.{IsWriter}
use Rattle.core_state.specs.Shelf.{SameElse, ShelfOpens, Shelf, ShelfFeeds, ShelfRaises, ShelfApplies, Parts, state_of}
use Rattle.core_state.specs.State.{IsTask, Proposes, bound, Topology, Instance}
use Rattle.core_state.specs.declared.log.Proposal.{Proposal}

module _ {E H : Type 0} (top : Topology E H) (writes : (t : TaskName) → IsTask top t → IsWriter top.routes t) where
  -- nothing has happened yet
  pub opened : (s : Parts H) → ShelfOpens top.routes s.shelf → ((t : TaskName) → IsTask top t → s.held t ≡ []) →
      ((t : TaskName) → IsTask top t → (i : Instance H) → s.instance t ≡ Some i → (i.generation ≡ 1) × (i.done ≡ 0) × (i.stores ≡ top.replay t []) × (i.proposal ≡ None)) →
      IsOpening top (state_of s)
  opened s opens held fresh = record {
    fed = opens.fed;
    shown = opens.shown;
    waiting = λ t is. opens.waiting t (writes t is);
    done = λ t is. opens.done t (writes t is);
    newest = λ t is. opens.newest t (writes t is);
    logs = λ t is. opens.logs t (writes t is);
    held = held;
    fresh = fresh;
  }

  -- a feed of the shelf
  pub fed : (records : List SourceRecord) (s next : Parts H) → All (λ r. r.stamp.feed ≡ s.shelf.fed + 1) records → ShelfFeeds top.routes records s.shelf next.shelf →
      ((t : TaskName) → IsTask top t → next.instance t ≡ s.instance t) → ((t : TaskName) → IsTask top t → next.held t ≡ s.held t) →
      Happens top (feed records) (state_of s) (state_of next)
  fed records s next of_feed feeds instance held = record {
    of_feed = of_feed;
    fed = feeds.fed;
    sources = feeds.sources;
    written = feeds.written;
    waiting = λ u is. feeds.waiting u (writes u is);
    tasks = λ u is. λ i. record { done = feeds.done u (writes u is) i; newest = feeds.newest u (writes u is) i; logs = feeds.logs u (writes u is) i; instance = instance u is i; held = held u is i };
  }

  module _ (t : TaskName) (is : IsTask top t) (s next : Parts H) (same : SameElse top.routes t s next) where
    -- the shelf as it was
    only-kept : next.shelf ≡ s.shelf → OnlyOf top t (state_of s) (state_of next)
    only-kept kept = record {
      fed = ap (λ (b : Shelf). b.fed) kept;
      shown = λ topic q. ap (λ (b : Shelf). b.shown topic q) kept;
      waiting = λ u of q. ap (λ (b : Shelf). b.waiting u q) kept;
      others = λ u of n. λ i. record {
        done = (kept i).done u;
        newest = (kept i).newest u;
        logs = (kept i).logs u;
        instance = same.instance u (writes u of) n i;
        held = same.held u (writes u of) n i;
      };
    }

    applied : (p : Proposal) → ShelfApplies top.routes t p s.shelf next.shelf → Applies top t p (state_of s) (state_of next)
    applied p does = record {
      fed = does.fed;
      others = λ u of n. λ i. record {
        done = does.done_else u (writes u of) n i;
        newest = does.newest u (writes u of) i;
        logs = does.logs_else u (writes u of) n i;
        instance = same.instance u (writes u of) n i;
        held = same.held u (writes u of) n i;
      };
      done = does.done;
      same_newest = does.newest t (writes t is);
      logs = ap (top.replay t) does.logs;
      logs_load = λ h k. subst (All (top.MayLoad t)) (sym does.logs) (All-append (top.MayLoad t) (s.shelf.logs t) p.entries h k);
      gathered = does.gathered;
      own = does.own;
      of_others = λ u of. does.of_others u (writes u of);
      waiting = λ u of. does.waiting u (writes u of);
      waiting_elsewhere = λ u of. does.waiting_else u (writes u of);
      shown = does.shown;
      shown_elsewhere = does.shown_else;
    }

    -- an instance advances, over the shelf as it was
    pub advanced : (before : Instance H) (after : H) (p : Proposal) → s.instance t ≡ Some before → before.generation ≡ s.shelf.newest t → before.proposal ≡ None →
        p.generation ≡ before.generation → p.from ≡ before.done → p.from < p.to → p.to ≡ bound top (state_of s) t →
        Runs top t before.stores (top.takes t (λ topic. s.shelf.shown topic t.part) p.from p.to) p.outputs p.entries after →
        next.shelf ≡ s.shelf → next.instance t ≡ Some (record { generation = before.generation; done = p.to; stores = after; proposal = Some p }) → next.held t ≡ s.held t →
        Happens top (advance t) (state_of s) (state_of next)
    advanced before after p here newest free generation from_done rises to_bound runs kept made held = (
      is,
      record {
        before = before;
        after = after;
        p = p;
        here = here;
        newest = newest;
        free = free;
        generation = generation;
        from_done = from_done;
        rises = rises;
        to_bound = to_bound;
        runs = runs;
        only = only-kept kept;
        now = λ i. record { done = (kept i).done t; newest = (kept i).newest t; logs = (kept i).logs t; instance = made i; held = held i };
      },
    )

    -- the shelf applies the proposal of an instance, which is free again
    pub committed : (before : Instance H) (p : Proposal) → s.instance t ≡ Some before → before.generation ≡ s.shelf.newest t → before.proposal ≡ Some p →
        ShelfApplies top.routes t p s.shelf next.shelf → next.instance t ≡ Some (record before { proposal = None }) → next.held t ≡ s.held t →
        Happens top (commit t) (state_of s) (state_of next)
    committed before p here newest offered does free held = (
      is,
      record { before = before; p = p; here = here; newest = newest; offered = offered; applies = applied p does; free = free; held = held },
    )

    -- the shelf raises the generation, and the instance is gone
    pub left : (kept : List Proposal) → All (Proposes ((state_of s).tasks t)) kept → ShelfRaises top.routes t s.shelf next.shelf →
        next.instance t ≡ None → next.held t ≡ s.held t ++ kept → Happens top (leave t) (state_of s) (state_of next)
    left kept was does gone held = (
      is,
      record {
        kept = kept;
        kept_was = was;
        only = record {
          fed = does.fed;
          shown = does.shown;
          waiting = λ u of. does.waiting u (writes u of);
          others = λ u of n. λ i. record {
            done = does.done u (writes u of) i;
            newest = does.newest_else u (writes u of) n i;
            logs = does.logs u (writes u of) i;
            instance = same.instance u (writes u of) n i;
            held = same.held u (writes u of) n i;
          };
        };
        now = λ i. record { done = does.done t (writes t is) i; newest = does.newest i; logs = does.logs t (writes t is) i; instance = gone i; held = held i };
      },
    )

    -- an instance is made from the changelog, over the shelf as it was
    pub restored : ((i : Instance H) → s.instance t ≡ Some i → i.generation < s.shelf.newest t) → next.shelf ≡ s.shelf →
        next.instance t ≡ Some (record { generation = s.shelf.newest t; done = s.shelf.done t; stores = top.replay t (s.shelf.logs t); proposal = None }) → next.held t ≡ s.held t →
        Happens top (restore t) (state_of s) (state_of next)
    restored none_yet kept made held = (
      is,
      record {
        none_yet = none_yet;
        only = only-kept kept;
        now = λ i. record { done = (kept i).done t; newest = (kept i).newest t; logs = (kept i).logs t; instance = made i; held = held i };
      },
    )

    -- a held proposal is offered: below the newest generation the shelf stays as it was, and otherwise it applies the
    -- proposal
    pub offered : (p : Proposal) (earlier later : List Proposal) → s.held t ≡ earlier ++ p ∷ later → next.held t ≡ earlier ++ later → next.instance t ≡ s.instance t →
        (p.generation < s.shelf.newest t → next.shelf ≡ s.shelf) → (s.shelf.newest t ≤ p.generation → ShelfApplies top.routes t p s.shelf next.shelf) →
        Happens top (offer t) (state_of s) (state_of next)
    offered p earlier later was_held held instance fenced applies = (
      is,
      record {
        p = p;
        earlier = earlier;
        later = later;
        was_held = was_held;
        fenced = λ older. (
          only-kept (fenced older),
          λ i. record { done = (fenced older i).done t; newest = (fenced older i).newest t; logs = (fenced older i).logs t; instance = instance i; held = held i },
        );
        committed = λ new. (applied p (applies new), instance, held);
      },
    )
