use Rattle.std.proofs.Common.{◌∙◌, refl, sym, subst, List}
use Rattle.ksql_place.specs.declared.change.Change.{Change}
use Rattle.ksql_nodes.specs.declared.node.Node.{Node}
use Rattle.op_chain.specs.Chain.{entries_of, maps_in}
use Rattle.task_core.specs.Readers.{pending}
use Rattle.task_core.proofs.Underway.{CanGo, Goes, next-storable, not-begun, one-more}
use Rattle.task_core.proofs.running.run_all.Goals as goal

pub loop-reader-init : goal.loop-reader-init
loop-reader-init c = record {
  nodes = refl;
  order = c.requires.order;
  under = not-begun c.args.chain.now.nodes (maps_in c.args.chain.now) c.args.out.now.items (pending c.args.reader);
  bases = λ bases h. h;
  sound = refl;
}

pub run-requires : goal.run-requires
run-requires c =
    let known = c.loop-reader.invariant in
    let more = entries_of c.in_ok-entries.entries.items in
    subst (λ (ns : List Node). CanGo ns (maps_in c.loop-reader.chain) more) (sym known.nodes)
    (next-storable c.args.chain.now.nodes (maps_in c.args.chain.now) (maps_in c.loop-reader.chain) c.args.out.now.items c.loop-reader.out.items
    (pending c.args.reader) (pending c.loop-reader.reader) more (pending c.next.new.self) known.under c.in_ok-entries.ensures.taken c.requires.storable)

pub loop-reader-preserved : goal.loop-reader-preserved
loop-reader-preserved c =
    let known = c.loop-reader.invariant in
    let more = entries_of c.in_ok-entries.entries.items in
    let now = maps_in c.loop-reader.chain in
    let next = maps_in c.run.new.self in
    record {
      nodes = c.run.ensures.nodes ∙ known.nodes;
      order = c.next.ensures.order;
      under = one-more c.args.chain.now.nodes (maps_in c.args.chain.now) now next c.args.out.now.items c.loop-reader.out.items c.run.new.out.items
          (pending c.args.reader) (pending c.loop-reader.reader) more (pending c.next.new.self) known.under c.in_ok-entries.ensures.taken
          (subst (λ (before : List Change). Goes c.args.chain.now.nodes now next before c.run.new.out.items more) c.reserve_rest.ensures
          (subst (λ (ns : List Node). Goes ns now next c.reserve_rest.new.out.items c.run.new.out.items more) known.nodes c.in_ok-run.ensures.next));
      bases = λ bases h. c.run.ensures.bases bases (known.bases bases h);
      sound = c.in_ok-run.ensures.sound ∙ known.sound;
    }
