use Rattle.std.proofs.Common.{◌≡◌, ◌∙◌, ap, sym, subst, List, All}
use Rattle.ksql_place.specs.declared.change.Change.{Change}
use Rattle.ksql_nodes.specs.declared.node.Node.{Node}
use Rattle.op_chain.specs.Chain.{MayLoad, maps_in, replayed_along}
use Rattle.task_core.specs.Readers.{pending}
use Rattle.task_core.proofs.Underway.{Goes, after-changes, at-rest-again, bases-at_rest, maps-at_rest, step-runs}
use Rattle.task_core.proofs.running.made_of.Goals as goal

pub returns-clause-rest : goal.returns-clause-rest
returns-clause-rest c =
    let old = c.args.chain.now in
    let mid = c.run_all.new.chain in
    at-rest-again c.changes.new.self old.nodes (maps_in mid)
    (after-changes old mid c.changes.new.self c.requires.rest c.run_all.ensures.nodes c.in_ok-run_all.ensures.sound c.in_ok-entries.ensures.rest)

pub returns-clause-runs : goal.returns-clause-runs
returns-clause-runs c =
    let old = c.args.chain.now in
    let mid = c.run_all.new.chain in
    let nodes = c.run_all.ensures.nodes in
    let entries = c.in_ok-entries.entries.items in
    let rest = after-changes old mid c.changes.new.self c.requires.rest nodes c.in_ok-run_all.ensures.sound c.in_ok-entries.ensures.rest in
    step-runs old.nodes (maps_in old) (maps_in mid) (maps_in c.changes.new.self) (pending c.args.reader) c.run_all.new.out.items entries
    (subst (λ (before : List Change). Goes old.nodes (maps_in old) (maps_in mid) before c.run_all.new.out.items (pending c.args.reader)) c.in_ok-outputs.ensures.items c.in_ok-run_all.ensures.next)
    (subst (λ (ns : List Node). replayed_along ns (maps_in old) entries ≡ maps_in mid) nodes
    (c.in_ok-entries.ensures.replayed (maps_in old) (c.run_all.ensures.bases (maps_in old) (bases-at_rest old c.requires.rest))))
    (subst (λ (ns : List Node). All (MayLoad ns) entries) nodes c.in_ok-entries.ensures.loadable)
    (sym (ap maps_in rest ∙ maps-at_rest old.nodes (maps_in mid)))
