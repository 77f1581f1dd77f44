use Rattle.std.proofs.Common.{◌≡◌, ◌∙◌, [], List, ap, subst, sym}
use Rattle.std.specs.List.{AllByRecursion}
use Rattle.ksql_nodes.specs.declared.node.Node.{Node}
use Rattle.ksql_nodes.specs.Entries.{Entry}
use Rattle.op_chain.specs.Chain.{AreStorable, ChainView, StandAlong, entries_of, maps_in}
use Rattle.node_tests.specs.Plain.{IsPlain}
use Rattle.op_chain.specs.declared.chain.Entry.{Entry as Taken}
use Rattle.node_tests.proofs.Filtered.{storable-filtered}
use Rattle.node_tests.proofs.chains.passed.Goals as goal

pub run-requires : goal.run-requires
run-requires c =
    let chain = c.in_ok-chain.chain in
    let es = entries_of c.in_ok-entries.entries.items in
    let nodes : chain.nodes ≡ c.as_slice.result.now = ap (λ (chain : ChainView). chain.nodes) c.in_ok-chain.ensures.fresh in
    let plain =
    subst (λ (es : List Taken). AllByRecursion (λ (e : Entry). IsPlain e.change) (entries_of es)) (sym c.in_ok-entries.ensures.items) (c.in_ok-entry.ensures, (c.in_ok-entry-2.ensures, tt)) in (
      [],
      subst (λ (ns : List Node). StandAlong ns (maps_in chain) []) (sym nodes) c.in_ok-chain.ensures.stands,
      subst (λ (ns : List Node). AreStorable ns [] es) (sym (nodes ∙ c.as_slice.ensures.value)) (storable-filtered c.in_ok-nodes.nodes.items [] es c.in_ok-nodes.ensures plain),
    )
