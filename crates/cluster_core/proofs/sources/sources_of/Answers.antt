use Rattle.std.proofs.Common.{subst, List, ◌+◌, drop, arith}
use Rattle.std.proofs.lemmas.List.{drop_all}
use Rattle.ksql_program.specs.declared.program.Item.{Item}
use Rattle.cluster_core.specs.Sourcing.{AreBuilt}
use Rattle.cluster_core.proofs.Sourcing.{built-all, built-at}
use Rattle.cluster_core.proofs.sources.sources_of.Goals as goal

pub loop-item-preserved : goal.loop-item-preserved
loop-item-preserved c =
    c.in_ok-push_source.ensures c.args.items.now c.args.files.items (drop (c.loop-item.item-index + 1) c.args.items.now)
    (built-at c.args.items.now c.args.files.items c.loop-item.sources.items c.loop-item.left.items c.loop-item.item-index c.item-item.result c.loop-item-test.true c.item-item.is
    c.loop-item.invariant)

pub returns : goal.returns
returns c =
    built-all c.args.items.now c.args.files.items c.loop-item.sources.items c.loop-item.left.items
    (subst (λ (is : List Item). AreBuilt c.args.items.now c.args.files.items c.loop-item.sources.items is c.loop-item.left.items)
    (drop_all c.loop-item.item-index c.args.items.now (omega (arith, c.loop-item-test.false))) c.loop-item.invariant)
