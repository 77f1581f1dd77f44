use Rattle.std.proofs.Common.{ap, get_or, arith}
use Rattle.std.proofs.lemmas.List.Edits.{map_over_more}
use Rattle.ksql_types.specs.declared.relation.StoreEntry.{StoreEntry}
use Rattle.operator.specs.Holding.{in_store}
use Rattle.operator.proofs.logs.with_number.Goals as goal

pub loop-entry-preserved : goal.loop-entry-preserved
loop-entry-preserved c =
    let xs = c.deref_mut-entry-items.result.now in
    let ys = c.loop-entry.entry-items in
    let i = c.loop-entry.entry-index in
    map_over_more (in_store c.args.number) xs ys i (get_or ys i c.entry-item.result) (omega arith) c.loop-entry.invariant
    (ap (λ (entry : StoreEntry). get_or ys i entry) c.entry-item.is)
