use Rattle.std.proofs.Common.{All, sym, subst}
use Rattle.std.proofs.lemmas.List.Elements.{All-push}
use Rattle.operator.specs.Holding.{IsWindowEntry}
use Rattle.store_tests.proofs.windows.entries.Goals as goal

pub loop-piece-preserved : goal.loop-piece-preserved
loop-piece-preserved c =
    subst (All IsWindowEntry) (sym c.in_ok-push.ensures.items)
    (All-push IsWindowEntry c.loop-piece.log.items c.in_ok-entry.field-0 c.loop-piece.invariant c.in_ok-entry.ensures)
