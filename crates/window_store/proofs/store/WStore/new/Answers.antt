use Rattle.std.proofs.Common.{ap}
use Rattle.window_store.proofs.IndexLemmas.{IsIndex-empty}
use Rattle.window_store.proofs.store.WStore.new.Goals as goal

pub invariant_of-result : goal.invariant_of-result
invariant_of-result c =
    IsIndex-empty c.new-2.result c.new.result c.new-2.ensures.empty (ap (λ s. s.map) c.new.ensures) (ap (λ s. s.written) c.new.ensures)
