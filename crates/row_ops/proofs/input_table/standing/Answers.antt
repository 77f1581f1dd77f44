use Rattle.std.proofs.Common.{◌∙◌, sym, true≢false}
use Rattle.row_ops.proofs.InputTable.{rows-long}
use Rattle.row_ops.proofs.input_table.standing.Goals as goal

pub returns-then-not-is_short : goal.returns-then-not-is_short
returns-then-not-is_short c = λ es h.
    rows-long c.args.store.now.map es c.args.key.now h (λ short. true≢false (sym (c.is_short.ensures.1 short) ∙ c.if-not-is_short.true))
