use Rattle.std.proofs.Common.{List, sym, subst, ap, ◌∙◌}
use Rattle.row_pool.specs.declared.block.Block.{Block}
use Rattle.row_pool.specs.Layout.{IsSound, texts_in}
use Rattle.row_pool.specs.Pool.{blocks_in}
use Rattle.row_pool.proofs.Sums.{blocks_in-empty}
use Rattle.row_pool.proofs.Steps.{nothing_sound}
use Rattle.row_pool.proofs.pool.Pool.new.Goals as goal

pub invariant_of-result : goal.invariant_of-result
invariant_of-result c = subst (λ (b : List Block). IsSound b 0 0) (sym c.new.ensures.items) nothing_sound

pub returns-clause-used : goal.returns-clause-used
returns-clause-used c = ap (λ (b : List Block). blocks_in (texts_in b)) c.new.ensures.items ∙ blocks_in-empty
