-- A topic without a count is left.
use Rattle.std.proofs.Common.{ap, sym, ◌++◌, ◌∙◌, map, option_map, rules}
use Rattle.schedule_text.specs.Forms.{pair_view}
use Rattle.schedule_text.proofs.Pairs.{pairs_of-odd}
use Rattle.schedule_text.proofs.forms.pairs_of.Goals as goal

pub returns : goal.returns
returns c =
    sym (c.loop-rest.invariant ∙ ap (option_map (λ later. map pair_view c.loop-rest.pairs.items ++ later)) (pairs_of-odd c.loop-rest.rest.now (search rules) c.in_default.len_below))
