use Rattle.std.proofs.Common.{◌≡◌, ◌∙◌, ap, ℕ, List, length, eqb, false, true}
use Rattle.record_codec.proofs.Parts.{reads-change}
use Rattle.record_codec.proofs.Given.{not_whole}
use Rattle.record_codec.proofs.reading.whole_change.Goals as goal

pub returns-then-not-is_empty : goal.returns-then-not-is_empty
returns-then-not-is_empty c = not_whole reads-change c.in_ok-change.ensures (λ e. let t : false ≡ true = c.if-not-is_empty.ensures ∙ ap (λ (w : List ℕ). eqb (length w) 0) e in cc)
