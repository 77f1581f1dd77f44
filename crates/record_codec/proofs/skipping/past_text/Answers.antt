use Rattle.std.proofs.Common.{◌++◌, ◌∙◌, sym, arith, length, append_assoc}
use Rattle.record_codec.specs.Spelling.{four}
use Rattle.record_codec.proofs.Readers.{reads-four}
use Rattle.record_codec.proofs.Given.{the_same}
use Rattle.record_codec.proofs.skipping.past_text.Goals as goal

pub returns : goal.returns
returns c = λ x after fit e.
    let m = the_same reads-four c.in_ok-len.ensures (length x) (x ++ after) (omega (arith, fit.0)) (e ∙ append_assoc (four (length x)) x after) in
    c.past.ensures x after (sym m.0) m.1
