use Rattle.std.proofs.Common.{◌++◌, ◌∙◌, sym, arith, length, append_assoc}
use Rattle.std.specs.List.{flat_map}
use Rattle.record_codec.specs.Spelling.{four, value}
use Rattle.record_codec.proofs.Readers.{reads-four}
use Rattle.record_codec.proofs.Parts.{few}
use Rattle.record_codec.proofs.Given.{the_same}
use Rattle.record_codec.proofs.skipping.past_key.Goals as goal

pub returns : goal.returns
returns c = λ key after fit e.
    let m = the_same reads-four c.in_ok-count.ensures (length key) (flat_map value key ++ after) (omega (arith, few key fit.0)) (e ∙ append_assoc (four (length key)) (flat_map value key) after) in
    c.past_values.ensures key after (sym m.0, fit.1) m.1
