use Rattle.std.proofs.Common.{◌++◌, ◌∙◌, arith, length, append_assoc}
use Rattle.std.specs.List.{flat_map}
use Rattle.record_codec.specs.Spelling.{four}
use Rattle.record_codec.proofs.Readers.{reads-four}
use Rattle.record_codec.proofs.Given.{the_same}
use Rattle.record_codec.proofs.Passing.{length-path}
use Rattle.record_codec.proofs.skipping.past_path.Goals as goal

pub returns : goal.returns
returns c = λ x after fit e.
    let m = the_same reads-four c.in_ok-count.ensures (length x) (flat_map four x ++ after) (omega (arith, fit.0)) (e ∙ append_assoc (four (length x)) (flat_map four x) after) in
    c.past.ensures (flat_map four x) after (omega (arith, length-path x, m.0)) m.1
