use Rattle.std.proofs.Common.{◌++◌, ◌∙◌, ap, ℕ, List, length, take, drop, ◌-◌}
use Rattle.record_codec.specs.Reading.{with_rest}
use Rattle.record_codec.specs.Spelling.{values}
use Rattle.record_codec.proofs.Parts.{reads-row}
use Rattle.record_codec.proofs.Given.{found_by}
use Rattle.record_codec.proofs.Passing.{after_two}
use Rattle.record_codec.proofs.skipping.new_row.Goals as goal

pub returns-in-0 : goal.returns-in-0
returns-in-0 c = λ row rest fit e.
    found_by reads-row with_rest c.row.result c.row.ensures row rest fit (ap (λ (bytes : List ℕ). take (length bytes - 2) (drop 2 bytes)) e ∙ after_two 0 1 (values row ++ rest))
