-- The text of a truth value is a text.
use Rattle.std.proofs.lemmas.Result.{on_ok_weaker}
use Rattle.topic_files.specs.Delimited.{field_text}
use Rattle.topic_files.proofs.RowTexts.{IsUtf8-truth_text}
use Rattle.topic_files.proofs.delimited.push_field.Goals as goal

pub returns-after-truth-clause-utf8 : goal.returns-after-truth-clause-utf8
unfolding field_text
returns-after-truth-clause-utf8 c =
    rw c.in-Bool.is (on_ok_weaker c.push_field-in-Bool.result (λ _. IsUtf8-truth_text c.in-Bool.truth) c.push_field-in-Bool.ensures.fields)
