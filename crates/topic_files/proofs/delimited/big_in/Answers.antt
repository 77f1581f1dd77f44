-- After the test for a plus sign, what is parsed is the number.
use Rattle.std.proofs.Common.{◌≡◌, ◌==◌, sym, ap, ◌∙◌, lit<, true, false}
use Rattle.std.specs.Prelude.{slice_index, option_and_then}
use Rattle.topic_files.specs.Delimited.{as_big}
use Rattle.topic_files.proofs.FieldLemmas.{whole-parsed, whole-plus}
use Rattle.topic_files.proofs.delimited.big_in.Goals as goal

pub returns-then-starts_with : goal.returns-then-starts_with
returns-then-starts_with c =
    let plus : (slice_index c.args.field.now 0 == 43) ≡ true = sym (c.starts_with.ensures.byte (lit< tt) (lit< tt) (λ _ _ h. h)) ∙ c.if-starts_with.true in
    sym (ap (option_and_then as_big) (whole-plus c.args.field.now plus))

pub returns : goal.returns
returns c =
    let none : (slice_index c.args.field.now 0 == 43) ≡ false = sym (c.starts_with.ensures.byte (lit< tt) (lit< tt) (λ _ _ h. h)) ∙ c.if-starts_with.false in
    c.ok.ensures.value ∙ whole-parsed c.args.field.now c.parse.result none c.parse.ensures.value.0
