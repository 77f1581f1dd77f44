use Rattle.std.proofs.Common.{◌∙◌, rules}
use Rattle.std.specs.Prelude.{FitsSigned}
use Rattle.std.specs.Int.{w64}
use Rattle.std.specs.Str.Parse.{without_leading_sign, signed_digits_value}
use Rattle.ksql_eval.proofs.Texts.{read_right, read_wrong}
use Rattle.ksql_eval.proofs.text.read_number.Goals as goal

pub returns-in-Ok : goal.returns-in-Ok
returns-in-Ok c =
    let fits : FitsSigned w64 c.in-Ok.number = search rules in
    c.fitting.ensures ∙ read_right (without_leading_sign c.args.text.now) c.in-Ok.number (signed_digits_value 10 c.args.text.now) c.args.to c.in-Ok.ensures.value.0.0.0 c.in-Ok.ensures.value.0.1 fits

pub returns-in-Err : goal.returns-in-Err
returns-in-Err c = read_wrong (without_leading_sign c.args.text.now) (signed_digits_value 10 c.args.text.now) c.args.to c.in-Err.ensures.value.0
