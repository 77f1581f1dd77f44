use Rattle.std.proofs.Common.{◌∙◌, ap, sym}
use Rattle.std.specs.Str.{chars, encode_utf8_all}
use Rattle.std.proofs.lemmas.Str.{encodes-chars}
use Rattle.ksql_expr.specs.Value.{at_most}
use Rattle.ksql_eval.proofs.text.at_most.Goals as goal

pub returns-in-None-clause-value : goal.returns-in-None-clause-value
returns-in-None-clause-value c = sym (ap (λ l. encode_utf8_all (at_most l (chars c.args.text.now))) c.in-None.is ∙ encodes-chars c.args.text.now c.utf8.text)
