use Rattle.std.proofs.Common.{◌∙◌, ap, sym, drop, length}
use Rattle.std.specs.Str.{chars, encode_utf8_all}
use Rattle.std.specs.Int.{w64, cast_signed, cast_unsigned}
use Rattle.std.proofs.lemmas.Int.{to_z-of_z}
use Rattle.std.proofs.lemmas.Str.{chars_from_encodes}
use Rattle.ksql_expr.specs.Value.{at_most, index_of}
use Rattle.ksql_eval.proofs.text.part_of.Goals as goal

pub returns-clause-value : goal.returns-clause-value
returns-clause-value c =
    let cs = chars c.args.text.now in
    let index = c.index_of.ensures ∙ ap (λ n. index_of n (cast_signed w64 (cast_unsigned w64 c.args.at))) c.count_of.ensures in
    let rest = chars_from_encodes (drop c.index_of.result cs) c.after.result.now c.after.utf8 (sym c.after.ensures.value) in
    c.at_most.ensures.value ∙ ap (λ l. encode_utf8_all (at_most c.args.len l)) (sym rest ∙ ap (λ n. drop n cs) index)
    ∙ ap (λ z. encode_utf8_all (at_most c.args.len (drop (index_of (length cs) z) cs))) (to_z-of_z w64 c.args.at c.ranges.at)
