use Rattle.std.proofs.Common.{◌∙◌, ◌<◌, ◌^◌, ap, sym, length, arith}
use Rattle.std.specs.Prelude.{pos}
use Rattle.std.specs.Int.{w32}
use Rattle.std.specs.Str.{chars}
use Rattle.std.proofs.lemmas.Int.{to_z_pos}
use Rattle.ksql_types.specs.Text.{longest_text}
use Rattle.ksql_types.specs.declared.value.Value.TheVariants.{Int}
use Rattle.ksql_expr.specs.Value.{length_of}
use Rattle.ksql_eval.proofs.Texts.{few_characters}
use Rattle.ksql_eval.proofs.text.length_of.Goals as goal

pub overflow_cast-result : goal.overflow_cast-result
unfolding longest_text
overflow_cast-result c =
    let few = few_characters c.items.result.now c.items.utf8 in
    record { sfits = omega (arith, few, ap length c.items.ensures.value, c.items.ensures.bound, c.count_of.ensures) }

pub returns-in-Txt : goal.returns-in-Txt
unfolding longest_text
returns-in-Txt c =
    let few = few_characters c.items.result.now c.items.utf8 in
    let small : c.count_of.result < 2 ^ 31 = omega (arith, few, ap length c.items.ensures.value, c.items.ensures.bound, c.count_of.ensures) in
    ap Int (to_z_pos w32 c.count_of.result small ∙ ap pos (c.count_of.ensures ∙ ap (λ t. length (chars t)) c.items.ensures.value)) ∙ sym (ap length_of c.in-Txt.is)
