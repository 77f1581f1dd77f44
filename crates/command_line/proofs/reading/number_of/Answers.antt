use Rattle.std.proofs.Common.{ap, ◌∙◌, sym, subst}
use Rattle.std.specs.Option.{option_map_or}
use Rattle.std.specs.Str.Parse.{ParsesUnsigned, ExplainsUnsignedError, HasUnsignedDigitsIfOk}
use Rattle.clap.specs.Words.{found_of, one_text}
use Rattle.clap.proofs.WalkLemmas.{one_text-rows}
use Rattle.command_line.specs.Words.{IsNumber, number_in}
use Rattle.command_line.proofs.Getters.{number_or_one}
use Rattle.command_line.proofs.reading.number_of.Goals as goal

pub returns : goal.returns
returns c =
    let rows = one_text-rows (found_of c.args.matches.now) c.args.id.now in
    c.unwrap_or.ensures
    ∙ (number_or_one (λ bs r. ParsesUnsigned 32 10 bs r × ExplainsUnsignedError 10 bs r × HasUnsignedDigitsIfOk bs r)
    (one_text (found_of c.args.matches.now) c.args.id.now) c.get_one.result (λ t x h. h.0)
    c.get_one.ensures.none c.get_one.ensures.value (subst IsNumber (sym rows) c.requires) ∙ ap (λ t. option_map_or number_in t 1) rows)
