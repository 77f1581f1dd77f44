use Rattle.std.proofs.Common.{ap, ◌∙◌, [], refl}
use Rattle.std.specs.Option.{unwrap_or}
use Rattle.clap.specs.Words.{found_of}
use Rattle.clap.proofs.WalkLemmas.{first_value-rows}
use Rattle.command_line.proofs.Getters.{text_or_empty}
use Rattle.command_line.proofs.reading.text_of.Goals as goal

pub returns : goal.returns
returns c = text_or_empty c.get_str.result _ c.unwrap_or.result c.unwrap_or.ensures refl
    ∙ ap (λ t. unwrap_or t []) (c.get_str.ensures ∙ first_value-rows (found_of c.args.matches.now) c.args.id.now)
