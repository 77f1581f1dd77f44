use Rattle.std.proofs.Common.{ap, ◌∙◌, false, codes}
use Rattle.std.specs.Option.{option_map_or}
use Rattle.std.specs.Str.{bytes_eq}
use Rattle.clap.specs.Words.{found_of, one_text}
use Rattle.clap.proofs.WalkLemmas.{one_text-rows}
use Rattle.command_line.proofs.Getters.{flag_or_false}
use Rattle.command_line.proofs.reading.is_given.Goals as goal

pub returns : goal.returns
returns c = c.unwrap_or.ensures
    ∙ (flag_or_false _ (one_text (found_of c.args.matches.now) c.args.id.now) c.get_one.result (λ t x h. h) c.get_one.ensures.none c.get_one.ensures.value
    ∙ ap (λ t. option_map_or (λ w. bytes_eq w (codes "true")) t false) (one_text-rows (found_of c.args.matches.now) c.args.id.now))
