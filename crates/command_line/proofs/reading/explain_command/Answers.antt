use Rattle.std.proofs.Common.{ap, ◌∙◌, Err, map, sym}
use Rattle.clap.specs.Words.{app_of, found_of, is_simple_and_free, rows_of}
use Rattle.command_line.specs.declared.asked.Command.TheVariants as asked
use Rattle.command_line.specs.declared.fault.WordsFault.TheVariants.{Usage}
use Rattle.command_line.specs.Options.{explain_app}
use Rattle.command_line.specs.Words.{explain_of}
use Rattle.command_line.proofs.Accepting.{passed_up, refused, taken}
use Rattle.command_line.proofs.Simple.{explain_is_simple}
use Rattle.command_line.proofs.reading.explain_command.Goals as goal

pub accepted_matches-requires : goal.accepted_matches-requires
accepted_matches-requires c = ap is_simple_and_free c.in_ok-explain_options.ensures ∙ explain_is_simple

pub returns-in_err-matches-clause-usage : goal.returns-in_err-matches-clause-usage
returns-in_err-matches-clause-usage c = λ is.
    let same = passed_up c.from_residual-in_err-matches.result c.in_err-matches.field-0.0 Usage c.from_residual-in_err-matches.ensures.1 is in
    refused explain_app (app_of c.in_ok-explain_options.field-0) explain_of (map (λ word. word.now) c.args.words.now) c.in_ok-explain_options.ensures
    (c.in_err-matches.ensures.usage (ap Err same))

pub returns-clause-read : goal.returns-clause-read
unfolding explain_of
returns-clause-read c =
    taken explain_app (app_of c.in_ok-explain_options.field-0) explain_of (map (λ word. word.now) c.args.words.now)
    (rows_of (found_of c.in_ok-matches.matches)) (asked.Explain c.in_ok-word_of.field-0) c.in_ok-explain_options.ensures
    c.in_ok-matches.ensures.faultless c.in_ok-matches.ensures.rows (ap asked.Explain (sym (c.in_ok-word_of.ensures ∙ c.text_of.ensures)))
