use Rattle.std.proofs.Common.{ap, ◌∙◌, codes, Err, map, sym}
use Rattle.clap.specs.Words.{app_of, found_of, is_simple_and_free, rows_of}
use Rattle.clap.proofs.WalkLemmas.{first_value-rows}
use Rattle.command_line.specs.declared.asked.Command.TheVariants as asked
use Rattle.command_line.specs.declared.fault.WordsFault.TheVariants.{Usage}
use Rattle.command_line.specs.Options.{run_app}
use Rattle.command_line.specs.Words.{run_of}
use Rattle.command_line.proofs.Accepting.{passed_up, refused, taken}
use Rattle.command_line.proofs.Limits.{run_workers}
use Rattle.command_line.proofs.Simple.{run_is_simple}
use Rattle.command_line.proofs.reading.run_command.Goals as goal

pub accepted_matches-requires : goal.accepted_matches-requires
accepted_matches-requires c = ap is_simple_and_free c.in_ok-run_options.ensures ∙ run_is_simple

pub returns-in_err-matches-clause-usage : goal.returns-in_err-matches-clause-usage
returns-in_err-matches-clause-usage c = λ is.
    let same = passed_up c.from_residual-in_err-matches.result c.in_err-matches.field-0.0 Usage c.from_residual-in_err-matches.ensures.1 is in
    refused run_app (app_of c.in_ok-run_options.field-0) run_of (map (λ word. word.now) c.args.words.now) c.in_ok-run_options.ensures
    (c.in_err-matches.ensures.usage (ap Err same))

pub number_of-requires : goal.number_of-requires
number_of-requires c =
    run_workers (map (λ word. word.now) c.args.words.now) (app_of c.in_ok-run_options.field-0) (rows_of (found_of c.in_ok-matches.matches))
    c.in_ok-run_options.ensures c.requires c.in_ok-matches.ensures.faultless c.in_ok-matches.ensures.rows

pub returns-clause-read : goal.returns-clause-read
unfolding run_of
returns-clause-read c =
    let script = sym (c.in_ok-word_of.ensures ∙ c.text_of.ensures) in
    let topics = sym (c.in_ok-word_of-2.ensures ∙ c.text_of-2.ensures) in
    let workers = sym c.number_of.ensures in
    let schedule = sym (c.in_ok-word_if_some.ensures ∙ (c.get_str.ensures ∙ first_value-rows (found_of c.in_ok-matches.matches) (codes "schedule"))) in
    let trace = sym c.is_given.ensures in
    taken run_app (app_of c.in_ok-run_options.field-0) run_of (map (λ word. word.now) c.args.words.now)
    (rows_of (found_of c.in_ok-matches.matches)) (asked.Run c.in_ok-word_of.field-0 c.in_ok-word_of-2.field-0 c.number_of.result c.in_ok-word_if_some.field-0 c.is_given.result) c.in_ok-run_options.ensures
    c.in_ok-matches.ensures.faultless c.in_ok-matches.ensures.rows (λ i. asked.Run (script i) (topics i) (workers i) (schedule i) (trace i))
