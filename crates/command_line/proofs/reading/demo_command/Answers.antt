use Rattle.std.proofs.Common.{ap, ap₂, ◌∙◌, Err, map, sym}
use Rattle.clap.specs.Words.{app_of, found_of, is_simple_and_free, rows_of}
use Rattle.command_line.specs.declared.asked.Command.TheVariants as asked
use Rattle.command_line.specs.declared.fault.WordsFault.TheVariants.{Usage}
use Rattle.command_line.specs.Options.{demo_app}
use Rattle.command_line.specs.Words.{demo_of}
use Rattle.command_line.proofs.Accepting.{passed_up, refused, taken}
use Rattle.command_line.proofs.Limits.{demo_records, demo_workers}
use Rattle.command_line.proofs.Simple.{demo_is_simple}
use Rattle.command_line.proofs.reading.demo_command.Goals as goal

pub accepted_matches-requires : goal.accepted_matches-requires
accepted_matches-requires c = ap is_simple_and_free c.in_ok-demo_options.ensures ∙ demo_is_simple

pub returns-in_err-matches-clause-usage : goal.returns-in_err-matches-clause-usage
returns-in_err-matches-clause-usage c = λ is.
    let same = passed_up c.from_residual-in_err-matches.result c.in_err-matches.field-0.0 Usage c.from_residual-in_err-matches.ensures.1 is in
    refused demo_app (app_of c.in_ok-demo_options.field-0) demo_of (map (λ word. word.now) c.args.words.now) c.in_ok-demo_options.ensures
    (c.in_err-matches.ensures.usage (ap Err same))

pub number_of-requires : goal.number_of-requires
number_of-requires c =
    demo_records (map (λ word. word.now) c.args.words.now) (app_of c.in_ok-demo_options.field-0) (rows_of (found_of c.in_ok-matches.matches))
    c.in_ok-demo_options.ensures c.requires c.in_ok-matches.ensures.faultless c.in_ok-matches.ensures.rows

pub number_of-requires-2 : goal.number_of-requires-2
number_of-requires-2 c =
    demo_workers (map (λ word. word.now) c.args.words.now) (app_of c.in_ok-demo_options.field-0) (rows_of (found_of c.in_ok-matches.matches))
    c.in_ok-demo_options.ensures c.requires c.in_ok-matches.ensures.faultless c.in_ok-matches.ensures.rows

pub returns-clause-read : goal.returns-clause-read
unfolding demo_of
returns-clause-read c =
    taken demo_app (app_of c.in_ok-demo_options.field-0) demo_of (map (λ word. word.now) c.args.words.now)
    (rows_of (found_of c.in_ok-matches.matches)) (asked.Demo c.number_of.result c.number_of-2.result) c.in_ok-demo_options.ensures
    c.in_ok-matches.ensures.faultless c.in_ok-matches.ensures.rows (ap₂ asked.Demo (sym c.number_of.ensures) (sym c.number_of-2.ensures))
