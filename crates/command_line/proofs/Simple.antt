-- The three commands are simple, so clap's functions of the words say what they accept.
use Rattle.std.proofs.Common.{◌≡◌, true, refl}
use Rattle.clap.specs.Words.{is_simple_and_free}
use Rattle.clap.proofs.OnLiterals.{clap_on_literals}
use Rattle.command_line.specs.Options.{demo_app, explain_app, records_rule, run_app, schedule_rule, script_rule, topics_rule, trace_rule, workers_rule}

pub run_is_simple : is_simple_and_free run_app ≡ true
unfolding clap_on_literals run_app script_rule topics_rule workers_rule schedule_rule trace_rule
run_is_simple = refl

pub explain_is_simple : is_simple_and_free explain_app ≡ true
unfolding clap_on_literals explain_app script_rule
explain_is_simple = refl

pub demo_is_simple : is_simple_and_free demo_app ≡ true
unfolding clap_on_literals demo_app records_rule workers_rule
demo_is_simple = refl
