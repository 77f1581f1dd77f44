use Rattle.std.proofs.Common.{ap₂, ◌∙◌}
use Rattle.std.proofs.lemmas.Result.{IfOk-weaker}
use Rattle.clap.specs.Words.{with_rule}
use Rattle.command_line.specs.Options.{explain_app}
use Rattle.command_line.proofs.options.explain_options.Goals as goal

pub returns : goal.returns
unfolding explain_app
returns c = IfOk-weaker c.arg.result _ _
    (λ command h. h.shape c.script_option.ensures.local ∙ ap₂ with_rule c.new.ensures.app c.script_option.ensures.rule) c.arg.ensures
