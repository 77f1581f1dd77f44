use Rattle.std.proofs.Common.{ap₂, ◌≡◌, ◌∙◌, codes}
use Rattle.std.proofs.lemmas.Result.{IfOk-weaker}
use Rattle.clap.specs.Words.{app_of, new_app, with_rule}
use Rattle.command_line.specs.Options.{run_app, script_rule, topics_rule}
use Rattle.command_line.proofs.options.run_options.Goals as goal

pub returns : goal.returns
unfolding run_app
returns c =
    let first : app_of c.in_ok-command.command ≡ with_rule (new_app (codes "run")) script_rule =
    c.in_ok-command.ensures.shape c.script_option.ensures.local ∙ ap₂ with_rule c.new.ensures.app c.script_option.ensures.rule in
    let second : app_of c.in_ok-command-2.command ≡ with_rule (with_rule (new_app (codes "run")) script_rule) topics_rule =
    c.in_ok-command-2.ensures.shape c.topics_option.ensures.local ∙ ap₂ with_rule first c.topics_option.ensures.rule in
    let third = c.in_ok-command-3.ensures.shape c.workers_option.ensures.local ∙ ap₂ with_rule second c.workers_option.ensures.rule in
    let fourth = c.in_ok-command-4.ensures.shape c.schedule_option.ensures.local ∙ ap₂ with_rule third c.schedule_option.ensures.rule in
    IfOk-weaker c.arg-5.result _ _
    (λ command h. h.shape c.trace_option.ensures.local ∙ ap₂ with_rule fourth c.trace_option.ensures.rule) c.arg-5.ensures
