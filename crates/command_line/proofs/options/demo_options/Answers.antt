use Rattle.std.proofs.Common.{ap₂, ◌≡◌, ◌∙◌, codes}
use Rattle.std.proofs.lemmas.Result.{IfOk-weaker}
use Rattle.clap.specs.Words.{app_of, new_app, with_rule}
use Rattle.command_line.specs.Options.{demo_app, records_rule}
use Rattle.command_line.proofs.options.demo_options.Goals as goal

pub returns : goal.returns
unfolding demo_app
returns c =
    let first : app_of c.in_ok-command.command ≡ with_rule (new_app (codes "demo")) records_rule =
    c.in_ok-command.ensures.shape c.records_option.ensures.local ∙ ap₂ with_rule c.new.ensures.app c.records_option.ensures.rule in
    IfOk-weaker c.arg-2.result _ _
    (λ command h. h.shape c.workers_option.ensures.local ∙ ap₂ with_rule first c.workers_option.ensures.rule) c.arg-2.ensures
