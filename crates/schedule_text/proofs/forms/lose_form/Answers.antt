-- A word is cut at its first `_`.
use Rattle.std.proofs.Common.{rules, ap, sym, ◌∙◌, option_map}
use Rattle.std.proofs.lemmas.List.{take_rest}
use Rattle.schedule_text.specs.Forms.{Form, form_view, lose}
use Rattle.ksql_types.specs.declared.relation.TaskName.{TaskName}
use Rattle.schedule_text.proofs.Numbers.{task_of-at, task_of-none}
use Rattle.schedule_text.proofs.forms.lose_form.Goals as goal

pub returns-in_err-at : goal.returns-in_err-at
returns-in_err-at c =
    ap (option_map form_view) c.from_residual.ensures ∙ ap (option_map {T = TaskName} {U = Form} lose) (sym (task_of-none c.args.word.now (search rules)))

pub returns : goal.returns
returns c =
    c.lose_parts.ensures ∙ simp take_rest (ap (option_map {T = TaskName} {U = Form} lose) (sym (task_of-at c.args.word.now c.in_ok-at.at (search rules) (search rules) (search rules))))
