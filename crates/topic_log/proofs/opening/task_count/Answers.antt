use Rattle.std.proofs.Common.{◌∙◌, ap, sym, length, Option}
use Rattle.ksql_types.specs.declared.topic.Writer.{Writer}
use Rattle.core_state.specs.Routes.{tasks_of_writer}
use Rattle.topic_log.proofs.OneTopic.{length-of_writer}
use Rattle.topic_log.proofs.opening.task_count.Goals as goal

pub returns-in-Some : goal.returns-in-Some
returns-in-Some c = sym (ap (λ (w : Option Writer). length (tasks_of_writer w)) c.in-Some.is ∙ length-of_writer c.in-Some.writer)
