use Rattle.std.proofs.Common.{◌≡◌, ◌∙◌, ap, sym, arith}
use Rattle.core_state.specs.Routes.{IsWriter}
use Rattle.topic_log.specs.declared.shelves.Shelves.{Shelves}
use Rattle.topic_log.specs.Shelves.{routes_in, task_at}
use Rattle.topic_log.proofs.Read.{output-inside, read-task_at, read-within, writer-inside}
use Rattle.topic_log.proofs.broker.Broker.task.Goals as goal

pub index-requires-2 : goal.index-requires-2
index-requires-2 c =
    let s : Shelves = c.self.inside.inner in
    let is : IsWriter (routes_in s) c.args.task = writer-inside s c.args.self.now c.args.task c.self.view_is c.requires in
    let to : c.output-topic.result ≡ (routes_in s).output c.args.task = output-inside s c.args.self.now c.args.task c.output-topic.result c.self.view_is c.output-topic.ensures in
    omega (arith, read-within s c.args.task c.self.invariant.0 is c.output-topic.result to c.index.result.now c.index.ensures)

pub returns : goal.returns
returns c =
    let s : Shelves = c.self.inside.inner in
    let is : IsWriter (routes_in s) c.args.task = writer-inside s c.args.self.now c.args.task c.self.view_is c.requires in
    let to : c.output-topic.result ≡ (routes_in s).output c.args.task = output-inside s c.args.self.now c.args.task c.output-topic.result c.self.view_is c.output-topic.ensures in
    ap (λ (s : Shelves). task_at s c.args.task) (sym c.self.view_is)
    ∙ read-task_at s c.args.task c.self.invariant.0 is c.output-topic.result to c.index.result.now c.index.ensures c.index-2.result.now c.index-2.ensures
