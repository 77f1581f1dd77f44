use Rattle.std.proofs.Common.{◌∙◌, List, sym}
use Rattle.std.proofs.lemmas.Result.{on_ok_weaker}
use Rattle.ksql_nodes.specs.Entries.{Entry}
use Rattle.op_chain.specs.Chain.{entries_of}
use Rattle.task_core.proofs.Stepping.{IsRestOf, left-ordered, left-taken, right-ordered, right-taken}
use Rattle.task_core.proofs.reader.Reader.step.Goals as goal

pub returns-then-is_left_next-clause-taken : goal.returns-then-is_left_next-clause-taken
returns-then-is_left_next-clause-taken c =
    let r = c.args.self.now in
    let next = c.take_first.new.self in
    let before : List Entry = entries_of c.args.taken.now.items in
    let after : List Entry = entries_of c.take_first.new.taken.items in
    let first = c.take_first.ensures in
    let is : IsRestOf r.left next = record { kind = first.kind; input = first.input; rest = first.rest } in
    on_ok_weaker c.take_first.result
    (λ put. left-taken r next before after c.requires.order (sym c.is_left_next.ensures ∙ c.if-is_left_next.true) is put)
    first.taken

pub returns-then-is_left_next-clause-order : goal.returns-then-is_left_next-clause-order
returns-then-is_left_next-clause-order c =
    let first = c.take_first.ensures in
    left-ordered c.args.self.now c.take_first.new.self c.requires.order (record { kind = first.kind; input = first.input; rest = first.rest })

pub returns-else-is_left_next-clause-taken : goal.returns-else-is_left_next-clause-taken
returns-else-is_left_next-clause-taken c =
    let r = c.args.self.now in
    let next = c.take_first-else-is_left_next.new.self in
    let before : List Entry = entries_of c.args.taken.now.items in
    let after : List Entry = entries_of c.take_first-else-is_left_next.new.taken.items in
    let first = c.take_first-else-is_left_next.ensures in
    let is : IsRestOf r.right next = record { kind = first.kind; input = first.input; rest = first.rest } in
    on_ok_weaker c.take_first-else-is_left_next.result
    (λ put. right-taken r next before after c.requires.order (sym c.is_left_next.ensures ∙ c.if-is_left_next.false) is put)
    first.taken

pub returns-else-is_left_next-clause-order : goal.returns-else-is_left_next-clause-order
returns-else-is_left_next-clause-order c =
    let first = c.take_first-else-is_left_next.ensures in
    right-ordered c.args.self.now c.take_first-else-is_left_next.new.self c.requires.order (record { kind = first.kind; input = first.input; rest = first.rest })
