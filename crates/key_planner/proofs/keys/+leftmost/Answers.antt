use Rattle.std.proofs.Common.{◌∙◌, ap, sym}
use Rattle.key_planner.specs.Cuts.{leftmost_of}
use Rattle.key_planner.proofs.Parts.{leftmost-Filter, leftmost-Rekey, leftmost-JoinStreamTable, leftmost-JoinTables, leftmost-Group, leftmost-Aggregate, leftmost-Having, leftmost-Select}
use Rattle.key_planner.proofs.keys.+leftmost.Goals as goal

pub returns-in-Filter : goal.returns-in-Filter
returns-in-Filter t c = λ items.
    c.leftmost.ensures items ∙ ap (leftmost_of items) c.get.ensures ∙ sym (leftmost-Filter items c.args.plan.now c.in-Filter.on c.in-Filter.arg c.in-Filter.is)

pub returns-in-Rekey : goal.returns-in-Rekey
returns-in-Rekey t c = λ items.
    c.leftmost-in-Rekey.ensures items ∙ ap (leftmost_of items) c.get-in-Rekey.ensures ∙ sym (leftmost-Rekey items c.args.plan.now c.in-Rekey.key c.in-Rekey.arg c.in-Rekey.is)

pub returns-in-JoinStreamTable : goal.returns-in-JoinStreamTable
returns-in-JoinStreamTable t c = λ items.
    c.leftmost-in-JoinStreamTable.ensures items ∙ ap (leftmost_of items) c.get-in-JoinStreamTable.ensures ∙ sym (leftmost-JoinStreamTable items c.args.plan.now c.in-JoinStreamTable.kind c.in-JoinStreamTable.on c.in-JoinStreamTable.left c.in-JoinStreamTable.right c.in-JoinStreamTable.is)

pub returns-in-JoinTables : goal.returns-in-JoinTables
returns-in-JoinTables t c = λ items.
    c.leftmost-in-JoinTables.ensures items ∙ ap (leftmost_of items) c.get-in-JoinTables.ensures ∙ sym (leftmost-JoinTables items c.args.plan.now c.in-JoinTables.kind c.in-JoinTables.left c.in-JoinTables.right c.in-JoinTables.is)

pub returns-in-Group : goal.returns-in-Group
returns-in-Group t c = λ items.
    c.leftmost-in-Group.ensures items ∙ ap (leftmost_of items) c.get-in-Group.ensures ∙ sym (leftmost-Group items c.args.plan.now c.in-Group.keys c.in-Group.arg c.in-Group.is)

pub returns-in-Aggregate : goal.returns-in-Aggregate
returns-in-Aggregate t c = λ items.
    c.leftmost-in-Aggregate.ensures items ∙ ap (leftmost_of items) c.get-in-Aggregate.ensures ∙ sym (leftmost-Aggregate items c.args.plan.now c.in-Aggregate.over c.in-Aggregate.aggs c.in-Aggregate.window c.in-Aggregate.arg c.in-Aggregate.is)

pub returns-in-Having : goal.returns-in-Having
returns-in-Having t c = λ items.
    c.leftmost-in-Having.ensures items ∙ ap (leftmost_of items) c.get-in-Having.ensures ∙ sym (leftmost-Having items c.args.plan.now c.in-Having.on c.in-Having.arg c.in-Having.is)

pub returns-in-Select : goal.returns-in-Select
returns-in-Select t c = λ items.
    c.leftmost-in-Select.ensures items ∙ ap (leftmost_of items) c.get-in-Select.ensures ∙ sym (leftmost-Select items c.args.plan.now c.in-Select.keys c.in-Select.values c.in-Select.out c.in-Select.arg c.in-Select.is)
