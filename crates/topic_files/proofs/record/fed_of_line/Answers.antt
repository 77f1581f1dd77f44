-- The record of a line is that of its fields.
use Rattle.std.proofs.Common.{◌≡◌, option_and_then, sym, ap, ◌∙◌}
use Rattle.std.proofs.lemmas.Result.{IfOk-weaker}
use Rattle.topic_files.specs.LineFields.{fed_in, if_read, seen}
use Rattle.topic_files.specs.Record.{fed_of}
use Rattle.topic_files.proofs.LineFieldLemmas.{fed_of-fields}
use Rattle.topic_files.proofs.record.fed_of_line.Goals as goal

pub returns-then-branch : goal.returns-then-branch
returns-then-branch c =
    let relation = c.args.relation.now in
    let fields = seen c.read_line.new.fields in
    let is : fed_in relation fields ≡ fed_of relation c.args.line.now =
    ap (option_and_then (fed_in relation)) (ap (λ b. if_read b fields) (sym c.if-branch.true) ∙ c.in_ok-read_line.ensures) ∙ fed_of-fields relation c.args.line.now in
    IfOk-weaker c.fed_of_fields.result _ _ (λ fed same. same ∙ is) c.fed_of_fields.ensures

pub returns : goal.returns
returns c =
    let relation = c.args.relation.now in
    let fields = seen c.read_line.new.fields in
    ap (option_and_then (fed_in relation)) (ap (λ b. if_read b fields) (sym c.if-branch.false) ∙ c.in_ok-read_line.ensures) ∙ fed_of-fields relation c.args.line.now
