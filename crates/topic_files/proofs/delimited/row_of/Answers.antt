-- Each field takes its column's value to the row, or there is no row.
use Rattle.std.proofs.Common.{◌≡◌, ◌+◌, ◌++◌, length, drop, Some, option_map, sym, ap, ◌∙◌, arith}
use Rattle.csv.specs.Records.{fields_of}
use Rattle.csv.proofs.RecordFacts.{field-there}
use Rattle.topic_files.specs.Delimited.{row_of}
use Rattle.topic_files.proofs.FieldLemmas.{row_of-lengths, row_of-more, row_of-other, row_of-end}
use Rattle.topic_files.proofs.delimited.row_of.Goals as goal

pub returns-then-len-columns : goal.returns-then-len-columns
returns-then-len-columns c = sym (row_of-lengths c.args.columns.now (fields_of c.args.fields.now) (λ e. c.if-len-columns.true (c.len.ensures ∙ e)))

-- each column has its field
pub returns-in_default : goal.returns-in_default
returns-in_default c =
    absurd (field-there (fields_of c.args.fields.now) c.loop-i.i (omega (arith, c.len.ensures, c.if-len-columns.false)) (sym c.in_default.ensures.value))

pub returns-in-None : goal.returns-in-None
returns-in-None c =
    sym (c.loop-i.invariant
    ∙ row_of-other c.args.columns.now (fields_of c.args.fields.now) c.loop-i.i c.index-columns-i.result c.in-Some.field.now c.loop-i-test.true c.index-columns-i.is
    (sym c.in-Some.ensures.value) c.loop-i.values.items (sym c.in-None.is ∙ c.in_ok-value.ensures))

pub loop-i-preserved : goal.loop-i-preserved
loop-i-preserved c =
    let columns = c.args.columns.now in
    let fields = fields_of c.args.fields.now in
    let next = c.loop-i.i + 1 in
    c.loop-i.invariant
    ∙ row_of-more columns fields c.loop-i.i c.index-columns-i.result c.in-Some.field.now c.loop-i-test.true c.index-columns-i.is
    (sym c.in-Some.ensures.value) c.loop-i.values.items c.in-Some-2.value (sym c.in-Some-2.is ∙ c.in_ok-value.ensures)
    ∙ ap (λ values. option_map (λ more. values ++ more) (row_of (drop next columns) (drop next fields))) (sym c.in_ok-push-in-Some-2.ensures.items)

pub returns : goal.returns
returns c =
    let same : length (fields_of c.args.fields.now) ≡ length c.args.columns.now = omega (arith, c.len.ensures, c.if-len-columns.false) in
    ap Some c.of.ensures
    ∙ sym (c.loop-i.invariant ∙ row_of-end c.args.columns.now (fields_of c.args.fields.now) c.loop-i.i c.loop-i.values.items c.loop-i-test.false same)
