use Rattle.std.proofs.Common.{map, length, string_bytes, arith, sym, ap, ◌∙◌}
use Rattle.std.proofs.lemmas.Grind.{common_steps}
use Rattle.std.proofs.lemmas.List.{get_or-map, length-map, length_push}
use Rattle.std.proofs.lemmas.Slice.Zip.{zip_turn, zip_end}
use Rattle.topic_files.specs.Printed.{fields_of}
use Rattle.topic_files.proofs.Texts.{concat_more, fields_of-next, fields_of-min}
use Rattle.topic_files.proofs.printed.push_fields.Goals as goal

pub loop-label-init : goal.loop-label-init
unfolding fields_of
loop-label-init c = record { written = grind (arith, common_steps); can = (tt, tt); finite = tt }

-- this pair is at the place that was reached, so its field is the next one
pub loop-label-preserved : goal.loop-label-preserved
loop-label-preserved c =
    let turn = zip_turn c.args.labels.now c.args.row.now c.loop-label.yielded
    c.into_iter-label-iterator.result c.loop-label.label-iterator c.next.new.self c.next.result
    (cc) (cc) c.loop-label.yielded_by (c.in-Some.label, c.in-Some.value) c.in-Some.is c.next.ensures.steps in
    let label = ap string_bytes (turn.2 c.in-Some.label.now)
    ∙ sym (get_or-map string_bytes c.args.labels.now (length c.loop-label.yielded) c.in-Some.label.now _ turn.0) in
    let more = fields_of-next (map string_bytes c.args.labels.now) c.args.row.now (length c.loop-label.yielded) _
    (string_bytes c.in-Some.label.now) c.in-Some.value.now
    (length_push c.loop-label.yielded (c.in-Some.label, c.in-Some.value)) (simp length-map turn.0) turn.1 label (turn.3 c.in-Some.value.now) in
    record { written = grind (arith, common_steps, concat_more, more); can = (tt, tt); finite = tt }

-- one of the two lists has come to its end
pub returns : goal.returns
returns c =
    let ends = zip_end c.args.labels.now c.args.row.now c.loop-label.yielded
    c.into_iter-label-iterator.result c.loop-label.label-iterator c.next.new.self c.next.result
    (cc) (cc) c.loop-label.yielded_by c.in-None.is c.next.ensures.steps in
    let whole = fields_of-min (map string_bytes c.args.labels.now) c.args.row.now (length c.loop-label.yielded) (simp length-map ends) in
    grind (arith, common_steps, whole)
