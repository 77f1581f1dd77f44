-- The fields of an object's members are the text's, if the brace comes first and nothing follows.
use Rattle.std.proofs.Common.{◌≡◌, Some, None, option_map, sym, ap, ◌∙◌}
use Rattle.json.specs.Json.{parse_map}
use Rattle.topic_files.specs.LineFields.{after_begin_object, fields_in, if_read, members_within, seen}
use Rattle.topic_files.proofs.LineFieldLemmas.{if_last_read, no_end, no_object}
use Rattle.topic_files.proofs.read.read_text.Goals as goal

pub returns-then-not-take_begin_object : goal.returns-then-not-take_begin_object
returns-then-not-take_begin_object c =
    sym (no_object c.args.text.now (ap after_begin_object (sym c.in_ok-reader.ensures.ok) ∙ c.if-not-take_begin_object.ensures))

pub returns-then-is_object : goal.returns-then-is_object
returns-then-is_object c =
    let fields = seen c.read_fields.new.fields in
    let rest = c.read_fields.new.reader in
    let opens = ap after_begin_object (sym c.in_ok-reader.ensures.ok) ∙ c.if-not-take_begin_object.ensures in
    let is : Some (fields, rest) ≡ parse_map fields_in (members_within 126 c.take_begin_object.new.reader) =
    ap (λ b. option_map (λ f. (f, rest)) (if_read b fields)) (sym c.if-is_object.true) ∙ c.in_ok-is_object.ensures in
    if_last_read c.args.text.now c.take_begin_object.new.reader opens rest c.next.new.self c.next.result c.is_none.result fields is c.next.ensures.value c.is_none.ensures

pub returns-else-is_object : goal.returns-else-is_object
returns-else-is_object c =
    let fields = seen c.read_fields.new.fields in
    let rest = c.read_fields.new.reader in
    let opens = ap after_begin_object (sym c.in_ok-reader.ensures.ok) ∙ c.if-not-take_begin_object.ensures in
    let is : None ≡ parse_map fields_in (members_within 126 c.take_begin_object.new.reader) =
    ap (λ b. option_map (λ f. (f, rest)) (if_read b fields)) (sym c.if-is_object.false) ∙ c.in_ok-is_object.ensures in
    ap (λ b. if_read b fields) c.if-is_object.false ∙ no_end c.args.text.now c.take_begin_object.new.reader opens is
