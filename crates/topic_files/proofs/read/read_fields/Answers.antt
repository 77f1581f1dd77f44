-- Each turn reads one member more.
use Rattle.std.proofs.Common.{◌≡◌, ◌<◌, length, Some, None, arith}
use Rattle.json.specs.Json.{read_key, value}
use Rattle.serde_json.specs.Read.{converted, of_json}
use Rattle.topic_files.specs.LineFields.{seen}
use Rattle.topic_files.specs.Tree.{view}
use Rattle.topic_files.proofs.LineFieldLemmas.{all_fields_read, no_field_name, no_field_reads, no_fields_read, one_field_read}
use Rattle.topic_files.proofs.read.read_fields.Goals as goal

pub members-init : goal.members-init
members-init c = no_fields_read (value 126) c.args.reader.now (seen c.args.fields.now) c.requires

pub returns-in_default : goal.returns-in_default
returns-in_default c =
    let name = c.in-Ok-Some.name.now in
    let after = c.next_key.new.self in
    let key : read_key c.members.reader ≡ Some (Some name, after) = grind arith in
    let none : None ≡ converted of_json (value 126 after) = grind arith in
    no_field_reads (value 126) c.args.reader.now (seen c.members.fields) c.members.reader c.members.invariant name after key none

pub members-preserved : goal.members-preserved
members-preserved c =
    let name = c.in-Ok-Some.name.now in
    let after = c.next_key.new.self in
    let rest = c.read_value.new.reader in
    let key : read_key c.members.reader ≡ Some (Some name, after) = grind arith in
    let is : Some (view c.in-Some.field, rest) ≡ converted of_json (value 126 after) = grind arith in
    let less : length rest < length after = grind arith in
    one_field_read (value 126) c.args.reader.now (seen c.members.fields) c.members.reader c.members.invariant name (view c.in-Some.field) (seen c.put.new.self)
    after rest key is less c.put.ensures.time c.put.ensures.key c.put.ensures.value

pub returns-in-Ok-None : goal.returns-in-Ok-None
returns-in-Ok-None c =
    let rest = c.next_key.new.self in
    let over : read_key c.members.reader ≡ Some (None, rest) = grind arith in
    all_fields_read (value 126) c.args.reader.now (seen c.members.fields) c.members.reader c.members.invariant rest over

pub returns-in-Err : goal.returns-in-Err
returns-in-Err c = no_field_name (value 126) c.args.reader.now (seen c.members.fields) c.members.reader c.members.invariant c.in-Err.ensures.value
