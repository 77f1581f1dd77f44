-- Each token begins a value of its own kind, and each turn of a loop reads one item or member more.
use Rattle.std.proofs.Common.{◌≡◌, ℕ, ◌<◌, List, ◌∷◌, [], Bor, length, Some, None, sym, ap, ap₂, ◌∙◌, subst, arith, rules}
use Rattle.std.proofs.lemmas.Result.{IfOk-weaker}
use Rattle.json.specs.Token.{Token}
use Rattle.json.specs.Json.{items, members, parse_map, read_key, value}
use Rattle.json.specs.Reads.{token_of}
use Rattle.json.proofs.Grammar.{value-begin_array, value-begin_object, value_is}
use Rattle.serde_json.specs.Data.{array, boolean, null, number, object, string}
use Rattle.serde_json.specs.Read.{converted, of_json}
use Rattle.serde_json.specs.View.{number_view}
use Rattle.topic_files.specs.Tree.{members_view, view}
use Rattle.topic_files.specs.declared.tree.Json.{Json, Bool, Null, Number, Text, the_lemmas}
use Rattle.topic_files.proofs.ReadLemmas.{MembersRead, all_items_read, all_members_read, converted-array, converted-object, no_item_reads, no_key_reads, no_member_reads, one_item_read, one_member_read}
use Rattle.topic_files.proofs.TreeLemmas.{members_view-push, view-Array, view-Object}
use Rattle.topic_files.proofs.read.+read.Goals as goal
use Rattle.topic_files.proofs.read.+read.Goals.{read_value-in_default-token-via-in-BeginArray+else-depth-gt0, read_value-in_default-token-via-in-BeginObject+else-depth-gt0-2, read_value-in_default-token-via-in_default-token}

pub read_array-returns-in_default-clause-value : goal.read_array-returns-in_default-clause-value
read_array-returns-in_default-clause-value t c =
    let p = value c.args.depth in
    let going = c.items-test.ensures in
    let none : None ≡ converted of_json (p c.items.reader) = grind arith in
    let all = items p (length c.args.reader.now) c.args.reader.now in
    sym (converted-array all ∙ ap (parse_map array) (no_item_reads p c.args.reader.now c.items.found.items c.items.reader c.items.invariant going.0 none))

pub read_array-items-preserved : goal.read_array-items-preserved
read_array-items-preserved t c =
    let p = value c.args.depth in
    let going = c.items-test.ensures in
    let is : Some (view c.in-Some.item, c.read_value.new.reader) ≡ converted of_json (p c.items.reader) = grind arith in
    let less : length c.read_value.new.reader < length c.items.reader = grind arith in
    rw c.in_ok-push.ensures.items (one_item_read p c.args.reader.now c.items.found.items c.items.reader c.items.invariant c.in-Some.item c.read_value.new.reader going.0 is less)

pub read_array-returns-clause-value : goal.read_array-returns-clause-value
read_array-returns-clause-value t c =
    let p = value c.args.depth in
    let rest = c.take_end_array.new.self in
    let all = items p (length c.args.reader.now) c.args.reader.now in
    sym (converted-array all ∙ ap (parse_map array) (all_items_read p c.args.reader.now c.items.found.items c.items.reader c.items.invariant rest c.items-test.ensures)
    ∙ ap (λ d. Some (d, rest)) (sym (view-Array c.items.found)))

pub read_object-returns-in_default-clause-value : goal.read_object-returns-in_default-clause-value
read_object-returns-in_default-clause-value t c =
    let p = value c.args.depth in
    let name = c.in-Ok-Some.name.now in
    let after = c.next_key.new.self in
    let key : read_key c.members.reader ≡ Some (Some name, after) = grind arith in
    let none : None ≡ converted of_json (p after) = grind arith in
    let all = members p (length c.args.reader.now) c.args.reader.now in
    sym (converted-object all ∙ ap (parse_map object) (no_member_reads p c.args.reader.now (members_view c.members.found.items) c.members.reader c.members.invariant name after key none))

pub read_object-members-preserved : goal.read_object-members-preserved
read_object-members-preserved t c =
    let p = value c.args.depth in
    let member : Bor (List ℕ) × Json = (c.in-Ok-Some.name, c.in-Some.field) in
    let after = c.next_key.new.self in
    let rest = c.read_value.new.reader in
    let key : read_key c.members.reader ≡ Some (Some c.in-Ok-Some.name.now, after) = grind arith in
    let is : Some (view c.in-Some.field, rest) ≡ converted of_json (p after) = grind arith in
    let less : length rest < length after = grind arith in
    let read = one_member_read p c.args.reader.now (members_view c.members.found.items) c.members.reader c.members.invariant member.0.now (view member.1) after rest key is less in
    let pushed = ap members_view c.in_ok-push-in-Ok-Some.ensures.items ∙ members_view-push c.members.found.items member in
    subst (λ before. MembersRead p c.args.reader.now before rest) (sym pushed) read

pub read_object-returns-in-Ok-None-clause-value : goal.read_object-returns-in-Ok-None-clause-value
read_object-returns-in-Ok-None-clause-value t c =
    let p = value c.args.depth in
    let rest = c.next_key.new.self in
    let over : read_key c.members.reader ≡ Some (None, rest) = grind arith in
    let all = members p (length c.args.reader.now) c.args.reader.now in
    sym (converted-object all ∙ ap (parse_map object) (all_members_read p c.args.reader.now (members_view c.members.found.items) c.members.reader c.members.invariant rest over)
    ∙ ap (λ d. Some (d, rest)) (sym (view-Object c.members.found)))

pub read_object-returns-in-Err-clause-value : goal.read_object-returns-in-Err-clause-value
read_object-returns-in-Err-clause-value t c =
    let p = value c.args.depth in
    let all = members p (length c.args.reader.now) c.args.reader.now in
    sym (converted-object all ∙ ap (parse_map object) (no_key_reads p c.args.reader.now (members_view c.members.found.items) c.members.reader c.members.invariant c.in-Err.ensures.value))

pub read_value-returns-in_default-clause-value : goal.read_value-returns-in_default-clause-value
read_value-returns-in_default-clause-value t c =
    let empty : c.args.reader.now ≡ [] = grind arith in
    sym (ap (converted of_json) (ap (value c.args.depth) empty ∙ value_is c.args.depth []))

pub read_value-returns-in-Null-clause-value : goal.read_value-returns-in-Null-clause-value
read_value-returns-in-Null-clause-value t c =
    let is : c.args.reader.now ≡ Token.null ∷ c.next.new.self = grind arith in
    let seen : view Null ≡ null = search (rules, the_lemmas) in
    sym (ap (converted of_json) (ap (value c.args.depth) is ∙ value_is c.args.depth _) ∙ ap (λ d. Some (d, c.next.new.self)) (sym seen))

pub read_value-returns-in-Bool-clause-value : goal.read_value-returns-in-Bool-clause-value
read_value-returns-in-Bool-clause-value t c =
    let is : c.args.reader.now ≡ Token.boolean c.in-Bool.truth ∷ c.next.new.self = grind arith in
    let seen : view (Bool c.in-Bool.truth) ≡ boolean c.in-Bool.truth = search (rules, the_lemmas) in
    sym (ap (converted of_json) (ap (value c.args.depth) is ∙ value_is c.args.depth _) ∙ ap (λ d. Some (d, c.next.new.self)) (sym seen))

pub read_value-returns-in-String-clause-value : goal.read_value-returns-in-String-clause-value
read_value-returns-in-String-clause-value t c =
    let is : c.args.reader.now ≡ Token.string c.in-String.text.now ∷ c.next.new.self = grind arith in
    let seen : view (Text c.in-String.text) ≡ string c.in-String.text.now = search (rules, the_lemmas) in
    sym (ap (converted of_json) (ap (value c.args.depth) is ∙ value_is c.args.depth _) ∙ ap (λ d. Some (d, c.next.new.self)) (sym seen))

pub read_value-returns-in-Some-number_of-clause-value : goal.read_value-returns-in-Some-number_of-clause-value
read_value-returns-in-Some-number_of-clause-value t c =
    let is : c.args.reader.now ≡ Token.number c.in-Number.text.now ∷ c.next.new.self = grind arith in
    let seen : view (Number c.in-Some-number_of.number) ≡ number (number_view c.in-Some-number_of.number) = search (rules, the_lemmas) in
    sym (ap (converted of_json) (ap (value c.args.depth) is ∙ value_is c.args.depth _) ∙ rw (← c.in-Some-number_of.ensures, seen))

pub read_value-returns-in-None-clause-value : goal.read_value-returns-in-None-clause-value
read_value-returns-in-None-clause-value t c =
    let is : c.args.reader.now ≡ Token.number c.in-Number.text.now ∷ c.next.new.self = grind arith in
    sym (ap (converted of_json) (ap (value c.args.depth) is ∙ value_is c.args.depth _) ∙ rw (← c.in-None.ensures))

pub read_value-returns-in-BeginArray-clause-value : goal.read_value-returns-in-BeginArray-clause-value
read_value-returns-in-BeginArray-clause-value t c =
    let opens : c.args.reader.now ≡ Token.begin_array ∷ c.next.new.self = grind arith in
    let is = ap (converted of_json) (ap (value c.args.depth) opens ∙ value-begin_array c.args.depth c.next.new.self (omega arith)) in
    IfOk-weaker c.read_array.result _ _ (λ json read. read ∙ sym is) c.read_array.ensures.value

pub read_value-returns-in-BeginObject-clause-value : goal.read_value-returns-in-BeginObject-clause-value
read_value-returns-in-BeginObject-clause-value t c =
    let opens : c.args.reader.now ≡ Token.begin_object ∷ c.next.new.self = grind arith in
    let is = ap (converted of_json) (ap (value c.args.depth) opens ∙ value-begin_object c.args.depth c.next.new.self (omega arith)) in
    IfOk-weaker c.read_object.result _ _ (λ json read. read ∙ sym is) c.read_object.ensures.value

pub read_value-returns-in_default-token-clause-value : goal.read_value-returns-in_default-token-clause-value
unfolding value
read_value-returns-in_default-token-clause-value t c =
    let rest = c.next.new.self in
    let first : c.args.reader.now ≡ token_of c.in-Some.token ∷ rest = grind arith in
    elim c.in_default-token.branch [
      | read_value-in_default-token-via-in-BeginArray+else-depth-gt0 w ↦
          let none : c.args.depth ≡ 0 = omega (arith, w.if-depth-gt0.false) in
          sym (ap (converted of_json) (ap₂ value none (first ∙ ap (λ k. token_of k ∷ rest) w.in-BeginArray.is)))
      | read_value-in_default-token-via-in-BeginObject+else-depth-gt0-2 w ↦
          let none : c.args.depth ≡ 0 = omega (arith, w.if-depth-gt0-2.false) in
          sym (ap (converted of_json) (ap₂ value none (first ∙ ap (λ k. token_of k ∷ rest) w.in-BeginObject.is)))
      | read_value-in_default-token-via-in_default-token w ↦
          let none : value c.args.depth c.args.reader.now ≡ None = rw (value_is c.args.depth c.args.reader.now, first) (grind (arith, w.in_default-token)) in
          sym (ap (converted of_json) none)
    ]
