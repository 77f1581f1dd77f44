use Rattle.std.proofs.Common.{◌≡◌, ◌∷◌, [], List, map, rules, subst, sym}
use Rattle.std.specs.List.{AllZip}
use Rattle.std.proofs.lemmas.List.{nil_from_length}
use Rattle.std.proofs.lemmas.Result.{on_ok_weaker}
use Rattle.ksql_place.specs.declared.change.Change.{Change}
use Rattle.ksql_nodes.specs.Entries.{from_side}
use Rattle.operator.specs.Holding.{IsBaseOf}
use Rattle.op_chain.specs.declared.op.Op.{Op}
use Rattle.op_chain.specs.Along.{StepAlong, Steps}
use Rattle.op_chain.proofs.Ops.{held_of, node_of}
use Rattle.op_chain.proofs.RowSteps.{along-given, along-last, along-more, bases-more}
use Rattle.op_chain.proofs.along.+run_on.Goals as goal

pub returns-in_default-clause-next : goal.returns-in_default-clause-next
returns-in_default-clause-next t c =
    let none : c.args.ops.now ≡ [] = nil_from_length c.args.ops.now c.in_default.ensures.cases in
    let changes = c.args.changes.items in
    let old = c.args.out.now.items in
    let new = c.append.new.self.items in
    subst (λ (ops : List Op). StepAlong (map node_of ops) (map held_of ops) (map held_of ops) (from_side 0 changes) old new) (sym none)
    (along-given changes old new c.in_ok-append.ensures.items)

pub returns-in_err-given-clause-bases : goal.returns-in_err-given-clause-bases
returns-in_err-given-clause-bases t c = λ bases all.
    let op = c.in-Some.op.now in
    let later = c.in-Some.later.now in
    bases-more bases (held_of op) (held_of op) (map held_of later) (map held_of later) (λ base h. h) (λ bases all. all)
    (subst (λ (ops : List Op). AllZip IsBaseOf bases (map held_of ops)) c.in-Some.ensures.cases.0 all)

pub returns-in_err-step_left-clause-bases : goal.returns-in_err-step_left-clause-bases
returns-in_err-step_left-clause-bases t c = λ bases all.
    let op = c.in-Some.op.now in
    let later = c.in-Some.later.now in
    bases-more bases (held_of op) (held_of c.step_left-2.new.op) (map held_of later) (map held_of later) c.in_err-step_left.ensures.base (λ bases all. all)
    (subst (λ (ops : List Op). AllZip IsBaseOf bases (map held_of ops)) c.in-Some.ensures.cases.0 all)

pub returns-then-is_empty-clause-bases : goal.returns-then-is_empty-clause-bases
returns-then-is_empty-clause-bases t c = λ bases all.
    let op = c.in-Some.op.now in
    let later = c.in-Some.later.now in
    bases-more bases (held_of op) (held_of c.step_left.new.op) (map held_of later) (map held_of later) c.step_left.ensures.base (λ bases all. all)
    (subst (λ (ops : List Op). AllZip IsBaseOf bases (map held_of ops)) c.in-Some.ensures.cases.0 all)

pub returns-then-is_empty-clause-next : goal.returns-then-is_empty-clause-next
returns-then-is_empty-clause-next t c =
    let op = c.in-Some.op.now in
    let later = c.in-Some.later.now in
    let split : c.args.ops.now ≡ op ∷ later = c.in-Some.ensures.cases.0 in
    let none : later ≡ [] = nil_from_length later (search rules) in
    let entries = from_side 0 c.args.changes.items in
    let next = held_of c.step_left.new.op in
    let old = c.args.out.now.items in
    let new = c.step_left.new.out.items in
    on_ok_weaker c.step_left.result
    (λ steps. subst (λ (ops : List Op). StepAlong (map node_of ops) (map held_of ops) (next ∷ map held_of later) entries old new) (sym split)
    (subst (λ (later : List Op). StepAlong (node_of op ∷ map node_of later) (held_of op ∷ map held_of later) (next ∷ map held_of later) entries old new) (sym none)
    (along-last (node_of op) (held_of op) next entries old new steps)))
    c.step_left.ensures.next

pub returns-clause-next : goal.returns-clause-next
returns-clause-next t c =
    let op = c.in-Some.op.now in
    let later = c.in-Some.later.now in
    let split : c.args.ops.now ≡ op ∷ later = c.in-Some.ensures.cases.0 in
    let entries = from_side 0 c.args.changes.items in
    let given = c.step_left-2.new.out.items in
    let next = held_of c.step_left-2.new.op in
    let nexts = map held_of c.run_on.new.ops in
    let old = c.args.out.now.items in
    let new = c.run_on.new.out.items in
    let steps = subst (λ (first : List Change). Steps (node_of op) (held_of op) next entries first given) c.in_ok-given.ensures.items c.in_ok-step_left.ensures.next in
    on_ok_weaker c.run_on.result
    (λ on. subst (λ (ops : List Op). StepAlong (map node_of ops) (map held_of ops) (next ∷ nexts) entries old new) (sym split)
    (along-more (node_of op) (map node_of later) (held_of op) next (map held_of later) nexts entries given old new steps on))
    c.run_on.ensures.next

pub returns-clause-bases : goal.returns-clause-bases
returns-clause-bases t c = λ bases all.
    let op = c.in-Some.op.now in
    let later = c.in-Some.later.now in
    bases-more bases (held_of op) (held_of c.step_left-2.new.op) (map held_of later) (map held_of c.run_on.new.ops) c.in_ok-step_left.ensures.base c.run_on.ensures.bases
    (subst (λ (ops : List Op). AllZip IsBaseOf bases (map held_of ops)) c.in-Some.ensures.cases.0 all)
