use Rattle.std.proofs.Common.{◌≡◌, ◌∙◌, refl, [], ◌∷◌, ◌++◌, List, ap, append_assoc, subst, sym}
use Rattle.std.specs.List.{AllByRecursion}
use Rattle.std.specs.Vec.Iter.{into_iter_items}
use Rattle.std.proofs.lemmas.List.{append-nil, nil_from_length}
use Rattle.std.proofs.lemmas.List.Elements.{recursion_from_All}
use Rattle.ksql_place.specs.declared.change.Change.{Change}
use Rattle.ksql_nodes.specs.declared.node.Node.{Node}
use Rattle.ksql_nodes.specs.Entries.{Entry, from_side}
use Rattle.ksql_nodes.specs.Nodes.{gives}
use Rattle.operator.specs.StandsFor.{StandsFor}
use Rattle.operator.specs.Storable.{IsStorable}
use Rattle.op_chain.specs.Along.{Steps}
use Rattle.op_chain.proofs.Ops.{held_of, node_of}
use Rattle.op_chain.proofs.RowSteps.{steps-more, steps-none}
use Rattle.op_chain.proofs.along.step_left.Goals as goal

abbrev AreStored : Node → List Change → Type 0
AreStored n es = AllByRecursion (λ (e : Entry). IsStorable n e.side e.change) (from_side 0 es)

pub loop-change-init : goal.loop-change-init
loop-change-init c =
    let n = node_of c.args.op.now in
    let left : into_iter_items c.into_iter-change-iterator.result ≡ c.args.changes.items = c.into_iter-change-iterator.ensures.into_iter_gives.0 in
    record {
      node = refl;
      next = ([], ap (from_side 0) left, steps-none n (held_of c.args.op.now) c.args.out.now.items);
      left = subst (AreStored n) (sym left) (recursion_from_All (λ (e : Entry). IsStorable n e.side e.change) (from_side 0 c.args.changes.items) c.requires);
      base = λ base h. h;
    }

pub step-requires : goal.step-requires
step-requires c =
    let x = c.in-Some.change in
    let left = subst (AreStored (node_of c.args.op.now)) c.in-Some.ensures.steps.0 c.loop-change.invariant.left in
    subst (λ (n : Node). IsStorable n 0 x) (sym c.loop-change.invariant.node) left.0

pub loop-change-preserved : goal.loop-change-preserved
loop-change-preserved c =
    let n = node_of c.args.op.now in
    let x = c.in-Some.change in
    let e : Entry = record { side = 0; change = x } in
    let rest : List Change = into_iter_items c.next.new.self in
    let steps : into_iter_items c.loop-change.change-iterator ≡ x ∷ rest = c.in-Some.ensures.steps.0 in
    let first = held_of c.args.op.now in
    let held = held_of c.loop-change.op in
    let next = held_of c.step.new.self in
    let old : List Change = c.args.out.now.items in
    let changes : List Change = c.loop-change.out.items in
    let more : List Change = c.step.new.out.items in
    let taken : List Entry = c.loop-change.invariant.next.0 in
    let step = subst (λ (n : Node). (before : List Entry) → StandsFor n held before → (more ≡ changes ++ gives 1 n before e) × StandsFor n next (before ++ e ∷ [])) c.loop-change.invariant.node c.in_ok-step.ensures.next in
    record {
      node = c.in_ok-step.ensures.same_node ∙ c.loop-change.invariant.node;
      next = (
        taken ++ e ∷ [],
        append_assoc taken (e ∷ []) (from_side 0 rest) ∙ ap (λ (es : List Change). taken ++ from_side 0 es) (sym steps) ∙ c.loop-change.invariant.next.1,
        steps-more n first held next taken e old changes more c.loop-change.invariant.next.2 step,
      );
      left = (subst (AreStored n) steps c.loop-change.invariant.left).1;
      base = λ base h. c.in_ok-step.ensures.base base (c.loop-change.invariant.base base h);
    }

pub returns-clause-next : goal.returns-clause-next
returns-clause-next c =
    let n = node_of c.args.op.now in
    let left : List Change = into_iter_items c.loop-change.change-iterator in
    let none : left ≡ [] = nil_from_length left (sym c.loop-change.change-iterator.rest.ok.0 ∙ c.in-None.ensures.steps.0) in
    let taken : List Entry = c.loop-change.invariant.next.0 in
    let all : taken ≡ from_side 0 c.args.changes.items =
    sym (append-nil taken) ∙ ap (λ (es : List Change). taken ++ from_side 0 es) (sym none) ∙ c.loop-change.invariant.next.1 in
    subst (λ (es : List Entry). Steps n (held_of c.args.op.now) (held_of c.loop-change.op) es c.args.out.now.items c.loop-change.out.items) all c.loop-change.invariant.next.2
