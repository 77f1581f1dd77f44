use Rattle.std.proofs.Common.{◌≡◌, ◌∙◌, refl, [], ◌∷◌, ◌++◌, List, ap, append_assoc, subst, sym}
use Rattle.std.specs.List.{AllByRecursion}
use Rattle.std.specs.Vec.Iter.{into_iter_items}
use Rattle.std.proofs.lemmas.List.{append-nil, nil_from_length}
use Rattle.std.proofs.lemmas.List.Elements.{recursion_from_All}
use Rattle.ksql_place.specs.declared.change.Change.{Change}
use Rattle.ksql_nodes.specs.declared.node.Node.{Node}
use Rattle.ksql_nodes.specs.Entries.{Entry}
use Rattle.ksql_nodes.specs.Nodes.{gives}
use Rattle.operator.specs.StandsFor.{StandsFor}
use Rattle.operator.specs.Storable.{IsStorable}
use Rattle.op_chain.specs.Along.{Steps}
use Rattle.op_chain.specs.Chain.{entries_of}
use Rattle.op_chain.specs.declared.chain.Entry.{Entry as Taken}
use Rattle.op_chain.proofs.Ops.{held_of, node_of}
use Rattle.op_chain.proofs.RowSteps.{steps-more, steps-none}
use Rattle.op_chain.proofs.along.step_each.Goals as goal

abbrev AreStored : Node → List Taken → Type 0
AreStored n es = AllByRecursion (λ (e : Entry). IsStorable n e.side e.change) (entries_of es)

pub loop-entry-init : goal.loop-entry-init
loop-entry-init c =
    let n = node_of c.args.op.now in
    let left : into_iter_items c.into_iter-entry-iterator.result ≡ c.args.entries.items = c.into_iter-entry-iterator.ensures.into_iter_gives.0 in
    record {
      node = refl;
      next = ([], ap entries_of left, steps-none n (held_of c.args.op.now) c.args.out.now.items);
      left = subst (AreStored n) (sym left) (recursion_from_All (λ (e : Entry). IsStorable n e.side e.change) (entries_of c.args.entries.items) c.requires);
      base = λ base h. h;
    }

pub step-requires : goal.step-requires
step-requires c =
    let x = c.in-Some.entry in
    let left = subst (AreStored (node_of c.args.op.now)) c.in-Some.ensures.steps.0 c.loop-entry.invariant.left in
    subst (λ (n : Node). IsStorable n x.side x.change) (sym c.loop-entry.invariant.node) left.0

pub loop-entry-preserved : goal.loop-entry-preserved
loop-entry-preserved c =
    let n = node_of c.args.op.now in
    let x = c.in-Some.entry in
    let e : Entry = record { side = x.side; change = x.change } in
    let rest : List Taken = into_iter_items c.next.new.self in
    let steps : into_iter_items c.loop-entry.entry-iterator ≡ x ∷ rest = c.in-Some.ensures.steps.0 in
    let first = held_of c.args.op.now in
    let held = held_of c.loop-entry.op in
    let next = held_of c.step.new.self in
    let old : List Change = c.args.out.now.items in
    let changes : List Change = c.loop-entry.out.items in
    let more : List Change = c.step.new.out.items in
    let taken : List Entry = c.loop-entry.invariant.next.0 in
    let step = subst (λ (n : Node). (before : List Entry) → StandsFor n held before → (more ≡ changes ++ gives 1 n before e) × StandsFor n next (before ++ e ∷ [])) c.loop-entry.invariant.node c.in_ok-step.ensures.next in
    record {
      node = c.in_ok-step.ensures.same_node ∙ c.loop-entry.invariant.node;
      next = (
        taken ++ e ∷ [],
        append_assoc taken (e ∷ []) (entries_of rest) ∙ ap (λ (es : List Taken). taken ++ entries_of es) (sym steps) ∙ c.loop-entry.invariant.next.1,
        steps-more n first held next taken e old changes more c.loop-entry.invariant.next.2 step,
      );
      left = (subst (AreStored n) steps c.loop-entry.invariant.left).1;
      base = λ base h. c.in_ok-step.ensures.base base (c.loop-entry.invariant.base base h);
    }

pub returns-clause-next : goal.returns-clause-next
returns-clause-next c =
    let n = node_of c.args.op.now in
    let left : List Taken = into_iter_items c.loop-entry.entry-iterator in
    let none : left ≡ [] = nil_from_length left (sym c.loop-entry.entry-iterator.rest.ok.0 ∙ c.in-None.ensures.steps.0) in
    let taken : List Entry = c.loop-entry.invariant.next.0 in
    let all : taken ≡ entries_of c.args.entries.items =
    sym (append-nil taken) ∙ ap (λ (es : List Taken). taken ++ entries_of es) (sym none) ∙ c.loop-entry.invariant.next.1 in
    subst (λ (es : List Entry). Steps n (held_of c.args.op.now) (held_of c.loop-entry.op) es c.args.out.now.items c.loop-entry.out.items) all c.loop-entry.invariant.next.2
