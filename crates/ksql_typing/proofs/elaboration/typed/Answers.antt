use Rattle.std.proofs.Common.{◌≡◌, ◌⊎◌, refl, sym, ◌∙◌, subst}
use Rattle.std.specs.Prelude.{Ok, Err, IfOk, IfErr}
use Rattle.ksql_typing.specs.declared.fault.TypeFault.TheVariants.{OutOfMemory}
use Rattle.ksql_typing.specs.Standing.{IsTypedTree}
use Rattle.ksql_typing.specs.Typed.{Answers, HasFault}
use Rattle.ksql_typing.proofs.Answering.{right, fault-answered}
use Rattle.ksql_typing.proofs.OneTyping.{tree-answered}
use Rattle.ksql_typing.proofs.elaboration.typed.Goals as goal

pub returns-clause-found : goal.returns-clause-found
returns-clause-found c =
    let s = c.args.scope.now in
    let a = c.args.expr.now in
    subst (λ r. IfOk r (λ tree. IsTypedTree s a tree)) (sym c.answer.ensures) (right s a c.in_ok-judged.judged c.in_ok-judged.ensures).0

pub returns-clause-fault : goal.returns-clause-fault
returns-clause-fault c =
    let s = c.args.scope.now in
    let a = c.args.expr.now in
    subst (λ r. IfErr r (λ f. (f ≡ OutOfMemory) ⊎ HasFault s a f)) (sym c.answer.ensures) (right s a c.in_ok-judged.judged c.in_ok-judged.ensures).1

pub returns-clause-only : goal.returns-clause-only
returns-clause-only c = λ tree h.
    subst (λ r. Answers r (Ok tree))
    (sym (c.answer.ensures ∙ tree-answered c.args.scope.now c.args.expr.now tree h c.in_ok-judged.judged c.in_ok-judged.ensures)) refl

pub returns-clause-refused : goal.returns-clause-refused
returns-clause-refused c = λ f h.
    subst (λ r. Answers r (Err f)) (sym c.answer.ensures)
    (fault-answered c.args.scope.now c.args.expr.now f h c.in_ok-judged.judged c.in_ok-judged.ensures)
