use Rattle.std.proofs.Common.{refl, sym, rules, []}
use Rattle.std.proofs.lemmas.List.{append-nil}
use Rattle.operator.proofs.guarded.GuardedOperator.step.Goals as goal

pub returns-then-self-clause-err : goal.returns-then-self-clause-err
returns-then-self-clause-err g c = (search rules, ([], sym (append-nil c.args.out.now.items), λ es stands. (_, refl)))
