use Rattle.ksql_analyse.proofs.unique.Behind.{Done}
use Rattle.ksql_analyse.proofs.judgement.analyse.Given as goal

abbrev pub invariant-loop-index : goal.invariant-loop-index
invariant-loop-index l = Done l.statements l.index l.catalog l.items.items
