use Rattle.std.proofs.Common.{sym}
use Rattle.ksql_rules.proofs.Smallness.{on-small}
use Rattle.ksql_rules.proofs.types.do_sides_agree.Goals as goal

pub types_of-requires-clause-small : goal.types_of-requires-clause-small
types_of-requires-clause-small c = (on-small c.args.on.now c.in-Some.a.now c.in-Some.b.now (sym c.in-Some.ensures) c.requires.small).0

pub types_of-requires-in-Some-clause-small : goal.types_of-requires-in-Some-clause-small
types_of-requires-in-Some-clause-small c = (on-small c.args.on.now c.in-Some.a.now c.in-Some.b.now (sym c.in-Some.ensures) c.requires.small).1
