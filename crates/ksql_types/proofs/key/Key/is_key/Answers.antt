use Rattle.std.proofs.Common.{arith}
use Rattle.std.proofs.lemmas.Bool.Decides.{nat_tests}
use Rattle.ksql_types.proofs.key.Key.is_key.Goals as goal

pub returns-then-values-le8 : goal.returns-then-values-le8
returns-then-values-le8 c = grind (arith, nat_tests, c.are_present.ensures)
