use Rattle.std.proofs.Common.{arith}
use Rattle.topology_build.proofs.Sounds.{keys-few}
use Rattle.topology_build.proofs.building.keys_of.Goals as goal

pub overflow_cast-result : goal.overflow_cast-result
overflow_cast-result c = omega (arith, c.key_columns.ensures, keys-few c.args.program.now.items c.requires c.args.number)
