use Rattle.std.proofs.Common.{length}
use Rattle.ksql_cli.proofs.fault.+write_pieces.Given as goal

-- proposed from what the function passes where it calls itself
abbrev pub decreases-write_pieces : goal.decreases-write_pieces
decreases-write_pieces g l = length l.pieces.now
