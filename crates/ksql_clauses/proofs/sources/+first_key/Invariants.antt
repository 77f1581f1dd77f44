use Rattle.std.specs.Prelude.{length}
use Rattle.ksql_clauses.proofs.sources.+first_key.Given as goal

abbrev pub decreases-first_key : goal.decreases-first_key
decreases-first_key l = length l.known.now
