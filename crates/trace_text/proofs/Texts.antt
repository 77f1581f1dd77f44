-- Lemmas on texts that are appended to.
use Rattle.std.proofs.Common.{append_assoc}

-- one text after another, in any grouping
pub ruleset appends = (append_assoc)
