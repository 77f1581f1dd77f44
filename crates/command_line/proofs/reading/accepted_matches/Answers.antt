use Rattle.std.proofs.Common.{◌∙◌}
use Rattle.clap.proofs.WalkLemmas.{both}
use Rattle.command_line.proofs.Accepting.{has_fault}
use Rattle.command_line.proofs.reading.accepted_matches.Goals as goal

pub returns-in-Ok-clause-rows : goal.returns-in-Ok-clause-rows
returns-in-Ok-clause-rows c = (c.in-Ok.ensures.matches (both _ _ c.requires).0).0

pub returns-clause-usage : goal.returns-clause-usage
returns-clause-usage c = λ _. has_fault _ c.in-Err.error (c.in-Err.ensures.kinds c.requires) (λ is. c.in_default.not-OutOfMemory (c.kind.ensures ∙ is))
