use Rattle.storing_laws.proofs.KeptShort.{contents-short}
use Rattle.storing_laws.proofs.ProperContents.{contents-proper}
use Rattle.storing_laws.proofs.laws.topics_are_short.Goals as goal

pub returns-clause-proper : goal.returns-clause-proper
returns-clause-proper c = contents-proper

pub returns-clause-short : goal.returns-clause-short
returns-clause-short c = contents-short
