use Rattle.std.proofs.Common.{Some, ap}
use Rattle.record_codec.proofs.Parts.{reads-values}
use Rattle.record_codec.proofs.Given.{one_whole}
use Rattle.record_codec.proofs.reading.decode_values.Goals as goal

pub returns-in-Ok-clause-only : goal.returns-in-Ok-clause-only
returns-in-Ok-clause-only c = λ x fits e. ap Some (one_whole reads-values c.in-Ok.values x c.in-Ok.ensures.0 c.in-Ok.ensures.1 fits e)
