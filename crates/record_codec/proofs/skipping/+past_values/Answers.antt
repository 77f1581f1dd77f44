use Rattle.std.proofs.Common.{◌++◌, arith}
use Rattle.std.specs.List.{flat_map}
use Rattle.record_codec.specs.Spelling.{value}
use Rattle.record_codec.proofs.Passing.{first-value}
use Rattle.record_codec.proofs.skipping.+past_values.Goals as goal

pub returns : goal.returns
returns t c = λ vs after fit e.
    let s = first-value vs c.args.count c.args.bytes.now after (omega arith) fit e in
    c.past_values.ensures s.1 after s.3 (c.in_ok-rest.ensures s.0 (flat_map value s.1 ++ after) s.2 s.4)
