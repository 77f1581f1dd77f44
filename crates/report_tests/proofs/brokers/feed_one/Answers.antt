use Rattle.std.proofs.Common.{ap, arith, length}
use Rattle.topic_log.proofs.Fed.{rise_apart}
use Rattle.report_tests.proofs.brokers.feed_one.Goals as goal

pub feed-requires-clause-rises_apart : goal.feed-requires-clause-rises_apart
feed-requires-clause-rises_apart c = rise_apart c.in_ok-vec.field-0.items (λ i j d low below. absurd (omega (arith, low, below, ap length c.in_ok-vec.ensures.items)))
