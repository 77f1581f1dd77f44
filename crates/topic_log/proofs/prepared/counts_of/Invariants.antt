use Rattle.std.proofs.Common.{◌≡◌, length, take}
use Rattle.topic_log.specs.Taking.{count_to}
use Rattle.topic_log.specs.Views.{EachAt}
use Rattle.topic_log.proofs.prepared.counts_of.Given as goal

-- the counts so far
abbrev pub invariant-loop-output : goal.invariant-loop-output
invariant-loop-output l = record {
  len : length l.counts.items ≡ l.parts;
  counts : EachAt (λ q count. count ≡ count_to l.parts (take l.output-index l.outputs) q) l.counts.items;
}
