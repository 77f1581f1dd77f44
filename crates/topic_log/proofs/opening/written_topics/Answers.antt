use Rattle.std.proofs.Common.{◌-◌, arith}
use Rattle.std.specs.BTreeMap.{get}
use Rattle.std.specs.Ordering.{nat_cmp}
use Rattle.topic_log.proofs.Noted.{noted-more}
use Rattle.topic_log.proofs.opening.written_topics.Goals as goal

pub loop-after-preserved : goal.loop-after-preserved
loop-after-preserved c = record {
  within = omega (arith, c.loop-after.invariant.within);
  noted = noted-more c.args.topics.now c.requires (c.loop-after.after - 1) c.loop-after.after (omega arith) (omega (arith, c.loop-after.invariant.within))
      c.index-topics-after.result c.index-topics-after.is (get nat_cmp c.loop-after.written) (get nat_cmp c.note_writer.new.written)
      c.loop-after.invariant.noted c.in_ok-note_writer.ensures;
}
