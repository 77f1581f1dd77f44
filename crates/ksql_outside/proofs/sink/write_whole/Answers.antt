use Rattle.std.proofs.Common.{arith}
use Rattle.std.proofs.lemmas.Grind.{common_steps}
use Rattle.ksql_outside.proofs.Writing.{written_further}
use Rattle.ksql_outside.proofs.sink.write_whole.Goals as goal

pub loop-done-preserved : goal.loop-done-preserved
loop-done-preserved g c = (
  grind (arith, common_steps),
  written_further (g.K.Sink.written c.args.out.now) (g.K.Sink.written c.loop-done.out) (g.K.Sink.written c.write.new.self)
      c.args.piece.now c.loop-done.done c.in_ok-done.field-0 c.in_ok-done.ensures.appends c.loop-done.invariant.1,
  omega (arith, c.loop-done.invariant.2, c.write.ensures.count),
)
