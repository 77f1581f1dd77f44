-- A topic that wasn't in the set is put there.
use Rattle.std.proofs.Common.{◌∙◌, [], get_or}
use Rattle.schedule_text.specs.declared.forms.Pair.{Pair}
use Rattle.schedule_text.proofs.Pairs.{is_among-more, is_new, name_once-more}
use Rattle.schedule_text.proofs.forms.name_once.Goals as goal

-- a pair in place of one that isn't there
abbrev nothing : Pair
nothing = record { topic = record { ref_ptr = (0, 0); now = [] }; n = 0 }

pub loop-pair-preserved : goal.loop-pair-preserved
loop-pair-preserved c = record {
  once = c.loop-pair.invariant.once ∙ name_once-more c.args.pairs.now c.loop-pair.pair-index nothing c.loop-pair-test.true
      (is_new c.in_ok-insert.field-0 _ c.in_ok-insert.ensures.added c.if-not-branch.false (c.loop-pair.invariant.topics (get_or c.args.pairs.now c.loop-pair.pair-index nothing).topic));
  topics = λ topic. is_among-more c.args.pairs.now c.loop-pair.pair-index nothing topic.now _ _ c.loop-pair-test.true (c.loop-pair.invariant.topics topic) (c.in_ok-insert.ensures.updates.0 topic);
}
