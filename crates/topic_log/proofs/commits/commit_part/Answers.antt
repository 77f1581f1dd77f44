use Rattle.std.proofs.Common.{◌∙◌, ap, arith, List, map, ◌++◌}
use Rattle.ksql_place.specs.declared.change.Change.{Change}
use Rattle.core_state.specs.Routes.{merged}
use Rattle.core_state.specs.State.{after, upto}
use Rattle.topic_log.proofs.Gathering.{ascends-gathered, length-gathered, waiting-gathered}
use Rattle.topic_log.proofs.commits.commit_part.Goals as goal

pub show_due-requires-clause-ascends : goal.show_due-requires-clause-ascends
show_due-requires-clause-ascends c =
    ascends-gathered c.args.part.now c.args.writer c.index_mut.result.now c.gather.new.waiting c.args.sent.items c.requires.writer_in c.index_mut.ensures.value c.gather.ensures c.requires.ascends

pub show_due-requires-clause-room : goal.show_due-requires-clause-room
show_due-requires-clause-room c =
    let more = length-gathered c.args.part.now c.args.writer c.index_mut.result.now c.gather.new.waiting c.args.sent.items c.requires.writer_in c.index_mut.ensures.value c.gather.ensures in
    omega (arith, more, c.requires.room.shown)

pub returns : goal.returns
returns c =
    let lists = waiting-gathered c.args.part.now c.args.writer c.index_mut.result.now c.gather.new.waiting c.args.sent.items c.requires.writer_in c.index_mut.ensures.value c.gather.ensures in
    record {
      fed = c.show_due.ensures.fed;
      said = c.show_due.ensures.said ∙ ap (λ (ls : List (List Change)). c.args.part.now.said.items ++ merged (map (upto c.args.closed) ls)) lists;
      waiting = c.show_due.ensures.waiting ∙ ap (map (after c.args.closed)) lists;
    }
