use Rattle.topic_files.proofs.FileLemmas.{before, Reached}
use Rattle.topic_files.proofs.file.read_topic.Given as goal

-- the lines so far are within the room and without a fault, and their records are the records so far
abbrev pub invariant-loop-line : goal.invariant-loop-line
invariant-loop-line l = record {
  can_next : (goal.iterator-loop-line).can_next l.line-iterator;
  is_finite : (goal.iterator-loop-line).is_finite l.line-iterator;
  reached : Reached l.fn.relation l.fn.room l.fn.bytes (before l.yielded) l.line-iterator l.number l.records l.taken l.feds.items;
}
