use Rattle.std.proofs.Common.{◌≡◌, [], reverse}
use Rattle.std.specs.Iterator.Adapters.{rev_source}
use Rattle.std.specs.Slice.Iter.{iter_rest}
use Rattle.indexmap.specs.IndexSet.{insert_all}
use Rattle.run_text.proofs.LatestLemmas.{is_same_line}
use Rattle.run_text.proofs.rows.latest_lines.Given as goal

-- the remaining lines, from the last one on, make the same set as all lines
abbrev pub invariant-loop-line : goal.invariant-loop-line
invariant-loop-line l = record {
  set : insert_all is_same_line l.latest.keys (reverse (iter_rest (rev_source l.line-iterator))) ≡ insert_all is_same_line [] (reverse l.lines);
  can : (goal.iterator-loop-line).can_next l.line-iterator;
  finite : (goal.iterator-loop-line).is_finite l.line-iterator;
}
