use Rattle.std.proofs.Common.{◌≡◌, List, [], ℕ, drop, map, take}
use Rattle.std.specs.Borrow.{Bor}
use Rattle.std.specs.BTreeSet.{contains}
use Rattle.std.specs.Cmp.Lexicographic.{slice_cmp}
use Rattle.std.specs.Ordering.{nat_cmp}
use Rattle.schedule_text.specs.Forms.{is_among, name_once, pair_view}
use Rattle.schedule_text.proofs.forms.name_once.Given as goal

-- the topics so far are the set, and none is named twice
abbrev pub invariant-loop-pair : goal.invariant-loop-pair
invariant-loop-pair l = record {
  once : name_once [] (map pair_view l.pairs) ≡ name_once (map (λ pair. pair.topic.now) (take l.pair-index l.pairs)) (map pair_view (drop l.pair-index l.pairs));
  topics : (topic : Bor (List ℕ)) → contains (λ a b. slice_cmp nat_cmp a.now b.now) l.topics topic ≡ is_among (map (λ pair. pair.topic.now) (take l.pair-index l.pairs)) topic.now;
}
