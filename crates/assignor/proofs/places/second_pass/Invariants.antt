use Rattle.std.proofs.Common.{◌≡◌, ◌++◌, [], drop, length}
use Rattle.assignor.specs.Rule.{second_pass}
use Rattle.assignor.specs.Loads.{loads_of}
use Rattle.assignor.proofs.places.second_pass.Given as goal

-- the loads are those of the places so far and of the rest
abbrev pub invariant-loop-place : goal.invariant-loop-place
invariant-loop-place l = record {
  places : second_pass l.live l.places.items (drop l.place-index l.kept) ≡ second_pass l.live [] l.kept;
  loads : l.loads.items ≡ loads_of l.live (l.places.items ++ drop l.place-index l.kept);
  count : length l.places.items ≡ l.place-index;
}
