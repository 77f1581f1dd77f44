use Rattle.std.proofs.Common.{◌≡◌, [], drop, length}
use Rattle.assignor.specs.Rule.{first_pass}
use Rattle.assignor.specs.Loads.{loads_of}
use Rattle.assignor.proofs.places.first_pass.Given as goal

abbrev pub invariant-loop-owner : goal.invariant-loop-owner
invariant-loop-owner l = record {
  places : first_pass l.share l.live l.places.items (drop l.owner-index l.owners) ≡ first_pass l.share l.live [] l.owners;
  loads : l.loads.items ≡ loads_of l.live l.places.items;
  count : length l.places.items ≡ l.owner-index;
}
