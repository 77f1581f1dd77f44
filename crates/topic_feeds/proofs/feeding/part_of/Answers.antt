use Rattle.std.proofs.Common.{◌≡◌, ◌∙◌, refl, ℕ, ◌%◌, List, [], ◌∷◌}
use Rattle.std.proofs.Math.Nat.{mod-mod}
use Rattle.ksql_types.specs.Lane.{lane}
use Rattle.ksql_types.specs.declared.value.Value.{Value}
use Rattle.topic_feeds.proofs.feeding.part_of.Goals as goal

lane-mod : (key : List Value) (n home : ℕ) → lane key n (home % n) ≡ lane key n home
lane-mod [] n home = mod-mod home n
lane-mod (first ∷ more) n home = refl

pub returns-clause-value : goal.returns-clause-value
returns-clause-value c = c.lane.ensures.value ∙ lane-mod c.args.key.now c.args.relation.now.partitions c.args.number
