-- What a sound program keeps that its topic files ask for.
use Rattle.std.proofs.Common.{ℕ, List, [], ◌∷◌, ◌++◌, length, arith}
use Rattle.std.specs.Prelude.{All, IsTrue, ◌≤◌}
use Rattle.std.proofs.lemmas.Bool.Decides.{nat_tests}
use Rattle.std.proofs.lemmas.List.Elements.{All-cons, All-nil}
use Rattle.ksql_types.specs.Names.{is_topic_name}
use Rattle.ksql_types.specs.declared.relation.Relation.{Relation}
use Rattle.ksql_program.specs.declared.program.Item.{Item}
use Rattle.ksql_program.specs.declared.program.Item.TheVariants.{Declared, Started}
use Rattle.ksql_program.specs.Sound.{AreSoundItems, IsSound, IsSoundRelation}
use Rattle.ksql_cli.specs.Run.{declared_of}
use Rattle.ksql_cli.specs.Steps.{IsFeedable}

-- a legal topic name is short
legal_short : (topic : List ℕ) → IsTrue (is_topic_name topic) → length topic ≤ 249
legal_short topic legal = grind (arith, nat_tests)

feedable_one : (number : ℕ) (r : Relation) → IsSoundRelation number r → IsFeedable r
feedable_one number r sound = record {
  short = legal_short r.topic sound.topic_named;
  some = sound.some_partition;
  few = sound.partitions_few;
}

each_feedable : (before is : List Item) → AreSoundItems before is → All IsFeedable (declared_of is)
each_feedable before [] sound = All-nil IsFeedable
each_feedable before (Declared r ∷ is) sound =
    All-cons IsFeedable r (declared_of is) (feedable_one (length before) r sound.0.0) (each_feedable (before ++ Declared r ∷ []) is sound.1)
each_feedable before (Started q ∷ is) sound = each_feedable (before ++ Started q ∷ []) is sound.1

pub feedable : (items : List Item) → IsSound items → All IsFeedable (declared_of items)
feedable items sound = each_feedable [] items sound.sound
