-- The relations of a sound program can be printed.
use Rattle.std.proofs.Common.{ℕ, List, [], ◌∷◌, ◌++◌, length}
use Rattle.std.specs.Prelude.{All}
use Rattle.std.proofs.lemmas.List.Elements.{All-cons, All-nil}
use Rattle.ksql_types.specs.declared.relation.Relation.{Relation}
use Rattle.ksql_program.specs.declared.program.Item.{Item}
use Rattle.ksql_program.specs.declared.program.Item.TheVariants.{Declared, Started}
use Rattle.ksql_program.specs.Program.{relations}
use Rattle.ksql_program.specs.Sound.{AreSoundItems, IsSound, IsSoundRelation}
use Rattle.run_text.specs.Report.{IsPrintable}

printable-one : (number : ℕ) (r : Relation) → IsSoundRelation number r → IsPrintable r
printable-one number r sound = record { some = sound.some_partition; few = sound.partitions_few }

each-printable : (before is : List Item) → AreSoundItems before is → All IsPrintable (relations is)
each-printable before [] sound = All-nil IsPrintable
each-printable before (Declared r ∷ is) sound =
    All-cons IsPrintable r (relations is) (printable-one (length before) r sound.0.0) (each-printable (before ++ Declared r ∷ []) is sound.1)
each-printable before (Started q ∷ is) sound =
    All-cons IsPrintable q.out (relations is) (printable-one (length before) q.out sound.0.0) (each-printable (before ++ Started q ∷ []) is sound.1)

pub printable : (items : List Item) → IsSound items → All IsPrintable (relations items)
printable items sound = each-printable [] items sound.sound
