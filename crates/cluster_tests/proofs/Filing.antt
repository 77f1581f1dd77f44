-- Topic files that are read one after another are those of the items so far.
use Rattle.std.proofs.Common.{◌+◌, List, [], ◌∷◌, ◌++◌}
use Rattle.std.specs.Prelude.{All}
use Rattle.ksql_types.specs.declared.relation.Relation.{Relation}
use Rattle.ksql_program.specs.declared.program.Item.{Item}
use Rattle.ksql_program.specs.declared.program.Item.TheVariants.{Declared, Started}
use Rattle.ksql_program.specs.declared.query.Query.{Query}
use Rattle.topic_files.specs.declared.topic.TopicLines.{TopicLines}
use Rattle.feed_laws.specs.Fitting.{AreFilesOf, IsFedOf}

-- a file for one more declared relation
pub declared-last : (is : List Item) (fs : List TopicLines) (r : Relation) (f : TopicLines) → AreFilesOf is fs → All (IsFedOf r) f.feds →
    AreFilesOf (is ++ Declared r ∷ []) (fs ++ f ∷ [])
declared-last [] [] r f fit own = (own, tt)
declared-last [] (g ∷ fs) r f fit own = absurd fit
declared-last (Declared s ∷ is) [] r f fit own = absurd fit
declared-last (Declared s ∷ is) (g ∷ fs) r f fit own = (fit.0, declared-last is fs r f fit.1 own)
declared-last (Started q ∷ is) fs r f fit own = declared-last is fs r f fit own

-- a query has none
pub started-last : (is : List Item) (fs : List TopicLines) (q : Query) → AreFilesOf is fs → AreFilesOf (is ++ Started q ∷ []) fs
started-last [] [] q fit = tt
started-last [] (g ∷ fs) q fit = absurd fit
started-last (Declared s ∷ is) [] q fit = absurd fit
started-last (Declared s ∷ is) (g ∷ fs) q fit = (fit.0, started-last is fs q fit.1)
started-last (Started p ∷ is) fs q fit = started-last is fs q fit
