-- What is built means its queries.
use Rattle.std.proofs.Common.{◌≡◌, sym, subst, List}
use Rattle.std.specs.Prelude.{IfOk}
use Rattle.std.specs.declared.result.Result.{Result}
use Rattle.std.specs.declared.result.Result.TheVariants.{Ok, Err}
use Rattle.ksql_place.specs.declared.change.SourceRecord.{SourceRecord}
use Rattle.ksql_program.specs.Sound.{IsSound}
use Rattle.ksql_program.specs.declared.program.Item.{Item}
use Rattle.topology.specs.Topologies.{topology_of}
use Rattle.topology.specs.declared.topology.Topology.{Topology}
use Rattle.short_laws.specs.Fed.{IsFed}
use Rattle.topology_laws.specs.Meant.{MeansItsQueries}
use Rattle.topology_laws.proofs.EachSent.{means}

-- the topology of a sound program
pub built-means : (items : List Item) (t : Topology) → t ≡ topology_of items → IsSound items → (order : List SourceRecord) → IsFed items order → MeansItsQueries items t order
built-means items t is sound order fed = subst (λ x. MeansItsQueries items x order) (sym is) (means items order sound fed)

-- the result, unless memory ran out
pub answer-means : {E : Type 0} (items : List Item) (answer : Result Topology E) → IfOk answer (λ t. t ≡ topology_of items) → IsSound items →
    IfOk answer (λ t. (order : List SourceRecord) → IsFed items order → MeansItsQueries items t order)
answer-means items (Ok t) is sound = λ order fed. built-means items t is sound order fed
answer-means items (Err e) is sound = tt
