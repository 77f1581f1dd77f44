-- The changes of declared relations, and what a record says.
use Rattle.std.proofs.Common.{◌≡◌, ap, List}
use Rattle.ksql_types.specs.declared.relation.Kind.{Kind}
use Rattle.ksql_types.specs.declared.relation.Relation.{Relation}
use Rattle.ksql_place.specs.Said.{said}
use Rattle.ksql_place.specs.declared.change.SourceRecord.{SourceRecord}
use Rattle.query_meaning.specs.Meaning.{declared_changes}
use Rattle.query_meaning.specs.Parts.{changes_by}

-- the changes of a declared relation by its kind
pub declared_changes-by : (relation : Relation) (kind : Kind) (order : List SourceRecord) → relation.kind ≡ kind →
    declared_changes relation order ≡ changes_by kind relation.number order
unfolding declared_changes said
declared_changes-by relation kind order is = ap (λ (k : Kind). changes_by k relation.number order) is
