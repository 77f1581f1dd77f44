-- What the store of the groups of a stream or of a table holds.
use Rattle.std.specs.Prelude.{◌≡◌, ℕ, List, IfSome}
use Rattle.std.specs.FinMap.{get}
use Rattle.std.specs.List.{AllByRecursion}
use Rattle.ksql_types.specs.declared.relation.Kind.{Kind}
use Rattle.ksql_program.specs.declared.query.Agg.{Agg}
use Rattle.ksql_nodes.specs.Entries.{Entry}
use Rattle.record_codec.specs.Spelling.{AreSpellable}
use Rattle.state_store.specs.Store.{Values}
use Rattle.operator.specs.Kept.{at_bytes, totals, groups_at}
use Rattle.operator.specs.StandsFor.{HasSpelledKey}

-- these values are what is kept of the groups of some entries, each under the bytes of its key, and nothing else
pub record HoldsGroups (over : Kind) (aggs : List Agg) (m : Values) (es : List Entry) : Type 0 where
  pub keys : AllByRecursion HasSpelledKey es
  pub spelled : (b : List ℕ) → IfSome (totals over aggs (at_bytes b es)) AreSpellable
  pub groups : (b : List ℕ) → get m b ≡ groups_at over aggs es b
