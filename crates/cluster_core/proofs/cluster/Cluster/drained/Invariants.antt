use Rattle.std.proofs.Common.{◌≡◌, List}
use Rattle.ksql_place.specs.declared.change.SourceRecord.{SourceRecord}
use Rattle.ksql_program.specs.Sound.{IsSound}
use Rattle.ksql_program.specs.declared.program.Item.{Item}
use Rattle.cluster_core.specs.Cluster.{HasCome, HasHappened}
use Rattle.cluster_laws.specs.Progress.{Progress, rounds}
use Rattle.cluster_core.proofs.cluster.Cluster.drained.Given as goal

-- the cluster after n rounds
abbrev pub invariant-loop-turn : goal.invariant-loop-turn
invariant-loop-turn l = record {
  topology : l.cluster.topology ≡ l.fn.self.topology;
  come : (items : List Item) (p : Progress) → IsSound items → HasCome items p l.fn.self → HasCome items (rounds l.fn.self.topology l._turn p) l.cluster;
  events : (items : List Item) (p : Progress) (records : List SourceRecord) → IsSound items → HasCome items p l.fn.self → HasHappened items records l.fn.self l.cluster;
}
