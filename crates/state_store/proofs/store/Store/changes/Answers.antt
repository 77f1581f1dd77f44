use Rattle.std.proofs.Common.{◌≢◌, List, AllPairs, subst, sym}
use Rattle.ksql_types.specs.declared.relation.StoreEntry.{StoreEntry}
use Rattle.state_store.proofs.ReplayLemmas.{AllPairs-changes_of}
use Rattle.state_store.proofs.store.Store.changes.Goals as goal

pub returns-clause-one_each : goal.returns-clause-one_each
returns-clause-one_each c =
    let P : List StoreEntry → Type 0 = AllPairs (λ change later. change.key ≢ later.key) in
    subst P (sym c.in_ok-changes.ensures) (AllPairs-changes_of c.args.self.now)
