-- An aggregate before any entry, and the changelog of its groups.
use Rattle.std.proofs.Common.{◌≡◌, ◌∙◌, ap, refl, sym, subst, List, [], map, None, arith}
use Rattle.std.specs.FinMap as finite
use Rattle.ksql_types.specs.declared.relation.Kind.{Kind}
use Rattle.ksql_types.specs.declared.relation.StoreEntry.{StoreEntry}
use Rattle.ksql_program.specs.declared.query.Agg.{Agg}
use Rattle.ksql_nodes.specs.declared.node.Node.TheVariants.{Aggregate}
use Rattle.state_store.specs.Store.{Content, replay, numbered, changes_of}
use Rattle.operator.specs.Holding.{Maps, maps_of, nothing, unwritten, in_store, replayed, IsBaseOf}
use Rattle.operator.specs.StandsFor.{StandsFor}
use Rattle.operator.proofs.Fresh.{none}
use Rattle.operator.proofs.Numbered.{replay-numbered}

pub groups-stand : (over : Kind) (aggs : List Agg) (groups : Content) → groups ≡ unwritten finite.empty → StandsFor (Aggregate over aggs None) (record nothing { aggregate = groups }) []
groups-stand over aggs groups e =
    subst (λ (groups : Content). StandsFor (Aggregate over aggs None) (record nothing { aggregate = groups }) []) (sym e)
    (record { spelled = (tt, λ b. tt); exact = record { left = none; right = none; aggregate = none; windows = none; time = refl } })

-- the changes of the groups, over those at the last commit, are the groups
pub groups-replayed : (over : Kind) (aggs : List Agg) (groups : Content) (made log : List StoreEntry) → made ≡ map (in_store 2) log → log ≡ changes_of groups → (base : Maps) →
    IsBaseOf base (record nothing { aggregate = groups }) → replayed (Aggregate over aggs None) base made ≡ maps_of (record nothing { aggregate = groups })
groups-replayed over aggs groups made log is given base h =
    let aggregate : replay base.aggregate (numbered 2 made) ≡ groups.map =
    ap (λ (log : List StoreEntry). replay base.aggregate (numbered 2 log)) (is ∙ ap (map (in_store 2)) given)
    ∙ replay-numbered 2 base.aggregate (changes_of groups) ∙ h.aggregate in
    let time : base.time ≡ 0 = omega (arith, h.time) in
    λ i. record { left = h.left i; right = h.right i; aggregate = aggregate i; windows = h.windows i; time = time i }
