-- Joins before any entry, and the changelogs of their tables.
use Rattle.std.proofs.Common.{◌≡◌, ◌∙◌, ap, refl, sym, subst, List, [], ◌++◌, map, arith}
use Rattle.std.specs.FinMap as finite
use Rattle.ksql_types.specs.declared.relation.StoreEntry.{StoreEntry}
use Rattle.ksql_expr.specs.declared.typed.Typed.{Typed}
use Rattle.ksql_program.specs.declared.query.JoinKind.{JoinKind}
use Rattle.ksql_nodes.specs.declared.node.Node.TheVariants.{JoinStreamTable, JoinTables}
use Rattle.ksql_nodes.specs.declared.node.Side.{Side}
use Rattle.state_store.specs.Store.{Content, replay, numbered, changes_of}
use Rattle.operator.specs.Holding.{Maps, maps_of, nothing, unwritten, in_store, replayed, IsBaseOf}
use Rattle.operator.specs.StandsFor.{StandsFor}
use Rattle.operator.proofs.Fresh.{none}
use Rattle.operator.proofs.Numbered.{replay-numbered, replay-left, replay-right}

pub stream-stands : (kind : JoinKind) (on : Typed) (left right : Side) (rows : Content) → rows ≡ unwritten finite.empty →
    StandsFor (JoinStreamTable kind on left right) (record nothing { right = rows }) []
stream-stands kind on left right rows e =
    subst (λ (rows : Content). StandsFor (JoinStreamTable kind on left right) (record nothing { right = rows }) []) (sym e)
    (record { spelled = tt; exact = record { left = none; right = none; aggregate = none; windows = none; time = refl } })

pub tables-stand : (kind : JoinKind) (left right : Side) (mine others : Content) → mine ≡ unwritten finite.empty → others ≡ unwritten finite.empty →
    StandsFor (JoinTables kind left right) (record nothing { left = mine; right = others }) []
tables-stand kind left right mine others e f =
    subst (λ (mine : Content). StandsFor (JoinTables kind left right) (record nothing { left = mine; right = others }) []) (sym e)
    (subst (λ (others : Content). StandsFor (JoinTables kind left right) (record nothing { left = unwritten finite.empty; right = others }) []) (sym f)
    (record { spelled = tt; exact = record { left = none; right = none; aggregate = none; windows = none; time = refl } }))

-- the changes of the table of a stream's join, over its rows at the last commit, are its rows
pub stream-replayed : (kind : JoinKind) (on : Typed) (left right : Side) (rows : Content) (made log : List StoreEntry) → made ≡ map (in_store 1) log → log ≡ changes_of rows → (base : Maps) →
    IsBaseOf base (record nothing { right = rows }) → replayed (JoinStreamTable kind on left right) base made ≡ maps_of (record nothing { right = rows })
stream-replayed kind on left right rows made log is given base h =
    let back : replay base.right (numbered 1 made) ≡ rows.map =
    ap (λ (log : List StoreEntry). replay base.right (numbered 1 log)) (is ∙ ap (map (in_store 1)) given)
    ∙ replay-numbered 1 base.right (changes_of rows) ∙ h.right in
    let time : base.time ≡ 0 = omega (arith, h.time) in
    λ i. record { left = h.left i; right = back i; aggregate = h.aggregate i; windows = h.windows i; time = time i }

-- and so are those of two tables
pub tables-replayed : (kind : JoinKind) (left right : Side) (mine others : Content) (log : List StoreEntry) → log ≡ changes_of mine ++ map (in_store 1) (changes_of others) → (base : Maps) →
    IsBaseOf base (record nothing { left = mine; right = others }) → replayed (JoinTables kind left right) base log ≡ maps_of (record nothing { left = mine; right = others })
tables-replayed kind left right mine others log given base h =
    let first : replay base.left (numbered 0 log) ≡ mine.map =
    ap (λ (log : List StoreEntry). replay base.left (numbered 0 log)) given ∙ replay-left base.left mine (changes_of others) ∙ h.left in
    let second : replay base.right (numbered 1 log) ≡ others.map =
    ap (λ (log : List StoreEntry). replay base.right (numbered 1 log)) given ∙ replay-right base.right mine (changes_of others) ∙ h.right in
    let time : base.time ≡ 0 = omega (arith, h.time) in
    λ i. record { left = first i; right = second i; aggregate = h.aggregate i; windows = h.windows i; time = time i }
