-- Operators before any entry, and the changelog of a table.
use Rattle.std.proofs.Common.{◌≡◌, ◌∙◌, ap, refl, sym, subst, ℕ, Bool, true, false, List, [], Ok, Err, Result, arith}
use Rattle.std.specs.Prelude.{IfOk, if◌then◌else◌}
use Rattle.std.specs.FinMap as finite
use Rattle.ksql_types.specs.declared.relation.StoreEntry.{StoreEntry}
use Rattle.ksql_expr.specs.declared.typed.Typed.{Typed}
use Rattle.ksql_nodes.specs.Entries.{Entry}
use Rattle.ksql_nodes.specs.declared.node.Node.TheVariants.{Table, Filter, Having, Select}
use Rattle.state_store.specs.Store.{Content, replay, numbered, changes_of}
use Rattle.operator.specs.Holding.{Maps, maps_of, nothing, unwritten, replayed, IsBaseOf, IsOwnLog}
use Rattle.operator.specs.StandsFor.{StandsFor}
use Rattle.operator.proofs.Fresh.{none, holds-none}
use Rattle.operator.proofs.Numbered.{replay-changes, own-changes}
use Rattle.row_ops.specs.declared.rekey_op.Keying.{Keying}
use Rattle.row_ops.specs.declared.rekey_op.Keying.TheVariants.{Join, Group}
use Rattle.row_ops.specs.Keying.{node_of}

-- what holds of any value holds of one in an Ok
pub always : {T E : Type 0} (r : Result T E) (P : T → Type 0) → ((x : T) → P x) → IfOk r P
always (Ok x) P h = h x
always (Err e) P h = tt

pub filter-stands : (having : Bool) (on : Typed) → (es : List Entry) → StandsFor (if having then Having on else Filter on) nothing es
filter-stands true on es = record { spelled = tt; exact = holds-none }
filter-stands false on es = record { spelled = tt; exact = holds-none }

pub select-stands : (keys items : List Typed) → (es : List Entry) → StandsFor (Select keys items) nothing es
select-stands keys items es = record { spelled = tt; exact = holds-none }

pub rekey-stands : (keying : Keying) → (es : List Entry) → StandsFor (node_of keying) nothing es
rekey-stands (Join key) es = record { spelled = tt; exact = holds-none }
rekey-stands (Group keys) es = record { spelled = tt; exact = holds-none }

pub table-stands : (relation : ℕ) (rows : Content) → rows ≡ unwritten finite.empty → StandsFor (Table relation) (record nothing { left = rows }) []
table-stands relation rows e =
    subst (λ (rows : Content). StandsFor (Table relation) (record nothing { left = rows }) []) (sym e)
    (record { spelled = tt; exact = record { left = none; right = none; aggregate = none; windows = none; time = refl } })

table-replayed : (relation : ℕ) (rows : Content) (log : List StoreEntry) → log ≡ changes_of rows → (base : Maps) → IsBaseOf base (record nothing { left = rows }) →
    replayed (Table relation) base log ≡ maps_of (record nothing { left = rows })
table-replayed relation rows log is base h =
    let left : replay base.left (numbered 0 log) ≡ rows.map = ap (λ (log : List StoreEntry). replay base.left (numbered 0 log)) is ∙ replay-changes base.left rows ∙ h.left in
    let time : base.time ≡ 0 = omega (arith, h.time) in
    λ i. record { left = left i; right = h.right i; aggregate = h.aggregate i; windows = h.windows i; time = time i }

-- the changes of a table, over the rows at the last commit, are its rows
pub changes-replayed : {E : Type 0} (relation : ℕ) (rows : Content) (r : Result (List StoreEntry) E) → IfOk r (λ log. log ≡ changes_of rows) →
    IfOk r (λ log. (base : Maps) → IsBaseOf base (record nothing { left = rows }) → replayed (Table relation) base log ≡ maps_of (record nothing { left = rows }))
changes-replayed relation rows (Ok log) is = λ base h. table-replayed relation rows log is base h
changes-replayed relation rows (Err e) is = tt

-- and they are all of its store
pub changes-own : {E : Type 0} (relation : ℕ) (rows : Content) (r : Result (List StoreEntry) E) → IfOk r (λ log. log ≡ changes_of rows) → IfOk r (IsOwnLog (Table relation))
changes-own relation rows (Ok log) is = subst (IsOwnLog (Table relation)) (sym is) (own-changes (Table relation) rows refl)
changes-own relation rows (Err e) is = tt
