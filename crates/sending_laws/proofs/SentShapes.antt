-- Keys and rows of what a task's nodes make after WHERE.
use Rattle.std.proofs.Common.{◌≡◌, ◌∙◌, ap, refl, sym, subst, subst₂, List, [], ◌∷◌, ◌++◌}
use Rattle.std.specs.Prelude.{Option, Some, None}
use Rattle.std.proofs.lemmas.Option.{same_Some}
use Rattle.ksql_types.specs.Columns.{columns}
use Rattle.ksql_types.specs.declared.relation.Column.{Column}
use Rattle.ksql_types.specs.declared.relation.Kind.{Kind}
use Rattle.ksql_types.specs.declared.relation.Kind.TheVariants as kind
use Rattle.ksql_types.specs.declared.relation.Relation.{Relation}
use Rattle.ksql_types.specs.declared.relation.Window.{Window}
use Rattle.ksql_types.specs.declared.value.SqlType.{SqlType}
use Rattle.ksql_types.specs.declared.value.Value.{Value}
use Rattle.ksql_place.specs.declared.change.Change.{Change}
use Rattle.ksql_expr.specs.declared.typed.Typed.{Typed}
use Rattle.ksql_program.specs.Sound.{AreColumns, Aggregates, AreColumnsFrom, column_types, grouped, grouped_kind, IsJoined, IsKeyed, IsTablesKey, IsWindowed, joined, JoinsStream, JoinsTable, Makes, of_stream, of_tables, one, own, partitioned, plain, Reads, rowkey_types, window_types}
use Rattle.ksql_program.specs.declared.program.Item.{Item}
use Rattle.ksql_program.specs.declared.query.Agg.{Agg}
use Rattle.ksql_program.specs.declared.query.From.{From}
use Rattle.ksql_program.specs.declared.query.From.TheVariants.{One, Join}
use Rattle.ksql_program.specs.declared.query.JoinKind.{JoinKind}
use Rattle.ksql_program.specs.declared.query.JoinKind.TheVariants.{Inner, Left, Full}
use Rattle.ksql_program.specs.declared.query.Shape.TheVariants as shape
use Rattle.ksql_nodes.specs.declared.node.Node.TheVariants as node
use Rattle.query_meaning.specs.Queries.{after_aggregate}
use Rattle.meaning_laws.proofs.JoinedRows.{key-first, tables-keep}
use Rattle.meaning_laws.proofs.RelationColumns.{joins-table}
use Rattle.meaning_laws.proofs.RowTypes.{Holds, IsChangeOf, KeyOf, WholeKey, aggregate-filled, columns-types, group-fits, grouped-apart, having-fits, own-key, select-said, select-turned, table-apart}
use Rattle.sending_laws.proofs.SentTypes.{Leads, leads-more, leads-one, table-balance-fits, table-group-fits}

-- ---- joins

pub joins-stream : (k : JoinKind) (on : Typed) (l r : Relation) → IsJoined k on l r → l.kind ≡ kind.Stream → JoinsStream on l r
joins-stream Inner on l r j is = let same : l ≡ record l { kind = kind.Stream } = λ i. record l { kind = is i } in subst (λ x. JoinsStream on x r) (sym same) (subst (λ x. IsJoined Inner on x r) same j)
joins-stream Left on l r j is = let same : l ≡ record l { kind = kind.Stream } = λ i. record l { kind = is i } in subst (λ x. JoinsStream on x r) (sym same) (subst (λ x. IsJoined Left on x r) same j)
joins-stream Full on l r j is = absurd (table-apart (sym j.left_table ∙ is))

-- the key of what a query reads, as far as what comes after needs it: of a table the whole one
abbrev pub KeyIn : Kind → Relation → List Value → Type 0
KeyIn kind.Stream l key = Unit {0}
KeyIn _ l key = WholeKey (column_types l.schema.keys) key

pub key-in : (over : Kind) (l : Relation) (types : List (Option SqlType)) (c : Change) → IsChangeOf over (column_types l.schema.keys) types c → Holds over (KeyIn over l) types c
key-in kind.Stream l types c h = (tt, h.1)
key-in kind.Table l types c h = h
key-in kind.Windowed l types c h = h

-- ---- what a shape makes

-- the key of a plain query over a table is the table's, or that of the joined tables
pub plain-key : (before : List Item) {from : From} {types : List (Option SqlType)} {l : Relation} → Reads before from types l → l.kind ≡ kind.Table → (ks : List Typed) → IsKeyed before from ks →
    (cs : List Column) → AreColumns kind.Table types ks cs → (key : List Value) → WholeKey (column_types l.schema.keys) key → WholeKey (column_types cs) key
plain-key before (one {number = number} {r = r} at _) table ks keyed cs sound key h = own-key kind.Table r ks cs (by ks keyed) sound key h
  where
    by : (es : List Typed) → IsKeyed before (One number) es → AreColumnsFrom 0 r.schema.keys es
    by es (own {r = s} at' from) = subst (λ x. AreColumnsFrom 0 x.schema.keys es) (same_Some s r (sym at' ∙ at)) from
    by es (partitioned {r = s} at' stream) = absurd (table-apart (sym table ∙ ap (λ x. x.kind) (same_Some r s (sym at ∙ at')) ∙ stream))
plain-key before (joined {k = k} {left = left} {right = right} {on = on} {l = l} {r = r} at_left at_right _ _ _ j) table ks keyed cs sound key h = by ks keyed sound
  where
    tables : JoinsTable on l r
    tables = joins-table k on l r j table

    by : (es : List Typed) → IsKeyed before (Join k left right on) es → AreColumns kind.Table (column_types (columns l) ++ column_types (columns r) ++ rowkey_types k l) es cs → WholeKey (column_types cs) key
    by es (of_stream {l = s} at stream) sound = absurd (table-apart (sym table ∙ ap (λ x. x.kind) (same_Some l s (sym at_left ∙ at)) ∙ stream))
    by es (of_tables {e = e} {l = s} {r = t} at_s at_t _ theirs) sound =
        tables-keep l r tables.one_key_left tables.one_key_right tables.like_key k e
        (subst₂ (λ x y. IsTablesKey k x y e) (same_Some s l (sym at_s ∙ at_left)) (same_Some t r (sym at_t ∙ at_right)) theirs) cs sound key
        (subst (λ ts. WholeKey ts key) (key-first l tables.one_key_left) h)

module _ (l : Relation) (types : List (Option SqlType)) where
  pub plain-leads : (over : Kind) → l.kind ≡ over → (over ≡ kind.Windowed → ⊥) → {ks vs : List Typed} {out : Relation} → Makes l types (shape.Plain ks vs) out →
      (over ≡ kind.Table → (cs : List Column) → AreColumns kind.Table types ks cs → (key : List Value) → WholeKey (column_types l.schema.keys) key → WholeKey (column_types cs) key) →
      Leads (Holds over (KeyIn over l) types) (IsChangeOf out.kind (column_types out.schema.keys) (column_types out.schema.values)) (node.Select ks vs ∷ [])
  plain-leads kind.Stream is un {ks = ks} {vs = vs} {out = out} (plain kss vss same) keeps =
      let A : Change → Type 0 = Holds kind.Stream (KeyIn kind.Stream l) types in
      subst (λ k. Leads A (IsChangeOf k (column_types out.schema.keys) (column_types out.schema.values)) (node.Select ks vs ∷ [])) (sym (same ∙ is))
      (leads-one A (IsChangeOf kind.Stream (column_types out.schema.keys) (column_types out.schema.values)) (node.Select ks vs)
      (select-said 1 types ks vs out.schema.keys out.schema.values
      (subst (λ k. AreColumns k types ks out.schema.keys) is kss) (subst (λ k. AreColumns k types vs out.schema.values) is vss) (KeyIn kind.Stream l)))
  plain-leads kind.Table is un {ks = ks} {vs = vs} {out = out} (plain kss vss same) keeps =
      let A : Change → Type 0 = Holds kind.Table (KeyIn kind.Table l) types in
      subst (λ k. Leads A (IsChangeOf k (column_types out.schema.keys) (column_types out.schema.values)) (node.Select ks vs ∷ [])) (sym (same ∙ is))
      (leads-one A (IsChangeOf kind.Table (column_types out.schema.keys) (column_types out.schema.values)) (node.Select ks vs)
      (select-turned 1 kind.Table table-apart types ks vs out.schema.values (subst (λ k. AreColumns k types vs out.schema.values) is vss)
      (KeyIn kind.Table l) (WholeKey (column_types out.schema.keys)) (keeps refl out.schema.keys (subst (λ k. AreColumns k types ks out.schema.keys) is kss))))
  plain-leads kind.Windowed is un makes keeps = absurd (un refl)

  pub group-leads : (over : Kind) → l.kind ≡ over → (over ≡ kind.Windowed → ⊥) → {ks vs : List Typed} {w : Option Window} {gs : List Agg} {having : Option Typed} {out : Relation} →
      Makes l types (shape.Group ks w gs having vs) out → Leads (Holds over (KeyIn over l) types) (Holds over (WholeKey (column_types out.schema.keys)) types) (node.Group ks ∷ [])
  group-leads kind.Stream is un {ks = ks} {out = out} (grouped _ _ _ kss _ _ _ _ _ _) =
      leads-one (Holds kind.Stream (KeyIn kind.Stream l) types) (Holds kind.Stream (WholeKey (column_types out.schema.keys)) types) (node.Group ks)
      (group-fits 1 types ks out.schema.keys (subst (λ k. AreColumns k types ks out.schema.keys) is kss) (KeyIn kind.Stream l))
  group-leads kind.Table is un {ks = ks} {out = out} (grouped _ _ _ kss _ _ _ _ _ _) =
      leads-one (Holds kind.Table (KeyIn kind.Table l) types) (Holds kind.Table (WholeKey (column_types out.schema.keys)) types) (node.Group ks)
      (table-group-fits types ks out.schema.keys (subst (λ k. AreColumns k types ks out.schema.keys) is kss) (KeyIn kind.Table l))
  group-leads kind.Windowed is un makes = absurd (un refl)

  after-leads : (result : Kind) → (result ≡ kind.Stream → ⊥) → (gk ts : List (Option SqlType)) (having : Option Typed) (values : List Typed) (cs : List Column) → AreColumns result ts values cs →
      Leads (IsChangeOf result gk ts) (IsChangeOf result gk (column_types cs)) (after_aggregate having values)
  after-leads result apart gk ts having values cs sound = by having
    where
      select : Leads (IsChangeOf result gk ts) (IsChangeOf result gk (column_types cs)) (node.Select [] values ∷ [])
      select =
          leads-one (IsChangeOf result gk ts) (IsChangeOf result gk (column_types cs)) (node.Select [] values)
          (select-turned 1 result apart ts [] values cs sound (KeyOf result gk) (KeyOf result gk) (λ key h. h))

      by : (having : Option Typed) → Leads (IsChangeOf result gk ts) (IsChangeOf result gk (column_types cs)) (after_aggregate having values)
      by None = select
      by (Some e) =
          leads-more (IsChangeOf result gk ts) (IsChangeOf result gk ts) (IsChangeOf result gk (column_types cs)) (node.Having e) (node.Select [] values ∷ [])
          (having-fits 1 e result (KeyOf result gk) ts) select

  pub aggregate-leads : (over : Kind) → l.kind ≡ over → (over ≡ kind.Windowed → ⊥) → {ks vs : List Typed} {w : Option Window} {gs : List Agg} {having : Option Typed} {out : Relation} →
      Makes l types (shape.Group ks w gs having vs) out →
      Leads (Holds over (WholeKey (column_types out.schema.keys)) types) (IsChangeOf out.kind (column_types out.schema.keys) (column_types out.schema.values))
      (node.Aggregate over gs w ∷ after_aggregate having vs)
  aggregate-leads over is un {ks = ks} {vs = vs} {w = w} {gs = gs} {having = having} {out = out} (grouped ats _ _ kss _ aggs windowed _ vss same) =
      subst (λ k. Leads (Holds over (WholeKey gk) types) (IsChangeOf k gk (column_types out.schema.values)) (node.Aggregate over gs w ∷ after_aggregate having vs)) (sym same)
      (by w windowed over is un (IsChangeOf (grouped_kind w) gk (column_types out.schema.values))
      (after-leads (grouped_kind w) (grouped-apart w) gk (gk ++ ats ++ window_types w) having vs out.schema.values
      (subst (λ ts. AreColumns (grouped_kind w) (ts ++ ats ++ window_types w) vs out.schema.values) (columns-types l.kind types ks out.schema.keys kss) vss)))
    where
      gk : List (Option SqlType)
      gk = column_types out.schema.keys

      by : (w : Option Window) → IsWindowed l.kind w → (over : Kind) → l.kind ≡ over → (over ≡ kind.Windowed → ⊥) → (C : Change → Type 0) →
          Leads (IsChangeOf (grouped_kind w) gk (gk ++ ats ++ window_types w)) C (after_aggregate having vs) → Leads (Holds over (WholeKey gk) types) C (node.Aggregate over gs w ∷ after_aggregate having vs)
      by w windowed kind.Stream is un C after =
          leads-more (Holds kind.Stream (WholeKey gk) types) (IsChangeOf (grouped_kind w) gk (gk ++ ats ++ window_types w)) C
          (node.Aggregate kind.Stream gs w) (after_aggregate having vs) (aggregate-filled types gk (subst (λ k. Aggregates k types gs ats) is aggs) 1 w) after
      by None windowed kind.Table is un C after =
          leads-more (Holds kind.Table (WholeKey gk) types) (IsChangeOf kind.Table gk (gk ++ ats ++ [])) C
          (node.Aggregate kind.Table gs None) (after_aggregate having vs) (table-balance-fits types gk (subst (λ k. Aggregates k types gs ats) is aggs)) after
      by (Some w) windowed kind.Table is un C after = absurd (table-apart (sym is ∙ windowed.1))
      by w windowed kind.Windowed is un C after = absurd (un refl)
