-- Expressions that have typed trees: the trees of some of them, of columns and of aggregates.
use Rattle.std.proofs.Common.{◌≡◌, List, [], ◌∷◌, length, Option, Some, None, All, refl, ap, ap₂, sym, arith}
use Rattle.std.proofs.lemmas.List.Elements.{All-head, All-tail}
use Rattle.ksql_types.specs.declared.relation.Column.{Column}
use Rattle.expression_trees.specs.declared.tree.Expr.{Expr}
use Rattle.ksql_expr.specs.declared.typed.Typed.{Typed}
use Rattle.ksql_program.specs.declared.query.Agg.{Agg}
use Rattle.ksql_scopes.specs.declared.scope.Scope.{Scope}
use Rattle.ksql_clauses.specs.declared.items.Named.{Named}
use Rattle.ksql_clauses.specs.Sources.{there}
use Rattle.ksql_analyse.specs.Judgement.{AreAggs, AreColumnsOf, AreTypedTrees, IsTypedPart}
use Rattle.ksql_analyse.specs.Typable.{AreColumnTrees, IsAggregable, IsTypable, IsValue}
use Rattle.ksql_analyse.proofs.accepted.ReadQueries.{is-there}

-- ---- trees

pub some-trees : (s : Scope) (es : List Expr) → All (IsTypable s) es → (xs : List Typed) × AreTypedTrees s es xs
some-trees s [] h = ([], tt)
some-trees s (a ∷ es) h =
    let t = All-head (IsTypable s) a es h in
    let rest = some-trees s es (All-tail (IsTypable s) a es h) in
    (t.tree ∷ rest.0, (t.is, rest.1))

pub some-part : (s : Scope) (o : Option Expr) → All (IsTypable s) (there o) → (x : Option Typed) × IsTypedPart s o x
some-part s None h = (None, tt)
some-part s (Some a) h = let t = All-head (IsTypable s) a [] h in (Some t.tree, t.is)

-- ---- types

-- the columns of these names and of these types
pub some-columns : (cs : List Named) (xs : List Typed) → AreColumnTrees cs xs → (columns : List Column) × AreColumnsOf cs xs columns
some-columns [] [] h = ([], (refl, refl))
some-columns [] (x ∷ xs) h = absurd (omega (arith, h.counted))
some-columns (c ∷ cs) [] h = absurd (omega (arith, h.counted))
some-columns (c ∷ cs) (x ∷ xs) h =
    let t = is-there x.ty (All-head IsValue x xs h.values) in
    let fewer : length cs ≡ length xs = omega (arith, h.counted) in
    let rest = some-columns cs xs (record { counted = fewer; values = All-tail IsValue x xs h.values }) in
    (record { name = c.name; ty = t.0 } ∷ rest.0, (ap (λ ns. c.name ∷ ns) rest.1.0, ap₂ (λ o os. o ∷ os) (sym t.1) rest.1.1))

-- ---- aggregates

pub some-aggs : (s : Scope) (es : List Expr) → All (IsAggregable s) es → (gs : List Agg) × AreAggs s es gs
some-aggs s [] h = ([], ([], tt, refl))
some-aggs s (a ∷ es) h =
    let one = All-head (IsAggregable s) a es h in
    let rest = some-aggs s es (All-tail (IsAggregable s) a es h) in
    let g : Agg = record { fun = one.aggregate.0; arg = one.aggregate.1 } in
    (g ∷ rest.0, (one.typable.tree ∷ rest.1.0, (one.typable.is, rest.1.1), ap₂ (λ o os. o ∷ os) one.aggregate.2 rest.1.2))
