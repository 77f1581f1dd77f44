-- A statement after some relations is at most one item.
use Rattle.std.proofs.Common.{◌≡◌, ℕ, Bool, true, false, not, IsTrue, List, [], ◌∷◌, map, length, Option, Some, None, refl, ap, ap₂, sym, ◌∙◌, subst}
use Rattle.std.specs.Prelude.{option_map}
use Rattle.ksql_types.specs.declared.relation.Column.{Column}
use Rattle.ksql_types.specs.declared.relation.Relation.{Relation}
use Rattle.expression_trees.specs.declared.tree.Expr.{Expr}
use Rattle.statement_trees.specs.declared.tree.Property.{Property}
use Rattle.statement_trees.specs.declared.tree.Select.{Select}
use Rattle.statement_trees.specs.declared.tree.Statement.{Statement}
use Rattle.statement_trees.specs.declared.tree.StatementBody.{StatementBody}
use Rattle.statement_trees.specs.declared.tree.StatementBody.TheVariants as body
use Rattle.ksql_expr.specs.declared.typed.AggFun.{AggFun}
use Rattle.ksql_expr.specs.declared.typed.Typed.{Typed}
use Rattle.ksql_expr.specs.declared.typed.TypedNode.{TypedNode, out-TypedNode}
use Rattle.ksql_expr.specs.declared.typed.TypedNode.TheOpen.{TypedNode-F}
use Rattle.ksql_expr.specs.declared.typed.TypedNode.TheVariants as n
use Rattle.ksql_expr.specs.declared.typed.TypedWhen.{TypedWhen}
use Rattle.ksql_program.specs.declared.program.Item.{Item}
use Rattle.ksql_program.specs.declared.program.Item.TheVariants.{Declared, Started}
use Rattle.ksql_program.specs.declared.query.Agg.{Agg}
use Rattle.ksql_program.specs.declared.query.From.{From}
use Rattle.ksql_program.specs.declared.query.From.TheVariants as from
use Rattle.ksql_program.specs.declared.query.Query.{Query}
use Rattle.ksql_program.specs.declared.query.Shape.{Shape}
use Rattle.ksql_program.specs.declared.query.Shape.TheVariants as shape
use Rattle.ksql_clauses.specs.declared.items.Named.{Named}
use Rattle.ksql_clauses.specs.declared.sources.Known.{Known}
use Rattle.ksql_clauses.specs.Sources.{all_known, from_scope, item_scope, on_scope}
use Rattle.ksql_rules.specs.Breaks.{is_grouped}
use Rattle.grouped_expressions.specs.Grouped.{after}
use Rattle.ksql_scopes.specs.declared.scope.Scope.{Scope}
use Rattle.ksql_typing.specs.Standing.{IsTypedTree}
use Rattle.ksql_typing.proofs.OneTyping.{one-tree}
use Rattle.ksql_analyse.specs.Judgement.{agg_form, aggregate_exprs, grouped_columns, IsFrom, IsTypedPart, AreTypedTrees, AreAggs, IsShape, IsResult, AreColumnsOf, IsQuery, IsItemOf}
use Rattle.ksql_analyse.proofs.lists.EqualLists.{heads, tails}

-- ---- lists and options

one-of-some : {A : Type 0} {a b : A} → Some a ≡ Some b → a ≡ b
one-of-some h = cc

some-alike : {A : Type 0} {o : Option A} {a b : A} → o ≡ Some a → o ≡ Some b → a ≡ b
some-alike {A} {o} {a} {b} h k = one-of-some (sym h ∙ k)

some-alike' : {A : Type 0} {o : Option A} {a b : A} → Some a ≡ o → Some b ≡ o → a ≡ b
some-alike' {A} {o} {a} {b} h k = one-of-some (h ∙ sym k)

-- ---- typed trees

one-part : (s : Scope) (o : Option Expr) (x y : Option Typed) → IsTypedPart s o x → IsTypedPart s o y → x ≡ y
one-part s None None None h k = refl
one-part s None None (Some y) h k = absurd k
one-part s None (Some x) y h k = absurd h
one-part s (Some a) None y h k = absurd h
one-part s (Some a) (Some x) None h k = absurd k
one-part s (Some a) (Some x) (Some y) h k = ap Some (one-tree s a x y h k)

one-trees : (s : Scope) (es : List Expr) (xs ys : List Typed) → AreTypedTrees s es xs → AreTypedTrees s es ys → xs ≡ ys
one-trees s [] [] [] h k = refl
one-trees s [] [] (y ∷ ys) h k = absurd k
one-trees s [] (x ∷ xs) ys h k = absurd h
one-trees s (a ∷ es) [] ys h k = absurd h
one-trees s (a ∷ es) (x ∷ xs) [] h k = absurd k
one-trees s (a ∷ es) (x ∷ xs) (y ∷ ys) h k = ap₂ (λ z zs. z ∷ zs) (one-tree s a x y h.0 k.0) (one-trees s es xs ys h.1 k.1)

-- ---- aggregates

fun-of : TypedNode-F TypedNode Typed TypedWhen → Option AggFun
fun-of (TypedNode-F.Aggregate f a) = Some f
fun-of v = None

arg-of : TypedNode-F TypedNode Typed TypedWhen → Option (Option Typed)
arg-of (TypedNode-F.Aggregate f a) = Some a
arg-of v = None

one-agg : (g h : Agg) → agg_form g ≡ agg_form h → g ≡ h
unfolding fun-of arg-of
one-agg g h same =
    let out : TypedNode-F.Aggregate g.fun g.arg ≡ TypedNode-F.Aggregate h.fun h.arg =
    sym (n.outs-Aggregate g.fun g.arg) ∙ ap out-TypedNode same ∙ n.outs-Aggregate h.fun h.arg in
    let funs : g.fun ≡ h.fun = one-of-some (ap fun-of out) in
    let args : g.arg ≡ h.arg = one-of-some (ap arg-of out) in
    λ i. record { fun = funs i; arg = args i }

same-aggs : (gs hs : List Agg) → map agg_form gs ≡ map agg_form hs → gs ≡ hs
same-aggs [] [] h = refl
same-aggs [] (o ∷ hs) h = absurd (cc (h))
same-aggs (g ∷ gs) [] h = absurd (cc (h))
same-aggs (g ∷ gs) (o ∷ hs) h = ap₂ (λ z zs. z ∷ zs) (one-agg g o (heads h)) (same-aggs gs hs (tails h))

one-aggs : (s : Scope) (es : List Expr) (gs hs : List Agg) → AreAggs s es gs → AreAggs s es hs → gs ≡ hs
one-aggs s es gs hs h k = same-aggs gs hs (sym h.2 ∙ ap (map (λ (x : Typed). x.node)) (one-trees s es h.0 k.0 h.1 k.1) ∙ k.2)

-- ---- what a query reads

one-from : (q : Select) (ks : List Known) (x y : From) → IsFrom q ks x → IsFrom q ks y → x ≡ y
one-from q ks (from.One m) (from.One n) h k =
    let source : h.0 ≡ k.0 = heads (sym h.1 ∙ k.1) in
    ap from.One (h.2 ∙ ap (λ s. s.relation.number) source ∙ sym k.2)
one-from q ks (from.One m) (from.Join kind left right on) h k = let d : h.0 ∷ [] ≡ k.0 ∷ k.1 ∷ [] = sym h.1 ∙ k.2 in absurd (cc (tails d))
one-from q ks (from.Join kind left right on) (from.One m) h k = let d : h.0 ∷ h.1 ∷ [] ≡ k.0 ∷ [] = sym h.2 ∙ k.1 in absurd (cc (tails d))
one-from q ks (from.Join kind left right on) (from.Join kind2 left2 right2 on2) h k =
    let d : h.0 ∷ h.1 ∷ [] ≡ k.0 ∷ k.1 ∷ [] = sym h.2 ∙ k.2 in
    let l : h.0 ≡ k.0 = heads d in
    let r : h.1 ≡ k.1 = heads (tails d) in
    let a : h.6 ≡ k.6 = some-alike h.7 k.7 in
    let tree : on ≡ on2 = one-tree (on_scope q ks) k.6.0 on on2 (subst (λ b. IsTypedTree (on_scope q ks) b.0 on) a h.8) k.8 in
    λ i. from.Join (some-alike h.3 k.3 i) ((h.4 ∙ ap (λ s. s.relation.number) l ∙ sym k.4) i) ((h.5 ∙ ap (λ s. s.relation.number) r ∙ sym k.5) i) (tree i)

-- ---- shapes

not-both : {A : Type 0} (b : Bool) → IsTrue (not b) → IsTrue b → A
not-both true h k = absurd (cc (h))
not-both false h k = absurd (cc (k))

one-shape : (q : Select) (ks : List Known) (x y : Shape) → IsShape q ks x → IsShape q ks y → x ≡ y
one-shape q ks (shape.Plain keys values) (shape.Plain keys2 values2) h k =
    ap₂ shape.Plain (one-trees _ _ keys keys2 h.1 k.1) (one-trees _ _ values values2 h.2 k.2)
one-shape q ks (shape.Plain keys values) (shape.Group keys2 w2 aggs2 having2 values2) h k = not-both (is_grouped q) h.0 k.0
one-shape q ks (shape.Group keys2 w2 aggs2 having2 values2) (shape.Plain keys values) h k = not-both (is_grouped q) k.0 h.0
one-shape q ks (shape.Group keys window aggs having values) (shape.Group keys2 window2 aggs2 having2 values2) h k =
    let items = item_scope q ks in
    let same-keys : keys ≡ keys2 = one-trees _ _ keys keys2 h.2 k.2 in
    let same-all : aggs ≡ aggs2 = one-aggs items (aggregate_exprs q ks) aggs aggs2 h.3 k.3 in
    let columns : grouped_columns items keys aggs ≡ grouped_columns items keys2 aggs2 = ap₂ (grouped_columns items) same-keys same-all in
    let part : h.4.0 ≡ k.4.0 = one-part items _ h.4.0 k.4.0 h.4.1 k.4.1 in
    let trees : h.5.0 ≡ k.5.0 = one-trees items _ h.5.0 k.5.0 h.5.1 k.5.1 in
    let same-having : having ≡ having2 = h.4.2 ∙ ap₂ (λ cs x. option_map (after cs) x) columns part ∙ sym k.4.2 in
    let same-values : values ≡ values2 = h.5.2 ∙ ap₂ (λ cs xs. map (after cs) xs) columns trees ∙ sym k.5.2 in
    λ i. shape.Group (same-keys i) ((h.1 ∙ sym k.1) i) (same-all i) (same-having i) (same-values i)

-- ---- the relation of a query

one-columns : (xs ys : List Column) → map (λ c. c.name) xs ≡ map (λ c. c.name) ys → map (λ c. Some c.ty) xs ≡ map (λ c. Some c.ty) ys → xs ≡ ys
one-columns [] [] h k = refl
one-columns [] (y ∷ ys) h k = absurd (cc (h))
one-columns (x ∷ xs) [] h k = absurd (cc (h))
one-columns (x ∷ xs) (y ∷ ys) h k =
    let names : x.name ≡ y.name = heads h in
    let types : x.ty ≡ y.ty = one-of-some (heads k) in
    λ i. record { name = names i; ty = types i } ∷ one-columns xs ys (tails h) (tails k) i

one-schema : (cs : List Named) (xs : List Typed) (ds bs : List Column) → AreColumnsOf cs xs ds → AreColumnsOf cs xs bs → ds ≡ bs
one-schema cs xs ds bs h k = one-columns ds bs (h.0 ∙ sym k.0) (h.1 ∙ sym k.1)

one-result : (number : ℕ) (st : Statement) (ps : List Property) (q : Select) (ks : List Known) (made : Shape) (r t : Relation)
    → IsResult number st ps q ks made r → IsResult number st ps q ks made t → r ≡ t
one-result number st ps q ks made r t h k =
    let keys : r.schema.keys ≡ t.schema.keys = one-schema _ _ r.schema.keys t.schema.keys h.keyed k.keyed in
    let values : r.schema.values ≡ t.schema.values = one-schema _ _ r.schema.values t.schema.values h.valued k.valued in
    λ i. record {
      number = (h.numbered ∙ sym k.numbered) i;
      name = (h.named ∙ sym k.named) i;
      kind = (h.kinded ∙ sym k.kinded) i;
      schema = record { keys = keys i; values = values i };
      topic = some-alike' h.topic k.topic i;
      partitions = (h.partitions ∙ sym k.partitions) i;
      format = (h.format ∙ sym k.format) i;
      declared = (h.query ∙ sym k.query) i;
    }

-- ---- items

one-query : (number : ℕ) (st : Statement) (ps : List Property) (q : Select) (ks : List Known) (a b : Query)
    → IsQuery number st ps q ks a → IsQuery number st ps q ks b → a ≡ b
one-query number st ps q ks a b h k =
    let reads : a.from ≡ b.from = one-from q ks a.from b.from h.reads k.reads in
    let filters : a.filter ≡ b.filter = one-part (from_scope q ks) q.filter a.filter b.filter h.filters k.filters in
    let makes : a.shape ≡ b.shape = one-shape q ks a.shape b.shape h.makes k.makes in
    let gives : a.out ≡ b.out =
    one-result number st ps q ks b.shape a.out b.out (subst (λ v. IsResult number st ps q ks v a.out) makes h.gives) k.gives in
    λ i. record { from = reads i; filter = filters i; shape = makes i; out = gives i }

module _ (catalog : List Relation) (table : Bool) (name : List ℕ) where
  abbrev st : StatementBody → Statement
  st b = record { table = table; name = name; body = b }

  at : (b : StatementBody) (x y : Item) → IsItemOf catalog (st b) x → IsItemOf catalog (st b) y → x ≡ y
  at (body.Declared cs ps) (Declared r) (Declared t) h k = ap Declared (h ∙ sym k)
  at (body.Declared cs ps) (Declared r) (Started t) h k = absurd k
  at (body.Declared cs ps) (Started r) y h k = absurd h
  at (body.Query ps q) (Declared r) y h k = absurd h
  at (body.Query ps q) (Started r) (Declared t) h k = absurd k
  at (body.Query ps q) (Started r) (Started t) h k = ap Started (one-query (length catalog) (st (body.Query ps q)) ps q (all_known catalog q) r t h k)

pub one-item : (catalog : List Relation) (st : Statement) (x y : Item) → IsItemOf catalog st x → IsItemOf catalog st y → x ≡ y
one-item catalog st x y h k = at catalog st.table st.name st.body x y h k
