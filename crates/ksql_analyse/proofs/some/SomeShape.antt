-- The shape of a query whose expressions have typed trees.
use Rattle.std.proofs.Common.{◌≡◌, Bool, true, false, not, List, [], ◌∷◌, map, All, refl, ap, ◌∙◌}
use Rattle.std.specs.Prelude.{option_map}
use Rattle.std.proofs.lemmas.List.Elements.{All-from_recursion, All-map, All-weaker, recursion_from_All}
use Rattle.statement_trees.specs.declared.tree.Select.{Select}
use Rattle.ksql_expr.specs.declared.typed.Typed.{Typed}
use Rattle.ksql_program.specs.declared.query.From.{From}
use Rattle.ksql_program.specs.declared.query.From.TheVariants as from
use Rattle.ksql_program.specs.declared.query.Shape.{Shape}
use Rattle.ksql_program.specs.declared.query.Shape.TheVariants as shape
use Rattle.ksql_scopes.specs.declared.scope.Scope.{Scope}
use Rattle.ksql_clauses.specs.declared.items.Named.{Named}
use Rattle.ksql_clauses.specs.declared.sources.Known.{Known}
use Rattle.ksql_clauses.specs.Items.{result_columns}
use Rattle.ksql_scopes.specs.Resolved.{resolved}
use Rattle.ksql_clauses.specs.Sources.{from_scope, item_scope}
use Rattle.ksql_clauses.specs.Windows.{window_of}
use Rattle.ksql_clauses.specs.Keys.{key_columns, value_columns}
use Rattle.ksql_rules.specs.Breaks.{group_exprs, is_grouped}
use Rattle.ksql_clauses.specs.Keys.{key_places, needs}
use Rattle.ksql_analyse.specs.Accepted.{IsMade}
use Rattle.ksql_analyse.specs.Judgement.{AreTypedTrees, IsFrom, aggregate_exprs, exprs, grouped_columns, join_kind}
use Rattle.grouped_expressions.specs.Grouped.{after}
use Rattle.ksql_analyse.specs.Readable.{IsReadable}
use Rattle.ksql_analyse.specs.Typable.{AreColumnTrees, IsGroupTypable, IsQueryTypable, IsTypable, IsValued}
use Rattle.ksql_analyse.proofs.some.SomeTrees.{some-aggs, some-part, some-trees}
use Rattle.ksql_analyse.proofs.sound.SoundColumns.{besides-each, keys-each}
use Rattle.ksql_analyse.proofs.forms.ValuedTrees.{own-trees, trees-after, trees-counted, trees-valued}

-- ---- what a query reads

pub some-from : (q : Select) (ks : List Known) → IsReadable q ks → (f : From) × IsFrom q ks f
some-from q [] h = absurd h
some-from q (k ∷ []) h = (from.One k.relation.number, (k, refl, refl))
some-from q (l ∷ r ∷ []) h = (
  from.Join (join_kind h.text.kind) l.relation.number r.relation.number h.typable.tree,
  (l, r, refl, ap (option_map (λ j. join_kind j.kind)) h.joined, refl, refl, h.sides, h.keyed, h.typable.is),
)
some-from q (l ∷ r ∷ k ∷ more) h = absurd h

-- ---- what it makes

-- the trees of columns that have a type
column-trees-of : (s : Scope) (cs : List Named) → All (λ c. IsValued s c.expr) cs → (xs : List Typed) × AreTypedTrees s (exprs cs) xs × AreColumnTrees cs xs
column-trees-of s cs h =
    let t = some-trees s (exprs cs) (All-map (IsTypable s) (λ (c : Named). c.expr) cs
    (All-weaker (λ (c : Named). IsValued s c.expr) (λ (c : Named). IsTypable s c.expr) (λ c k. k.typable) cs h)) in
    (t.0, t.1, own-trees s cs t.0 h t.1)

plain-made : (q : Select) (ks : List Known) → is_grouped q ≡ false → All (λ c. IsValued (item_scope q ks) c.expr) (result_columns q ks) → (made : Shape) × IsMade q ks made
plain-made q ks plain h =
    let s = item_scope q ks in
    let P : Named → Type 0 = λ c. IsValued s c.expr in
    let each = recursion_from_All P (result_columns q ks) h in
    let keys = column-trees-of s (key_columns q ks) (All-from_recursion P (key_columns q ks) (keys-each P (result_columns q ks) each (needs q ks))) in
    let values = column-trees-of s (value_columns q ks) (All-from_recursion P (value_columns q ks) (besides-each P (key_places q ks) (result_columns q ks) each)) in
    (shape.Plain keys.0 values.0, record { is = (ap not plain, keys.1, values.1); keyed = keys.2; valued = values.2 })

-- ---- a grouping

grouped-made : (q : Select) (ks : List Known) → is_grouped q ≡ true → IsGroupTypable q ks → All (λ c. IsValued (item_scope q ks) c.expr) (result_columns q ks)
    → (made : Shape) × IsMade q ks made
grouped-made q ks grouped typable h =
    let front = from_scope q ks in
    let s = item_scope q ks in
    let groups = group_exprs q ks in
    let P : Named → Type 0 = λ c. IsValued s c.expr in
    let keys = some-trees front groups (All-weaker (IsValued front) (IsTypable front) (λ a k. k.typable) groups typable.keys) in
    let gs = some-aggs s (aggregate_exprs q ks) typable.aggregates in
    let columns = grouped_columns s keys.0 gs.0 in
    let having = some-part s (option_map (resolved s) q.having) typable.having in
    let values = column-trees-of s (value_columns q ks) (All-from_recursion P (value_columns q ks)
    (besides-each P (key_places q ks) (result_columns q ks) (recursion_from_All P (result_columns q ks) h))) in (
      shape.Group keys.0 (option_map window_of q.window) gs.0 (option_map (after columns) having.0) (map (after columns) values.0),
      record {
        is = (grouped, refl, keys.1, gs.1, (having.0, having.1, refl), (values.0, values.1, refl));
        keyed = record {
          counted = typable.keyed ∙ trees-counted front groups keys.0 keys.1;
          values = trees-valued front groups keys.0 typable.keys keys.1;
        };
        valued = trees-after columns (value_columns q ks) values.0 values.2;
      },
    )

pub some-shape : (q : Select) (ks : List Known) → IsQueryTypable q ks → (made : Shape) × IsMade q ks made
some-shape q ks typable = at (is_grouped q) refl
  where
    at : (b : Bool) → is_grouped q ≡ b → (made : Shape) × IsMade q ks made
    at false h = plain-made q ks h typable.columns
    at true h = grouped-made q ks h (typable.grouped h) typable.columns
