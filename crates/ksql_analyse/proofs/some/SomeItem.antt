-- An accepted statement has an item.
use Rattle.std.proofs.Common.{◌≡◌, ℕ, Bool, false, List, length, Option, Some, None, All, refl}
use Rattle.std.specs.Prelude.{unwrap_or}
use Rattle.std.specs.List.{AllByRecursion as Each}
use Rattle.ksql_types.specs.declared.relation.Relation.{Relation}
use Rattle.statement_trees.specs.declared.tree.Property.{Property}
use Rattle.statement_trees.specs.declared.tree.Select.{Select}
use Rattle.statement_trees.specs.declared.tree.Statement.{Statement}
use Rattle.statement_trees.specs.declared.tree.StatementBody.{StatementBody}
use Rattle.statement_trees.specs.declared.tree.StatementBody.TheVariants as body
use Rattle.ksql_program.specs.declared.program.Item.{Item}
use Rattle.ksql_program.specs.declared.program.Item.TheVariants.{Declared, Started}
use Rattle.ksql_program.specs.declared.query.Query.{Query}
use Rattle.ksql_clauses.specs.Properties.{partitions_in}
use Rattle.ksql_clauses.specs.Sources.{all_known, from_scope, late_exprs}
use Rattle.ksql_clauses.specs.Keys.{key_columns, value_columns}
use Rattle.ksql_rules.specs.Breaks.{has_bad_topic, result_format, topic_of}
use Rattle.ksql_rules.specs.Limits.{IsWithinLimits}
use Rattle.ksql_rules.specs.Lowest.{IsAccepted}
use Rattle.ksql_analyse.specs.Few.{CallsFew, HasFewCalls}
use Rattle.ksql_analyse.specs.Judgement.{IsItemOf, IsQuery, declared_relation, left_partitions, result_kind, shape_keys, shape_values}
use Rattle.ksql_analyse.specs.Plain.{HasPlainNames}
use Rattle.ksql_analyse.proofs.accepted.ItemNeeds.{readable, typable}
use Rattle.ksql_analyse.proofs.accepted.Refusals.{query-kept, stated}
use Rattle.ksql_analyse.proofs.some.SomeShape.{some-from, some-shape}
use Rattle.ksql_analyse.proofs.some.SomeTrees.{some-columns, some-part}

-- a topic that isn't refused is there
topic-in : (o : Option (List ℕ)) → has_bad_topic o ≡ false → (topic : List ℕ) × (Some topic ≡ o)
topic-in None h = absurd (cc (h))
topic-in (Some topic) h = (topic, refl)

some-query : (catalog : List Relation) (table : Bool) (name : List ℕ) (ps : List Property) (q : Select) → IsAccepted catalog (stated table name (body.Query ps q))
    → IsWithinLimits (stated table name (body.Query ps q)) → Each CallsFew (late_exprs q) → All HasPlainNames catalog
    → (made : Query) × IsQuery (length catalog) (stated table name (body.Query ps q)) ps q (all_known catalog q) made
some-query catalog table name ps q accepted limits few plain =
    let st = stated table name (body.Query ps q) in
    let ks = all_known catalog q in
    let keeps = query-kept catalog table name ps q accepted in
    let types = typable catalog st ps q refl accepted limits plain few in
    let reads = some-from q ks (readable catalog st ps q refl accepted limits plain) in
    let filters = some-part (from_scope q ks) q.filter types.filter in
    let makes = some-shape q ks types in
    let keys = some-columns (key_columns q ks) (shape_keys makes.0) makes.1.keyed in
    let values = some-columns (value_columns q ks) (shape_values makes.0) makes.1.valued in
    let topic = topic-in (topic_of name (body.Query ps q)) keeps.topic in
    let out : Relation = record {
      number = length catalog;
      name = name;
      kind = result_kind q ks;
      schema = record { keys = keys.0; values = values.0 };
      topic = topic.0;
      partitions = unwrap_or (partitions_in ps) (left_partitions ks);
      format = result_format ps ks;
      declared = false;
    } in (
      record { from = reads.0; filter = filters.0; shape = makes.0; out = out },
      record {
        reads = reads.1;
        filters = filters.1;
        makes = makes.1.is;
        gives = record {
          numbered = refl;
          named = refl;
          kinded = refl;
          keyed = keys.1;
          valued = values.1;
          topic = topic.1;
          partitions = refl;
          format = refl;
          query = refl;
        };
      },
    )

of-body : (catalog : List Relation) (table : Bool) (name : List ℕ) (b : StatementBody) → IsAccepted catalog (stated table name b) → IsWithinLimits (stated table name b)
    → HasFewCalls b → All HasPlainNames catalog → (i : Item) × IsItemOf catalog (stated table name b) i
of-body catalog table name (body.Declared cs ps) accepted limits few plain =
    (Declared (declared_relation (length catalog) (stated table name (body.Declared cs ps)) cs ps), refl)
of-body catalog table name (body.Query ps q) accepted limits few plain =
    let made = some-query catalog table name ps q accepted limits few plain in
    (Started made.0, made.1)

pub some-item : (catalog : List Relation) (st : Statement) → IsAccepted catalog st → IsWithinLimits st → HasFewCalls st.body → All HasPlainNames catalog
    → (i : Item) × IsItemOf catalog st i
some-item catalog st accepted limits few plain = of-body catalog st.table st.name st.body accepted limits few plain
