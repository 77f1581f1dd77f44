-- What the item of an accepted query asks for.
use Rattle.std.proofs.Common.{◌≡◌, ◌<◌, ◌^◌, ℕ, Bool, true, false, if◌then◌else◌, is_some, nat_lt, List, Option, Some, None, refl, sym, subst, arith}
use Rattle.std.specs.Prelude.{All, codes, unwrap_or}
use Rattle.std.proofs.lemmas.Bool.{ltb-false}
use Rattle.ksql_types.specs.declared.relation.Relation.{Relation}
use Rattle.statement_trees.specs.declared.tree.ColumnText.{ColumnText}
use Rattle.statement_trees.specs.declared.tree.Property.{Property}
use Rattle.statement_trees.specs.declared.tree.Select.{Select}
use Rattle.statement_trees.specs.declared.tree.Statement.{Statement}
use Rattle.statement_trees.specs.declared.tree.StatementBody.{StatementBody}
use Rattle.statement_trees.specs.declared.tree.StatementBody.TheVariants.{Declared, Query}
use Rattle.ksql_clauses.specs.Properties.{partitions_in, topic_in, value_of}
use Rattle.ksql_clauses.specs.Sources.{all_known}
use Rattle.ksql_rules.specs.Breaks.{has_bad_topic}
use Rattle.ksql_rules.specs.declared.findings.Findings.{Findings}
use Rattle.ksql_rules.specs.Findings.{AreFindings}
use Rattle.ksql_rules.specs.Limits.{IsBodyWithin, IsQueryWithin, IsWithinLimits}
use Rattle.ksql_rules.specs.Lowest.{IsAccepted}
use Rattle.ksql_analyse.specs.Accepted.{IsAcceptedQuery}
use Rattle.ksql_analyse.specs.Few.{HasFewCalls}
use Rattle.ksql_analyse.specs.Plain.{HasPlainNames}
use Rattle.ksql_analyse.specs.Readable.{IsReadable}
use Rattle.ksql_analyse.specs.Typable.{IsQueryTypable}
use Rattle.ksql_analyse.proofs.accepted.GroupedQueries.{query-typable}
use Rattle.ksql_analyse.proofs.accepted.PlainScopes.{from-plain, item-plain}
use Rattle.ksql_analyse.proofs.accepted.ReadQueries as reads
use Rattle.ksql_analyse.proofs.accepted.Refusals.{KeepsQuery, declaration-kept, query-kept}

kept : (catalog : List Relation) (st : Statement) (ps : List Property) (q : Select) → st.body ≡ Query ps q → IsAccepted catalog st
    → KeepsQuery catalog st.table st.name ps q (all_known catalog q)
kept catalog st ps q is h =
    query-kept catalog st.table st.name ps q (subst (λ (b : StatementBody). IsAccepted catalog (record st { body = b })) is h)

few-of : (o : Option ℕ) → nat_lt 64 (unwrap_or o 0) ≡ false → unwrap_or o 1 < 2 ^ 32
few-of None h = omega arith
few-of (Some n) h = omega (arith, ltb-false 64 n h)

few-partitions : (catalog : List Relation) (st : Statement) (ps : List Property) (q : Select) → st.body ≡ Query ps q → IsAccepted catalog st
    → unwrap_or (partitions_in ps) 1 < 2 ^ 32
few-partitions catalog st ps q is h = few-of (partitions_in ps) (kept catalog st ps q is h).few_partitions

pub few-declared : (catalog : List Relation) (st : Statement) (cs : List ColumnText) (ps : List Property) → st.body ≡ Declared cs ps → IsAccepted catalog st
    → unwrap_or (partitions_in ps) 1 < 2 ^ 32
few-declared catalog st cs ps is h =
    few-of (partitions_in ps)
    (declaration-kept catalog st.table st.name cs ps (subst (λ (b : StatementBody). IsAccepted catalog (record st { body = b })) is h)).few_partitions

within : (st : Statement) (ps : List Property) (q : Select) → st.body ≡ Query ps q → IsWithinLimits st → IsQueryWithin q
within st ps q is limits = subst IsBodyWithin is limits.body

-- ---- trees

module _ (catalog : List Relation) (st : Statement) (ps : List Property) (q : Select) (is : st.body ≡ Query ps q) (accepted : IsAccepted catalog st)
    (limits : IsWithinLimits st) (plain : All HasPlainNames catalog) where
  pub readable : IsReadable q (all_known catalog q)
  readable =
      reads.readable catalog st.table st.name ps q (kept catalog st ps q is accepted) (within st ps q is limits) (from-plain catalog q plain) (item-plain catalog q plain)

  pub typable : HasFewCalls st.body → IsQueryTypable q (all_known catalog q)
  typable few =
      query-typable catalog st.table st.name ps q (all_known catalog q) (kept catalog st ps q is accepted) (within st ps q is limits) (from-plain catalog q plain)
      (item-plain catalog q plain) (subst HasFewCalls is few)

-- ---- the topic

has-topic : (name : List ℕ) (named : Bool) (topic : Option (List ℕ)) → has_bad_topic (if named then topic else Some name) ≡ false → named ≡ true → is_some topic ≡ true
has-topic name true (Some t) h k = refl
has-topic name true None h k = absurd (cc (h))
has-topic name false topic h k = absurd (cc (k))

topic-there : (catalog : List Relation) (st : Statement) (ps : List Property) (q : Select) → st.body ≡ Query ps q → IsAccepted catalog st
    → is_some (value_of (codes "KAFKA_TOPIC") ps) ≡ true → is_some (topic_in ps) ≡ true
topic-there catalog st ps q is h = has-topic st.name (is_some (value_of (codes "KAFKA_TOPIC") ps)) (topic_in ps) (kept catalog st ps q is h).topic

-- ---- all of it

pub accepted-query : (catalog : List Relation) (st : Statement) (ps : List Property) (f : Findings) → st.body ≡ Query ps f.select.now
    → f.known.items ≡ all_known catalog f.select.now → AreFindings f → IsAccepted catalog st → IsWithinLimits st → All HasPlainNames catalog → HasFewCalls st.body
    → IsAcceptedQuery st ps f
accepted-query catalog st ps f is known found accepted limits plain few =
    let q = f.select.now in
    record {
      ready = record {
        found = found;
        readable = subst (IsReadable q) (sym known) (readable catalog st ps q is accepted limits plain);
        typable = subst (IsQueryTypable q) (sym known) (typable catalog st ps q is accepted limits plain few);
        window_small = (kept catalog st ps q is accepted).window_small;
      };
      stated = is;
      few_partitions = few-partitions catalog st ps q is accepted;
      topic_there = topic-there catalog st ps q is accepted;
    }
