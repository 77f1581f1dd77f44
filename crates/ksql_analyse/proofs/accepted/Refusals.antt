-- What an accepted statement keeps: each rule, by its code.
use Rattle.std.proofs.Common.{◌≡◌, ℕ, ◌≤◌, ◌==◌, Bool, true, false, not, ◌&&◌, ◌||◌, if◌then◌else◌, nat_lt, List, [], ◌∷◌, length, map, Some, refl, ap, sym, ◌∙◌, inl, inr}
use Rattle.std.specs.Prelude.{unwrap_or, filter, find, is_some, bytes_eq, codes, option_and_then}
use Rattle.std.specs.List.{list_any}
use Rattle.std.proofs.lemmas.Bool.{ltb-false}
use Rattle.ksql_types.specs.declared.relation.Format.TheVariants.{Json}
use Rattle.ksql_types.specs.declared.relation.Relation.{Relation}
use Rattle.statement_trees.specs.declared.tree.ColumnText.{ColumnText}
use Rattle.statement_trees.specs.declared.tree.Property.{Property}
use Rattle.statement_trees.specs.declared.tree.Select.{Select}
use Rattle.statement_trees.specs.declared.tree.Statement.{Statement}
use Rattle.statement_trees.specs.declared.tree.StatementBody.{StatementBody}
use Rattle.statement_trees.specs.declared.tree.StatementBody.TheVariants.{Declared, Query}
use Rattle.ksql_types.specs.Names.{are_column_names}
use Rattle.ksql_clauses.specs.declared.sources.Known.{Known}
use Rattle.ksql_clauses.specs.Items.{result_columns}
use Rattle.ksql_clauses.specs.Properties.{are_bad, digits_in, format_in, name_of, partitions_in, topic_in}
use Rattle.ksql_clauses.specs.Sources.{all_known, has_unknown_source, have_one_alias, is_full, is_windowed, reads_stream, joined_streams, on_exprs, front_exprs, early_exprs, late_exprs, on_scope, from_scope, item_scope}
use Rattle.aggregate_rules.specs.Grouping.{has_aggregate, has_nested_aggregate, has_bare_column, ordered_aggregates}
use Rattle.ksql_types.specs.Names.{is_among}
use Rattle.ksql_scopes.specs.Uses.{has_unknown_function, has_ambiguous_name, calls}
use Rattle.ksql_clauses.specs.Keys.{value_columns}
use Rattle.ksql_rules.specs.Breaks.{has_many_partitions, wants_many_partitions, has_long_name, has_large_window, is_taken, topic_of, has_bad_names, IsQueryTyped, is_primary, is_key, has_only_keys, has_bad_topic, is_delimited, result_format, is_wrong_join, lacks_key, is_not_on_key, have_other_partitions, is_bad_window, joins_itself, is_stream_join, is_grouped, group_exprs, shown_exprs, makes_table, same}
use Rattle.ksql_rules.specs.Lowest.{IsAccepted}
use Rattle.ksql_analyse.proofs.lists.Distinct.{or-false}

pub untrue : (p : Bool) → (p ≡ true → ⊥) → p ≡ false
untrue true h = absurd (h refl)
untrue false h = refl

-- what is no true test is false
pub not-not : (p : Bool) → not p ≡ false → p ≡ true
not-not true h = refl
not-not false h = absurd (cc (h))

pub or-three : (p q r : Bool) → (p || q || r) ≡ false → (p ≡ false) × (q ≡ false) × (r ≡ false)
or-three p q r h =
    let x = or-false (p || q) r h in
    let y = or-false p q x.0 in
    (y.0, y.1, x.1)

pub or-four : (p q r s : Bool) → (p || q || r || s) ≡ false → (p ≡ false) × (q ≡ false) × (r ≡ false) × (s ≡ false)
or-four p q r s h =
    let x = or-false (p || q || r) s h in
    let y = or-three p q r x.0 in
    (y.0, y.1, y.2, x.1)

pub or-five : (p q r s t : Bool) → (p || q || r || s || t) ≡ false → (p ≡ false) × (q ≡ false) × (r ≡ false) × (s ≡ false) × (t ≡ false)
or-five p q r s t h =
    let x = or-false (p || q || r || s) t h in
    let y = or-four p q r s x.0 in
    (y.0, y.1, y.2, y.3, x.1)

-- ---- any statement

abbrev pub stated : Bool → List ℕ → StatementBody → Statement
stated table name body = record { table = table; name = name; body = body }

pub not-taken : (catalog : List Relation) (table : Bool) (name : List ℕ) (body : StatementBody) → IsAccepted catalog (stated table name body)
    → is_taken catalog (stated table name body) ≡ false
not-taken catalog table name (Declared cs ps) h = untrue (is_taken catalog (stated table name (Declared cs ps))) (λ k. h.1.1.0 (inr k))
not-taken catalog table name (Query ps q) h = untrue (is_taken catalog (stated table name (Query ps q))) (λ k. h.1.1.0 (inr k))

pub not-full : (catalog : List Relation) (st : Statement) → IsAccepted catalog st → length catalog ≤ 199
not-full catalog st h = ltb-false 199 (length catalog) (untrue (nat_lt 199 (length catalog)) (λ k. h.0 (inl k)))

-- ---- a declaration

-- if no PARTITIONS is above 64, the first isn't
many-first : (ps : List Property) → has_many_partitions ps ≡ false → nat_lt 64 (unwrap_or (partitions_in ps) 0) ≡ false
many-first [] h = refl
many-first (p ∷ ps) h = at (bytes_eq (name_of p) (codes "PARTITIONS")) (or-false (wants_many_partitions p) (has_many_partitions ps) h) refl (many-first ps)
  where
    at : (b : Bool) → (wants_many_partitions p ≡ false) × (has_many_partitions ps ≡ false) → bytes_eq (name_of p) (codes "PARTITIONS") ≡ b
        → (has_many_partitions ps ≡ false → nat_lt 64 (unwrap_or (partitions_in ps) 0) ≡ false) → nat_lt 64 (unwrap_or (partitions_in (p ∷ ps)) 0) ≡ false
    at true k is rest =
        ap (λ b. nat_lt 64 (unwrap_or (option_and_then digits_in (option_and_then (λ o. Some o.value) (if b then Some p else find (λ o. bytes_eq (name_of o) (codes "PARTITIONS")) ps))) 0)) is
        ∙ sym (ap (λ b. b && nat_lt 64 (unwrap_or (digits_in p.value) 0)) is) ∙ k.0
    at false k is rest =
        ap (λ b. nat_lt 64 (unwrap_or (option_and_then digits_in (option_and_then (λ o. Some o.value) (if b then Some p else find (λ o. bytes_eq (name_of o) (codes "PARTITIONS")) ps))) 0)) is
        ∙ rest k.1

pub record KeepsDeclaration (table : Bool) (cs : List ColumnText) (ps : List Property) : Type 0 where
  pub few : nat_lt 64 (length cs) ≡ false
  pub few_partitions : nat_lt 64 (unwrap_or (partitions_in ps) 0) ≡ false
  pub named : are_column_names (map (λ c. c.name) cs) ≡ true
  pub keyed : (table && not (list_any is_primary cs)) ≡ false
  pub one_key : nat_lt 1 (length (filter is_key cs)) ≡ false
  pub properties : are_bad ps ≡ false
  pub topic : has_bad_topic (topic_in ps) ≡ false
  pub valued : (is_delimited (unwrap_or (format_in ps) Json) && has_only_keys cs) ≡ false

pub declaration-kept : (catalog : List Relation) (table : Bool) (name : List ℕ) (cs : List ColumnText) (ps : List Property)
    → IsAccepted catalog (stated table name (Declared cs ps)) → KeepsDeclaration table cs ps
declaration-kept catalog table name cs ps h =
    let large = or-false (nat_lt 64 (length cs)) (has_many_partitions ps) (untrue _ (λ k. h.0 (inr k))) in
    let names = untrue (not (are_column_names (map (λ c. c.name) cs))) (λ k. h.1.1.1.1.1.0 (inr k)) in
    let bad = or-three (are_bad ps) (has_bad_topic (topic_in ps)) (is_delimited (unwrap_or (format_in ps) Json) && has_only_keys cs)
    (untrue _ (λ k. h.1.1.1.1.1.1.1.1.1.1.1.1.1.1.0 (inr k))) in
    record {
      few = large.0;
      few_partitions = many-first ps large.1;
      named = not-not (are_column_names (map (λ c. c.name) cs)) names;
      keyed = untrue (table && not (list_any is_primary cs)) (λ k. h.1.1.1.1.1.1.1.1.0 (inr k));
      one_key = untrue (nat_lt 1 (length (filter is_key cs))) (λ k. h.1.1.1.1.1.1.1.1.1.1.1.1.1.0 (inr k));
      properties = bad.0;
      topic = bad.1;
      valued = bad.2;
    }

-- ---- a query

pub record KeepsQuery (catalog : List Relation) (table : Bool) (name : List ℕ) (ps : List Property) (q : Select) (ks : List Known) : Type 0 where
  pub few : nat_lt 64 (length (result_columns q ks)) ≡ false
  pub few_groups : nat_lt 8 (length q.group) ≡ false
  pub window_small : has_large_window q.window ≡ false
  pub short : has_long_name ks (result_columns q ks) ≡ false
  pub few_partitions : nat_lt 64 (unwrap_or (partitions_in ps) 0) ≡ false
  pub all_known : has_unknown_source catalog q ≡ false
  pub aliases : have_one_alias q ≡ false
  pub named : has_bad_names q ks ≡ false
  pub typed : ¬ ¬ IsQueryTyped q ks
  pub kind : same table (makes_table q ks) ≡ true
  pub joinable : is_wrong_join (is_full q) (joined_streams ks) ≡ false
  pub partitioned : (is_some q.partition && not (reads_stream ks)) ≡ false
  pub keyed : lacks_key q ks ≡ false
  pub on_key : is_not_on_key q ks ≡ false
  pub alike : have_other_partitions ks ≡ false
  pub early_plain : list_any has_aggregate (early_exprs q) ≡ false
  pub late_flat : list_any has_nested_aggregate (late_exprs q) ≡ false
  pub ungrouped : (not (is_grouped q) && (list_any has_aggregate (late_exprs q) || is_some q.having)) ≡ false
  pub grouped : (is_grouped q && (not (list_any has_aggregate (late_exprs q)) || is_some q.partition || list_any (has_bare_column (group_exprs q ks)) (shown_exprs q ks))) ≡ false
  pub over_table : (not (reads_stream ks) && list_any (λ a. list_any (is_among ordered_aggregates) (calls a)) (late_exprs q)) ≡ false
  pub window : is_bad_window q ks ≡ false
  pub early_known : list_any has_unknown_function (early_exprs q) ≡ false
  pub late_known : list_any has_unknown_function (late_exprs q) ≡ false
  pub not_windowed : list_any (λ k. is_windowed k.relation) ks ≡ false
  pub apart : joins_itself ks ≡ false
  pub no_streams : is_stream_join (joined_streams ks) ≡ false
  pub properties : are_bad ps ≡ false
  pub topic : has_bad_topic (topic_of name (Query ps q)) ≡ false
  pub valued : (is_delimited (result_format ps ks) && (length (value_columns q ks) == 0)) ≡ false

pub query-kept : (catalog : List Relation) (table : Bool) (name : List ℕ) (ps : List Property) (q : Select)
    → IsAccepted catalog (stated table name (Query ps q)) → KeepsQuery catalog table name ps q (all_known catalog q)
query-kept catalog table name ps q h =
    let ks = all_known catalog q in
    let large = or-false (nat_lt 64 (length (result_columns q ks)) || nat_lt 8 (length q.group) || has_large_window q.window || has_long_name ks (result_columns q ks))
    (has_many_partitions ps) (untrue _ (λ k. h.0 (inr k))) in
    let larger = or-four (nat_lt 64 (length (result_columns q ks))) (nat_lt 8 (length q.group)) (has_large_window q.window) (has_long_name ks (result_columns q ks)) large.0 in
    let ambiguous = or-four (list_any (has_ambiguous_name (on_scope q ks)) (on_exprs q)) (list_any (has_ambiguous_name (from_scope q ks)) (front_exprs q))
    (list_any (has_ambiguous_name (item_scope q ks)) (late_exprs q)) (have_one_alias q) (untrue _ (λ k. h.1.1.1.1.0 (inr k))) in
    let wrong = or-three (not (same table (makes_table q ks))) (is_wrong_join (is_full q) (joined_streams ks)) (is_some q.partition && not (reads_stream ks))
    (untrue _ (λ k. h.1.1.1.1.1.1.1.0 (inr k))) in
    let misused = or-five (list_any has_aggregate (early_exprs q)) (list_any has_nested_aggregate (late_exprs q)) (not (is_grouped q) && (list_any has_aggregate (late_exprs q) || is_some q.having))
    (is_grouped q && (not (list_any has_aggregate (late_exprs q)) || is_some q.partition || list_any (has_bare_column (group_exprs q ks)) (shown_exprs q ks)))
    (not (reads_stream ks) && list_any (λ a. list_any (is_among ordered_aggregates) (calls a)) (late_exprs q))
    (untrue _ (λ k. h.1.1.1.1.1.1.1.1.1.1.1.0 (inr k))) in
    let unsupported = or-five (list_any has_unknown_function (early_exprs q)) (list_any has_unknown_function (late_exprs q)) (list_any (λ k. is_windowed k.relation) ks)
    (joins_itself ks) (is_stream_join (joined_streams ks)) (untrue _ (λ k. h.1.1.1.1.1.1.1.1.1.1.1.1.1.0 (inr k))) in
    let bad = or-three (are_bad ps) (has_bad_topic (topic_of name (Query ps q))) (is_delimited (result_format ps ks) && (length (value_columns q ks) == 0))
    (untrue _ (λ k. h.1.1.1.1.1.1.1.1.1.1.1.1.1.1.0 (inr k))) in
    record {
      few = larger.0;
      few_groups = larger.1;
      window_small = larger.2;
      short = larger.3;
      few_partitions = many-first ps large.1;
      all_known = untrue (has_unknown_source catalog q) (λ k. h.1.0 (inr k));
      aliases = ambiguous.3;
      named = untrue (has_bad_names q ks) (λ k. h.1.1.1.1.1.0 (inr k));
      typed = λ k. h.1.1.1.1.1.1.0 (inr k);
      kind = not-not (same table (makes_table q ks)) wrong.0;
      joinable = wrong.1;
      partitioned = wrong.2;
      keyed = untrue (lacks_key q ks) (λ k. h.1.1.1.1.1.1.1.1.0 (inr k));
      on_key = untrue (is_not_on_key q ks) (λ k. h.1.1.1.1.1.1.1.1.1.0 (inr k));
      alike = untrue (have_other_partitions ks) (λ k. h.1.1.1.1.1.1.1.1.1.1.0 (inr k));
      early_plain = misused.0;
      late_flat = misused.1;
      ungrouped = misused.2;
      grouped = misused.3;
      over_table = misused.4;
      window = untrue (is_bad_window q ks) (λ k. h.1.1.1.1.1.1.1.1.1.1.1.1.0 (inr k));
      early_known = unsupported.0;
      late_known = unsupported.1;
      not_windowed = unsupported.2;
      apart = unsupported.3;
      no_streams = unsupported.4;
      properties = bad.0;
      topic = bad.1;
      valued = bad.2;
    }
