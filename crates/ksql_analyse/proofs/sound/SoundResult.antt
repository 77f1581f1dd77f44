-- The relation of a query's result is sound.
use Rattle.std.proofs.Common.{◌≡◌, ℕ, ◌≤◌, ◌==◌, arith, Bool, true, false, not, nat_lt, nat_le, List, [], ◌∷◌, ◌++◌, length, map, Option, Some, None, refl, ap, ap₂, sym, ◌∙◌, subst}
use Rattle.std.specs.Prelude.{All, filter, bytes_eq}
use Rattle.std.specs.List.{list_all, AllByRecursion as Each}
use Rattle.std.proofs.lemmas.Bool.{ltb-false, le-leb, leb-true}
use Rattle.std.proofs.lemmas.List.{length-append, length-map, map-append}
use Rattle.std.proofs.lemmas.List.Elements.{recursion_from_All}
use Rattle.std.proofs.lemmas.List.Folds.{list_any-append}
use Rattle.std.proofs.lemmas.Option.{same_Some}
use Rattle.ksql_types.specs.declared.relation.Column.{Column}
use Rattle.ksql_types.specs.declared.relation.Relation.{Relation}
use Rattle.statement_trees.specs.declared.tree.Property.{Property}
use Rattle.statement_trees.specs.declared.tree.Select.{Select}
use Rattle.statement_trees.specs.declared.tree.SelectItem.{SelectItem}
use Rattle.statement_trees.specs.declared.tree.SelectItem.TheVariants.{Star, StarOf, One}
use Rattle.statement_trees.specs.declared.tree.StatementBody.TheVariants.{Query}
use Rattle.ksql_program.specs.declared.query.Shape.{Shape}
use Rattle.ksql_types.specs.Names.{are_column_names, are_distinct, is_among, is_topic_name, reserved_columns}
use Rattle.ksql_types.specs.Columns.{columns}
use Rattle.ksql_program.specs.Sound.{IsSoundRelation}
use Rattle.ksql_clauses.specs.declared.items.Named.{Named}
use Rattle.ksql_clauses.specs.declared.sources.Known.{Known}
use Rattle.ksql_clauses.specs.Items.{result_columns, star_column, is_join, column_name}
use Rattle.ksql_clauses.specs.Properties.{partitions_in}
use Rattle.ksql_clauses.specs.Sources.{item_scope}
use Rattle.ksql_clauses.proofs.Naming.{numbered_is_short}
use Rattle.ksql_clauses.specs.Keys.{key_columns, value_columns}
use Rattle.ksql_rules.specs.Breaks.{has_long_name, result_format, topic_of}
use Rattle.ksql_clauses.specs.Keys.{key_places, needs}
use Rattle.ksql_rules.specs.Limits.{HasShortAlias}
use Rattle.ksql_scopes.specs.declared.scope.Scope.{Scope}
use Rattle.std.proofs.lemmas.Bool.{and_parts, and_from}
use Rattle.ksql_analyse.specs.Judgement.{IsResult, left_partitions}
use Rattle.ksql_analyse.proofs.parsed.Parsed.{IsPlainShort}
use Rattle.ksql_analyse.proofs.accepted.Refusals.{KeepsQuery, stated, not-not}
use Rattle.ksql_analyse.proofs.sound.SoundColumns.{columns-each, stars-each, keys-each, besides-each, count-columns, plain-is, OfItem, each-append, each-weaker, each-filter}
use Rattle.ksql_analyse.proofs.sound.SoundDeclared.{topic-there, partitions-bounded, some-partitions, valued-where, all-by_name}
use Rattle.ksql_analyse.proofs.lists.Distinct.{or-false, not-true, true-not, not-zero}
use Rattle.ksql_analyse.proofs.sound.SoundTrees.{each-false}
use Rattle.ksql_analyse.proofs.forms.Bearing.{some}

abbrev pub HasShortName : Named → Type 0
HasShortName c = length c.name ≤ 128

-- ---- names, where one relation is read

each-true : {A : Type 0} (p : A → Bool) (xs : List A) → list_all p xs ≡ true → Each (λ x. p x ≡ true) xs
each-true p [] h = tt
each-true p (x ∷ xs) h = let r = and_parts (p x) (list_all p xs) h in (r.0, each-true p xs r.1)

pub columns-short : (number : ℕ) (r : Relation) → IsSoundRelation number r → Each (λ c. length c.name ≤ 128) (columns r)
columns-short number r h =
    each-weaker (λ (c : Column). nat_le (length c.name) 128 ≡ true) (λ (c : Column). length c.name ≤ 128) (λ c k. leb-true (length c.name) 128 k) (columns r)
    (each-true (λ (c : Column). nat_le (length c.name) 128) (columns r) h.columns_short)

module _ (s : Scope) (k : Known) (h : Each (λ c. length c.name ≤ 128) (columns k.relation)) where
  own-name : (q : Option (List ℕ)) (name : List ℕ) → column_name (k ∷ []) q name ≡ name
  own-name None name = refl
  own-name (Some q) name = refl

  item-short : (i : SelectItem) → HasShortAlias i → IsPlainShort i → OfItem HasShortName s (k ∷ []) i
  item-short Star a p = stars-each HasShortName s (k ∷ []) (k ∷ []) (h, tt)
  item-short (StarOf alias) a p =
      stars-each HasShortName s (k ∷ []) (filter (λ o. bytes_eq o.alias alias) (k ∷ []))
      (each-filter (λ o. Each (λ c. HasShortName (star_column (is_join (k ∷ [])) o.alias c)) (columns o.relation)) (λ o. bytes_eq o.alias alias) (k ∷ []) (h, tt))
  item-short (One x (Some alias)) a p = a
  item-short (One x None) a p = (
    λ name g. let r = plain-is (k ∷ []) x name g in subst (λ n. length n ≤ 128) (sym (r.3 ∙ own-name r.0 r.1)) (p r.0 r.1 r.2),
    λ number small. let l = numbered_is_short number (omega arith) in omega arith,
  )

  items-short : (is : List SelectItem) → Each HasShortAlias is → Each IsPlainShort is → Each (OfItem HasShortName s (k ∷ [])) is
  items-short [] a p = tt
  items-short (i ∷ is) a p = (item-short i a.0 p.0, items-short is a.1 p.1)

pub names-short-one : (q : Select) (k : Known) (number : ℕ) → IsSoundRelation number k.relation → nat_lt 64 (length (result_columns q (k ∷ []))) ≡ false
    → All HasShortAlias q.items → All IsPlainShort q.items → Each HasShortName (result_columns q (k ∷ []))
names-short-one q k number sound few aliases plain =
    let count : length (result_columns q (k ∷ [])) ≤ 64 = ltb-false 64 (length (result_columns q (k ∷ []))) few in
    let s = item_scope q (k ∷ []) in
    columns-each HasShortName s (k ∷ []) q.items 0 (omega arith)
    (items-short s k (columns-short number k.relation sound) q.items (recursion_from_All HasShortAlias q.items aliases) (recursion_from_All IsPlainShort q.items plain))

-- ---- names in a join

pub names-short-two : (q : Select) (l r : Known) → has_long_name (l ∷ r ∷ []) (result_columns q (l ∷ r ∷ [])) ≡ false → Each HasShortName (result_columns q (l ∷ r ∷ []))
names-short-two q l r h =
    each-weaker (λ (c : Named). nat_lt 128 (length c.name) ≡ false) HasShortName (λ c k. ltb-false 128 (length c.name) k) (result_columns q (l ∷ r ∷ []))
    (each-false (λ (c : Named). nat_lt 128 (length c.name)) (result_columns q (l ∷ r ∷ [])) h)

-- ---- the relation

distinct-front : (xs ys : List (List ℕ)) → are_distinct (xs ++ ys) ≡ true → are_distinct xs ≡ true
distinct-front [] ys h = refl
distinct-front (x ∷ xs) ys h =
    let r = and_parts (not (is_among (xs ++ ys) x)) (are_distinct (xs ++ ys)) h in
    let none = or-false (is_among xs x) (is_among ys x) (sym (list_any-append (bytes_eq x) xs ys) ∙ true-not (is_among (xs ++ ys) x) r.0) in
    and_from (not (is_among xs x)) (are_distinct xs) (not-true (is_among xs x) none.0) (distinct-front xs ys r.1)

same-length : {A B C : Type 0} (f : A → C) (g : B → C) (xs : List A) (ys : List B) → map f xs ≡ map g ys → length xs ≡ length ys
same-length f g xs ys h = sym (length-map xs f) ∙ ap length h ∙ length-map ys g

short-tested : (cs : List Named) → Each HasShortName cs → list_all (λ name. nat_le (length name) 128) (map (λ c. c.name) cs) ≡ true
short-tested [] h = refl
short-tested (c ∷ cs) h =
    and_from (nat_le (length c.name) 128) (list_all (λ name. nat_le (length name) 128) (map (λ d. d.name) cs)) (le-leb (length c.name) 128 h.0) (short-tested cs h.1)

pub result-sound : (catalog : List Relation) (number : ℕ) (table : Bool) (name : List ℕ) (ps : List Property) (q : Select) (ks : List Known) (made : Shape) (r : Relation)
    → KeepsQuery catalog table name ps q ks → length name ≤ 128 → Each HasShortName (result_columns q ks) → 1 ≤ left_partitions ks → left_partitions ks ≤ 64
    → IsResult number (stated table name (Query ps q)) ps q ks made r → IsSoundRelation number r
result-sound catalog number table name ps q ks made r keeps short shorts some few h =
    let names : map (λ c. c.name) (columns r) ≡ map (λ c. c.name) (key_columns q ks ++ value_columns q ks) =
    map-append (λ (c : Column). c.name) r.schema.keys r.schema.values ∙ ap₂ (λ x y. x ++ y) h.keyed.0 h.valued.0
    ∙ sym (map-append (λ (c : Named). c.name) (key_columns q ks) (value_columns q ks)) in
    let named = not-not (are_column_names (map (λ c. c.name) (key_columns q ks ++ value_columns q ks))) keeps.named in
    let distinct = (and_parts (are_distinct (map (λ c. c.name) (key_columns q ks ++ value_columns q ks)))
    (list_all (λ n. not (is_among reserved_columns n)) (map (λ c. c.name) (key_columns q ks ++ value_columns q ks))) named).0 in
    let front = distinct-front (map (λ (c : Named). c.name) (key_columns q ks)) (map (λ (c : Named). c.name) (value_columns q ks))
    (sym (ap are_distinct (map-append (λ (c : Named). c.name) (key_columns q ks) (value_columns q ks))) ∙ distinct) in
    let count = count-columns (result_columns q ks) (needs q ks) front in
    let keys = same-length (λ (c : Column). c.name) (λ (c : Named). c.name) r.schema.keys (key_columns q ks) h.keyed.0 in
    let values = same-length (λ (c : Column). c.name) (λ (c : Named). c.name) r.schema.values (value_columns q ks) h.valued.0 in
    let most : length (result_columns q ks) ≤ 64 = ltb-false 64 (length (result_columns q ks)) keeps.few in
    let topic = topic-there (topic_of name (Query ps q)) keeps.topic in
    let partitions = partitions-bounded (partitions_in ps) (left_partitions ks) (some-partitions ps keeps.properties) keeps.few_partitions some few in
    record {
      numbered = h.numbered;
      named = subst (λ n. length n ≤ 128) (sym h.named) short;
      columns_named = ap are_column_names names ∙ named;
      columns_short = all-by_name (λ n. nat_le (length n) 128) (columns r) ∙ ap (list_all (λ n. nat_le (length n) 128)) names
          ∙ short-tested (key_columns q ks ++ value_columns q ks)
          (each-append HasShortName (key_columns q ks) (value_columns q ks) (keys-each HasShortName (result_columns q ks) shorts (needs q ks))
          (besides-each HasShortName (key_places q ks) (result_columns q ks) shorts));
      columns_few = omega (arith, length-append r.schema.keys r.schema.values);
      topic_named = ap is_topic_name (same_Some r.topic topic.0 (h.topic ∙ topic.1)) ∙ topic.2;
      some_partition = subst (λ n. 1 ≤ n) (sym h.partitions) partitions.0;
      partitions_few = subst (λ n. n ≤ 64) (sym h.partitions) partitions.1;
      some_value = λ d. let z = not-zero (length (value_columns q ks))
          (valued-where (result_format ps ks) (length (value_columns q ks) == 0) keeps.valued (sym h.format ∙ d)) in omega arith;
    }
