-- The relation of a declaration that is accepted is sound.
use Rattle.std.proofs.Common.{◌≡◌, ℕ, suc, ◌+◌, ◌≤◌, ◌<◌, arith, Bool, true, false, not, ◌&&◌, ◌||◌, if◌then◌else◌, nat_lt, nat_le, List, [], ◌∷◌, ◌++◌, length, map, Option, Some, None, refl, ap, sym, ◌∙◌}
use Rattle.std.specs.Prelude.{unwrap_or, filter, All, codes}
use Rattle.std.specs.List.{list_any, list_all}
use Rattle.std.proofs.lemmas.Bool.{ltb-false, le-leb, false≢true}
use Rattle.std.proofs.lemmas.List.Elements.{All-head, All-tail}
use Rattle.std.proofs.lemmas.List.{length-append, length-map}
use Rattle.ksql_types.specs.declared.relation.Column.{Column}
use Rattle.ksql_types.specs.declared.relation.Format.{Format}
use Rattle.ksql_types.specs.declared.relation.Format.TheVariants.{Json, Delimited}
use Rattle.statement_trees.specs.declared.tree.ColumnText.{ColumnText}
use Rattle.statement_trees.specs.declared.tree.KeyMark.{KeyMark}
use Rattle.statement_trees.specs.declared.tree.KeyMark.TheVariants as mark
use Rattle.statement_trees.specs.declared.tree.Property.{Property}
use Rattle.statement_trees.specs.declared.tree.StatementBody.TheVariants.{Declared}
use Rattle.ksql_types.specs.Names.{are_column_names, are_distinct, is_among, is_topic_name, reserved_columns}
use Rattle.ksql_program.specs.Sound.{IsSoundRelation, IsSoundDeclaration, HasDeclaredKey}
use Rattle.ksql_clauses.specs.Properties.{are_bad, topic_in, partitions_in, format_in, is_zero, name_of, has_kind, is_bad_format, is_bad_key_format, value_of}
use Rattle.ksql_rules.specs.Breaks.{is_primary, is_key, has_only_keys, has_bad_topic, is_delimited}
use Rattle.std.proofs.lemmas.Bool.{and_parts, and_from}
use Rattle.ksql_analyse.specs.Judgement.{declared_relation, column_of, kind_of}
use Rattle.ksql_analyse.proofs.lists.Distinct.{parted, all-parted, distinct-parted, or-false, not-zero}
use Rattle.ksql_analyse.proofs.accepted.Refusals.{KeepsDeclaration, stated, not-not}

-- ---- properties

pub topic-there : (o : Option (List ℕ)) → has_bad_topic o ≡ false → (t : List ℕ) × (o ≡ Some t) × (is_topic_name t ≡ true)
topic-there None h = absurd (cc (h))
topic-there (Some t) h = (t, refl, not-not (is_topic_name t) h)

pub some-partitions : (ps : List Property) → are_bad ps ≡ false → is_zero (partitions_in ps) ≡ false
some-partitions ps h =
    (or-false (not (list_all (λ p. has_kind (name_of p) p.value) ps) || not (are_distinct (map name_of ps))
    || is_bad_format (value_of (codes "VALUE_FORMAT") ps) || is_bad_key_format (value_of (codes "KEY_FORMAT") ps)) (is_zero (partitions_in ps)) h).1

-- a count that is written, or the default
pub partitions-bounded : (o : Option ℕ) (other : ℕ) → is_zero o ≡ false → nat_lt 64 (unwrap_or o 0) ≡ false → 1 ≤ other → other ≤ 64
    → (1 ≤ unwrap_or o other) × (unwrap_or o other ≤ 64)
partitions-bounded None other h k l m = (l, m)
partitions-bounded (Some n) other h k l m = (not-zero n h, ltb-false 64 n k)

-- ---- columns

abbrev name_in : ColumnText → List ℕ
name_in c = c.name

abbrev keys_of : List ColumnText → List Column
keys_of cs = map column_of (filter is_key cs)

abbrev values_of : List ColumnText → List Column
values_of cs = map column_of (filter (λ c. not (is_key c)) cs)

names-of : (xs ys : List ColumnText) → map (λ (c : Column). c.name) (map column_of xs ++ map column_of ys) ≡ map name_in xs ++ map name_in ys
names-of [] [] = refl
names-of [] (y ∷ ys) = ap (λ l. y.name ∷ l) (names-of [] ys)
names-of (x ∷ xs) ys = ap (λ l. x.name ∷ l) (names-of xs ys)

length-at : (b : Bool) (c : ColumnText) (xs ys : List ColumnText) → length (map column_of (if b then c ∷ xs else xs)) + length (map column_of (if not b then c ∷ ys else ys))
    ≡ suc (length (map column_of xs) + length (map column_of ys))
length-at true c xs ys = omega arith
length-at false c xs ys = omega arith

length-columns : (cs : List ColumnText) → length (keys_of cs) + length (values_of cs) ≡ length cs
length-columns [] = refl
length-columns (c ∷ cs) = length-at (is_key c) c (filter is_key cs) (filter (λ d. not (is_key d)) cs) ∙ ap suc (length-columns cs)

some-at : (b : Bool) (c : ColumnText) (ys : List ColumnText) → (b ≡ true → 0 < length (map column_of ys)) → 0 < length (map column_of (if not b then c ∷ ys else ys))
some-at true c ys h = h refl
some-at false c ys h = omega arith

-- if one column isn't a key column, there is a value column
some-value : (cs : List ColumnText) → has_only_keys cs ≡ false → 0 < length (values_of cs)
some-value [] h = absurd (cc (h))
some-value (c ∷ cs) h = some-at (is_key c) c (filter (λ d. not (is_key d)) cs) (λ k. some-value cs (rest (is_key c) k h))
  where
    rest : (b : Bool) → b ≡ true → (b && has_only_keys cs) ≡ false → has_only_keys cs ≡ false
    rest true k l = l
    rest false k l = absurd (cc (k))

short-names : (cs : List ColumnText) → All (λ c. length c.name ≤ 128) cs → list_all (λ name. nat_le (length name) 128) (map name_in cs) ≡ true
short-names [] h = refl
short-names (c ∷ cs) h =
    and_from (nat_le (length c.name) 128) (list_all (λ name. nat_le (length name) 128) (map name_in cs))
    (le-leb (length c.name) 128 (All-head (λ (d : ColumnText). length d.name ≤ 128) c cs h)) (short-names cs (All-tail (λ (d : ColumnText). length d.name ≤ 128) c cs h))

-- a test of columns that looks at their names alone
pub all-by_name : (test : List ℕ → Bool) (cs : List Column) → list_all (λ c. test c.name) cs ≡ list_all test (map (λ c. c.name) cs)
all-by_name test [] = refl
all-by_name test (c ∷ cs) = ap (λ b. test c.name && b) (all-by_name test cs)

delimited-is : (f : Format) → f ≡ Delimited → is_delimited f ≡ true
delimited-is f h = ap is_delimited h

pub valued-where : (f : Format) (b : Bool) → (is_delimited f && b) ≡ false → f ≡ Delimited → b ≡ false
valued-where f b h k = at (is_delimited f) (delimited-is f k) h
  where
    at : (d : Bool) → d ≡ true → (d && b) ≡ false → b ≡ false
    at true l m = m
    at false l m = absurd (cc (l))

-- ---- the key

mark-key : (m : KeyMark) (c : ColumnText) → c.mark ≡ m → is_primary c ≡ true → is_key c ≡ true
mark-key mark.Plain c e h = absurd (false≢true (sym (primary e) ∙ h))
  where
    primary : c.mark ≡ mark.Plain → is_primary c ≡ false
    primary k = ap (λ m. is_primary (record { name = c.name; ty = c.ty; mark = m })) k
mark-key mark.Key c e h = ap (λ m. is_key (record { name = c.name; ty = c.ty; mark = m })) e
mark-key mark.PrimaryKey c e h = ap (λ m. is_key (record { name = c.name; ty = c.ty; mark = m })) e

key-at : (b : Bool) (c : ColumnText) (xs : List ColumnText) → (b ≡ false → 0 < length (map column_of xs)) → 0 < length (map column_of (if b then c ∷ xs else xs))
key-at true c xs h = omega arith
key-at false c xs h = h refl

some-key : (cs : List ColumnText) → list_any is_primary cs ≡ true → 0 < length (keys_of cs)
some-key [] h = absurd (cc (h))
some-key (c ∷ cs) h = key-at (is_key c) c (filter is_key cs) (λ k. some-key cs (rest (is_primary c) refl h k))
  where
    rest : (b : Bool) → is_primary c ≡ b → (b || list_any is_primary cs) ≡ true → is_key c ≡ false → list_any is_primary cs ≡ true
    rest true e l k = absurd (false≢true (sym k ∙ mark-key c.mark c refl e))
    rest false e l k = l

declared-key : (table : Bool) (cs : List ColumnText) → (table && not (list_any is_primary cs)) ≡ false → nat_lt 1 (length (filter is_key cs)) ≡ false
    → HasDeclaredKey (kind_of table) (length (keys_of cs))
declared-key true cs h k =
    let few : length (filter is_key cs) ≤ 1 = ltb-false 1 (length (filter is_key cs)) k in
    let same : length (keys_of cs) ≡ length (filter is_key cs) = length-map (filter is_key cs) column_of in
    let some : 0 < length (keys_of cs) = some-key cs (not-not (list_any is_primary cs) h) in
    omega arith
declared-key false cs h k =
    let few : length (filter is_key cs) ≤ 1 = ltb-false 1 (length (filter is_key cs)) k in
    let same : length (keys_of cs) ≡ length (filter is_key cs) = length-map (filter is_key cs) column_of in
    omega arith

-- ---- the relation

pub declaration-sound : (number : ℕ) (table : Bool) (name : List ℕ) (cs : List ColumnText) (ps : List Property) → KeepsDeclaration table cs ps → length name ≤ 128
    → All (λ c. length c.name ≤ 128) cs
    → IsSoundRelation number (declared_relation number (stated table name (Declared cs ps)) cs ps)
    × IsSoundDeclaration (declared_relation number (stated table name (Declared cs ps)) cs ps)
declaration-sound number table name cs ps k short shorts =
    let names = and_parts (are_distinct (map name_in cs)) (list_all (λ n. not (is_among reserved_columns n)) (map name_in cs)) k.named in
    let is = names-of (filter is_key cs) (filter (λ c. not (is_key c)) cs) in
    let topic = topic-there (topic_in ps) k.topic in
    let partitions = partitions-bounded (partitions_in ps) 1 (some-partitions ps k.properties) k.few_partitions (omega arith) (omega arith) in
    let count = length-columns cs in
    let few : length cs ≤ 64 = ltb-false 64 (length cs) k.few in (
      record {
        numbered = refl;
        named = short;
        columns_named = ap are_column_names is ∙ and_from (are_distinct (parted name_in is_key cs)) (list_all (λ n. not (is_among reserved_columns n)) (parted name_in is_key cs))
            (distinct-parted name_in is_key cs names.0) (all-parted name_in is_key (λ n. not (is_among reserved_columns n)) cs ∙ names.1);
        columns_short = all-by_name (λ n. nat_le (length n) 128) (keys_of cs ++ values_of cs) ∙ ap (list_all (λ n. nat_le (length n) 128)) is
            ∙ all-parted name_in is_key (λ n. nat_le (length n) 128) cs ∙ short-names cs shorts;
        columns_few = omega (arith, length-append (keys_of cs) (values_of cs));
        topic_named = ap (λ o. is_topic_name (unwrap_or o [])) topic.1 ∙ topic.2;
        some_partition = partitions.0;
        partitions_few = partitions.1;
        some_value = λ d. some-value cs (valued-where (unwrap_or (format_in ps) Json) (has_only_keys cs) k.valued d);
      },
      record { declared = refl; keyed = declared-key table cs k.keyed k.one_key },
    )
