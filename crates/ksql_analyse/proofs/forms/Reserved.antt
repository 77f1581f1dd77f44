-- No column of a sound relation has a reserved name.
use Rattle.std.proofs.Common.{◌≡◌, ℕ, Bool, true, false, not, if◌then◌else◌, List, [], ◌∷◌, map, refl, ap, sym, ◌∙◌}
use Rattle.std.specs.Prelude.{bytes_eq, codes, take}
use Rattle.std.specs.List.{list_all, flat_map, AllByRecursion as Each}
use Rattle.std.proofs.lemmas.Slice.Eq.{bytes_eq-Decides}
use Rattle.ksql_types.specs.declared.relation.Column.{Column}
use Rattle.ksql_types.specs.declared.relation.Relation.{Relation}
use Rattle.ksql_types.specs.Names.{is_among, are_distinct, reserved_columns}
use Rattle.ksql_types.specs.Columns.{columns}
use Rattle.ksql_program.specs.Sound.{IsSoundRelation}
use Rattle.statement_trees.specs.declared.tree.Select.{Select}
use Rattle.std.proofs.lemmas.Bool.{and_parts}
use Rattle.ksql_clauses.specs.declared.sources.Known.{Known}
use Rattle.ksql_clauses.specs.Sources.{from_columns, key_columns_of, scope_column, scope_columns, rowkey, rowkey_of, is_full}
use Rattle.ksql_analyse.proofs.forms.ResolvedTypes.{HasNo}
use Rattle.ksql_analyse.proofs.sound.SoundColumns.{each-append}

reserved-free : (number : ℕ) (r : Relation) (name : List ℕ) → is_among reserved_columns name ≡ true → IsSoundRelation number r → HasNo name (map (scope_column name) (columns r))
reserved-free number r name res h = each (columns r) (and_parts (are_distinct (map (λ c. c.name) (columns r)))
    (list_all (λ o. not (is_among reserved_columns o)) (map (λ c. c.name) (columns r))) h.columns_named).1
  where
    each : (cs : List Column) → list_all (λ o. not (is_among reserved_columns o)) (map (λ c. c.name) cs) ≡ true → HasNo name (map (scope_column name) cs)
    each [] k = tt
    each (c ∷ cs) k =
        let g = and_parts (not (is_among reserved_columns c.name)) (list_all (λ o. not (is_among reserved_columns o)) (map (λ d. d.name) cs)) k in
        (at (bytes_eq c.name name) refl g.0, each cs g.1)
      where
        at : (b : Bool) → bytes_eq c.name name ≡ b → not (is_among reserved_columns c.name) ≡ true → bytes_eq c.name name ≡ false
        at false m l = m
        at true m l = absurd (cc (sym (ap not (ap (is_among reserved_columns) ((bytes_eq-Decides c.name name).0 m) ∙ res)) ∙ l))

-- whatever the alias is
any-alias : (name alias other : List ℕ) (cs : List Column) → HasNo name (map (scope_column alias) cs) → HasNo name (map (scope_column other) cs)
any-alias name alias other [] h = tt
any-alias name alias other (c ∷ cs) h = (h.0, any-alias name alias other cs h.1)

abbrev pub AreSound : List Known → Type 0
AreSound ks = Each (λ k. IsSoundRelation k.relation.number k.relation) ks

pub reserved-nowhere : (q : Select) (ks : List Known) (name : List ℕ) → is_among reserved_columns name ≡ true → bytes_eq (codes "ROWKEY") name ≡ false → AreSound ks
    → HasNo name (from_columns q ks)
reserved-nowhere q ks name res other h = each-append (λ c. bytes_eq c.column.name name ≡ false) (flat_map scope_columns ks) (rowkey q ks) (flat ks h) (last ks)
  where
    flat : (os : List Known) → AreSound os → HasNo name (flat_map scope_columns os)
    flat [] k = tt
    flat (o ∷ os) k =
        each-append (λ c. bytes_eq c.column.name name ≡ false) (scope_columns o) (flat_map scope_columns os)
        (any-alias name name o.alias (columns o.relation) (reserved-free o.relation.number o.relation name res k.0)) (flat os k.1)

    keys : (cs : List Column) → HasNo name (map rowkey_of cs)
    keys [] = tt
    keys (c ∷ cs) = (other, keys cs)

    last : (os : List Known) → HasNo name (rowkey q os)
    last os = at (is_full q)
      where
        at : (b : Bool) → HasNo name (if b then map rowkey_of (take 1 (key_columns_of os)) else [])
        at true = keys (take 1 (key_columns_of os))
        at false = tt
