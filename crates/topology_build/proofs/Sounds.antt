-- What is short in a sound program.
use Rattle.std.proofs.Common.{ℕ, zero, suc, ◌<◌, ◌≤◌, List, [], ◌∷◌, ◌++◌, length, get_or, arith}
use Rattle.std.proofs.lemmas.List.{length-append}
use Rattle.ksql_types.specs.declared.relation.Relation.{Relation}
use Rattle.ksql_program.specs.Program.{relation_of}
use Rattle.ksql_program.specs.Sound.{AreSoundItems, IsSound, IsSoundItem, IsSoundRelation}
use Rattle.ksql_program.specs.declared.program.Item.{Item}
use Rattle.ksql_program.specs.declared.program.Item.TheVariants.{Declared, Started}
use Rattle.query_meaning.specs.Queries.{key_columns}

-- a relation with a short name and few key columns
pub record IsShort (r : Relation) : Type 0 where
  pub short_name : length r.name ≤ 128
  pub few_keys : length r.schema.keys ≤ 64

relation-short : (number : ℕ) (r : Relation) → IsSoundRelation number r → IsShort r
relation-short number r sound = record {
  short_name = sound.named;
  few_keys = omega (arith, length-append r.schema.keys r.schema.values, sound.columns_few);
}

item-short : (before : List Item) (i : Item) → IsSoundItem before i → IsShort (relation_of i)
item-short before (Declared r) sound = relation-short (length before) r sound.0
item-short before (Started q) sound = relation-short (length before) q.out sound.0

short-after : (before items : List Item) → AreSoundItems before items → (k : ℕ) (d : Item) → k < length items → IsShort (relation_of (get_or items k d))
short-after before [] sound k d inside = absurd (omega arith)
short-after before (i ∷ is) sound zero d inside = item-short before i sound.0
short-after before (i ∷ is) sound (suc k) d inside = short-after (before ++ i ∷ []) is sound.1 k d (omega arith)

-- each relation of a sound program is short
pub short-at : (items : List Item) → IsSound items → (k : ℕ) (d : Item) → k < length items → IsShort (relation_of (get_or items k d))
short-at items sound k d inside = short-after [] items sound.sound k d inside

keys-after : (before items : List Item) → AreSoundItems before items → (number : ℕ) → key_columns items number ≤ 64
keys-after before [] sound number = omega arith
keys-after before (i ∷ is) sound zero = (item-short before i sound.0).few_keys
keys-after before (i ∷ is) sound (suc number) = keys-after (before ++ i ∷ []) is sound.1 number

-- no relation of a sound program has more key columns
pub keys-few : (items : List Item) → IsSound items → (number : ℕ) → key_columns items number ≤ 64
keys-few items sound number = keys-after [] items sound.sound number
