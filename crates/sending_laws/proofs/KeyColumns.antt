-- Each table has a key column.
use Rattle.std.proofs.Common.{◌≡◌, ◌∙◌, ap, refl, sym, subst, ℕ, zero, suc, ◌+◌, ◌≤◌, List, [], ◌∷◌, ◌++◌, length, arith, append_assoc}
use Rattle.std.proofs.lemmas.List.{append-nil}
use Rattle.std.proofs.lemmas.Option.{none-some, same_Some}
use Rattle.std.specs.Prelude.{Some, Option}
use Rattle.ksql_types.specs.declared.relation.Column.{Column}
use Rattle.ksql_types.specs.declared.relation.Kind.{Kind}
use Rattle.ksql_types.specs.declared.relation.Kind.TheVariants as kind
use Rattle.ksql_types.specs.declared.relation.Relation.{Relation}
use Rattle.ksql_types.specs.declared.value.SqlType.{SqlType}
use Rattle.ksql_expr.specs.declared.typed.Typed.{Typed}
use Rattle.ksql_program.specs.Program.{relation_at, relation_of}
use Rattle.ksql_program.specs.Sound.{AreColumns, AreColumnsFrom, AreSoundItems, HasDeclaredKey, HasItsKey, IsKeyed, IsSoundItem, Makes, Reads, grouped, of_stream, of_tables, one, own, partitioned, plain, query}
use Rattle.ksql_program.specs.declared.program.Item.{Item}
use Rattle.ksql_program.specs.declared.program.Item.TheVariants.{Declared, Started}
use Rattle.ksql_program.specs.declared.query.From.{From}
use Rattle.ksql_program.specs.declared.query.Shape.{Shape}

abbrev HaveKeyColumns : List Item → Type 0
HaveKeyColumns items = (number : ℕ) (r : Relation) → relation_at items number ≡ Some r → r.kind ≡ kind.Table → 1 ≤ length r.schema.keys

columns-length : (over : Kind) (types : List (Option SqlType)) (es : List Typed) (cs : List Column) → AreColumns over types es cs → length es ≡ length cs
columns-length over types [] [] h = refl
columns-length over types [] (c ∷ cs) h = absurd h
columns-length over types (e ∷ es) [] h = absurd h
columns-length over types (e ∷ es) (c ∷ cs) h = ap suc (columns-length over types es cs h.2)

from-length : (number : ℕ) (cs : List Column) (es : List Typed) → AreColumnsFrom number cs es → length es ≡ length cs
from-length number [] [] h = refl
from-length number [] (e ∷ es) h = absurd h
from-length number (c ∷ cs) [] h = absurd h
from-length number (c ∷ cs) (e ∷ es) h = ap suc (from-length (number + 1) cs es h.1)

-- the keys of a plain result over a table
keyed-some : (before : List Item) → HaveKeyColumns before → (from : From) (types : List (Option SqlType)) (l : Relation) → Reads before from types l → (ks : List Typed) → IsKeyed before from ks →
    l.kind ≡ kind.Table → 1 ≤ length ks
keyed-some before have from types l (one at _) ks (own {r = r} is columns) table =
    let same : l ≡ r = same_Some l r (sym at ∙ is) in
    let some : 1 ≤ length r.schema.keys = have _ r is (subst (λ x. x.kind ≡ kind.Table) same table) in
    let long : length ks ≡ length r.schema.keys = from-length 0 r.schema.keys ks columns in
    omega (arith, some, long)
keyed-some before have from types l reads ks (partitioned _ _) table = omega arith
keyed-some before have from types l reads ks (of_stream _ _) table = omega arith
keyed-some before have from types l reads ks (of_tables _ _ _ _) table = omega arith

made-some : (before : List Item) → HaveKeyColumns before → (from : From) (types : List (Option SqlType)) (l : Relation) → Reads before from types l → (shape : Shape) (out : Relation) →
    Makes l types shape out → HasItsKey before from shape → out.kind ≡ kind.Table → 1 ≤ length out.schema.keys
made-some before have from types l reads shape out (plain {ks = ks} columns _ same) keyed table =
    let some : 1 ≤ length ks = keyed-some before have from types l reads ks keyed (sym same ∙ table) in
    let long : length ks ≡ length out.schema.keys = columns-length l.kind types ks out.schema.keys columns in
    omega (arith, some, long)
made-some before have from types l reads shape out (grouped {ks = ks} ats some few columns _ _ _ _ _ _) keyed table =
    let long : length ks ≡ length out.schema.keys = columns-length l.kind types ks out.schema.keys columns in
    omega (arith, some, long)

item-some : (before : List Item) → HaveKeyColumns before → (i : Item) → IsSoundItem before i → (relation_of i).kind ≡ kind.Table → 1 ≤ length (relation_of i).schema.keys
item-some before have (Declared r) sound table = by r.kind table sound.1.keyed
  where
    by : (k : Kind) → k ≡ kind.Table → HasDeclaredKey k (length r.schema.keys) → 1 ≤ length r.schema.keys
    by k is h = let one : length r.schema.keys ≡ 1 = subst (λ k. HasDeclaredKey k (length r.schema.keys)) is h in omega (arith, one)
item-some before have (Started q) (_, query {types = types} {left = l} reads _ makes keyed _) table = made-some before have q.from types l reads q.shape q.out makes keyed table

have-more : (before : List Item) (i : Item) → HaveKeyColumns before → ((relation_of i).kind ≡ kind.Table → 1 ≤ length (relation_of i).schema.keys) → HaveKeyColumns (before ++ i ∷ [])
have-more [] i have mine zero r at table =
    let same : relation_of i ≡ r = same_Some (relation_of i) r at in
    subst (λ x. 1 ≤ length x.schema.keys) same (mine (subst (λ x. x.kind ≡ kind.Table) (sym same) table))
have-more [] i have mine (suc number) r at table = absurd (none-some r at)
have-more (j ∷ before) i have mine zero r at table = have zero r at table
have-more (j ∷ before) i have mine (suc number) r at table = have-more before i (λ n. have (suc n)) mine number r at table

have-all : (before items : List Item) → HaveKeyColumns before → AreSoundItems before items → HaveKeyColumns (before ++ items)
have-all before [] have sound = subst HaveKeyColumns (sym (append-nil before)) have
have-all before (i ∷ is) have sound =
    subst HaveKeyColumns (append_assoc before (i ∷ []) is) (have-all (before ++ i ∷ []) is (have-more before i have (item-some before have i sound.0)) sound.1)

-- each table of a sound program has a key column
pub tables-keyed : (items : List Item) → AreSoundItems [] items → (number : ℕ) (r : Relation) → relation_at items number ≡ Some r → r.kind ≡ kind.Table → 1 ≤ length r.schema.keys
tables-keyed items sound = have-all [] items (λ number r is. absurd (none-some r is)) sound
