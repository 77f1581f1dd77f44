-- Changelogs under the number of a store.
use Rattle.std.proofs.Common.{◌≡◌, ◌∙◌, ap, ap₂, refl, ℕ, Bool, cond, List, [], ◌∷◌, ◌++◌, map, eq-eqb}
use Rattle.std.specs.Prelude.{◌==◌, IsTrue}
use Rattle.std.proofs.lemmas.List.{append-nil}
use Rattle.std.proofs.lemmas.List.Elements.{filter-append, All-append, All-map}
use Rattle.std.specs.Str.{bytes_eq}
use Rattle.ksql_types.specs.declared.relation.StoreEntry.{StoreEntry}
use Rattle.ksql_nodes.specs.declared.node.Node.{Node}
use Rattle.state_store.specs.Store.{Values, Content, with_value, replay, numbered, last_of_each, change_of, changes_of}
use Rattle.operator.specs.Holding.{in_store, is_store_of, IsOwnLog}

-- a store's own changes have the number 0
changes-own : (m : Values) (keys : List (List ℕ)) → numbered 0 (map (change_of m) keys) ≡ map (change_of m) keys
changes-own m [] = refl
changes-own m (k ∷ keys) = ap (λ (log : List StoreEntry). change_of m k ∷ log) (changes-own m keys)

pub replay-changes : (base : Values) (c : Content) → replay base (numbered 0 (changes_of c)) ≡ replay base (changes_of c)
replay-changes base c = ap (replay base) (changes-own c.map (last_of_each bytes_eq c.written))

numbered-own : (number : ℕ) (log : List StoreEntry) → numbered number (map (in_store number) log) ≡ map (in_store number) log
numbered-own number [] = refl
numbered-own number (entry ∷ log) =
    ap₂ (λ (b : Bool) (rest : List StoreEntry). cond b (in_store number entry ∷ rest) rest) (eq-eqb number number refl) (numbered-own number log)

replay-in_store : (number : ℕ) (m : Values) (log : List StoreEntry) → replay m (map (in_store number) log) ≡ replay m log
replay-in_store number m [] = refl
replay-in_store number m (entry ∷ log) = replay-in_store number (with_value m entry.key entry.value) log

-- entries under a number replay as they did
pub replay-numbered : (number : ℕ) (m : Values) (log : List StoreEntry) → replay m (numbered number (map (in_store number) log)) ≡ replay m log
replay-numbered number m log = ap (replay m) (numbered-own number log) ∙ replay-in_store number m log

-- ---- the log of two stores: that of the left one under 0, and then that of the right one under 1

none-of-right : (log : List StoreEntry) → numbered 0 (map (in_store 1) log) ≡ []
none-of-right [] = refl
none-of-right (entry ∷ log) = none-of-right log

none-of-left : (m : Values) (keys : List (List ℕ)) → numbered 1 (map (change_of m) keys) ≡ []
none-of-left m [] = refl
none-of-left m (k ∷ keys) = none-of-left m keys

pub replay-left : (base : Values) (left : Content) (log : List StoreEntry) → replay base (numbered 0 (changes_of left ++ map (in_store 1) log)) ≡ replay base (changes_of left)
replay-left base left log =
    ap (replay base) (filter-append (λ (entry : StoreEntry). entry.store == 0) (changes_of left) (map (in_store 1) log)
    ∙ ap (λ (rest : List StoreEntry). numbered 0 (changes_of left) ++ rest) (none-of-right log) ∙ append-nil (numbered 0 (changes_of left)))
    ∙ replay-changes base left

pub replay-right : (base : Values) (left : Content) (log : List StoreEntry) → replay base (numbered 1 (changes_of left ++ map (in_store 1) log)) ≡ replay base log
replay-right base left log =
    ap (replay base) (filter-append (λ (entry : StoreEntry). entry.store == 1) (changes_of left) (map (in_store 1) log)
    ∙ ap (λ (rest : List StoreEntry). rest ++ numbered 1 (map (in_store 1) log)) (none-of-left left.map (last_of_each bytes_eq left.written)))
    ∙ replay-numbered 1 base log

-- ---- logs whose entries are all of a node's stores

-- the changes of a store, where 0 is the number of one of the node's stores
pub own-changes : (node : Node) (c : Content) → IsTrue (is_store_of node 0) → IsOwnLog node (changes_of c)
own-changes node c zero =
    All-map (λ (entry : StoreEntry). IsTrue (is_store_of node entry.store)) (change_of c.map) (last_of_each bytes_eq c.written) (λ i d below. zero)

-- entries under the number of one of the node's stores
pub own-in_store : (node : Node) (number : ℕ) (log : List StoreEntry) → IsTrue (is_store_of node number) → IsOwnLog node (map (in_store number) log)
own-in_store node number log own =
    All-map (λ (entry : StoreEntry). IsTrue (is_store_of node entry.store)) (in_store number) log (λ i d below. own)

-- the log of two stores
pub own-both : (node : Node) (left : Content) (log : List StoreEntry) → IsTrue (is_store_of node 0) → IsTrue (is_store_of node 1) → IsOwnLog node (changes_of left ++ map (in_store 1) log)
own-both node left log zero one =
    All-append (λ (entry : StoreEntry). IsTrue (is_store_of node entry.store)) (changes_of left) (map (in_store 1) log) (own-changes node left zero) (own-in_store node 1 log one)
