-- What a replay leaves at each key, and the maps that a store's changes take to its map.
use Rattle.std.proofs.Common.{◌≡◌, ◌≢◌, AllPairs, arith, ℕ, ◌+◌, ◌<◌, ◌==◌, length, take, get_or, Bool, true, false, cond, ◌||◌, List, [], ◌∷◌, ◌++◌, map, Option, None, Some, refl, sym, ap, ◌∙◌, true≢false}
use Rattle.std.proofs.lemmas.List.{append-nil, length-map, get_or-map}
use Rattle.std.proofs.lemmas.List.Elements.{filter_more}
use Rattle.std.proofs.lemmas.List.Folds.{list_any-append}
use Rattle.std.specs.Cmp.Lexicographic.{nat_list_cmp_total, nat_list_eq_equiv, texts_ties, bytes_decides}
use Rattle.std.specs.FinMap.{get, get-insert, get-remove, same_map, nat_cmp-IsAntisymmetric, slice_cmp-IsAntisymmetric}
use Rattle.std.specs.List.{list_any}
use Rattle.std.specs.Str.{bytes_eq}
use Rattle.ksql_types.specs.declared.relation.StoreEntry.{StoreEntry}
use Rattle.state_store.specs.Store.{Values, Content, with_value, replay, numbered, last_of_each, change_of, changes_of, IsBase}
use Rattle.state_store.proofs.LastOfEach.{list_any-last_of_each, AllPairs-last_of_each}

-- maps with the same value at each key are equal
pub same_values : (m n : Values) → ((q : List ℕ) → get m q ≡ get n q) → m ≡ n
same_values = same_map nat_list_cmp_total (slice_cmp-IsAntisymmetric nat_cmp-IsAntisymmetric)

pub get-with_value : (m : Values) (key : List ℕ) (value : Option (List ℕ)) (q : List ℕ) → get (with_value m key value) q ≡ cond (bytes_eq q key) value (get m q)
get-with_value m key None q =
    get-remove nat_list_cmp_total m key q ∙ ap (λ b. cond b None (get m q)) (sym (texts_ties q key))
get-with_value m key (Some value) q =
    get-insert nat_list_cmp_total m key value q ∙ ap (λ b. cond b (Some value) (get m q)) (sym (texts_ties q key))

-- a value that a key has already
pub with_value-same : (m : Values) (key : List ℕ) → with_value m key (get m key) ≡ m
with_value-same m key = same_values _ m (λ q. get-with_value m key (get m key) q ∙ by q (bytes_eq q key) refl)
  where
    by : (q : List ℕ) (b : Bool) → bytes_eq q key ≡ b → cond b (get m key) (get m q) ≡ get m q
    by q true e = ap (get m) (sym ((bytes_decides q key).0 e))
    by q false e = refl

pub replay-append : (m : Values) (log more : List StoreEntry) → replay m (log ++ more) ≡ replay (replay m log) more
replay-append m [] more = refl
replay-append m (entry ∷ log) more = replay-append (with_value m entry.key entry.value) log more

-- the entries of a number up to one more entry
pub replay-numbered_more : (m : Values) (number : ℕ) (log : List StoreEntry) (i : ℕ) (entry : StoreEntry) → i < length log → entry ≡ get_or log i entry → replay m (numbered number (take (i + 1) log)) ≡ cond (entry.store == number) (with_value (replay m (numbered number (take i log))) entry.key entry.value) (replay m (numbered number (take i log)))
replay-numbered_more m number log i entry within here =
    ap (replay m) (filter_more (λ e. e.store == number) log i entry within)
    ∙ ap (λ e. replay m (before ++ cond (e.store == number) (e ∷ []) [])) (sym here)
    ∙ by (entry.store == number)
  where
    before : List StoreEntry
    before = numbered number (take i log)

    by : (b : Bool) → replay m (before ++ cond b (entry ∷ []) []) ≡ cond b (with_value (replay m before) entry.key entry.value) (replay m before)
    by true = replay-append m before (entry ∷ [])
    by false = ap (replay m) (append-nil before)

-- what a log leaves at a key that had this value
abbrev value_after : List ℕ → Option (List ℕ) → List StoreEntry → Option (List ℕ)
value_after q value [] = value
value_after q value (entry ∷ log) = value_after q (cond (bytes_eq q entry.key) entry.value value) log

get-replay : (m : Values) (log : List StoreEntry) (q : List ℕ) → get (replay m log) q ≡ value_after q (get m q) log
get-replay m [] q = refl
get-replay m (entry ∷ log) q =
    get-replay (with_value m entry.key entry.value) log q
    ∙ ap (λ value. value_after q value log) (get-with_value m entry.key entry.value q)

value_after-changes : (m : Values) (q : List ℕ) (value : Option (List ℕ)) (keys : List (List ℕ)) → value_after q value (map (change_of m) keys) ≡ cond (list_any (bytes_eq q) keys) (get m q) value
value_after-changes m q value [] = refl
value_after-changes m q value (key ∷ keys) =
    value_after-changes m q (cond (bytes_eq q key) (get m key) value) keys ∙ by (bytes_eq q key) (list_any (bytes_eq q) keys) refl
  where
    by : (b c : Bool) → bytes_eq q key ≡ b → cond c (get m q) (cond b (get m key) value) ≡ cond (b || c) (get m q) value
    by true true e = refl
    by true false e = ap (get m) (sym ((bytes_decides q key).0 e))
    by false c e = refl

-- the changes give each key that was written its value now, and leave each other key as it was
pub get-changes : (base : Values) (c : Content) (q : List ℕ) → get (replay base (changes_of c)) q ≡ cond (list_any (bytes_eq q) c.written) (get c.map q) (get base q)
get-changes base c q =
    get-replay base (changes_of c) q
    ∙ value_after-changes c.map q (get base q) (last_of_each bytes_eq c.written)
    ∙ ap (λ b. cond b (get c.map q) (get base q)) (list_any-last_of_each nat_list_eq_equiv q c.written)

-- one more write
pub IsBase-write : (base : Values) (old new : Content) (key : List ℕ) (value : Option (List ℕ)) → new.map ≡ with_value old.map key value → new.written ≡ old.written ++ key ∷ [] → IsBase base old → IsBase base new
IsBase-write base old new key value m w is =
    same_values _ new.map (λ q. get-changes base new q
    ∙ ap (λ b. cond b (get new.map q) (get base q)) (ap (list_any (bytes_eq q)) w ∙ list_any-append (bytes_eq q) old.written (key ∷ []))
    ∙ by q (list_any (bytes_eq q) old.written) (bytes_eq q key) refl refl)
  where
    by : (q : List ℕ) (a b : Bool) → list_any (bytes_eq q) old.written ≡ a → bytes_eq q key ≡ b → cond (a || (b || false)) (get new.map q) (get base q) ≡ get new.map q
    by q true b before here = refl
    by q false true before here = refl
    by q false false before here =
        ap (λ c. cond c (get old.map q) (get base q)) (sym before)
        ∙ sym (get-changes base old q)
        ∙ ap (λ n. get n q) is
        ∙ ap (λ c. cond c value (get old.map q)) (sym here)
        ∙ sym (get-with_value old.map key value q)
        ∙ ap (λ n. get n q) (sym m)

-- no key has two changes
pub AllPairs-changes_of : (c : Content) → AllPairs (λ change later. change.key ≢ later.key) (changes_of c)
AllPairs-changes_of c i j d below within same =
    let keys = last_of_each bytes_eq c.written in
    let later : j < length keys = omega (arith, length-map keys (change_of c.map)) in
    let key_of : (k : ℕ) → k < length keys → (get_or (changes_of c) k d).key ≡ get_or keys k [] = λ k in'. ap (λ change. change.key) (get_or-map (change_of c.map) keys k [] d in') in
    let here : get_or keys i [] ≡ get_or keys j [] = sym (key_of i (omega arith)) ∙ same ∙ key_of j later in
    true≢false (sym ((bytes_decides _ _).1 here) ∙ AllPairs-last_of_each nat_list_eq_equiv c.written i j [] below later)
