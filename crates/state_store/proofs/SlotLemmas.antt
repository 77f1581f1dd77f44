-- The map and the keys of a table of slots.
use Rattle.std.proofs.Common.{◌≡◌, ℕ, zero, suc, ◌<◌, Bool, true, false, cond, if◌then◌else◌, ◌||◌, List, [], ◌∷◌, ◌++◌, map, length, get_or, slice_get, position, Option, None, Some, is_some, refl, sym, ap, ap₂, ◌∙◌, inl, inr, nat_eq, eq-eqb, arith}
use Rattle.std.specs.Cmp.{IsEquivalence}
use Rattle.std.specs.Cmp.Lexicographic.{nat_list_eq_equiv, on_texts_equal, bytes_decides}
use Rattle.std.specs.FinMap.{get, get-empty}
use Rattle.std.specs.Global.{Vec}
use Rattle.std.specs.List.{list_any, position_or_len, AllByRecursion, IsDistinct}
use Rattle.std.specs.HashMap.{HashMap}
use Rattle.std.specs.Option.{option_map}
use Rattle.std.specs.Map.{keys_of, lookup, KeepsOthers}
use Rattle.std.proofs.lemmas.List.{length-map, get_or-map, map-append, get_or_append_left}
use Rattle.std.proofs.lemmas.List.Elements.{All-head, All-tail}
use Rattle.std.proofs.lemmas.List.Folds.{list_any_at}
use Rattle.std.proofs.lemmas.List.Quantifiers.{position-Some}
use Rattle.std.proofs.lemmas.Map.Entries.{lookup_from_place}
use Rattle.std.proofs.lemmas.Map.Keys.{IsDistinct-head, IsDistinct-tail, IsDistinct-cons, IsDistinct-from_apart, apart_from_distinct}
use Rattle.std.proofs.lemmas.Bool.{cases_lt}
use borrow.Author.Tests.{ne_eqb}
use mathlib.Core.List.{map-map}
use Rattle.std.proofs.lemmas.Option.{none-some, slice_get-get_or, slice_get-map, slice_get_within, get_or_from_slice_get}
use Rattle.indexmap.proofs.CallerLemmas.{keys-with_value_at, insert_entry-new}
use Rattle.indexmap.proofs.MapLemmas.{absent_from_lookup, or_len-absent}
use Rattle.indexmap.specs.IndexMap.{insert_entry, set_value_at}
use Rattle.indexmap.specs.IndexSet.{insert_key}
use Rattle.std.specs.Ordering.{nat_cmp}
use Rattle.std.specs.Cmp.Lexicographic.{slice_cmp}
use Rattle.std.specs.Str.{bytes_eq}
use Rattle.state_store.specs.Store.{Content, with_value, last_of_each, change_of, changes_of}
use Rattle.state_store.specs.Slots.{Slot, keys_in, values_in, key_at, content_of, AreIndexes}
use Rattle.state_store.proofs.LastOfEach.{map-last_of_each}
use Rattle.state_store.proofs.ReplayLemmas.{same_values, get-with_value}

-- whether a key has these bytes
abbrev pub is_key : List ℕ → Vec ℕ → Bool
is_key q key = bytes_eq q key.items

-- whether two keys have the same bytes
abbrev pub same_key : Vec ℕ → Vec ℕ → Bool
same_key x y = bytes_eq x.items y.items

pub same_key_equiv : IsEquivalence same_key
same_key_equiv = on_texts_equal (λ key. key.items)

-- the value in a slot, if any
abbrev pub value_found : Option (Option (List ℕ)) → Option (List ℕ)
value_found None = None
value_found (Some value) = value

-- the map has at a key what the first slot of the key has
pub get-values_in : (slots : List Slot) (q : List ℕ) → get (values_in slots) q ≡ value_found (lookup (is_key q) slots)
get-values_in [] q = get-empty (slice_cmp nat_cmp) q
get-values_in (slot ∷ slots) q =
    get-with_value (values_in slots) slot.0.items slot.1 q ∙ by (is_key q slot.0) (get-values_in slots q)
  where
    by : (b : Bool) → get (values_in slots) q ≡ value_found (lookup (is_key q) slots) → cond b slot.1 (get (values_in slots) q) ≡ value_found (cond b (Some slot.1) (lookup (is_key q) slots))
    by true rest = refl
    by false rest = rest

-- so has a store's map
pub get-content_of : (slots : List Slot) (writes : List ℕ) (content : Content) (key : List ℕ) (found : Option (Option (List ℕ))) → content_of slots writes ≡ content → found ≡ lookup (is_key key) slots → value_found found ≡ get content.map key
get-content_of slots writes content key found view there =
    ap value_found there ∙ sym (get-values_in slots key) ∙ ap (λ c. get c.map key) view

-- only the value at one key changes
pub values_in-update : (old new : List Slot) (key : List ℕ) (found : Option (Option (List ℕ))) → lookup (is_key key) new ≡ found → KeepsOthers same_key (is_key key) old new → values_in new ≡ with_value (values_in old) key (value_found found)
unfolding KeepsOthers
values_in-update old new key found there others =
    same_values _ _ (λ q. get-values_in new q ∙ by q (bytes_eq q key) refl ∙ sym (get-with_value (values_in old) key (value_found found) q))
  where
    by : (q : List ℕ) (b : Bool) → bytes_eq q key ≡ b → value_found (lookup (is_key q) new) ≡ cond b (value_found found) (get (values_in old) q)
    by q true e = ap (λ k. value_found (lookup (is_key k) new)) ((bytes_decides q key).0 e) ∙ ap value_found there
    by q false e =
        ap value_found (others (is_key q) (λ x y t. nat_list_eq_equiv.congr q x.items y.items t) (λ k t. ap (bytes_eq q) (sym ((bytes_decides key k.items).0 t)) ∙ e))
        ∙ sym (get-values_in old q)

pub length-keys_in : (slots : List Slot) → length (keys_in slots) ≡ length slots
length-keys_in slots = length-map (keys_of slots) (λ key. key.items) ∙ length-map slots (λ slot. slot.0)

-- a key is among the keys exactly if it has a slot
pub list_any-keys_in : (slots : List Slot) (q : List ℕ) → list_any (bytes_eq q) (keys_in slots) ≡ is_some (lookup (is_key q) slots)
list_any-keys_in [] q = refl
list_any-keys_in (slot ∷ slots) q = by (is_key q slot.0) (list_any-keys_in slots q)
  where
    by : (b : Bool) → list_any (bytes_eq q) (keys_in slots) ≡ is_some (lookup (is_key q) slots) → (b || list_any (bytes_eq q) (keys_in slots)) ≡ is_some (cond b (Some slot.1) (lookup (is_key q) slots))
    by true rest = refl
    by false rest = rest

-- the keys of the slots with one more
pub keys_in-push : (slots : List Slot) (slot : Slot) → keys_in (slots ++ slot ∷ []) ≡ keys_in slots ++ slot.0.items ∷ []
keys_in-push slots slot =
    ap (map (λ key. key.items)) (map-append (λ s. s.0) slots (slot ∷ []))
    ∙ map-append (λ key. key.items) (keys_of slots) (slot.0 ∷ [])

-- a new key goes last
pub keys_in-insert_entry : {S : Type 0} (slots : HashMap (Vec ℕ) (Option (List ℕ)) S) (key : Vec ℕ) (value : Option (List ℕ)) → lookup (same_key key) slots.entries ≡ None → keys_in (insert_entry same_key slots.entries key value) ≡ keys_in slots.entries ++ key.items ∷ []
keys_in-insert_entry slots key value none =
    ap keys_in (insert_entry-new same_key slots key value none) ∙ keys_in-push slots.entries (key, value)

-- its index is the number of slots before
pub slice_get-last : (xs : List (List ℕ)) (x : List ℕ) → slice_get (xs ++ x ∷ []) (length xs) ≡ Some x
slice_get-last [] x = refl
slice_get-last (y ∷ ys) x = slice_get-last ys x

pub insert_index-new : (slots : List Slot) (key : Vec ℕ) → lookup (same_key key) slots ≡ None → position_or_len (same_key key) (keys_of slots) ≡ length (keys_in slots)
insert_index-new slots key none =
    or_len-absent (same_key key) slots (absent_from_lookup (same_key key) slots none)
    ∙ sym (length-keys_in slots)

-- the slot at the index of a key has the key
pub record HasKey (slots : List Slot) (index : ℕ) (key : List ℕ) : Type 0 where
  pub slot : Slot
  pub here : slice_get slots index ≡ Some slot
  pub same : slot.0.items ≡ key

pub HasKey-position : (slots : List Slot) (index : ℕ) (key : List ℕ) → position (is_key key) (keys_of slots) ≡ Some index → HasKey slots index key
HasKey-position [] index key p = absurd (none-some index p)
HasKey-position (slot ∷ slots) index key p =
    let at = position-Some (is_key key) (keys_of (slot ∷ slots)) index slot.0 p in
    let within : index < length (slot ∷ slots) = omega (arith, at.0, length-map (slot ∷ slots) (λ s. s.0)) in
    let found = get_or (slot ∷ slots) index slot in
    record {
      slot = found;
      here = slice_get-get_or (slot ∷ slots) index slot within;
      same = sym ((bytes_decides key found.0.items).0 (ap (is_key key) (sym (get_or-map (λ s. s.0) (slot ∷ slots) index slot slot.0 within)) ∙ at.1));
    }

-- so it has where the keys have the key at the index
pub HasKey-keys_in : (slots : List Slot) (index : ℕ) (key : List ℕ) → slice_get (keys_in slots) index ≡ Some key → HasKey slots index key
HasKey-keys_in [] index key here = absurd (none-some key here)
HasKey-keys_in (slot ∷ slots) zero key here = record { slot = slot; here = refl; same = cc }
HasKey-keys_in (slot ∷ slots) (suc index) key here =
    let at = HasKey-keys_in slots index key here in
    record { slot = at.slot; here = at.here; same = at.same }

-- a key at an index is among the keys
pub list_any-at : (keys : List (List ℕ)) (index : ℕ) (key : List ℕ) → slice_get keys index ≡ Some key → list_any (bytes_eq key) keys ≡ true
list_any-at keys index key here =
    list_any_at (bytes_eq key) keys index [] (slice_get_within keys index key here) (ap (bytes_eq key) (get_or_from_slice_get keys index key [] here) ∙ nat_list_eq_equiv.refl key)

-- a write to a slot leaves the keys
pub keys_in-set_value_at : {S : Type 0} (slots : HashMap (Vec ℕ) (Option (List ℕ)) S) (index : ℕ) (value : Option (List ℕ)) → keys_in (set_value_at slots.entries index value) ≡ keys_in slots.entries
keys_in-set_value_at slots index value = ap (map (λ key. key.items)) (keys-with_value_at slots index value)

pub slice_get-keys_in : (slots : List Slot) (index : ℕ) (key : List ℕ) → HasKey slots index key → slice_get (keys_in slots) index ≡ Some key
slice_get-keys_in slots index key at =
    slice_get-map (λ k. k.items) (keys_of slots) index
    ∙ ap (option_map (λ k. k.items)) (slice_get-map (λ s. s.0) slots index)
    ∙ ap (λ o. option_map (λ k. k.items) (option_map (λ s. s.0) o)) at.here
    ∙ ap Some at.same

-- a slot as an entry of a changelog
pub change_of-slot : (slots : List Slot) (index : ℕ) (slot : Slot) → IsDistinct same_key (keys_of slots) → slice_get slots index ≡ Some slot → change_of (values_in slots) (key_at slots index) ≡ record { store = 0; key = slot.0.items; value = slot.1 }
change_of-slot slots index slot distinct here =
    let at : HasKey slots index slot.0.items = record { slot = slot; here = here; same = refl } in
    let key : key_at slots index ≡ slot.0.items = get_or_from_slice_get (keys_in slots) index slot.0.items [] (slice_get-keys_in slots index slot.0.items at) in
    let value : get (values_in slots) slot.0.items ≡ slot.1 =
    get-values_in slots slot.0.items ∙ ap value_found (lookup_from_place same_key_equiv slots index slot.0 slot.1 distinct here) in
    ap (change_of (values_in slots)) key ∙ (λ i. record { store = 0; key = slot.0.items; value = value i })

-- keys that are apart have other bytes
IsDistinct-items : (keys : List (Vec ℕ)) → IsDistinct same_key keys → IsDistinct bytes_eq (map (λ key. key.items) keys)
IsDistinct-items [] distinct = IsDistinct-from_apart bytes_eq [] (λ i j d below within. absurd (omega arith))
IsDistinct-items (key ∷ keys) distinct =
    IsDistinct-cons bytes_eq key.items (map (λ k. k.items) keys) (apart keys (IsDistinct-head same_key key keys distinct)) (IsDistinct-items keys (IsDistinct-tail same_key key keys distinct))
  where
    apart : (ks : List (Vec ℕ)) → AllByRecursion (λ k. same_key key k ≡ false) ks → AllByRecursion (λ k. bytes_eq key.items k ≡ false) (map (λ k. k.items) ks)
    apart [] all = all
    apart (k ∷ ks) all = (all.0, apart ks all.1)

module _ (slots : List Slot) (distinct : IsDistinct same_key (keys_of slots)) where
  keys_apart : (i j : ℕ) → i < j → j < length slots → bytes_eq (key_at slots i) (key_at slots j) ≡ false
  keys_apart i j below within =
      apart_from_distinct bytes_eq (keys_in slots) i j [] (IsDistinct-items (keys_of slots) distinct) below (omega (arith, length-keys_in slots))

  -- indexes have the same key if they are the same
  keys_agree : (i j : ℕ) → i < length slots → j < length slots → bytes_eq (key_at slots i) (key_at slots j) ≡ nat_eq i j
  keys_agree i j at at' =
      elim (cases_lt i j) [
        | inl below ↦ keys_apart i j below at' ∙ sym (ne_eqb i j (λ e. omega arith))
        | inr above ↦ elim (cases_lt j i) [
          | inl below ↦ (nat_list_eq_equiv).symm (key_at slots i) (key_at slots j) ∙ keys_apart j i below at ∙ sym (ne_eqb i j (λ e. omega arith))
          | inr here ↦
              let same : i ≡ j = omega arith in
              ap (λ k. bytes_eq (key_at slots i) (key_at slots k)) (sym same) ∙ (nat_list_eq_equiv).refl (key_at slots i) ∙ sym (eq-eqb i j same)
        ]
      ]

  -- the changes of a store by the indexes of its writes
  pub changes_of-content_of : (writes : List ℕ) → AreIndexes slots writes → map (λ index. change_of (values_in slots) (key_at slots index)) (last_of_each nat_eq writes) ≡ changes_of (content_of slots writes)
  changes_of-content_of writes all =
      sym (map-map (change_of (values_in slots)) (key_at slots) (last_of_each nat_eq writes))
      ∙ ap (map (change_of (values_in slots))) (map-last_of_each nat_eq (λ i. i < length slots) (key_at slots) bytes_eq keys_agree writes all)

-- the keys of the writes, with one more write
pub map-key_at-push : (old new : List Slot) (key : List ℕ) (writes : List ℕ) (index : ℕ) → keys_in new ≡ insert_key bytes_eq (keys_in old) key → slice_get (keys_in new) index ≡ Some key → AreIndexes old writes → map (key_at new) (writes ++ index ∷ []) ≡ map (key_at old) writes ++ key ∷ []
map-key_at-push old new key writes index keys here all =
    map-append (key_at new) writes (index ∷ [])
    ∙ ap₂ (λ ks k. ks ++ k ∷ []) (same writes all) (get_or_from_slice_get (keys_in new) index key [] here)
  where
    kept : (b : Bool) (i : ℕ) → i < length old → get_or (if b then keys_in old else keys_in old ++ key ∷ []) i [] ≡ key_at old i
    kept true i within = refl
    kept false i within = get_or_append_left (keys_in old) (key ∷ []) [] i (omega (arith, length-keys_in old))

    same : (is : List ℕ) → AreIndexes old is → map (key_at new) is ≡ map (key_at old) is
    same [] none = refl
    same (i ∷ is) some =
        ap₂ (λ k ks. k ∷ ks) (ap (λ ks. get_or ks i []) keys ∙ kept (list_any (bytes_eq key) (keys_in old)) i (All-head (λ k. k < length old) i is some)) (same is (All-tail (λ k. k < length old) i is some))
