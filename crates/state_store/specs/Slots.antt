-- The meaning of a store's table of slots.
use Rattle.std.specs.Prelude.{ℕ, ◌<◌, List, [], ◌∷◌, map, length, slice_index_or, All, Option}
use Rattle.std.specs.FinMap as finite
use Rattle.std.specs.Global.{Vec}
use Rattle.std.specs.Map.{keys_of}
use Rattle.state_store.specs.Store.{Values, Content, with_value}

-- a key, and its value unless it is deleted
abbrev pub Slot : Type 0
Slot = Vec ℕ × Option (List ℕ)

-- the keys, in the order of their indexes
abbrev pub keys_in : List Slot → List (List ℕ)
keys_in slots = map (λ key. key.items) (keys_of slots)

-- the value of each key, which has one slot
abbrev pub values_in : List Slot → Values
values_in [] = finite.empty
values_in (slot ∷ slots) = with_value (values_in slots) slot.0.items slot.1

-- the key at an index
abbrev pub key_at : List Slot → ℕ → List ℕ
key_at slots index = slice_index_or (keys_in slots) index []

-- the content with these slots, where the slots with these indexes were written
abbrev pub content_of : List Slot → List ℕ → Content
content_of slots writes = record { map = values_in slots; written = map (key_at slots) writes }

-- each index is that of a slot
abbrev pub AreIndexes : List Slot → List ℕ → Type 0
AreIndexes slots = All (λ index. index < length slots)
