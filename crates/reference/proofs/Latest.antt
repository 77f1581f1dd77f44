-- The latest entry of a side with a key, found from the end.
use Rattle.std.proofs.Common.{◌≡◌, ◌∙◌, refl, ℕ, Bool, true, false, List, [], ◌∷◌, map, Some, None}
use Rattle.std.specs.Prelude.{◌==◌, ◌&&◌, if◌then◌else◌, Option, option_map, find}
use Rattle.std.specs.List.{last_or}
use mathlib.Core.List.{reverse, reverse_aux}
use Rattle.ksql_types.specs.declared.value.Value.{Value}
use Rattle.ksql_nodes.specs.Entries.{Entry, is_same_key, of_key, of_side}
use Rattle.reference.specs.Steps.{entry_of}
use Rattle.reference.specs.declared.entries.EntryRef.{EntryRef}

-- whether an entry is of a side and a key
abbrev pub is_on : ℕ → List Value → EntryRef → Bool
is_on side key e = e.side == side && is_same_key e.change.now.key key

latest_onto : (side : ℕ) (key : List Value) (xs ys : List EntryRef) →
    option_map entry_of (find (is_on side key) (reverse_aux xs ys))
    ≡ last_or (option_map entry_of (find (is_on side key) ys)) (of_side side (of_key key (map entry_of xs)))
latest_onto side key [] ys = refl
latest_onto side key (x ∷ xs) ys = latest_onto side key xs (x ∷ ys) ∙ by_key (is_same_key x.change.now.key key)
  where
    keyed : List Entry
    keyed = of_key key (map entry_of xs)

    earlier : Option EntryRef
    earlier = find (is_on side key) ys

    of_same : (on : Bool) → last_or (option_map entry_of (if on && true then Some x else earlier)) (of_side side keyed)
        ≡ last_or (option_map entry_of earlier) (if on then entry_of x ∷ of_side side keyed else of_side side keyed)
    of_same true = refl
    of_same false = refl

    of_other : (on : Bool) → last_or (option_map entry_of (if on && false then Some x else earlier)) (of_side side keyed)
        ≡ last_or (option_map entry_of earlier) (of_side side keyed)
    of_other true = refl
    of_other false = refl

    by_key : (same : Bool) → last_or (option_map entry_of (if x.side == side && same then Some x else earlier)) (of_side side keyed)
        ≡ last_or (option_map entry_of earlier) (of_side side (if same then entry_of x ∷ keyed else keyed))
    by_key true = of_same (x.side == side)
    by_key false = of_other (x.side == side)

-- the first one from the end is the last one
pub latest_found : (side : ℕ) (key : List Value) (xs : List EntryRef) →
    option_map entry_of (find (is_on side key) (reverse xs)) ≡ last_or None (of_side side (of_key key (map entry_of xs)))
latest_found side key xs = latest_onto side key xs []
