-- What each step records, from the seat before it, the number found and the seat after it.
use Rattle.std.specs.Prelude.{◌≡◌, ℕ, ◌<◌, ◌≤◌, List, [], ◌∷◌, Option, Some}
use Rattle.atomic_table.specs.Table.{Me, Step, rest}
use Rattle.claim_table.specs.declared.plays.View.{View}
use Rattle.claim_table.specs.Sums.{AllBelow}
use Rattle.claim_table.specs.Rule.{with_drawn, with_number, with_returned}

-- the slot that the seat lists first
abbrev pub front : {S : Type 0} → List (ℕ × S) → ℕ
front [] = 0
front (x ∷ xs) = x.0

module _ {T P : Type 0} where
  -- a number above all earlier ones, and with it the item of that number, if any
  abbrev pub Drew : (P → ℕ → T → Type 0) → Step (Option T) → Me (Option T) (View P) → ℕ → Me (Option T) (View P) → Type 0
  Drew fresh st m found m' = (m'.0 ≡ with_drawn m.0 found) × AllBelow m.0.drawn found × (st.slots ≤ found → m'.1 ≡ m.1)
      × (found < st.slots → (x : T) × (m'.1 ≡ (found, Some x) ∷ m.1) × ((plan : P) → m.0.plan ≡ Some plan → fresh plan found x))

  -- a number for the item that the seat lists first
  abbrev pub Numbered : Step (Option T) → Me (Option T) (View P) → ℕ → Me (Option T) (View P) → Type 0
  Numbered st m found m' = (m'.0 ≡ with_number m.0 (front m.1) found) × (m'.1 ≡ m.1) × (found < st.slots)

  -- the item that the seat lists first is back
  abbrev pub WentHome : Step (Option T) → Me (Option T) (View P) → ℕ → Me (Option T) (View P) → Type 0
  WentHome st m found m' = (m'.0 ≡ with_returned m.0 (front m.1)) × (m'.1 ≡ rest m.1)
