-- A round and its claims, as callers see them.
use Rattle.std.specs.Prelude.{◌≡◌, ◌≢◌, ℕ, suc, ◌-◌, ◌<◌, ◌≤◌, ◌↔◌, Bool, true, false, List, [], ◌∷◌, Option, Some, None}
use Rattle.atomic_table.specs.Table.{Me}
use Rattle.claim_table.specs.declared.plays.View.{View}
use Rattle.claim_table.specs.declared.table.Round.{Round}
use Rattle.claim_table.specs.declared.table.Claim.{Claim}
use Rattle.claim_table.specs.Sums.{weigh, past, Has}
use Rattle.claim_table.specs.Rule.{firsts}
use Rattle.claim_table.specs.Held.{Holds, Once}

-- the number drawn last isn't below n
abbrev pub EndsPast : List ℕ → ℕ → Type 0
EndsPast [] n = ⊥
EndsPast (m ∷ ms) n = n ≤ m

-- the count of numbers below n that are above the one drawn last
abbrev pub left_below : ℕ → List ℕ → ℕ
left_below n [] = n
left_below n (m ∷ ms) = n - suc m

-- what a claim's seat knows: the plan; that it stands for one claim; whether it drew a number that isn't below n; that
-- the value of an item it hasn't taken is fresh; that it drew and hasn't returned what it holds, each slot once; that
-- it drew what it returned and numbered
pub record Sits {T P : Type 0} (fresh : P → ℕ → T → Type 0) (plan : P) (n : ℕ) (over : Bool) (me : Me (Option T) (View P)) : Type 0 where
  pub planned : me.0.plan ≡ Some plan
  pub part : me.0.parts ≡ 1
  pub going : over ≡ false → weigh (past n) me.0.drawn ≡ 0
  pub ended : over ≡ true → EndsPast me.0.drawn n
  pub good : (i : ℕ) (x : T) → Holds me.1 i (Some x) → fresh plan i x
  pub owes : (i : ℕ) (s : Option T) → Holds me.1 i s → (i < n) × Has me.0.drawn i × ¬ Has me.0.returned i
  pub once : Once me.1
  pub back : (i : ℕ) → Has me.0.returned i → Has me.0.drawn i
  pub named : (i : ℕ) → Has (firsts me.0.numbered) i → Has me.0.drawn i

module _ {T P : Type 0} where
  -- how many items the round has
  abbrev pub count_of : Round T P → ℕ
  count_of r = r.table.shared.table_id.slots

  -- how many claims the round has
  abbrev pub claims_of : Round T P → ℕ
  claims_of r = r.table.shared.key.claims

  -- the plan of the round, which its items belong to
  abbrev pub plan_of : Round T P → P
  plan_of r = r.table.shared.key.plan.value

  -- the numbers that the claim drew, last one first
  abbrev pub drawn_by : Claim T P → List ℕ
  drawn_by c = c.seat.me.0.drawn

  -- the items that the claim gave back
  abbrev pub returned_by : Claim T P → List ℕ
  returned_by c = c.seat.me.0.returned

  -- the items that have a number by this claim, each with its number
  abbrev pub numbers_of : Claim T P → List (ℕ × ℕ)
  numbers_of c = c.seat.me.0.numbered

  -- the claim drew the item and has not taken its value
  abbrev pub IsWaiting : Claim T P → ℕ → Type 0
  IsWaiting c i = (x : T) × Holds c.seat.me.1 i (Some x)

  -- the claim took the value of the item and has not given it back
  abbrev pub IsTaken : Claim T P → ℕ → Type 0
  IsTaken c i = Holds c.seat.me.1 i None

  -- the claim drew the item and has not given it back
  abbrev pub IsOwed : Claim T P → ℕ → Type 0
  IsOwed c i = (s : Option T) × Holds c.seat.me.1 i s

  -- the claim has drawn no number for the item
  abbrev pub HasNoNumber : Claim T P → ℕ → Type 0
  HasNoNumber c i = ¬ Has (firsts (numbers_of c)) i

  -- how many items the claim can still draw, at most
  abbrev pub items_left : Round T P → Claim T P → ℕ
  items_left r c = left_below (count_of r) (drawn_by c)

  -- each item has the same state with d as with c
  abbrev pub SameItems : Claim T P → Claim T P → Type 0
  SameItems c d = (i : ℕ) (s : Option T) → Holds c.seat.me.1 i s ↔ Holds d.seat.me.1 i s

  -- each item except k has the same state with d as with c
  abbrev pub SameBut : ℕ → Claim T P → Claim T P → Type 0
  SameBut k c d = (i : ℕ) (s : Option T) → i ≢ k → Holds c.seat.me.1 i s ↔ Holds d.seat.me.1 i s

  -- the claim is one of this round
  abbrev pub IsClaimOf : (P → ℕ → T → Type 0) → Round T P → Claim T P → Type 0
  IsClaimOf fresh r c = (c.seat.table_id ≡ r.table.shared.table_id) × Sits fresh (plan_of r) (count_of r) c.over c.seat.me

  -- the number that the claim drew last isn't below the number of items
  abbrev pub HasEnded : Round T P → Claim T P → Type 0
  HasEnded r c = EndsPast (drawn_by c) (count_of r)

  -- the claim gave back every item that it drew
  abbrev pub HasGivenBack : Round T P → Claim T P → Type 0
  HasGivenBack r c = (i : ℕ) → Has (drawn_by c) i → i < count_of r → Has (returned_by c) i

  -- the claim has done nothing yet
  abbrev pub IsNew : Claim T P → Type 0
  IsNew c = (drawn_by c ≡ []) × (returned_by c ≡ []) × (numbers_of c ≡ []) × ((i : ℕ) → ¬ IsOwed c i)
