-- The rule of a round. Word 0 counts the draws, word 1 the numbers, and slot i holds item i or nothing.
use Rattle.std.specs.Prelude.{◌≡◌, ℕ, ◌+◌, ◌-◌, ◌^◌, ◌<◌, ◌≤◌, ◌⊎◌, List, [], ◌∷◌, ◌++◌, length, Option, Some, None, slice_index}
use mathlib.Core.Option.{some}
use mathlib.Core.Option as maybe
use lib.ListN.{get_elem?}
use Rattle.atomic_table.specs.Table.{State}
use Rattle.claim_table.specs.declared.plays.View.{View}
use Rattle.claim_table.specs.Sums.{weigh, below, total, past, Has}

-- the items of the pairs, and their numbers
abbrev pub firsts : List (ℕ × ℕ) → List ℕ
firsts [] = []
firsts (p ∷ ps) = p.0 ∷ firsts ps

abbrev pub seconds : List (ℕ × ℕ) → List ℕ
seconds [] = []
seconds (p ∷ ps) = p.1 ∷ seconds ps

-- the pairs give the item i the number k
abbrev pub Says : List (ℕ × ℕ) → ℕ → ℕ → Type 0
Says [] i k = ⊥
Says (p ∷ ps) i k = ((i ≡ p.0) × (k ≡ p.1)) ⊎ Says ps i k

module _ {P : Type 0} where
  -- the first view stands for all claims
  abbrev pub opened : P → ℕ → View P
  opened plan claims = record { plan = Some plan; parts = claims; drawn = []; returned = []; numbered = [] }

  -- one claim is split off a view with empty lists
  abbrev pub parent : View P → View P
  parent v = record { plan = v.plan; parts = v.parts - 1; drawn = v.drawn; returned = v.returned; numbered = v.numbered }

  abbrev pub child : View P → View P
  child v = record { plan = v.plan; parts = 1; drawn = []; returned = []; numbered = [] }

  -- one view takes over everything of another
  abbrev pub both : View P → View P → View P
  both v w = record { plan = v.plan; parts = v.parts + w.parts; drawn = v.drawn ++ w.drawn; returned = v.returned ++ w.returned; numbered = v.numbered ++ w.numbered }

  abbrev pub spent : View P
  spent = record { plan = None; parts = 0; drawn = []; returned = []; numbered = [] }

  abbrev pub with_drawn : View P → ℕ → View P
  with_drawn v m = record { plan = v.plan; parts = v.parts; drawn = m ∷ v.drawn; returned = v.returned; numbered = v.numbered }

  abbrev pub with_number : View P → ℕ → ℕ → View P
  with_number v i k = record { plan = v.plan; parts = v.parts; drawn = v.drawn; returned = v.returned; numbered = (i, k) ∷ v.numbered }

  abbrev pub with_returned : View P → ℕ → View P
  with_returned v i = record { plan = v.plan; parts = v.parts; drawn = v.drawn; returned = i ∷ v.returned; numbered = v.numbered }

-- item i is at home, with this value
abbrev pub AtHome : {T : Type 0} → List (maybe.Option (Option T)) → ℕ → T → Type 0
AtHome homes i x = get_elem? homes i ≡ some (some (Some x))

-- what holds of one view: its numbers are for items that it drew, one each; it passed the end at most once for each
-- claim that it stands for; what it returned is at home, done, and keeps its number; it keeps the plan, unless it is
-- consumed
pub record Standing {T P : Type 0} (done : P → ℕ → T → Type 0) (number : T → ℕ) (plan : P) (claims : ℕ) (homes : List (maybe.Option (Option T))) (v : View P) : Type 0 where
  pub numbered : (h : ℕ → ℕ) → weigh h (firsts v.numbered) ≤ weigh h v.drawn
  pub inner : weigh (past (length homes)) (firsts v.numbered) ≡ 0
  pub over : weigh (past (length homes)) v.drawn ≤ v.parts
  pub home : (i : ℕ) → Has v.returned i → Has v.drawn i × ((x : T) × AtHome homes i x × done plan i x × Says v.numbered i (number x))
  pub planned : 0 < v.parts → v.plan ≡ Some plan
  pub empty : v.parts ≡ 0 → (v.drawn ≡ []) × (v.returned ≡ []) × (v.numbered ≡ [])

-- what holds of the table: the draws are the numbers below word 0, each once, and the numbers of items are those below
-- word 1, each once; an item that nobody drew is at home and fresh
pub record Kept {T P : Type 0} (fresh done : P → ℕ → T → Type 0) (number : T → ℕ) (plan : P) (claims : ℕ) (s : State (Option T) (View P)) : Type 0 where
  pub wide : length s.words ≡ 2
  pub small : length s.homes + claims + 1 < 2 ^ 64
  pub drawn : (h : ℕ → ℕ) → total (λ v. weigh h v.drawn) s.views ≡ below h (slice_index s.words 0)
  pub numbers : (h : ℕ → ℕ) → total (λ v. weigh h (seconds v.numbered)) s.views ≡ below h (slice_index s.words 1)
  pub parted : total (λ v. v.parts) s.views ≡ claims
  pub waits : (i : ℕ) → slice_index s.words 0 ≤ i → i < length s.homes → (x : T) × AtHome s.homes i x × fresh plan i x
  pub each : (k : ℕ) (v : View P) → get_elem? s.views k ≡ some v → Standing done number plan claims s.homes v
