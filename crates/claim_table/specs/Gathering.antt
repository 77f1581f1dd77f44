-- One view that stands for several claims.
use Rattle.std.specs.Prelude.{◌≡◌, ℕ, ◌<◌, ◌≤◌, List, length}
use Rattle.claim_table.specs.declared.plays.View.{View}
use Rattle.claim_table.specs.declared.table.Claim.{Claim}
use Rattle.claim_table.specs.Sums.{weigh, total, Has}
use Rattle.claim_table.specs.Claims.{drawn_by}

-- it has drawn what they drew, returned each item below n that it drew, and drew a number that isn't below n
pub record Gathers {T P : Type 0} (n : ℕ) (claims : List (Claim T P)) (v : View P) : Type 0 where
  pub parts : v.parts ≡ length claims
  pub drawn : (h : ℕ → ℕ) → weigh h v.drawn ≡ total (λ c. weigh h (drawn_by c)) claims
  pub back : (i : ℕ) → Has v.drawn i → i < n → Has v.returned i
  pub past : (m : ℕ) × Has v.drawn m × (n ≤ m)
