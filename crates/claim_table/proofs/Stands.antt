-- What a step leaves of what holds of each view.
use Rattle.std.proofs.Common.{◌≡◌, ◌≢◌, ℕ, ◌+◌, ◌<◌, ◌≤◌, List, length, get_or, set, sym, ◌∙◌, subst, ⊎_elim, arith}
use mathlib.Core.Option.{some, none}
use mathlib.Core.Option as maybe
use native.Mathlib.Decide.{dec_lt}
use lib.ListN.{get_elem?}
use Rattle.std.specs.Prelude.{Option, Some}
use Rattle.atomic_table.specs.Table.{State}
use Rattle.atomic_table.proofs.Lists.{at_set}
use Rattle.claim_table.specs.declared.plays.View.{View}
use Rattle.claim_table.specs.Sums.{weigh, total, same, past, Has}
use Rattle.claim_table.specs.Rule.{firsts, Standing, Kept}
use Rattle.claim_table.proofs.Sums.{has_weight, same_at, below_same_out, below_same_in, below_past}
use Rattle.claim_table.proofs.Totals.{total_at, total_two, total_le}

pub some_is : {A : Type 0} (a b : A) → Some a ≡ Some b → a ≡ b
some_is a b e = cc

module _ {T P : Type 0} (fresh done : P → ℕ → T → Type 0) (number : T → ℕ) (plan : P) (claims : ℕ) where
  abbrev pub Homes : Type 0
  Homes = List (maybe.Option (Option T))

  abbrev pub Stands : Homes → View P → Type 0
  Stands = Standing done number plan claims

  abbrev pub Keeps : State (Option T) (View P) → Type 0
  Keeps = Kept fresh done number plan claims

  -- a view still holds if the homes of what it returned are the same
  pub moves : (homes homes' : Homes) (v : View P) → length homes' ≡ length homes → ((i : ℕ) → Has v.returned i → get_elem? homes' i ≡ get_elem? homes i) → Stands homes v → Stands homes' v
  moves homes homes' v long stay s = record {
    numbered = s.numbered;
    inner = subst (λ (n : ℕ). weigh (past n) (firsts v.numbered) ≡ 0) (sym long) s.inner;
    over = subst (λ (n : ℕ). weigh (past n) v.drawn ≤ v.parts) (sym long) s.over;
    home = λ i a. let r = s.home i a in (r.0, (r.1.0, stay i a ∙ r.1.1, r.1.2, r.1.3));
    planned = s.planned;
    empty = s.empty;
  }

  -- each view still holds after one has changed
  pub all_set : (F : View P → Type 0) (views : List (View P)) (id : ℕ) (w : View P) → F w → ((j : ℕ) (u : View P) → j ≢ id → get_elem? views j ≡ some u → F u)
      → (j : ℕ) (u : View P) → get_elem? (set views id w) j ≡ some u → F u
  all_set F views id w mine others j u e = ⊎_elim (λ (x : (j ≡ id) × (w ≡ u)). subst F x.1 mine) (λ (x : (j ≢ id) × (get_elem? views j ≡ some u)). others j u x.0 x.1) (at_set views id j w u e)

  module _ (s : State (Option T) (View P)) (kept : Keeps s) where
    -- what a view drew is below word 0
    pub drawn_below : (k : ℕ) (v : View P) (i : ℕ) → get_elem? s.views k ≡ some v → Has v.drawn i → i < get_or s.words 0 0
    drawn_below k v i at has = let n : ℕ = get_or s.words 0 0 in let a = has_weight (same i) v.drawn i has in let b = same_at i in
        let c : weigh (same i) v.drawn ≤ total (λ (u : View P). weigh (same i) u.drawn) s.views = total_at (λ (u : View P). weigh (same i) u.drawn) s.views k v at in let d = kept.drawn (same i) in
        elim (dec_lt i n) [ yes h ↦ h | no h ↦ (let z = below_same_out i n (omega arith) in absurd (omega arith)) ]

    -- no two views drew the same
    pub drawn_apart : (j k : ℕ) (v w : View P) (i : ℕ) → j ≢ k → get_elem? s.views j ≡ some v → get_elem? s.views k ≡ some w → Has v.drawn i → Has w.drawn i → ⊥
    drawn_apart j k v w i apart at at' has has' = let n : ℕ = get_or s.words 0 0 in let low = drawn_below j v i at has in let a = has_weight (same i) v.drawn i has in let a' = has_weight (same i) w.drawn i has' in let b = same_at i in
        let c : weigh (same i) v.drawn + weigh (same i) w.drawn ≤ total (λ (u : View P). weigh (same i) u.drawn) s.views = total_two (λ (u : View P). weigh (same i) u.drawn) s.views j k v w apart at at' in
        let d = kept.drawn (same i) in let z = below_same_in i n low in omega arith

    -- word 0 is at most the items and the claims
    pub draws_bound : get_or s.words 0 0 ≤ length s.homes + claims
    draws_bound = let n : ℕ = length s.homes in let a = below_past n (get_or s.words 0 0) in let d = kept.drawn (past n) in let p = kept.parted in
        let c : total (λ (u : View P). weigh (past n) u.drawn) s.views ≤ total (λ (u : View P). u.parts) s.views = total_le (λ (u : View P). weigh (past n) u.drawn) (λ (u : View P). u.parts) s.views (λ k v at. (kept.each k v at).over) in omega arith

    -- what another view returned isn't what this one drew
    pub returned_else : (j k : ℕ) (v w : View P) (i r : ℕ) → j ≢ k → get_elem? s.views j ≡ some v → get_elem? s.views k ≡ some w → Has v.drawn i → Has w.returned r → r ≢ i
    returned_else j k v w i r apart at at' has back e = drawn_apart j k v w i apart at at' has (subst (Has w.drawn) e ((kept.each k w at').home r back).0)
