-- One view stands for more and more claims, and the slots' values come out one by one.
use Rattle.std.proofs.Common.{◌≡◌, ℕ, zero, suc, ◌≤◌, List, [], ◌∷◌, ◌++◌, map, take, All, sym, refl, ap, ◌∙◌, inl, ⊎_elim, arith}
use mathlib.Core.Option.{some, some-injective, some-ne-none}
use lib.ListN.{get_elem?}
use Rattle.std.specs.Prelude.{Option, Some, None}
use Rattle.claim_table.specs.declared.plays.View.{View}
use Rattle.claim_table.specs.declared.table.Round.{Round}
use Rattle.claim_table.specs.declared.table.Claim.{Claim}
use Rattle.claim_table.specs.Sums.{Has}
use Rattle.claim_table.specs.Rule.{both}
use Rattle.claim_table.specs.Held.{Holds}
use Rattle.claim_table.specs.Claims.{EndsPast, IsClaimOf, HasGivenBack, HasEnded, count_of, drawn_by}
use Rattle.claim_table.specs.Gathering.{Gathers}
use Rattle.claim_table.proofs.Sums.{weigh-append, has_left, has_right}
use Rattle.claim_table.proofs.Parting.{has_either}

last_past : (ms : List ℕ) (n : ℕ) → EndsPast ms n → (m : ℕ) × Has ms m × (n ≤ m)
last_past [] n e = absurd e
last_past (m ∷ ms) n e = (m, inl refl, e)

no_slot : {S : Type 0} (l : List (ℕ × S)) → ((i : ℕ) (s : S) → ¬ Holds l i s) → l ≡ []
no_slot [] n = refl
no_slot (x ∷ xs) n = absurd (n x.0 x.1 (inl (refl, refl)))

-- what holds of each holds of the one between
pub all_between : {A : Type 0} (Q : A → Type 0) (xs ys : List A) (x : A) → All Q (xs ++ x ∷ ys) → Q x
all_between Q [] ys x h = h 0 x (omega arith)
all_between Q (z ∷ xs) ys x h = all_between Q xs ys x (λ k d low. h (suc k) d (omega arith))

module _ {T P : Type 0} (fresh : P → ℕ → T → Type 0) (r : Round T P) (c : Claim T P) (own : IsClaimOf fresh r c) (back : HasGivenBack r c) (ended : HasEnded r c) where
  -- a claim that has given all back holds no slot
  pub empty_hand : c.seat.me.1 ≡ []
  empty_hand = no_slot c.seat.me.1 (λ i s h. let o = own.1.owes i s h in o.2 (back i o.1 o.0))

  pub first_gathers : Gathers (count_of r) (c ∷ []) c.seat.me.0
  first_gathers = record {
    parts = own.1.part;
    drawn = λ h. omega arith;
    back = back;
    past = last_past (drawn_by c) (count_of r) ended;
  }

  pub more_gathers : (claims : List (Claim T P)) (v : View P) → Gathers (count_of r) claims v → Gathers (count_of r) (c ∷ claims) (both v c.seat.me.0)
  more_gathers claims v g = record {
    parts = (let a = g.parts in let b = own.1.part in omega arith);
    drawn = λ h. (let a = g.drawn h in let b = weigh-append h v.drawn (drawn_by c) in omega arith);
    back = λ i has low. ⊎_elim (λ (a : Has v.drawn i). has_left v.returned c.seat.me.0.returned i (g.back i a low)) (λ (a : Has (drawn_by c) i). has_right v.returned c.seat.me.0.returned i (back i a low))
        (has_either v.drawn (drawn_by c) i has);
    past = (g.past.0, has_left v.drawn (drawn_by c) g.past.0 g.past.1, g.past.2);
  }

-- a slot of a list where each value is present has one
pub is_there : {T : Type 0} (ys : List T) (i : ℕ) (o : Option T) → get_elem? (map Some ys) i ≡ some o → o ≡ None → ⊥
is_there [] i o e n = some-ne-none o (sym e)
is_there (y ∷ ys) zero o e n = let a : Some y ≡ o = some-injective (Some y) o e in cc
is_there (y ∷ ys) (suc i) o e n = is_there ys i o e n

one_more : {A : Type 0} (l : List A) (i : ℕ) (x : A) → get_elem? l i ≡ some x → take (suc i) l ≡ take i l ++ x ∷ []
one_more [] i x e = absurd (some-ne-none x (sym e))
one_more (y ∷ ys) zero x e = λ k. some-injective y x e k ∷ []
one_more (y ∷ ys) (suc i) x e = λ k. y ∷ one_more ys i x e k

map_snoc : {A B : Type 0} (f : A → B) (l : List A) (x : A) → map f (l ++ x ∷ []) ≡ map f l ++ f x ∷ []
map_snoc f [] x = refl
map_snoc f (y ∷ ys) x = λ k. f y ∷ map_snoc f ys x k

-- the value of the next slot joins those before
pub takes_one : {T : Type 0} (ys : List T) (slots : List (Option T)) (i : ℕ) (x : T) → map Some ys ≡ take i slots → get_elem? slots i ≡ some (Some x) → map Some (ys ++ x ∷ []) ≡ take (suc i) slots
takes_one ys slots i x so e = map_snoc Some ys x ∙ ap (λ (l : List (Option _)). l ++ Some x ∷ []) so ∙ sym (one_more slots i (Some x) e)
