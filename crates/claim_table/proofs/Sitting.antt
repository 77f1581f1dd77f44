-- What a claim's seat knows after each step.
use Rattle.std.proofs.Common.{◌≡◌, ℕ, ◌<◌, Bool, false, List, [], ◌∷◌, sym, refl, subst, inl, inr, ⊎_elim, arith}
use Rattle.std.specs.Prelude.{Option, Some, None}
use mathlib.Core.Option.{none}
use Rattle.atomic_table.specs.Table.{Me, step, rest}
use Rattle.claim_table.specs.declared.plays.View.{View}
use Rattle.claim_table.specs.Sums.{weigh, past, Has, AllBelow}
use Rattle.claim_table.specs.Rule.{firsts, with_drawn, with_number, with_returned}
use Rattle.claim_table.specs.Steps.{Drew}
use Rattle.claim_table.specs.Held.{Holds, Once, brought}
use Rattle.claim_table.specs.Claims.{EndsPast, left_below, Sits}
use Rattle.claim_table.proofs.Sums.{past_in, past_out}
use Rattle.claim_table.proofs.Holding.{brought_from, brought_once}

pub ends_weigh : (ms : List ℕ) (n : ℕ) → EndsPast ms n → weigh (past n) ms ≡ 0 → ⊥
ends_weigh [] n e z = e
ends_weigh (m ∷ ms) n e z = let p = past_in n m e in omega arith

module _ {T P : Type 0} (fresh : P → ℕ → T → Type 0) (plan : P) (n : ℕ) where
  abbrev Seat : Type 0
  Seat = Me (Option T) (View P)

  -- a claim that continues drew an item
  pub sits_drawn : (me me' : Seat) (m : ℕ) → Sits fresh plan n false me → Drew fresh (step n 0 1 0 none) me m me' → m < n → Sits fresh plan n false me'
  sits_drawn me me' m s d low = let got = d.3 low in let x : T = got.0 in let w : View P = with_drawn me.0 m in
      subst (Sits fresh plan n false) (let e : (w, (m, Some x) ∷ me.1) ≡ me' = λ k. (sym d.0 k, sym got.1 k) in e) record {
        planned = s.planned;
        part = s.part;
        going = λ _. (let a = s.going refl in let p = past_out n m low in omega arith);
        ended = λ e. absurd (cc);
        good = λ i y h. ⊎_elim (λ (e : (i ≡ m) × (Some y ≡ Some x)). (let same : y ≡ x = cc e.1 in subst (λ (z : ℕ × T). fresh plan z.0 z.1) (λ k. (sym e.0 k, sym same k)) (got.2 plan s.planned))) (λ (b : Holds me.1 i (Some y)). s.good i y b) h;
        owes = λ i t h. ⊎_elim
            (λ (e : (i ≡ m) × (t ≡ Some x)). (subst (λ (j : ℕ). j < n) (sym e.0) low, inl e.0, λ a. (let b = s.back i a in let q = d.1 i b in let z : i ≡ m = e.0 in omega arith)))
            (λ (b : Holds me.1 i t). let r = s.owes i t b in (r.0, inr r.1, r.2)) h;
        once = ((λ t h. (let r = s.owes m t h in let q = d.1 m r.1 in omega arith)), s.once);
        back = λ i a. inr (s.back i a);
        named = λ i a. inr (s.named i a);
      }

  -- where a slot has come to the front
  pub sits_brought : (over : Bool) (me : Seat) (k : ℕ) → Sits fresh plan n over me → Sits fresh plan n over (me.0, brought k me.1)
  sits_brought over me k s = record {
    planned = s.planned;
    part = s.part;
    going = s.going;
    ended = s.ended;
    good = λ i x h. s.good i x (brought_from k me.1 i (Some x) h);
    owes = λ i t h. s.owes i t (brought_from k me.1 i t h);
    once = brought_once k me.1 s.once;
    back = s.back;
    named = s.named;
  }

  -- where the value of the first slot was taken
  pub sits_taken : (over : Bool) (me : Seat) (i : ℕ) (t : Option T) → Sits fresh plan n over me → me.1 ≡ (i, t) ∷ rest me.1 → Sits fresh plan n over (me.0, (i, None) ∷ rest me.1)
  sits_taken over me i t s is = let cs = rest me.1 in let f = λ (j : ℕ) (u : Option T) (h : Holds ((i, t) ∷ cs) j u). subst (λ (l : List (ℕ × Option T)). Holds l j u) (sym is) h in
      let o : Once ((i, t) ∷ cs) = subst Once is s.once in record {
        planned = s.planned;
        part = s.part;
        going = s.going;
        ended = s.ended;
        good = λ j x h. ⊎_elim (λ (e : (j ≡ i) × (Some x ≡ None)). absurd (cc e.1)) (λ (b : Holds cs j (Some x)). s.good j x (f j (Some x) (inr b))) h;
        owes = λ j u h. ⊎_elim (λ (e : (j ≡ i) × (u ≡ None)). s.owes j t (f j t (inl (e.0, refl)))) (λ (b : Holds cs j u). s.owes j u (f j u (inr b))) h;
        once = o;
        back = s.back;
        named = s.named;
      }

  -- where an item has a number
  pub sits_numbered : (over : Bool) (me : Seat) (i k : ℕ) → Has me.0.drawn i → Sits fresh plan n over me → Sits fresh plan n over (with_number me.0 i k, me.1)
  sits_numbered over me i k has s = record {
    planned = s.planned;
    part = s.part;
    going = s.going;
    ended = s.ended;
    good = s.good;
    owes = s.owes;
    once = s.once;
    back = s.back;
    named = λ j a. ⊎_elim (λ (e : j ≡ i). subst (Has me.0.drawn) (sym e) has) (λ (b : Has (firsts me.0.numbered) j). s.named j b) a;
  }

  -- where the first slot went home
  pub sits_returned : (over : Bool) (me : Seat) (i : ℕ) (t : Option T) → Sits fresh plan n over me → me.1 ≡ (i, t) ∷ rest me.1 → Sits fresh plan n over (with_returned me.0 i, rest me.1)
  sits_returned over me i t s is = let cs = rest me.1 in let f = λ (j : ℕ) (u : Option T) (h : Holds ((i, t) ∷ cs) j u). subst (λ (l : List (ℕ × Option T)). Holds l j u) (sym is) h in
      let o : Once ((i, t) ∷ cs) = subst Once is s.once in let mine = s.owes i t (f i t (inl (refl, refl))) in record {
        planned = s.planned;
        part = s.part;
        going = s.going;
        ended = s.ended;
        good = λ j x h. s.good j x (f j (Some x) (inr h));
        owes = λ j u h. (let r = s.owes j u (f j u (inr h)) in
            (r.0, r.1, λ a. ⊎_elim (λ (e : j ≡ i). o.0 u (subst (λ (k : ℕ). Holds cs k u) e h)) (λ (b : Has me.0.returned j). r.2 b) a));
        once = o.1;
        back = λ j a. ⊎_elim (λ (e : j ≡ i). subst (Has me.0.drawn) (sym e) mine.1) (λ (b : Has me.0.returned j). s.back j b) a;
        named = s.named;
      }

-- each draw of an item leaves fewer
pub fewer : (n m : ℕ) (ms : List ℕ) → AllBelow ms m → m < n → left_below n (m ∷ ms) < left_below n ms
fewer n m [] above low = omega arith
fewer n m (k ∷ ms) above low = let a = above k (inl refl) in omega arith
