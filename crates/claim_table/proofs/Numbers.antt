-- A number for an item keeps the rule.
use Rattle.std.proofs.Common.{◌≡◌, ℕ, suc, ◌+◌, ◌%◌, ◌^◌, ◌<◌, ◌≤◌, List, length, get_or, set, sym, refl, ap, ◌∙◌, subst, inr, arith, length-set, get_or-set_other, get_or-set_same}
use mathlib.Core.Option.{some, none}
use Rattle.std.proofs.Math.Nat.{mod-eq_of_lt}
use lib.ListN.{get_elem?}
use Rattle.std.specs.Prelude.{Option}
use Rattle.atomic_table.specs.Table.{State, Me, step, keeps, Allows}
use Rattle.claim_table.specs.declared.plays.View.{View}
use Rattle.claim_table.specs.Sums.{weigh, below, total, past, Has}
use Rattle.claim_table.specs.Rule.{firsts, seconds, with_number}
use Rattle.claim_table.specs.Steps.{Numbered, front}
use Rattle.claim_table.proofs.Sums.{inside, except, except_none, except_has, past_out, below_inside, weigh_inside_past, as_many, below_one}
use Rattle.claim_table.proofs.Totals.{total_le, total_set}
use Rattle.claim_table.proofs.Stands.{Stands, Keeps, all_set}

module _ {T P : Type 0} (fresh done : P → ℕ → T → Type 0) (number : T → ℕ) (plan : P) (claims : ℕ) where
  abbrev K : State (Option T) (View P) → Type 0
  K = Keeps fresh done number plan claims

  -- one more item among those that were drawn and have no number
  one_more : (h : ℕ → ℕ) (xs ys : List ℕ) (i : ℕ) → ((g : ℕ → ℕ) → weigh g xs ≤ weigh g ys) → Has ys i → ¬ Has xs i → h i + weigh h xs ≤ weigh h ys
  one_more h xs ys i le has free = let a = le (except i h) in let b = except_none i h xs free in let c = except_has i h ys has in omega arith

  standing : (s : State (Option T) (View P)) (id i k : ℕ) (v : View P) → Stands fresh done number plan claims s.homes v → Has v.drawn i → i < length s.homes → ¬ Has (firsts v.numbered) i → 0 < v.parts
      → Stands fresh done number plan claims s.homes (with_number v i k)
  standing s id i k v mine has low free part = record {
    numbered = λ h. one_more h (firsts v.numbered) v.drawn i mine.numbered has free;
    inner = (let a = mine.inner in let p = past_out (length s.homes) i low in omega arith);
    over = mine.over;
    home = λ j a. (let r = mine.home j a in (r.0, (r.1.0, r.1.1, r.1.2, inr r.1.3)));
    planned = mine.planned;
    empty = λ e. absurd (omega arith);
  }

  -- the count of numbers drawn is the count of items that have one
  counted : (n : ℕ) (v : View P) (homes : _) → length homes ≡ n → Stands fresh done number plan claims homes v → weigh (λ _. 1) (seconds v.numbered) ≤ weigh (inside n) v.drawn
  counted n v homes long s = let a = as_many v.numbered in let b = weigh_inside_past n (firsts v.numbered) in let c : weigh (past n) (firsts v.numbered) ≡ 0 = subst (λ (x : ℕ). weigh (past x) (firsts v.numbered) ≡ 0) long s.inner in
      let d = s.numbered (inside n) in omega arith

  bounded : (s : State (Option T) (View P)) (kept : K s) (id : ℕ) (v w : View P) → get_elem? s.views id ≡ some v → w.drawn ≡ v.drawn → weigh (λ _. 1) (seconds w.numbered) ≡ 1 + weigh (λ _. 1) (seconds v.numbered)
      → Stands fresh done number plan claims s.homes w → get_or s.words 1 0 < length s.homes
  bounded s kept id v w at same more mine = let n : ℕ = length s.homes in let views : List (View P) = set s.views id w in
      let one = λ (u : View P). weigh (λ _. 1) (seconds u.numbered) in let in' = λ (u : View P). weigh (inside n) u.drawn in
      let a : total one views ≤ total in' views = total_le one in' views (all_set fresh done number plan claims (λ (u : View P). weigh (λ _. 1) (seconds u.numbered) ≤ weigh (inside n) u.drawn) s.views id w
      (counted n w s.homes refl mine) (λ j u ne e. counted n u s.homes refl (kept.each j u e))) in
      let b = total_set one s.views id v w at in let c = total_set in' s.views id v w at in let d = kept.numbers (λ _. 1) in let e = kept.drawn (inside n) in let f = below_one (get_or s.words 1 0) in let g = (below_inside n (get_or s.words 0 0)).1 in
      let q : weigh (inside n) w.drawn ≡ weigh (inside n) v.drawn = ap (weigh (inside n)) same in omega arith

  numbered_keeps : (s : State (Option T) (View P)) (kept : K s) (id i k : ℕ) (v : View P) → get_elem? s.views id ≡ some v → k ≡ get_or s.words 1 0 → Stands fresh done number plan claims s.homes (with_number v i k)
      → K record { words = set s.words 1 (suc k); homes = s.homes; views = set s.views id (with_number v i k) }
  numbered_keeps s kept id i k v at is mine =
      let w : View P = with_number v i k in
      let w0 : get_or (set s.words 1 (suc k)) 0 0 ≡ get_or s.words 0 0 = get_or-set_other s.words 1 0 (suc k) 0 (λ e. omega arith) in
      let w1 : get_or (set s.words 1 (suc k)) 1 0 ≡ suc k = get_or-set_same s.words 1 (suc k) 0 (omega (arith, kept.wide)) in record {
        wide = length-set s.words 1 (suc k) ∙ kept.wide;
        small = kept.small;
        drawn = λ h. rw w0 (let d = kept.drawn h in let t = total_set (λ (u : View P). weigh h u.drawn) s.views id v w at in omega arith);
        numbers = λ h. rw w1 (let d = kept.numbers h in let e : below h (get_or s.words 1 0) ≡ below h k = ap (below h) (sym is) in
            let t = total_set (λ (u : View P). weigh h (seconds u.numbered)) s.views id v w at in omega arith);
        parted = (let d = kept.parted in let t = total_set (λ (u : View P). u.parts) s.views id v w at in omega arith);
        waits = λ i' from to. kept.waits i' (subst (λ (x : ℕ). x ≤ i') w0 from) to;
        each = all_set fresh done number plan claims (Stands fresh done number plan claims s.homes) s.views id w mine (λ j u ne e. kept.each j u e);
      }

  -- a claim may number an item that it drew, once
  pub numbers : (slots id : ℕ) (me : Me (Option T) (View P)) → 0 < me.0.parts → Has me.0.drawn (front me.1) → front me.1 < slots → ¬ Has (firsts me.0.numbered) (front me.1)
      → Allows K slots id me 1 (λ n. (n + 1) % 2 ^ 64) (Numbered (step slots 1 1 0 none) me)
  numbers slots id me part has low free s kept wide at fits =
      let k : ℕ = get_or s.words 1 0 in let i : ℕ = front me.1 in let v : View P = me.0 in let w : View P = with_number v i k in
      let mine = standing s id i k v (kept.each id v at) has (subst (λ (x : ℕ). i < x) (sym wide) low) free part in
      let room : k < length s.homes = bounded s kept id v w at refl refl mine in let small = kept.small in let fits' : k + 1 < 2 ^ 64 = omega arith in
      let next : (k + 1) % 2 ^ 64 ≡ suc k = mod-eq_of_lt fits' ∙ (let e : k + 1 ≡ suc k = omega arith in e) in (
        w,
        keeps,
        tt,
        subst (λ (y : ℕ). K record { words = set s.words 1 y; homes = s.homes; views = set s.views id w }) (sym next) (numbered_keeps s kept id i k v at refl mine),
        (refl, refl, subst (λ (x : ℕ). k < x) wide room),
      )
