-- A draw keeps the rule.
use Rattle.std.proofs.Common.{◌≡◌, ◌≢◌, ℕ, suc, ◌+◌, ◌%◌, ◌^◌, ◌<◌, ◌≤◌, List, length, get_or, set, sym, refl, ap, ◌∙◌, subst, inr, arith, length-set, get_or-set_other, get_or-set_same}
use mathlib.Core.Option.{some, none}
use mathlib.Core.Option as maybe
use native.Mathlib.Decide.{dec_lt, dec_le}
use Rattle.std.proofs.Math.Nat.{mod-eq_of_lt}
use lib.ListN.{get_elem?}
use Rattle.std.specs.Prelude.{Option, Some}
use Rattle.atomic_table.specs.Table.{State, Me, step, keeps, takes, Allows}
use Rattle.atomic_table.proofs.Lists.{set_else}
use Rattle.claim_table.specs.declared.plays.View.{View}
use Rattle.claim_table.specs.Sums.{weigh, below, past, AllBelow}
use Rattle.claim_table.specs.Rule.{firsts, seconds, with_drawn}
use Rattle.claim_table.specs.Steps.{Drew}
use Rattle.claim_table.proofs.Sums.{past_in, past_out}
use Rattle.claim_table.proofs.Totals.{total_set}
use Rattle.claim_table.proofs.Stands.{some_is, Stands, Keeps, moves, all_set, drawn_below, draws_bound}

module _ {T P : Type 0} (fresh done : P → ℕ → T → Type 0) (number : T → ℕ) (plan : P) (claims : ℕ) where
  abbrev St : Type 0
  St = State (Option T) (View P)

  abbrev K : St → Type 0
  K = Keeps fresh done number plan claims

  drawn_keeps : (s : St) (kept : K s) (id m : ℕ) (v : View P) (homes' : List (maybe.Option (Option T))) → get_elem? s.views id ≡ some v → m ≡ get_or s.words 0 0 → length homes' ≡ length s.homes
      → ((j : ℕ) → j ≢ m → get_elem? homes' j ≡ get_elem? s.homes j) → 0 < v.parts → weigh (past (length s.homes)) v.drawn ≡ 0
      → K record { words = set s.words 0 (suc m); homes = homes'; views = set s.views id (with_drawn v m) }
  drawn_keeps s kept id m v homes' at is long stay part low =
      let n : ℕ = length s.homes in let w : View P = with_drawn v m in let mine = kept.each id v at in
      let w0 : get_or (set s.words 0 (suc m)) 0 0 ≡ suc m = get_or-set_same s.words 0 (suc m) 0 (omega (arith, kept.wide)) in
      let w1 : get_or (set s.words 0 (suc m)) 1 0 ≡ get_or s.words 1 0 = get_or-set_other s.words 0 1 (suc m) 0 (λ e. omega arith) in record {
        wide = length-set s.words 0 (suc m) ∙ kept.wide;
        small = subst (λ (x : ℕ). x + claims + 1 < 2 ^ 64) (sym long) kept.small;
        drawn = λ h. rw w0 (let d = kept.drawn h in let e : below h (get_or s.words 0 0) ≡ below h m = ap (below h) (sym is) in
            let t = total_set (λ (u : View P). weigh h u.drawn) s.views id v w at in omega arith);
        numbers = λ h. rw w1 (let d = kept.numbers h in let t = total_set (λ (u : View P). weigh h (seconds u.numbered)) s.views id v w at in omega arith);
        parted = (let d = kept.parted in let t = total_set (λ (u : View P). u.parts) s.views id v w at in omega arith);
        waits = λ i from to. (let from' : suc m ≤ i = subst (λ (x : ℕ). x ≤ i) w0 from in let to' : i < n = subst (λ (x : ℕ). i < x) long to in let r = kept.waits i (omega arith) to' in (r.0, stay i (λ e. omega arith) ∙ r.1, r.2));
        each = all_set fresh done number plan claims (Stands fresh done number plan claims homes') s.views id w
            record {
              numbered = λ h. (let a = mine.numbered h in omega arith);
              inner = subst (λ (x : ℕ). weigh (past x) (firsts v.numbered) ≡ 0) (sym long) mine.inner;
              over = subst (λ (x : ℕ). past x m + weigh (past x) v.drawn ≤ v.parts) (sym long) (elim (dec_le n m) [ yes h ↦ (let p = past_in n m h in omega arith) | no h ↦ (let p = past_out n m (omega arith) in omega arith) ]);
              home = λ i a. (let r = mine.home i a in let b = drawn_below fresh done number plan claims s kept id v i at r.0 in (inr r.0, (r.1.0, stay i (λ e. omega arith) ∙ r.1.1, r.1.2, r.1.3)));
              planned = mine.planned;
              empty = λ e. absurd (omega arith);
            }
            (λ j u ne e. moves fresh done number plan claims s.homes homes' u long (λ i a. let b = drawn_below fresh done number plan claims s kept j u i e (((kept.each j u e).home i a).0) in stay i (λ z. omega arith)) (kept.each j u e));
      }

  -- a claim that hasn't passed the end may draw
  pub draws : (slots id : ℕ) (me : Me (Option T) (View P)) → 0 < me.0.parts → me.0.plan ≡ Some plan → weigh (past slots) me.0.drawn ≡ 0
      → Allows K slots id me 0 (λ n. (n + 1) % 2 ^ 64) (Drew fresh (step slots 0 1 0 none) me)
  draws slots id me part planned low s kept wide at fits =
      let n : ℕ = length s.homes in let m : ℕ = get_or s.words 0 0 in let v : View P = me.0 in let w : View P = with_drawn v m in let homes : List (maybe.Option (Option T)) = s.homes in
      let low' : weigh (past n) v.drawn ≡ 0 = subst (λ (x : ℕ). weigh (past x) v.drawn ≡ 0) (sym wide) low in
      let bound : m ≤ n + claims = draws_bound fresh done number plan claims s kept in let small : n + claims + 1 < 2 ^ 64 = kept.small in let room : m + 1 < 2 ^ 64 = omega arith in
      let next : (m + 1) % 2 ^ 64 ≡ suc m = mod-eq_of_lt room ∙ (let e : m + 1 ≡ suc m = omega arith in e) in
      let rises : AllBelow v.drawn m = λ i a. drawn_below fresh done number plan claims s kept id v i at a in
      elim (dec_lt m n) [
        | yes h ↦ (let r = kept.waits m (let g : m ≤ m = omega arith in g) h in let x : T = r.0 in let homes' : List (maybe.Option (Option T)) = set homes m none in (
          w,
          takes m (Some x),
          r.1,
          subst (λ (y : ℕ). K record { words = set s.words 0 y; homes = homes'; views = set s.views id w }) (sym next)
              (drawn_keeps s kept id m v homes' at refl (length-set homes m none) (λ j ne. set_else homes m j none ne) part low'),
          (refl, rises, (λ above. absurd (omega arith)), λ _. (x, refl, λ plan' is. subst (λ (p : P). fresh p m x) (some_is plan plan' (sym planned ∙ is)) r.2)),
        ))
        | no h ↦ (
          w,
          keeps,
          tt,
          subst (λ (y : ℕ). K record { words = set s.words 0 y; homes = homes; views = set s.views id w }) (sym next) (drawn_keeps s kept id m v homes at refl refl (λ j ne. refl) part low'),
          (refl, rises, (λ _. refl), λ lower. absurd (omega arith)),
        )
      ]
