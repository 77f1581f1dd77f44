-- An item that comes back done keeps the rule.
use Rattle.std.proofs.Common.{◌≡◌, ◌≢◌, ℕ, ◌+◌, ◌^◌, ◌<◌, ◌≤◌, List, ◌∷◌, length, set, sym, refl, ap, ◌∙◌, subst, ⊎_elim, arith, length-set}
use mathlib.Core.Option.{some, none}
use mathlib.Core.Option as maybe
use mathlib.Core.Logic.{dite}
use native.Mathlib.Decide.{ℕ_discrete}
use Rattle.std.proofs.lemmas.List.{set-get_or}
use lib.ListN.{get_elem?}
use Rattle.std.specs.Prelude.{Option, Some}
use Rattle.atomic_table.specs.Table.{State, Me, step, gives, rest, put_back, Allows}
use Rattle.atomic_table.proofs.Lists.{set_here, set_else}
use Rattle.claim_table.specs.declared.plays.View.{View}
use Rattle.claim_table.specs.Sums.{weigh, past, Has}
use Rattle.claim_table.specs.Rule.{firsts, seconds, Says, AtHome, with_returned}
use Rattle.claim_table.specs.Steps.{WentHome, front}
use Rattle.claim_table.proofs.Totals.{total_set}
use Rattle.claim_table.proofs.Stands.{Stands, Keeps, all_set, moves, drawn_below, returned_else}

module _ {T P : Type 0} (fresh done : P → ℕ → T → Type 0) (number : T → ℕ) (plan : P) (claims : ℕ) where
  abbrev K : State (Option T) (View P) → Type 0
  K = Keeps fresh done number plan claims

  returned_keeps : (s : State (Option T) (View P)) (kept : K s) (id i : ℕ) (v : View P) (x : T) → get_elem? s.views id ≡ some v → i < length s.homes → Has v.drawn i → done plan i x → Says v.numbered i (number x) → 0 < v.parts
      → K record { words = s.words; homes = set s.homes i (some (Some x)); views = set s.views id (with_returned v i) }
  returned_keeps s kept id i v x at low has well says part =
      let w : View P = with_returned v i in let homes' : List (maybe.Option (Option T)) = set s.homes i (some (Some x)) in let long : length homes' ≡ length s.homes = length-set s.homes i (some (Some x)) in
      let here : AtHome homes' i x = set_here s.homes i (some (Some x)) low in let stay : (j : ℕ) → j ≢ i → get_elem? homes' j ≡ get_elem? s.homes j = λ j ne. set_else s.homes i j (some (Some x)) ne in
      let mine = kept.each id v at in record {
        wide = kept.wide;
        small = subst (λ (y : ℕ). y + claims + 1 < 2 ^ 64) (sym long) kept.small;
        drawn = λ h. (let d = kept.drawn h in let t = total_set (λ (u : View P). weigh h u.drawn) s.views id v w at in omega arith);
        numbers = λ h. (let d = kept.numbers h in let t = total_set (λ (u : View P). weigh h (seconds u.numbered)) s.views id v w at in omega arith);
        parted = (let d = kept.parted in let t = total_set (λ (u : View P). u.parts) s.views id v w at in omega arith);
        waits = λ j from to. (let r = kept.waits j from (subst (λ (y : ℕ). j < y) long to) in let b = drawn_below fresh done number plan claims s kept id v i at has in (r.0, stay j (λ e. omega arith) ∙ r.1, r.2));
        each = all_set fresh done number plan claims (Stands fresh done number plan claims homes') s.views id w
            record {
              numbered = mine.numbered;
              inner = subst (λ (y : ℕ). weigh (past y) (firsts v.numbered) ≡ 0) (sym long) mine.inner;
              over = subst (λ (y : ℕ). weigh (past y) v.drawn ≤ v.parts) (sym long) mine.over;
              home = λ j a. dite (ℕ_discrete i j)
                  (λ e. subst (λ (y : ℕ). Has v.drawn y × ((z : T) × AtHome homes' y z × done plan y z × Says v.numbered y (number z))) e (has, (x, here, well, says)))
                  (λ ne. ⊎_elim (λ (e : j ≡ i). absurd (ne (sym e))) (λ (b : Has v.returned j). let r = mine.home j b in (r.0, (r.1.0, stay j (λ e. ne (sym e)) ∙ r.1.1, r.1.2, r.1.3))) a);
              planned = mine.planned;
              empty = λ e. absurd (omega arith);
            }
            (λ j u ne e. moves fresh done number plan claims s.homes homes' u long (λ r a. stay r (returned_else fresh done number plan claims s kept id j v u i r (λ z. ne (sym z)) at e has a)) (kept.each j u e));
      }

  -- a claim may give back an item that it drew and numbered, with a value that is done and keeps the number
  pub returns : (slots id i : ℕ) (x : T) (me : Me (Option T) (View P)) → 0 < me.0.parts → me.1 ≡ (i, Some x) ∷ rest me.1 → i < slots → Has me.0.drawn i → done plan i x → Says me.0.numbered i (number x)
      → Allows K slots id me 1 (λ n. n) (WentHome (step slots 1 0 0 none) me)
  returns slots id i x me part is low has well says s kept wide at fits = let v : View P = me.0 in let w : View P = with_returned v i in let f : front me.1 ≡ i = ap front is in (
    with_returned v (front me.1),
    gives,
    tt,
    subst (λ (y : ℕ × List ℕ × List (maybe.Option (Option T))). K record { words = y.1; homes = y.2; views = set s.views id (with_returned v y.0) })
        (λ k. (sym f k, sym (set-get_or s.words 1 0) k, ap (put_back s.homes) (sym is) k)) (returned_keeps s kept id i v x at (subst (λ (y : ℕ). i < y) (sym wide) low) has well says part),
    (refl, refl),
  )
