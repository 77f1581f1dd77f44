-- A claim that is cut off, and claims that are put together, keep the rule.
use Rattle.std.proofs.Common.{◌≡◌, ℕ, ◌+◌, ◌<◌, ◌⊎◌, List, [], ◌∷◌, ◌++◌, length, set, sym, refl, ap, ◌∙◌, subst, inl, inr, ⊎_elim, arith}
use mathlib.Core.Option.{some}
use lib.ListN.{get_elem?}
use Rattle.std.specs.Prelude.{Option, Some}
use Rattle.atomic_table.specs.Table.{State, Splits, Joins}
use Rattle.atomic_table.proofs.Lists.{at_snoc, set_else}
use Rattle.claim_table.specs.declared.plays.View.{View}
use Rattle.claim_table.specs.Sums.{weigh, total, past, Has}
use Rattle.claim_table.specs.Rule.{firsts, seconds, Says, parent, child, both, spent}
use Rattle.claim_table.proofs.Sums.{weigh-append, firsts-append, seconds-append, has_left, has_right}
use Rattle.claim_table.proofs.Totals.{total_set, total_snoc}
use Rattle.claim_table.proofs.Stands.{Stands, Keeps, all_set}

pub has_either : (xs ys : List ℕ) (i : ℕ) → Has (xs ++ ys) i → Has xs i ⊎ Has ys i
has_either [] ys i a = inr a
has_either (x ∷ xs) ys i a = ⊎_elim (λ (e : i ≡ x). inl (inl e)) (λ (b : Has (xs ++ ys) i). ⊎_elim (λ (c : Has xs i). inl (inr c)) (λ (c : Has ys i). inr c) (has_either xs ys i b)) a

says_left : (ps qs : List (ℕ × ℕ)) (i k : ℕ) → Says ps i k → Says (ps ++ qs) i k
says_left [] qs i k a = elim a [ ]
says_left (p ∷ ps) qs i k a = ⊎_elim (λ (e : (i ≡ p.0) × (k ≡ p.1)). inl e) (λ (b : Says ps i k). inr (says_left ps qs i k b)) a

says_right : (ps qs : List (ℕ × ℕ)) (i k : ℕ) → Says qs i k → Says (ps ++ qs) i k
says_right [] qs i k a = a
says_right (p ∷ ps) qs i k a = inr (says_right ps qs i k a)

module _ {T P : Type 0} (fresh done : P → ℕ → T → Type 0) (number : T → ℕ) (plan : P) (claims : ℕ) where
  abbrev K : State (Option T) (View P) → Type 0
  K = Keeps fresh done number plan claims

  -- a view with empty lists, which stands for some claims
  pub bare : (homes : _) (v : View P) → v.drawn ≡ [] → v.returned ≡ [] → v.numbered ≡ [] → (0 < v.parts → v.plan ≡ Some plan) → Stands fresh done number plan claims homes v
  bare homes v no_draw no_return no_number planned = record {
    numbered = λ h. (let a : weigh h (firsts v.numbered) ≡ 0 = ap (λ (l : List (ℕ × ℕ)). weigh h (firsts l)) no_number in omega arith);
    inner = ap (λ (l : List (ℕ × ℕ)). weigh (past (length homes)) (firsts l)) no_number;
    over = (let a : weigh (past (length homes)) v.drawn ≡ 0 = ap (weigh (past (length homes))) no_draw in omega arith);
    home = λ i a. (let b : Has [] i = subst (λ (l : List ℕ). Has l i) no_return a in elim b [ ]);
    planned = planned;
    empty = λ _. (no_draw, no_return, no_number);
  }

  -- a view with empty lists that stands for two claims or more may give one away
  pub splits : (id : ℕ) (v : View P) → 1 < v.parts → v.drawn ≡ [] → v.returned ≡ [] → v.numbered ≡ [] → Splits K id v (parent v) (child v)
  splits id v two no_draw no_return no_number s kept at = let l : View P = parent v in let r : View P = child v in let vs : List (View P) = set s.views id l in let mine = (kept.each id v at).planned (omega arith) in
      let sum : (f : View P → ℕ) → total f (vs ++ r ∷ []) + f v ≡ total f s.views + f l + f r = λ f. (let a = total_set f s.views id v l at in let b = total_snoc f vs r in omega arith) in record {
        wide = kept.wide;
        small = kept.small;
        drawn = λ h. (let d = kept.drawn h in let t = sum (λ (u : View P). weigh h u.drawn) in omega arith);
        numbers = λ h. (let d = kept.numbers h in let t = sum (λ (u : View P). weigh h (seconds u.numbered)) in omega arith);
        parted = (let d = kept.parted in let t = sum (λ (u : View P). u.parts) in omega arith);
        waits = kept.waits;
        each = λ j u e. ⊎_elim
            (λ (a : get_elem? vs j ≡ some u). all_set fresh done number plan claims (Stands fresh done number plan claims s.homes) s.views id l (bare s.homes l no_draw no_return no_number (λ _. mine)) (λ k z ne b. kept.each k z b) j u a)
            (λ (q : r ≡ u). subst (Stands fresh done number plan claims s.homes) q (bare s.homes r refl refl refl (λ _. mine))) (at_snoc vs r u j e);
      }

  together : (homes : _) (v w : View P) → 0 < v.parts → Stands fresh done number plan claims homes v → Stands fresh done number plan claims homes w → Stands fresh done number plan claims homes (both v w)
  together homes v w part a b = let n : ℕ = length homes in record {
    numbered = λ h. (let p = a.numbered h in let q = b.numbered h in let d = weigh-append h v.drawn w.drawn in
        let e = ap (weigh h) (firsts-append v.numbered w.numbered) ∙ weigh-append h (firsts v.numbered) (firsts w.numbered) in omega arith);
    inner = ap (weigh (past n)) (firsts-append v.numbered w.numbered) ∙ weigh-append (past n) (firsts v.numbered) (firsts w.numbered) ∙ (let p = a.inner in let q = b.inner in omega arith);
    over = (let p = a.over in let q = b.over in let d = weigh-append (past n) v.drawn w.drawn in omega arith);
    home = λ i has. ⊎_elim
        (λ (c : Has v.returned i). let r = a.home i c in (has_left v.drawn w.drawn i r.0, (r.1.0, r.1.1, r.1.2, says_left v.numbered w.numbered i (number r.1.0) r.1.3)))
        (λ (c : Has w.returned i). let r = b.home i c in (has_right v.drawn w.drawn i r.0, (r.1.0, r.1.1, r.1.2, says_right v.numbered w.numbered i (number r.1.0) r.1.3)))
        (has_either v.returned w.returned i has);
    planned = λ _. a.planned part;
    empty = λ e. absurd (omega arith);
  }

  -- a view that stands for some claim may take over another
  pub joins : (id other : ℕ) (v w : View P) → 0 < v.parts → Joins K id v other w (both v w) spent
  joins id other v w part s kept at apart at' = let b : View P = both v w in let e : View P = spent in let vs : List (View P) = set s.views id b in let there = sym (set_else s.views id other b apart) ∙ at' in
      let sum : (f : View P → ℕ) → total f (set vs other e) + f w + f v ≡ total f s.views + f b + f e = λ f. (let x = total_set f s.views id v b at in let y = total_set f vs other w e at' in omega arith) in record {
        wide = kept.wide;
        small = kept.small;
        drawn = λ h. (let d = kept.drawn h in let t = sum (λ (u : View P). weigh h u.drawn) in let q = weigh-append h v.drawn w.drawn in omega arith);
        numbers = λ h. (let d = kept.numbers h in let t = sum (λ (u : View P). weigh h (seconds u.numbered)) in
            let q = ap (weigh h) (seconds-append v.numbered w.numbered) ∙ weigh-append h (seconds v.numbered) (seconds w.numbered) in omega arith);
        parted = (let d = kept.parted in let t = sum (λ (u : View P). u.parts) in omega arith);
        waits = kept.waits;
        each = all_set fresh done number plan claims (Stands fresh done number plan claims s.homes) vs other e (bare s.homes e refl refl refl (λ z. absurd (omega arith)))
            (λ j u ne q. all_set fresh done number plan claims (Stands fresh done number plan claims s.homes) s.views id b (together s.homes v w part (kept.each id v at) (kept.each other w there)) (λ k z no y. kept.each k z y) j u q);
      }
