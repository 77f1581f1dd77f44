-- What the table holds once one view stands for all claims, each item is back, and each claim passed the end.
use Rattle.std.proofs.Common.{◌≡◌, ◌≢◌, ℕ, zero, suc, ◌<◌, ◌≤◌, List, [], ◌∷◌, map, length, get_or, sym, refl, ap, ◌∙◌, subst, inl, inr, ⊎_elim, arith}
use Rattle.std.proofs.lemmas.List.{length-map}
use mathlib.Core.Option.{some, some-injective}
use native.Mathlib.Decide.{dec_le}
use lib.ListN.{get_elem?}
use Rattle.std.specs.Prelude.{Option, Some, slice_get}
use Rattle.atomic_table.specs.Table.{State, Final, Seen}
use Rattle.claim_table.specs.declared.plays.View.{View}
use Rattle.claim_table.specs.Sums.{weigh, below, total, same, past, Has}
use Rattle.claim_table.specs.declared.table.Claim.{Claim}
use Rattle.claim_table.specs.Rule.{firsts, seconds, Says}
use Rattle.claim_table.specs.Claims.{drawn_by}
use Rattle.claim_table.specs.Gathering.{Gathers}
use Rattle.claim_table.proofs.Sums.{has_weight, has_of_weight, same_at, below_same_in, below_one, past_in, weigh_places, covers, cut, weigh_cut, below_cut}
use Rattle.claim_table.proofs.Totals.{total_two, total_alone}
use Rattle.claim_table.proofs.Stands.{some_is, Keeps, drawn_below}

says_has : (ps : List (ℕ × ℕ)) (i k : ℕ) → Says ps i k → Has (firsts ps) i
says_has [] i k h = elim h [ ]
says_has (p ∷ ps) i k h = ⊎_elim (λ (e : (i ≡ p.0) × (k ≡ p.1)). inl e.0) (λ (b : Says ps i k). inr (says_has ps i k b)) h

twice : (p : ℕ × ℕ) (ps : List (ℕ × ℕ)) (i k : ℕ) → weigh (same i) (firsts (p ∷ ps)) ≤ 1 → i ≡ p.0 → Says ps i k → ⊥
twice p ps i k one e d = let a = has_weight (same i) (firsts ps) i (says_has ps i k d) in let b = same_at i in let f : same i p.0 ≡ same i i = ap (same i) (sym e) in omega arith

-- an item that occurs once has one number
says_one : (ps : List (ℕ × ℕ)) (i k l : ℕ) → weigh (same i) (firsts ps) ≤ 1 → Says ps i k → Says ps i l → k ≡ l
says_one [] i k l one a b = elim a [ ]
says_one (p ∷ ps) i k l one a b = ⊎_elim
    (λ (e : (i ≡ p.0) × (k ≡ p.1)). ⊎_elim (λ (f : (i ≡ p.0) × (l ≡ p.1)). e.1 ∙ sym f.1) (λ (d : Says ps i l). absurd (twice p ps i l one e.0 d)) b)
    (λ (d : Says ps i k). ⊎_elim (λ (f : (i ≡ p.0) × (l ≡ p.1)). absurd (twice p ps i k one f.0 d)) (λ (d' : Says ps i l). says_one ps i k l (omega arith) d d') b) a

-- the weights of the numbers, by the items that have them
weigh_pairs : (h num : ℕ → ℕ) (ps : List (ℕ × ℕ)) → ((i k : ℕ) → Says ps i k → k ≡ num i) → weigh h (seconds ps) ≡ weigh (λ i. h (num i)) (firsts ps)
weigh_pairs h num [] is = refl
weigh_pairs h num (p ∷ ps) is = let r = weigh_pairs h num ps (λ i k d. is i k (inr d)) in let e : h p.1 ≡ h (num p.0) = ap h (is p.0 p.1 (inl (refl, refl))) in omega arith

place : {T : Type 0} (f : T → ℕ) (ys : List T) (i : ℕ) → i < length ys → (x : T) × (slice_get ys i ≡ Some x) × (get_or (map f ys) i 0 ≡ f x)
place f [] i h = absurd (omega arith)
place f (y ∷ ys) zero h = (y, refl, refl)
place f (y ∷ ys) (suc i) h = place f ys i (omega arith)

at_each : {T : Type 0} (G : ℕ → T → Type 0) (y : T) (ys : List T) → G 0 y → ((i : ℕ) (x : T) → slice_get ys i ≡ Some x → G (suc i) x) → (i : ℕ) (x : T) → slice_get (y ∷ ys) i ≡ Some x → G i x
at_each G y ys here more zero x e = subst (G 0) (some_is y x e) here
at_each G y ys here more (suc i) x e = more i x e

-- a list with a value that meets G at each place
pub gather : {T : Type 0} (G : ℕ → T → Type 0) (xs : List (Option T)) → ((i : ℕ) → i < length xs → (x : T) × (get_elem? xs i ≡ some (Some x)) × G i x)
    → (ys : List T) × (xs ≡ map Some ys) × ((i : ℕ) (x : T) → slice_get ys i ≡ Some x → G i x)
gather G [] f = ([], refl, λ i x e. absurd (cc))
gather {T} G (y ∷ xs) f = let r = f 0 (omega arith) in let q = gather (λ i x. G (suc i) x) xs (λ i h. f (suc i) (omega arith)) in
    (r.0 ∷ q.0, (λ k. some-injective y (Some r.0) r.1 k ∷ q.1 k), at_each G r.0 q.0 r.2 q.2)

some_same : {T : Type 0} (xs ys : List T) → map Some xs ≡ map Some ys → xs ≡ ys
some_same [] [] e = refl
some_same [] (y ∷ ys) e = absurd (cc)
some_same (x ∷ xs) [] e = absurd (cc)
some_same (x ∷ xs) (y ∷ ys) e = let a : Some x ≡ Some y = cc in let b : map Some xs ≡ map Some ys = cc in λ k. some_is x y a k ∷ some_same xs ys b k

-- what the values of a closed table are, and what was drawn
pub record Ended {T P : Type 0} (done : P → ℕ → T → Type 0) (number : T → ℕ) (plan : P) (n : ℕ) (slots : List (Option T)) (claims : List (Claim T P)) : Type 0 where
  pub values : List T
  pub are : slots ≡ map Some values
  pub long : length values ≡ n
  pub well : (i : ℕ) (x : T) → slice_get values i ≡ Some x → done plan i x
  pub numbers : (h : ℕ → ℕ) → weigh h (map number values) ≡ below h n
  pub drawn : (m : ℕ) × (n < m) × ((h : ℕ → ℕ) → total (λ c. weigh h (drawn_by c)) claims ≡ below h m)

-- the same for the list that the values were moved into
pub moved_to : {T P : Type 0} (done : P → ℕ → T → Type 0) (number : T → ℕ) (plan : P) (n : ℕ) (slots : List (Option T)) (claims : List (Claim T P)) → Ended done number plan n slots claims → (ys : List T) → map Some ys ≡ slots
    → (length ys ≡ n) × ((i : ℕ) (x : T) → slice_get ys i ≡ Some x → done plan i x) × ((h : ℕ → ℕ) → weigh h (map number ys) ≡ below h n)
moved_to {T} done number plan n slots claims e ys is = subst (λ (l : List T). (length l ≡ n) × ((i : ℕ) (x : T) → slice_get l i ≡ Some x → done plan i x) × ((h : ℕ → ℕ) → weigh h (map number l) ≡ below h n))
    (some_same e.values ys (sym e.are ∙ sym is)) (e.long, e.well, e.numbers)

module _ {T P : Type 0} (fresh done : P → ℕ → T → Type 0) (number : T → ℕ) (plan : P) (claims : ℕ) where
  module _ (s : State (Option T) (View P)) (kept : Keeps fresh done number plan claims s) (id : ℕ) (v : View P) (at : get_elem? s.views id ≡ some v) (all : v.parts ≡ claims) where
    others : (j : ℕ) (u : View P) → j ≢ id → get_elem? s.views j ≡ some u → u.parts ≡ 0
    others j u ne e = let a = total_two (λ (z : View P). z.parts) s.views id j v u (λ q. ne (sym q)) at e in let b = kept.parted in omega arith

    pub drew : (h : ℕ → ℕ) → weigh h v.drawn ≡ below h (get_or s.words 0 0)
    drew h = sym (total_alone (λ (z : View P). weigh h z.drawn) s.views id v at (λ j u ne e. ap (weigh h) ((kept.each j u e).empty (others j u ne e)).0)) ∙ kept.drawn h

    numbered : (h : ℕ → ℕ) → weigh h (seconds v.numbered) ≡ below h (get_or s.words 1 0)
    numbered h = sym (total_alone (λ (z : View P). weigh h (seconds z.numbered)) s.views id v at (λ j u ne e. ap (λ (l : List (ℕ × ℕ)). weigh h (seconds l)) ((kept.each j u e).empty (others j u ne e)).2)) ∙ kept.numbers h

    module _ (past_end : length s.homes < get_or s.words 0 0) where
      -- each item was drawn
      pub drew_each : (i : ℕ) → i < length s.homes → Has v.drawn i
      drew_each i low = let a = drew (same i) in let b = below_same_in i (get_or s.words 0 0) (omega arith) in has_of_weight v.drawn i (omega arith)

      -- with a number for each item, the numbers are those below the count
      counted : (num : ℕ → ℕ) → ((i : ℕ) → i < length s.homes → Says v.numbered i (num i)) → (h : ℕ → ℕ) → below h (get_or s.words 1 0) ≡ below (λ i. h (num i)) (length s.homes)
      counted num each h = let n : ℕ = length s.homes in let w : ℕ = get_or s.words 0 0 in let ps : List (ℕ × ℕ) = v.numbered in let mine = kept.each id v at in let g : ℕ → ℕ = λ i. h (num i) in
          let inside : (i k : ℕ) → Says ps i k → i < n = λ i k d. (let a = has_weight (past n) (firsts ps) i (says_has ps i k d) in let z = mine.inner in
          elim (dec_le n i) [ yes le ↦ (let p = past_in n i le in absurd (omega arith)) | no gt ↦ omega arith ]) in
          let once : (i : ℕ) → i < n → weigh (same i) (firsts ps) ≤ 1 = λ i low. (let a = mine.numbered (same i) in let b = drew (same i) in let c = below_same_in i w (omega arith) in omega arith) in
          let pairs = weigh_pairs h num ps (λ i k d. says_one ps i k (num i) (once i (inside i k d)) d (each i (inside i k d))) in
          let least = covers g n (firsts ps) (λ i low. says_has ps i (num i) (each i low)) in
          let most = weigh_cut n g (firsts ps) mine.inner in let le = mine.numbered (cut n g) in let cuts = drew (cut n g) ∙ below_cut n g w (omega arith) in let e = numbered h in omega arith

      -- the numbers of the values are those below the count, each once
      pub numbers_are : (ys : List T) → length ys ≡ length s.homes → ((i : ℕ) (x : T) → slice_get ys i ≡ Some x → Says v.numbered i (number x)) → (h : ℕ → ℕ) → weigh h (map number ys) ≡ below h (length s.homes)
      numbers_are ys long says h = let n : ℕ = length s.homes in let num : ℕ → ℕ = λ i. get_or (map number ys) i 0 in
          let each : (i : ℕ) → i < n → Says v.numbered i (num i) = λ i low. (let r = place number ys i (omega arith) in subst (Says v.numbered i) (sym r.2) (says i r.0 r.1)) in
          let len : length (map number ys) ≡ n = length-map ys number ∙ long in
          let weights : (k : ℕ → ℕ) → weigh k (map number ys) ≡ below k (get_or s.words 1 0) = λ k. weigh_places k (map number ys) ∙ ap (below (λ i. k (num i))) len ∙ sym (counted num each k) in
          let w : get_or s.words 1 0 ≡ n = sym (below_one (get_or s.words 1 0)) ∙ counted num each (λ _. 1) ∙ below_one n in weights h ∙ ap (below h) w

  pub ends : (n : ℕ) (words : List ℕ) (slots : List (Option T)) (id : ℕ) (v : View P) (cs : List (Claim T P)) → Final (Seen (Keeps fresh done number plan claims) id v) words slots → Gathers n cs v → length cs ≡ claims → length slots ≡ n
      → Ended done number plan n slots cs
  ends n words slots id v cs f g many long =
      let s : State (Option T) (View P) = f.0 in let kept = f.1.0 in let at = f.1.1 in let homes : length s.homes ≡ length slots = f.3 in let size : length s.homes ≡ n = homes ∙ long in let all : v.parts ≡ claims = g.parts ∙ many in
      let w : ℕ = get_or s.words 0 0 in let over : g.past.0 < w = drawn_below fresh done number plan claims s kept id v g.past.0 at g.past.1 in let past_n = g.past.2 in let end : length s.homes < w = omega arith in
      let G = λ (i : ℕ) (x : T). done plan i x × Says v.numbered i (number x) in
      let back = λ (i : ℕ) (low : i < length slots). (let r = ((kept.each id v at).home i (g.back i (drew_each s kept id v at all end i (let a : i < length s.homes = omega arith in a)) (let b : i < n = omega arith in b))).1 in
      let there : (x : T) × (get_elem? slots i ≡ some (Some x)) × G i x = (r.0, f.4 i (Some r.0) r.1, (r.2, r.3)) in there) in
      let ys = gather G slots back in let len : length ys.0 ≡ n = sym (ap length ys.1 ∙ length-map ys.0 Some) ∙ long in record {
        values = ys.0;
        are = ys.1;
        long = len;
        well = λ i x e. (ys.2 i x e).0;
        numbers = λ h. numbers_are s kept id v at all end ys.0 (len ∙ sym size) (λ i x e. (ys.2 i x e).1) h ∙ ap (below h) size;
        drawn = (w, (let a : n < w = omega arith in a), λ h. sym (g.drawn h) ∙ drew s kept id v at all h);
      }
