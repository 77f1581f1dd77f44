-- The slots that a seat holds, in another order.
use Rattle.std.proofs.Common.{◌≡◌, ◌≢◌, ◌↔◌, ℕ, Bool, true, false, cond, eqb, eq-eqb, ne_eqb, List, [], ◌∷◌, sym, refl, ap, ◌∙◌, subst, inl, inr, ⊎_elim}
use Rattle.atomic_table.specs.Table.{rest}
use Rattle.claim_table.specs.Held.{Holds, Once, behind, brought}

module _ {S : Type 0} where
  after_to : (x : ℕ × S) (xs : List (ℕ × S)) (i : ℕ) (s : S) → Holds (x ∷ xs) i s → Holds (behind x xs) i s
  after_to x [] i s h = h
  after_to x (y ∷ ys) i s h = ⊎_elim (λ (e : (i ≡ x.0) × (s ≡ x.1)). inr (inl e)) (λ (b : Holds (y ∷ ys) i s). ⊎_elim (λ (e : (i ≡ y.0) × (s ≡ y.1)). inl e) (λ (d : Holds ys i s). inr (inr d)) b) h

  after_from : (x : ℕ × S) (xs : List (ℕ × S)) (i : ℕ) (s : S) → Holds (behind x xs) i s → Holds (x ∷ xs) i s
  after_from x [] i s h = h
  after_from x (y ∷ ys) i s h = ⊎_elim (λ (e : (i ≡ y.0) × (s ≡ y.1)). inr (inl e)) (λ (b : Holds (x ∷ ys) i s). ⊎_elim (λ (e : (i ≡ x.0) × (s ≡ x.1)). inl e) (λ (d : Holds ys i s). inr (inr d)) b) h

  after_once : (x : ℕ × S) (xs : List (ℕ × S)) → Once (x ∷ xs) → Once (behind x xs)
  after_once x [] o = o
  after_once x (y ∷ ys) o = ((λ s h. ⊎_elim (λ (e : (y.0 ≡ x.0) × (s ≡ x.1)). o.0 y.1 (inl (sym e.0, refl))) (λ (d : Holds ys y.0 s). o.1.0 s d) h), ((λ s h. o.0 s (inr h)), o.1.1))

  choose_to : (b : Bool) (x : ℕ × S) (xs ys : List (ℕ × S)) (i : ℕ) (s : S) → (Holds xs i s → Holds ys i s) → Holds (x ∷ xs) i s → Holds (cond b (x ∷ xs) (behind x ys)) i s
  choose_to true x xs ys i s f h = h
  choose_to false x xs ys i s f h = after_to x ys i s (⊎_elim (λ (e : (i ≡ x.0) × (s ≡ x.1)). inl e) (λ (d : Holds xs i s). inr (f d)) h)

  choose_from : (b : Bool) (x : ℕ × S) (xs ys : List (ℕ × S)) (i : ℕ) (s : S) → (Holds ys i s → Holds xs i s) → Holds (cond b (x ∷ xs) (behind x ys)) i s → Holds (x ∷ xs) i s
  choose_from true x xs ys i s f h = h
  choose_from false x xs ys i s f h = ⊎_elim (λ (e : (i ≡ x.0) × (s ≡ x.1)). inl e) (λ (d : Holds ys i s). inr (f d)) (after_from x ys i s h)

  pub brought_to : (k : ℕ) (xs : List (ℕ × S)) (i : ℕ) (s : S) → Holds xs i s → Holds (brought k xs) i s
  brought_to k [] i s h = h
  brought_to k (x ∷ xs) i s h = choose_to (eqb x.0 k) x xs (brought k xs) i s (brought_to k xs i s) h

  pub brought_from : (k : ℕ) (xs : List (ℕ × S)) (i : ℕ) (s : S) → Holds (brought k xs) i s → Holds xs i s
  brought_from k [] i s h = h
  brought_from k (x ∷ xs) i s h = choose_from (eqb x.0 k) x xs (brought k xs) i s (brought_from k xs i s) h

  choose_once : (b : Bool) (x : ℕ × S) (xs ys : List (ℕ × S)) → ((i : ℕ) (s : S) → Holds ys i s → Holds xs i s) → Once ys → Once (x ∷ xs) → Once (cond b (x ∷ xs) (behind x ys))
  choose_once true x xs ys f once o = o
  choose_once false x xs ys f once o = after_once x ys ((λ s h. o.0 s (f x.0 s h)), once)

  pub brought_once : (k : ℕ) (xs : List (ℕ × S)) → Once xs → Once (brought k xs)
  brought_once k [] o = o
  brought_once k (x ∷ xs) o = choose_once (eqb x.0 k) x xs (brought k xs) (brought_from k xs) (brought_once k xs o.1) o

  found : (i : ℕ) (s : S) (xs : List (ℕ × S)) → Once xs → Holds xs i s → (r : List (ℕ × S)) × (brought i xs ≡ (i, s) ∷ r)
  found i s [] o h = elim h [ ]
  found i s (x ∷ xs) o h = ⊎_elim
      (λ (e : (i ≡ x.0) × (s ≡ x.1)). (xs, ap (λ (b : Bool). cond b (x ∷ xs) (behind x (brought i xs))) (eq-eqb x.0 i (sym e.0)) ∙ (λ k. (sym e.0 k, sym e.1 k) ∷ xs)))
      (λ (d : Holds xs i s). let r = found i s xs o.1 d in let ne : x.0 ≢ i = λ e. o.0 s (subst (λ (j : ℕ). Holds xs j s) (sym e) d) in
      (x ∷ r.0, ap (λ (b : Bool). cond b (x ∷ xs) (behind x (brought i xs))) (ne_eqb x.0 i ne) ∙ ap (behind x) r.1)) h

  pub brought_front : (i : ℕ) (s : S) (xs : List (ℕ × S)) → Once xs → Holds xs i s → brought i xs ≡ (i, s) ∷ rest (brought i xs)
  brought_front i s xs o h = let r = found i s xs o h in r.1 ∙ (λ k. (i, s) ∷ rest (sym r.1 k))

  -- the front slot's value may change, and each other slot is as before
  pub same_but_first : (k : ℕ) (t u : S) (xs ys zs : List (ℕ × S)) → ys ≡ brought k xs → ys ≡ (k, t) ∷ rest ys → zs ≡ (k, u) ∷ rest ys → (i : ℕ) (s : S) → i ≢ k → Holds xs i s ↔ Holds zs i s
  same_but_first k t u xs ys zs moved first changed i s ne = (
    (λ h. subst (λ (l : List (ℕ × S)). Holds l i s) (sym changed) (inr (⊎_elim (λ (e : (i ≡ k) × (s ≡ t)). absurd (ne e.0)) (λ (d : Holds (rest ys) i s). d) (subst (λ (l : List (ℕ × S)). Holds l i s) (sym moved ∙ first) (brought_to k xs i s h))))),
    (λ h. brought_from k xs i s (subst (λ (l : List (ℕ × S)). Holds l i s) (sym first ∙ moved)
        (inr (⊎_elim (λ (e : (i ≡ k) × (s ≡ u)). absurd (ne e.0)) (λ (d : Holds (rest ys) i s). d) (subst (λ (l : List (ℕ × S)). Holds l i s) changed h))))),
  )

  -- the front slot may go, and each other slot is as before
  pub same_but_gone : (k : ℕ) (t : S) (xs ys : List (ℕ × S)) → ys ≡ brought k xs → ys ≡ (k, t) ∷ rest ys → (i : ℕ) (s : S) → i ≢ k → Holds xs i s ↔ Holds (rest ys) i s
  same_but_gone k t xs ys moved first i s ne = (
    (λ h. ⊎_elim (λ (e : (i ≡ k) × (s ≡ t)). absurd (ne e.0)) (λ (d : Holds (rest ys) i s). d) (subst (λ (l : List (ℕ × S)). Holds l i s) (sym moved ∙ first) (brought_to k xs i s h))),
    (λ h. brought_from k xs i s (subst (λ (l : List (ℕ × S)). Holds l i s) (sym first ∙ moved) (inr h))),
  )

  value_of : S → List (ℕ × S) → S
  value_of d [] = d
  value_of d (x ∷ xs) = x.1

  -- a front slot has one value
  pub front_value : (k : ℕ) (t u : S) (l : List (ℕ × S)) → l ≡ (k, t) ∷ rest l → l ≡ (k, u) ∷ rest l → t ≡ u
  unfolding value_of
  front_value k t u l a b = ap (value_of t) (sym a ∙ b)

  pub now_front : (i : ℕ) (s : S) (xs ys : List (ℕ × S)) → ys ≡ brought i xs → Once xs → Holds xs i s → ys ≡ (i, s) ∷ rest ys
  now_front i s xs ys moved once has = moved ∙ brought_front i s xs once has ∙ ap (λ (l : List (ℕ × S)). (i, s) ∷ rest l) (sym moved)

  pub put_front : (i : ℕ) (s : S) (xs ys : List (ℕ × S)) → xs ≡ (i, s) ∷ rest ys → xs ≡ (i, s) ∷ rest xs
  put_front i s xs ys e = e ∙ ap (λ (l : List (ℕ × S)). (i, s) ∷ rest l) (sym e)

  -- a slot that has gone from the front is not held
  pub gone : (i : ℕ) (t s : S) (ys : List (ℕ × S)) → ys ≡ (i, t) ∷ rest ys → Once ys → ¬ Holds (rest ys) i s
  gone i t s ys first once h = (subst Once first once).0 s h
