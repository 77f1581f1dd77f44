-- How a text is split in one way alone: by a test, at a byte, at `*/`.
use Rattle.std.proofs.Common.{◌≡◌, ℕ, ◌≤◌, Bool, true, false, not, ◌==◌, List, [], ◌∷◌, ◌++◌, length, codes, refl, sym, ap, ◌∙◌, arith, length-append, eq-eqb}
use Rattle.std.specs.List.{list_all}
use Rattle.std.specs.Str.Iter.{HasSubslice}
use Rattle.std.proofs.lemmas.Bool.{both_ways, and_parts}
use Rattle.ksql_lexer.specs.Piece.{first_passes, Lacks}

pub head_same : (x y : ℕ) (xs ys : List ℕ) → x ∷ xs ≡ y ∷ ys → x ≡ y
head_same x y xs ys e = cc

pub tail_same : (x y : ℕ) (xs ys : List ℕ) → x ∷ xs ≡ y ∷ ys → xs ≡ ys
tail_same x y xs ys e = cc

-- two splits whose rests have the same length are the same
pub same_split : (f us g vs : List ℕ) → f ++ us ≡ g ++ vs → length us ≡ length vs → (f ≡ g) × (us ≡ vs)
same_split [] us [] vs e l = (refl, e)
same_split [] us (y ∷ g) vs e l = absurd (omega (arith, ap length e, length-append g vs))
same_split (x ∷ f) us [] vs e l = absurd (omega (arith, ap length e, length-append f us))
same_split (x ∷ f) us (y ∷ g) vs e l =
    let r = same_split f us g vs (tail_same x y (f ++ us) (g ++ vs) e) l in
    let h = head_same x y (f ++ us) (g ++ vs) e in
    ((λ i. h i ∷ r.0 i), r.1)

-- where a byte fails the test, no front whose bytes pass leaves less
pub run_le : (p : ℕ → Bool) (f us g vs : List ℕ) → f ++ us ≡ g ++ vs → list_all p g ≡ true → first_passes p us ≡ false → length us ≤ length vs
run_le p f us [] vs e h s = omega (arith, ap length e, length-append f us)
run_le p [] us (y ∷ g) vs e h s = absurd (both_ways (p y) (sym (ap (first_passes p) e) ∙ s) (and_parts (p y) (list_all p g) h).0)
run_le p (x ∷ f) us (y ∷ g) vs e h s = run_le p f us g vs (tail_same x y (f ++ us) (g ++ vs) e) (and_parts (p y) (list_all p g) h).1 s

-- a run and what follows it are fixed by the text
pub one_run : (p : ℕ → Bool) (f us g vs : List ℕ) → f ++ us ≡ g ++ vs → list_all p f ≡ true → list_all p g ≡ true → first_passes p us ≡ false → first_passes p vs ≡ false → (f ≡ g) × (us ≡ vs)
one_run p f us g vs e a b s t =
    let up = run_le p f us g vs e b s in
    let down = run_le p g vs f us (sym e) a t in
    same_split f us g vs e (omega arith)

stops_at : (c : ℕ) → not (c == c) ≡ false
stops_at c = ap not (eq-eqb c c refl)

-- what precedes the first byte c, and what follows it, are fixed by the text
pub one_cut : (c : ℕ) (xs us ys vs : List ℕ) → xs ++ c ∷ us ≡ ys ++ c ∷ vs → Lacks c xs → Lacks c ys → (xs ≡ ys) × (us ≡ vs)
one_cut c xs us ys vs e a b =
    let r = one_run (λ x. not (x == c)) xs (c ∷ us) ys (c ∷ vs) e a b (stops_at c) (stops_at c) in
    (r.0, tail_same c c us vs r.1)

lacks_tail : (x : ℕ) (xs s : List ℕ) → ¬ (HasSubslice (x ∷ xs) s) → ¬ (HasSubslice xs s)
lacks_tail x xs s none has = none (x ∷ has.0, has.1, ap (λ l. x ∷ l) has.2)

-- `*/` isn't in ys, so it isn't at its front
not_inside : (y : ℕ) (ys us vs : List ℕ) → 42 ∷ 47 ∷ us ≡ y ∷ (ys ++ 42 ∷ 47 ∷ vs) → ¬ (HasSubslice (y ∷ ys) (codes "*/")) → ⊥
not_inside y [] us vs e none =
    let rest : 47 ∷ us ≡ 42 ∷ 47 ∷ vs = tail_same 42 y (47 ∷ us) (42 ∷ 47 ∷ vs) e in
    omega (arith, head_same 47 42 us (47 ∷ vs) rest)
not_inside y (z ∷ zs) us vs e none =
    let first = sym (head_same 42 y (47 ∷ us) (z ∷ (zs ++ 42 ∷ 47 ∷ vs)) e) in
    let second = sym (head_same 47 z us (zs ++ 42 ∷ 47 ∷ vs) (tail_same 42 y (47 ∷ us) (z ∷ (zs ++ 42 ∷ 47 ∷ vs)) e)) in
    none ([], zs, λ i. first i ∷ second i ∷ zs)

-- what follows the first `*/` is fixed by the text
pub one_end : (xs us ys vs : List ℕ) → xs ++ 42 ∷ 47 ∷ us ≡ ys ++ 42 ∷ 47 ∷ vs → ¬ (HasSubslice xs (codes "*/")) → ¬ (HasSubslice ys (codes "*/")) → us ≡ vs
one_end [] us [] vs e a b = tail_same 47 47 us vs (tail_same 42 42 (47 ∷ us) (47 ∷ vs) e)
one_end [] us (y ∷ ys) vs e a b = absurd (not_inside y ys us vs e b)
one_end (x ∷ xs) us [] vs e a b = absurd (not_inside x xs vs us (sym e) a)
one_end (x ∷ xs) us (y ∷ ys) vs e a b = one_end xs us ys vs (tail_same x y (xs ++ 42 ∷ 47 ∷ us) (ys ++ 42 ∷ 47 ∷ vs) e) (lacks_tail x xs (codes "*/") a) (lacks_tail y ys (codes "*/") b)
