-- Weights of lists, and of the numbers below a bound.
use Rattle.std.proofs.Common.{◌≡◌, ◌≢◌, ℕ, zero, suc, ◌+◌, ◌<◌, ◌≤◌, List, [], ◌∷◌, ◌++◌, length, get_or, le_refl, refl, ap, ◌∙◌, subst, inl, inr, ⊎_elim, arith}
use native.Mathlib.Decide.{dec_le, ℕ_discrete}
use mathlib.Core.Logic.{dite}
use Rattle.claim_table.specs.Sums.{weigh, below, same, past, Has}
use Rattle.claim_table.specs.Rule.{firsts, seconds}

pub weigh-append : (h : ℕ → ℕ) (xs ys : List ℕ) → weigh h (xs ++ ys) ≡ weigh h xs + weigh h ys
weigh-append h [] ys = omega arith
weigh-append h (x ∷ xs) ys = let r = weigh-append h xs ys in omega arith

pub firsts-append : (ps qs : List (ℕ × ℕ)) → firsts (ps ++ qs) ≡ firsts ps ++ firsts qs
firsts-append [] qs = refl
firsts-append (p ∷ ps) qs = ap (λ (l : List ℕ). p.0 ∷ l) (firsts-append ps qs)

pub seconds-append : (ps qs : List (ℕ × ℕ)) → seconds (ps ++ qs) ≡ seconds ps ++ seconds qs
seconds-append [] qs = refl
seconds-append (p ∷ ps) qs = ap (λ (l : List ℕ). p.1 ∷ l) (seconds-append ps qs)

pub has_weight : (h : ℕ → ℕ) (xs : List ℕ) (i : ℕ) → Has xs i → h i ≤ weigh h xs
has_weight h [] i a = elim a [ ]
has_weight h (x ∷ xs) i a = ⊎_elim (λ (e : i ≡ x). let f : h i ≡ h x = ap h e in omega arith) (λ (b : Has xs i). let r = has_weight h xs i b in omega arith) a

pub has_left : (xs ys : List ℕ) (i : ℕ) → Has xs i → Has (xs ++ ys) i
has_left [] ys i a = elim a [ ]
has_left (x ∷ xs) ys i a = ⊎_elim (λ (e : i ≡ x). inl e) (λ (b : Has xs i). inr (has_left xs ys i b)) a

pub has_right : (xs ys : List ℕ) (i : ℕ) → Has ys i → Has (xs ++ ys) i
has_right [] ys i a = a
has_right (x ∷ xs) ys i a = inr (has_right xs ys i a)

pub same_at : (i : ℕ) → same i i ≡ 1
same_at zero = refl
same_at (suc i) = same_at i

pub same_else : (i x : ℕ) → i ≢ x → same i x ≡ 0
same_else zero zero ne = absurd (ne refl)
same_else zero (suc x) ne = refl
same_else (suc i) zero ne = refl
same_else (suc i) (suc x) ne = same_else i x (λ e. ne (ap suc e))

pub past_in : (n x : ℕ) → n ≤ x → past n x ≡ 1
past_in zero x h = refl
past_in (suc n) zero h = absurd (omega arith)
past_in (suc n) (suc x) h = past_in n x (omega arith)

pub past_out : (n x : ℕ) → x < n → past n x ≡ 0
past_out zero x h = absurd (omega arith)
past_out (suc n) zero h = refl
past_out (suc n) (suc x) h = past_out n x (omega arith)

-- 1 below n, else 0
abbrev pub inside : ℕ → ℕ → ℕ
inside zero x = 0
inside (suc n) zero = 1
inside (suc n) (suc x) = inside n x

pub inside_past : (n x : ℕ) → inside n x + past n x ≡ 1
inside_past zero x = refl
inside_past (suc n) zero = refl
inside_past (suc n) (suc x) = inside_past n x

pub has_of_weight : (xs : List ℕ) (i : ℕ) → 0 < weigh (same i) xs → Has xs i
has_of_weight [] i h = absurd (omega arith)
has_of_weight (x ∷ xs) i h = dite (ℕ_discrete i x) (λ e. inl e) (λ ne. let z = same_else i x ne in inr (has_of_weight xs i (omega arith)))

pub below_same_out : (i n : ℕ) → n ≤ i → below (same i) n ≡ 0
below_same_out i zero h = refl
below_same_out i (suc n) h = let r = below_same_out i n (omega arith) in let z = same_else i n (λ e. omega arith) in omega arith

pub below_same_in : (i n : ℕ) → i < n → below (same i) n ≡ 1
below_same_in i zero h = absurd (omega arith)
below_same_in i (suc n) h = dite (ℕ_discrete i n)
    (λ e. let r = below_same_out i n (omega arith) in let z : same i n ≡ 1 = subst (λ (x : ℕ). same i x ≡ 1) e (same_at i) in omega arith)
    (λ ne. let r = below_same_in i n (omega arith) in let z = same_else i n ne in omega arith)

-- at most n + what lies past n
pub below_past : (n m : ℕ) → m ≤ n + below (past n) m
below_past n zero = omega arith
below_past n (suc m) = let r = below_past n m in elim (dec_le n m) [ yes h ↦ (let p = past_in n m h in omega arith) | no h ↦ omega arith ]

pub below_inside : (n m : ℕ) → (below (inside n) m ≤ m) × (below (inside n) m ≤ n)
below_inside n zero = (omega arith, omega arith)
below_inside n (suc m) = let r = below_inside n m in let a = r.0 in let b = r.1 in let q = inside_past n m in
    elim (dec_le n m) [ yes h ↦ (let p = past_in n m h in (omega arith, omega arith)) | no h ↦ (let p = past_out n m (omega arith) in (omega arith, omega arith)) ]

pub weigh_inside_past : (n : ℕ) (xs : List ℕ) → weigh (λ _. 1) xs ≡ weigh (inside n) xs + weigh (past n) xs
weigh_inside_past n [] = refl
weigh_inside_past n (x ∷ xs) = let r = weigh_inside_past n xs in let q = inside_past n x in omega arith

pub as_many : (ps : List (ℕ × ℕ)) → weigh (λ _. 1) (seconds ps) ≡ weigh (λ _. 1) (firsts ps)
as_many [] = refl
as_many (p ∷ ps) = let r = as_many ps in omega arith

pub below_one : (n : ℕ) → below (λ _. 1) n ≡ n
below_one zero = refl
below_one (suc n) = let r = below_one n in omega arith

-- a with k equal to 0, else 0
abbrev if_none : ℕ → ℕ → ℕ
if_none zero a = a
if_none (suc k) a = 0

-- h, but 0 at i
abbrev pub except : ℕ → (ℕ → ℕ) → ℕ → ℕ
except i h x = if_none (same i x) (h x)

pub except_at : (i : ℕ) (h : ℕ → ℕ) → except i h i ≡ 0
except_at i h = ap (λ (k : ℕ). if_none k (h i)) (same_at i)

pub except_else : (i x : ℕ) (h : ℕ → ℕ) → i ≢ x → except i h x ≡ h x
except_else i x h ne = ap (λ (k : ℕ). if_none k (h x)) (same_else i x ne)

pub except_le : (i : ℕ) (h : ℕ → ℕ) (xs : List ℕ) → weigh (except i h) xs ≤ weigh h xs
except_le i h [] = omega arith
except_le i h (x ∷ xs) = let r = except_le i h xs in dite (ℕ_discrete i x)
    (λ e. let z : except i h x ≡ 0 = subst (λ (y : ℕ). except i h y ≡ 0) e (except_at i h) in omega arith) (λ ne. let z = except_else i x h ne in omega arith)

pub except_none : (i : ℕ) (h : ℕ → ℕ) (xs : List ℕ) → ¬ Has xs i → weigh (except i h) xs ≡ weigh h xs
except_none i h [] n = refl
except_none i h (x ∷ xs) n = let r = except_none i h xs (λ a. n (inr a)) in let z = except_else i x h (λ e. n (inl e)) in omega arith

pub except_has : (i : ℕ) (h : ℕ → ℕ) (xs : List ℕ) → Has xs i → weigh (except i h) xs + h i ≤ weigh h xs
except_has i h [] a = elim a [ ]
except_has i h (x ∷ xs) a = ⊎_elim
    (λ (e : i ≡ x). let r = except_le i h xs in let z : except i h x ≡ 0 = subst (λ (y : ℕ). except i h y ≡ 0) e (except_at i h) in let f : h i ≡ h x = ap h e in omega arith)
    (λ (b : Has xs i). let r = except_has i h xs b in dite (ℕ_discrete i x)
    (λ (e : i ≡ x). let z : except i h x ≡ 0 = subst (λ (y : ℕ). except i h y ≡ 0) e (except_at i h) in omega arith) (λ (ne : i ≢ x). let z = except_else i x h ne in omega arith)) a

pub below_shift : (g : ℕ → ℕ) (n : ℕ) → below g (suc n) ≡ g 0 + below (λ i. g (suc i)) n
below_shift g zero = omega arith
below_shift g (suc n) = let r = below_shift g n in omega arith

-- the weights of a list, place by place
pub weigh_places : (h : ℕ → ℕ) (l : List ℕ) → weigh h l ≡ below (λ i. h (get_or l i 0)) (length l)
weigh_places h [] = refl
weigh_places h (x ∷ xs) = let r = weigh_places h xs in let s = below_shift (λ i. h (get_or (x ∷ xs) i 0)) (length xs) in omega arith

pub below_except : (g : ℕ → ℕ) (i n : ℕ) → n ≤ i → below (except i g) n ≡ below g n
below_except g i zero h = refl
below_except g i (suc n) h = let r = below_except g i n (omega arith) in let z = except_else i n g (λ e. omega arith) in omega arith

-- a list that has each number below n weighs at least as much
pub covers : (g : ℕ → ℕ) (n : ℕ) (xs : List ℕ) → ((i : ℕ) → i < n → Has xs i) → below g n ≤ weigh g xs
covers g zero xs all = omega arith
covers g (suc n) xs all = let r = covers (except n g) n xs (λ i h. all i (omega arith)) in let a = except_has n g xs (all n (omega arith)) in let b = below_except g n n (le_refl n) in omega arith

-- g below n, else 0
abbrev pub cut : ℕ → (ℕ → ℕ) → ℕ → ℕ
cut n g x = if_none (past n x) (g x)

cut_in : (n x : ℕ) (g : ℕ → ℕ) → past n x ≡ 0 → cut n g x ≡ g x
cut_in n x g e = ap (λ (k : ℕ). if_none k (g x)) e

pub weigh_cut : (n : ℕ) (g : ℕ → ℕ) (xs : List ℕ) → weigh (past n) xs ≡ 0 → weigh g xs ≡ weigh (cut n g) xs
weigh_cut n g [] z = refl
weigh_cut n g (x ∷ xs) z = let a : past n x ≡ 0 = omega arith in let b : weigh (past n) xs ≡ 0 = omega arith in let r = weigh_cut n g xs b in let q = cut_in n x g a in omega arith

below_cut_low : (n : ℕ) (g : ℕ → ℕ) (w : ℕ) → w ≤ n → below (cut n g) w ≡ below g w
below_cut_low n g zero h = refl
below_cut_low n g (suc w) h = let r = below_cut_low n g w (omega arith) in let q = cut_in n w g (past_out n w (omega arith)) in omega arith

pub below_cut : (n : ℕ) (g : ℕ → ℕ) (w : ℕ) → n ≤ w → below (cut n g) w ≡ below g n
below_cut n g zero h = below_cut_low n g zero (omega arith) ∙ ap (below g) (let e : 0 ≡ n = omega arith in e)
below_cut n g (suc w) h = elim (dec_le n w) [
  | yes le ↦ (let r = below_cut n g w le in let q : cut n g w ≡ 0 = ap (λ (k : ℕ). if_none k (g w)) (past_in n w le) in omega arith)
  | no gt ↦ below_cut_low n g (suc w) (omega arith) ∙ ap (below g) (let e : suc w ≡ n = omega arith in e)
]
