-- Texts with each quote doubled.
use Rattle.std.proofs.Common.{◌≡◌, ◌≢◌, ℕ, ◌≤◌, Bool, true, false, not, ◌==◌, cond, List, [], ◌∷◌, ◌++◌, length, refl, sym, ap, ◌∙◌, ⊎_elim, arith, length-append, eq-eqb, ne_eqb}
use Rattle.std.specs.List.{list_all}
use Rattle.std.proofs.lemmas.Bool.{and_parts, not-true, cases_eq}
use Rattle.ksql_lexer.specs.Piece.{doubled, Lacks}
use Rattle.ksql_lexer.specs.Place.{NoneBetween}
use Rattle.ksql_lexer.proofs.Runs.{tail_same, head_same}

pub doubled_quote : (b : ℕ) (bs : List ℕ) → b ≡ 39 → doubled (b ∷ bs) ≡ 39 ∷ 39 ∷ doubled bs
doubled_quote b bs e = ap (λ t. cond t (39 ∷ 39 ∷ doubled bs) (b ∷ doubled bs)) (eq-eqb b 39 e)

pub doubled_other : (b : ℕ) (bs : List ℕ) → b ≢ 39 → doubled (b ∷ bs) ≡ b ∷ doubled bs
doubled_other b bs e = ap (λ t. cond t (39 ∷ 39 ∷ doubled bs) (b ∷ doubled bs)) (ne_eqb b 39 e)

append_step : (t : Bool) (b : ℕ) (xs ys zs : List ℕ) → zs ≡ xs ++ ys → cond t (39 ∷ 39 ∷ zs) (b ∷ zs) ≡ cond t (39 ∷ 39 ∷ xs) (b ∷ xs) ++ ys
append_step true b xs ys zs e = ap (λ l. 39 ∷ 39 ∷ l) e
append_step false b xs ys zs e = ap (λ l. b ∷ l) e

pub doubled-append : (xs ys : List ℕ) → doubled (xs ++ ys) ≡ doubled xs ++ doubled ys
doubled-append [] ys = refl
doubled-append (x ∷ xs) ys = append_step (x == 39) x (doubled xs) (doubled ys) (doubled (xs ++ ys)) (doubled-append xs ys)

-- without a quote nothing is doubled
pub doubled-Lacks : (xs : List ℕ) → Lacks 39 xs → doubled xs ≡ xs
doubled-Lacks [] h = refl
doubled-Lacks (x ∷ xs) h =
    let parts = and_parts (not (x == 39)) (list_all (λ b. not (b == 39)) xs) h in
    ap (λ t. cond t (39 ∷ 39 ∷ doubled xs) (x ∷ doubled xs)) (not-true (x == 39) parts.0) ∙ ap (λ l. x ∷ l) (doubled-Lacks xs parts.1)

length_step : (t : Bool) (b : ℕ) (xs zs : List ℕ) → length xs ≤ length zs → length (b ∷ xs) ≤ length (cond t (39 ∷ 39 ∷ zs) (b ∷ zs))
length_step true b xs zs e = omega arith
length_step false b xs zs e = omega arith

pub length-le-doubled : (xs : List ℕ) → length xs ≤ length (doubled xs)
length-le-doubled [] = omega arith
length-le-doubled (x ∷ xs) = length_step (x == 39) x xs (doubled xs) (length-le-doubled xs)

-- a list that begins by a quote isn't one that begins by another byte
module _ (us vs : List ℕ) where
  quote_clash : (y : ℕ) → 39 ∷ us ≡ y ∷ vs → y ≢ 39 → ⊥
  quote_clash y e ne = ne (sym (head_same 39 y us vs e))

-- the rest after a text that isn't closed again is the shortest that any text leaves
pub doubled_le : (c us d vs : List ℕ) → doubled c ++ 39 ∷ us ≡ doubled d ++ 39 ∷ vs → NoneBetween 39 us → length us ≤ length vs
doubled_le c us [] vs e none = omega (arith, ap length e, length-append (doubled c) (39 ∷ us))
doubled_le [] us (y ∷ ys) vs e none =
    ⊎_elim
    (λ q. absurd (none (doubled ys) vs (tail_same 39 39 us (39 ∷ (doubled ys ++ 39 ∷ vs)) (e ∙ ap (λ l. l ++ 39 ∷ vs) (doubled_quote y ys q)))))
    (λ o. absurd (quote_clash us (doubled ys ++ 39 ∷ vs) y (e ∙ ap (λ l. l ++ 39 ∷ vs) (doubled_other y ys o)) o))
    (cases_eq y 39)
doubled_le (x ∷ xs) us (y ∷ ys) vs e none =
    ⊎_elim
    (λ p. ⊎_elim
    (λ q. doubled_le xs us ys vs (tails (doubled xs ++ 39 ∷ us) (doubled ys ++ 39 ∷ vs) (sym (open_quote x xs us p) ∙ e ∙ open_quote y ys vs q)) none)
    (λ o. absurd (quote_clash (39 ∷ (doubled xs ++ 39 ∷ us)) (doubled ys ++ 39 ∷ vs) y (sym (open_quote x xs us p) ∙ e ∙ open_other y ys vs o) o))
    (cases_eq y 39))
    (λ n. ⊎_elim
    (λ q. absurd (quote_clash (39 ∷ (doubled ys ++ 39 ∷ vs)) (doubled xs ++ 39 ∷ us) x (sym (sym (open_other x xs us n) ∙ e ∙ open_quote y ys vs q)) n))
    (λ o. doubled_le xs us ys vs (tail_same x y (doubled xs ++ 39 ∷ us) (doubled ys ++ 39 ∷ vs) (sym (open_other x xs us n) ∙ e ∙ open_other y ys vs o)) none)
    (cases_eq y 39))
    (cases_eq x 39)
  where
    open_quote : (b : ℕ) (bs ws : List ℕ) → b ≡ 39 → doubled (b ∷ bs) ++ 39 ∷ ws ≡ 39 ∷ 39 ∷ (doubled bs ++ 39 ∷ ws)
    open_quote b bs ws q = ap (λ l. l ++ 39 ∷ ws) (doubled_quote b bs q)

    open_other : (b : ℕ) (bs ws : List ℕ) → b ≢ 39 → doubled (b ∷ bs) ++ 39 ∷ ws ≡ b ∷ (doubled bs ++ 39 ∷ ws)
    open_other b bs ws o = ap (λ l. l ++ 39 ∷ ws) (doubled_other b bs o)

    tails : (bs cs : List ℕ) → 39 ∷ 39 ∷ bs ≡ 39 ∷ 39 ∷ cs → bs ≡ cs
    tails bs cs h = tail_same 39 39 bs cs (tail_same 39 39 (39 ∷ bs) (39 ∷ cs) h)

-- no two texts are doubled to one
pub doubled_same : (xs ys : List ℕ) → doubled xs ≡ doubled ys → xs ≡ ys
doubled_same [] [] e = refl
doubled_same [] (y ∷ ys) e = ⊎_elim (λ q. let h : [] ≡ 39 ∷ 39 ∷ doubled ys = e ∙ doubled_quote y ys q in cc) (λ o. let h : [] ≡ y ∷ doubled ys = e ∙ doubled_other y ys o in cc) (cases_eq y 39)
doubled_same (x ∷ xs) [] e = ⊎_elim (λ q. let h : [] ≡ 39 ∷ 39 ∷ doubled xs = sym e ∙ doubled_quote x xs q in cc) (λ o. let h : [] ≡ x ∷ doubled xs = sym e ∙ doubled_other x xs o in cc) (cases_eq x 39)
doubled_same (x ∷ xs) (y ∷ ys) e =
    ⊎_elim
    (λ p. ⊎_elim
    (λ q. let h : 39 ∷ 39 ∷ doubled xs ≡ 39 ∷ 39 ∷ doubled ys = sym (doubled_quote x xs p) ∙ e ∙ doubled_quote y ys q in
    let t : doubled xs ≡ doubled ys = cc in
    let r = doubled_same xs ys t in
    (λ i. (p ∙ sym q) i ∷ r i))
    (λ o. absurd (quote_clash (39 ∷ doubled xs) (doubled ys) y (sym (doubled_quote x xs p) ∙ e ∙ doubled_other y ys o) o))
    (cases_eq y 39))
    (λ n. ⊎_elim
    (λ q. absurd (quote_clash (39 ∷ doubled ys) (doubled xs) x (sym (doubled_quote y ys q) ∙ sym e ∙ doubled_other x xs n) n))
    (λ o. let h : x ∷ doubled xs ≡ y ∷ doubled ys = sym (doubled_other x xs n) ∙ e ∙ doubled_other y ys o in
    let r = doubled_same xs ys (tail_same x y (doubled xs) (doubled ys) h) in
    let s = head_same x y (doubled xs) (doubled ys) h in
    (λ i. s i ∷ r i))
    (cases_eq y 39))
    (cases_eq x 39)
