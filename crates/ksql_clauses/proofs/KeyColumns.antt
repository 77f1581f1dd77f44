-- The columns at some places, and those besides.
use Rattle.std.proofs.Common.{◌≡◌, ◌∙◌, ap, refl, sym, ℕ, zero, suc, ◌+◌, ◌<◌, ◌≤◌, arith, Bool, true, false, not, cond, ltb, if◌then◌else◌, List, [], ◌∷◌, length, map, Option, Some, None}
use Rattle.std.specs.Prelude.{is_none, slice_get, filter, option_and_then}
use Rattle.std.specs.List.{list_any, find, position, position_or_len, enumerate_from, cons_option}
use Rattle.std.proofs.lemmas.Bool.{ltb-true, ltb-false}
use Rattle.std.proofs.lemmas.List.Folds.{find_at}
use Rattle.expression_trees.specs.declared.tree.Expr.{Expr}
use Rattle.ksql_clauses.specs.declared.items.Named.{Named}
use Rattle.ksql_clauses.specs.Keys.{is_one_of, first_of, first_columns, at_places, is_place, besides}

-- ---- the first column that passes

past : {A : Type 0} (xs : List A) (n : ℕ) → length xs ≤ n → slice_get xs n ≡ None
past [] n h = refl
past (x ∷ xs) zero h = absurd (omega (arith, h))
past (x ∷ xs) (suc n) h = past xs n (omega (arith, h))

-- what stands at the first place at which a test passes is the first element that passes
found-at : {A : Type 0} (p : A → Bool) (xs : List A) → option_and_then (slice_get xs) (position p xs) ≡ find p xs
found-at {A} p xs = at (ltb (position_or_len p xs) (length xs)) refl
  where
    at : (b : Bool) → ltb (position_or_len p xs) (length xs) ≡ b → option_and_then (slice_get xs) (cond b (Some (position_or_len p xs)) None) ≡ find p xs
    at true e = sym (find_at p xs)
    at false e = sym (find_at p xs ∙ past xs (position_or_len p xs) (ltb-false _ _ e))

-- the columns at the places of those that are needed
pub first-columns-are : (cs : List Named) (needs : List (List Expr)) → at_places cs (map (λ es. first_of es cs) needs) ≡ first_columns cs needs
first-columns-are cs [] = refl
first-columns-are cs (es ∷ needs) =
    ap (λ (o : Option Named). cons_option o (at_places cs (map (λ es. first_of es cs) needs))) (found-at (is_one_of es) cs)
    ∙ ap (cons_option (find (is_one_of es) cs)) (first-columns-are cs needs)

-- there is no place if there is no column
pub first-is_none : (es : List Expr) (cs : List Named) → is_none (first_of es cs) ≡ is_none (find (is_one_of es) cs)
first-is_none es cs = at (ltb (position_or_len (is_one_of es) cs) (length cs)) refl
  where
    got : (ds : List Named) (n : ℕ) → n < length ds → is_none (slice_get ds n) ≡ false
    got [] n h = absurd (omega (arith, h))
    got (d ∷ ds) zero h = refl
    got (d ∷ ds) (suc n) h = got ds n (omega (arith, h))

    at : (b : Bool) → ltb (position_or_len (is_one_of es) cs) (length cs) ≡ b
        → is_none (cond b (Some (position_or_len (is_one_of es) cs)) None) ≡ is_none (find (is_one_of es) cs)
    at true e = sym (ap is_none (find_at (is_one_of es) cs) ∙ got cs (position_or_len (is_one_of es) cs) (ltb-true _ _ e))
    at false e = sym (ap is_none (find_at (is_one_of es) cs ∙ past cs (position_or_len (is_one_of es) cs) (ltb-false _ _ e)))

-- ---- the other columns

-- where the first column has this number
unfoldable pub others_from : List (Option ℕ) → ℕ → List Named → List Named
others_from places number [] = []
others_from places number (c ∷ cs) = if list_any (is_place number) places then others_from places (number + 1) cs else c ∷ others_from places (number + 1) cs

from-number : (places : List (Option ℕ)) (number : ℕ) (cs : List Named)
    → map (λ (c : ℕ × Named). c.1) (filter (λ c. not (list_any (is_place c.0) places)) (enumerate_from number cs)) ≡ others_from places number cs
unfolding others_from
from-number places number [] = refl
from-number places number (c ∷ cs) = at (list_any (is_place number) places) _ _ (from-number places (number + 1) cs)
  where
    at : (b : Bool) (rest : List (ℕ × Named)) (others : List Named) → map (λ (d : ℕ × Named). d.1) rest ≡ others
        → map (λ (d : ℕ × Named). d.1) (if not b then (number, c) ∷ rest else rest) ≡ (if b then others else c ∷ others)
    at true rest others e = e
    at false rest others e = ap (λ (ds : List Named). c ∷ ds) e

pub besides-from : (places : List (Option ℕ)) (cs : List Named) → besides places cs ≡ others_from places 0 cs
besides-from places cs = from-number places 0 cs
