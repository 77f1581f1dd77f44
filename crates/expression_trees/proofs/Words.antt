-- Tables of words.
use Rattle.std.proofs.Common.{◌≡◌, ℕ, cond, List, [], ◌∷◌, Some, None, refl, sym, ap, ◌∙◌}
use Rattle.std.specs.Str.{bytes_eq}
use Rattle.std.proofs.lemmas.Bool.{false_from_ne_true}
use Rattle.std.proofs.lemmas.Slice.Eq.{bytes_eq-Decides}
use Rattle.expression_trees.specs.Words.{beside}

-- the word is in no row
abbrev pub IsApart : {A : Type 0} → List (List ℕ × A) → List ℕ → Type 0
IsApart [] word = Unit {0}
IsApart (row ∷ rows) word = (word ≡ row.0 → ⊥) × IsApart rows word

pub beside_none : {A : Type 0} (rows : List (List ℕ × A)) (word : List ℕ) → IsApart rows word → beside rows word ≡ None
beside_none [] word h = refl
beside_none (row ∷ rows) word h =
    ap (λ b. cond b (Some row.1) (beside rows word))
    (false_from_ne_true (bytes_eq row.0 word) (λ e. h.0 (sym ((bytes_eq-Decides row.0 word).0 e))))
    ∙ beside_none rows word h.1
