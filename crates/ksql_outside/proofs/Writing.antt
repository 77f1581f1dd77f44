-- What pieces that are written one after another come to.
use Rattle.std.proofs.Common.{◌≡◌, ℕ, ◌+◌, ◌-◌, List, ◌++◌, length, take, drop, Option, None, Some, refl, ap, sym, ◌∙◌, append_assoc, arith}
use Rattle.std.proofs.Math.Seq.{take-add}
use Rattle.std.proofs.lemmas.Grind.{common_steps}
use Rattle.ksql_outside.specs.Outside.{followed_by}

-- the first bytes of the piece, and then the first of the rest, are the first of the piece
pub followed_by-take : (known : Option (List ℕ)) (piece : List ℕ) (m n : ℕ)
    → followed_by (followed_by known (take m piece)) (take n (drop m piece)) ≡ followed_by known (take (m + n) piece)
followed_by-take None piece m n = refl
followed_by-take (Some w) piece m n =
    ap (λ bytes. Some bytes) (append_assoc w (take m piece) (take n (drop m piece)) ∙ ap (λ bytes. w ++ bytes) (sym (take-add m n piece)))

-- the rest of the piece, as a slice up to its end
rest_whole : (piece : List ℕ) (m : ℕ) → take (length piece - m) (drop m piece) ≡ drop m piece
rest_whole piece m = grind (arith, common_steps)

-- the first bytes of the piece stood there, and the first of the rest were written after them
pub written_further : (old now new : Option (List ℕ)) (piece : List ℕ) (m n : ℕ)
    → new ≡ followed_by now (take n (take (length piece - m) (drop m piece)))
    → now ≡ followed_by old (take m piece)
    → new ≡ followed_by old (take (m + n) piece)
written_further old now new piece m n further before =
    further ∙ ap (λ rest. followed_by now (take n rest)) (rest_whole piece m)
    ∙ ap (λ known. followed_by known (take n (drop m piece))) before ∙ followed_by-take old piece m n
