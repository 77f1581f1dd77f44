-- Equal lists have equal heads and equal tails.
use Rattle.std.proofs.Common.{◌≡◌, List, ◌∷◌}

pub heads : {A : Type 0} {a b : A} {xs ys : List A} → a ∷ xs ≡ b ∷ ys → a ≡ b
heads h = cc

pub tails : {A : Type 0} {a b : A} {xs ys : List A} → a ∷ xs ≡ b ∷ ys → xs ≡ ys
tails h = cc
