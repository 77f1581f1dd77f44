-- The search of LIKE: its position, and where it starts again.
use Rattle.std.proofs.Common.{◌≡◌, ◌∙◌, ap, sym, refl, ℕ, ◌==◌, Bool, true, false, ◌&&◌, ◌||◌, List, [], ◌∷◌, inl, inr, rules}
use Rattle.std.proofs.lemmas.Bool.{or_cases, or_left, or_right, and_parts, cond-false, false≢true}
use Rattle.ksql_expr.specs.Value.{is_like, some_tail}

-- whether a test holds of the characters after the first one or more
abbrev pub later : (List ℕ → Bool) → List ℕ → Bool
later test [] = false
later test (c ∷ cs) = some_tail test cs

pub now_or_later : (test : List ℕ → Bool) (cs : List ℕ) → (test cs || later test cs) ≡ some_tail test cs
now_or_later test [] = search rules
now_or_later test (c ∷ cs) = refl

pub later_is_some : (test : List ℕ → Bool) (cs : List ℕ) → later test cs ≡ true → some_tail test cs ≡ true
later_is_some test cs h = sym (now_or_later test cs) ∙ or_right (test cs) (later test cs) h

-- a tail of a tail is a tail
pub tail_of_tail : (ps cs : List ℕ) → some_tail (is_like (37 ∷ ps)) cs ≡ true → some_tail (is_like ps) cs ≡ true
tail_of_tail ps [] h = h
tail_of_tail ps (c ∷ cs) h =
    elim (or_cases (some_tail (is_like ps) (c ∷ cs)) (some_tail (is_like (37 ∷ ps)) cs) h) [
      | inl here ↦ here
      | inr there ↦ or_right (is_like ps (c ∷ cs)) (some_tail (is_like ps) cs) (tail_of_tail ps cs there)
    ]

absorb : (a b v : Bool) → (a || b) ≡ v → (b ≡ true → a ≡ true) → a ≡ v
absorb true b v e h = e
absorb false true v e h = absurd (false≢true (h refl))
absorb false false v e h = e

-- at a `%`: what stood before it is found, and isn't tried again
pub begins_again : (ahead ps cs : List ℕ) (b v : Bool) → ahead ≡ 37 ∷ ps → (is_like ahead cs || b) ≡ v → (b ≡ true → some_tail (is_like ahead) cs ≡ true)
    → (is_like ps cs || later (is_like ps) cs) ≡ v
begins_again ahead ps cs b v is value reach =
    now_or_later (is_like ps) cs
    ∙ absorb (some_tail (is_like ps) cs) b v (ap (λ a. is_like a cs || b) (sym is) ∙ value) (λ h. tail_of_tail ps cs (ap (λ a. some_tail (is_like a) cs) (sym is) ∙ reach h))

-- at a character
like_first : (p : ℕ) (ps : List ℕ) (c : ℕ) (cs : List ℕ) → (p == 37) ≡ false → is_like (p ∷ ps) (c ∷ cs) ≡ (((p == 95) || (c == p)) && is_like ps cs)
like_first p ps c cs plain = cond-false (p == 37) (some_tail (is_like ps) (c ∷ cs)) (((p == 95) || (c == p)) && is_like ps cs) plain

like_none : (p : ℕ) (ps : List ℕ) → (p == 37) ≡ false → is_like (p ∷ ps) [] ≡ false
like_none p ps plain = cond-false (p == 37) (some_tail (is_like ps) []) false plain

tail_advances : (p : ℕ) (ps : List ℕ) → (p == 37) ≡ false → (c : ℕ) (cs : List ℕ) → some_tail (is_like (p ∷ ps)) (c ∷ cs) ≡ true → some_tail (is_like ps) cs ≡ true
tail_advances p ps plain c [] h =
    elim (or_cases (is_like (p ∷ ps) (c ∷ [])) (is_like (p ∷ ps) []) h) [
      | inl here ↦ (and_parts ((p == 95) || (c == p)) (is_like ps []) (sym (like_first p ps c [] plain) ∙ here)).1
      | inr there ↦ absurd (false≢true (sym (like_none p ps plain) ∙ there))
    ]
tail_advances p ps plain c (d ∷ cs) h =
    elim (or_cases (is_like (p ∷ ps) (c ∷ d ∷ cs)) (some_tail (is_like (p ∷ ps)) (d ∷ cs)) h) [
      | inl here ↦ or_left (is_like ps (d ∷ cs)) (some_tail (is_like ps) cs) (and_parts ((p == 95) || (c == p)) (is_like ps (d ∷ cs)) (sym (like_first p ps c (d ∷ cs) plain) ∙ here)).1
      | inr there ↦ or_right (is_like ps (d ∷ cs)) (some_tail (is_like ps) cs) (tail_advances p ps plain d cs there)
    ]

pub goes_on : (ahead ps left cs : List ℕ) (p c : ℕ) → ahead ≡ p ∷ ps → left ≡ c ∷ cs → (p == 37) ≡ false → ((p == 95) || (c == p)) ≡ true → is_like ps cs ≡ is_like ahead left
goes_on ahead ps left cs p c is is_left plain stands =
    sym (ap (λ a. is_like a left) is ∙ ap (is_like (p ∷ ps)) is_left ∙ like_first p ps c cs plain ∙ ap (λ b. b && is_like ps cs) stands)

pub reach_goes_on : (ahead ps left cs : List ℕ) (p c : ℕ) → ahead ≡ p ∷ ps → left ≡ c ∷ cs → (p == 37) ≡ false → some_tail (is_like ahead) left ≡ true → some_tail (is_like ps) cs ≡ true
reach_goes_on ahead ps left cs p c is is_left plain h =
    tail_advances p ps plain c cs (sym (ap (λ a. some_tail (is_like a) left) is ∙ ap (some_tail (is_like (p ∷ ps))) is_left) ∙ h)
