-- Where a text can be cut, or that it can't.
use Rattle.std.proofs.Common.{◌≡◌, ◌≢◌, ℕ, Bool, not, ◌==◌, ◌⊎◌, inl, inr, ⊎_elim, List, [], ◌∷◌, ◌++◌, length, take, drop, codes, refl, ap, subst, arith, length-append, ne_eqb}
use Rattle.std.specs.List.{list_all, prefix_len}
use Rattle.std.specs.Str.Iter.{HasSubslice}
use Rattle.std.proofs.lemmas.Bool.{cases_eq, and_from}
use Rattle.ksql_lexer.specs.Piece.{Lacks}
use Rattle.ksql_lexer.specs.Place.{IsRun, IsBetween, NoneBetween, IsUpToEnd}
use Rattle.ksql_lexer.proofs.Cuts.{run_at}

-- its run
pub some_run : (p : ℕ → Bool) (text : List ℕ) → (run : List ℕ) × (rest : List ℕ) × IsRun p text run rest
some_run p text = (take (prefix_len p text) text, drop (prefix_len p text) text, run_at p text (prefix_len p text) _ _ refl refl refl)

-- at a byte, if it has one
abbrev IsCut : ℕ → List ℕ → Type 0
IsCut q bs = (inside : List ℕ) × (rest : List ℕ) × (bs ≡ inside ++ q ∷ rest) × Lacks q inside

abbrev IsUncut : ℕ → List ℕ → Type 0
IsUncut q bs = (inside rest : List ℕ) → bs ≢ inside ++ q ∷ rest

uncut_nil : (q : ℕ) → IsUncut q []
uncut_nil q inside rest e = omega (arith, ap length e, length-append inside (q ∷ rest))

uncut_more : (q b : ℕ) (bs : List ℕ) → b ≢ q → IsUncut q bs → IsUncut q (b ∷ bs)
uncut_more q b bs other none [] rest e = other (cc)
uncut_more q b bs other none (x ∷ inside) rest e = none inside rest (cc)

some_cut : (q : ℕ) (bs : List ℕ) → IsCut q bs ⊎ IsUncut q bs
some_cut q [] = inr (uncut_nil q)
some_cut q (b ∷ bs) =
    ⊎_elim
    (λ e. inl ([], bs, ap (λ x. x ∷ bs) e, refl))
    (λ other. ⊎_elim
    (λ cut. inl (b ∷ cut.0, cut.1, ap (λ l. b ∷ l) cut.2, and_from (not (b == q)) (list_all (λ x. not (x == q)) cut.0) (ap not (ne_eqb b q other)) cut.3))
    (λ none. inr (uncut_more q b bs other none))
    (some_cut q bs))
    (cases_eq b q)

-- between two quotes, if it begins with one
pub some_between : (q : ℕ) (text : List ℕ) → ((inside : List ℕ) × (rest : List ℕ) × IsBetween q text inside rest) ⊎ NoneBetween q text
some_between q [] = inr (λ inside rest e. cc)
some_between q (b ∷ bs) =
    ⊎_elim
    (λ e. ⊎_elim
    (λ cut. inl (cut.0, cut.1, record { whole = λ i. e i ∷ cut.2 i; lacks = cut.3 }))
    (λ none. inr (λ inside rest f. none inside rest (cc)))
    (some_cut q bs))
    (λ other. inr (λ inside rest f. other (cc)))
    (cases_eq b q)

-- after two bytes, if they come first
abbrev pub BeginsBy : ℕ → ℕ → List ℕ → Type 0
BeginsBy x y text = (rest : List ℕ) × (text ≡ x ∷ y ∷ rest)

abbrev pub BeginsNotBy : ℕ → ℕ → List ℕ → Type 0
BeginsNotBy x y text = (rest : List ℕ) → text ≢ x ∷ y ∷ rest

pub some_begin : (x y : ℕ) (text : List ℕ) → BeginsBy x y text ⊎ BeginsNotBy x y text
some_begin x y [] = inr (λ rest e. cc)
some_begin x y (b ∷ []) = inr (λ rest e. cc)
some_begin x y (b ∷ c ∷ text) =
    ⊎_elim
    (λ e. ⊎_elim (λ f. inl (text, λ i. e i ∷ f i ∷ text)) (λ other. inr (λ rest g. other (cc))) (cases_eq c y))
    (λ other. inr (λ rest g. other (cc)))
    (cases_eq b x)

-- at its first `*/`, if it has one
abbrev pub IsEnded : List ℕ → Type 0
IsEnded bs = (inside : List ℕ) × (rest : List ℕ) × IsUpToEnd bs inside rest

no_end_in_nil : ¬ (HasSubslice [] (codes "*/"))
no_end_in_nil has = omega (arith, ap length has.2, length-append has.0 (codes "*/" ++ has.1))

-- one more byte in front makes no `*/` unless one begins the whole
no_end_more : (b : ℕ) (bs : List ℕ) → BeginsNotBy 42 47 (b ∷ bs) → ¬ (HasSubslice bs (codes "*/")) → ¬ (HasSubslice (b ∷ bs) (codes "*/"))
no_end_more b bs other none has = at has.0 has.2
  where
    at : (front : List ℕ) → b ∷ bs ≡ front ++ (codes "*/" ++ has.1) → ⊥
    at [] e = other has.1 e
    at (x ∷ front) e = none (front, has.1, cc)

no_end_front : (b : ℕ) (inside rest : List ℕ) → BeginsNotBy 42 47 (b ∷ (inside ++ rest)) → BeginsNotBy 42 47 (b ∷ inside)
no_end_front b inside rest other behind e = other (behind ++ rest) (ap (λ l. l ++ rest) e)

pub some_end : (bs : List ℕ) → IsEnded bs ⊎ ¬ (HasSubslice bs (codes "*/"))
some_end [] = inr no_end_in_nil
some_end (b ∷ bs) =
    ⊎_elim
    (λ e. inl ([], e.0, record { whole = e.1; lacks = no_end_in_nil }))
    (λ other. ⊎_elim
    (λ u. inl (
      b ∷ u.0,
      u.1,
      record {
        whole = ap (λ l. b ∷ l) u.2.whole;
        lacks = no_end_more b u.0 (no_end_front b u.0 (codes "*/" ++ u.1) (subst (λ l. BeginsNotBy 42 47 (b ∷ l)) u.2.whole other)) u.2.lacks;
      },
    ))
    (λ none. inr (no_end_more b bs other none))
    (some_end bs))
    (some_begin 42 47 (b ∷ bs))
