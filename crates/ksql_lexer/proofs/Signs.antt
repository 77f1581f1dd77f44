-- The signs by their bytes.
use Rattle.std.proofs.Common.{◌≡◌, ℕ, ◌<◌, Bool, true, false, ◌==◌, ◌&&◌, ◌||◌, cond, ◌⊎◌, inl, inr, ⊎_elim, List, [], ◌∷◌, ◌++◌, length, drop, Option, Some, None, IsUtf8, IsCharBoundary, refl, sym, ap, ◌∙◌, subst, subst₂, arith, eqb-true, length-append}
use Rattle.std.proofs.lemmas.Bool.{or_cases, and_parts}
use Rattle.std.proofs.lemmas.Str.{IsCharBoundary-after_ascii}
use Rattle.ksql_lexer.specs.declared.token.Mark.{Mark}
use Rattle.ksql_lexer.specs.declared.token.Mark.TheVariants as mark
use Rattle.ksql_lexer.specs.declared.token.TokenKind.TheVariants as kind
use Rattle.ksql_lexer.specs.Piece.{sign, Spelled}
use Rattle.ksql_lexer.specs.Place.{pair_mark, single_mark, pair_at, single_at, NoMark, IsLongestMark}

-- the bytes of a sign are one byte or two bytes
abbrev pub IsMarkFront : Mark → List ℕ → Type 0
IsMarkFront m front = ((b : ℕ) × (front ≡ b ∷ []) × (single_mark b ≡ Some m)) ⊎ ((b : ℕ) × (c : ℕ) × (front ≡ b ∷ c ∷ []) × (pair_mark b c ≡ Some m))

front_of_sign : (m : Mark) (front : List ℕ) → front ≡ sign m → IsMarkFront m front
front_of_sign mark.Open front e = inl (40, e, refl)
front_of_sign mark.Close front e = inl (41, e, refl)
front_of_sign mark.Comma front e = inl (44, e, refl)
front_of_sign mark.Semicolon front e = inl (59, e, refl)
front_of_sign mark.Dot front e = inl (46, e, refl)
front_of_sign mark.Equal front e = inl (61, e, refl)
front_of_sign mark.NotEqual front e = inr (60, 62, e, refl)
front_of_sign mark.Less front e = inl (60, e, refl)
front_of_sign mark.LessEqual front e = inr (60, 61, e, refl)
front_of_sign mark.Greater front e = inl (62, e, refl)
front_of_sign mark.GreaterEqual front e = inr (62, 61, e, refl)
front_of_sign mark.Plus front e = inl (43, e, refl)
front_of_sign mark.Minus front e = inl (45, e, refl)
front_of_sign mark.Star front e = inl (42, e, refl)
front_of_sign mark.Slash front e = inl (47, e, refl)
front_of_sign mark.Percent front e = inl (37, e, refl)
front_of_sign mark.Concat front e = inr (124, 124, e, refl)

pub mark_front : (m : Mark) (front : List ℕ) → Spelled (Some (kind.Mark m)) front → IsMarkFront m front
mark_front m front h = ⊎_elim (λ e. front_of_sign m front e) (λ e. inr (33, 61, e.1, ap Some (sym e.0))) h

chosen : (t : Bool) (n m : Mark) (x : Option Mark) → cond t (Some n) x ≡ Some m → ((t ≡ true) × (n ≡ m)) ⊎ (x ≡ Some m)
chosen true n m x h = inl (refl, cc)
chosen false n m x h = inr h

-- a table of signs by their byte
abbrev mark_in : List (ℕ × Mark) → ℕ → Option Mark
mark_in [] b = None
mark_in (e ∷ es) b = cond (b == e.0) (Some e.1) (mark_in es b)

abbrev Each : (ℕ → Mark → Type 0) → List (ℕ × Mark) → Type 0
Each P [] = Unit {0}
Each P (e ∷ es) = P e.0 e.1 × Each P es

in_table : (P : ℕ → Mark → Type 0) (es : List (ℕ × Mark)) (b : ℕ) (m : Mark) → Each P es → mark_in es b ≡ Some m → P b m
in_table P [] b m each h = cc
in_table P (e ∷ es) b m each h =
    ⊎_elim
    (λ here. subst₂ P (sym (eqb-true b e.0 here.0)) here.1 each.0)
    (λ later. in_table P es b m each.1 later)
    (chosen (b == e.0) e.1 m (mark_in es b) h)

abbrev singles : List (ℕ × Mark)
singles = (40, mark.Open) ∷ (41, mark.Close) ∷ (44, mark.Comma) ∷ (59, mark.Semicolon) ∷ (46, mark.Dot) ∷ (61, mark.Equal) ∷ (60, mark.Less) ∷ (62, mark.Greater)
    ∷ (43, mark.Plus) ∷ (45, mark.Minus) ∷ (42, mark.Star) ∷ (47, mark.Slash) ∷ (37, mark.Percent) ∷ []

single_spelled : (b : ℕ) (m : Mark) → single_mark b ≡ Some m → Spelled (Some (kind.Mark m)) (b ∷ [])
single_spelled b m h = inl (in_table (λ c n. c ∷ [] ≡ sign n) singles b m
    (refl, (refl, (refl, (refl, (refl, (refl, (refl, (refl, (refl, (refl, (refl, (refl, (refl, tt))))))))))))) h)

single_ascii : (b : ℕ) (m : Mark) → single_mark b ≡ Some m → b < 128
single_ascii b m h = in_table (λ c n. c < 128) singles b m
    (omega arith, (omega arith, (omega arith, (omega arith, (omega arith, (omega arith, (omega arith, (omega arith, (omega arith, (omega arith, (omega arith, (omega arith, (omega arith, tt))))))))))))) h

-- what holds of the signs of two bytes holds of two bytes that are one
of_pair : (P : ℕ → ℕ → Mark → Type 0) → P 60 62 mark.NotEqual → P 33 61 mark.NotEqual → P 60 61 mark.LessEqual → P 62 61 mark.GreaterEqual → P 124 124 mark.Concat → (b c : ℕ) (m : Mark) → pair_mark b c ≡ Some m → P b c m
of_pair P ne bang le ge bars b c m h =
    ⊎_elim
    (λ t. ⊎_elim (λ p. at 60 62 mark.NotEqual p t.1 ne) (λ p. at 33 61 mark.NotEqual p t.1 bang) (or_cases ((b == 60) && (c == 62)) ((b == 33) && (c == 61)) t.0))
    (λ f. ⊎_elim
    (λ t. at 60 61 mark.LessEqual t.0 t.1 le)
    (λ g. ⊎_elim
    (λ t. at 62 61 mark.GreaterEqual t.0 t.1 ge)
    (λ k. ⊎_elim
    (λ t. at 124 124 mark.Concat t.0 t.1 bars)
    (λ none. let h' : None ≡ Some m = none in cc)
    (chosen ((b == 124) && (c == 124)) mark.Concat m None k))
    (chosen ((b == 62) && (c == 61)) mark.GreaterEqual m (if_bars b c) g))
    (chosen ((b == 60) && (c == 61)) mark.LessEqual m (if_ge b c) f))
    (chosen (((b == 60) && (c == 62)) || ((b == 33) && (c == 61))) mark.NotEqual m (if_le b c) h)
  where
    if_bars : ℕ → ℕ → Option Mark
    if_bars x y = cond ((x == 124) && (y == 124)) (Some mark.Concat) None

    if_ge : ℕ → ℕ → Option Mark
    if_ge x y = cond ((x == 62) && (y == 61)) (Some mark.GreaterEqual) (if_bars x y)

    if_le : ℕ → ℕ → Option Mark
    if_le x y = cond ((x == 60) && (y == 61)) (Some mark.LessEqual) (if_ge x y)

    at : (x y : ℕ) (n : Mark) → ((b == x) && (c == y)) ≡ true → n ≡ m → P x y n → P b c m
    at x y n t e p =
        let parts = and_parts (b == x) (c == y) t in
        subst (P b c) e (subst₂ (λ k l. P k l n) (sym (eqb-true b x parts.0)) (sym (eqb-true c y parts.1)) p)

pair_spelled : (b c : ℕ) (m : Mark) → pair_mark b c ≡ Some m → Spelled (Some (kind.Mark m)) (b ∷ c ∷ [])
pair_spelled b c m h = of_pair (λ x y n. Spelled (Some (kind.Mark n)) (x ∷ y ∷ [])) (inl refl) (inr (refl, refl)) (inl refl) (inl refl) (inl refl) b c m h

pair_ascii : (b c : ℕ) (m : Mark) → pair_mark b c ≡ Some m → c < 128
pair_ascii b c m h = of_pair (λ x y n. y < 128) (omega arith) (omega arith) (omega arith) (omega arith) (omega arith) b c m h

-- a text may be cut after its sign
pub pair_boundary : (bs : List ℕ) (m : Mark) → pair_at bs ≡ Some m → IsUtf8 bs → IsCharBoundary bs 2
pair_boundary [] m h utf8 = cc
pair_boundary (b ∷ []) m h utf8 = cc
pair_boundary (b ∷ c ∷ bs) m h utf8 = IsCharBoundary-after_ascii (b ∷ c ∷ bs) 1 utf8 (omega arith) (pair_ascii b c m h)

pub single_boundary : (bs : List ℕ) (m : Mark) → single_at bs ≡ Some m → IsUtf8 bs → IsCharBoundary bs 1
single_boundary [] m h utf8 = cc
single_boundary (b ∷ bs) m h utf8 = IsCharBoundary-after_ascii (b ∷ bs) 0 utf8 (omega arith) (single_ascii b m h)

-- a sign of two bytes is the longest
pub pair_longest : (bs rest : List ℕ) (m : Mark) → pair_at bs ≡ Some m → rest ≡ drop 2 bs → IsLongestMark bs m rest
pair_longest [] rest m h e = let h' : None ≡ Some m = h in absurd cc
pair_longest (b ∷ []) rest m h e = let h' : None ≡ Some m = h in absurd cc
pair_longest (b ∷ c ∷ bs) rest m h e = record {
  begins = record { front = b ∷ c ∷ []; whole = ap (λ l. b ∷ c ∷ l) (sym e); spelled = pair_spelled b c m h; follows = tt };
  longest = λ other after g. ⊎_elim
      (λ one. omega (arith, ap length g.whole, length-append g.front after, ap length one.1, ap length e))
      (λ two. omega (arith, ap length g.whole, length-append g.front after, ap length two.2, ap length e))
      (mark_front other g.front g.spelled);
}

-- where two bytes are no sign, none of two bytes begins
no_pair : (bs after front : List ℕ) (b c : ℕ) (m : Mark) → pair_at bs ≡ None → bs ≡ front ++ after → front ≡ b ∷ c ∷ [] → pair_mark b c ≡ Some m → ⊥
no_pair bs after front b c m none whole e h =
    let bytes : bs ≡ b ∷ c ∷ after = whole ∙ ap (λ l. l ++ after) e in
    let both : None ≡ Some m = sym none ∙ ap pair_at bytes ∙ h in
    cc

pub single_longest : (bs rest : List ℕ) (m : Mark) → pair_at bs ≡ None → single_at bs ≡ Some m → rest ≡ drop 1 bs → IsLongestMark bs m rest
single_longest [] rest m none h e = let h' : None ≡ Some m = h in absurd cc
single_longest (b ∷ bs) rest m none h e = record {
  begins = record { front = b ∷ []; whole = ap (λ l. b ∷ l) (sym e); spelled = single_spelled b m h; follows = tt };
  longest = λ other after g. ⊎_elim
      (λ one. omega (arith, ap length g.whole, length-append g.front after, ap length one.1, ap length e))
      (λ two. absurd (no_pair (b ∷ bs) after g.front two.0 two.1 other none g.whole two.2 two.3))
      (mark_front other g.front g.spelled);
}

pub no_mark : (bs : List ℕ) → pair_at bs ≡ None → single_at bs ≡ None → NoMark bs
no_mark bs none single m rest g = ⊎_elim
    (λ one.
    let bytes : bs ≡ one.0 ∷ rest = g.whole ∙ ap (λ l. l ++ rest) one.1 in
    let both : None ≡ Some m = sym single ∙ ap single_at bytes ∙ one.2 in
    cc)
    (λ two. no_pair bs rest g.front two.0 two.1 m none g.whole two.2 two.3)
    (mark_front m g.front g.spelled)
