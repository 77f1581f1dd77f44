-- The first byte decides what can begin.
use Rattle.std.proofs.Common.{◌≡◌, ℕ, Bool, true, false, ◌==◌, cond, ⊎_elim, List, [], ◌∷◌, ◌++◌, Option, Some, None, codes, refl, sym, ap, subst, arith, eqb-true}
use Rattle.std.specs.List.{list_all}
use Rattle.std.specs.Char.{is_ascii_digit}
use Rattle.std.proofs.lemmas.Bool.{and_parts}
use Rattle.std.proofs.lemmas.Bool.Decides.{nat_tests}
use Rattle.ksql_lexer.specs.declared.byte.Class.{Class}
use Rattle.ksql_lexer.specs.declared.byte.Class.TheVariants.{Blank, Letter, Digit, Quote, Backquote, Other}
use Rattle.ksql_lexer.specs.declared.token.Mark.{Mark}
use Rattle.ksql_lexer.specs.declared.token.Mark.TheVariants as mark
use Rattle.ksql_lexer.specs.declared.token.TokenKind.{TokenKind}
use Rattle.ksql_lexer.specs.declared.token.TokenKind.TheVariants as kind
use Rattle.ksql_lexer.specs.Piece.{is_blank, is_letter, Spelled, Begins, IsPassedOver, sign, doubled, AreDigits}
use Rattle.ksql_lexer.specs.Place.{class_of}
use Rattle.ksql_lexer.proofs.Runs.{head_same}

-- whether a piece can begin by a byte of this class
abbrev pub fits : Option TokenKind → Class → Bool
fits None Blank = true
fits None Other = true
fits (Some (kind.Word _)) Letter = true
fits (Some (kind.Quoted _)) Backquote = true
fits (Some (kind.Text _)) Quote = true
fits (Some (kind.Digits _)) Digit = true
fits (Some (kind.Mark _)) Other = true
fits _ _ = false

-- the class that the tests make
abbrev chosen : Bool → Bool → Bool → Bool → Bool → Class
chosen t u v w x = cond t Blank (cond u Letter (cond v Digit (cond w Quote (cond x Backquote Other))))

blank_of : (t u v w x : Bool) → chosen t u v w x ≡ Blank → t ≡ true
blank_of t u v w x h = grind arith

letter_of : (t u v w x : Bool) → chosen t u v w x ≡ Letter → u ≡ true
letter_of t u v w x h = grind arith

digit_of : (t u v w x : Bool) → chosen t u v w x ≡ Digit → v ≡ true
digit_of t u v w x h = grind arith

quote_of : (t u v w x : Bool) → chosen t u v w x ≡ Quote → w ≡ true
quote_of t u v w x h = grind arith

backquote_of : (t u v w x : Bool) → chosen t u v w x ≡ Backquote → x ≡ true
backquote_of t u v w x h = grind arith

module _ (b : ℕ) where
  pub class_blank : class_of b ≡ Blank → is_blank b ≡ true
  class_blank h = blank_of (is_blank b) (is_letter b) (is_ascii_digit b) (b == 39) (b == 96) h

  pub class_letter : class_of b ≡ Letter → is_letter b ≡ true
  class_letter h = letter_of (is_blank b) (is_letter b) (is_ascii_digit b) (b == 39) (b == 96) h

  pub class_digit : class_of b ≡ Digit → is_ascii_digit b ≡ true
  class_digit h = digit_of (is_blank b) (is_letter b) (is_ascii_digit b) (b == 39) (b == 96) h

  pub class_quote : class_of b ≡ Quote → b ≡ 39
  class_quote h = eqb-true b 39 (quote_of (is_blank b) (is_letter b) (is_ascii_digit b) (b == 39) (b == 96) h)

  pub class_backquote : class_of b ≡ Backquote → b ≡ 96
  class_backquote h = eqb-true b 96 (backquote_of (is_blank b) (is_letter b) (is_ascii_digit b) (b == 39) (b == 96) h)

  pub blank_class : is_blank b ≡ true → class_of b ≡ Blank
  blank_class h = ap (λ t. chosen t (is_letter b) (is_ascii_digit b) (b == 39) (b == 96)) h

  letter_isnt_blank : is_letter b ≡ true → is_blank b ≡ false
  letter_isnt_blank h = grind (arith, nat_tests)

  pub letter_class : is_letter b ≡ true → class_of b ≡ Letter
  letter_class h = (λ i. chosen (letter_isnt_blank h i) (h i) (is_ascii_digit b) (b == 39) (b == 96))

  digit_isnt_blank : is_ascii_digit b ≡ true → is_blank b ≡ false
  digit_isnt_blank h = grind (arith, nat_tests)

  digit_isnt_letter : is_ascii_digit b ≡ true → is_letter b ≡ false
  digit_isnt_letter h = grind (arith, nat_tests)

  pub digit_class : is_ascii_digit b ≡ true → class_of b ≡ Digit
  digit_class h = (λ i. chosen (digit_isnt_blank h i) (digit_isnt_letter h i) (h i) (b == 39) (b == 96))

-- the class of the first byte of a list
abbrev first_is : Class → List ℕ → Type 0
first_is c [] = ⊥
first_is c (b ∷ bs) = class_of b ≡ c

-- whether what is spelled can begin by that byte
abbrev pub first_fits : Option TokenKind → List ℕ → Type 0
first_fits p [] = ⊥
first_fits p (b ∷ bs) = fits p (class_of b) ≡ true

-- a list whose first byte is known
known_first : (p : Option TokenKind) (front : List ℕ) (b : ℕ) (bs : List ℕ) → front ≡ b ∷ bs → fits p (class_of b) ≡ true → first_fits p front
known_first p front b bs e h = subst (first_fits p) (sym e) h

passed_over_first : (front : List ℕ) → IsPassedOver front → first_fits None front
passed_over_first front h =
    ⊎_elim
    (λ blank. known_first None front blank.0 [] blank.1 (ap (fits None) (blank_class blank.0 blank.2)))
    (λ comment. ⊎_elim
    (λ line. known_first None front 45 (45 ∷ line.0) line.1 refl)
    (λ block. known_first None front 47 (42 ∷ (block.0 ++ codes "*/")) block.1 refl)
    comment)
    h

mark_first : (m : Mark) (front : List ℕ) (b : ℕ) (bs : List ℕ) → front ≡ b ∷ bs → class_of b ≡ Other → first_fits (Some (kind.Mark m)) front
mark_first m front b bs e h = known_first (Some (kind.Mark m)) front b bs e (ap (fits (Some (kind.Mark m))) h)

sign_first : (m : Mark) (front : List ℕ) → front ≡ sign m → first_fits (Some (kind.Mark m)) front
sign_first mark.Open front e = mark_first mark.Open front 40 [] e refl
sign_first mark.Close front e = mark_first mark.Close front 41 [] e refl
sign_first mark.Comma front e = mark_first mark.Comma front 44 [] e refl
sign_first mark.Semicolon front e = mark_first mark.Semicolon front 59 [] e refl
sign_first mark.Dot front e = mark_first mark.Dot front 46 [] e refl
sign_first mark.Equal front e = mark_first mark.Equal front 61 [] e refl
sign_first mark.NotEqual front e = mark_first mark.NotEqual front 60 (62 ∷ []) e refl
sign_first mark.Less front e = mark_first mark.Less front 60 [] e refl
sign_first mark.LessEqual front e = mark_first mark.LessEqual front 60 (61 ∷ []) e refl
sign_first mark.Greater front e = mark_first mark.Greater front 62 [] e refl
sign_first mark.GreaterEqual front e = mark_first mark.GreaterEqual front 62 (61 ∷ []) e refl
sign_first mark.Plus front e = mark_first mark.Plus front 43 [] e refl
sign_first mark.Minus front e = mark_first mark.Minus front 45 [] e refl
sign_first mark.Star front e = mark_first mark.Star front 42 [] e refl
sign_first mark.Slash front e = mark_first mark.Slash front 47 [] e refl
sign_first mark.Percent front e = mark_first mark.Percent front 37 [] e refl
sign_first mark.Concat front e = mark_first mark.Concat front 124 (124 ∷ []) e refl

digits_first : (front digits : List ℕ) → AreDigits front → first_fits (Some (kind.Digits digits)) front
digits_first [] digits h = absurd (omega (arith, h.0))
digits_first (b ∷ bs) digits h = ap (fits (Some (kind.Digits digits))) (digit_class b (and_parts (is_ascii_digit b) (list_all is_ascii_digit bs) h.1).0)

pub spelled_first : (p : Option TokenKind) (front : List ℕ) → Spelled p front → first_fits p front
spelled_first None front h = passed_over_first front h
spelled_first (Some (kind.Word name)) [] h = h.0
spelled_first (Some (kind.Word name)) (b ∷ bs) h = ap (fits (Some (kind.Word name))) (letter_class b h.0.0)
spelled_first (Some (kind.Quoted name)) front h = known_first (Some (kind.Quoted name)) front 96 (name ++ codes "`") h.0 refl
spelled_first (Some (kind.Text content)) front h = known_first (Some (kind.Text content)) front 39 (doubled content ++ codes "'") h refl
spelled_first (Some (kind.Digits digits)) front h = digits_first front digits h.0
spelled_first (Some (kind.Mark m)) front h =
    ⊎_elim (λ e. sign_first m front e) (λ e. mark_first m front 33 (61 ∷ []) e.1 refl) h

-- what begins a text fits its first byte
pub begins_fits : (b : ℕ) (bs : List ℕ) (p : Option TokenKind) (rest : List ℕ) → Begins (b ∷ bs) p rest → fits p (class_of b) ≡ true
begins_fits b bs p rest g = at g.front g.whole (spelled_first p g.front g.spelled)
  where
    at : (front : List ℕ) → b ∷ bs ≡ front ++ rest → first_fits p front → fits p (class_of b) ≡ true
    at [] e h = absurd h
    at (x ∷ xs) e h = subst (λ y. fits p (class_of y) ≡ true) (sym (head_same b x bs (xs ++ rest) e)) h

-- nothing begins the empty text
pub nothing_begins_nil : (p : Option TokenKind) (rest : List ℕ) → Begins [] p rest → ⊥
nothing_begins_nil p rest g = at g.front g.whole (spelled_first p g.front g.spelled)
  where
    at : (front : List ℕ) → [] ≡ front ++ rest → first_fits p front → ⊥
    at [] e h = h
    at (x ∷ xs) e h = let e' : [] ≡ x ∷ (xs ++ rest) = e in cc
