-- The parts that a place of a script is read in.
use Rattle.std.specs.Prelude.{◌≡◌, ◌≢◌, ℕ, ◌≤◌, Bool, false, ◌==◌, ◌&&◌, ◌||◌, if◌then◌else◌, IsTrue, ◌⊎◌, List, [], ◌∷◌, ◌++◌, length, Option, Some, None, codes}
use Rattle.std.specs.List.{list_all}
use Rattle.std.specs.Char.{is_ascii_digit}
use Rattle.std.specs.Str.Iter.{HasSubslice}
use Rattle.ksql_lexer.specs.declared.byte.Class.{Class}
use Rattle.ksql_lexer.specs.declared.byte.Class.TheVariants.{Blank, Letter, Digit, Quote, Backquote, Other}
use Rattle.ksql_lexer.specs.declared.place.Found.{Found}
use Rattle.ksql_lexer.specs.declared.token.Mark.{Mark}
use Rattle.ksql_lexer.specs.declared.token.Mark.TheVariants as mark
use Rattle.ksql_lexer.specs.declared.token.TokenKind.TheVariants as kind
use Rattle.ksql_lexer.specs.Piece.{is_blank, is_letter, first_passes, Lacks, Begins, Longest, BeginsNothing, IsLineComment, IsBlockComment}

-- what a byte can begin
abbrev pub class_of : ℕ → Class
class_of b =
    if is_blank b then Blank
    else (if is_letter b then Letter
    else (if is_ascii_digit b then Digit
    else (if b == 39 then Quote
    else (if b == 96 then Backquote
    else Other))))

-- what the first byte of a text can begin
abbrev pub first_class : List ℕ → Option Class
first_class [] = None
first_class (b ∷ bs) = Some (class_of b)

-- the run is the longest prefix of the text whose bytes all pass the test
pub record IsRun (test : ℕ → Bool) (text run rest : List ℕ) : Type 0 where
  pub whole : text ≡ run ++ rest
  pub passes : IsTrue (list_all test run)
  pub stops : first_passes test rest ≡ false

-- the text is the inside between two quotes, and then the rest
pub record IsBetween (quote : ℕ) (text inside rest : List ℕ) : Type 0 where
  pub whole : text ≡ quote ∷ (inside ++ quote ∷ rest)
  pub lacks : Lacks quote inside

-- the text doesn't begin with a quote that another one follows
abbrev pub NoneBetween : ℕ → List ℕ → Type 0
NoneBetween quote text = (inside rest : List ℕ) → text ≢ quote ∷ (inside ++ quote ∷ rest)

-- the text is the inside, the first `*/` and then the rest
pub record IsUpToEnd (text inside rest : List ℕ) : Type 0 where
  pub whole : text ≡ inside ++ (codes "*/" ++ rest)
  pub lacks : ¬ (HasSubslice inside (codes "*/"))

-- no `/*` of the text has a `*/` after it
abbrev pub NoneCloses : List ℕ → Type 0
NoneCloses text = (front inside rest : List ℕ) → text ≢ front ++ (codes "/*" ++ (inside ++ (codes "*/" ++ rest)))

-- no comment begins the text
abbrev pub NoComment : List ℕ → Type 0
NoComment text = (front rest : List ℕ) → text ≡ front ++ rest → IsLineComment front ⊎ IsBlockComment front → ⊥

-- the sign that two bytes spell
abbrev pub pair_mark : ℕ → ℕ → Option Mark
pair_mark first second =
    if ((first == 60) && (second == 62)) || ((first == 33) && (second == 61)) then Some mark.NotEqual
    else (if (first == 60) && (second == 61) then Some mark.LessEqual
    else (if (first == 62) && (second == 61) then Some mark.GreaterEqual
    else (if (first == 124) && (second == 124) then Some mark.Concat
    else None)))

-- the sign that a byte spells
abbrev pub single_mark : ℕ → Option Mark
single_mark b =
    if b == 40 then Some mark.Open
    else (if b == 41 then Some mark.Close
    else (if b == 44 then Some mark.Comma
    else (if b == 59 then Some mark.Semicolon
    else (if b == 46 then Some mark.Dot
    else (if b == 61 then Some mark.Equal
    else (if b == 60 then Some mark.Less
    else (if b == 62 then Some mark.Greater
    else (if b == 43 then Some mark.Plus
    else (if b == 45 then Some mark.Minus
    else (if b == 42 then Some mark.Star
    else (if b == 47 then Some mark.Slash
    else (if b == 37 then Some mark.Percent
    else None))))))))))))

-- the sign that the first two bytes of a text spell
abbrev pub pair_at : List ℕ → Option Mark
pair_at [] = None
pair_at (b ∷ []) = None
pair_at (b ∷ c ∷ bs) = pair_mark b c

-- the sign that the first byte of a text spells
abbrev pub single_at : List ℕ → Option Mark
single_at [] = None
single_at (b ∷ bs) = single_mark b

-- no sign begins the text
abbrev pub NoMark : List ℕ → Type 0
NoMark text = (m : Mark) (rest : List ℕ) → Begins text (Some (kind.Mark m)) rest → ⊥

-- the text begins with this sign, and with no longer one
pub record IsLongestMark (text : List ℕ) (m : Mark) (rest : List ℕ) : Type 0 where
  pub begins : Begins text (Some (kind.Mark m)) rest
  pub longest : (other : Mark) (after : List ℕ) → Begins text (Some (kind.Mark other)) after → length rest ≤ length after

-- what was found at the start of a text is the longest that begins there
abbrev pub Stands : List ℕ → Option Found → Type 0
Stands text None = BeginsNothing text
Stands text (Some found) = Longest text found.kind found.rest.now
