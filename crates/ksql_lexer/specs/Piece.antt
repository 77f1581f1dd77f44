-- What can stand at a place of a script: a token, a blank or a comment.
use Rattle.std.specs.Prelude.{◌≡◌, ℕ, ◌<◌, ◌≤◌, Bool, false, ◌==◌, ◌||◌, not, if◌then◌else◌, IsTrue, ◌⊎◌, List, [], ◌∷◌, ◌++◌, length, map, Option, Some, None, codes}
use Rattle.std.specs.List.{list_all}
use Rattle.std.specs.Char.{is_ascii_alphabetic, is_ascii_digit, to_ascii_uppercase}
use Rattle.std.specs.Str.Iter.{HasSubslice}
use Rattle.ksql_lexer.specs.declared.token.Mark.{Mark}
use Rattle.ksql_lexer.specs.declared.token.Mark.TheVariants as mark
use Rattle.ksql_lexer.specs.declared.token.TokenKind.{TokenKind}
use Rattle.ksql_lexer.specs.declared.token.TokenKind.TheVariants as kind

-- space, tab, CR or LF
abbrev pub is_blank : ℕ → Bool
is_blank b = (b == 32) || (b == 9) || (b == 13) || (b == 10)

-- an ASCII letter or `_`
abbrev pub is_letter : ℕ → Bool
is_letter b = is_ascii_alphabetic b || (b == 95)

-- a letter, a digit or `_`
abbrev pub is_word_byte : ℕ → Bool
is_word_byte b = is_letter b || is_ascii_digit b

-- no byte is c
abbrev pub Lacks : ℕ → List ℕ → Type 0
Lacks c bs = IsTrue (list_all (λ b. not (b == c)) bs)

-- a letter or `_`, and then letters, digits and `_`
abbrev pub IsWord : List ℕ → Type 0
IsWord [] = ⊥
IsWord (b ∷ bs) = IsTrue (is_letter b) × IsTrue (list_all is_word_byte bs)

-- one or more digits
abbrev pub AreDigits : List ℕ → Type 0
AreDigits bs = (0 < length bs) × IsTrue (list_all is_ascii_digit bs)

-- one or more characters other than a backquote and a line end
abbrev pub IsQuotable : List ℕ → Type 0
IsQuotable name = (0 < length name) × Lacks 96 name × Lacks 10 name

-- a text with each quote in it doubled
abbrev pub doubled : List ℕ → List ℕ
doubled [] = []
doubled (b ∷ bs) = if b == 39 then 39 ∷ 39 ∷ doubled bs else b ∷ doubled bs

-- how a sign is written
abbrev pub sign : Mark → List ℕ
sign mark.Open = codes "("
sign mark.Close = codes ")"
sign mark.Comma = codes ","
sign mark.Semicolon = codes ";"
sign mark.Dot = codes "."
sign mark.Equal = codes "="
sign mark.NotEqual = codes "<>"
sign mark.Less = codes "<"
sign mark.LessEqual = codes "<="
sign mark.Greater = codes ">"
sign mark.GreaterEqual = codes ">="
sign mark.Plus = codes "+"
sign mark.Minus = codes "-"
sign mark.Star = codes "*"
sign mark.Slash = codes "/"
sign mark.Percent = codes "%"
sign mark.Concat = codes "||"

-- `--` and the rest of the line
abbrev pub IsLineComment : List ℕ → Type 0
IsLineComment front = (line : List ℕ) × (front ≡ codes "--" ++ line) × Lacks 10 line

-- `/*` and everything up to the next `*/`
abbrev pub IsBlockComment : List ℕ → Type 0
IsBlockComment front = (inside : List ℕ) × (front ≡ codes "/*" ++ (inside ++ codes "*/")) × ¬ (HasSubslice inside (codes "*/"))

-- the bytes are a blank or a comment
abbrev pub IsPassedOver : List ℕ → Type 0
IsPassedOver front = ((b : ℕ) × (front ≡ b ∷ []) × IsTrue (is_blank b)) ⊎ (IsLineComment front ⊎ IsBlockComment front)

-- the bytes spell the token, or for None a blank or a comment
abbrev pub Spelled : Option TokenKind → List ℕ → Type 0
Spelled None front = IsPassedOver front
Spelled (Some (kind.Word name)) front = IsWord front × (name ≡ map to_ascii_uppercase front)
Spelled (Some (kind.Quoted name)) front = (front ≡ codes "`" ++ (name ++ codes "`")) × IsQuotable name
Spelled (Some (kind.Text content)) front = front ≡ codes "'" ++ (doubled content ++ codes "'")
Spelled (Some (kind.Digits digits)) front = AreDigits front × (digits ≡ front)
Spelled (Some (kind.Mark m)) front = (front ≡ sign m) ⊎ ((m ≡ mark.NotEqual) × (front ≡ codes "!="))

-- whether there is a first byte, and it passes the test
abbrev pub first_passes : (ℕ → Bool) → List ℕ → Bool
first_passes test [] = false
first_passes test (b ∷ bs) = test b

-- what may follow a token: after digits neither a letter, a digit nor `_`
abbrev pub MayFollow : Option TokenKind → List ℕ → Type 0
MayFollow (Some (kind.Digits digits)) rest = first_passes is_word_byte rest ≡ false
MayFollow _ rest = Unit {0}

-- the text begins with this token, or for None with a blank or a comment, and then comes the rest
pub record Begins (text : List ℕ) (piece : Option TokenKind) (rest : List ℕ) : Type 0 where
  pub front : List ℕ
  pub whole : text ≡ front ++ rest
  pub spelled : Spelled piece front
  pub follows : MayFollow piece rest

-- it does, and with nothing longer
pub record Longest (text : List ℕ) (piece : Option TokenKind) (rest : List ℕ) : Type 0 where
  pub begins : Begins text piece rest
  pub longest : (other : Option TokenKind) (after : List ℕ) → Begins text other after → length rest ≤ length after

-- no token, blank or comment begins the text
abbrev pub BeginsNothing : List ℕ → Type 0
BeginsNothing text = (piece : Option TokenKind) (rest : List ℕ) → Begins text piece rest → ⊥
