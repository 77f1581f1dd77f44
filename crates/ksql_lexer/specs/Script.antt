-- The tokens of a script, and its statements.
use Rattle.std.specs.Prelude.{◌≡◌, ◌≢◌, ℕ, ◌+◌, Bool, true, false, if◌then◌else◌, List, [], ◌∷◌, ◌++◌, map, Some, None, Result, Ok, Err}
use Rattle.std.specs.Global.{Vec}
use Rattle.ksql_lexer.specs.declared.fault.LexFault.{LexFault}
use Rattle.ksql_lexer.specs.declared.fault.LexFault.TheVariants.{Bad, OutOfMemory}
use Rattle.ksql_lexer.specs.declared.token.Mark.TheVariants as mark
use Rattle.ksql_lexer.specs.declared.token.Token.{Token}
use Rattle.ksql_lexer.specs.declared.token.TokenKind.{TokenKind}
use Rattle.ksql_lexer.specs.declared.token.TokenKind.TheVariants as kind
use Rattle.ksql_lexer.specs.Piece.{Longest, BeginsNothing}

-- the text is these tokens up to the rest: the longest at each place, skipping blanks and comments
pub data Lexes : List ℕ → List TokenKind → List ℕ → Type 0 where
  done : {text : List ℕ} → Lexes text [] text
  skip : {text after rest : List ℕ} {ks : List TokenKind} → Longest text None after → Lexes after ks rest → Lexes text ks rest
  next : {text after rest : List ℕ} {k : TokenKind} {ks : List TokenKind} → Longest text (Some k) after → Lexes after ks rest → Lexes text (k ∷ ks) rest

-- whether a token is the sign `;`
abbrev pub is_semicolon : TokenKind → Bool
is_semicolon (kind.Mark mark.Semicolon) = true
is_semicolon _ = false

-- how many non-empty statements end with `;`, where `begun` says whether the first one has earlier tokens
abbrev pub ended_from : Bool → List TokenKind → ℕ
ended_from begun [] = 0
ended_from begun (k ∷ ks) = if is_semicolon k then (if begun then 1 else 0) + ended_from false ks else ended_from true ks

-- the number of the statement after these tokens: one more than the number of non-empty statements that ended with `;`
abbrev pub statement_after : List TokenKind → ℕ
statement_after ks = 1 + ended_from false ks

-- each token has the number of its statement, given the tokens before
abbrev pub AreNumbered : List TokenKind → List Token → Type 0
AreNumbered before [] = Unit {0}
AreNumbered before (t ∷ ts) = (t.statement ≡ statement_after before) × AreNumbered (before ++ t.kind ∷ []) ts

-- the kinds of the tokens, without their numbers
abbrev pub kinds : List Token → List TokenKind
kinds ts = map (λ t. t.kind) ts

-- the text is these tokens, each with the number of its statement
pub record AreTokens (text : List ℕ) (ts : List Token) : Type 0 where
  pub lexes : Lexes text (kinds ts) []
  pub numbered : AreNumbered [] ts

-- the text is these tokens up to a place where no token, blank or comment begins
pub record Breaks (text : List ℕ) (ks : List TokenKind) (place : List ℕ) : Type 0 where
  pub lexes : Lexes text ks place
  pub more : place ≢ []
  pub nothing : BeginsNothing place

-- the first such place is in this statement
abbrev pub BreaksIn : List ℕ → ℕ → Type 0
BreaksIn text s = (ks : List TokenKind) × (place : List ℕ) × Breaks text ks place × (s ≡ statement_after ks)

-- a result is right: the text's tokens, or the statement of its first bad place
abbrev pub IsReading : List ℕ → Result (Vec Token) LexFault → Type 0
IsReading text (Ok tokens) = AreTokens text tokens.items
IsReading text (Err (Bad s)) = BreaksIn text s
IsReading text (Err OutOfMemory) = Unit {0}

-- the result is this, unless memory ran out
abbrev pub Answers : Result (Vec Token) LexFault → Result (List Token) LexFault → Type 0
Answers (Ok tokens) wanted = wanted ≡ Ok tokens.items
Answers (Err (Bad s)) wanted = wanted ≡ Err (Bad s)
Answers (Err OutOfMemory) wanted = Unit {0}
