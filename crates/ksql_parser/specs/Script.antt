-- The statements of a list of tokens, and the trees of all of them or the first refusal.
use Rattle.std.specs.Prelude.{◌≡◌, ℕ, suc, ◌≤◌, Bool, true, false, if◌then◌else◌, List, [], ◌∷◌, length, filter, Result, Ok, Err}
use Rattle.std.specs.List.{AllZip}
use Rattle.std.specs.Global.{Vec}
use Rattle.ksql_types.specs.Text.{longest_text}
use Rattle.ksql_lexer.specs.declared.token.Token.{Token}
use Rattle.ksql_lexer.specs.declared.token.TokenKind.{TokenKind}
use Rattle.ksql_lexer.specs.Script.{AreTokens, is_semicolon, kinds}
use Rattle.ksql_types.specs.declared.code.Code.{Code}
use Rattle.ksql_parser.specs.declared.fault.ParseFault.{ParseFault}
use Rattle.ksql_parser.specs.declared.fault.ParseFault.TheVariants.{Refused, OutOfMemory}
use Rattle.statement_trees.specs.declared.tree.Statement.{Statement}
use Rattle.ksql_parser.specs.Grammar.{IsSpelledBy}
use Rattle.ksql_parser.specs.Limits.{rules, RefusesFirst, NoneRefuses}

-- the tokens are those of a text that isn't too long
abbrev pub AreOfText : List Token → Type 0
AreOfText ts = (text : List ℕ) × (length text ≤ longest_text) × AreTokens text ts

-- the lists, with a token in front of the first one
abbrev pub onto_first : TokenKind → List (List TokenKind) → List (List TokenKind)
onto_first t [] = (t ∷ []) ∷ []
onto_first t (first ∷ others) = (t ∷ first) ∷ others

-- the lists of tokens between the signs `;`
abbrev pub parts : List TokenKind → List (List TokenKind)
parts [] = [] ∷ []
parts (t ∷ ts) = if is_semicolon t then [] ∷ parts ts else onto_first t (parts ts)

abbrev pub is_filled : List TokenKind → Bool
is_filled [] = false
is_filled _ = true

-- the statements: the lists that aren't empty
abbrev pub statements : List TokenKind → List (List TokenKind)
statements ts = filter is_filled (parts ts)

-- no rule refuses a statement, and this is its tree
abbrev pub IsTreeOf : List TokenKind → Statement → Type 0
IsTreeOf ts s = NoneRefuses rules ts × IsSpelledBy s ts

-- the trees of all statements, none of which is refused
abbrev pub AreTrees : List (List TokenKind) → List Statement → Type 0
AreTrees = AllZip IsTreeOf

-- the number, from 1, of the first statement that a rule refuses, and the code of its first rule
pub data FirstRefused : List (List TokenKind) → ℕ → Code → Type 0 where
  here : {ts : List TokenKind} {others : List (List TokenKind)} {code : Code}
      → RefusesFirst rules ts code → FirstRefused (ts ∷ others) 1 code
  later : {ts : List TokenKind} {others : List (List TokenKind)} {n : ℕ} {code : Code}
      → NoneRefuses rules ts → FirstRefused others n code → FirstRefused (ts ∷ others) (suc n) code

-- a result is right: the trees of the statements, or the first refusal
abbrev pub IsParsed : List Token → Result (Vec Statement) ParseFault → Type 0
IsParsed ts (Ok trees) = AreTrees (statements (kinds ts)) trees.items
IsParsed ts (Err (Refused n code)) = FirstRefused (statements (kinds ts)) n code
IsParsed ts (Err OutOfMemory) = Unit {0}

-- the result is this, unless memory ran out
abbrev pub Answers : Result (Vec Statement) ParseFault → Result (List Statement) ParseFault → Type 0
Answers (Ok trees) wanted = wanted ≡ Ok trees.items
Answers (Err (Refused n code)) wanted = wanted ≡ Err (Refused n code)
Answers (Err OutOfMemory) wanted = Unit {0}
