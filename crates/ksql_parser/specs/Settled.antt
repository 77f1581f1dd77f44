-- What reading one statement, and all of them, settles.
use Rattle.std.specs.Prelude.{◌≡◌, ℕ, List, Result, Ok, Err}
use Rattle.std.specs.Global.{Vec}
use Rattle.ksql_lexer.specs.declared.token.TokenKind.{TokenKind}
use Rattle.statement_trees.specs.declared.tree.Statement.{Statement}
use Rattle.ksql_parser.specs.Grammar.{IsSpelledBy}
use Rattle.ksql_parser.specs.declared.fault.ParseFault.{ParseFault}
use Rattle.ksql_parser.specs.declared.fault.ParseFault.TheVariants.{Refused, OutOfMemory}
use Rattle.ksql_parser.specs.Limits.{rules, RefusesFirst}
use Rattle.ksql_parser.specs.Script.{IsTreeOf, AreTrees, FirstRefused}

-- it is the statement's only tree
abbrev pub IsOnlyTree : List TokenKind → Statement → Type 0
IsOnlyTree ts s = IsTreeOf ts s × ((other : Statement) → IsSpelledBy other ts → other ≡ s)

-- a result for the statement with a number: its only tree, or the code of the first rule that refuses it
abbrev pub SettlesOne : ℕ → List TokenKind → Result Statement ParseFault → Type 0
SettlesOne number ts (Ok s) = IsOnlyTree ts s
SettlesOne number ts (Err (Refused n code)) = (n ≡ number) × RefusesFirst rules ts code
SettlesOne number ts (Err OutOfMemory) = Unit {0}

-- they are the only trees of the statements
abbrev pub AreOnlyTrees : List (List TokenKind) → List Statement → Type 0
AreOnlyTrees tss trees = AreTrees tss trees × ((others : List Statement) → AreTrees tss others → others ≡ trees)

-- a result for all statements: their only trees, or the first refusal
abbrev pub Settles : List (List TokenKind) → Result (Vec Statement) ParseFault → Type 0
Settles tss (Ok trees) = AreOnlyTrees tss trees.items
Settles tss (Err (Refused n code)) = FirstRefused tss n code
Settles tss (Err OutOfMemory) = Unit {0}
