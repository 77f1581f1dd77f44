-- Reading a script: from its bytes to the trees of its statements, or to its refusal.
use Rattle.std.specs.Prelude.{ℕ, ◌<◌, ◌≤◌, length, List, Result, Ok, Err}
use Rattle.std.specs.Global.{Vec}
use Rattle.std.specs.Str.{IsUtf8}
use Rattle.ksql_types.specs.Text.{longest_text}
use Rattle.ksql_types.specs.declared.code.Code.{Code}
use Rattle.ksql_types.specs.declared.code.Code.TheVariants.{Syntax, TooLarge}
use Rattle.ksql_lexer.specs.declared.token.Token.{Token}
use Rattle.ksql_lexer.specs.Script.{AreTokens, BreaksIn, kinds}
use Rattle.statement_trees.specs.declared.tree.Statement.{Statement}
use Rattle.ksql_parser.specs.Script.{AreTrees, FirstRefused, statements}
use Rattle.ksql_script.specs.declared.fault.ScriptFault.{ScriptFault}
use Rattle.ksql_script.specs.declared.fault.ScriptFault.TheVariants.{Refused, OutOfMemory}

-- a refusal: the statement, from 1 (0 is the script as a whole), and the code
abbrev pub Refusal : Type 0
Refusal = ℕ × Code

-- the bytes are a text that isn't too long
abbrev pub IsText : List ℕ → Type 0
IsText bytes = (length bytes ≤ longest_text) × IsUtf8 bytes

-- a script is read as the trees of its statements, or refused: it is too long; it isn't UTF-8; at some place no token
-- begins; or a rule of the grammar refuses a statement
pub data Reads (script : List ℕ) : Result (List Statement) Refusal → Type 0 where
  too_long : longest_text < length script → Reads script (Err (0, TooLarge))
  not_utf8 : length script ≤ longest_text → ¬ (IsUtf8 script) → Reads script (Err (0, Syntax))
  no_token : {statement : ℕ} → IsText script → BreaksIn script statement → Reads script (Err (statement, Syntax))
  no_tree : {ts : List Token} {statement : ℕ} {code : Code} → IsText script → AreTokens script ts
      → FirstRefused (statements (kinds ts)) statement code → Reads script (Err (statement, code))
  all_trees : {ts : List Token} {trees : List Statement} → IsText script → AreTokens script ts → AreTrees (statements (kinds ts)) trees
      → Reads script (Ok trees)

-- a result is right: the trees, or the refusal
abbrev pub IsRead : List ℕ → Result (Vec Statement) ScriptFault → Type 0
IsRead script (Ok trees) = Reads script (Ok trees.items)
IsRead script (Err (Refused statement code)) = Reads script (Err (statement, code))
IsRead script (Err OutOfMemory) = Unit {0}
