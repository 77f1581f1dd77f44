-- The meaning of a script: its program, or its first refusal.
use Rattle.std.specs.Prelude.{◌⊎◌, ℕ, List, Result, Ok, Err}
use Rattle.ksql_types.specs.declared.code.Code.{Code}
use Rattle.statement_trees.specs.declared.tree.Statement.{Statement}
use Rattle.ksql_program.specs.declared.program.Item.{Item}
use Rattle.ksql_program.specs.declared.program.Program.{Program}
use Rattle.ksql_analyse.specs.Judgement.{IsProgramOf, AreRefused}
use Rattle.ksql_script.specs.declared.fault.ScriptFault.{ScriptFault}
use Rattle.ksql_script.specs.declared.fault.ScriptFault.TheVariants.{Refused, OutOfMemory}
use Rattle.ksql_script.specs.Reading.{Reads}

-- a script is refused in this statement with this code: by the lexer or parser, or by the judgement of its trees
abbrev pub IsRefused : List ℕ → ℕ → Code → Type 0
IsRefused script statement code =
    Reads script (Err (statement, code)) ⊎ ((trees : List Statement) × Reads script (Ok trees) × AreRefused trees statement code)

-- a script is accepted as a program of these items: the judgement of its trees gives these items
pub record IsScriptOf (script : List ℕ) (items : List Item) : Type 0 where
  pub trees : List Statement
  pub read : Reads script (Ok trees)
  pub judged : IsProgramOf trees items

-- the script is accepted, and this is its program
abbrev pub IsAccepted : List ℕ → Program → Type 0
IsAccepted script program = IsScriptOf script program.items

-- a result is right: the program, or the first refusal
abbrev pub IsAnswer : List ℕ → Result Program ScriptFault → Type 0
IsAnswer script (Ok program) = IsAccepted script program
IsAnswer script (Err (Refused statement code)) = IsRefused script statement code
IsAnswer script (Err OutOfMemory) = Unit {0}
