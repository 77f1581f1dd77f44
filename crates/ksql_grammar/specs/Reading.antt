-- What the reading functions return, and where an expression ends.
use Rattle.std.specs.Prelude.{◌≡◌, Bool, true, false, List, [], ◌∷◌, Option, Some, None, option_map, Result, Ok, Err}
use Rattle.std.specs.Global.{Vec}
use Rattle.std.specs.Borrow.{Bor}
use Rattle.ksql_lexer.specs.declared.token.Mark.{Mark}
use Rattle.ksql_lexer.specs.declared.token.Mark.TheVariants as mark
use Rattle.ksql_grammar.specs.declared.symbol.Keyword.{Keyword}
use Rattle.ksql_grammar.specs.declared.symbol.Keyword.TheVariants as key
use Rattle.ksql_grammar.specs.declared.symbol.Symbol.{Symbol}
use Rattle.ksql_grammar.specs.declared.symbol.Symbol.TheVariants.{Key, Sign}
use Rattle.ksql_grammar.specs.declared.fault.ReadError.{ReadError}
use Rattle.ksql_grammar.specs.declared.fault.ReadError.TheVariants.{Unspelled, OutOfMemory}

-- what a function returned, seen through a view, is what is read, unless memory ran out
abbrev pub Gives : {X Y : Type 0} → (X → Y) → Result X ReadError → Option Y → Type 0
Gives seen (Ok x) read = read ≡ Some (seen x)
Gives seen (Err Unspelled) read = read ≡ None
Gives seen (Err OutOfMemory) read = Unit {0}

-- a tree, and the symbols after it
abbrev pub with_rest : {A : Type 0} → A × Bor (List Symbol) → A × List Symbol
with_rest x = (x.0, x.1.now)

-- the same for a list
abbrev pub with_items : {A : Type 0} → Vec A × Bor (List Symbol) → List A × List Symbol
with_items x = (x.0.items, x.1.now)

abbrev pub option_with_rest : {A : Type 0} → Option (A × Bor (List Symbol)) → Option (A × List Symbol)
option_with_rest o = option_map with_rest o

-- a reserved word that may continue an expression
abbrev pub key_goes_on : Keyword → Bool
key_goes_on key.Or = true
key_goes_on key.And = true
key_goes_on key.Not = true
key_goes_on key.Is = true
key_goes_on key.Between = true
key_goes_on key.In = true
key_goes_on key.Like = true
key_goes_on _ = false

-- a sign that may continue an expression
abbrev pub sign_goes_on : Mark → Bool
sign_goes_on mark.Close = false
sign_goes_on mark.Comma = false
sign_goes_on mark.Semicolon = false
sign_goes_on _ = true

abbrev pub goes_on : Symbol → Bool
goes_on (Key k) = key_goes_on k
goes_on (Sign m) = sign_goes_on m
goes_on _ = false

-- no expression continues with these symbols
abbrev pub EndsExpr : List Symbol → Type 0
EndsExpr [] = Unit {0}
EndsExpr (s ∷ ss) = goes_on s ≡ false

abbrev pub is_comma : Symbol → Bool
is_comma (Sign mark.Comma) = true
is_comma _ = false

-- no list of expressions does
abbrev pub EndsExprs : List Symbol → Type 0
EndsExprs [] = Unit {0}
EndsExprs (s ∷ ss) = (goes_on s ≡ false) × (is_comma s ≡ false)
