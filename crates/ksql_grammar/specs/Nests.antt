-- A function value that reads expressions up to some depth.
use Rattle.std.specs.Prelude.{ℕ, List, Result}
use Rattle.std.specs.declared.alloc.Global.{Global}
use Rattle.std.specs.Borrow.{Bor}
use Rattle.ksql_grammar.specs.declared.fault.ReadError.{ReadError}
use Rattle.ksql_grammar.specs.declared.symbol.Symbol.{Symbol}
use Rattle.expression_trees.specs.declared.tree.Expr.{Expr}
use Rattle.ksql_grammar.specs.Reading.{Gives, with_rest}
use Rattle.ksql_grammar.specs.Expressions.{Reader, within}

pub record Nests (room : ℕ) (pre : Global → ℕ → Bor (List Symbol) → Type 0)
    (post : Global → ℕ → Bor (List Symbol) → Result (Expr × Bor (List Symbol)) ReadError → Type 0) : Type 0 where
  pub callable : (alloc : Global) (symbols : Bor (List Symbol)) → pre alloc room symbols
  pub reads : (alloc : Global) (symbols : Bor (List Symbol)) (r : Result (Expr × Bor (List Symbol)) ReadError) → post alloc room symbols r
      → Gives with_rest r (within room symbols.now)

-- A function value that reads as a reader does.
pub record ReadsAs {A : Type 0} (read : Reader A) (pre : Bor (List Symbol) → Type 0) (post : Bor (List Symbol) → Result (A × Bor (List Symbol)) ReadError → Type 0) : Type 0 where
  pub callable : (symbols : Bor (List Symbol)) → pre symbols
  pub reads : (symbols : Bor (List Symbol)) (r : Result (A × Bor (List Symbol)) ReadError) → post symbols r → Gives with_rest r (read symbols.now)
