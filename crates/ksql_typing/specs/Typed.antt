-- Why an expression has no typed tree: the first of these that applies.
use Rattle.std.specs.Prelude.{◌≡◌, true, false, Result, Err}
use Rattle.expression_trees.specs.declared.tree.Expr.{Expr}
use Rattle.ksql_expr.specs.declared.typed.Typed.{Typed}
use Rattle.ksql_scopes.specs.declared.scope.Scope.{Scope}
use Rattle.ksql_typing.specs.Standing.{HasSomeType}
use Rattle.ksql_scopes.specs.Uses.{has_unknown_name, has_ambiguous_name, has_unknown_function}
use Rattle.ksql_typing.specs.declared.fault.TypeFault.{TypeFault}
use Rattle.ksql_typing.specs.declared.fault.TypeFault.TheVariants.{UnknownColumn, AmbiguousColumn, TypeMismatch, Unsupported, OutOfMemory}

-- each name stands for one thing
abbrev pub AreNamesClear : Scope → Expr → Type 0
AreNamesClear s a = (has_unknown_name s a ≡ false) × (has_ambiguous_name s a ≡ false)

abbrev pub HasFault : Scope → Expr → TypeFault → Type 0
HasFault s a UnknownColumn = has_unknown_name s a ≡ true
HasFault s a AmbiguousColumn = (has_unknown_name s a ≡ false) × (has_ambiguous_name s a ≡ true)
HasFault s a TypeMismatch = AreNamesClear s a × ¬ HasSomeType s a
HasFault s a Unsupported = AreNamesClear s a × HasSomeType s a × (has_unknown_function a ≡ true)
HasFault s a OutOfMemory = ⊥

-- the result is this, unless memory ran out
abbrev pub Answers : Result Typed TypeFault → Result Typed TypeFault → Type 0
Answers (Err OutOfMemory) wanted = Unit {0}
Answers answer wanted = answer ≡ wanted
