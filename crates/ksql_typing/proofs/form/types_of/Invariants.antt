use Rattle.std.proofs.Common.{◌≡◌, take}
use Rattle.ksql_expr.specs.Typing.{types}
use Rattle.ksql_typing.proofs.form.types_of.Given as goal

abbrev pub invariant-loop-part : goal.invariant-loop-part
invariant-loop-part l = l.found.items ≡ types (take l.part-index l.parts)
