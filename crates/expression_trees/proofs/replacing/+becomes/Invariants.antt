use Rattle.std.proofs.Common.{◌≡◌, take, map}
use Rattle.expression_trees.specs.Parts.{becomes, when_becomes}
use Rattle.expression_trees.proofs.replacing.+becomes.Given as goal

-- the results so far are those of a prefix of the list
abbrev pub invariant-each_becomes-loop-expr : goal.invariant-each_becomes-loop-expr
invariant-each_becomes-loop-expr g l = l.made.items ≡ map (becomes (g.R.Replaces.decide l.replaces)) (take l.expr-index l.expr-items)

abbrev pub invariant-each_when_becomes-loop-when : goal.invariant-each_when_becomes-loop-when
invariant-each_when_becomes-loop-when g l = l.made.items ≡ map (when_becomes (g.R.Replaces.decide l.replaces)) (take l.when-index l.when-items)
