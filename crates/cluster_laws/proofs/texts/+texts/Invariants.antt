use Rattle.std.proofs.Common.{ℕ, ◌<◌, get_or}
use Rattle.ksql_expr.specs.declared.typed.Typed.{Typed}
use Rattle.ksql_expr.specs.declared.typed.TypedWhen.{TypedWhen}
use Rattle.short_laws.specs.Short.{HoldsTexts}
use Rattle.cluster_laws.specs.Texts.{WhenHoldsTexts}
use Rattle.cluster_laws.proofs.texts.+texts.Given as goal

-- the texts visited so far are valid UTF-8
abbrev pub invariant-each_texts-loop-tree : goal.invariant-each_texts-loop-tree
invariant-each_texts-loop-tree l = (k : ℕ) (d : Typed) → k < l.tree-index → HoldsTexts (get_or l.tree-items k d)

abbrev pub invariant-each_when_texts-loop-when : goal.invariant-each_when_texts-loop-when
invariant-each_when_texts-loop-when l = (k : ℕ) (d : TypedWhen) → k < l.when-index → WhenHoldsTexts (get_or l.when-items k d)
