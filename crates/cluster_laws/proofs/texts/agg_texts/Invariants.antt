use Rattle.std.proofs.Common.{ℕ, ◌<◌, get_or, IfSome}
use Rattle.ksql_program.specs.declared.query.Agg.{Agg}
use Rattle.short_laws.specs.Short.{HoldsTexts}
use Rattle.cluster_laws.proofs.texts.agg_texts.Given as goal

-- the texts visited so far are valid UTF-8
abbrev pub invariant-loop-agg : goal.invariant-loop-agg
invariant-loop-agg l = (k : ℕ) (d : Agg) → k < l.agg-index → IfSome (get_or l.agg-items k d).arg HoldsTexts
