use Rattle.std.proofs.Common.{ℕ, ◌<◌, get_or}
use Rattle.ksql_program.specs.declared.program.Item.{Item}
use Rattle.short_laws.specs.Short.{HoldsInItem, HoldsTexts}
use Rattle.cluster_laws.proofs.texts.all_items.Given as goal

-- the texts visited so far are valid UTF-8
abbrev pub invariant-loop-item : goal.invariant-loop-item
invariant-loop-item l = (k : ℕ) (d : Item) → k < l.item-index → HoldsInItem HoldsTexts (get_or l.items k d)
