use Rattle.std.proofs.Common.{◌≡◌, map, take}
use Rattle.std.specs.Prelude.{filter, not}
use Rattle.ksql_nodes.specs.Entries.{is_same_key}
use Rattle.reference.specs.Grouping.{lent_standing}
use Rattle.reference.proofs.table_groups.standing_with.Given as goal

abbrev pub invariant-loop-other : goal.invariant-loop-other
invariant-loop-other l =
    map lent_standing l.standing.items
    ≡ filter (λ s. not (is_same_key s.entry.change.key l.member.entry.change.now.key)) (map lent_standing (take l.other-index l.before))
