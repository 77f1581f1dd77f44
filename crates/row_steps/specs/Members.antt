-- Rows that are lent beside their groups.
use Rattle.ksql_nodes.specs.Groups.{Member}
use Rattle.row_steps.specs.declared.groups.RowInGroup.{RowInGroup}

-- a row that is lent beside its group
abbrev pub member_of : RowInGroup → Member
member_of m = record { group = m.group; row = m.row.now }
