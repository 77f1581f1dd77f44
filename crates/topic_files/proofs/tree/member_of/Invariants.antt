use Rattle.std.proofs.Common.{◌≡◌, ◌≤◌, length, take}
use Rattle.serde_json.specs.Find.{get_member}
use Rattle.topic_files.specs.Tree.{members_view}
use Rattle.topic_files.proofs.tree.member_of.Given as goal

-- no member after the remaining ones has the name
abbrev pub invariant-members : goal.invariant-members
invariant-members l = record {
  inside : l.left ≤ length l.fn.members;
  same : get_member l.fn.name (members_view l.fn.members) ≡ get_member l.fn.name (members_view (take l.left l.fn.members));
}

abbrev pub decreases-members : goal.decreases-members
decreases-members l = l.left
