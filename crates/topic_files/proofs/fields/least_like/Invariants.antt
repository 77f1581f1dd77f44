use Rattle.std.proofs.Common.{◌≡◌, option_map, take}
use Rattle.topic_files.specs.Cells.{least_like}
use Rattle.topic_files.specs.Tree.{members_view, named}
use Rattle.topic_files.proofs.fields.least_like.Given as goal

-- the least so far is the least among the members so far
abbrev pub invariant-loop-member : goal.invariant-loop-member
invariant-loop-member l = option_map (λ member. named member.now) l.least ≡ least_like l.fn.name (members_view (take l.member-index l.members))
