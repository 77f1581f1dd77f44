use Rattle.std.proofs.Common.{◌+◌, ◌*◌, length}
use Rattle.json.specs.Json.{value}
use Rattle.topic_files.specs.Tree.{members_view}
use Rattle.topic_files.proofs.ReadLemmas.{ItemsRead, MembersRead}
use Rattle.topic_files.proofs.read.+read.Given as goal

abbrev pub decreases-read_value : goal.decreases-read_value
decreases-read_value l = 2 * l.depth

abbrev pub decreases-read_array : goal.decreases-read_array
decreases-read_array l = 2 * l.depth + 1

abbrev pub decreases-read_object : goal.decreases-read_object
decreases-read_object l = 2 * l.depth + 1

abbrev pub invariant-read_array-items : goal.invariant-read_array-items
invariant-read_array-items l = ItemsRead (value l.depth) l.initial.reader l.found.items l.reader

abbrev pub decreases-read_array-items : goal.decreases-read_array-items
decreases-read_array-items l = length l.reader

abbrev pub invariant-read_object-members : goal.invariant-read_object-members
invariant-read_object-members l = MembersRead (value l.depth) l.initial.reader (members_view l.found.items) l.reader

abbrev pub decreases-read_object-members : goal.decreases-read_object-members
decreases-read_object-members l = length l.reader
