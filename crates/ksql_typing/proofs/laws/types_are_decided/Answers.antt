use Rattle.ksql_typing.proofs.OneTyping.{checked, one-tree}
use Rattle.ksql_typing.proofs.TypeLaws.{types, tree, accepted, tree_type, known, names_clear}
use Rattle.ksql_typing.proofs.laws.types_are_decided.Goals as goal

pub returns : goal.returns
returns c = record { types = types; tree = tree; one_tree = one-tree; accepted = accepted; tree_type = tree_type; known = known; checked = checked; clear = names_clear }
