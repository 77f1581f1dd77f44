use Rattle.std.proofs.Common.{rules}
use Rattle.ksql_typing.proofs.Parts.{parts-behind}
use Rattle.ksql_typing.proofs.judged.Parts.with.Goals as goal

pub returns : goal.returns
returns c = parts-behind c.args.self c.args.part _ c.in_ok-with_tree.ensures (search rules) c.either.ensures c.either-2.ensures
