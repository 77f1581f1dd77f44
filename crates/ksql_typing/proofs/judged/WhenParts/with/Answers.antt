use Rattle.std.proofs.Common.{rules}
use Rattle.ksql_typing.proofs.Parts.{whens-behind}
use Rattle.ksql_typing.proofs.judged.WhenParts.with.Goals as goal

pub returns : goal.returns
returns c = whens-behind c.args.self c.args.cond c.args.then _ c.in_ok-with_when_tree.ensures (search rules) (search rules) (search rules) (search rules)
