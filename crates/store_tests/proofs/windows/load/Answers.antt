use Rattle.std.proofs.Common.{◌==◌}
use Rattle.std.proofs.lemmas.List.Elements.{All-filter}
use Rattle.operator.specs.Holding.{IsWindowEntry}
use Rattle.store_tests.proofs.windows.load.Goals as goal

pub load-requires : goal.load-requires
load-requires c = All-filter (λ entry. entry.store == c.args.number) IsWindowEntry c.args.log.now c.requires
