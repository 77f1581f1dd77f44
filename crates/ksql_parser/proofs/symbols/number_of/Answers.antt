use Rattle.ksql_parser.proofs.Numbers.{capped}
use Rattle.ksql_parser.proofs.symbols.number_of.Goals as goal

pub returns-in-Err : goal.returns-in-Err
returns-in-Err c = capped c.args.digits.now c.parse.result c.parse.ensures.value.0 c.in-Err.field-0 c.in-Err.is c.requires
