use Rattle.ksql_script.proofs.SomeScript.{some_script}
use Rattle.ksql_script.proofs.laws.some_script.Goals as goal

pub returns : goal.returns
returns c = some_script
