use Rattle.std.proofs.Common.{◌≡◌, IfOk, Some, arith}
use Rattle.std.proofs.lemmas.Grind.{common_steps}
use Rattle.std.proofs.lemmas.Result.{IfOk-weaker}
use Rattle.command_line.specs.Words.{command_of}
use Rattle.command_line.proofs.Limits.{within_limits}
use Rattle.command_line.proofs.reading.read_words.Goals as goal

pub returns-in-len1-up-clause-limits : goal.returns-in-len1-up-clause-limits
returns-in-len1-up-clause-limits c =
    let read : IfOk c.named_command.result (λ command. command_of c.args.words.now ≡ Some command) = grind (arith, common_steps) in
    IfOk-weaker c.named_command.result _ _ (λ command is. within_limits c.args.words.now command is) read
