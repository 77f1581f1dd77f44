-- A line ends at the first line feed, or at the end of the file.
use Rattle.std.proofs.Common.{length, rules, arith, ap, sym, ◌∙◌}
use Rattle.std.proofs.lemmas.List.{take_rest}
use Rattle.topic_files.proofs.LineLemmas.{lines_of-at, lines_of-whole}
use Rattle.topic_files.proofs.lines.LinesIterator.next.Goals as goal

pub returns-in-Some-clause-steps : goal.returns-in-Some-clause-steps
returns-in-Some-clause-steps c =
    let rest = c.self.inside.rest.now in
    let split = lines_of-at rest c.in-Some.end (search rules) (search rules) (search rules) in
    sym c.self.view_is ∙ split ∙ simp take_rest

pub returns-in-Some-clause-goes : goal.returns-in-Some-clause-goes
returns-in-Some-clause-goes c =
    record { on = λ _. (tt, tt, omega (arith, ap length (returns-in-Some-clause-steps c))); keeps = tt; rests = λ _. tt }

pub returns-in-None-clause-steps : goal.returns-in-None-clause-steps
returns-in-None-clause-steps c = sym c.self.view_is ∙ lines_of-whole c.self.inside.rest.now (search rules) (search rules)
