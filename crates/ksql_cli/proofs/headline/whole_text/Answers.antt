use Rattle.std.proofs.Common.{◌≡◌, ◌∙◌, ap, subst, sym, List, ◌++◌, ℕ}
use Rattle.std.specs.Prelude.{IfSome, Option, Some}
use Rattle.std.specs.List.{AllByRecursion}
use Rattle.command_line.specs.declared.asked.Command.{Command}
use Rattle.ksql_cli.specs.Command.{IsDueFor, told_for}
use Rattle.ksql_cli.proofs.headline.whole_text.Goals as goal

pub returns-in-Run-clause-reads : goal.returns-in-Run-clause-reads
returns-in-Run-clause-reads g c =
    let old = g.F.Folder.failed c.args.folder.now in
    let new = g.F.Folder.failed c.reported.new.folder in
    subst (λ (o : Option Command). IfSome (told_for o (g.F.Folder.files c.args.folder.now))
    (λ all. (names : List (List ℕ)) × (new ≡ old ++ names) × AllByRecursion (λ name. IsDueFor o all name) names))
    (sym (c.in_ok-script.ensures.read ∙ ap Some c.in-Run.is)) c.reported.ensures.reads
