use Rattle.std.proofs.Common.{refl}
use Rattle.ksql_cli.specs.Stages.{run_of}
use Rattle.ksql_cli.proofs.Runs.{runs-inputs}
use Rattle.ksql_cli.proofs.Stages.{when-known}
use Rattle.ksql_cli.proofs.texts.reported.Goals as goal

pub report-requires-clause-came : goal.report-requires-clause-came
report-requires-clause-came g c = (run_of c.args.asked.now c.in_ok-ran.ran c.in_ok-inputs.inputs.files.items, refl, c.in_ok-ran.ensures.cluster)

pub returns-clause-text : goal.returns-clause-text
returns-clause-text g c =
    let run = run_of c.args.asked.now c.in_ok-ran.ran c.in_ok-inputs.inputs.files.items in
    when-known _ _ (g.F.Folder.files c.args.folder.now)
    (λ all read. (
      run,
      runs-inputs c.args.asked.now all c.in_ok-inputs.inputs c.in_ok-ran.ran c.in_ok-ran.ensures.program c.in_ok-ran.ensures.schedule read,
      c.in_ok-text.ensures run refl refl refl c.in_ok-ran.ensures.cluster,
    )) c.in_ok-inputs.ensures.read

pub returns-clause-ran : goal.returns-clause-ran
returns-clause-ran g c =
    when-known _ _ (g.F.Folder.files c.args.folder.now)
    (λ all read. (
      run_of c.args.asked.now c.in_ok-ran.ran c.in_ok-inputs.inputs.files.items,
      runs-inputs c.args.asked.now all c.in_ok-inputs.inputs c.in_ok-ran.ran c.in_ok-ran.ensures.program c.in_ok-ran.ensures.schedule read,
      c.in_ok-ran.ensures.cluster,
    )) c.in_ok-inputs.ensures.read
