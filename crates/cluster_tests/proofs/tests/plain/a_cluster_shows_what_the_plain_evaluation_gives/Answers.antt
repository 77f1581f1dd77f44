use Rattle.run_text.proofs.Printable.{printable}
use Rattle.cluster_tests.proofs.tests.plain.a_cluster_shows_what_the_plain_evaluation_gives.Goals as goal

pub report-requires : goal.report-requires
report-requires g c = record { printable = printable c.in_ok-program.program.items c.in_ok-program.ensures.sound }
