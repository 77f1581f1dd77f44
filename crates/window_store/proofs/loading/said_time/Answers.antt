use Rattle.std.proofs.Common.{length, ap, ◌∙◌}
use Rattle.window_store.proofs.Logs.{length-of_time}
use Rattle.window_store.proofs.loading.said_time.Goals as goal

pub number_in-requires : goal.number_in-requires
number_in-requires c =
    ap length c.items.ensures ∙ length-of_time c.args.entry.now c.requires.loadable c.requires.of_time c.in-Some.value c.in-Some.is
