use Rattle.std.specs.Prelude.{IsTrue}
use Rattle.core_state.specs.Whole.{AreStores, held_by}
use Rattle.core_state.specs.Wired.{mean_of, AreCounted}
use Rattle.core_state.proofs.Events.{events-keep-good, runs-are-good, same-numbers}
use Rattle.core_state.proofs.Whole.{is-meaning, cuts-alike}
use Rattle.core_state.proofs.laws.events_keep_good.Goals as goal

pub returns : goal.returns
returns c = record {
  each = λ w one topics hold steps shape staged holds. events-keep-good (held_by w hold) AreCounted (mean_of w topics)
      (is-meaning w one topics (AreStores hold) hold.replay (λ t x. IsTrue (hold.may_load t x)) steps shape staged holds);
  runs = λ w one topics hold steps shape staged holds. runs-are-good (held_by w hold) AreCounted (mean_of w topics)
      (is-meaning w one topics (AreStores hold) hold.replay (λ t x. IsTrue (hold.may_load t x)) steps shape staged holds);
  cut = λ w one topics steps staged. cuts-alike w one topics steps staged;
  numbers = λ w hold d means. same-numbers (held_by w hold) d means;
}
