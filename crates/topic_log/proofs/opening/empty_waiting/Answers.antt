use Rattle.std.proofs.Common.{◌≡◌, ◌∙◌, ap, ℕ, ◌+◌, [], ◌∷◌, ◌++◌, length}
use Rattle.std.specs.Global.{Global}
use Rattle.std.specs.declared.collections.VecDeque.{VecDeque}
use Rattle.std.proofs.lemmas.List.{length_push}
use Rattle.std.proofs.lemmas.List.Elements.{All-push, All-same}
use Rattle.ksql_place.specs.declared.change.Change.{Change}
use Rattle.topic_log.proofs.opening.empty_waiting.Goals as goal

pub loop-preserved : goal.loop-preserved
loop-preserved c = record {
  count = ap length c.in_ok-push.ensures.items ∙ length_push c.loop.waiting.items c.new.result ∙ ap (λ (n : ℕ). n + 1) c.loop.invariant.count;
  empty = All-same (λ (w : VecDeque Change Global). w.items ≡ []) c.push.new.self.items (c.loop.waiting.items ++ c.new.result ∷ []) c.in_ok-push.ensures.items
      (All-push (λ (w : VecDeque Change Global). w.items ≡ []) c.loop.waiting.items c.new.result c.loop.invariant.empty c.new.ensures.items);
}
