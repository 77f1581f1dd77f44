use Rattle.std.proofs.Common.{◌≡◌, ◌∙◌, ◌+◌, ◌++◌, List, [], ◌∷◌, ℕ, ap, sym, arith}
use Rattle.std.specs.List.{range_with_len}
use Rattle.std.proofs.lemmas.List.{map-id}
use Rattle.std.proofs.lemmas.List.FromFn.{map-range_with_len_more}
use Rattle.schedule_text.proofs.standing.Standing.first.Goals as goal

pub loop-before-preserved : goal.loop-before-preserved
loop-before-preserved c =
    let n : ℕ = c.loop-before.before in
    let more : range_with_len 1 (n + 1) ≡ range_with_len 1 n ++ (n + 1) ∷ [] =
    sym (map-id (range_with_len 1 (n + 1))) ∙ map-range_with_len_more (λ (k : ℕ). k) 1 n (n + 1) (omega arith) ∙ ap (λ (ws : List ℕ). ws ++ (n + 1) ∷ []) (map-id (range_with_len 1 n)) in
    c.in_ok-push.ensures.items ∙ ap (λ (ws : List ℕ). ws ++ (n + 1) ∷ []) c.loop-before.invariant ∙ sym more
