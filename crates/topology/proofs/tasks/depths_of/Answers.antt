use Rattle.std.proofs.Common.{◌≡◌, ◌∙◌, ap, sym, ℕ, ◌+◌, ◌≤◌, List, [], ◌∷◌, ◌++◌, length, map, take, arith}
use Rattle.std.specs.BTreeMap.{get, is_at}
use Rattle.std.specs.Map.{lookup}
use Rattle.std.specs.Ordering.{nat_cmp}
use Rattle.std.specs.Prelude.{Option, unwrap_or}
use Rattle.std.proofs.lemmas.List.{length-take, take_more}
use Rattle.ksql_place.specs.Order.{greatest}
use Rattle.topology.specs.declared.topology.Sub.{Sub}
use Rattle.topology.specs.declared.topology.SubInput.{SubInput}
use Rattle.topology.specs.Tasks.{depth_after}
use Rattle.topology.proofs.Depths.{depth-more, depth_after-within, greatest-within}
use Rattle.topology.proofs.tasks.depths_of.Goals as goal

pub loop-sub-init : goal.loop-sub-init
unfolding depth_after
loop-sub-init c = λ topic. ap (λ (entries : List (ℕ × ℕ)). unwrap_or (lookup (is_at (nat_cmp topic)) entries) 0) c.new-depths.ensures.empty

pub overflow_add-depth : goal.overflow_add-depth
overflow_add-depth c =
    let before : List Sub = take c.loop-sub.sub-index c.args.subs.now in
    let depth : SubInput → ℕ = λ input. unwrap_or (get nat_cmp c.loop-sub.depths input.topic) 0 in
    let within : (input : SubInput) → depth input ≤ length before =
    λ input. omega (arith, c.loop-sub.invariant input.topic, depth_after-within (λ _. 0) 0 before (λ t. omega arith) input.topic) in
    omega (arith, c.deepest-depth.ensures, greatest-within depth (length before) c.items.result.now within, length-take c.loop-sub.sub-index c.args.subs.now)

pub loop-sub-preserved : goal.loop-sub-preserved
loop-sub-preserved c = λ topic.
    let subs : List Sub = c.args.subs.now in
    let i : ℕ = c.loop-sub.sub-index in
    let sub : Sub = c.sub-item.result in
    let depth : ℕ = 1 + c.deepest-depth.result in
    let inputs-depth : List SubInput → ℕ = λ inputs. 1 + greatest (map (λ (input : SubInput). unwrap_or (get nat_cmp c.loop-sub.depths input.topic) 0) inputs) in
    let deep : depth ≡ inputs-depth sub.inputs = ap (λ (n : ℕ). 1 + n) c.deepest-depth.ensures ∙ ap inputs-depth c.items.ensures in
    let more : take (i + 1) subs ≡ take i subs ++ sub ∷ [] = take_more subs i sub c.loop-sub-test.true ∙ ap (λ (s : Sub). take i subs ++ s ∷ []) (sym c.sub-item.is) in
    ap (λ (found : Option ℕ). unwrap_or found 0) (c.in_ok-insert.ensures.updates.0 topic)
    ∙ depth-more (get nat_cmp c.loop-sub.depths) (take i subs) sub depth c.loop-sub.invariant deep topic
    ∙ ap (λ (ss : List Sub). depth_after (λ _. 0) ss topic) (sym more)
