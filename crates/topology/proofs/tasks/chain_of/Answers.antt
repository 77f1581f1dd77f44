use Rattle.std.proofs.Common.{◌≡◌, ◌∙◌, ap, subst, ℕ, List, rules}
use Rattle.std.specs.BTreeMap.{get}
use Rattle.std.specs.Ordering.{nat_cmp}
use Rattle.std.specs.Prelude.{IfOk, unwrap_or}
use Rattle.topology.specs.declared.topology.Sub.{Sub}
use Rattle.topology.specs.Tasks.{chain_of, depth_after}
use Rattle.topology.proofs.Depths.{greatest-same}
use Rattle.topology.proofs.tasks.chain_of.Goals as goal

pub returns : goal.returns
returns c =
    let subs : List Sub = c.args.t.now.subs in
    let listed : List Sub = c.items-subs.result.now in
    let known : Sub → ℕ = λ s. unwrap_or (get nat_cmp c.in_ok-depths.depths s.output) 0 in
    let same : c.longest.result ≡ chain_of listed =
    c.longest.ensures ∙ greatest-same known (λ (s : Sub). depth_after (λ _. 0) listed s.output) listed (λ s. c.in_ok-depths.ensures s.output) in
    let answered : IfOk c.map_err.result (λ chain. chain ≡ c.longest.result) = search rules in
    subst (λ (n : ℕ). IfOk c.map_err.result (λ chain. chain ≡ n)) (same ∙ ap chain_of c.items-subs.ensures) answered
