use Rattle.std.proofs.Common.{◌≡◌, ◌∙◌, ◌-◌, ℕ, ap, arith, get_or, length}
use Rattle.topic_log.proofs.Choice.{due_le}
use Rattle.topic_log.proofs.Whole.{due-all}
use Rattle.topic_log.proofs.commits.is_all_due.Goals as goal

pub returns-in-Some : goal.returns-in-Some
returns-in-Some c due =
    let xs = c.args.changes.now.items in
    let last = c.in-Some.last.now in
    let long : c.args.changes.now.len ≡ length xs = omega (arith, c.args.changes.now.ok.0) in
    due-all c.args.closed xs last c.requires (c.in-Some.ensures.lookup ∙ ap (λ (n : ℕ). get_or xs (n - 1) last) long)
    (due_le c.args.closed last.place.stamp.feed due)
