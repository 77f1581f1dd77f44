use Rattle.std.proofs.Common.{◌∙◌}
use Rattle.join_ops.proofs.tables.turned.Goals as goal

pub returns-clause-next : goal.returns-clause-next
returns-clause-next c = λ side mine others own other.
    let turned_to = c.in_ok-turn_at.ensures.next side mine own in
    (turned_to.0, c.in_ok-standing_at.ensures c.args.change.now.key others (c.items-2.ensures ∙ c.in_ok-key.ensures.bytes) c.in_ok-key.ensures.spellable other, turned_to.1)
