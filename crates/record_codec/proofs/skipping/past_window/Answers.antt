use Rattle.std.proofs.Common.{◌≡◌, ◌∙◌, sym, arith, get_or}
use Rattle.record_codec.proofs.Passing.{after_first, span-content}
use Rattle.record_codec.proofs.skipping.past_window.Goals as goal

pub returns-in-1 : goal.returns-in-1
returns-in-1 c = λ x after fit e.
    let first : get_or c.args.bytes.now 0 0 ≡ 1 = omega arith in
    let b = span-content x _ after (sym (after_first c.args.bytes.now 1 c.in-1.len_at_least first) ∙ e) in
    c.past.ensures b.0 after b.1 b.2
