use Rattle.std.proofs.Common.{◌≡◌, ◌∙◌, sym, arith, get_or}
use Rattle.record_codec.proofs.Passing.{after_first, int-content, big-content, truth-content}
use Rattle.record_codec.proofs.skipping.past_value.Goals as goal

pub returns-in-1 : goal.returns-in-1
returns-in-1 c = λ x after fit e.
    let first : get_or c.args.bytes.now 0 0 ≡ 1 = omega arith in
    let b = int-content x _ after (sym (after_first c.args.bytes.now 1 c.in-1.len_at_least first) ∙ e) in
    c.past.ensures b.0 after b.1 b.2

pub returns-in-2 : goal.returns-in-2
returns-in-2 c = λ x after fit e.
    let first : get_or c.args.bytes.now 0 0 ≡ 2 = omega arith in
    let b = big-content x _ after (sym (after_first c.args.bytes.now 2 c.in-2.len_at_least first) ∙ e) in
    c.past-in-2.ensures b.0 after b.1 b.2

pub returns-in-4 : goal.returns-in-4
returns-in-4 c = λ x after fit e.
    let first : get_or c.args.bytes.now 0 0 ≡ 4 = omega arith in
    let b = truth-content x _ after (sym (after_first c.args.bytes.now 4 c.in-4.len_at_least first) ∙ e) in
    c.past-in-4.ensures b.0 after b.1 b.2
