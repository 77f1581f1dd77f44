use Rattle.std.proofs.Common.{◌≡◌, ◌∙◌, ap, sym, subst, ℕ, get_or, set, vec_len}
use Rattle.topic_log.proofs.Parts.{IsCommitting, committing_all, committing_more}
use Rattle.topic_log.proofs.commits.commit_parts.Goals as goal

pub loop-changes-preserved : goal.loop-changes-preserved
loop-changes-preserved c =
    let now = c.loop-changes.parts in
    let m = c.len.result in
    let p = get_or now m c.index-parts-len.result in
    let more = committing_more c.args.closed c.args.writer (vec_len c.loop-changes.sent) m c.args.sent.items c.loop-changes.sent.items c.pop.new.self.items c.in-Some.changes p c.commit_part.new.part
    c.args.parts.now now c.loop-changes.invariant c.in-Some.ensures.items (sym (c.len.ensures ∙ c.pop.new.self.ok.0)) (ap (get_or now m) c.index-parts-len.is) c.commit_part.ensures in
    subst (λ (n : ℕ). IsCommitting c.args.closed c.args.writer n c.args.sent.items c.pop.new.self.items c.args.parts.now (set now m c.commit_part.new.part)) c.len.ensures more

pub returns : goal.returns
returns c =
    let none : vec_len c.loop-changes.sent ≡ 0 = c.in_default.ensures.cases.0 in
    let committing = subst (λ (n : ℕ). IsCommitting c.args.closed c.args.writer n c.args.sent.items c.loop-changes.sent.items c.args.parts.now c.loop-changes.parts) none c.loop-changes.invariant in
    committing_all c.args.closed c.args.writer c.args.sent.items c.loop-changes.sent.items c.args.parts.now c.loop-changes.parts committing
