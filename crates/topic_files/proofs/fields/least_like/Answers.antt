-- For each member in turn: if it matches the name, the lesser of it and what was found before it.
use Rattle.std.proofs.Common.{ℕ, List, true, false, Some, Bor, option_map, sym, ap, ◌∙◌}
use Rattle.topic_files.specs.Cells.{lesser}
use Rattle.topic_files.specs.Tree.{named}
use Rattle.topic_files.specs.declared.tree.Json.{Json}
use Rattle.topic_files.proofs.Members.{is_like-is, least_like-elsewhere, least_like-here}
use Rattle.topic_files.proofs.fields.least_like.Goals as goal
use Rattle.topic_files.proofs.fields.least_like.Goals.{then-eq_ignore_ascii_case, else-eq_ignore_ascii_case}

pub loop-member-preserved : goal.loop-member-preserved
loop-member-preserved c =
    let name = c.args.name.now in
    let members = c.args.members.now in
    let i = c.loop-member.member-index in
    let m = c.member-item.result in
    let seen = option_map (λ (one : Bor (Bor (List ℕ) × Json)). named one.now) in
    elim c.if-eq_ignore_ascii_case.branch [
      | then-eq_ignore_ascii_case w ↦
          let like = is_like-is m.0.now name true w.if-eq_ignore_ascii_case.ensures.test in
          ap seen w.least-is ∙ ap Some (w.lesser.ensures ∙ ap (lesser (named m)) c.loop-member.invariant)
          ∙ sym (least_like-here name members i m c.loop-member-test.true c.member-item.is like)
      | else-eq_ignore_ascii_case w ↦
          let unlike = is_like-is m.0.now name false w.if-eq_ignore_ascii_case.ensures.test in
          ap seen w.least-is ∙ c.loop-member.invariant
          ∙ sym (least_like-elsewhere name members i m c.loop-member-test.true c.member-item.is unlike)
    ]
