use Rattle.std.proofs.Common.{◌≡◌, ◌∙◌, ap, sym, refl, subst, ◌++◌, ℕ, length, map, string_bytes}
use Rattle.std.specs.Prelude.{OnOk}
use Rattle.std.proofs.lemmas.Option.{slice_get_past, slice_get_read}
use Rattle.query_meaning.specs.Meaning.{up_to}
use Rattle.run_text.specs.Lines.{shown_of}
use Rattle.run_text.specs.Report.{meant, section_text, skipped_of, Section}
use Rattle.run_text.proofs.ReportLemmas.{section-made}
use Rattle.reference.proofs.Sections.{changes_at-none, changes_at-some, skipped-cut}
use Rattle.reference.proofs.program_report.push_item.Goals as goal

pub returns-in_ok-lines-in-Some : goal.returns-in_ok-lines-in-Some
returns-in_ok-lines-in-Some c =
    let r = c.args.relation.now in
    let order = c.args.order.now in
    let lists = c.args.lists.now in
    let found = slice_get_read lists (length lists) r.number c.in-Some.listed.now refl c.in-Some.ensures.lookup.3.0 c.in-Some.ensures.lookup.1 in
    let skipped = c.skipped_of-skipped.ensures ∙ skipped-cut r c.closed_at-closed.result order ∙ ap (λ (feed : ℕ). skipped_of r (up_to feed order)) c.closed_at-closed.ensures in
    let shown = ap (map shown_of) c.as_slice.ensures.value ∙ c.in_ok-lines-in-Some.ensures ∙ ap (meant r) (sym (changes_at-some lists r.number c.in-Some.listed.now found)) in
    subst (λ (s : Section). OnOk c.push_section.result (string_bytes c.push_section.new.out ≡ string_bytes c.args.out.now ++ section_text s))
    (section-made r _ _ _ _ _ _ c.closed_at-closed.ensures skipped shown) c.push_section.ensures

pub returns-in-None : goal.returns-in-None
returns-in-None c =
    let r = c.args.relation.now in
    let order = c.args.order.now in
    let lists = c.args.lists.now in
    let skipped = c.skipped_of-skipped.ensures ∙ skipped-cut r c.closed_at-closed.result order ∙ ap (λ (feed : ℕ). skipped_of r (up_to feed order)) c.closed_at-closed.ensures in
    let shown = ap (meant r) (sym (changes_at-none lists r.number (slice_get_past lists r.number c.in-None.ensures.lookup.3))) in
    subst (λ (s : Section). OnOk c.push_section-in-None.result (string_bytes c.push_section-in-None.new.out ≡ string_bytes c.args.out.now ++ section_text s))
    (section-made r _ _ _ _ _ _ c.closed_at-closed.ensures skipped shown) c.push_section-in-None.ensures
