use Rattle.std.proofs.Common.{◌≡◌, ◌∙◌, ◌++◌, [], ap, map, refl, string_bytes, subst}
use Rattle.std.specs.Prelude.{OnOk}
use Rattle.run_text.specs.Lines.{extent_text, shown_of}
use Rattle.run_text.specs.Printed.{shown_in}
use Rattle.run_text.specs.Report.{Section}
use Rattle.run_text.specs.Shown.{Standing}
use Rattle.run_text.specs.Standings.{standing_of}
use Rattle.run_text.proofs.ReportLemmas.{section-made}
use Rattle.run_text.proofs.ShownLemmas.{topic-inside}
use Rattle.run_text.proofs.broker_text.push_query_section.Goals as goal

pub closed-closed-requires : goal.closed-closed-requires
closed-closed-requires c = topic-inside c.args.broker.now c.args.relation.now c.requires

pub returns : goal.returns
returns c =
    let shown =
    ap (map shown_of) c.as_slice-2.ensures.value ∙ c.in_ok-lines.ensures
    ∙ ap (map (λ (s : Standing). shown_in s.part s.change)) (ap (map standing_of) c.as_slice.ensures.value ∙ c.in_ok-changes.ensures) in
    subst (λ (s : Section). OnOk c.push_section.result (string_bytes c.push_section.new.out ≡ string_bytes c.args.out.now ++ extent_text c.args.extent s))
    (section-made c.args.relation.now _ _ 0 [] _ _ c.closed-closed.ensures refl shown) c.push_section.ensures
