use Rattle.std.proofs.Common.{◌≡◌, ◌∙◌, ◌++◌, List, ap, map, string_bytes, subst}
use Rattle.std.specs.Prelude.{OnOk}
use Rattle.ksql_place.specs.declared.change.SourceRecord.{SourceRecord}
use Rattle.query_meaning.specs.Meaning.{declared_changes}
use Rattle.run_text.specs.Lines.{extent_text, shown_of}
use Rattle.run_text.specs.Report.{skipped_of, Section}
use Rattle.run_text.specs.RowKeys.{as_fed}
use Rattle.run_text.proofs.ReportLemmas.{section-made}
use Rattle.run_text.proofs.ShownLemmas.{topic-inside}
use Rattle.run_text.proofs.broker_text.push_declared_section.Goals as goal

pub closed-closed-requires : goal.closed-closed-requires
closed-closed-requires c = topic-inside c.args.broker.now c.args.relation.now c.requires.topic

pub returns : goal.returns
returns c =
    let r = c.args.relation.now in
    let skipped = c.skipped_among-skipped.ensures ∙ ap (skipped_of r) c.requires.records in
    let shown =
    ap (map shown_of) c.as_slice.ensures.value ∙ c.in_ok-lines.ensures ∙ ap (λ (rs : List SourceRecord). as_fed (declared_changes r rs)) c.requires.records in
    subst (λ (s : Section). OnOk c.push_section.result (string_bytes c.push_section.new.out ≡ string_bytes c.args.out.now ++ extent_text c.args.extent s))
    (section-made r _ _ _ _ _ _ c.closed-closed.ensures skipped shown) c.push_section.ensures
