use Rattle.std.proofs.Common.{◌≡◌, ◌∙◌, ◌++◌, ℕ, List, Bor, ap, length, map, refl, string_bytes, subst, sym}
use Rattle.std.specs.Prelude.{OnOk, count_by}
use Rattle.std.proofs.lemmas.List.{length-map}
use Rattle.ksql_types.specs.declared.relation.Kind.TheVariants.{Stream}
use Rattle.ksql_place.specs.Said.{is_skipped}
use Rattle.ksql_place.specs.declared.change.Change.{Change}
use Rattle.ksql_place.specs.declared.change.SourceRecord.{SourceRecord}
use Rattle.ksql_place.proofs.Orders.{record_total}
use Rattle.query_meaning.specs.Meaning.{declared_changes}
use Rattle.query_meaning.specs.Parts.{rows_said}
use Rattle.query_meaning.proofs.QuerySteps.{changed-from-side}
use Rattle.query_meaning.proofs.DeclaredChanges.{declared_changes-by}
use Rattle.run_text.specs.Printed.{shown_in}
use Rattle.run_text.specs.Report.{skipped_of, summary_rows, summary_text, table_rows, Section}
use Rattle.run_text.specs.Shown.{declared_shown, records_by_part, records_shown}
use Rattle.run_text.specs.Standings.{brings_row}
use Rattle.run_text.proofs.ReportLemmas.{head_alone, section-made}
use Rattle.run_text.proofs.ShownLemmas.{count-ascending, rows-counted, topic-inside}
use Rattle.run_text.proofs.broker_text.push_stream_summary.Goals as goal

pub closed-closed-requires : goal.closed-closed-requires
closed-closed-requires c = topic-inside c.args.broker.now c.args.relation.now c.requires.topic

pub returns : goal.returns
returns c =
    let b = c.args.broker.now in
    let r = c.args.relation.now in
    let number = r.number in
    let shown = declared_shown b r in
    let said : declared_changes r (records_shown b r) ≡ rows_said number (records_shown b r) =
    declared_changes-by r Stream (records_shown b r) c.requires.stream ∙ changed-from-side (rows_said number (records_shown b r)) in
    let records = ap (map (λ (fed : Bor SourceRecord). fed.now)) c.as_slice.ensures.value ∙ c.in_ok-records.ensures in
    let records-2 = ap (map (λ (fed : Bor SourceRecord). fed.now)) c.as_slice-2.ensures.value ∙ c.in_ok-records.ensures in
    let changes : length shown ≡ c.rows_among-changes.result =
    length-map (declared_changes r (records_shown b r)) (λ (x : Change). shown_in x.place.stamp.part x)
    ∙ ap (λ (xs : List Change). length xs) said
    ∙ rows-counted number (records_shown b r)
    ∙ count-ascending record_total (brings_row number) (records_by_part b r)
    ∙ sym (c.rows_among-changes.ensures ∙ ap (λ (rs : List SourceRecord). count_by (brings_row number) rs) records) in
    let skipped : c.skipped_among-skipped.result ≡ skipped_of r (records_shown b r) =
    c.skipped_among-skipped.ensures ∙ ap (skipped_of r) records-2 ∙ sym (count-ascending record_total (is_skipped r) (records_by_part b r)) in
    let head = c.push_head.ensures shown changes (ap (λ k. length (table_rows k shown)) c.requires.stream) in
    let section : Section = record { relation = r; closed = c.closed-closed.result; skipped = c.skipped_among-skipped.result; shown = shown } in
    let made = section-made r _ _ _ (records_shown b r) shown shown c.closed-closed.ensures skipped refl in
    subst (λ (s : Section). OnOk c.push_head.result (string_bytes c.push_head.new.out ≡ string_bytes c.args.out.now ++ summary_text s)) made
    (subst (λ (text : List ℕ). OnOk c.push_head.result (string_bytes c.push_head.new.out ≡ string_bytes c.args.out.now ++ text))
    (head_alone section (ap (λ k. summary_rows k section) c.requires.stream)) head)
