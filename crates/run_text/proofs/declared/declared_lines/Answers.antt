use Rattle.std.proofs.Common.{◌≡◌, ◌∙◌, Bor, List, ap, map, subst, sym}
use Rattle.std.specs.Prelude.{IfOk}
use Rattle.ksql_types.specs.declared.relation.Kind.TheVariants.{Stream, Table, Windowed}
use Rattle.ksql_place.specs.declared.change.Change.{Change}
use Rattle.ksql_place.specs.declared.change.SourceRecord.{SourceRecord}
use Rattle.query_meaning.specs.Parts.{rows_said, said_to}
use Rattle.query_meaning.proofs.QuerySteps.{changed-from-side}
use Rattle.query_meaning.proofs.DeclaredChanges.{declared_changes-by}
use Rattle.run_text.specs.Lines.{shown_of}
use Rattle.run_text.specs.RowKeys.{as_fed}
use Rattle.run_text.proofs.TableLemmas.{said_to-windowed}
use Rattle.run_text.proofs.declared.declared_lines.Goals as goal

pub returns-in-Stream : goal.returns-in-Stream
returns-in-Stream c =
    let relation = c.args.relation.now in
    let order : List SourceRecord = map (λ (r : Bor SourceRecord). r.now) c.args.records.now in
    subst (λ (cs : List Change). IfOk c.stream_lines.result (λ lines. map shown_of lines.items ≡ as_fed cs))
    (sym (declared_changes-by relation Stream order c.in-Stream.is ∙ changed-from-side (rows_said relation.number order))) c.stream_lines.ensures

pub returns-in-Table : goal.returns-in-Table
returns-in-Table c =
    let order : List SourceRecord = map (λ (r : Bor SourceRecord). r.now) c.args.records.now in
    subst (λ (cs : List Change). IfOk c.table_lines.result (λ lines. map shown_of lines.items ≡ as_fed cs))
    (sym (declared_changes-by c.args.relation.now Table order c.in-Table.is)) c.table_lines.ensures

pub returns-in-Windowed : goal.returns-in-Windowed
returns-in-Windowed c =
    let relation = c.args.relation.now in
    let order : List SourceRecord = map (λ (r : Bor SourceRecord). r.now) c.args.records.now in
    ap (map shown_of) c.new.ensures.items
    ∙ ap as_fed (sym (declared_changes-by relation Windowed order c.in-Windowed.is ∙ changed-from-side (said_to Windowed relation.number order) ∙ said_to-windowed relation.number order))
