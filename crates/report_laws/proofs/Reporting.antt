-- The report and the summary of what a good broker shows are those of what the program means.
use Rattle.std.proofs.Common.{◌≡◌, ◌∙◌, ap, ap₂, ℕ, List}
use Rattle.std.specs.Prelude.{All, Some, map, slice_get}
use Rattle.ksql_place.specs.declared.change.SourceRecord.{SourceRecord}
use Rattle.ksql_program.specs.Program.{relations}
use Rattle.ksql_program.specs.Sound.{IsSound}
use Rattle.ksql_program.specs.declared.program.Item.{Item}
use Rattle.ksql_program.specs.declared.program.Item.TheVariants.{Declared, Started}
use Rattle.short_laws.specs.Fed.{IsFed}
use Rattle.core_state.specs.Wired.{AreCounted}
use Rattle.core_state.proofs.Lists.{map-members}
use Rattle.wiring_laws.proofs.Members.{member-at}
use Rattle.wiring_laws.proofs.Writers.{numbered}
use Rattle.topic_log.specs.declared.shelves.Shelves.{Shelves}
use Rattle.run_text.specs.Report.{report, summary}
use Rattle.run_text.specs.Shown.{section_shown, shown_report, shown_summary}
use Rattle.report_laws.specs.Reported.{IsGoodBroker, IsOfDeclared, ReportsTheMeaning, SummarizesTheMeaning, section_known}
use Rattle.report_laws.proofs.ShownChanges.{declared-section, query-section}
use Rattle.report_laws.proofs.ShownRecords.{order-of}

module _ (items : List Item) (order : List SourceRecord) (b : Shelves) (sound : IsSound items) (fed : IsFed items order) (counted : AreCounted order)
    (declared : All (IsOfDeclared items) order) (g : IsGoodBroker items order b) where
  -- what is shown of each item is known
  each-section : (number : ℕ) (i : Item) → slice_get items number ≡ Some i → section_shown b i ≡ section_known items b order i
  each-section number (Declared r) at = declared-section items order sound fed counted b g r (ap (slice_get items) (numbered items sound number (Declared r) at).0 ∙ at)
  each-section number (Started q) at = query-section items order sound fed counted b g q (ap (slice_get items) (numbered items sound number (Started q) at).0 ∙ at) declared

  -- so what is shown of all items is known
  pub sections-meaning : map (section_shown b) items ≡ map (section_known items b order) items
  sections-meaning =
      map-members (section_shown b) (section_known items b order) items
      (λ i among. let found = member-at items i among in each-section found.0 i found.1)

pub reports-meaning : (items : List Item) (order : List SourceRecord) (b : Shelves) → IsSound items → IsFed items order → AreCounted order → All (IsOfDeclared items) order →
    IsGoodBroker items order b → ReportsTheMeaning items order b
unfolding shown_report
reports-meaning items order b sound fed counted declared g = λ trace.
    ap₂ (λ records sections. report (relations items) records sections trace) (order-of items order sound fed counted b g declared)
    (sections-meaning items order b sound fed counted declared g)

pub summarizes-meaning : (items : List Item) (order : List SourceRecord) (b : Shelves) → IsSound items → IsFed items order → AreCounted order → All (IsOfDeclared items) order →
    IsGoodBroker items order b → SummarizesTheMeaning items order b
unfolding shown_summary
summarizes-meaning items order b sound fed counted declared g = ap summary (sections-meaning items order b sound fed counted declared g)
