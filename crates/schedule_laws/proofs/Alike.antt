-- The reports of runs that end drained: their feeds alone matter.
use Rattle.std.proofs.Common.{◌≡◌, ◌∙◌, ap, ap₂, refl, sym, subst, ℕ, ◌+◌, ◌≤◌, true, List, [], ◌∷◌, ◌++◌, append_assoc, codes, length, map, arith}
use Rattle.std.proofs.lemmas.Bool.Decides.{nat_tests}
use Rattle.std.proofs.lemmas.List.Elements as elements
use Rattle.core_state.proofs.Lists as core
use Rattle.std.specs.Prelude.{All, flat_map, nat_le}
use Rattle.ksql_place.specs.declared.change.SourceRecord.{SourceRecord}
use Rattle.ksql_program.specs.Program.{relation_of, relations}
use Rattle.ksql_program.specs.Sound.{IsSound}
use Rattle.ksql_program.specs.declared.program.Item.{Item}
use Rattle.ksql_program.specs.declared.program.Program.{Program}
use Rattle.topic_files.specs.declared.topic.TopicLines.{TopicLines}
use Rattle.query_meaning.specs.Meaning.{meaning, up_to}
use Rattle.query_meaning.specs.Queries.{changes_at}
use Rattle.topology.specs.declared.schedule.Step.{Step}
use Rattle.feed_laws.proofs.FedRecords.{feed-rises}
use Rattle.feed_laws.proofs.Sources.{sources-begin, sources-go_on}
use Rattle.feed_laws.specs.Feeds.{records_of}
use Rattle.feed_laws.specs.Fitting.{AreFilesOf, AreSourcesOf}
use Rattle.run_text.specs.Report.{Section, meant, order_text, report, section_of, section_text, summary}
use Rattle.cluster_laws.specs.Progress.{taken}
use Rattle.ksql_cli.specs.Run.{Run, progress_of, report_of, section_at, summary_of, trace_in}
use Rattle.schedule_laws.specs.Drained.{feeds_of}
use Rattle.schedule_laws.specs.Reports.{AreAlike, EndsDrained, ShowsTheWhole, whole_section}
use Rattle.schedule_laws.proofs.Feeding.{Fed, after_feeds, one_feed, order-of-feeds, unfed}
use Rattle.schedule_laws.proofs.Finishing.{schedule-drained}

-- ---- what is shown

-- what is shown of an item up to a feed, of the records of an order
abbrev section_to : List Item → ℕ → List SourceRecord → Item → Section
section_to items feed order item =
    let r = relation_of item in
    let records = up_to feed order in
    section_of feed r records (meant r (changes_at (meaning items records) r.number))

-- of a run that ends drained each item is shown up to the last feed
drained-sections : (run : Run) → IsSound run.program.items → EndsDrained run → (is : List Item) →
    map (section_at run) is ≡ map (section_to run.program.items (length (feeds_of run.steps)) (progress_of run).order) is
drained-sections run sound ends [] = refl
drained-sections run sound ends (i ∷ is) =
    ap₂ (λ (s : Section) (ss : List Section). s ∷ ss)
    (ap (λ (feed : ℕ). section_to run.program.items feed (progress_of run).order i)
    ((schedule-drained run.program.items sound run.files run.workers run.steps ends.have_workers ends.drained).closed (relation_of i).number))
    (drained-sections run sound ends is)

-- ---- the same report

-- the text before the trace, by the last feed and the order
abbrev head_text : List Item → ℕ → List SourceRecord → List ℕ
head_text items feed order = order_text (relations items) order ++ flat_map section_text (map (section_to items feed order) items)

report-parts : (items : List Item) (order : List SourceRecord) (ss : List Section) (trace : List ℕ) →
    report (relations items) order ss trace ≡ (order_text (relations items) order ++ flat_map section_text ss) ++ (trace ++ codes "end\n")
unfolding report
report-parts items order ss trace = sym (append_assoc (order_text (relations items) order) (flat_map section_text ss) (trace ++ codes "end\n"))

-- that of a run by its feeds alone
abbrev text_of : List Item → List TopicLines → List Step → List ℕ
text_of items files feeds = head_text items (length feeds) (after_feeds (unfed items files) feeds).order

head-of-feeds : (run : Run) → IsSound run.program.items → EndsDrained run →
    report_of run ≡ text_of run.program.items run.files (feeds_of run.steps) ++ (trace_in run ++ codes "end\n")
head-of-feeds run sound ends =
    report-parts run.program.items (progress_of run).order (map (section_at run) run.program.items) (trace_in run)
    ∙ ap (λ (ss : List Section). (order_text (relations run.program.items) (progress_of run).order ++ flat_map section_text ss) ++ (trace_in run ++ codes "end\n"))
    (drained-sections run sound ends run.program.items)
    ∙ ap (λ (order : List SourceRecord). head_text run.program.items (length (feeds_of run.steps)) order ++ (trace_in run ++ codes "end\n"))
    (order-of-feeds run.program.items run.files run.workers run.steps)

pub alike : (a b : Run) → IsSound a.program.items → a.program ≡ b.program → a.files ≡ b.files → feeds_of a.steps ≡ feeds_of b.steps → EndsDrained a → EndsDrained b → AreAlike a b
alike a b sound program files feeds first second =
    let same : text_of b.program.items b.files (feeds_of b.steps) ≡ text_of a.program.items a.files (feeds_of a.steps) =
    λ i. text_of ((sym program i).items) (sym files i) (sym feeds i) in (
      text_of a.program.items a.files (feeds_of a.steps),
      head-of-feeds a sound first,
      head-of-feeds b (subst (λ (p : Program). IsSound p.items) program sound) second ∙ ap (λ (text : List ℕ). text ++ (trace_in b ++ codes "end\n")) same,
    )

-- the sections of a run by its feeds alone
abbrev sections_of_feeds : List Item → List TopicLines → List Step → List Section
sections_of_feeds items files feeds = map (section_to items (length feeds) (after_feeds (unfed items files) feeds).order) items

summary-of-feeds : (run : Run) → IsSound run.program.items → EndsDrained run →
    summary_of run ≡ summary (sections_of_feeds run.program.items run.files (feeds_of run.steps))
summary-of-feeds run sound ends =
    ap summary (drained-sections run sound ends run.program.items)
    ∙ ap (λ (order : List SourceRecord). summary (map (section_to run.program.items (length (feeds_of run.steps)) order) run.program.items))
    (order-of-feeds run.program.items run.files run.workers run.steps)

pub same-summary : (a b : Run) → IsSound a.program.items → a.program ≡ b.program → a.files ≡ b.files → feeds_of a.steps ≡ feeds_of b.steps → EndsDrained a → EndsDrained b →
    summary_of a ≡ summary_of b
same-summary a b sound program files feeds first second =
    summary-of-feeds a sound first
    ∙ (λ i. summary (sections_of_feeds (program i).items (files i) (feeds i)))
    ∙ sym (summary-of-feeds b (subst (λ (p : Program). IsSound p.items) program sound) second)

-- ---- the whole meaning

-- the sources are those of a program, and no record is of a later feed
abbrev IsFedWell : List Item → Fed → Type 0
IsFedWell items f = AreSourcesOf items f.fed f.sources × All (λ (r : SourceRecord). r.stamp.feed ≤ f.fed) f.order

one-well : (items : List Item) (f : Fed) (s : Step) → IsFedWell items f → IsFedWell items (one_feed f s)
one-well items f s well = (
  sources-go_on items f.fed (taken s) f.sources well.0,
  elements.All-append (λ (r : SourceRecord). r.stamp.feed ≤ f.fed + 1) f.order (records_of (f.fed + 1) (taken s) f.sources)
      (elements.All-weaker (λ (r : SourceRecord). r.stamp.feed ≤ f.fed) (λ (r : SourceRecord). r.stamp.feed ≤ f.fed + 1) (λ r low. omega (arith, low)) f.order well.1)
      (elements.All-weaker (λ (r : SourceRecord). r.stamp.feed ≡ f.fed + 1) (λ (r : SourceRecord). r.stamp.feed ≤ f.fed + 1) (λ r is. omega (arith, is))
      (records_of (f.fed + 1) (taken s) f.sources) (feed-rises items f.fed (taken s) f.sources well.0).1),
)

feeds-well : (items : List Item) (f : Fed) (feeds : List Step) → IsFedWell items f → IsFedWell items (after_feeds f feeds)
feeds-well items f [] well = well
feeds-well items f (s ∷ ss) well = feeds-well items (one_feed f s) ss (one-well items f s well)

feeds-number : (f : Fed) (feeds : List Step) → (after_feeds f feeds).fed ≡ f.fed + length feeds
feeds-number f [] = omega arith
feeds-number f (s ∷ ss) = let rest : (after_feeds (one_feed f s) ss).fed ≡ (f.fed + 1) + length ss = feeds-number (one_feed f s) ss in omega (arith, rest)

start-number : (items : List Item) (files : List TopicLines) (feeds : List Step) → (after_feeds (unfed items files) feeds).fed ≡ length feeds
start-number items files feeds = let is : (after_feeds (unfed items files) feeds).fed ≡ 0 + length feeds = feeds-number (unfed items files) feeds in omega (arith, is)

upto-all : (feed : ℕ) (order : List SourceRecord) → All (λ x. x.stamp.feed ≤ feed) order → up_to feed order ≡ order
upto-all feed order none =
    core.filter-all (λ (x : SourceRecord). nat_le x.stamp.feed feed) order
    (elements.All-weaker (λ (x : SourceRecord). x.stamp.feed ≤ feed) (λ x. nat_le x.stamp.feed feed ≡ true) (λ x low. is-le x.stamp.feed low) order none)
  where
    is-le : (n : ℕ) → n ≤ feed → nat_le n feed ≡ true
    is-le n low = grind (arith, nat_tests)

-- no record is of a later feed than the last
none-later : (run : Run) → IsSound run.program.items → AreFilesOf run.program.items run.files →
    up_to (length (feeds_of run.steps)) (progress_of run).order ≡ (progress_of run).order
none-later run sound files =
    let start : Fed = unfed run.program.items run.files in
    let well = feeds-well run.program.items start (feeds_of run.steps) (sources-begin run.program.items run.files sound files, elements.All-nil (λ (r : SourceRecord). r.stamp.feed ≤ 0)) in
    let number : (after_feeds start (feeds_of run.steps)).fed ≡ length (feeds_of run.steps) = start-number run.program.items run.files (feeds_of run.steps) in
    let order : (after_feeds start (feeds_of run.steps)).order ≡ (progress_of run).order = sym (order-of-feeds run.program.items run.files run.workers run.steps) in
    upto-all (length (feeds_of run.steps)) (progress_of run).order
    (subst (λ (xs : List SourceRecord). All (λ x. x.stamp.feed ≤ length (feeds_of run.steps)) xs) order
    (subst (λ (n : ℕ). All (λ (x : SourceRecord). x.stamp.feed ≤ n) (after_feeds start (feeds_of run.steps)).order) number well.1))

whole-sections : (items : List Item) (feed : ℕ) (order : List SourceRecord) → up_to feed order ≡ order → (is : List Item) →
    map (section_to items feed order) is ≡ map (whole_section items feed order) is
whole-sections items feed order all [] = refl
whole-sections items feed order all (i ∷ is) =
    ap₂ (λ (s : Section) (ss : List Section). s ∷ ss)
    (ap (λ (records : List SourceRecord). section_of feed (relation_of i) records (meant (relation_of i) (changes_at (meaning items records) (relation_of i).number))) all)
    (whole-sections items feed order all is)

pub shows-whole : (run : Run) → IsSound run.program.items → AreFilesOf run.program.items run.files → EndsDrained run → ShowsTheWhole run
shows-whole run sound files ends =
    ap (λ (ss : List Section). report (relations run.program.items) (progress_of run).order ss (trace_in run))
    (drained-sections run sound ends run.program.items
    ∙ whole-sections run.program.items (length (feeds_of run.steps)) (progress_of run).order (none-later run sound files) run.program.items)
