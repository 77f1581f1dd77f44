-- Lemmas on the texts of a report.
use Rattle.std.proofs.Common.{◌≡◌, ◌∙◌, ℕ, List, [], ◌++◌, refl, ap, sym, append_assoc, map}
use Rattle.std.specs.Prelude.{flat_map}
use Rattle.std.proofs.lemmas.List.{append-nil}
use Rattle.ksql_types.specs.declared.relation.Kind.{Kind}
use Rattle.ksql_types.specs.declared.relation.Kind.TheVariants.{Stream, Table, Windowed}
use Rattle.ksql_types.specs.declared.relation.Relation.{Relation}
use Rattle.ksql_types.specs.declared.value.Value.{Value}
use Rattle.ksql_place.specs.declared.change.SourceRecord.{SourceRecord}
use Rattle.run_text.specs.Lines.{shown_of}
use Rattle.run_text.specs.declared.line.Line.{Line}
use Rattle.run_text.specs.Printed.{Shown}
use Rattle.run_text.specs.Report.{count_text, head_line, rows_of, section_of, skipped_of, summary_rows, summary_text, table_rows, Section}

-- one text after another, in any grouping
pub ruleset appends = (append_assoc)

-- lines are equal if they print each row equally
pub lines-by : (line : (List Value → List ℕ) → Shown → List ℕ) (f g : List Value → List ℕ) → ((row : List Value) → f row ≡ g row) →
    (shown : List Shown) → flat_map (line f) shown ≡ flat_map (line g) shown
lines-by line f g same shown = ap (λ (print : List Value → List ℕ). flat_map (line print) shown) (λ i row. same row i)

-- what is shown of a relation whose changes have these lines
abbrev pub told : Relation → ℕ → ℕ → List Line → Section
told relation closed skipped lines = record { relation = relation; closed = closed; skipped = skipped; shown = map shown_of lines }

-- what is shown of a relation, made field by field
pub section-made : (r : Relation) (closed feed skipped : ℕ) (order : List SourceRecord) (xs ys : List Shown) →
    closed ≡ feed → skipped ≡ skipped_of r order → xs ≡ ys →
    record { relation = r; closed = closed; skipped = skipped; shown = xs } ≡ section_of feed r order ys
unfolding section_of
section-made r closed feed skipped order xs ys is_closed is_skipped is_shown =
    λ i. record { relation = r; closed = is_closed i; skipped = is_skipped i; shown = is_shown i }

-- ---- the rows of a table

pub count_text-rows : (kind : Kind) (shown rows : List Shown) → rows ≡ table_rows kind shown → count_text kind rows ≡ count_text kind (rows_of shown)
unfolding count_text
count_text-rows Stream shown rows is = refl
count_text-rows Table shown rows is = ap (count_text Table) is
count_text-rows Windowed shown rows is = ap (count_text Windowed) is

-- ---- the summary

-- a summary without rows is the head line
pub head_alone : (s : Section) → summary_rows s.relation.kind s ≡ [] → head_line s ≡ summary_text s
unfolding summary_text
head_alone s none = sym (ap (λ (rows : List ℕ). head_line s ++ rows) none ∙ append-nil (head_line s))
