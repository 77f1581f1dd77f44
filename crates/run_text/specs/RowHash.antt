-- What keys and lines feed to a hasher: a key its values, a line also the start of its window. Equal keys feed it
-- alike, and so do lines of the same row.
use Rattle.std.proofs.Common.{◌≡◌, ap, ap₂, true}
use Rattle.std.specs.Prelude.{List, [], ◌∷◌, ◌++◌, flat_map, Option, Some, None}
use Rattle.std.specs.Hash as fed
use Rattle.std.specs.Hash.{HashWrites}
use Rattle.std.specs.Cmp.Lexicographic.{slice_cmp}
use Rattle.std.specs.Ordering.{is_eq}
use Rattle.ksql_types.specs.declared.relation.Span.{Span}
use Rattle.ksql_types.specs.declared.value.Value.{Value}
use Rattle.ksql_types.specs.declared.value.Value.TheVariants.{Null, Int, Big, Txt, Bool as Truth}
use Rattle.run_text.specs.Printed.{Shown}
use Rattle.run_text.specs.Report.{cell_cmp, row_cmp}
use Rattle.run_text.specs.RowOrder.{key-same, row-same}

abbrev pub cell_fed : Value → HashWrites
cell_fed Null = []
cell_fed (Int n) = fed.i32 n
cell_fed (Big n) = fed.i64 n
cell_fed (Txt bytes) = bytes ∷ []
cell_fed (Truth b) = fed.bool b

abbrev pub cells_fed : List Value → HashWrites
cells_fed cells = flat_map cell_fed cells

abbrev pub span_fed : Option Span → HashWrites
span_fed None = []
span_fed (Some span) = fed.u64 span.start

abbrev pub row_fed : Shown → HashWrites
row_fed s = cells_fed s.key ++ span_fed s.span

pub same_cells_fed : (a b : List Value) → is_eq (slice_cmp cell_cmp a b) ≡ true → cells_fed a ≡ cells_fed b
same_cells_fed a b same = ap cells_fed (key-same a b same)

pub same_fed : (a b : Shown) → is_eq (row_cmp a b) ≡ true → row_fed a ≡ row_fed b
same_fed a b same = let is = row-same a b same in ap₂ (λ (k : List Value) (s : Option Span). cells_fed k ++ span_fed s) is.0 is.1
