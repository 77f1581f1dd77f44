-- The order of rows is total, and lines tie if they are of the same row.
use Rattle.std.proofs.Common.{◌≡◌, ◌∙◌, ◌&&◌, List, ap, ap₂, refl, sym, true, false, true≢false}
use Rattle.std.specs.Prelude.{◌==◌, Option, Some, None}
use Rattle.std.proofs.lemmas.Bool.{and_parts}
use Rattle.std.proofs.lemmas.Bool.Decides.{Decides-eqb}
use Rattle.std.specs.Option.{option_cmp}
use Rattle.std.specs.Ordering.{nat_cmp, is_eq, eq_by_cmp, on}
use Rattle.std.specs.Cmp.{IsTotalOrder, nat_cmp_total, on_total, then_total, tied_then, unsigned_ties, signed_po, ties}
use Rattle.std.specs.Cmp.Lexicographic.{slice_cmp, lists_ties, options_total, texts_ties}
use Rattle.ksql_types.specs.declared.relation.Span.{Span}
use Rattle.ksql_types.specs.declared.value.Value.{Value}
use Rattle.ksql_types.specs.declared.value.Value.TheVariants.{Null, Int, Big, Txt, Bool as Truth}
use Rattle.ksql_nodes.specs.Entries.{is_same_key, is_same_value}
use Rattle.ksql_nodes.specs.Windows.{is_same_span}
use Rattle.ksql_nodes.proofs.Keys.{key-decides}
use Rattle.run_text.specs.KeyOrder.{keys_total}
use Rattle.run_text.specs.Lines.{shown_of}
use Rattle.run_text.specs.Printed.{Shown}
use Rattle.run_text.specs.Report.{cell_cmp, is_same_row, is_same_window, row_cmp, span_cmp}

-- values that tie are the same
cell-ties : (a b : Value) → is_same_value a b ≡ eq_by_cmp cell_cmp a b
cell-ties (Int a) (Int b) = ties signed_po (λ x y. refl) a b
cell-ties (Big a) (Big b) = ties signed_po (λ x y. refl) a b
cell-ties (Txt a) (Txt b) = texts_ties a b
cell-ties Null Null = refl
cell-ties (Truth a) (Truth b) = refl
cell-ties _ _ = refl

pub row_total : IsTotalOrder row_cmp
row_total =
    then_total (keys_total (λ (s : Shown). s.key))
    (on_total (λ (s : Shown). s.span) (options_total (then_total (on_total (λ (s : Span). s.start) nat_cmp_total) (on_total (λ (s : Span). s.end) nat_cmp_total))))

pub lines_total : IsTotalOrder (on shown_of row_cmp)
lines_total = on_total shown_of row_total

span-ties : (a b : Span) → is_same_span a b ≡ is_eq (span_cmp a b)
span-ties a b = ap₂ (λ s t. s && t) (unsigned_ties a.start b.start) (unsigned_ties a.end b.end) ∙ tied_then (nat_cmp a.start b.start) (nat_cmp a.end b.end)

window-ties : (a b : Option Span) → is_same_window a b ≡ is_eq (option_cmp span_cmp a b)
window-ties None None = refl
window-ties (Some a) (Some b) = span-ties a b
window-ties _ _ = refl

-- keys tie if they are the same
pub key-ties : (a b : List Value) → is_same_key a b ≡ is_eq (slice_cmp cell_cmp a b)
unfolding is_same_key
key-ties a b = lists_ties cell_cmp cell-ties a b

-- keys that tie are equal
pub key-same : (a b : List Value) → is_eq (slice_cmp cell_cmp a b) ≡ true → a ≡ b
key-same a b tie = (key-decides a b).0 (key-ties a b ∙ tie)

-- changes tie if they are of the same row
pub row-ties : (a b : Shown) → is_same_row a b ≡ is_eq (row_cmp a b)
row-ties a b =
    ap₂ (λ s t. s && t) (key-ties a.key b.key) (window-ties a.span b.span)
    ∙ tied_then (slice_cmp cell_cmp a.key b.key) (option_cmp span_cmp a.span b.span)

span-same : (a b : Span) → is_same_span a b ≡ true → a ≡ b
span-same a b same =
    let parts = and_parts (a.start == b.start) (a.end == b.end) same in
    let start = (Decides-eqb a.start b.start).0 parts.0 in
    let end = (Decides-eqb a.end b.end).0 parts.1 in
    λ i. record { start = start i; end = end i }

window-same : (a b : Option Span) → is_same_window a b ≡ true → a ≡ b
window-same None None same = refl
window-same (Some a) (Some b) same = ap (λ (s : Span). Some s) (span-same a b same)
window-same _ _ same = absurd (true≢false (sym same))

-- lines that tie have the same key and the same window
pub row-same : (a b : Shown) → is_eq (row_cmp a b) ≡ true → (a.key ≡ b.key) × (a.span ≡ b.span)
row-same a b tie =
    let parts = and_parts (is_same_key a.key b.key) (is_same_window a.span b.span) (row-ties a b ∙ tie) in
    ((key-decides a.key b.key).0 parts.0, window-same a.span b.span parts.1)
