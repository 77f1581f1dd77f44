-- The latest line of each row: from the last line on they go into a set, which keeps the first one of each row.
use Rattle.std.proofs.Common.{◌≡◌, ◌∙◌, List, [], ◌∷◌, ◌++◌, Bool, true, false, ◌||◌, cond, map, reverse, if◌then◌else◌, refl, sym, ap, ap₂}
use Rattle.std.proofs.Math.Bool.{or_comm}
use Rattle.std.proofs.lemmas.List.{reverse-append}
use Rattle.std.proofs.lemmas.List.Folds.{list_any-append}
use Rattle.std.proofs.lemmas.List.Sums.{fold-append}
use Rattle.std.proofs.lemmas.Map.Steps.{list_any_congr}
use Rattle.std.specs.Prelude.{filter, is_some}
use Rattle.std.specs.Cmp.{eq_by_cmp_equiv}
use Rattle.std.specs.List.{list_any}
use Rattle.std.specs.Ordering.{is_eq}
use Rattle.indexmap.specs.IndexSet.{insert_all, insert_key}
use Rattle.run_text.specs.Lines.{shown_of}
use Rattle.run_text.specs.Printed.{Shown}
use Rattle.run_text.specs.Report.{is_same_row, latest_of, row_cmp}
use Rattle.run_text.specs.RowOrder.{lines_total, row-ties}
use Rattle.run_text.specs.declared.line.Line.{Line}

-- whether two lines are of the same row
abbrev pub is_same_line : Line → Line → Bool
is_same_line a b = is_eq (row_cmp (shown_of a) (shown_of b))

-- the lines of the set, the latest first
newest : List Line → List Line
newest lines = insert_all is_same_line [] (reverse lines)

newest-cons : (a : Line) (later : List Line) → newest (a ∷ later) ≡ insert_key is_same_line (newest later) a
unfolding newest
newest-cons a later =
    ap (insert_all is_same_line []) (reverse-append (a ∷ []) later) ∙ fold-append (insert_key is_same_line) [] (reverse later) (a ∷ [])

any-insert : (x y : Line) (ys : List Line) →
    list_any (is_same_line x) (insert_key is_same_line ys y) ≡ (is_same_line x y || list_any (is_same_line x) ys)
any-insert x y ys = by (is_same_line x y) (list_any (is_same_line y) ys) refl refl
  where
    any : Bool
    any = list_any (is_same_line x) ys

    with_last : list_any (is_same_line x) (ys ++ y ∷ []) ≡ ((is_same_line x y || false) || any)
    with_last = list_any-append (is_same_line x) ys (y ∷ []) ∙ or_comm any (is_same_line x y || false)

    by : (s t : Bool) → is_same_line x y ≡ s → list_any (is_same_line y) ys ≡ t →
        list_any (is_same_line x) (if t then ys else ys ++ y ∷ []) ≡ (s || any)
    by true true same there = list_any_congr (eq_by_cmp_equiv lines_total) x y ys same ∙ there
    by false true same there = refl
    by true false same there = with_last ∙ ap (λ b. (b || false) || any) same
    by false false same there = with_last ∙ ap (λ b. (b || false) || any) same

any-newest : (x : Line) (ys : List Line) → list_any (is_same_line x) (newest ys) ≡ list_any (is_same_line x) ys
unfolding newest
any-newest x [] = refl
any-newest x (y ∷ ys) =
    ap (list_any (is_same_line x)) (newest-cons y ys) ∙ any-insert x y (newest ys) ∙ ap (λ b. is_same_line x y || b) (any-newest x ys)

any-shown : (a : Line) (later : List Line) → list_any (is_same_line a) later ≡ list_any (is_same_row (shown_of a)) (map shown_of later)
any-shown a [] = refl
any-shown a (b ∷ later) = ap₂ (λ s t. s || t) (sym (row-ties (shown_of a) (shown_of b))) (any-shown a later)

latest-newest : (lines : List Line) → map shown_of (reverse (newest lines)) ≡ latest_of (map shown_of lines)
unfolding newest
latest-newest [] = refl
latest-newest (a ∷ later) =
    ap (λ ls. map shown_of (reverse ls)) (newest-cons a later)
    ∙ ap (λ t. map shown_of (reverse (if t then newest later else newest later ++ a ∷ []))) (any-newest a later ∙ any-shown a later)
    ∙ by (list_any (is_same_row (shown_of a)) (map shown_of later)) (latest-newest later)
  where
    by : (t : Bool) → map shown_of (reverse (newest later)) ≡ latest_of (map shown_of later) →
        map shown_of (reverse (if t then newest later else newest later ++ a ∷ []))
        ≡ (if t then latest_of (map shown_of later) else shown_of a ∷ latest_of (map shown_of later))
    by true rest = rest
    by false rest = ap (map shown_of) (reverse-append (newest later) (a ∷ [])) ∙ ap (λ ss. shown_of a ∷ ss) rest

-- the set, reversed, has the latest line of each row
pub latest-gathered : (lines : List Line) → map shown_of (reverse (insert_all is_same_line [] (reverse lines))) ≡ latest_of (map shown_of lines)
unfolding newest
latest-gathered lines = latest-newest lines

-- lines with a row show one
pub shown-with_row : (lines : List Line) → map shown_of (filter (λ line. is_some (shown_of line).row) lines) ≡ filter (λ s. is_some s.row) (map shown_of lines)
shown-with_row [] = refl
shown-with_row (a ∷ lines) = by (is_some (shown_of a).row) (shown-with_row lines)
  where
    kept : List Line
    kept = filter (λ line. is_some (shown_of line).row) lines

    some : List Shown
    some = filter (λ s. is_some s.row) (map shown_of lines)

    by : (b : Bool) → map shown_of kept ≡ some → map shown_of (cond b (a ∷ kept) kept) ≡ cond b (shown_of a ∷ some) some
    by true rest = ap (λ ss. shown_of a ∷ ss) rest
    by false rest = rest
