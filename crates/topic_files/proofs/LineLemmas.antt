-- Lemmas on the lines of a topic file.
use Rattle.std.proofs.Common.{◌≡◌, ◌≢◌, ℕ, ◌+◌, ◌<◌, List, [], ◌∷◌, length, take, drop, Bool, true, false, cond, None, IsUtf8, refl, ap, ◌∙◌, arith, ne_eqb, eq-eqb, get_or}
use Rattle.std.specs.Str.{is_utf8}
use Rattle.std.specs.List.{slice_split, position_or_len, before_first, after_first}
use Rattle.std.proofs.lemmas.List.Splits.{slice_split_first, slice_split_none, length-slice_split}
use Rattle.std.proofs.lemmas.List.Sums.{position_or_len_is}
use Rattle.std.proofs.lemmas.List.Elements.{All-from_get_or}
use Rattle.std.proofs.lemmas.Str.{IsUtf8-from_is_utf8, is_utf8-from_IsUtf8}
use Rattle.serde_json.specs.Read.{read}
use Rattle.topic_files.specs.Lines.{is_line_feed, without_empty_end, lines_of}
use Rattle.topic_files.specs.TopicLine.{data_of}

-- a piece that others follow stays
without_empty_end-cons : (piece : List ℕ) (pieces : List (List ℕ)) → 0 < length pieces → without_empty_end (piece ∷ pieces) ≡ piece ∷ without_empty_end pieces
without_empty_end-cons piece [] some = absurd (omega arith)
without_empty_end-cons piece (next ∷ more) some = refl

-- the first line ends at the first line feed
pub lines_of-at : (xs : List ℕ) (i : ℕ) → i < length xs → get_or xs i 0 ≡ 10 → ((k : ℕ) → k < i → get_or xs k 0 ≢ 10) → lines_of xs ≡ take i xs ∷ lines_of (drop (i + 1) xs)
lines_of-at xs i inside feed before =
    let at : position_or_len is_line_feed xs ≡ i = position_or_len_is is_line_feed xs i 0 (omega arith) (λ k below. ne_eqb _ 10 (before k below)) (λ _. eq-eqb _ 10 feed) in
    let split : slice_split is_line_feed xs ≡ before_first is_line_feed xs ∷ slice_split is_line_feed (after_first is_line_feed xs) = slice_split_first is_line_feed xs 0 (rw at inside) in
    ap without_empty_end split
    ∙ without_empty_end-cons _ _ (omega (arith, length-slice_split is_line_feed (after_first is_line_feed xs)))
    ∙ ap (λ n. take n xs ∷ lines_of (drop (n + 1) xs)) at

-- a file without a line feed is a single line
pub lines_of-whole : (xs : List ℕ) → 0 < length xs → ((k : ℕ) → k < length xs → get_or xs k 0 ≢ 10) → lines_of xs ≡ xs ∷ []
lines_of-whole xs some none =
    ap without_empty_end (slice_split_none is_line_feed xs (All-from_get_or (λ x. is_line_feed x ≡ false) xs 0 (λ k below. ne_eqb _ 10 (none k below))))
    ∙ ap (λ b. cond b [] (xs ∷ [])) (ne_eqb (length xs) 0 (λ e. omega arith))

-- a line that isn't JSON has no data
pub data_of-none : (line : List ℕ) → (IsUtf8 line → read line ≡ None) → data_of line ≡ None
data_of-none line refused = by_test (is_utf8 line) refl
  where
    by_test : (b : Bool) → is_utf8 line ≡ b → cond b (read line) None ≡ None
    by_test true e = refused (IsUtf8-from_is_utf8 line e)
    by_test false e = refl

-- a line of UTF-8 has the data that is read
pub data_of-read : (line : List ℕ) → IsUtf8 line → data_of line ≡ read line
data_of-read line utf8 = ap (λ b. cond b (read line) None) (is_utf8-from_IsUtf8 line utf8)
