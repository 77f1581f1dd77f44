-- Lemmas on a file whose lines are read one after another.
use Rattle.std.proofs.Common.{◌≡◌, ℕ, ◌+◌, ◌≤◌, ◌<◌, List, [], ◌∷◌, ◌++◌, length, map, min, Bool, true, false, cond, ◌||◌, ◌==◌, nat_lt, not, Result, Err, Option, Some, None, option_map, option_and_then, is_some, refl, ap, ap₂, sym, ◌∙◌, arith, append_assoc, append-nil, length-append}
use Rattle.std.specs.Borrow.{Bor}
use Rattle.std.specs.List.{cons_option, filter_map, slice_split, onto_first}
use Rattle.std.specs.Option.{option_or}
use Rattle.std.proofs.lemmas.Bool.{or_parts}
use borrow.Author.Tests.{ltb-false}
use Rattle.std.proofs.lemmas.List.{map-append}
use Rattle.std.proofs.lemmas.List.Elements.{filter-append, filter_map-append}
use Rattle.serde_json.specs.Data.{Data}
use Rattle.ksql_types.specs.declared.relation.Relation.{Relation}
use Rattle.topic_files.specs.declared.topic.Fed.{Fed}
use Rattle.topic_files.specs.declared.topic.FileFault.{FileFault}
use Rattle.topic_files.specs.declared.topic.FileFault.TheVariants.{Refused}
use Rattle.topic_files.specs.declared.topic.LineWhy.{LineWhy}
use Rattle.topic_files.specs.declared.topic.LineWhy.TheVariants.{BadLine, TooLarge}
use Rattle.topic_files.specs.declared.topic.Room.{Room}
use Rattle.topic_files.specs.declared.topic.TopicLines.{TopicLines}
use Rattle.topic_files.specs.Lines.{is_line_feed, is_blank, lines_of, record_lines, without_empty_end}
use Rattle.topic_files.specs.TopicLine.{data_of, topic_time}
use Rattle.topic_files.specs.Record.{fed_of, fed_of_data, record_at}
use Rattle.topic_files.specs.File.{answer, bytes_of, fault, feds_of, first_fault, first_fault_behind, is_topic_line, passes}

-- the lines that were yielded
abbrev pub before : List (Bor (List ℕ)) → List (List ℕ)
before yielded = map (λ line. line.now) yielded

pub before-push : (yielded : List (Bor (List ℕ))) (line : Bor (List ℕ)) → before (yielded ++ line ∷ []) ≡ before yielded ++ line.now ∷ []
before-push yielded line = map-append (λ l. l.now) yielded (line ∷ [])

-- ---- bytes

pub bytes_of-append : (xs ys : List (List ℕ)) → bytes_of (xs ++ ys) ≡ bytes_of xs + bytes_of ys
bytes_of-append [] ys = omega arith
bytes_of-append (x ∷ xs) ys = omega (arith, bytes_of-append xs ys)

bytes_of-onto_first : (x : ℕ) (parts : List (List ℕ)) → 0 < bytes_of parts → bytes_of (onto_first x parts) ≡ bytes_of parts + 1
bytes_of-onto_first x [] some = absurd (omega arith)
bytes_of-onto_first x (part ∷ parts) some = omega arith

-- the pieces of a file have its bytes and one line feed more
bytes_of-slice_split : (xs : List ℕ) → bytes_of (slice_split is_line_feed xs) ≡ length xs + 1
bytes_of-slice_split [] = refl
bytes_of-slice_split (x ∷ xs) = by_test (is_line_feed x) (bytes_of-slice_split xs)
  where
    by_test : (b : Bool) → bytes_of (slice_split is_line_feed xs) ≡ length xs + 1
        → bytes_of (cond b ([] ∷ slice_split is_line_feed xs) (onto_first x (slice_split is_line_feed xs))) ≡ length (x ∷ xs) + 1
    by_test true rest = omega arith
    by_test false rest = omega (arith, bytes_of-onto_first x (slice_split is_line_feed xs) (omega arith))

bytes_of-without_empty_end : (pieces : List (List ℕ)) → bytes_of (without_empty_end pieces) ≤ bytes_of pieces
bytes_of-without_empty_end [] = omega arith
bytes_of-without_empty_end (piece ∷ []) = by_test (length piece == 0)
  where
    by_test : (b : Bool) → bytes_of (cond b [] (piece ∷ [])) ≤ bytes_of (piece ∷ [])
    by_test true = omega arith
    by_test false = omega arith
bytes_of-without_empty_end (piece ∷ next ∷ more) = omega (arith, bytes_of-without_empty_end (next ∷ more))

-- the lines of a file have its bytes, and one line feed more at most
pub bytes_of-lines_of : (file : List ℕ) → bytes_of (lines_of file) ≤ length file + 1
bytes_of-lines_of file = omega (arith, bytes_of-without_empty_end (slice_split is_line_feed file), bytes_of-slice_split file)

-- each line has a byte at least
length-bytes_of : (lines : List (List ℕ)) → length lines ≤ bytes_of lines
length-bytes_of [] = omega arith
length-bytes_of (line ∷ lines) = omega (arith, length-bytes_of lines)

-- ---- records

length-record_lines : (lines : List (List ℕ)) → length (record_lines lines) ≤ length lines
length-record_lines [] = omega arith
length-record_lines (line ∷ lines) = by_test (is_blank line) (length-record_lines lines)
  where
    by_test : (b : Bool) → length (record_lines lines) ≤ length lines
        → length (cond (not b) (line ∷ record_lines lines) (record_lines lines)) ≤ length (line ∷ lines)
    by_test true few = omega arith
    by_test false few = omega arith

-- one more line is a record unless it is blank
pub record_lines-push : (lines : List (List ℕ)) (line : List ℕ) (blank : Bool) → is_blank line ≡ blank
    → record_lines (lines ++ line ∷ []) ≡ record_lines lines ++ cond blank [] (line ∷ [])
record_lines-push lines line true e =
    filter-append (λ l. not (is_blank l)) lines (line ∷ []) ∙ ap (λ b. record_lines lines ++ cond (not b) (line ∷ []) []) e
record_lines-push lines line false e =
    filter-append (λ l. not (is_blank l)) lines (line ∷ []) ∙ ap (λ b. record_lines lines ++ cond (not b) (line ∷ []) []) e

feds_of-blank : (relation : Relation) (lines : List (List ℕ)) (line : List ℕ) → is_blank line ≡ true
    → feds_of relation (lines ++ line ∷ []) ≡ feds_of relation lines
feds_of-blank relation lines line e =
    ap (filter_map (fed_of relation)) (record_lines-push lines line true e ∙ append-nil (record_lines lines))

feds_of-record : (relation : Relation) (lines : List (List ℕ)) (line : List ℕ) (fed : Fed) → is_blank line ≡ false → fed_of relation line ≡ Some fed
    → feds_of relation (lines ++ line ∷ []) ≡ feds_of relation lines ++ fed ∷ []
feds_of-record relation lines line fed e is =
    ap (filter_map (fed_of relation)) (record_lines-push lines line false e)
    ∙ filter_map-append (fed_of relation) (record_lines lines) (line ∷ [])
    ∙ ap (λ o. feds_of relation lines ++ cons_option o []) is

-- ---- faults

-- a line is a topic line if it has a record
is_topic_line-is : (relation : Relation) (line : List ℕ) → is_topic_line line ≡ is_some (fed_of relation line)
is_topic_line-is relation line = by_data (data_of line)
  where
    by_time : (json : Data) (o : Option ℕ) → is_some o ≡ is_some (option_map (record_at relation json) o)
    by_time json None = refl
    by_time json (Some time) = refl

    by_data : (o : Option Data) → is_some (option_and_then topic_time o) ≡ is_some (option_and_then (fed_of_data relation) o)
    by_data None = refl
    by_data (Some json) = by_time json (topic_time json)

fault-large : (room : Room) (file : List ℕ) (lines : List (List ℕ)) (line : List ℕ) → passes room file (lines ++ line ∷ []) ≡ true
    → fault room file lines line ≡ Some TooLarge
fault-large room file lines line e = ap (λ b. cond b (Some TooLarge) (cond (is_blank line || is_topic_line line) None (Some BadLine))) e

fault-within : (room : Room) (file : List ℕ) (lines : List (List ℕ)) (line : List ℕ) (b : Bool) → passes room file (lines ++ line ∷ []) ≡ false
    → (is_blank line || is_topic_line line) ≡ b → fault room file lines line ≡ cond b None (Some BadLine)
fault-within room file lines line b e f =
    ap (λ b. cond b (Some TooLarge) (cond (is_blank line || is_topic_line line) None (Some BadLine))) e ∙ ap (λ b. cond b None (Some BadLine)) f

-- the fault of the next line, or else those after it
next_fault : (room : Room) (file : List ℕ) (lines : List (List ℕ)) (line : List ℕ) (more : List (List ℕ)) (found : Option LineWhy)
    → fault room file lines line ≡ found
    → first_fault_behind room file lines (line ∷ more)
    ≡ option_or (option_map (λ why. (length lines + 1, why)) found) (first_fault_behind room file (lines ++ line ∷ []) more)
next_fault room file lines line more found e =
    ap (λ o. option_or (option_map (λ why. (length lines + 1, why)) o) (first_fault_behind room file (lines ++ line ∷ []) more)) e

-- ---- what is known when some lines of a file were read

pub record Reached (relation : Relation) (room : Room) (file : List ℕ) (lines left : List (List ℕ)) (number records taken : ℕ) (feds : List Fed) : Type 0 where
  pub parts : lines_of file ≡ lines ++ left
  pub number_is : number ≡ length lines
  pub records_is : records ≡ length (record_lines lines)
  pub taken_is : taken ≡ bytes_of lines
  pub within : min taken (length file) ≤ room.bytes
  pub fault_is : first_fault room file ≡ first_fault_behind room file lines left
  pub feds_is : feds ≡ feds_of relation lines

-- the same, with lists that are equal
pub moved : {relation : Relation} {room : Room} {file : List ℕ} {lines left : List (List ℕ)} {number records taken : ℕ} {feds : List Fed}
    → Reached relation room file lines left number records taken feds
    → (lines' left' : List (List ℕ)) (feds' : List Fed) → lines' ≡ lines → left' ≡ left → feds' ≡ feds
    → Reached relation room file lines' left' number records taken feds'
moved {relation = relation} {room = room} {file = file} reached lines' left' feds' ls ms fs = record {
  parts = reached.parts ∙ ap₂ ◌++◌ (sym ls) (sym ms);
  number_is = reached.number_is ∙ ap length (sym ls);
  records_is = reached.records_is ∙ ap (λ l. length (record_lines l)) (sym ls);
  taken_is = reached.taken_is ∙ ap bytes_of (sym ls);
  within = reached.within;
  fault_is = reached.fault_is ∙ ap₂ (first_fault_behind room file) (sym ls) (sym ms);
  feds_is = fs ∙ reached.feds_is ∙ ap (feds_of relation) (sym ls);
}

-- what a refusal says is the first fault
pub refused_is : (refusal : FileFault) (number : ℕ) (why : LineWhy) (found : Option (ℕ × LineWhy)) → refusal ≡ Refused number why → found ≡ Some (number, why)
    → (line : ℕ) (cause : LineWhy) → ◌≡◌ {A = Result TopicLines FileFault} (Err refusal) (Err (Refused line cause)) → found ≡ Some (line, cause)
refused_is refusal number why found said is line cause e =
    let same : number ≡ line = cc in
    let alike : why ≡ cause = cc in
    is ∙ ap₂ (λ n w. Some (n, w)) same alike

-- so it is the result
pub refused_answers : (refusal : FileFault) (number : ℕ) (why : LineWhy) (found : Option (ℕ × LineWhy)) (lines : TopicLines)
    → refusal ≡ Refused number why → found ≡ Some (number, why) → ◌≡◌ {A = Result TopicLines FileFault} (Err refusal) (answer found lines)
refused_answers refusal number why found lines said is = ap Err said ∙ ap (λ f. answer f lines) (sym is)

module _ (relation : Relation) (room : Room) (file : List ℕ) (lines : List (List ℕ)) (line : List ℕ) (more : List (List ℕ)) (number records taken : ℕ) (feds : List Fed)
    (reached : Reached relation room file lines (line ∷ more) number records taken feds) where
  -- the next line lies within the file
  pub taken_fits : taken + (length line + 1) ≤ length file + 1
  taken_fits = omega (arith, reached.taken_is, bytes_of-lines_of file, ap bytes_of reached.parts, bytes_of-append lines (line ∷ more))

  pub number_fits : number ≤ room.bytes
  number_fits = omega (arith, taken_fits, reached.number_is, reached.taken_is, reached.within, length-bytes_of lines)

  pub records_fit : records ≤ number
  records_fit = omega (arith, reached.number_is, reached.records_is, length-record_lines lines)

  taken_next : taken + (length line + 1) ≡ bytes_of (lines ++ line ∷ [])
  taken_next = omega (arith, reached.taken_is, bytes_of-append lines (line ∷ []))

  number_next : number + 1 ≡ length (lines ++ line ∷ [])
  number_next = omega (arith, reached.number_is, length-append lines (line ∷ []))

  records_next : (blank : Bool) (one : ℕ) → is_blank line ≡ blank → one ≡ cond (not blank) 1 0 → records + one ≡ length (record_lines (lines ++ line ∷ []))
  records_next true one e counts = omega (arith, reached.records_is, ap length (record_lines-push lines line true e), length-append (record_lines lines) [])
  records_next false one e counts = omega (arith, reached.records_is, ap length (record_lines-push lines line false e), length-append (record_lines lines) (line ∷ []))

  -- the test of the room, as the code makes it with `one` more record
  abbrev pub is_over : ℕ → Bool
  is_over one = nat_lt room.records (records + one) || nat_lt room.bytes (min (taken + (length line + 1)) (length file))

  passes_is : (blank : Bool) (one : ℕ) → is_blank line ≡ blank → one ≡ cond (not blank) 1 0 → passes room file (lines ++ line ∷ []) ≡ is_over one
  passes_is blank one e counts =
      ap₂ (λ r t. nat_lt room.records r || nat_lt room.bytes (min t (length file))) (sym (records_next blank one e counts)) (sym taken_next)

  -- after the test, the bytes so far are within the room
  fits_of : (one : ℕ) → is_over one ≡ false → min (taken + (length line + 1)) (length file) ≤ room.bytes
  fits_of one e = ltb-false room.bytes (min (taken + (length line + 1)) (length file))
      (or_parts (nat_lt room.records (records + one)) (nat_lt room.bytes (min (taken + (length line + 1)) (length file))) e).1

  pub is_large : (blank : Bool) (one : ℕ) → is_blank line ≡ blank → one ≡ cond (not blank) 1 0 → is_over one ≡ true
      → first_fault room file ≡ Some (number + 1, TooLarge)
  is_large blank one e counts over =
      reached.fault_is ∙ next_fault room file lines line more (Some TooLarge) (fault-large room file lines line (passes_is blank one e counts ∙ over))
      ∙ ap (λ n. Some (n + 1, TooLarge)) (sym reached.number_is)

  pub is_bad : (one : ℕ) → is_blank line ≡ false → one ≡ 1 → is_over one ≡ false → fed_of relation line ≡ None
      → first_fault room file ≡ Some (number + 1, BadLine)
  is_bad one e counts within none =
      reached.fault_is
      ∙ next_fault room file lines line more (Some BadLine)
      (fault-within room file lines line false (passes_is false one e counts ∙ within) (ap (λ b. b || is_topic_line line) e ∙ is_topic_line-is relation line ∙ ap is_some none))
      ∙ ap (λ n. Some (n + 1, BadLine)) (sym reached.number_is)

  pub blank_passed : (one : ℕ) → is_blank line ≡ true → one ≡ 0 → is_over one ≡ false
      → Reached relation room file (lines ++ line ∷ []) more (number + 1) (records + one) (taken + (length line + 1)) feds
  blank_passed one e counts within = record {
    parts = reached.parts ∙ sym (append_assoc lines (line ∷ []) more);
    number_is = number_next;
    records_is = records_next true one e counts;
    taken_is = taken_next;
    within = fits_of one within;
    fault_is = reached.fault_is ∙ next_fault room file lines line more None
        (fault-within room file lines line true (passes_is true one e counts ∙ within) (ap (λ b. b || is_topic_line line) e));
    feds_is = reached.feds_is ∙ sym (feds_of-blank relation lines line e);
  }

  pub record_passed : (one : ℕ) (fed : Fed) → is_blank line ≡ false → one ≡ 1 → is_over one ≡ false → fed_of relation line ≡ Some fed
      → Reached relation room file (lines ++ line ∷ []) more (number + 1) (records + one) (taken + (length line + 1)) (feds ++ fed ∷ [])
  record_passed one fed e counts within is = record {
    parts = reached.parts ∙ sym (append_assoc lines (line ∷ []) more);
    number_is = number_next;
    records_is = records_next false one e counts;
    taken_is = taken_next;
    within = fits_of one within;
    fault_is = reached.fault_is ∙ next_fault room file lines line more None
        (fault-within room file lines line true (passes_is false one e counts ∙ within) (ap (λ b. b || is_topic_line line) e ∙ is_topic_line-is relation line ∙ ap is_some is));
    feds_is = ap (λ xs. xs ++ fed ∷ []) reached.feds_is ∙ sym (feds_of-record relation lines line fed e is);
  }
