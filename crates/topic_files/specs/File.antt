-- The content of a topic file: its records, or its first bad line.
use Rattle.std.specs.Prelude.{ℕ, ◌+◌, List, [], ◌∷◌, ◌++◌, length, min, Bool, ◌||◌, nat_lt, if◌then◌else◌, Option, Some, None, Result, Ok, Err, option_map, option_and_then, is_some}
use Rattle.std.specs.List.{filter_map}
use Rattle.std.specs.Option.{option_or}
use Rattle.ksql_types.specs.declared.relation.Relation.{Relation}
use Rattle.topic_files.specs.declared.topic.Fed.{Fed}
use Rattle.topic_files.specs.declared.topic.FileFault.{FileFault}
use Rattle.topic_files.specs.declared.topic.FileFault.TheVariants.{Refused}
use Rattle.topic_files.specs.declared.topic.LineWhy.{LineWhy}
use Rattle.topic_files.specs.declared.topic.LineWhy.TheVariants.{BadLine, TooLarge}
use Rattle.topic_files.specs.declared.topic.Room.{Room}
use Rattle.topic_files.specs.declared.topic.TopicLines.{TopicLines}
use Rattle.topic_files.specs.Lines.{is_blank, lines_of, record_lines}
use Rattle.topic_files.specs.Record.{fed_of}
use Rattle.topic_files.specs.TopicLine.{data_of, topic_time}

-- the number of bytes of lines, including a line feed after each
abbrev pub bytes_of : List (List ℕ) → ℕ
bytes_of [] = 0
bytes_of (line ∷ lines) = length line + 1 + bytes_of lines

-- the number of bytes that the first lines of a file take; the last line may lack its line feed
abbrev pub bytes_taken : List ℕ → List (List ℕ) → ℕ
bytes_taken file lines = min (bytes_of lines) (length file)

-- whether the first lines of a file exceed the room, in records or bytes
abbrev pub passes : Room → List ℕ → List (List ℕ) → Bool
passes room file lines = nat_lt room.records (length (record_lines lines)) || nat_lt room.bytes (bytes_taken file lines)

-- whether a line is a topic line
abbrev pub is_topic_line : List ℕ → Bool
is_topic_line line = is_some (option_and_then topic_time (data_of line))

-- what is wrong with a line of a file after these lines: the room is exceeded there, or else it is neither blank nor a
-- topic line
abbrev pub fault : Room → List ℕ → List (List ℕ) → List ℕ → Option LineWhy
fault room file before line = if passes room file (before ++ line ∷ []) then Some TooLarge else (if is_blank line || is_topic_line line then None else Some BadLine)

-- the first fault in these lines, which come after earlier ones, with its line number
abbrev pub first_fault_behind : Room → List ℕ → List (List ℕ) → List (List ℕ) → Option (ℕ × LineWhy)
first_fault_behind room file before [] = None
first_fault_behind room file before (line ∷ more) =
    option_or (option_map (λ why. (length before + 1, why)) (fault room file before line)) (first_fault_behind room file (before ++ line ∷ []) more)

-- the first fault of a file, with its line number, counted from 1; None if the file is good
abbrev pub first_fault : Room → List ℕ → Option (ℕ × LineWhy)
first_fault room file = first_fault_behind room file [] (lines_of file)

-- the records of lines, by the columns and the format of their relation
abbrev pub feds_of : Relation → List (List ℕ) → List Fed
feds_of relation lines = filter_map (fed_of relation) (record_lines lines)

-- the records of a good file
abbrev pub topic_lines : Relation → List ℕ → TopicLines
topic_lines relation file = record { relation = relation.number; feds = feds_of relation (lines_of file) }

-- the result, given the first fault, if any, and the records
abbrev pub answer : Option (ℕ × LineWhy) → TopicLines → Result TopicLines FileFault
answer None lines = Ok lines
answer (Some found) lines = Err (Refused found.0 found.1)

-- the result for a file, unless memory runs out: its records if no line has a fault, else the first fault
abbrev pub reading : Relation → Room → List ℕ → Result TopicLines FileFault
reading relation room file = answer (first_fault room file) (topic_lines relation file)
