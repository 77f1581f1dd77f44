-- The events of the core that a journal tells of, of steps in which no worker stalls or wakes.
use Rattle.std.specs.Prelude.{List, [], ◌∷◌, ◌++◌, map}
use Rattle.ksql_types.specs.declared.relation.TaskName.{TaskName}
use Rattle.ksql_place.specs.declared.change.SourceRecord.{SourceRecord}
use Rattle.core_state.specs.Events.{Event, advance, commit, feed, leave, offer, restore}
use Rattle.core_state.specs.declared.journal.JournalEntry.{JournalEntry}
use Rattle.core_state.specs.declared.journal.JournalEntry.TheVariants as entry

-- the tasks of the commits with which a journal begins
abbrev pub committing : List JournalEntry → List TaskName
committing (entry.Committed t from to ∷ notes) = t ∷ committing notes
committing notes = []

-- The events that a journal tells of, in order; a feed is of these records. A round tells of the advances of the tasks
-- whose commits come next, one for each commit, and the beginning of a step of nothing.
abbrev pub told : List SourceRecord → List JournalEntry → List Event
told records [] = []
told records (entry.Step line ∷ notes) = told records notes
told records (entry.Round number ∷ notes) = map advance (committing notes) ++ told records notes
told records (entry.Fed number many ∷ notes) = feed records ∷ told records notes
told records (entry.Committed t from to ∷ notes) = commit t ∷ told records notes
told records (entry.Left t generation ∷ notes) = leave t ∷ told records notes
told records (entry.Restored t worker generation done ∷ notes) = restore t ∷ told records notes
told records (entry.Fenced t held newest ∷ notes) = offer t ∷ told records notes
