-- What a partition shows.
use Rattle.std.specs.Prelude.{List, ◌++◌, map}
use Rattle.ksql_place.specs.declared.change.Change.{Change}
use Rattle.ksql_place.specs.declared.change.SourceRecord.{SourceRecord}
use Rattle.core_state.specs.declared.log.LogEntry.{LogEntry}
use Rattle.core_state.specs.declared.log.LogEntry.TheVariants.{Fed, Said}
use Rattle.topic_log.specs.declared.shelves.Entries.{Entries}
use Rattle.topic_log.specs.declared.shelves.PartShelf.{PartShelf}

-- the entries of records that were fed, then those of changes that were sent
abbrev pub entries_of : List SourceRecord → List Change → List LogEntry
entries_of records changes = map Fed records ++ map Said changes

abbrev pub entries_in : Entries → List LogEntry
entries_in e = entries_of e.fed.now e.said.now

-- what a partition shows
abbrev pub shown_in : PartShelf → List LogEntry
shown_in p = entries_of p.fed.items p.said.items
