-- The meaning of the records up to a feed.
use Rattle.std.specs.Prelude.{◌≡◌, ℕ, List, map, filter, nat_le}
use Rattle.ksql_place.specs.declared.change.Change.{Change}
use Rattle.ksql_place.specs.declared.change.SourceRecord.{SourceRecord}
use Rattle.ksql_program.specs.declared.program.Item.{Item}
use Rattle.query_meaning.specs.Meaning.{meaning, up_to}

-- the changes up to a feed
abbrev pub changes_up_to : ℕ → List Change → List Change
changes_up_to feed changes = filter (λ c. nat_le c.place.stamp.feed feed) changes

-- the meaning of the records up to any feed is the meaning of all of them, cut at that feed
abbrev pub IsMeantByFeeds : List Item → List SourceRecord → Type 0
IsMeantByFeeds items order = (feed : ℕ) → meaning items (up_to feed order) ≡ map (changes_up_to feed) (meaning items order)
