use Rattle.record_codec.specs.Spelling.{spelling, values, IsSpellable, IsSpellableRow}
use Rattle.record_codec.proofs.Parsers.{change_at, row_at}
use Rattle.record_codec.proofs.Readers.{spelled-apart}
use Rattle.record_codec.proofs.Parts.{reads-change, reads-row}
use Rattle.record_codec.proofs.law.one_spelling.Goals as goal

pub returns-clause-changes : goal.returns-clause-changes
returns-clause-changes c = λ a b more ha hb e. spelled-apart spelling IsSpellable change_at reads-change a b more ha hb e

pub returns-clause-rows : goal.returns-clause-rows
returns-clause-rows c = λ a b more ha hb e. spelled-apart values IsSpellableRow row_at reads-row a b more ha hb e
