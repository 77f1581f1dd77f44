use Rattle.std.proofs.Common.{◌∙◌, ap, sym}
use Rattle.std.specs.Prelude.{option_copied}
use Rattle.row_ops.proofs.InputTable.{latest-none, latest-read}
use Rattle.row_ops.proofs.input_table.kept_in.Goals as goal

pub returns-in-Some : goal.returns-in-Some
returns-in-Some c = λ es fits is. latest-read c.in-Some.bytes.now c.decode_new.result c.decode_new.ensures es fits (sym (ap option_copied c.in-Some.is) ∙ is)

pub returns-in-None : goal.returns-in-None
returns-in-None c = λ es fits is. latest-none es (sym (ap option_copied c.in-None.is) ∙ is)
