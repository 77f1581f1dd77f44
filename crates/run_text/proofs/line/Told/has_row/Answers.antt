use Rattle.std.proofs.Common.{◌∙◌, Bor, List, ap, sym}
use Rattle.std.specs.Prelude.{is_some}
use Rattle.ksql_types.specs.declared.value.Value.{Value}
use Rattle.run_text.proofs.TableLemmas.{is_some-lent}
use Rattle.run_text.proofs.line.Told.has_row.Goals as goal

pub returns : goal.returns
returns c = c.is_some.ensures ∙ sym (is_some-lent (λ (row : Bor (List Value)). row.now) c.row.result) ∙ ap is_some c.row.ensures
