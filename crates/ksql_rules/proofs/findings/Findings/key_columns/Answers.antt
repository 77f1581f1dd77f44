use Rattle.std.proofs.Common.{◌≡◌, ◌∙◌, ap₂, map}
use Rattle.std.proofs.lemmas.Result.{IfOk-weaker}
use Rattle.ksql_clauses.specs.Items.{result_columns}
use Rattle.ksql_clauses.specs.Keys.{at_places, needs}
use Rattle.ksql_clauses.proofs.KeyColumns.{first-columns-are}
use Rattle.ksql_rules.proofs.findings.Findings.key_columns.Goals as goal

pub returns : goal.returns
returns c =
    let q = c.args.self.now.select.now in
    let ks = c.args.self.now.known.items in
    let at = ap₂ at_places (c.deref.ensures.value ∙ c.requires.columns_are) (c.deref-2.ensures.value ∙ c.requires.places_are) in
    IfOk-weaker c.columns_at.result _ _ (λ found h. h ∙ at ∙ first-columns-are (result_columns q ks) (needs q ks)) c.columns_at.ensures
