use Rattle.std.proofs.Common.{◌≡◌, None, IfSome}
use Rattle.std.proofs.lemmas.Result.{IfOk-weaker}
use Rattle.ksql_rules.specs.Lowest.{BreaksFirst, BreaksNone}
use Rattle.ksql_rules.proofs.Codes.{behind, none-behind, first-behind}
use Rattle.ksql_rules.proofs.verdict.+first_broken.Goals as goal

pub returns-clause-none : goal.returns-clause-none
returns-clause-none t c =
    let catalog = c.args.catalog.now in
    let st = c.args.statement.now in
    let codes = c.args.codes.now in
    IfOk-weaker c.first_broken.result (λ found. found ≡ None → BreaksNone catalog st (behind codes)) (λ found. found ≡ None → BreaksNone catalog st codes)
    (λ found h none. none-behind catalog st codes c.in_ok-breaks.field-0 c.in-len1-up.len_at_least c.in_ok-breaks.ensures c.if-branch.false (h none))
    c.first_broken.ensures.none

pub returns-clause-first : goal.returns-clause-first
returns-clause-first t c =
    let catalog = c.args.catalog.now in
    let st = c.args.statement.now in
    let codes = c.args.codes.now in
    IfOk-weaker c.first_broken.result (λ found. IfSome found (λ code. BreaksFirst catalog st (behind codes) code))
    (λ found. IfSome found (λ code. BreaksFirst catalog st codes code))
    (λ found h. first-behind catalog st codes c.in_ok-breaks.field-0 found c.in-len1-up.len_at_least c.in_ok-breaks.ensures c.if-branch.false h)
    c.first_broken.ensures.first
