use Rattle.std.proofs.Common.{◌+◌, [], ap, sym, ◌∙◌, subst}
use Rattle.std.proofs.lemmas.Result.{err_from_is_err_and}
use Rattle.std.specs.Prelude.{Ok, Err}
use Rattle.std.proofs.lemmas.List.Elements.{All-get_or}
use Rattle.statement_trees.specs.declared.tree.Statement.{Statement}
use Rattle.ksql_rules.specs.Limits.{IsWithinLimits}
use Rattle.ksql_analyse.specs.Few.{HasFewCalls}
use Rattle.ksql_analyse.proofs.unique.Behind.{Done, none-done, one-next, one-more, judged-whole, fault-judged}
use Rattle.ksql_analyse.proofs.parsed.FewCalls.{parsed-few}
use Rattle.ksql_analyse.proofs.parsed.Parsed.{parsed-within}
use Rattle.ksql_analyse.proofs.sound.SoundPrograms.{judgement-sound}
use Rattle.ksql_analyse.proofs.unique.Unique.{program-answered, refusal-answered}
use Rattle.ksql_analyse.proofs.judgement.analyse.Goals as goal

pub loop-index-init : goal.loop-index-init
loop-index-init c =
    let sts = c.args.statements.now in
    subst (λ rs. Done sts 0 rs c.new-items.result.items) (sym c.new-catalog.ensures)
    (subst (λ is. Done sts 0 [] is) (sym c.new-items.ensures.items) (none-done sts))

pub judged-requires-clause-limits : goal.judged-requires-clause-limits
judged-requires-clause-limits c =
    let sts = c.args.statements.now in
    let st = c.index-statements-index.result in
    subst IsWithinLimits (sym c.index-statements-index.is) (parsed-within sts c.requires c.loop-index.index st c.loop-index-test.true)

pub judged-requires-clause-few : goal.judged-requires-clause-few
judged-requires-clause-few c =
    let sts = c.args.statements.now in
    let st = c.index-statements-index.result in
    subst (λ (s : Statement). HasFewCalls s.body) (sym c.index-statements-index.is)
    (All-get_or (λ (s : Statement). HasFewCalls s.body) sts c.loop-index.index st c.loop-index-test.true (parsed-few sts c.requires))

pub accept-requires-clause-free : goal.accept-requires-clause-free
accept-requires-clause-free c =
    (one-next c.args.statements.now c.loop-index.index c.loop-index.catalog c.loop-index.items.items c.index-statements-index.result c.in_ok-item.item c.requires
    c.loop-index.invariant c.loop-index-test.true c.index-statements-index.is c.in_ok-item.ensures.accepted c.in_ok-item.ensures.found).free

pub loop-index-preserved : goal.loop-index-preserved
loop-index-preserved c =
    let sts = c.args.statements.now in
    let d = one-more sts c.loop-index.index c.loop-index.catalog c.accept.new.catalog c.loop-index.items.items c.index-statements-index.result c.in_ok-item.item c.requires
    c.loop-index.invariant c.loop-index-test.true c.index-statements-index.is c.in_ok-item.ensures.accepted c.in_ok-item.ensures.found c.in_ok-accept.ensures.catalog in
    subst (λ is. Done sts (c.loop-index.index + 1) c.accept.new.catalog is) (sym c.in_ok-accept.ensures.items) d

pub returns-in_err-item-clause-found : goal.returns-in_err-item-clause-found
returns-in_err-item-clause-found c =
    let p = err_from_is_err_and c.from_residual.result c.from_residual.ensures.1 in
    fault-judged c.args.statements.now c.loop-index.index c.loop-index.catalog c.loop-index.items.items c.index-statements-index.result c.in_err-item.field-0.0
    c.loop-index.invariant c.loop-index-test.true c.index-statements-index.is c.in_err-item.ensures.fault c.from_residual.result (p.1 ∙ ap (λ e. Err e) p.2)

pub returns-in_err-item-clause-only : goal.returns-in_err-item-clause-only
returns-in_err-item-clause-only c =
    let p = err_from_is_err_and c.from_residual.result c.from_residual.ensures.1 in
    program-answered c.args.statements.now c.from_residual.result
    (fault-judged c.args.statements.now c.loop-index.index c.loop-index.catalog c.loop-index.items.items c.index-statements-index.result c.in_err-item.field-0.0
    c.loop-index.invariant c.loop-index-test.true c.index-statements-index.is c.in_err-item.ensures.fault c.from_residual.result (p.1 ∙ ap (λ e. Err e) p.2))

pub returns-in_err-item-clause-refused : goal.returns-in_err-item-clause-refused
returns-in_err-item-clause-refused c =
    let p = err_from_is_err_and c.from_residual.result c.from_residual.ensures.1 in
    refusal-answered c.args.statements.now c.from_residual.result
    (fault-judged c.args.statements.now c.loop-index.index c.loop-index.catalog c.loop-index.items.items c.index-statements-index.result c.in_err-item.field-0.0
    c.loop-index.invariant c.loop-index-test.true c.index-statements-index.is c.in_err-item.ensures.fault c.from_residual.result (p.1 ∙ ap (λ e. Err e) p.2))

pub returns-clause-found : goal.returns-clause-found
returns-clause-found c = judged-whole c.args.statements.now c.loop-index.index c.loop-index.catalog c.loop-index.items.items c.of.result c.loop-index.invariant
    c.loop-index-test.false c.of.ensures

pub returns-clause-only : goal.returns-clause-only
returns-clause-only c =
    program-answered c.args.statements.now (Ok (record { items = c.of.result }))
    (judged-whole c.args.statements.now c.loop-index.index c.loop-index.catalog c.loop-index.items.items c.of.result c.loop-index.invariant
    c.loop-index-test.false c.of.ensures)

pub returns-clause-refused : goal.returns-clause-refused
returns-clause-refused c =
    refusal-answered c.args.statements.now (Ok (record { items = c.of.result }))
    (judged-whole c.args.statements.now c.loop-index.index c.loop-index.catalog c.loop-index.items.items c.of.result c.loop-index.invariant
    c.loop-index-test.false c.of.ensures)

pub returns-clause-sound : goal.returns-clause-sound
returns-clause-sound c =
    judgement-sound c.args.statements.now (Ok (record { items = c.of.result })) c.requires
    (judged-whole c.args.statements.now c.loop-index.index c.loop-index.catalog c.loop-index.items.items c.of.result c.loop-index.invariant
    c.loop-index-test.false c.of.ensures)
