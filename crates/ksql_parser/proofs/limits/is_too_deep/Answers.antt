use Rattle.std.proofs.Common.{rules, ◌+◌, refl, arith}
use Rattle.ksql_lexer.specs.Script.{kinds}
use Rattle.ksql_parser.specs.Limits.{is_opening, is_closing}
use Rattle.ksql_parser.proofs.Runs.{counted, shallow_none, shallow_more}
use Rattle.ksql_parser.proofs.limits.is_too_deep.Goals as goal

pub loop-token-init : goal.loop-token-init
loop-token-init c = record { opened = search rules; closed = search rules; shallow = shallow_none _ }

pub returns-then-closed-opened : goal.returns-then-closed-opened
returns-then-closed-opened c =
    let ts = c.args.tokens.now in
    let i = c.loop-token.token-index in
    let opened = counted is_opening ts i c.token-item.result c.loop-token-test.true c.token-item.is c.loop-token.opened c.from-opened.result c.is_opening.result
    c.loop-token.invariant.opened c.from-opened.ensures c.is_opening.ensures in
    let closed = counted is_closing ts i c.token-item.result c.loop-token-test.true c.token-item.is c.loop-token.closed c.from-closed.result c.is_closing.result
    c.loop-token.invariant.closed c.from-closed.ensures c.is_closing.ensures in
    let deep = c.if-closed-opened.true in
    (λ _. (i + 1, omega (arith, opened, closed, deep)), λ _. refl)

pub loop-token-preserved : goal.loop-token-preserved
loop-token-preserved c =
    let ts = c.args.tokens.now in
    let i = c.loop-token.token-index in
    let opened = counted is_opening ts i c.token-item.result c.loop-token-test.true c.token-item.is c.loop-token.opened c.from-opened.result c.is_opening.result
    c.loop-token.invariant.opened c.from-opened.ensures c.is_opening.ensures in
    let closed = counted is_closing ts i c.token-item.result c.loop-token-test.true c.token-item.is c.loop-token.closed c.from-closed.result c.is_closing.result
    c.loop-token.invariant.closed c.from-closed.ensures c.is_closing.ensures in
    let shallow = c.if-closed-opened.false in
    record { opened = opened; closed = closed; shallow = shallow_more (kinds ts) i c.loop-token.invariant.shallow (omega (arith, opened, closed, shallow)) }
