use Rattle.std.proofs.Common.{suc, sym, ap, ◌∙◌, length, Ok, Err, arith}
use Rattle.std.proofs.lemmas.Result.{err_from_is_err_and}
use Rattle.expression_trees.specs.declared.tree.Expr.TheVariants.{Binary}
use Rattle.ksql_grammar.specs.Reading.{with_rest}
use Rattle.ksql_grammar.specs.Expressions.{within, chain, chain_with, operator_at, operand_of}
use Rattle.ksql_grammar.proofs.Chains.{chain_empty, chain_starts, chain_stops, chain_fails, chain_turn, first_takes}
use Rattle.ksql_grammar.proofs.Only.{operand_takes}
use Rattle.ksql_grammar.proofs.Errors.{gives_err}
use Rattle.ksql_grammar.proofs.expression.Nested.chain.Goals as goal

pub returns-in_err-left : goal.returns-in_err-left
returns-in_err-left g c =
    let op = operator_at c.args.level in
    let operand = operand_of (within c.args.self.now.room) c.args.level in
    let p = err_from_is_err_and c.from_residual.result c.from_residual.ensures.1 in
    rw (p.1, p.2) (gives_err with_rest with_rest c.in_err-left.field-0.0 (operand c.args.symbols.now) (chain op operand c.args.symbols.now)
    (c.requires.reads c.args.symbols (Err c.in_err-left.field-0.0) c.in_err-left.ensures) (chain_empty op operand c.args.symbols.now))

pub loop-op-init : goal.loop-op-init
loop-op-init g c =
    sym (chain_starts (operator_at c.args.level) (operand_of (within c.args.self.now.room) c.args.level) c.in_ok-left.left c.args.symbols.now c.in_ok-left.rest.now
    (c.requires.reads c.args.symbols (Ok (c.in_ok-left.left, c.in_ok-left.rest)) c.in_ok-left.ensures))

pub returns-in_err-right : goal.returns-in_err-right
returns-in_err-right g c =
    let op = operator_at c.args.level in
    let operand = operand_of (within c.args.self.now.room) c.args.level in
    let rest = c.loop-op.rest.now in
    let p = err_from_is_err_and c.from_residual-in_err-right.result c.from_residual-in_err-right.ensures.1 in
    rw (p.1, p.2) (gives_err with_rest with_rest c.in_err-right.field-0.0 (operand c.in-Some.after.now) (chain op operand c.args.symbols.now)
    (c.requires.reads c.in-Some.after (Err c.in_err-right.field-0.0) c.in_err-right.ensures)
    (λ none. sym c.loop-op.invariant ∙ chain_fails op operand (length rest) c.loop-op.left rest (c.in-Some.op, c.in-Some.after.now) (sym c.in-Some.ensures) none))

pub loop-op-smaller : goal.loop-op-smaller
loop-op-smaller g c =
    let op = first_takes (operator_at c.args.level) c.loop-op.rest.now (c.in-Some.op, c.in-Some.after.now) (sym c.in-Some.ensures) in
    let taken = operand_takes c.args.self.now.room c.args.level c.in-Some.after.now (c.in_ok-right.right, c.in_ok-right.behind.now) (c.requires.reads c.in-Some.after (Ok (c.in_ok-right.right, c.in_ok-right.behind)) c.in_ok-right.ensures) in
    omega arith

pub loop-op-preserved : goal.loop-op-preserved
loop-op-preserved g c =
    let room = c.args.self.now.room in
    let op = operator_at c.args.level in
    let operand = operand_of (within room) c.args.level in
    let behind = c.in_ok-right.behind.now in
    ap (λ e. chain_with op operand (suc (length behind)) e behind) (c.in_ok-left-2.ensures ∙ ap (λ a. Binary c.in-Some.op a c.in_ok-right.right) c.in_ok-boxed.ensures)
    ∙ sym (chain_turn op operand (operand_takes room c.args.level) c.loop-op.left c.loop-op.rest.now (c.in-Some.op, c.in-Some.after.now) (c.in_ok-right.right, behind)
    (sym c.in-Some.ensures) (c.requires.reads c.in-Some.after (Ok (c.in_ok-right.right, c.in_ok-right.behind)) c.in_ok-right.ensures))
    ∙ c.loop-op.invariant

pub returns : goal.returns
returns g c =
    sym c.loop-op.invariant
    ∙ chain_stops (operator_at c.args.level) (operand_of (within c.args.self.now.room) c.args.level) (length c.loop-op.rest.now) c.loop-op.left c.loop-op.rest.now (sym c.in_default.ensures)
