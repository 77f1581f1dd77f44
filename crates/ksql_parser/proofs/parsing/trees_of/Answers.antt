use Rattle.std.proofs.Common.{◌≡◌, Err, ◌+◌, ◌<◌, length, rules, sym, ◌∙◌, subst, arith}
use Rattle.ksql_lexer.specs.Script.{kinds}
use Rattle.ksql_parser.specs.Script.{statements}
use Rattle.ksql_parser.specs.Settled.{Settles}
use Rattle.ksql_parser.proofs.Settling.{Reached, reached_next, part_filled, fault_settles}
use Rattle.ksql_parser.proofs.parsing.trees_of.Goals as goal

pub returns-in_err-tree_of : goal.returns-in_err-tree_of
returns-in_err-tree_of c =
    let all = statements (kinds c.args.tokens.now) in
    let ts = c.first_part.result.0.now in
    let behind = statements (kinds c.first_part.result.1.now) in
    let some : 0 < length ts = search rules in
    let reached = subst (λ tss. Reached all tss c.loop-rest.trees.items c.loop-rest.number) (c.first_part.ensures.parts ∙ part_filled ts behind some) c.loop-rest.invariant.reached in
    let same : c.from_residual.result ≡ Err c.in_err-tree_of.field-0.0 = search rules in
    subst (Settles all) (sym same) (fault_settles all (kinds ts) behind c.loop-rest.trees.items c.loop-rest.number c.in_err-tree_of.field-0.0 reached c.in_err-tree_of.ensures)

pub loop-rest-preserved : goal.loop-rest-preserved
loop-rest-preserved c =
    let all = statements (kinds c.args.tokens.now) in
    let ts = c.first_part.result.0.now in
    let behind = statements (kinds c.first_part.result.1.now) in
    let some : 0 < length ts = search rules in
    let left : 0 < length c.loop-rest.rest.now = search rules in
    let shorter = c.first_part.ensures.shorter left in
    let few = c.loop-rest.invariant.few in
    let reached = subst (λ tss. Reached all tss c.loop-rest.trees.items c.loop-rest.number) (c.first_part.ensures.parts ∙ part_filled ts behind some) c.loop-rest.invariant.reached in
    record {
      written = (c.first_part.ensures.written c.loop-rest.invariant.written).1;
      few = omega (arith, few, shorter);
      reached = subst (λ trees. Reached all behind trees (c.loop-rest.number + 1)) (sym c.in_ok-push.ensures.items)
          (reached_next all (kinds ts) behind c.loop-rest.trees.items c.loop-rest.number c.in_ok-tree_of.field-0 reached c.in_ok-tree_of.ensures);
    }
