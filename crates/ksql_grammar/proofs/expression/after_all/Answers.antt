use Rattle.std.proofs.Common.{sym, ap, ◌∙◌}
use Rattle.std.proofs.lemmas.List.{nil_from_length}
use Rattle.ksql_grammar.specs.Expressions.{after_prefixes}
use Rattle.ksql_grammar.proofs.Chains.{after_prefixes-push}
use Rattle.ksql_grammar.proofs.expression.after_all.Goals as goal

pub loop-last-preserved : goal.loop-last-preserved
loop-last-preserved c =
    let others = c.in-Some.others.now in
    ap (after_prefixes others) c.in_ok-whole.ensures
    ∙ sym (after_prefixes-push others c.in-Some.last.now c.loop-last.whole)
    ∙ ap (λ ps. after_prefixes ps c.loop-last.whole) (sym c.in-Some.ensures.cases.0)
    ∙ c.loop-last.invariant

pub returns : goal.returns
unfolding after_prefixes
returns c = sym (ap (λ ps. after_prefixes ps c.loop-last.whole) (nil_from_length c.loop-last.left.now c.in_default.ensures.cases)) ∙ c.loop-last.invariant
