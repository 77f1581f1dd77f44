use Rattle.std.proofs.Common.{MatchOption, None, codes, sym, subst}
use Rattle.ksql_lexer.specs.Piece.{Longest}
use Rattle.ksql_lexer.specs.Place.{NoComment}
use Rattle.ksql_lexer.proofs.Places.{line_longest, block_longest, no_comment_open, no_comment_front, stripped, front_open}
use Rattle.ksql_lexer.proofs.place.after_comment.Goals as goal

pub returns-in-Some-clause-comment : goal.returns-in-Some-clause-comment
returns-in-Some-clause-comment c = line_longest _ _ _ _ (stripped (codes "--") _ _ c.in-Some.ensures.cases) c.line_at.ensures

pub returns-then-not-closes-clause-comment : goal.returns-then-not-closes-clause-comment
returns-then-not-closes-clause-comment c = no_comment_open _ (λ rest. c.in_default.ensures.cases rest) (c.requires c.if-not-closes.true)

pub returns-in-None-clause-closes : goal.returns-in-None-clause-closes
returns-in-None-clause-closes c _ = front_open _ _ (stripped (codes "/*") _ _ c.in_ok-inside.ensures.cases) (λ has. c.in-None.ensures has)

pub returns-in-Some-up_to_end-clause-comment : goal.returns-in-Some-up_to_end-clause-comment
returns-in-Some-up_to_end-clause-comment c = block_longest _ _ _ _ (stripped (codes "/*") _ _ c.in_ok-inside.ensures.cases) c.in-Some-up_to_end.ensures

pub returns-in-None-clause-comment : goal.returns-in-None-clause-comment
returns-in-None-clause-comment c = no_comment_open _ (λ rest. c.in_default.ensures.cases rest) (front_open _ _ (stripped (codes "/*") _ _ c.in_ok-inside.ensures.cases) (λ has. c.in-None.ensures has))

pub returns-in_err-inside-clause-comment : goal.returns-in_err-inside-clause-comment
returns-in_err-inside-clause-comment c =
    subst (λ r. MatchOption r (NoComment c.args.text.now) (λ x. Longest c.args.text.now None x.now)) (sym c.from_residual.ensures)
    (no_comment_front _ (λ rest. c.in_default.ensures.cases rest) (λ rest. c.in_err-inside.ensures.cases rest))
