use Rattle.std.proofs.Common.{sym, subst}
use Rattle.ksql_lexer.specs.Place.{Stands}
use Rattle.ksql_lexer.proofs.Places.{mark_longest, mark_nothing}
use Rattle.ksql_lexer.proofs.place.read_other.Goals as goal

pub returns-in_err-mark-clause-found : goal.returns-in_err-mark-clause-found
returns-in_err-mark-clause-found c =
    subst (Stands c.args.text.now) (sym c.from_residual.ensures)
    (mark_nothing _ c.requires.class (λ front rest. c.in_default.ensures.comment front rest) (λ m rest. c.in_err-mark.ensures m rest))

pub returns-clause-found : goal.returns-clause-found
returns-clause-found c = mark_longest _ _ _ c.requires.class (λ front rest. c.in_default.ensures.comment front rest) c.in_ok-mark.ensures
