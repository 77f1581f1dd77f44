use Rattle.std.proofs.Common.{sym, ◌∙◌}
use Rattle.std.proofs.lemmas.Bool.{false≢true}
use Rattle.ksql_lexer.proofs.Places.{quoted_longest, quoted_nothing, quoted_open}
use Rattle.ksql_lexer.proofs.place.read_quoted.Goals as goal

pub returns-in_default : goal.returns-in_default
returns-in_default c = quoted_open _ c.requires.class (λ inside rest. c.in_default.ensures inside rest)

pub returns-then-not-is_quotable : goal.returns-then-not-is_quotable
returns-then-not-is_quotable c = quoted_nothing _ _ _ c.requires.class c.in-Some.ensures (λ q. false≢true (sym c.if-not-is_quotable.true ∙ c.is_quotable.ensures.1 (q.0, q.2)))

pub returns : goal.returns
returns c =
    let line = c.is_quotable.ensures.0 c.if-not-is_quotable.false in
    quoted_longest _ _ _ _ c.requires.class c.in-Some.ensures (line.0, c.in-Some.ensures.lacks, line.1) (c.in_ok-of.ensures ∙ c.in_ok-name.ensures.ok)
