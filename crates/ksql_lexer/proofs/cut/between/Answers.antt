use Rattle.std.proofs.Common.{MatchOption, Some, None, sym, subst, ◌++◌, ◌∷◌}
use Rattle.std.proofs.lemmas.Str.Pattern.{strip_prefix_char}
use Rattle.ksql_lexer.specs.Place.{IsBetween, NoneBetween}
use Rattle.ksql_lexer.proofs.Cuts.{between_split}
use Rattle.ksql_lexer.proofs.cut.between.Goals as goal

pub returns-in_err-strip_prefix : goal.returns-in_err-strip_prefix
returns-in_err-strip_prefix c =
    subst (λ r. MatchOption r (NoneBetween c.args.quote c.args.text.now) (λ x. IsBetween c.args.quote c.args.text.now x.0.now x.1.now)) (sym c.from_residual.ensures)
    (λ inside rest. strip_prefix_char c.args.quote c.args.text.now None c.in_err-strip_prefix.ensures.cases c.requires (inside ++ c.args.quote ∷ rest))

pub returns : goal.returns
returns c =
    between_split _ _ _ _
    (strip_prefix_char c.args.quote c.args.text.now (Some c.in_ok-strip_prefix.field-0) c.in_ok-strip_prefix.ensures.cases c.requires)
    c.split_once.ensures.cases
    c.requires
