use Rattle.std.proofs.Common.{◌∙◌, ap, reverse, ◌≢◌, ℕ, List, ◌∷◌, ◌++◌, [], lit<}
use Rattle.std.proofs.lemmas.Str.Pattern.{strip_suffix_char}
use Rattle.ksql_eval.proofs.Texts.{no_space_last}
use Rattle.ksql_eval.proofs.text.before_spaces.Goals as goal

pub returns-clause-value : goal.returns-clause-value
returns-clause-value c =
    let none : (front : List ℕ) → c.loop-before.rest.now ≢ front ++ 32 ∷ [] =
    rw c.in_default.is at (strip_suffix_char 32 c.loop-before.rest.now c.strip_suffix.result c.strip_suffix.ensures.cases (lit< tt)) in
    no_space_last c.loop-before.rest.now none ∙ ap reverse c.loop-before.invariant.same
