use Rattle.std.proofs.Common.{◌∙◌, sym, ◌≢◌, ℕ, List, ◌∷◌, lit<}
use Rattle.std.proofs.lemmas.Str.Pattern.{strip_prefix_char}
use Rattle.ksql_eval.proofs.Texts.{no_space_first}
use Rattle.ksql_eval.proofs.text.after_spaces.Goals as goal

pub returns-clause-value : goal.returns-clause-value
returns-clause-value c =
    let none : (rest : List ℕ) → c.loop-after.rest.now ≢ 32 ∷ rest =
    rw c.in_default.is at (strip_prefix_char 32 c.loop-after.rest.now c.strip_prefix.result c.strip_prefix.ensures.cases (lit< tt)) in
    sym (no_space_first c.loop-after.rest.now none) ∙ c.loop-after.invariant.same
