use Rattle.std.proofs.Common.{◌≡◌, sym, subst, List, [], ◌∷◌, ◌++◌}
use Rattle.ksql_program.specs.declared.program.Item.{Item}
use Rattle.ksql_program.specs.declared.program.Item.TheVariants.{Declared}
use Rattle.topic_files.specs.declared.topic.TopicLines.{TopicLines}
use Rattle.cluster_core.specs.Sourcing.{AreBuilt}
use Rattle.cluster_core.specs.declared.sources.Source.{Source as Kept}
use Rattle.cluster_core.proofs.Sourcing.{built-declared}
use Rattle.cluster_core.proofs.sources.push_source.Goals as goal

pub returns : goal.returns
returns c items files rest built =
    let old : List Kept = c.args.sources.now.items in
    let left : List TopicLines = c.pop_front.new.self.items in
    let k : Kept = c.in_ok-source_of.field-0 in
    let pushed : c.push.new.self.items ≡ old ++ k ∷ [] = c.in_ok-push.ensures.items in
    let taken : c.args.left.now.items ≡ c.in-Some.file ∷ left = c.in-Some.ensures.items in
    let first : AreBuilt items files old (Declared c.in-Declared.relation ∷ rest) c.args.left.now.items =
    subst (λ (i : Item). AreBuilt items files old (i ∷ rest) c.args.left.now.items) c.in-Declared.is built in
    let whole : AreBuilt items files old (Declared c.in-Declared.relation ∷ rest) (c.in-Some.file ∷ left) =
    subst (λ (ls : List TopicLines). AreBuilt items files old (Declared c.in-Declared.relation ∷ rest) ls) taken first in
    subst (λ (ks : List Kept). AreBuilt items files ks rest left) (sym pushed)
    (built-declared items files old c.in-Declared.relation rest c.in-Some.file left k c.in_ok-source_of.ensures whole)
