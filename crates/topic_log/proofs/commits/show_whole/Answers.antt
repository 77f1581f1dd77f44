use Rattle.std.proofs.Common.{Global, ◌∙◌, ap, List, set}
use Rattle.std.specs.declared.collections.VecDeque.{VecDeque}
use Rattle.std.proofs.lemmas.List.{map-set}
use Rattle.ksql_place.specs.declared.change.Change.{Change}
use Rattle.topic_log.specs.Commits.{waiting_lists}
use Rattle.topic_log.proofs.commits.show_whole.Goals as goal

pub returns-clause-waiting : goal.returns-clause-waiting
returns-clause-waiting c =
    let part = c.args.part.now in
    map-set (λ w. w.items) part.waiting.items c.args.writer c.replace.new.dest
    ∙ ap (λ (xs : List Change). set (waiting_lists part) c.args.writer xs) (ap (λ (w : VecDeque Change Global). w.items) c.replace.ensures.after ∙ c.new-none.ensures.items)
