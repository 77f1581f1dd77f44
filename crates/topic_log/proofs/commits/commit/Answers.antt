use Rattle.std.proofs.Common.{◌++◌, ◌≡◌, ◌∙◌, ap, refl, sym, subst, ℕ, List, length}
use Rattle.std.specs.Prelude.{slice_get}
use Rattle.std.specs.Vec.{with_item, with_items}
use Rattle.std.proofs.lemmas.List.{with_items_is}
use Rattle.std.proofs.lemmas.Option.{get_or_from_slice_get}
use Rattle.core_state.specs.State.{lowest}
use Rattle.topic_log.specs.Commits.{PartCommits, TopicCommits}
use Rattle.topic_log.specs.Shelves.{closed_in}
use Rattle.topic_log.specs.declared.shelves.PartShelf.{PartShelf}
use Rattle.topic_log.specs.declared.shelves.TaskShelf.{TaskShelf}
use Rattle.topic_log.specs.declared.shelves.TopicShelf.{TopicShelf}
use Rattle.topic_log.proofs.Kept.{each_fits, topic_kept}
use Rattle.topic_log.proofs.commits.commit.Goals as goal

pub commit_parts-requires-clause-fits : goal.commit_parts-requires-clause-fits
commit_parts-requires-clause-fits c q p xs at there =
    each_fits c.args.fed c.args.topic.now c.args.prepared c.requires.shelf c.requires.fits q p xs
    (ap (λ (ps : List PartShelf). slice_get ps q) (sym c.as_mut_slice.ensures.value) ∙ at) there

-- the topic after the commit
abbrev next : goal.After-topic-2-1 → TopicShelf
next c = record {
  spec = c.args.topic.now.spec;
  parts = with_items c.args.topic.now.parts c.commit_parts.new.parts;
  tasks = with_item c.args.topic.now.tasks c.args.prepared.task.part c.commit_task.new.task;
}

commits : (c : goal.After-topic-2-1) → TopicCommits c.args.fed c.args.prepared c.args.topic.now (next c)
commits c =
    let t = c.args.topic.now in
    let value : c.as_mut_slice.result.now ≡ t.parts.items = c.as_mut_slice.ensures.value in
    let long : length c.commit_parts.new.parts ≡ t.parts.len = c.commit_parts.auto.parts ∙ ap length value ∙ sym t.parts.ok.0 in
    let items : (next c).parts.items ≡ c.commit_parts.new.parts = with_items_is t.parts c.commit_parts.new.parts long in
    let task = c.requires.fits.task in
    let closed : c.closed_of-closed.result ≡ closed_in c.args.fed (next c) = c.closed_of-closed.ensures ∙ ap (lowest c.args.fed (λ (k : TaskShelf). k.done)) c.deref.ensures.value in
    let was : c.index_mut.result.now ≡ task.0 = c.index_mut.ensures.value ∙ get_or_from_slice_get t.tasks.items c.args.prepared.task.part task.0 c.index_mut.result.now task.1 in
    record {
      spec = refl;
      task = (
        task.0,
        c.commit_task.new.task,
        task.1,
        refl,
        record { done = c.commit_task.ensures.done; newest = c.commit_task.ensures.newest ∙ ap (λ (k : TaskShelf). k.newest) was; logs = c.commit_task.ensures.logs ∙ ap (λ (k : TaskShelf). k.logs.items ++ c.args.prepared.entries.items) was },
      );
      parts = ap length items ∙ long ∙ t.parts.ok.0;
      each = λ q p xs at there.
          let part = c.commit_parts.ensures q p xs (ap (λ (ps : List PartShelf). slice_get ps q) value ∙ at) there in
          (part.0, ap (λ (ps : List PartShelf). slice_get ps q) items ∙ part.1, subst (λ (n : ℕ). PartCommits n c.args.prepared.task.part xs.items p part.0) closed part.2);
    }

pub returns-clause-shelf : goal.returns-clause-shelf
returns-clause-shelf c = topic_kept c.args.fed c.args.topic.now c.args.prepared c.requires.shelf c.requires.fits (next c) (commits c)

pub returns-clause-commits : goal.returns-clause-commits
returns-clause-commits c = commits c
