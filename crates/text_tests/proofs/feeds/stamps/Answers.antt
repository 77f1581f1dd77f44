-- The second feed comes after the records of the first.
use Rattle.std.proofs.Common.{◌≡◌, ◌∙◌, [], List, sym, arith}
use Rattle.ksql_types.specs.declared.relation.Relation.{Relation}
use Rattle.topic_files.specs.declared.topic.Fed.{Fed}
use Rattle.topic_feeds.specs.Feeding.{fed_from}
use Rattle.topic_feeds.proofs.Feeds.{fed-feed, fed-length}
use Rattle.text_tests.proofs.feeds.stamps.Goals as goal

pub feed-requires-2-clause-reached : goal.feed-requires-2-clause-reached
feed-requires-2-clause-reached c =
    let relation : Relation = record c.in_ok-stream.stream { partitions = c.min.result } in
    let feds : List Fed = c.in_ok-feds.field-0 in (
      fed_from 1 relation [] feds,
      c.in_ok-feed.ensures.reached [] c.in_ok-reached.ensures (λ k d below. absurd (omega (arith, below))),
      (λ k d below two. let other : 1 ≡ 2 = sym (fed-feed 1 relation [] feds k d below) ∙ two in absurd (omega (arith, other))),
      omega (arith, fed-length 1 relation [] feds, c.in_ok-feds.ensures, c.in_ok-feds-2.ensures),
    )
