-- The steps of lines, and what steps come to: their rounds, and the workers that are live after them.
use Rattle.std.specs.Prelude.{ℕ, List, [], ◌∷◌, ◌++◌, filter, nat_lt, if◌then◌else◌, Option, Some, None, option_map, option_and_then}
use Rattle.std.specs.List.{filter_map, fold, range_with_len, sum_by}
use Rattle.std.specs.Str.{bytes_eq}
use Rattle.ksql_program.specs.declared.program.Item.{Item}
use Rattle.ksql_program.specs.declared.program.Item.TheVariants.{Declared, Started}
use Rattle.topology.specs.declared.schedule.Count.{Count}
use Rattle.topology.specs.declared.schedule.Step.{Step}
use Rattle.topology.specs.declared.schedule.Step.TheVariants as step
use Rattle.schedule_text.specs.Forms.{Form, Pair, form_of_line}
use Rattle.schedule_text.specs.Forms as form
use Rattle.schedule_text.specs.Lines.{is_skipped}

-- ---- the steps of lines

-- the number of the declared relation with a topic
abbrev pub topic_number : List Item → List ℕ → Option ℕ
topic_number [] topic = None
topic_number (Declared relation ∷ items) topic = if bytes_eq topic relation.topic then Some relation.number else topic_number items topic
topic_number (Started query ∷ items) topic = topic_number items topic

-- the counts of a feed by topic number, None if a topic is unknown
abbrev pub counts_of : List Item → List Pair → Option (List Count)
counts_of items [] = Some []
counts_of items (pair ∷ pairs) =
    option_and_then (λ topic. option_map (λ counts. record { topic = topic; n = pair.n } ∷ counts) (counts_of items pairs)) (topic_number items pair.topic)

-- the step of a form, None if a topic is unknown
abbrev pub step_of : List Item → Form → Option Step
step_of items form.feed_all = Some step.FeedAll
step_of items (form.feed pairs) = option_map step.Feed (counts_of items pairs)
step_of items (form.round lost) = Some (step.Round lost None)
step_of items (form.start worker) = Some (step.Start worker)
step_of items (form.stop worker) = Some (step.Stop worker)
step_of items (form.lose task) = Some (step.Lose task)
step_of items form.drain = Some step.Drain

-- the step of a line, None if it is skipped or describes no step
abbrev pub step_of_line : List Item → List ℕ → Option Step
step_of_line items line = if is_skipped line then None else option_and_then (step_of items) (form_of_line line)

-- the steps of lines, in their order
abbrev pub steps_of : List Item → List (List ℕ) → List Step
steps_of items lines = filter_map (step_of_line items) lines

-- ---- what steps come to

-- the number of rounds of a step, given the length of the chain
abbrev pub rounds_of : ℕ → Step → ℕ
rounds_of chain (step.Round lost stalled) = 1
rounds_of chain step.Drain = chain
rounds_of chain _ = 0

-- the number of rounds of steps
abbrev pub all_rounds : ℕ → List Step → ℕ
all_rounds chain steps = sum_by (rounds_of chain) steps

-- the live workers and one more, in ascending order
abbrev pub with_worker : ℕ → List ℕ → List ℕ
with_worker worker live = filter (λ w. nat_lt w worker) live ++ worker ∷ filter (λ w. nat_lt worker w) live

-- the live workers without one
abbrev pub without_worker : ℕ → List ℕ → List ℕ
without_worker worker live = filter (λ w. nat_lt w worker) live ++ filter (λ w. nat_lt worker w) live

-- the live workers after one step
abbrev pub live_after_one : List ℕ → Step → List ℕ
live_after_one live (step.Round (Some lost) stalled) = without_worker lost live
live_after_one live (step.Start worker) = with_worker worker live
live_after_one live (step.Stop worker) = without_worker worker live
live_after_one live _ = live

-- the live workers after steps, if the workers 1 to n are live before them
abbrev pub live_after : ℕ → List Step → List ℕ
live_after workers steps = fold live_after_one (range_with_len 1 workers) steps
