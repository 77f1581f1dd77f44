-- The form of a line: the step that its words describe.
use Rattle.std.specs.Prelude.{ℕ, List, [], ◌∷◌, ◌++◌, map, length, codes, Bool, true, not, ◌==◌, ◌&&◌, if◌then◌else◌, Option, Some, None, option_map, option_and_then}
use Rattle.std.specs.List.{list_any, before_first, after_first}
use Rattle.std.specs.Str.{bytes_eq, is_utf8}
use Rattle.ksql_types.specs.declared.relation.TaskName.{TaskName}
use Rattle.schedule_text.specs.declared.forms.Form.{Form as Lent}
use Rattle.schedule_text.specs.declared.forms.Form.TheVariants as lent
use Rattle.schedule_text.specs.declared.forms.Pair.{Pair as LentPair}
use Rattle.schedule_text.specs.Words.{count_of, decimal, is_empty, number_of, words_of, worker_of}

-- a topic, and how many records of its file to feed
pub record Pair : Type 0 where
  pub topic : List ℕ
  pub n : ℕ

-- a step as written, with topics by name
pub data Form : Type 0 where
  feed_all : Form
  feed : List Pair → Form
  round : Option ℕ → Form
  start : ℕ → Form
  stop : ℕ → Form
  lose : TaskName → Form
  drain : Form

-- the only word, None if there are none or several
abbrev pub only : List (List ℕ) → Option (List ℕ)
only [] = None
only (word ∷ []) = Some word
only (word ∷ next ∷ more) = None

-- the worker that the only word names
abbrev pub only_worker : List (List ℕ) → Option ℕ
only_worker words = option_and_then worker_of (only words)

-- the pairs that words spell, None if a count is no count or a topic has no count
abbrev pub pairs_of : List (List ℕ) → Option (List Pair)
pairs_of [] = Some []
pairs_of (topic ∷ []) = None
pairs_of (topic ∷ count ∷ more) = option_and_then (λ n. option_map (λ pairs. record { topic = topic; n = n } ∷ pairs) (pairs_of more)) (count_of count)

-- whether a topic is one of these
abbrev pub is_among : List (List ℕ) → List ℕ → Bool
is_among topics topic = list_any (λ other. bytes_eq other topic) topics

-- whether pairs name each topic once, and none of the earlier ones
abbrev pub name_once : List (List ℕ) → List Pair → Bool
name_once before [] = true
name_once before (pair ∷ pairs) = not (is_among before pair.topic) && name_once (before ++ pair.topic ∷ []) pairs

-- the feed of pairs, None if a topic is named twice
abbrev pub feed_of_pairs : List Pair → Option Form
feed_of_pairs pairs = if name_once [] pairs then Some (feed pairs) else None

-- the feed after the word `feed`: `all`, or one or more pairs
abbrev pub feed_form : List (List ℕ) → Option Form
feed_form [] = None
feed_form (word ∷ []) = if bytes_eq word (codes "all") then Some feed_all else None
feed_form (word ∷ next ∷ more) = option_and_then feed_of_pairs (pairs_of (word ∷ next ∷ more))

-- the round after the word `round`: nothing, or `lose` and a worker
abbrev pub round_form : List (List ℕ) → Option Form
round_form [] = Some (round None)
round_form (word ∷ more) = if bytes_eq word (codes "lose") then option_map (λ worker. round (Some worker)) (only_worker more) else None

-- whether a byte is `_`
abbrev pub is_underscore : ℕ → Bool
is_underscore byte = byte == 95

-- the task with two numbers, None if a text is no number
abbrev pub task_of_parts : List ℕ → List ℕ → Option TaskName
task_of_parts first second = option_and_then (λ sub. option_map (λ part. record { sub = sub; part = part }) (number_of second)) (number_of first)

-- the task that a word names: digits, `_` and digits
abbrev pub task_of : List ℕ → Option TaskName
task_of word = task_of_parts (before_first is_underscore word) (after_first is_underscore word)

-- the form of a word and the words after it, if the word is neither `feed` nor `round`
abbrev pub other_form : List ℕ → List (List ℕ) → Option Form
other_form word more =
    if bytes_eq word (codes "start") then option_map start (only_worker more)
    else (if bytes_eq word (codes "stop") then option_map stop (only_worker more)
    else (if bytes_eq word (codes "lose") then option_map lose (option_and_then task_of (only more))
    else (if bytes_eq word (codes "drain") && (length more == 0) then Some drain
    else None)))

-- the form of these words, None if they have none
abbrev pub form_of : List (List ℕ) → Option Form
form_of [] = None
form_of (word ∷ more) =
    if bytes_eq word (codes "feed") then feed_form more
    else (if bytes_eq word (codes "round") then round_form more
    else other_form word more)

-- the form of a line, None if it isn't UTF-8, if its words aren't separated by single blanks, or if they have no form
abbrev pub form_of_line : List ℕ → Option Form
form_of_line line = if is_utf8 line && not (list_any is_empty (words_of line)) then form_of (words_of line) else None

-- the task with these digits
abbrev pub named : List ℕ → List ℕ → TaskName
named sub part = record { sub = decimal sub; part = decimal part }

-- a pair with a borrowed topic
abbrev pub pair_view : LentPair → Pair
pair_view pair = record { topic = pair.topic.now; n = pair.n }

-- a form with borrowed words
abbrev pub form_view : Lent → Form
form_view lent.FeedAll = feed_all
form_view (lent.Feed pairs) = feed (map pair_view pairs.items)
form_view (lent.Round lost) = round lost
form_view (lent.Start worker) = start worker
form_view (lent.Stop worker) = stop worker
form_view (lent.Lose sub part) = lose (named sub.now part.now)
form_view lent.Drain = drain
