-- Numbers that words write.
use Rattle.std.proofs.Common.{◌≡◌, ◌≢◌, ℕ, ◌+◌, ◌-◌, ◌*◌, ◌<◌, List, [], ◌∷◌, ◌++◌, length, take, drop, get_or, Option, Some, None, option_map, option_and_then, refl, ap, ◌∙◌, arith, ne_eqb, eq-eqb}
use Rattle.std.specs.List.{position_or_len}
use Rattle.std.proofs.lemmas.List.{drop_all}
use Rattle.std.proofs.lemmas.List.Sums.{position_or_len_is}
use Rattle.ksql_types.specs.declared.relation.TaskName.{TaskName}
use Rattle.schedule_text.specs.Words.{decimal_after, number_of}
use Rattle.schedule_text.specs.Forms.{is_underscore, task_of, task_of_parts}

-- one digit more
pub decimal-push : (number : ℕ) (digits : List ℕ) (digit : ℕ) → decimal_after number (digits ++ digit ∷ []) ≡ 10 * decimal_after number digits + (digit - 48)
decimal-push number [] digit = refl
decimal-push number (d ∷ digits) digit = decimal-push (10 * number + (d - 48)) digits digit

-- the first `_` parts a word
pub task_of-at : (word : List ℕ) (i : ℕ) → i < length word → get_or word i 0 ≡ 95 → ((k : ℕ) → k < i → get_or word k 0 ≢ 95) → task_of word ≡ task_of_parts (take i word) (drop (i + 1) word)
task_of-at word i inside here before =
    let at : position_or_len is_underscore word ≡ i = position_or_len_is is_underscore word i 0 (omega arith) (λ k below. ne_eqb _ 95 (before k below)) (λ _. eq-eqb _ 95 here) in
    ap (λ n. task_of_parts (take n word) (drop (n + 1) word)) at

-- without a second number there is no task
no-second : (first : Option ℕ) → ◌≡◌ {A = Option TaskName} (option_and_then (λ sub. option_map (λ part. record { sub = sub; part = part }) (number_of [])) first) None
no-second None = refl
no-second (Some sub) = refl

-- a word without `_` names no task
pub task_of-none : (word : List ℕ) → ((k : ℕ) → k < length word → get_or word k 0 ≢ 95) → task_of word ≡ None
task_of-none word none =
    let at : position_or_len is_underscore word ≡ length word = position_or_len_is is_underscore word (length word) 0 (omega arith) (λ k below. ne_eqb _ 95 (none k below)) (λ inside. absurd (omega arith)) in
    ap (λ n. task_of_parts (take n word) (drop (n + 1) word)) at
    ∙ ap (λ second. task_of_parts (take (length word) word) second) (drop_all (length word + 1) word (omega arith))
    ∙ no-second (number_of (take (length word) word))
