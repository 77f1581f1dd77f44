-- What commands of accepted words keep to.
use Rattle.std.proofs.Common.{◌≡◌, ◌≤◌, ◌<◌, ◌^◌, ℕ, Bool, true, false, List, [], ◌∷◌, cond, codes, drop, length, Option, Some, None, refl, subst, arith, lit<, nat_le}
use Rattle.std.specs.Prelude.{slice_get}
use Rattle.std.specs.Option.{IfSome, option_map_or, unwrap_or}
use Rattle.std.specs.List.{find}
use Rattle.std.specs.Str.{bytes_eq}
use Rattle.std.proofs.lemmas.Bool.{leb-true}
use Rattle.clap.specs.Simple.{App, argument_words, built}
use Rattle.clap.specs.Walk.{Row, Text, row_text}
use Rattle.clap.specs.Words.{Kinds, fault_of, first_of, matches_of, one_of}
use Rattle.clap.proofs.WalkLemmas.{both}
use Rattle.command_line.specs.declared.asked.Command.{Command}
use Rattle.command_line.specs.Options.{demo_app, explain_app, run_app}
use Rattle.command_line.specs.Words.{IsNumber, IsWithinLimits, accepted, after_program, are_short, command_of, demo_of, explain_of, is_faultless, longest_word, named, number_in, run_of}
use Rattle.command_line.proofs.Accepting.{of_given}
use Rattle.command_line.proofs.Kept.{Keeps, demo_fits, explain_fits, run_fits}
use Rattle.command_line.proofs.Numbers.{IsNumberFrom}
use Rattle.command_line.proofs.Shortness.{AreShort, IsShort, then_some}
use Rattle.command_line.proofs.Uses.{RowFits, RowsFit, RulesFit}
use Rattle.command_line.proofs.Walks.{matches_fit}

-- ---- what getters read of rows that keep to this

-- the row of an id keeps to what its own id asks
abbrev IsRowOf : Text → Row → Type 0
IsRowOf id r = RowFits Keeps r × (bytes_eq r.id id ≡ true)

found_row : (id : Text) (rows : List Row) → RowsFit Keeps rows → IfSome (find (λ r. bytes_eq r.id id) rows) (IsRowOf id)
found_row id [] all = tt
found_row id (r ∷ rs) all = go (bytes_eq r.id id) refl (found_row id rs all.1)
  where
    go : (b : Bool) → bytes_eq r.id id ≡ b → IfSome (find (λ x. bytes_eq x.id id) rs) (IsRowOf id)
        → IfSome (cond b (Some r) (find (λ x. bytes_eq x.id id) rs)) (IsRowOf id)
    go true e rest = (all.0, e)
    go false e rest = rest

first_short : (values : List Text) → AreShort longest_word values → IfSome (slice_get values 0) (IsShort longest_word)
first_short [] all = tt
first_short (v ∷ vs) all = all.0

text_short : (id : Text) (rows : List Row) → RowsFit Keeps rows → IfSome (first_of id rows) (IsShort longest_word)
text_short id rows all =
    then_some (IsRowOf id) (IsShort longest_word) (λ r. slice_get r.values 0) _ (λ r is. first_short r.values is.0.short) (found_row id rows all)

short_or_empty : (text : Option Text) → IfSome text (IsShort longest_word) → length (unwrap_or text []) ≤ longest_word
short_or_empty None is = omega arith
short_or_empty (Some t) is = is

workers_number : (rows : List Row) → RowsFit Keeps rows → IfSome (one_of (codes "workers") rows) (IsNumberFrom 1 32)
workers_number rows all =
    then_some (IsRowOf (codes "workers")) (IsNumberFrom 1 32) row_text _ (λ r is. is.0.workers is.1) (found_row (codes "workers") rows all)

records_number : (rows : List Row) → RowsFit Keeps rows → IfSome (one_of (codes "records") rows) (IsNumberFrom 1 100000)
records_number rows all =
    then_some (IsRowOf (codes "records")) (IsNumberFrom 1 100000) row_text _ (λ r is. is.0.records is.1) (found_row (codes "records") rows all)

number_within : (high : ℕ) (text : Option Text) → 1 ≤ high → IfSome text (IsNumberFrom 1 high)
    → (1 ≤ option_map_or number_in text 1) × (option_map_or number_in text 1 ≤ high)
number_within high None least is = (omega arith, least)
number_within high (Some t) least is = (is.least, is.most)

small_number : (high : ℕ) (text : Option Text) → high < 2 ^ 32 → IfSome text (IsNumberFrom 1 high) → IsNumber text
small_number high None small is = tt
small_number high (Some t) small is = (is.numeral, omega (arith, is.most))

-- ---- accepted words

no_kinds : (kinds : Kinds) → is_faultless kinds ≡ true → kinds ≡ []
no_kinds [] e = refl
no_kinds (k ∷ kinds) e = cc

short_after : (app : App) (words : List Text) → AreShort longest_word words → AreShort longest_word (argument_words app words)
short_after app words all = go app.top.no_binary_name words all
  where
    go : (b : Bool) (words : List Text) → AreShort longest_word words → AreShort longest_word (cond b words (drop 1 words))
    go true words all = all
    go false [] all = tt
    go false (word ∷ words) all = all.1

each_short : (words : List Text) → are_short words ≡ true → AreShort longest_word words
each_short [] e = tt
each_short (word ∷ words) e =
    let parts = both _ _ e in
    (leb-true _ _ parts.0, each_short words parts.1)

rows_keep : (app : App) (words : List Text) → (built app).top.args_override_self ≡ false → RulesFit longest_word Keeps (built app).top.rules
    → are_short words ≡ true → is_faultless (fault_of app words) ≡ true → RowsFit Keeps (matches_of app words)
rows_keep app words once rules short none =
    matches_fit longest_word Keeps app words once rules (short_after app words (each_short words short)) (no_kinds _ none)

run_rows : (words : List Text) → are_short words ≡ true → is_faultless (fault_of run_app words) ≡ true → RowsFit Keeps (matches_of run_app words)
unfolding run_app
run_rows words short none = rows_keep run_app words refl run_fits short none

explain_rows : (words : List Text) → are_short words ≡ true → is_faultless (fault_of explain_app words) ≡ true
    → RowsFit Keeps (matches_of explain_app words)
unfolding explain_app
explain_rows words short none = rows_keep explain_app words refl explain_fits short none

demo_rows : (words : List Text) → are_short words ≡ true → is_faultless (fault_of demo_app words) ≡ true → RowsFit Keeps (matches_of demo_app words)
unfolding demo_app
demo_rows words short none = rows_keep demo_app words refl demo_fits short none

-- the numbers that run and demo read are numbers of 32 bits
pub run_workers : (words : List Text) (given : App) (rows : List Row) → given ≡ run_app → are_short words ≡ true
    → is_faultless (fault_of given words) ≡ true → rows ≡ matches_of given words → IsNumber (one_of (codes "workers") rows)
run_workers words given rows is short none same =
    let own = of_given run_app given words rows is none same in
    subst (λ r. IsNumber (one_of (codes "workers") r)) own.1
    (small_number 32 _ (lit< tt) (workers_number (matches_of run_app words) (run_rows words short own.0)))

pub demo_workers : (words : List Text) (given : App) (rows : List Row) → given ≡ demo_app → are_short words ≡ true
    → is_faultless (fault_of given words) ≡ true → rows ≡ matches_of given words → IsNumber (one_of (codes "workers") rows)
demo_workers words given rows is short none same =
    let own = of_given demo_app given words rows is none same in
    subst (λ r. IsNumber (one_of (codes "workers") r)) own.1
    (small_number 32 _ (lit< tt) (workers_number (matches_of demo_app words) (demo_rows words short own.0)))

pub demo_records : (words : List Text) (given : App) (rows : List Row) → given ≡ demo_app → are_short words ≡ true
    → is_faultless (fault_of given words) ≡ true → rows ≡ matches_of given words → IsNumber (one_of (codes "records") rows)
demo_records words given rows is short none same =
    let own = of_given demo_app given words rows is none same in
    subst (λ r. IsNumber (one_of (codes "records") r)) own.1
    (small_number 100000 _ (lit< tt) (records_number (matches_of demo_app words) (demo_rows words short own.0)))

-- ---- commands

run_within : (rows : List Row) → RowsFit Keeps rows → IsWithinLimits (run_of rows)
unfolding run_of
run_within rows all = (
  short_or_empty (first_of (codes "script") rows) (text_short (codes "script") rows all),
  short_or_empty (first_of (codes "topics") rows) (text_short (codes "topics") rows all),
  number_within 32 (one_of (codes "workers") rows) (omega arith) (workers_number rows all),
  text_short (codes "schedule") rows all,
)

explain_within : (rows : List Row) → RowsFit Keeps rows → IsWithinLimits (explain_of rows)
unfolding explain_of
explain_within rows all = short_or_empty (first_of (codes "script") rows) (text_short (codes "script") rows all)

demo_within : (rows : List Row) → RowsFit Keeps rows → IsWithinLimits (demo_of rows)
unfolding demo_of
demo_within rows all = (
  number_within 100000 (one_of (codes "records") rows) (omega arith) (records_number rows all),
  number_within 32 (one_of (codes "workers") rows) (omega arith) (workers_number rows all),
)

accepted_within : (app : App) (asks : List Row → Command) (words : List Text)
    → (is_faultless (fault_of app words) ≡ true → IsWithinLimits (asks (matches_of app words)))
    → IfSome (accepted app asks words) IsWithinLimits
unfolding accepted
accepted_within app asks words within = go (is_faultless (fault_of app words)) refl
  where
    go : (b : Bool) → is_faultless (fault_of app words) ≡ b → IfSome (cond b (Some (asks (matches_of app words))) None) IsWithinLimits
    go true none = within none
    go false none = tt

named_within : (words : List Text) → are_short words ≡ true → IfSome (named words) IsWithinLimits
named_within [] short = tt
named_within (name ∷ words) short =
    go (bytes_eq name (codes "run")) (bytes_eq name (codes "explain")) (bytes_eq name (codes "demo"))
  where
    go : (run explain demo : Bool) → IfSome (cond run (accepted run_app run_of (name ∷ words))
        (cond explain (accepted explain_app explain_of (name ∷ words)) (cond demo (accepted demo_app demo_of (name ∷ words)) None))) IsWithinLimits
    go true explain demo = accepted_within run_app run_of (name ∷ words) (λ none. run_within _ (run_rows (name ∷ words) short none))
    go false true demo = accepted_within explain_app explain_of (name ∷ words) (λ none. explain_within _ (explain_rows (name ∷ words) short none))
    go false false true = accepted_within demo_app demo_of (name ∷ words) (λ none. demo_within _ (demo_rows (name ∷ words) short none))
    go false false false = tt

-- a command that words ask for is within its limits
pub within_limits : (words : List Text) (command : Command) → command_of words ≡ Some command → IsWithinLimits command
within_limits words command is = subst (λ c. IfSome c IsWithinLimits) is (go words (are_short words) refl)
  where
    go : (all : List Text) (b : Bool) → are_short all ≡ b → IfSome (cond b (after_program all) None) IsWithinLimits
    go all false short = tt
    go [] true short = tt
    go (program ∷ words) true short = named_within words (both (nat_le (length program) longest_word) (are_short words) short).1
