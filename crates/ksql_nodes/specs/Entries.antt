-- What a step of a query gives for each entry, looking back over all earlier entries (Sax, Wang, Weidlich and Freytag,
-- BIRTE 2018: an operator turns a list of changes into a list of changes).
use Rattle.std.specs.Prelude.{ℕ, ◌==◌, Bool, true, false, List, [], ◌∷◌, ◌++◌, map, filter, Option, None, unwrap_or, option_map, option_and_then, bytes_eq}
use Rattle.std.specs.List.{last_or}
use Rattle.std.specs.Cmp.Lexicographic.{pointwise}
use Rattle.std.specs.Ordering.{is_eq, int_eq, bool_cmp}
use Rattle.ksql_types.specs.declared.value.Value.{Value}
use Rattle.ksql_types.specs.declared.value.Value.TheVariants.{Null, Int, Big, Txt}
use Rattle.ksql_types.specs.declared.value.Value.TheVariants as value
use Rattle.ksql_place.specs.Order.{greatest}
use Rattle.ksql_place.specs.Said.{row_in}
use Rattle.ksql_place.specs.declared.change.Change.{Change}

abbrev pub Row : Type 0
Row = List Value

-- an entry of a step: a change, and the side that it comes in on (1 is the right side of a join)
pub record Entry : Type 0 where
  pub side : ℕ
  pub change : Change

-- a step says what each entry gives, given all earlier entries
abbrev pub Step : Type 0
Step = List Entry → Entry → List Change

-- what a step gives for entries, each together with all earlier ones
abbrev pub results : {A B : Type 0} → (List A → A → List B) → List A → List A → List B
results gives before [] = []
results gives before (e ∷ es) = gives before e ++ results gives (before ++ e ∷ []) es

-- changes as the entries of one side
abbrev pub from_side : ℕ → List Change → List Entry
from_side side changes = map (λ c. record { side = side; change = c }) changes

-- what some steps give for entries
abbrev pub through : List Step → List Entry → List Change
through [] es = map (λ e. e.change) es
through (step ∷ steps) es = through steps (from_side 0 (results step [] es))

-- ---- looking back

-- equal values of one type are the same; so are two NULLs, unlike in SQL
abbrev pub is_same_value : Value → Value → Bool
is_same_value Null Null = true
is_same_value (Int a) (Int b) = int_eq a b
is_same_value (Big a) (Big b) = int_eq a b
is_same_value (Txt a) (Txt b) = bytes_eq a b
is_same_value (value.Bool a) (value.Bool b) = is_eq (bool_cmp a b)
is_same_value _ _ = false

unfoldable pub is_same_key : List Value → List Value → Bool
is_same_key a b = pointwise is_same_value a b

-- the entries of one key
abbrev pub of_key : List Value → List Entry → List Entry
of_key key es = filter (λ e. is_same_key e.change.key key) es

-- the entries of one side
abbrev pub of_side : ℕ → List Entry → List Entry
of_side side es = filter (λ e. e.side == side) es

-- the row that the last of some entries leaves
abbrev pub row_after : List Entry → Option Row
row_after es = option_and_then (λ e. row_in e.change.body) (last_or None es)

-- the time of that row; 0 if there is none
abbrev pub time_after : List Entry → ℕ
time_after es = unwrap_or (option_and_then (λ e. option_map (λ row. e.change.time) (row_in e.change.body)) (last_or None es)) 0

-- the greatest time of some entries; 0 without entries
abbrev pub latest_time : List Entry → ℕ
latest_time es = greatest (map (λ e. e.change.time) es)
