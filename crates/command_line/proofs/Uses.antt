-- What one use of an argument adds to the rows of the matches, if it has no fault.
use Rattle.std.proofs.Common.{◌≡◌, ◌&&◌, ◌||◌, ℕ, Bool, true, false, not, List, [], ◌∷◌, ◌++◌, cond, Option, Some, None, refl, sym, ap, subst, true≢false}
use Rattle.std.specs.Option.{IfSome, option_map_or}
use Rattle.std.specs.List.{AllByRecursion, find}
use Rattle.std.specs.Str.{bytes_eq}
use Rattle.clap.specs.declared.builder.action.ArgAction.{ArgAction}
use Rattle.clap.specs.declared.builder.action.ArgAction.TheVariants as action
use Rattle.clap.specs.declared.builder.value_parser.Reading.{Reading}
use Rattle.clap.specs.declared.parser.matches.ValueSource.{ValueSource}
use Rattle.clap.specs.declared.parser.matches.ValueSource.TheVariants.{CommandLine}
use Rattle.clap.specs.declared.error.kind.ErrorKind.TheVariants.{ArgumentConflict}
use Rattle.clap.specs.Kinds.{Kinds, or_else}
use Rattle.clap.specs.Walk.{Held, Row, Rule, Text, action_of, arg_by_id, at_row, has_row, more_values, pushed, reacted, reading_by, settled, settled_rows, started, used, used_as, used_by_id, values_or_missing, with_values, without}
use Rattle.clap.specs.Faults.{action_fault, react_fault, repeat_fault, set_fault, settle_fault, use_fault, values_fault}
use Rattle.command_line.proofs.Shortness.{AreShort, IsShort, one_more_short}

-- a use replaces what there is and adds nothing to it
abbrev pub is_single : ArgAction → Bool
is_single action.Append = false
is_single action.Count = false
is_single _ = true

-- which values and which reading the row of an id may have
abbrev pub Fits : Type 1
Fits = Text → List Text → Reading → Type 0

-- values without a fault fit the argument, and what stands for missing values and its defaults are short
pub record RuleFits (most : ℕ) (F : Fits) (a : Rule) : Type 0 where
  pub single : is_single (action_of a) ≡ true
  pub fits : (values : List Text) → AreShort most values → values_fault a values ≡ [] → F a.id values (reading_by a)
  pub missing : AreShort most a.missing
  pub defaults : AreShort most a.defaults

abbrev pub RulesFit : ℕ → Fits → List Rule → Type 0
RulesFit most F = AllByRecursion (RuleFits most F)

abbrev pub RowFits : Fits → Row → Type 0
RowFits F r = F r.id r.values r.reading

abbrev pub RowsFit : Fits → List Row → Type 0
RowsFit F = AllByRecursion (RowFits F)

-- the values that wait are short
abbrev pub IsShortPending : ℕ → Option (Text × List Text) → Type 0
IsShortPending most pending = IfSome pending (λ p. AreShort most p.1)

pub record HeldFits (most : ℕ) (F : Fits) (h : Held) : Type 0 where
  pub rows : RowsFit F h.rows
  pub pending : IsShortPending most h.pending

-- two steps have no fault if neither has one
pub both_pass : (a b : Kinds) → or_else a b ≡ [] → (a ≡ []) × (b ≡ [])
both_pass [] b none = (refl, none)
both_pass (k ∷ ks) b none = cc

neither : (a b : Bool) → (a || b) ≡ false → (a ≡ false) × (b ≡ false)
neither true b e = absurd (true≢false e)
neither false b e = (refl, e)

pub found_fits : {X : Type 0} (P : X → Type 0) (p : X → Bool) (xs : List X) → AllByRecursion P xs → IfSome (find p xs) P
found_fits P p [] all = tt
found_fits P p (x ∷ xs) all = go (p x) (found_fits P p xs all.1)
  where
    go : (b : Bool) → IfSome (find p xs) P → IfSome (cond b (Some x) (find p xs)) P
    go true rest = all.0
    go false rest = rest

-- a row of a new id comes last
at_end : (F : Fits) (id : Text) (change : Row → List Row) (new : List Row) (rows : List Row) → has_row id rows ≡ false → RowsFit F rows → RowsFit F new
    → RowsFit F (at_row id change new rows)
at_end F id change new [] none all is = is
at_end F id change new (r ∷ rs) none all is =
    let parts = neither (bytes_eq r.id id) (has_row id rs) none in
    subst (λ b. RowsFit F (cond b (change r ++ rs) (r ∷ at_row id change new rs))) (sym parts.0) (all.0, at_end F id change new rs parts.1 all.1 is)

none_without : (id : Text) (rows : List Row) → has_row id rows ≡ false → without id rows ≡ rows
none_without id [] none = refl
none_without id (r ∷ rs) none =
    let parts = neither (bytes_eq r.id id) (has_row id rs) none in
    subst (λ b. cond b ([] ++ rs) (r ∷ without id rs) ≡ r ∷ rs) (sym parts.0) (ap (λ rest. r ∷ rest) (none_without id rs parts.1))

pub new_values_fit : (F : Fits) (id : Text) (how : Reading) (source : ValueSource) (values : List Text) (rows : List Row) → has_row id rows ≡ false
    → RowsFit F rows → F id values how → RowsFit F (with_values id how source values rows)
new_values_fit F id how source values rows none all is = at_end F id (more_values source values)
    (record { id = id; values = values; count = None; source = Some source; reading = how } ∷ []) rows none all (is, tt)

no_repeat : (b : Bool) → cond (b && not false) (ArgumentConflict ∷ []) [] ≡ [] → b ≡ false
no_repeat true none = cc
no_repeat false none = refl

module _ (most : ℕ) (F : Fits) (again : Bool) (once : again ≡ false) where
  not_repeated : (id : Text) (rows : List Row) → repeat_fault again id rows ≡ [] → has_row id rows ≡ false
  not_repeated id rows none = no_repeat (has_row id rows) (subst (λ x. repeat_fault x id rows ≡ []) once none)

  set_fits : (a : Rule) (values : List Text) (rows : List Row) → RuleFits most F a → AreShort most values → set_fault again a values rows ≡ []
      → RowsFit F rows → RowsFit F (with_values a.id (reading_by a) CommandLine values (without a.id rows))
  set_fits a values rows rule short none all =
      let parts = both_pass (repeat_fault again a.id rows) (values_fault a values) none in
      let new = not_repeated a.id rows parts.0 in
      subst (λ before. RowsFit F (with_values a.id (reading_by a) CommandLine values before)) (sym (none_without a.id rows new))
      (new_values_fit F a.id (reading_by a) CommandLine values rows new all (rule.fits values short parts.1))

  acted_fits : (x : ArgAction) (a : Rule) (values : List Text) (rows : List Row) → is_single x ≡ true → RuleFits most F a → AreShort most values
      → action_fault x again a values rows ≡ [] → RowsFit F rows → RowsFit F (used_as x a.id (reading_by a) values rows)
  acted_fits action.Set a values rows single rule short none all = set_fits a values rows rule short none all
  acted_fits action.SetTrue a values rows single rule short none all = set_fits a values rows rule short none all
  acted_fits action.SetFalse a values rows single rule short none all = set_fits a values rows rule short none all
  acted_fits action.Append a values rows single rule short none all = absurd (true≢false (sym single))
  acted_fits action.Count a values rows single rule short none all = absurd (true≢false (sym single))
  acted_fits action.Help a values rows single rule short none all = all
  acted_fits action.HelpShort a values rows single rule short none all = all
  acted_fits action.HelpLong a values rows single rule short none all = all
  acted_fits action.Version a values rows single rule short none all = all

  given_short : (a : Rule) (values : List Text) → RuleFits most F a → AreShort most values → AreShort most (values_or_missing a values)
  given_short a [] rule short = rule.missing
  given_short a (v ∷ vs) rule short = short

  used_fits : (a : Rule) (values : List Text) (rows : List Row) → RuleFits most F a → AreShort most values → use_fault again a values rows ≡ []
      → RowsFit F rows → RowsFit F (used a values rows)
  used_fits a values rows rule short none all =
      acted_fits (action_of a) a (values_or_missing a values) rows rule.single rule (given_short a values rule short) (both_pass _ _ none).1 all

  settled_rows_fit : (c : List Rule) (pending : Option (Text × List Text)) (rows : List Row) → RulesFit most F c
      → option_map_or (λ p. option_map_or (λ a. use_fault again a p.1 rows) (arg_by_id c p.0) []) pending [] ≡ [] → IsShortPending most pending
      → RowsFit F rows → RowsFit F (settled_rows c pending rows)
  settled_rows_fit c None rows rules none short all = all
  settled_rows_fit c (Some p) rows rules none short all =
      go (arg_by_id c p.0) (found_fits (RuleFits most F) (λ a. bytes_eq a.id p.0) c rules) none
    where
      go : (o : Option Rule) → IfSome o (RuleFits most F) → option_map_or (λ a. use_fault again a p.1 rows) o [] ≡ [] → RowsFit F (used_by_id o p.1 rows)
      go None rule none = all
      go (Some a) rule none = used_fits a p.1 rows rule short none all

  pub settled_fits : (c : List Rule) (h : Held) → RulesFit most F c → settle_fault c again h ≡ [] → HeldFits most F h → HeldFits most F (settled c h)
  settled_fits c h rules none is = record { rows = settled_rows_fit c h.pending h.rows rules none is.pending is.rows; pending = tt }

  pub reacted_fits : (c : List Rule) (a : Rule) (values : List Text) (h : Held) → RulesFit most F c → RuleFits most F a → AreShort most values
      → react_fault c again a values h ≡ [] → HeldFits most F h → HeldFits most F (reacted c a values h)
  reacted_fits c a values h rules rule short none is =
      let parts = both_pass (settle_fault c again h) _ none in
      let before = settled_fits c h rules parts.0 is in
      record { rows = used_fits a values (settled c h).rows rule short parts.1 before.rows; pending = tt }

pub pushed_fits : (most : ℕ) (F : Fits) (id word : Text) (h : Held) → IsShort most word → HeldFits most F h → HeldFits most F (pushed id word h)
pushed_fits most F id word h short is =
    record { rows = is.rows; pending = one_more_short most (started id h.pending).1 word (waiting h.pending is.pending) short }
  where
    waiting : (p : Option (Text × List Text)) → IsShortPending most p → AreShort most (started id p).1
    waiting None is = tt
    waiting (Some p) is = is
