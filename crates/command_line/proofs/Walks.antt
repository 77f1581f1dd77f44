-- The rows that the walk over the words makes, if no word has a fault.
use Rattle.std.proofs.Common.{◌≡◌, ◌&&◌, ◌||◌, ◌==◌, ℕ, Bool, true, false, List, [], ◌∷◌, cond, length, Option, Some, None, refl, subst, arith}
use Rattle.std.specs.Option.{IfSome, option_map_or}
use Rattle.std.specs.List.{AllByRecursion, fold}
use Rattle.std.specs.Str.{bytes_eq}
use Rattle.std.proofs.lemmas.Bool.{ne_eqb}
use Rattle.clap.specs.declared.parser.matches.ValueSource.TheVariants.{DefaultValue}
use Rattle.clap.specs.Kinds.{Kinds, or_else, request_kinds}
use Rattle.clap.specs.Lexer.{long_of, short_of}
use Rattle.clap.specs.Simple.{App, Shape, argument_words, built, names_of}
use Rattle.clap.specs.Walk as met
use Rattle.clap.specs.Walk.{Held, Names, Outcome, Row, Rule, Step, Text, Waiting, Walk, action_of, after_flag, after_step, arg_by_id, arg_by_index, arg_by_long, bundle, default_rows, finished, has_row, is_pending, long_met, long_or_other, nothing_held, option_word, plain_word, positional_held, reading_by, settled, short_or_plain, subcommand_met, subcommand_or_other, takes_several, to_positional, walk, walk_from, walked, walked_from, with_default, word_met}
use Rattle.clap.specs.Faults.{bundle_fault, default_fault, defaults_fault, fault_of, flag_word_fault, given_default_fault, level_fault, other_fault, positional_fault, settle_fault, step_fault, stray_fault, turn_fault, values_fault, walk_fault, word_fault}
use Rattle.clap.specs.Words.{matches_of}
use Rattle.command_line.proofs.Flags.{bundle_fits, long_fits}
use Rattle.command_line.proofs.Shortness.{AreShort, IsShort, IsShortValue, long_short, short_short}
use Rattle.command_line.proofs.Uses.{Fits, HeldFits, RowsFit, RuleFits, RulesFit, both_pass, new_values_fit, pushed_fits, settled_fits}

-- ---- one word

module _ (most : ℕ) (F : Fits) (s : Shape) (once : s.args_override_self ≡ false) (rules : RulesFit most F s.rules) where
  plain_fits : (waiting : Waiting) (word : Text) (h : Held) → IsShort most word → HeldFits most F h → HeldFits most F (plain_word s.rules waiting word h).0
  plain_fits met.idle word h short is = is
  plain_fits met.positional word h short is = is
  plain_fits (met.option id) word h short is = go (arg_by_id s.rules id)
    where
      go : (o : Option Rule) → HeldFits most F (option_word o id word h).0
      go None = is
      go (Some a) = pushed_fits most F id word h short is

  after_flag_fits : (waiting : Waiting) (word : Text) (h : Held) (o : Outcome) → IsShort most word → HeldFits most F h
      → HeldFits most F (after_flag s.rules waiting word h o).0
  after_flag_fits waiting word h met.done short is = is
  after_flag_fits waiting word h (met.waits id) short is = is
  after_flag_fits waiting word h met.plain short is = plain_fits waiting word h short is
  after_flag_fits waiting word h met.refused short is = plain_fits waiting word h short is

  bundled_fits : (waiting : Waiting) (word : Text) (flags : Option Text) (h : Held) → IsShort most word → IfSome flags (IsShort most)
      → option_map_or (λ f. bundle_fault s.rules s.args_override_self f h) flags [] ≡ [] → HeldFits most F h
      → HeldFits most F (short_or_plain s.rules waiting word flags h).0
  bundled_fits waiting word None h short parts none is = plain_fits waiting word h short is
  bundled_fits waiting word (Some flags) h short parts none is =
      after_flag_fits waiting word (bundle s.rules flags h).0 (bundle s.rules flags h).1 short
      (bundle_fits most F s.args_override_self once s.rules rules (length flags) flags h.skip met.plain (record h { skip = 0 }) parts none
      (record { rows = is.rows; pending = is.pending }))

  flagged_fits : (waiting : Waiting) (word : Text) (long : Option (Text × Option Text)) (h : Held) → IsShort most word
      → IfSome long (IsShortValue most) → flag_word_fault s.rules s.args_override_self long word h ≡ [] → HeldFits most F h
      → HeldFits most F (long_or_other s.rules waiting word long h).0
  flagged_fits waiting word (Some p) h short parts none is =
      after_flag_fits waiting word (long_met s.rules (arg_by_long s.rules p.0) p.1 h).0 (long_met s.rules (arg_by_long s.rules p.0) p.1 h).1 short
      (long_fits most F s.args_override_self once s.rules rules p.0 p.1 h parts none is)
  flagged_fits waiting word None h short parts none is = bundled_fits waiting word (short_of word) h short (short_short most word short) none is

  other_fits : (name : Option Text) (waiting : Waiting) (position : ℕ) (word : Text) (h : Held) → IsShort most word → other_fault s name word h ≡ []
      → HeldFits most F h → HeldFits most F (subcommand_or_other s.rules name waiting position word h).0
  other_fits (Some name) waiting position word h short none is = is
  other_fits None waiting position word h short none is = go (bytes_eq word (45 ∷ 45 ∷ [])) none
    where
      go : (b : Bool) → cond b [] (flag_word_fault s.rules s.args_override_self (long_of word) word h) ≡ []
          → HeldFits most F (cond b (h, met.trailing position) (long_or_other s.rules waiting word (long_of word) h)).0
      go true none = is
      go false none = flagged_fits waiting word (long_of word) h short (long_short most word short) none is

  met_fits : (names : Names) (is_trailing : Bool) (waiting : Waiting) (position : ℕ) (word : Text) (h : Held) → IsShort most word
      → word_fault s names is_trailing waiting word h ≡ [] → HeldFits most F h
      → HeldFits most F (word_met s.rules names is_trailing waiting position word h).0
  met_fits names true waiting position word h short none is = is
  met_fits names false waiting position word h short none is = other_fits (subcommand_met names waiting word) waiting position word h short none is

  held_fits : (a : Rule) (h : Held) (b : Bool) → cond b [] (settle_fault s.rules s.args_override_self h) ≡ [] → HeldFits most F h
      → HeldFits most F (cond b h (settled s.rules h))
  held_fits a h true none is = is
  held_fits a h false none is = settled_fits most F s.args_override_self once s.rules h rules none is

  stepped_fits : (word : Text) (w : Walk) (h : Held) (step : Step) → IsShort most word → step_fault s w.position h step ≡ [] → HeldFits most F h
      → HeldFits most F (after_step s.rules word w h step).held
  stepped_fits word w h (met.next waiting) short none is = is
  stepped_fits word w h (met.trailing position) short none is = is
  stepped_fits word w h (met.subcommand name) short none is = is
  stepped_fits word w h met.value short none is = go (arg_by_index s.rules w.position) none
    where
      go : (o : Option Rule) → option_map_or (λ a. positional_fault s.rules s.args_override_self a h) o (stray_fault s) ≡ []
          → HeldFits most F (to_positional s.rules o word w h).held
      go None none = is
      go (Some a) none = pushed_fits most F a.id word _ short (held_fits a h (is_pending a h.pending && takes_several a) none is)

  -- ---- all words

  turned_fits : (names : Names) (w : Walk) (word : Text) → IsShort most word → turn_fault s names w word ≡ [] → HeldFits most F w.held
      → HeldFits most F (walked s.rules names w word).held
  unfolding walked
  turned_fits names w word short none is = go w.stopped none
    where
      go : (stopped : Option (Text × List Text))
          → cond (Rattle.std.specs.Option.is_some stopped) [] (or_else (word_fault s names w.is_trailing w.waiting word w.held)
          (step_fault s w.position (word_met s.rules names w.is_trailing w.waiting w.position word w.held).0
          (word_met s.rules names w.is_trailing w.waiting w.position word w.held).1)) ≡ []
          → HeldFits most F (walked_from s.rules names stopped w word).held
      go (Some p) none = is
      go None none =
          let parts = both_pass (word_fault s names w.is_trailing w.waiting word w.held) _ none in
          let met = word_met s.rules names w.is_trailing w.waiting w.position word w.held in
          stepped_fits word w met.0 met.1 short parts.1 (met_fits names w.is_trailing w.waiting w.position word w.held short parts.0 is)

  walk_fits : (names : Names) (words : List Text) (w : Walk) → AreShort most words → walk_fault s names w words ≡ [] → HeldFits most F w.held
      → HeldFits most F (fold (walked s.rules names) w words).held
  unfolding walk_fault
  walk_fits names [] w short none is = is
  walk_fits names (word ∷ rest) w short none is =
      let parts = both_pass (turn_fault s names w word) _ none in
      walk_fits names rest (walked s.rules names w word) short.1 parts.1 (turned_fits names w word short.0 parts.0 is)

-- ---- defaults

defaulted_fits : (most : ℕ) (F : Fits) (a : Rule) (rows : List Row) → RuleFits most F a → default_fault rows a ≡ [] → RowsFit F rows
    → RowsFit F (with_default rows a)
defaulted_fits most F a rows rule none is = go (has_row a.id rows) refl none
  where
    given : (values : List Text) → AreShort most values → has_row a.id rows ≡ false → cond (length values == 0) [] (given_default_fault a values) ≡ []
        → RowsFit F (default_rows a.id (reading_by a) values rows)
    given [] short new none = is
    given (v ∷ vs) short new none =
        let some : (length (v ∷ vs) == 0) ≡ false = ne_eqb _ _ (λ e. omega arith) in
        let passed : given_default_fault a (v ∷ vs) ≡ [] = subst (λ b. cond b [] (given_default_fault a (v ∷ vs)) ≡ []) some none in
        new_values_fit F a.id (reading_by a) DefaultValue (v ∷ vs) rows new is
        (rule.fits (v ∷ vs) short (both_pass (request_kinds (action_of a)) (values_fault a (v ∷ vs)) passed).1)

    go : (b : Bool) → has_row a.id rows ≡ b → cond (b || length a.defaults == 0) [] (given_default_fault a a.defaults) ≡ []
        → RowsFit F (cond b rows (default_rows a.id (reading_by a) a.defaults rows))
    go true e none = is
    go false e none = given a.defaults rule.defaults e none

defaults_fit : (most : ℕ) (F : Fits) (c : List Rule) (rows : List Row) → RulesFit most F c → defaults_fault rows c ≡ [] → RowsFit F rows
    → RowsFit F (fold with_default rows c)
unfolding defaults_fault
defaults_fit most F [] rows rules none is = is
defaults_fit most F (a ∷ rest) rows rules none is =
    let parts = both_pass (default_fault rows a) _ none in
    defaults_fit most F rest (with_default rows a) rules.1 parts.1 (defaulted_fits most F a rows rules.0 parts.0 is)

-- ---- the matches

level_fits : (most : ℕ) (F : Fits) (s : Shape) (names : Names) (words : List Text) (has_subcommand : Bool) (below : Kinds)
    → s.args_override_self ≡ false → RulesFit most F s.rules → AreShort most words
    → level_fault s names nothing_held words has_subcommand below ≡ [] → RowsFit F (finished s.rules (walk s.rules names nothing_held words).held)
level_fits most F s names words has_subcommand below once rules short none =
    let end = (walk s.rules names nothing_held words).held in
    let walks = both_pass (walk_fault s names (walk_from nothing_held) words) _ none in
    let belows = both_pass below _ walks.1 in
    let settles = both_pass (settle_fault s.rules s.args_override_self end) _ belows.1 in
    let defaults = both_pass (defaults_fault (settled s.rules end).rows s.rules) _ settles.1 in
    let walked_fit = walk_fits most F s once rules names words (walk_from nothing_held) short walks.0 (record { rows = tt; pending = tt }) in
    let settled_fit = settled_fits most F s.args_override_self once s.rules end rules settles.0 walked_fit in
    defaults_fit most F s.rules (settled s.rules end).rows rules defaults.0 settled_fit.rows

-- the rows of accepted words fit, where the rules of the command do
pub matches_fit : (most : ℕ) (F : Fits) (app : App) (words : List Text) → (built app).top.args_override_self ≡ false
    → RulesFit most F (built app).top.rules → AreShort most (argument_words app words) → fault_of app words ≡ [] → RowsFit F (matches_of app words)
matches_fit most F app words once rules short none =
    level_fits most F (built app).top (names_of (built app)) (argument_words app words) _ _ once rules short none
