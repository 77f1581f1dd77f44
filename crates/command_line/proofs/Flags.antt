-- What a flag adds to the values so far, if it has no fault.
use Rattle.std.proofs.Common.{◌≡◌, ◌&&◌, ℕ, zero, suc, Bool, true, false, not, List, [], ◌∷◌, cond, drop, length, Option, Some, None}
use Rattle.std.specs.Option.{IfSome, is_some}
use Rattle.std.specs.Prelude.{encode_utf8, slice_get}
use Rattle.std.specs.Str.{chars}
use Rattle.clap.specs.declared.error.kind.ErrorKind.TheVariants.{TooManyValues}
use Rattle.clap.specs.Kinds.{Kinds, or_else}
use Rattle.clap.specs.Walk.{Held, Outcome, Rule, Text, arg_by_long, arg_by_short, attached_value, bundle_met, bundle_step, done, flag_met, has_long, has_short, long_met, option_met, reacted, short_met, takes_values}
use Rattle.clap.specs.Faults.{bundle_step_fault, flags_fault, long_fault, option_fault, react_fault, short_fault}
use Rattle.command_line.proofs.Shortness.{IsShort, attached_short, dropped_short}
use Rattle.command_line.proofs.Uses.{Fits, HeldFits, RuleFits, RulesFit, both_pass, found_fits, reacted_fits, settled_fits}

module _ (most : ℕ) (F : Fits) (again : Bool) (once : again ≡ false) (c : List Rule) (rules : RulesFit most F c) where
  option_fits : (a : Rule) (value : Option Text) (h : Held) → RuleFits most F a → IfSome value (IsShort most) → option_fault c again a value h ≡ []
      → HeldFits most F h → HeldFits most F (option_met c a value h).0
  option_fits a (Some v) h rule short none is = reacted_fits most F again once c a (v ∷ []) h rules rule (short, tt) none is
  option_fits a None h rule short none is =
      let before = settled_fits most F again once c h rules none is in
      record { rows = before.rows; pending = tt }

  flag_fits : (a : Rule) (value : Option Text) (h : Held) → RuleFits most F a
      → cond (is_some value) (TooManyValues ∷ []) (react_fault c again a [] h) ≡ [] → HeldFits most F h → HeldFits most F (flag_met c a value h).0
  flag_fits a (Some v) h rule none is = is
  flag_fits a None h rule none is = reacted_fits most F again once c a [] h rules rule tt none is

  pub long_fits : (name : Text) (value : Option Text) (h : Held) → IfSome value (IsShort most)
      → long_fault c again (arg_by_long c name) value h ≡ [] → HeldFits most F h → HeldFits most F (long_met c (arg_by_long c name) value h).0
  long_fits name value h short none is =
      go (arg_by_long c name) (found_fits (RuleFits most F) (λ a. not (is_some a.index) && has_long a name) c rules) none
    where
      by_values : (a : Rule) (b : Bool) → RuleFits most F a
          → cond b (option_fault c again a value h) (cond (is_some value) (TooManyValues ∷ []) (react_fault c again a [] h)) ≡ []
          → HeldFits most F (cond b (option_met c a value h) (flag_met c a value h)).0
      by_values a true rule none = option_fits a value h rule short none is
      by_values a false rule none = flag_fits a value h rule none is

      go : (o : Option Rule) → IfSome o (RuleFits most F) → long_fault c again o value h ≡ [] → HeldFits most F (long_met c o value h).0
      go None rule none = is
      go (Some a) rule none = by_values a (takes_values a) rule none

  -- what the rest of a bundle keeps to
  RestFits : (Held → Kinds) → (Held → Held × Outcome) → Type 0
  RestFits fault next = (h : Held) → fault h ≡ [] → HeldFits most F h → HeldFits most F (next h).0

  short_fits : (x : ℕ) (rest : Text) (h : Held) (next : Held → Held × Outcome) (fault : Held → Kinds) → IsShort most rest → RestFits fault next
      → short_fault c again (arg_by_short c x) rest h fault ≡ [] → HeldFits most F h → HeldFits most F (short_met c (arg_by_short c x) rest h next).0
  unfolding RestFits
  short_fits x rest h next fault short then none is =
      go (arg_by_short c x) (found_fits (RuleFits most F) (λ a. not (is_some a.index) && has_short a x) c rules) none
    where
      by_values : (a : Rule) (b : Bool) → RuleFits most F a
          → cond b (option_fault c again a (attached_value rest) h) (or_else (react_fault c again a [] h) (fault (reacted c a [] h))) ≡ []
          → HeldFits most F (cond b (option_met c a (attached_value rest) h) (next (reacted c a [] h))).0
      by_values a true rule none = option_fits a (attached_value rest) h rule (attached_short most rest short) none is
      by_values a false rule none =
          let parts = both_pass (react_fault c again a [] h) _ none in
          then (reacted c a [] h) parts.1 (reacted_fits most F again once c a [] h rules rule tt parts.0 is)

      go : (o : Option Rule) → IfSome o (RuleFits most F) → short_fault c again o rest h fault ≡ [] → HeldFits most F (short_met c o rest h next).0
      go None rule none = is
      go (Some a) rule none = by_values a (takes_values a) rule none

  pub bundle_fits : (k : ℕ) (flags : Text) (skip : ℕ) (so_far : Outcome) (h : Held) → IsShort most flags → flags_fault c again k flags skip h ≡ []
      → HeldFits most F h → HeldFits most F (bundle_met c k flags skip so_far h).0
  unfolding bundle_met flags_fault RestFits
  bundle_fits zero flags skip so_far h short none is = is
  bundle_fits (suc k) flags skip so_far h short none is = go (bundle_fits k) (slice_get (chars flags) 0) skip none
    where
      go : ((rest : Text) (left : ℕ) (before : Outcome) (held : Held) → IsShort most rest → flags_fault c again k rest left held ≡ []
          → HeldFits most F held → HeldFits most F (bundle_met c k rest left before held).0)
          → (o : Option ℕ) (left : ℕ) → bundle_step_fault c again o flags left h (flags_fault c again k) ≡ []
          → HeldFits most F (bundle_step c o flags left so_far h (bundle_met c k)).0
      go each None left none = is
      go each (Some x) zero none =
          let rest = drop (length (encode_utf8 x)) flags in
          let short_rest = dropped_short most (length (encode_utf8 x)) flags short in
          short_fits x rest h (bundle_met c k rest 0 done) (flags_fault c again k rest 0) short_rest
          (λ held fault fits. each rest 0 done held short_rest fault fits) none is
      go each (Some x) (suc left) none =
          each (drop (length (encode_utf8 x)) flags) left so_far h (dropped_short most (length (encode_utf8 x)) flags short) none is
