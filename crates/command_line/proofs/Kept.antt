-- What the rows of accepted words keep to: short texts, and numbers within their bounds.
use Rattle.std.proofs.Common.{◌≡◌, ℕ, true, false, List, codes, Option, ◌∙◌, refl, sym, arith, true≢false}
use Rattle.std.specs.Prelude.{slice_get}
use Rattle.std.specs.Option.{IfSome, option_map}
use Rattle.std.specs.Str.{bytes_eq}
use Rattle.clap.specs.Simple.{built, filled, with_index}
use Rattle.clap.specs.Values.{read_as}
use Rattle.clap.specs.Walk.{Rule, Text, action_of}
use Rattle.clap.specs.declared.builder.value_parser.Reading.{Reading}
use Rattle.command_line.specs.Options.{demo_app, explain_app, records_rule, run_app, schedule_rule, script_rule, topics_rule, trace_rule, workers_rule}
use Rattle.command_line.specs.Words.{longest_word}
use Rattle.command_line.proofs.Numbers.{IsNumberFrom, first_number}
use Rattle.command_line.proofs.Shortness.{AreShort}
use Rattle.command_line.proofs.Uses.{RuleFits, RulesFit, is_single}

-- the text that a getter reads of a row with these values
abbrev read_text : List Text → Reading → Option Text
read_text values how = option_map (read_as how) (slice_get values 0)

-- what the row of an id keeps to
pub record Keeps (id : Text) (values : List Text) (how : Reading) : Type 0 where
  pub short : AreShort longest_word values
  pub workers : bytes_eq id (codes "workers") ≡ true → IfSome (read_text values how) (IsNumberFrom 1 32)
  pub records : bytes_eq id (codes "records") ≡ true → IfSome (read_text values how) (IsNumberFrom 1 100000)

-- ---- the rules of the three commands

text_fits : (a : Rule) → is_single (action_of a) ≡ true → bytes_eq a.id (codes "workers") ≡ false → bytes_eq a.id (codes "records") ≡ false
    → AreShort longest_word a.missing → AreShort longest_word a.defaults → RuleFits longest_word Keeps a
text_fits a single not_workers not_records missing defaults = record {
  single = single;
  fits = λ values short none. record {
    short = short;
    workers = λ e. absurd (true≢false (sym e ∙ not_workers));
    records = λ e. absurd (true≢false (sym e ∙ not_records));
  };
  missing = missing;
  defaults = defaults;
}

workers_fits : (i : ℕ) → RuleFits longest_word Keeps (with_index i (filled workers_rule))
unfolding workers_rule
workers_fits i = record {
  single = refl;
  fits = λ values short none. record {
    short = short;
    workers = λ _. first_number 1 32 false values (omega arith) none;
    records = λ e. absurd (true≢false (sym e));
  };
  missing = tt;
  defaults = (omega arith, tt);
}

records_fits : RuleFits longest_word Keeps (with_index 1 (filled records_rule))
unfolding records_rule
records_fits = record {
  single = refl;
  fits = λ values short none. record {
    short = short;
    workers = λ e. absurd (true≢false (sym e));
    records = λ _. first_number 1 100000 false values (omega arith) none;
  };
  missing = tt;
  defaults = tt;
}

pub run_fits : RulesFit longest_word Keeps (built run_app).top.rules
unfolding run_app script_rule topics_rule schedule_rule trace_rule
run_fits = (
  text_fits _ refl refl refl tt tt,
  (
    text_fits _ refl refl refl tt (omega arith, tt),
    (
      workers_fits 1,
      (text_fits _ refl refl refl tt tt, (text_fits _ refl refl refl (omega arith, tt) (omega arith, tt), (text_fits _ refl refl refl tt tt, tt))),
    ),
  ),
)

pub explain_fits : RulesFit longest_word Keeps (built explain_app).top.rules
unfolding explain_app script_rule
explain_fits = (text_fits _ refl refl refl tt tt, (text_fits _ refl refl refl tt tt, tt))

pub demo_fits : RulesFit longest_word Keeps (built demo_app).top.rules
unfolding demo_app records_rule
demo_fits = (records_fits, (workers_fits 2, (text_fits _ refl refl refl tt tt, tt)))
