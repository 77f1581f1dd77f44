-- The three commands as data: their names and options.
use Rattle.std.specs.Prelude.{[], ◌∷◌, codes, pos, true, Some}
use Rattle.clap.specs.Words.{App, Rule, new_app, new_rule, with_rule}
use Rattle.clap.specs.declared.builder.action.ArgAction.TheVariants.{Set, SetTrue}
use Rattle.clap.specs.declared.builder.value_parser.ValueParser.TheVariants.{Signed}

-- --script and a name, required
unfoldable pub script_rule : Rule
script_rule = record (new_rule (codes "script")) { long = Some (codes "script"); action = Some Set; required = true }

-- --topics and a folder, `.` by default
unfoldable pub topics_rule : Rule
topics_rule = record (new_rule (codes "topics")) { long = Some (codes "topics"); action = Some Set; defaults = codes "." ∷ [] }

-- --workers and a number from 1 to 32, 1 by default
unfoldable pub workers_rule : Rule
workers_rule = record (new_rule (codes "workers")) {
  long = Some (codes "workers");
  action = Some Set;
  parser = Some (Signed (pos 1) (pos 32));
  defaults = codes "1" ∷ [];
}

-- --schedule and a name
unfoldable pub schedule_rule : Rule
schedule_rule = record (new_rule (codes "schedule")) { long = Some (codes "schedule"); action = Some Set }

-- --trace, a flag
unfoldable pub trace_rule : Rule
trace_rule = record (new_rule (codes "trace")) { long = Some (codes "trace"); action = Some SetTrue }

-- a number of records from 1 to 100,000, required
unfoldable pub records_rule : Rule
records_rule = record (new_rule (codes "records")) { action = Some Set; parser = Some (Signed (pos 1) (pos 100000)); required = true }

-- run --script F [--topics DIR] [--workers N] [--schedule F] [--trace]
unfoldable pub run_app : App
run_app = with_rule (with_rule (with_rule (with_rule (with_rule (new_app (codes "run"))
    script_rule) topics_rule) workers_rule) schedule_rule) trace_rule

-- explain --script F
unfoldable pub explain_app : App
explain_app = with_rule (new_app (codes "explain")) script_rule

-- demo N [--workers W]
unfoldable pub demo_app : App
demo_app = with_rule (with_rule (new_app (codes "demo")) records_rule) workers_rule
