-- The statuses of a command.
use Rattle.std.specs.Prelude.{ℕ}
use Rattle.ksql_script.specs.declared.fault.ScriptFault.{ScriptFault}
use Rattle.ksql_script.specs.declared.fault.ScriptFault.TheVariants as script
use Rattle.schedule_text.specs.declared.fault.ScheduleFault.{ScheduleFault}
use Rattle.schedule_text.specs.declared.fault.ScheduleFault.TheVariants as schedule
use Rattle.command_line.specs.declared.fault.WordsFault.{WordsFault}
use Rattle.command_line.specs.declared.fault.WordsFault.TheVariants as words
use Rattle.ksql_cli.specs.declared.status.Status.{Status}
use Rattle.ksql_cli.specs.declared.status.Status.TheVariants.{Done, Usage, Script, TopicFile, Schedule, ReadFault, WriteFault, OutOfMemory}

-- the exit status of each status
abbrev pub exit_code : Status → ℕ
exit_code Done = 0
exit_code Usage = 2
exit_code (Script statement code) = 3
exit_code (TopicFile topic line why) = 4
exit_code (Schedule line why) = 5
exit_code (ReadFault name) = 6
exit_code WriteFault = 7
exit_code OutOfMemory = 8

-- the status of each fault of words, of a script and of a schedule
abbrev pub of_words : WordsFault → Status
of_words words.Usage = Usage
of_words words.OutOfMemory = OutOfMemory

abbrev pub of_script : ScriptFault → Status
of_script (script.Refused statement code) = Script statement code
of_script script.OutOfMemory = OutOfMemory

abbrev pub of_schedule : ScheduleFault → Status
of_schedule (schedule.Refused line why) = Schedule line why
of_schedule schedule.OutOfMemory = OutOfMemory
