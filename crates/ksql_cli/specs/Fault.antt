-- The line that says why a command was refused.
use Rattle.std.specs.Prelude.{ℕ, List, [], ◌++◌, codes, decimal}
use Rattle.ksql_types.specs.declared.code.Code.{Code}
use Rattle.ksql_types.specs.declared.code.Code.TheVariants.{Syntax, TooLarge, UnknownRelation, NameTaken, UnknownColumn, AmbiguousColumn, DuplicateColumn, TypeMismatch, WrongKind, KeyMissing, JoinNotOnKey, PartitionMismatch, AggregateMisuse, BadWindow, Unsupported, BadProperty}
use Rattle.topic_files.specs.declared.topic.LineWhy.{LineWhy}
use Rattle.topic_files.specs.declared.topic.LineWhy.TheVariants as why
use Rattle.schedule_text.specs.declared.fault.StepWhy.{StepWhy}
use Rattle.schedule_text.specs.declared.fault.StepWhy.TheVariants as step_why
use Rattle.ksql_cli.specs.declared.status.Status.{Status}
use Rattle.ksql_cli.specs.declared.status.Status.TheVariants as ended

-- a code of refusal, and its name
abbrev pub code_text : Code → List ℕ
code_text Syntax = codes "S1 Syntax"
code_text TooLarge = codes "S2 TooLarge"
code_text UnknownRelation = codes "S3 UnknownRelation"
code_text NameTaken = codes "S4 NameTaken"
code_text UnknownColumn = codes "S5 UnknownColumn"
code_text AmbiguousColumn = codes "S6 AmbiguousColumn"
code_text DuplicateColumn = codes "S7 DuplicateColumn"
code_text TypeMismatch = codes "S8 TypeMismatch"
code_text WrongKind = codes "S9 WrongKind"
code_text KeyMissing = codes "S10 KeyMissing"
code_text JoinNotOnKey = codes "S11 JoinNotOnKey"
code_text PartitionMismatch = codes "S12 PartitionMismatch"
code_text AggregateMisuse = codes "S13 AggregateMisuse"
code_text BadWindow = codes "S14 BadWindow"
code_text Unsupported = codes "S15 Unsupported"
code_text BadProperty = codes "S16 BadProperty"

abbrev pub why_text : LineWhy → List ℕ
why_text why.BadLine = codes "BadLine"
why_text why.TooLarge = codes "TooLarge"

abbrev pub step_why_text : StepWhy → List ℕ
step_why_text step_why.BadStep = codes "BadStep"
step_why_text step_why.UnknownTopic = codes "UnknownTopic"
step_why_text step_why.UnknownWorker = codes "UnknownWorker"
step_why_text step_why.WorkerTaken = codes "WorkerTaken"
step_why_text step_why.UnknownTask = codes "UnknownTask"
step_why_text step_why.NoWorker = codes "NoWorker"
step_why_text step_why.TooLarge = codes "TooLarge"

-- the line of a script refused in this statement with this code
unfoldable pub script_line : ℕ → Code → List ℕ
script_line statement code =
    codes "ksql: script statement " ++ (decimal statement ++ (codes ": " ++ (code_text code ++ codes "\n")))

-- the line of a topic file refused at this line
unfoldable pub topic_line : List ℕ → ℕ → LineWhy → List ℕ
topic_line topic line why =
    codes "ksql: topic " ++ (topic ++ (codes " line " ++ (decimal line ++ (codes ": " ++ (why_text why ++ codes "\n")))))

-- the line of a schedule refused at this line
unfoldable pub schedule_line : ℕ → StepWhy → List ℕ
schedule_line line why = codes "ksql: schedule line " ++ (decimal line ++ (codes ": " ++ (step_why_text why ++ codes "\n")))

-- the line of a file that can't be read
unfoldable pub read_line : List ℕ → List ℕ
read_line name = codes "ksql: cannot read " ++ (name ++ codes "\n")

-- the line of words that aren't a command
unfoldable pub usage_line : List ℕ
usage_line = codes "ksql: bad command line\n"

-- the line for out of memory
unfoldable pub memory_line : List ℕ
memory_line = codes "ksql: out of memory\n"

-- the line of a refusal; a command whose own text was begun has none
abbrev pub fault_line : Status → List ℕ
fault_line ended.Done = []
fault_line ended.Usage = usage_line
fault_line (ended.Script statement code) = script_line statement code
fault_line (ended.TopicFile topic line why) = topic_line topic line why
fault_line (ended.Schedule line why) = schedule_line line why
fault_line (ended.ReadFault name) = read_line name
fault_line ended.WriteFault = []
fault_line ended.OutOfMemory = memory_line
