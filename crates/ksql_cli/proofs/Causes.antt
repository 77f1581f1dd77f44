-- The causes of statuses: the words and the files decide at most one status.
use Rattle.std.proofs.Common.{◌≡◌, ◌∙◌, ap, ap₂, sym, refl, subst, ℕ, List, [], ◌∷◌, ◌++◌, inl, inr, length, arith, length-append}
use Rattle.std.specs.Prelude.{codes, ◌⊎◌, Option, None, Some, IfSome, Result, Ok, Err, OnOk, OnErr, ◌≤◌}
use Rattle.std.proofs.lemmas.Option.{same_Some}
use Rattle.std.proofs.lemmas.List.{take_all}
use Rattle.ksql_types.specs.Text.{longest_text}
use Rattle.ksql_types.specs.declared.code.Code.{Code}
use Rattle.ksql_types.specs.declared.relation.Relation.{Relation}
use Rattle.ksql_outside.specs.Outside.{followed_by, read_bytes, JoinedLast, WrotePrefix}
use Rattle.command_line.specs.Words.{command_of}
use Rattle.command_line.specs.declared.asked.Command.{Command}
use Rattle.command_line.specs.declared.asked.Command.TheVariants.{Run as run_words, Explain, Demo}
use Rattle.ksql_program.specs.declared.program.Program.{Program}
use Rattle.ksql_script.specs.Script.{IsAccepted, IsRefused}
use Rattle.ksql_script.proofs.OneScript.{one_program, one_refusal, not_both}
use Rattle.topic_files.specs.declared.topic.LineWhy.{LineWhy}
use Rattle.topic_files.specs.declared.topic.Room.{Room}
use Rattle.topic_files.specs.declared.topic.TopicLines.{TopicLines}
use Rattle.topic_files.specs.File.{first_fault}
use Rattle.topology.specs.Topologies.{topology_of}
use Rattle.topology.specs.declared.schedule.Lined.{Lined}
use Rattle.schedule_text.specs.Schedules.{schedule_of}
use Rattle.schedule_text.specs.declared.fault.StepWhy.{StepWhy}
use Rattle.ksql_cli.specs.declared.asked.Asked.{Asked}
use Rattle.ksql_cli.specs.declared.status.Status.{Status}
use Rattle.ksql_cli.specs.declared.status.Status.TheVariants as ended
use Rattle.ksql_cli.specs.Command.{AreFed, CauseFor, DemoCause, ExplainCause, Files, HasCause, HasText, HasTextFor, IsDecided, IsDueFor, IsFirstBad, IsProgramRead, IsRefusal, IsScheduleRefused, IsScheduled, IsScriptRefused, NoDueFails, RunCause, Runs, room_after, topic_file, whole_room}
use Rattle.ksql_cli.specs.Run.{Run, declared_of}

-- ---- one script

one_bytes : (all : Files) (name a b : List ℕ) → read_bytes name all ≡ Some a → read_bytes name all ≡ Some b → a ≡ b
one_bytes all name a b is_a is_b = same_Some a b (sym is_a ∙ is_b)

one_read : (name : List ℕ) (all : Files) (p q : Program) → IsProgramRead name all p → IsProgramRead name all q → p ≡ q
one_read name all p q a b =
    one_program b.0 p q (subst (λ (script : List ℕ). IsAccepted script p) (one_bytes all name a.0 b.0 a.1 b.1) a.2) b.2

one_refused : (name : List ℕ) (all : Files) (s t : ℕ) (c d : Code) → IsScriptRefused name all s c → IsScriptRefused name all t d → ended.Script s c ≡ ended.Script t d
one_refused name all s t c d a b =
    let once = one_refusal b.0 s t c d (subst (λ (script : List ℕ). IsRefused script s c) (one_bytes all name a.0 b.0 a.1 b.1) a.2) b.2 in
    ap₂ ended.Script once.0 once.1

-- a script isn't both refused and accepted
refused_accepted : (name : List ℕ) (all : Files) (statement : ℕ) (code : Code) (program : Program) → IsScriptRefused name all statement code → IsProgramRead name all program → ⊥
refused_accepted name all statement code program a b =
    not_both a.0 program statement code (subst (λ (s : List ℕ). IsAccepted s program) (one_bytes all name b.0 a.0 b.1 a.1) b.2) a.2

-- ---- one end of the topic files

-- a file without a fault has none
faultless : (room : Room) (good bad : List ℕ) (fault : ℕ × LineWhy) → good ≡ bad → first_fault room good ≡ None → first_fault room bad ≡ Some fault → ⊥
faultless room good bad fault same none some = none_some fault (sym none ∙ ap (first_fault room) same ∙ some)
  where
    none_some : (f : ℕ × LineWhy) → None ≡ Some f → ⊥
    none_some f e = cc (e)

same_rest : (dir : List ℕ) (all : Files) (room : Room) (relation : Relation) (relations : List Relation) (a b topic : List ℕ) (line : ℕ) (why : LineWhy) → a ≡ b →
    IsFirstBad dir all (room_after room relation a) relations topic line why → IsFirstBad dir all (room_after room relation b) relations topic line why
same_rest dir all room relation relations a b topic line why same bad =
    subst (λ (file : List ℕ). IsFirstBad dir all (room_after room relation file) relations topic line why) same bad

-- the fault of a file, or one of a file after it
abbrev HereOrLater : List ℕ → Files → Room → Relation → List Relation → List ℕ → List ℕ → ℕ → LineWhy → Type 0
HereOrLater dir all room relation relations file topic line why =
    ((first_fault room file ≡ Some (line, why)) × (topic ≡ relation.topic))
    ⊎ ((first_fault room file ≡ None) × IsFirstBad dir all (room_after room relation file) relations topic line why)

not_here_or_later : (dir : List ℕ) (all : Files) (room : Room) (relation : Relation) (relations : List Relation) (good bad topic : List ℕ) (line : ℕ) (why : LineWhy) →
    first_fault room good ≡ None → good ≡ bad → (IsFirstBad dir all (room_after room relation good) relations topic line why → ⊥) →
    HereOrLater dir all room relation relations bad topic line why → ⊥
not_here_or_later dir all room relation relations good bad topic line why none same after_good (inl here) = faultless room good bad (line, why) same none here.0
not_here_or_later dir all room relation relations good bad topic line why none same after_good (inr later) =
    after_good (same_rest dir all room relation relations bad good topic line why (sym same) later.1)

-- topic files aren't both good and bad
no_bad : (dir : List ℕ) (all : Files) (room : Room) (relations : List Relation) (files : List TopicLines) (topic : List ℕ) (line : ℕ) (why : LineWhy) →
    AreFed dir all room relations files → IsFirstBad dir all room relations topic line why → ⊥
no_bad dir all room [] files topic line why fed bad = absurd bad
no_bad dir all room (relation ∷ relations) files topic line why fed bad =
    not_here_or_later dir all room relation relations fed.0 bad.0 topic line why fed.2.1
    (one_bytes all (topic_file dir relation) fed.0 bad.0 fed.2.0 bad.1)
    (no_bad dir all (room_after room relation fed.0) relations fed.1 topic line why fed.3) bad.2

same_status : (s r : List ℕ) (x y : ℕ × LineWhy) → s ≡ r → Some x ≡ Some y → ended.TopicFile s x.0 x.1 ≡ ended.TopicFile r y.0 y.1
same_status s r x y p q = ap₂ (λ (topic : List ℕ) (f : ℕ × LineWhy). ended.TopicFile topic f.0 f.1) p (same_Some x y q)

one_here_or_later : (dir : List ℕ) (all : Files) (room : Room) (relation : Relation) (relations : List Relation) (a b t u : List ℕ) (l m : ℕ) (w v : LineWhy) → a ≡ b →
    (IsFirstBad dir all (room_after room relation b) relations t l w → IsFirstBad dir all (room_after room relation b) relations u m v → ended.TopicFile t l w ≡ ended.TopicFile u m v) →
    HereOrLater dir all room relation relations a t l w → HereOrLater dir all room relation relations b u m v → ended.TopicFile t l w ≡ ended.TopicFile u m v
one_here_or_later dir all room relation relations a b t u l m w v same one (inl x) (inl y) =
    same_status t u (l, w) (m, v) (x.1 ∙ sym y.1) (sym x.0 ∙ ap (first_fault room) same ∙ y.0)
one_here_or_later dir all room relation relations a b t u l m w v same one (inl x) (inr y) = absurd (faultless room b a (l, w) (sym same) y.0 x.0)
one_here_or_later dir all room relation relations a b t u l m w v same one (inr x) (inl y) = absurd (faultless room a b (m, v) same x.0 y.0)
one_here_or_later dir all room relation relations a b t u l m w v same one (inr x) (inr y) = one (same_rest dir all room relation relations a b t l w same x.1) y.1

one_bad : (dir : List ℕ) (all : Files) (room : Room) (relations : List Relation) (t u : List ℕ) (l m : ℕ) (w v : LineWhy) →
    IsFirstBad dir all room relations t l w → IsFirstBad dir all room relations u m v → ended.TopicFile t l w ≡ ended.TopicFile u m v
one_bad dir all room [] t u l m w v a b = absurd a
one_bad dir all room (relation ∷ relations) t u l m w v a b =
    one_here_or_later dir all room relation relations a.0 b.0 t u l m w v (one_bytes all (topic_file dir relation) a.0 b.0 a.1 b.1)
    (one_bad dir all (room_after room relation b.0) relations t u l m w v) a.2 b.2

-- ---- one end of the schedule

ok-err : (steps : List Lined) (fault : ℕ × StepWhy) → (r : Result (List Lined) (ℕ × StepWhy)) → r ≡ Ok steps → r ≡ Err fault → ⊥
ok-err steps fault (Ok x) ok err = cc (err)
ok-err steps fault (Err x) ok err = cc (ok)

err-err : (f g : ℕ × StepWhy) (r : Result (List Lined) (ℕ × StepWhy)) → r ≡ Err f → r ≡ Err g → f ≡ g
err-err f g (Ok x) a b = cc (a)
err-err f g (Err x) a b = cc (a, b)

same_schedule : (name : List ℕ) (workers : ℕ) (all : Files) (p : Program) (x y : List ℕ) → read_bytes name all ≡ Some x → read_bytes name all ≡ Some y →
    schedule_of p.items (topology_of p.items) workers x ≡ schedule_of p.items (topology_of p.items) workers y
same_schedule name workers all p x y a b = ap (schedule_of p.items (topology_of p.items) workers) (one_bytes all name x y a b)

-- a schedule isn't both read and refused
taken_refused : (o : Option (List ℕ)) (workers : ℕ) (all : Files) (p : Program) (steps : List Lined) (line : ℕ) (why : StepWhy) →
    IsScheduled o workers all p steps → IsScheduleRefused o workers all p line why → ⊥
taken_refused None workers all p steps line why taken refused = absurd refused
taken_refused (Some name) workers all p steps line why taken refused =
    ok-err steps (line, why) (schedule_of p.items (topology_of p.items) workers refused.0)
    (same_schedule name workers all p refused.0 taken.0 refused.1 taken.1 ∙ taken.2) refused.2

one_line : (o : Option (List ℕ)) (workers : ℕ) (all : Files) (p : Program) (l m : ℕ) (w v : StepWhy) →
    IsScheduleRefused o workers all p l w → IsScheduleRefused o workers all p m v → ended.Schedule l w ≡ ended.Schedule m v
one_line None workers all p l m w v a b = absurd a
one_line (Some name) workers all p l m w v a b =
    ap (λ (f : ℕ × StepWhy). ended.Schedule f.0 f.1)
    (err-err (l, w) (m, v) (schedule_of p.items (topology_of p.items) workers a.0) a.2 (same_schedule name workers all p a.0 b.0 a.1 b.1 ∙ b.2))

-- ---- one answer

-- The names of a run and the files decide at most one status.
module _ (a : Asked) (all : Files) where
  read_bad : (p q : Program) (files : List TopicLines) (topic : List ℕ) (line : ℕ) (why : LineWhy) → IsProgramRead a.script all p →
      AreFed a.topics all whole_room (declared_of p.items) files → IsProgramRead a.script all q → IsFirstBad a.topics all whole_room (declared_of q.items) topic line why → ⊥
  read_bad p q files topic line why read fed is bad =
      no_bad a.topics all whole_room (declared_of q.items) files topic line why
      (subst (λ (r : Program). AreFed a.topics all whole_room (declared_of r.items) files) (one_read a.script all p q read is) fed) bad

  ran_refused : (run : Run) (q : Program) (line : ℕ) (why : StepWhy) → Runs a all run → IsProgramRead a.script all q → IsScheduleRefused a.schedule a.workers all q line why → ⊥
  ran_refused run q line why runs read refused =
      taken_refused a.schedule a.workers all q run.steps line why
      (subst (λ (r : Program). IsScheduled a.schedule a.workers all r run.steps) (one_read a.script all run.program q runs.read.0 read) runs.steps) refused

  agree-run : (old new : List (List ℕ)) (s t : Status) → IsDecided s → IsDecided t → RunCause a all old new s → RunCause a all old new t → s ≡ t
  agree-run old new ended.Done ended.Done ds dt x y = refl
  agree-run old new (ended.Script s c) (ended.Script t d) ds dt x y = one_refused a.script all s t c d x y
  agree-run old new (ended.TopicFile t l w) (ended.TopicFile u m v) ds dt x y =
      one_bad a.topics all whole_room (declared_of y.0.items) t u l m w v
      (subst (λ (p : Program). IsFirstBad a.topics all whole_room (declared_of p.items) t l w) (one_read a.script all x.0 y.0 x.1 y.1) x.2) y.2
  agree-run old new (ended.Schedule l w) (ended.Schedule m v) ds dt x y =
      one_line a.schedule a.workers all y.0 l m w v
      (subst (λ (p : Program). IsScheduleRefused a.schedule a.workers all p l w) (one_read a.script all x.0 y.0 x.2.0 y.2.0) x.3) y.3
  agree-run old new ended.Done (ended.Script t d) ds dt x y = absurd (refused_accepted a.script all t d x.0.program y x.1.read.0)
  agree-run old new (ended.Script s c) ended.Done ds dt x y = absurd (refused_accepted a.script all s c y.0.program x y.1.read.0)
  agree-run old new (ended.TopicFile t l w) (ended.Script u d) ds dt x y = absurd (refused_accepted a.script all u d x.0 y x.1)
  agree-run old new (ended.Script s c) (ended.TopicFile u m v) ds dt x y = absurd (refused_accepted a.script all s c y.0 x y.1)
  agree-run old new (ended.Schedule l w) (ended.Script u d) ds dt x y = absurd (refused_accepted a.script all u d x.0 y x.2.0)
  agree-run old new (ended.Script s c) (ended.Schedule m v) ds dt x y = absurd (refused_accepted a.script all s c y.0 x y.2.0)
  agree-run old new ended.Done (ended.TopicFile u m v) ds dt x y = absurd (read_bad x.0.program y.0 x.0.files u m v x.1.read.0 x.1.read.1 y.1 y.2)
  agree-run old new (ended.TopicFile t l w) ended.Done ds dt x y = absurd (read_bad y.0.program x.0 y.0.files t l w y.1.read.0 y.1.read.1 x.1 x.2)
  agree-run old new (ended.Schedule l w) (ended.TopicFile u m v) ds dt x y = absurd (read_bad x.0 y.0 x.1 u m v x.2.0 x.2.1 y.1 y.2)
  agree-run old new (ended.TopicFile t l w) (ended.Schedule m v) ds dt x y = absurd (read_bad y.0 x.0 y.1 t l w y.2.0 y.2.1 x.1 x.2)
  agree-run old new ended.Done (ended.Schedule m v) ds dt x y = absurd (ran_refused x.0 y.0 m v x.1 y.2.0 y.3)
  agree-run old new (ended.Schedule l w) ended.Done ds dt x y = absurd (ran_refused y.0 x.0 l w y.1 x.2.0 x.3)
  agree-run old new ended.Usage t ds dt x y = absurd x
  agree-run old new s ended.Usage ds dt x y = absurd y
  agree-run old new (ended.ReadFault n) t ds dt x y = absurd ds
  agree-run old new ended.WriteFault t ds dt x y = absurd ds
  agree-run old new ended.OutOfMemory t ds dt x y = absurd ds
  agree-run old new s (ended.ReadFault n) ds dt x y = absurd dt
  agree-run old new s ended.WriteFault ds dt x y = absurd dt
  agree-run old new s ended.OutOfMemory ds dt x y = absurd dt

agree-explain : (name : List ℕ) (all : Files) (old new : List (List ℕ)) (s t : Status) → IsDecided s → IsDecided t → ExplainCause name all old new s → ExplainCause name all old new t → s ≡ t
agree-explain name all old new ended.Done ended.Done ds dt x y = refl
agree-explain name all old new (ended.Script s c) (ended.Script t d) ds dt x y = one_refused name all s t c d x y
agree-explain name all old new ended.Done (ended.Script t d) ds dt x y = absurd (refused_accepted name all t d x.0 y x.1)
agree-explain name all old new (ended.Script s c) ended.Done ds dt x y = absurd (refused_accepted name all s c y.0 x y.1)
agree-explain name all old new ended.Usage t ds dt x y = absurd x
agree-explain name all old new (ended.TopicFile u l w) t ds dt x y = absurd x
agree-explain name all old new (ended.Schedule l w) t ds dt x y = absurd x
agree-explain name all old new s ended.Usage ds dt x y = absurd y
agree-explain name all old new s (ended.TopicFile u l w) ds dt x y = absurd y
agree-explain name all old new s (ended.Schedule l w) ds dt x y = absurd y
agree-explain name all old new (ended.ReadFault n) t ds dt x y = absurd ds
agree-explain name all old new ended.WriteFault t ds dt x y = absurd ds
agree-explain name all old new ended.OutOfMemory t ds dt x y = absurd ds
agree-explain name all old new s (ended.ReadFault n) ds dt x y = absurd dt
agree-explain name all old new s ended.WriteFault ds dt x y = absurd dt
agree-explain name all old new s ended.OutOfMemory ds dt x y = absurd dt

agree-demo : (records workers : ℕ) (s t : Status) → IsDecided s → IsDecided t → DemoCause records workers s → DemoCause records workers t → s ≡ t
agree-demo records workers ended.Done ended.Done ds dt x y = refl
agree-demo records workers ended.Usage t ds dt x y = absurd x
agree-demo records workers (ended.Script s c) t ds dt x y = absurd x
agree-demo records workers (ended.TopicFile u l w) t ds dt x y = absurd x
agree-demo records workers (ended.Schedule l w) t ds dt x y = absurd x
agree-demo records workers (ended.ReadFault n) t ds dt x y = absurd x
agree-demo records workers s ended.Usage ds dt x y = absurd y
agree-demo records workers s (ended.Script t d) ds dt x y = absurd y
agree-demo records workers s (ended.TopicFile u l w) ds dt x y = absurd y
agree-demo records workers s (ended.Schedule l w) ds dt x y = absurd y
agree-demo records workers s (ended.ReadFault n) ds dt x y = absurd y
agree-demo records workers ended.WriteFault t ds dt x y = absurd ds
agree-demo records workers ended.OutOfMemory t ds dt x y = absurd ds
agree-demo records workers s ended.WriteFault ds dt x y = absurd dt
agree-demo records workers s ended.OutOfMemory ds dt x y = absurd dt

usage-decided : (s : Status) → IsDecided s → (s ≡ ended.Usage) ⊎ (s ≡ ended.OutOfMemory) → s ≡ ended.Usage
usage-decided s d (inl is) = is
usage-decided s d (inr is) = absurd (subst IsDecided is d)

agree : (o : Option Command) (all : Files) (old new : List (List ℕ)) (s t : Status) → IsDecided s → IsDecided t → CauseFor o all old new s → CauseFor o all old new t → s ≡ t
agree (Some (run_words script topics workers schedule trace)) all old new s t ds dt x y =
    agree-run (record { script = script; topics = topics; workers = workers; schedule = schedule; trace = trace }) all old new s t ds dt x y
agree (Some (Explain script)) all old new s t ds dt x y = agree-explain script all old new s t ds dt x y
agree (Some (Demo records workers)) all old new s t ds dt x y = agree-demo records workers s t ds dt x y
agree None all old new s t ds dt x y = usage-decided s ds x ∙ sym (usage-decided t dt y)

-- a run or an explanation that has a text has the cause of a text
pub text-cause : (o : Option Command) (all : Files) (old new : List (List ℕ)) (text : List ℕ) → HasTextFor o all text → CauseFor o all old new ended.Done
text-cause (Some (run_words script topics workers schedule trace)) all old new text found = (found.0, found.1)
text-cause (Some (Explain script)) all old new text found = (found.0, found.1)
text-cause (Some (Demo records workers)) all old new text found = (found.0, found.1)
text-cause None all old new text found = absurd found

-- so has one whose text couldn't be written
pub fault-cause : (o : Option Command) (all : Files) (old new : List (List ℕ)) (text : List ℕ) → HasTextFor o all text → CauseFor o all old new ended.WriteFault
fault-cause (Some (run_words script topics workers schedule trace)) all old new text found = (found.0, found.1)
fault-cause (Some (Explain script)) all old new text found = (found.0, found.1)
fault-cause (Some (Demo records workers)) all old new text found = (found.0, found.1)
fault-cause None all old new text found = absurd found

-- a name that failed was due
due-failed : (o : Option Command) (all : Files) (old new : List (List ℕ)) (name : List ℕ) → CauseFor o all old new (ended.ReadFault name) →
    IsDueFor o all name × JoinedLast old new name
due-failed (Some (run_words script topics workers schedule trace)) all old new name (inl first) = (inl first.0, ([], first.1))
due-failed (Some (run_words script topics workers schedule trace)) all old new name (inr later) = (inr later.0, later.1)
due-failed (Some (Explain script)) all old new name cause = (cause.0, ([], cause.1))
due-failed (Some (Demo records workers)) all old new name cause = absurd cause
due-failed None all old new name (inl is) = absurd (cc (is))
due-failed None all old new name (inr is) = absurd (cc (is))

-- what has its cause is the answer, where the words and the files decided it, or it is out of memory
decided : (words : List (List ℕ)) (all : Files) (old new : List (List ℕ)) (answer status : Status) → IsRefusal answer →
    HasCause words all old new answer → NoDueFails words all old new → IsDecided status → HasCause words all old new status →
    (answer ≡ status) ⊎ (answer ≡ ended.OutOfMemory)
decided words all old new ended.Usage status refusal cause none is caused = inl (agree (command_of words) all old new ended.Usage status tt is cause caused)
decided words all old new (ended.Script s c) status refusal cause none is caused = inl (agree (command_of words) all old new (ended.Script s c) status tt is cause caused)
decided words all old new (ended.TopicFile t l w) status refusal cause none is caused = inl (agree (command_of words) all old new (ended.TopicFile t l w) status tt is cause caused)
decided words all old new (ended.Schedule l w) status refusal cause none is caused = inl (agree (command_of words) all old new (ended.Schedule l w) status tt is cause caused)
decided words all old new (ended.ReadFault name) status refusal cause none is caused =
    let failed = due-failed (command_of words) all old new name cause in absurd (none name failed.0 failed.1)
decided words all old new ended.OutOfMemory status refusal cause none is caused = inr refl
decided words all old new ended.Done status refusal cause none is caused = absurd refusal
decided words all old new ended.WriteFault status refusal cause none is caused = absurd refusal

-- what the clause on exact answers says, of an answer and of what keeps the writes calm
abbrev IsExact : List (List ℕ) → List (List ℕ) → List (List ℕ) → Type 0 → Status → Files → Type 0
IsExact words old new Calm answer all =
    NoDueFails words all old new → (status : Status) → IsDecided status → HasCause words all old new status →
    (status ≡ ended.Done → Calm) → (answer ≡ status) ⊎ (answer ≡ ended.OutOfMemory)

-- what the clause on complete answers says
abbrev IsComplete : List (List ℕ) → List (List ℕ) → List (List ℕ) → Type 0 → Status → Files → Type 0
IsComplete words old new Calm answer all =
    (text : List ℕ) → HasText words all text → NoDueFails words all old new → Calm →
    (answer ≡ ended.Done) ⊎ (answer ≡ ended.OutOfMemory)

pub complete_of : (known : Option Files) (words old new : List (List ℕ)) (Calm : Type 0) (answer : Status) →
    IfSome known (IsExact words old new Calm answer) → IfSome known (IsComplete words old new Calm answer)
complete_of None words old new Calm answer exact = tt
complete_of (Some all) words old new Calm answer exact =
    λ text has none calm. exact none ended.Done tt (text-cause (command_of words) all old new text has) (λ done. calm)

pub exact_done : (known : Option Files) (words old new : List (List ℕ)) (Calm : Type 0) (text : List ℕ) →
    IfSome known (λ all. HasText words all text) → IfSome known (IsExact words old new Calm ended.Done)
exact_done None words old new Calm text found = tt
exact_done (Some all) words old new Calm text found =
    λ none status is caused calm. inl (agree (command_of words) all old new ended.Done status tt is (text-cause (command_of words) all old new text found) caused)

pub exact_fault : (known : Option Files) (words old new : List (List ℕ)) (Fault : Type 0) (text : List ℕ) → Fault →
    IfSome known (λ all. HasText words all text) → IfSome known (IsExact words old new (¬ Fault) ended.WriteFault)
exact_fault None words old new Fault text fault found = tt
exact_fault (Some all) words old new Fault text fault found =
    λ none status is caused calm.
    absurd (calm (sym (agree (command_of words) all old new ended.Done status tt is (text-cause (command_of words) all old new text found) caused)) fault)

pub exact_refusal : (known : Option Files) (words old new : List (List ℕ)) (Calm : Type 0) (answer : Status) → IsRefusal answer →
    IfSome known (λ all. HasCause words all old new answer) → IfSome known (IsExact words old new Calm answer)
exact_refusal None words old new Calm answer refusal cause = tt
exact_refusal (Some all) words old new Calm answer refusal cause =
    λ none status is caused calm. decided words all old new answer status refusal cause none is caused

-- the name of a topic file is short
pub due_short : (dir topic name : List ℕ) → name ≡ dir ++ (codes "/" ++ (topic ++ codes ".jsonl")) → length dir ≤ 4096 → length topic ≤ 249 → length name ≤ longest_text
unfolding longest_text
due_short dir topic name is short_dir short =
    omega (arith, ap length is, length-append dir (codes "/" ++ (topic ++ codes ".jsonl")), length-append topic (codes ".jsonl"))

-- ---- what is written

-- a piece that was written, as a whole or else in front
pub wrote_either : {A E : Type 0} (result : Result A E) (old new : Option (List ℕ)) (piece : List ℕ) →
    OnOk result (new ≡ followed_by old piece) → OnErr result (WrotePrefix old new piece) → WrotePrefix old new piece
wrote_either (Ok a) old new piece whole front =
    (length piece, omega arith, whole ∙ ap (followed_by old) (sym (take_all (length piece) piece (omega arith))))
wrote_either (Err e) old new piece whole front = front

-- a prefix of what was written is a prefix of the text
pub front_written : (known : Option Files) (words : List (List ℕ)) (old new : Option (List ℕ)) (text piece : List ℕ) → piece ≡ text →
    WrotePrefix old new piece → IfSome known (λ all. HasText words all text) →
    IfSome known (λ all. (text : List ℕ) × HasText words all text × WrotePrefix old new text)
front_written None words old new text piece same front found = tt
front_written (Some all) words old new text piece same front found = (text, found, subst (WrotePrefix old new) same front)
