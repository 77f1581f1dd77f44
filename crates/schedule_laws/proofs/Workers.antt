-- The steps of a schedule that is read without fault are those of its lines, whatever workers are live.
use Rattle.std.proofs.Common.{◌≡◌, ◌∙◌, sym, ℕ, List}
use Rattle.std.specs.Prelude.{Ok}
use Rattle.ksql_program.specs.declared.program.Item.{Item}
use Rattle.topology.specs.declared.schedule.Lined.{Lined}
use Rattle.topology.specs.declared.topology.Topology.{Topology}
use Rattle.schedule_text.specs.Schedules.{schedule_of}
use Rattle.schedule_text.proofs.Taken.{schedule-accepted}

-- one text has one list of steps, for any workers for which it is lawful
pub one-list : (items : List Item) (t : Topology) (workers others : ℕ) (text : List ℕ) (steps moves : List Lined) → schedule_of items t workers text ≡ Ok steps →
    schedule_of items t others text ≡ Ok moves → steps ≡ moves
one-list items t workers others text steps moves first second = (schedule-accepted items t workers text steps first).1 ∙ sym (schedule-accepted items t others text moves second).1
