-- What a failed reading says.
use Rattle.std.proofs.Common.{◌≡◌, Option, None, Some, Result, Ok, Err, IfOk}
use Rattle.ksql_grammar.specs.declared.fault.ReadError.{ReadError}
use Rattle.ksql_grammar.specs.declared.fault.ReadError.TheVariants.{Unspelled, OutOfMemory}
use Rattle.ksql_grammar.specs.Reading.{Gives}
use Rattle.ksql_grammar.proofs.Steps.{If, if_some}

-- where nothing is read because of a part that isn't
pub gives_err : {X Y Z W : Type 0} (seen : X → Y) (view : Z → W) (e : ReadError) (read : Option Y) (whole : Option W) → Gives seen (Err e) read → (read ≡ None → whole ≡ None) → Gives view (Err e) whole
gives_err seen view Unspelled read whole h k = k h
gives_err seen view OutOfMemory read whole h k = tt

-- a property of everything that is read holds of the result
pub if_gives : {X Y : Type 0} (result : Result X ReadError) (seen : X → Y) (read : Option Y) (P : Y → Type 0) → Gives seen result read → If read P → IfOk result (λ x. P (seen x))
if_gives (Ok x) seen read P h k = if_some read P (seen x) k h
if_gives (Err e) seen read P h k = tt
