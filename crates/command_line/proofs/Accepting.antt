-- What a command makes of words that it accepts, and of words that it doesn't.
use Rattle.std.proofs.Common.{◌≡◌, ◌∙◌, true, false, List, [], ◌∷◌, None, Some, Result, Ok, Err, cond, refl, sym, ap, ⊎_elim}
use Rattle.std.specs.Result.{IsErrAnd}
use Rattle.clap.specs.Words.{App, HasKind, Kinds, Row, Text, fault_of, kind_of, matches_of}
use Rattle.clap.specs.declared.error.Error.{Error}
use Rattle.clap.specs.declared.error.kind.ErrorKind.TheVariants.{OutOfMemory}
use Rattle.command_line.specs.declared.asked.Command.{Command}
use Rattle.command_line.specs.declared.fault.WordsFault.{WordsFault}
use Rattle.command_line.specs.Words.{accepted, is_faultless}

-- an error other than out of memory comes from a fault
pub has_fault : (kinds : Kinds) (e : Error) → HasKind kinds e → (kind_of e ≡ OutOfMemory → ⊥) → is_faultless kinds ≡ false
has_fault [] e has other = absurd (⊎_elim other (λ none. none) has)
has_fault (k ∷ kinds) e has other = refl

-- `?` passes a fault up as it is
pub passed_up : {T : Type 0} (r : Result T WordsFault) (e f : WordsFault) → IsErrAnd r (λ y. y ≡ e) → r ≡ Err f → e ≡ f
passed_up (Ok x) e f same is = absurd same
passed_up (Err y) e f same is = cc

-- words with a fault ask for nothing
pub refused : (app given : App) (asks : List Row → Command) (words : List Text) → given ≡ app
    → is_faultless (fault_of given words) ≡ false → accepted app asks words ≡ None
unfolding accepted
refused app given asks words is fault =
    ap (λ b. cond b (Some (asks (matches_of app words))) None) (ap (λ a. is_faultless (fault_of a words)) (sym is) ∙ fault)

-- what holds of a command that is given holds of the command that it is
pub of_given : (app given : App) (words : List Text) (rows : List Row) → given ≡ app → is_faultless (fault_of given words) ≡ true
    → rows ≡ matches_of given words → (is_faultless (fault_of app words) ≡ true) × (matches_of app words ≡ rows)
of_given app given words rows is none same = (
  ap (λ a. is_faultless (fault_of a words)) (sym is) ∙ none,
  sym (same ∙ ap (λ a. matches_of a words) is),
)

-- words without a fault ask for what their matches say
pub taken : (app given : App) (asks : List Row → Command) (words : List Text) (rows : List Row) (command : Command) → given ≡ app
    → is_faultless (fault_of given words) ≡ true → rows ≡ matches_of given words → asks rows ≡ command → accepted app asks words ≡ Some command
unfolding accepted
taken app given asks words rows command is none same says =
    let own = of_given app given words rows is none same in
    ap (λ b. cond b (Some (asks (matches_of app words))) None) own.0 ∙ ap Some (ap asks own.1 ∙ says)
