-- What a call gave where something stands.
use Rattle.std.proofs.Common.{◌≡◌, List, [], ◌∷◌, Option, Some, None, Result, Ok, Err, sym, ap, ◌∙◌}
use Rattle.std.specs.Borrow.{Bor}
use Rattle.std.proofs.lemmas.Option.{none-some, some_pair_parts}
use Rattle.ksql_grammar.specs.declared.symbol.Symbol.{Symbol}
use Rattle.ksql_grammar.specs.declared.fault.ReadError.{ReadError}
use Rattle.ksql_grammar.specs.declared.fault.ReadError.TheVariants.{Unspelled, OutOfMemory}
use Rattle.ksql_grammar.specs.Reading.{Gives}

-- after the first symbol
pub after_one : List Symbol → List Symbol
after_one [] = []
after_one (s ∷ ts) = ts

pub same_tail : (s t : Symbol) (ts us : List Symbol) → s ∷ ts ≡ t ∷ us → ts ≡ us
unfolding after_one
same_tail s t ts us e = ap after_one e

-- a call failed out of memory, where its reader reads something
pub failed_at : {A B X Y : Type 0} (seen : X → A) (other : Y → B) (e : ReadError) (read : Option A) (a : A) (b : B)
    → read ≡ Some a → Gives seen (Err e) read → Gives other (Err e) (Some b)
failed_at seen other Unspelled read a b h k = absurd (none-some a (sym k ∙ h))
failed_at seen other OutOfMemory read a b h k = tt

-- a call that returned gave what its reader reads
pub same_at : {A : Type 0} (read : Option (A × List Symbol)) (x : A × Bor (List Symbol)) (a : A) (rest : List Symbol)
    → read ≡ Some (a, rest) → read ≡ Some (x.0, x.1.now) → (a ≡ x.0) × (rest ≡ x.1.now)
same_at read x a rest h k = some_pair_parts a x.0 rest x.1.now (sym h ∙ k)
