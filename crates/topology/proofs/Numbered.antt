-- The sub-topologies of a program are numbered from 0, one after another.
use Rattle.std.proofs.Common.{◌≡◌, refl, subst, ℕ, zero, suc, ◌+◌, ◌<◌, List, [], ◌∷◌, ◌++◌, length, get_or, arith}
use Rattle.std.specs.List.{AllPairs}
use Rattle.ksql_program.specs.declared.program.Item.{Item}
use Rattle.topology.specs.declared.stage.CutName.{CutName}
use Rattle.topology.specs.declared.stage.Stage.{Stage}
use Rattle.topology.specs.declared.topology.Sub.{Sub}
use Rattle.topology.specs.Topologies.{cuts_of, stages_at, subs, subs_from, subs_of}

-- sub-topologies have the numbers from this one on
abbrev AreNumberedFrom : ℕ → List Sub → Type 0
AreNumberedFrom number [] = Unit {0}
AreNumberedFrom number (s ∷ ss) = (s.number ≡ number) × AreNumberedFrom (number + 1) ss

numbered-append : (number next : ℕ) (ss others : List Sub) → number + length ss ≡ next →
    AreNumberedFrom number ss → AreNumberedFrom next others → AreNumberedFrom number (ss ++ others)
numbered-append number next [] others at first second =
    let same : next ≡ number = omega (arith, at) in
    subst (λ (n : ℕ). AreNumberedFrom n others) same second
numbered-append number next (s ∷ ss) others at first second = (first.0, numbered-append (number + 1) next ss others (omega (arith, at)) first.1 second)

-- a sub-topology for each stage
pub length-subs_from : (items : List Item) (query first : ℕ) (cuts : List CutName) (number : ℕ) (ss : List Stage) →
    length (subs_from items query first cuts number ss) ≡ length ss
length-subs_from items query first cuts number [] = refl
length-subs_from items query first cuts number (s ∷ ss) = omega (arith, length-subs_from items query first cuts (number + 1) ss)

stages-numbered : (items : List Item) (query first : ℕ) (cuts : List CutName) (number : ℕ) (ss : List Stage) → AreNumberedFrom number (subs_from items query first cuts number ss)
stages-numbered items query first cuts number [] = tt
stages-numbered items query first cuts number (s ∷ ss) = (refl, stages-numbered items query first cuts (number + 1) ss)

items-numbered : (items : List Item) (query first number : ℕ) (is : List Item) → AreNumberedFrom number (subs_of items query first number is)
unfolding subs_of
items-numbered items query first number [] = tt
items-numbered items query first number (i ∷ is) =
    let stages : List Stage = stages_at items i in
    let cuts : List CutName = cuts_of stages in
    let count = length-subs_from items query first cuts number stages in
    numbered-append number (number + length stages) (subs_from items query first cuts number stages)
    (subs_of items (query + 1) (first + length cuts) (number + length stages) is) (omega (arith, count))
    (stages-numbered items query first cuts number stages)
    (items-numbered items (query + 1) (first + length cuts) (number + length stages) is)

numbered-at : (number : ℕ) (ss : List Sub) → AreNumberedFrom number ss → (i : ℕ) (d : Sub) → i < length ss → (get_or ss i d).number ≡ number + i
numbered-at number [] numbered i d inside = absurd (omega arith)
numbered-at number (s ∷ ss) numbered zero d inside = omega (arith, numbered.0)
numbered-at number (s ∷ ss) numbered (suc i) d inside = omega (arith, numbered-at (number + 1) ss numbered.1 i d (omega arith))

-- the number of a sub-topology is its index
pub subs-numbered : (items : List Item) (i : ℕ) (d : Sub) → i < length (subs items) → (get_or (subs items) i d).number ≡ i
subs-numbered items i d inside = omega (arith, numbered-at 0 (subs items) (items-numbered items 0 (length items) 0 items) i d inside)

pub subs-rise : (items : List Item) → AllPairs (λ (a b : Sub). a.number < b.number) (subs items)
subs-rise items = λ i j d low inside. omega (arith, low, subs-numbered items i d (omega (arith, low, inside)), subs-numbered items j d inside)
