-- The items before an item, and the lists of their changes.
use Rattle.std.proofs.Common.{◌≡◌, ◌∙◌, ap, ap₂, refl, sym, subst, ℕ, zero, suc, ◌+◌, ◌<◌, List, [], ◌∷◌, ◌++◌, length, length-append, take, append_assoc, arith}
use Rattle.std.proofs.lemmas.List.{append-nil}
use Rattle.std.proofs.lemmas.Option.{none-some, same_Some}
use Rattle.std.specs.Prelude.{Option, Some, option_map, slice_get, unwrap_or}
use Rattle.ksql_types.specs.declared.relation.Relation.{Relation}
use Rattle.ksql_place.specs.declared.change.Change.{Change}
use Rattle.ksql_place.specs.declared.change.SourceRecord.{SourceRecord}
use Rattle.ksql_program.specs.Program.{relation_at, relation_of}
use Rattle.ksql_program.specs.Sound.{AreSoundItems, IsSoundItem}
use Rattle.ksql_program.specs.declared.program.Item.{Item}
use Rattle.query_meaning.specs.Meaning.{item_changes, meaning, meaning_from}
use Rattle.query_meaning.specs.Queries.{changes_at, partitions_at}
use Rattle.meaning_laws.proofs.EachRelation.{AreAmong, Each}

-- ---- items

pub item-at : (items : List Item) (number : ℕ) (r : Relation) → relation_at items number ≡ Some r → (i : Item) × (slice_get items number ≡ Some i) × (relation_of i ≡ r)
item-at [] number r is = absurd (none-some r is)
item-at (i ∷ is) zero r at = (i, refl, same_Some (relation_of i) r at)
item-at (i ∷ is) (suc number) r at = item-at is number r at

pub relation-at : (items : List Item) (number : ℕ) (i : Item) → slice_get items number ≡ Some i → relation_at items number ≡ Some (relation_of i)
relation-at [] number i is = absurd (none-some i is)
relation-at (j ∷ is) zero i at = ap (λ x. Some (relation_of x)) (same_Some j i at)
relation-at (j ∷ is) (suc number) i at = relation-at is number i at

pub within : {A : Type 0} (xs : List A) (number : ℕ) (x : A) → slice_get xs number ≡ Some x → number < length xs
within [] number x is = absurd (none-some x is)
within (y ∷ ys) zero x at = omega arith
within (y ∷ ys) (suc number) x at = let rest : number < length ys = within ys number x at in omega (arith, rest)

pub take-length : {A : Type 0} (xs : List A) (number : ℕ) (x : A) → slice_get xs number ≡ Some x → length (take number xs) ≡ number
take-length [] number x is = absurd (none-some x is)
take-length (y ∷ ys) zero x at = refl
take-length (y ∷ ys) (suc number) x at = ap suc (take-length ys number x at)

-- the items before an item are among all of them
pub before-among : (items : List Item) (number : ℕ) → AreAmong (take number items) items
before-among items zero n r at = absurd (none-some r at)
before-among [] (suc number) n r at = at
before-among (i ∷ is) (suc number) zero r at = at
before-among (i ∷ is) (suc number) (suc n) r at = before-among is number n r at

-- and below it
pub before-below : (items : List Item) (number n : ℕ) (r : Relation) → relation_at (take number items) n ≡ Some r → n < number
before-below items zero n r at = absurd (none-some r at)
before-below [] (suc number) n r at = absurd (none-some r at)
before-below (i ∷ is) (suc number) zero r at = omega arith
before-below (i ∷ is) (suc number) (suc n) r at = let rest : n < number = before-below is number n r at in omega (arith, rest)

-- what a relation is read with is the number of its partitions
pub partitions-at : (items before : List Item) → AreAmong before items → (number : ℕ) (r : Relation) → relation_at before number ≡ Some r →
    partitions_at items number ≡ r.partitions
partitions-at items before among number r at = ap (λ (o : Option Relation). unwrap_or (option_map (λ x. x.partitions) o) 1) (among number r at)

-- each item is sound after those before it
sound-from : (before items : List Item) (number : ℕ) (i : Item) → AreSoundItems before items → slice_get items number ≡ Some i → IsSoundItem (before ++ take number items) i
sound-from before [] number i sound is = absurd (none-some i is)
sound-from before (j ∷ is) zero i sound at =
    subst (λ b. IsSoundItem b i) (sym (append-nil before)) (subst (IsSoundItem before) (same_Some j i at) sound.0)
sound-from before (j ∷ is) (suc number) i sound at =
    subst (λ b. IsSoundItem b i) (append_assoc before (j ∷ []) (take number is)) (sound-from (before ++ j ∷ []) is number i sound.1 at)

pub sound-at : (items : List Item) (number : ℕ) (i : Item) → AreSoundItems [] items → slice_get items number ≡ Some i → IsSoundItem (take number items) i
sound-at items number i sound at = sound-from [] items number i sound at

-- what holds of each relation's list holds of those before a number
pub each-before : (R : Relation → List Change → Type 0) (items : List Item) (lists : List (List Change)) (number : ℕ) → Each R items lists → Each R (take number items) (take number lists)
each-before R items lists zero each = tt
each-before R [] [] (suc number) each = each
each-before R [] (l ∷ ls) (suc number) each = absurd each
each-before R (i ∷ is) [] (suc number) each = absurd each
each-before R (i ∷ is) (l ∷ ls) (suc number) each = (each.0, each-before R is ls number each.1)

-- ---- lists

pub before-same : (lists : List (List Change)) (number n : ℕ) → n < number → changes_at (take number lists) n ≡ changes_at lists n
before-same lists zero n low = absurd (omega (arith, low))
before-same [] (suc number) n low = refl
before-same (l ∷ ls) (suc number) zero low = refl
before-same (l ∷ ls) (suc number) (suc n) low = before-same ls number n (omega (arith, low))

at-end : (lists : List (List Change)) (c : List Change) (more : List (List Change)) → changes_at (lists ++ c ∷ more) (length lists) ≡ c
at-end [] c more = refl
at-end (l ∷ ls) c more = at-end ls c more

take-front : (lists more : List (List Change)) → take (length lists) (lists ++ more) ≡ lists
take-front [] more = refl
take-front (l ∷ ls) more = ap (λ rest. l ∷ rest) (take-front ls more)

module _ (items : List Item) (order : List SourceRecord) where
  -- later items leave the lists of earlier ones
  kept : (lists : List (List Change)) (after : List Item) → (more : List (List Change)) × (meaning_from items order lists after ≡ lists ++ more)
  unfolding meaning_from
  kept lists [] = ([], sym (append-nil lists))
  kept lists (i ∷ is) =
      let c : List Change = item_changes items order lists i in
      let rest = kept (lists ++ c ∷ []) is in
      (c ∷ rest.0, rest.1 ∙ append_assoc lists (c ∷ []) rest.0)

  list-from : (lists : List (List Change)) (after : List Item) (number : ℕ) (i : Item) → slice_get after number ≡ Some i → (at : ℕ) → at ≡ length lists + number →
      changes_at (meaning_from items order lists after) at ≡ item_changes items order (take at (meaning_from items order lists after)) i
  unfolding meaning_from
  list-from lists [] number i is at sum = absurd (none-some i is)
  list-from lists (j ∷ js) zero i is at sum =
      let c : List Change = item_changes items order lists j in
      let rest = kept (lists ++ c ∷ []) js in
      let whole : meaning_from items order (lists ++ c ∷ []) js ≡ lists ++ c ∷ rest.0 = rest.1 ∙ append_assoc lists (c ∷ []) rest.0 in
      let here : at ≡ length lists = omega (arith, sum) in
      ap₂ changes_at whole here ∙ at-end lists c rest.0
      ∙ ap (item_changes items order lists) (same_Some j i is)
      ∙ ap (λ ls. item_changes items order ls i) (sym (ap₂ take here whole ∙ take-front lists (c ∷ rest.0)))
  list-from lists (j ∷ js) (suc number) i is at sum =
      let c : List Change = item_changes items order lists j in
      let longer : length (lists ++ c ∷ []) ≡ length lists + 1 = length-append lists (c ∷ []) in
      list-from (lists ++ c ∷ []) js number i is at (omega (arith, sum, longer))

  -- the list of an item is made of those before it
  pub list-at : (number : ℕ) (i : Item) → slice_get items number ≡ Some i → changes_at (meaning items order) number ≡ item_changes items order (take number (meaning items order)) i
  list-at number i at = list-from [] items number i at number (omega arith)
