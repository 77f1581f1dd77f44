-- A property of the changes of each relation, if each step keeps it: by induction on the items of a sound program.
use Rattle.std.proofs.Common.{◌≡◌, ◌∙◌, sym, subst, refl, ℕ, zero, suc, List, [], ◌∷◌, ◌++◌, length, append_assoc}
use Rattle.std.proofs.lemmas.List.{append-nil}
use Rattle.std.proofs.lemmas.Option.{none-some, same_Some}
use Rattle.std.specs.Prelude.{Some}
use Rattle.std.specs.List.{AllByRecursion, AllZip}
use Rattle.ksql_types.specs.declared.relation.Relation.{Relation}
use Rattle.ksql_place.specs.declared.change.Change.{Change}
use Rattle.ksql_place.specs.declared.change.SourceRecord.{SourceRecord}
use Rattle.ksql_program.specs.Program.{relation_at, relation_of}
use Rattle.ksql_program.specs.Sound.{IsSoundItem, AreSoundItems}
use Rattle.ksql_program.specs.declared.program.Item.{Item}
use Rattle.query_meaning.specs.Meaning.{item_changes, meaning_from}
use Rattle.query_meaning.specs.Queries.{changes_at}

-- what holds of each list, and of none, holds of the list of a number
pub at-each : (P : List Change → Type 0) → P [] → (lists : List (List Change)) → AllByRecursion P lists → (number : ℕ) → P (changes_at lists number)
at-each P none [] h number = none
at-each P none (changes ∷ lists) h zero = h.0
at-each P none (changes ∷ lists) h (suc number) = at-each P none lists h.1 number

module _ (R : Relation → List Change → Type 0) where
  -- it holds of each relation and its list
  abbrev pub Each : List Item → List (List Change) → Type 0
  Each items lists = AllZip (λ i changes. R (relation_of i) changes) items lists

  each-push : (items : List Item) (lists : List (List Change)) → Each items lists → (i : Item) (changes : List Change) → R (relation_of i) changes → Each (items ++ i ∷ []) (lists ++ changes ∷ [])
  each-push [] [] each i changes h = (h, tt)
  each-push [] (l ∷ lists) each i changes h = absurd each
  each-push (j ∷ items) [] each i changes h = absurd each
  each-push (j ∷ items) (l ∷ lists) each i changes h = (each.0, each-push items lists each.1 i changes h)

  pub each-at : (items : List Item) (lists : List (List Change)) → Each items lists → (number : ℕ) (r : Relation) → relation_at items number ≡ Some r → R r (changes_at lists number)
  each-at [] [] each number r is = absurd (none-some r is)
  each-at [] (changes ∷ lists) each number r is = absurd each
  each-at (i ∷ is) [] each number r at = absurd each
  each-at (i ∷ is) (changes ∷ lists) each zero r at = subst (λ x. R x changes) (same_Some (relation_of i) r at) each.0
  each-at (i ∷ is) (changes ∷ lists) each (suc number) r at = each-at is lists each.1 number r at

-- the relations of some items are among those of more
abbrev pub AreAmong : List Item → List Item → Type 0
AreAmong before items = (number : ℕ) (r : Relation) → relation_at before number ≡ Some r → relation_at items number ≡ Some r

among-more : (before after : List Item) → AreAmong before (before ++ after)
among-more [] after number r is = absurd (none-some r is)
among-more (i ∷ is) after zero r at = at
among-more (i ∷ is) after (suc number) r at = among-more is after number r at

at-end : (before after : List Item) (i : Item) → relation_at (before ++ i ∷ after) (length before) ≡ Some (relation_of i)
at-end [] after i = refl
at-end (j ∷ before) after i = at-end before after i

module _ (R : Relation → List Change → Type 0) (items : List Item) (order : List SourceRecord)
    (step : (before : List Item) (lists : List (List Change)) → AreAmong before items → Each R before lists → (i : Item) →
    relation_at items (length before) ≡ Some (relation_of i) → IsSoundItem before i → R (relation_of i) (item_changes items order lists i)) where
  pub meant-each : (before : List Item) (lists : List (List Change)) → Each R before lists → (after : List Item) → AreSoundItems before after → items ≡ before ++ after →
      Each R items (meaning_from items order lists after)
  unfolding meaning_from
  meant-each before lists each [] sound is = subst (λ x. Each R x lists) (sym (is ∙ append-nil before)) each
  meant-each before lists each (i ∷ after) sound is =
      meant-each (before ++ i ∷ []) (lists ++ item_changes items order lists i ∷ [])
      (each-push R before lists each i (item_changes items order lists i)
      (step before lists (subst (AreAmong before) (sym is) (among-more before (i ∷ after))) each i (subst (λ x. relation_at x (length before) ≡ Some (relation_of i)) (sym is) (at-end before after i)) sound.0))
      after sound.1 (is ∙ sym (append_assoc before (i ∷ []) after))
