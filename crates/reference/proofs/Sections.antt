-- What is shown of the relations of a program, one by one, and the lists of their changes.
use Rattle.std.proofs.Common.{◌≡◌, ◌∙◌, ℕ, ◌+◌, ◌<◌, zero, suc, List, [], ◌∷◌, ◌++◌, length, get_or, take, refl, ap, sym, add-one, arith, Bool, true, false, cond, map}
use Rattle.std.specs.Prelude.{count_by, filter, nat_le, ◌&&◌, Option, None, Some, option_map, unwrap_or, slice_get}
use Rattle.std.proofs.lemmas.List.Sums.{length-filter}
use Rattle.std.proofs.lemmas.Option.{slice_get-map}
use Rattle.ksql_types.specs.declared.relation.Relation.{Relation}
use Rattle.ksql_place.specs.Said.{is_skipped}
use Rattle.ksql_place.specs.declared.change.Change.{Change}
use Rattle.ksql_place.specs.declared.change.SourceRecord.{SourceRecord}
use Rattle.ksql_program.specs.declared.program.Item.{Item}
use Rattle.ksql_program.specs.Program.{relation_of}
use Rattle.query_meaning.specs.Meaning.{up_to}
use Rattle.query_meaning.specs.Queries.{changes_at}
use Rattle.reference.specs.Plain.{changes_of}
use Rattle.reference.specs.declared.meaning.Listed.{Listed}
use Rattle.reference.specs.Sections.{is_skipped_up_to, closed_at, sections}
use Rattle.run_text.specs.Report.{meant, section_of, skipped_of, Section}

-- what is shown of one relation
abbrev pub one_section : List ℕ → List SourceRecord → List (List Change) → Relation → Section
one_section closed order lists r =
    section_of (closed_at closed r.number) r (up_to (closed_at closed r.number) order) (meant r (changes_at lists r.number))

-- the section of one more item
sections-suc : (closed : List ℕ) (items : List Item) (order : List SourceRecord) (lists : List (List Change)) (i : ℕ) (d : Item)
    → i < length items
    → sections closed (take (suc i) items) order lists
    ≡ sections closed (take i items) order lists ++ one_section closed order lists (relation_of (get_or items i d)) ∷ []
unfolding sections
sections-suc closed [] order lists i d p = absurd (omega arith)
sections-suc closed (item ∷ items) order lists zero d p = refl
sections-suc closed (item ∷ items) order lists (suc i) d p =
    ap (λ more. one_section closed order lists (relation_of item) ∷ more) (sections-suc closed items order lists i d (omega arith))

pub sections-more : (closed : List ℕ) (items : List Item) (order : List SourceRecord) (lists : List (List Change)) (i : ℕ) (d : Item)
    → i < length items
    → sections closed (take (i + 1) items) order lists
    ≡ sections closed (take i items) order lists ++ one_section closed order lists (relation_of (get_or items i d)) ∷ []
sections-more closed items order lists i d p = rw add-one (sections-suc closed items order lists i d p)

-- two filters are one
filter-both : {A : Type 0} (p q : A → Bool) (xs : List A) → filter p (filter q xs) ≡ filter (λ x. q x && p x) xs
filter-both p q [] = refl
filter-both {A} p q (x ∷ xs) = by (q x) (filter-both p q xs)
  where
    both : A → Bool
    both y = q y && p y

    by : (b : Bool) → filter p (filter q xs) ≡ filter both xs → filter p (cond b (x ∷ filter q xs) (filter q xs)) ≡ cond (b && p x) (x ∷ filter both xs) (filter both xs)
    by true rest = ap (λ (ys : List A). cond (p x) (x ∷ ys) ys) rest
    by false rest = rest

-- the records up to a feed that are skipped are counted among all
pub skipped-cut : (relation : Relation) (feed : ℕ) (order : List SourceRecord) →
    count_by (is_skipped_up_to relation feed) order ≡ skipped_of relation (up_to feed order)
skipped-cut relation feed order =
    sym (length-filter (is_skipped_up_to relation feed) order)
    ∙ ap length (sym (filter-both (is_skipped relation) (λ r. nat_le r.stamp.feed feed) order))
    ∙ length-filter (is_skipped relation) (up_to feed order)

-- ---- the lists of relations

pub changes_at-some : (lists : List Listed) (number : ℕ) (x : Listed) → slice_get lists number ≡ Some x →
    changes_at (map changes_of lists) number ≡ changes_of x
changes_at-some lists number x is =
    ap (λ (o : Option (List Change)). unwrap_or o []) (slice_get-map changes_of lists number ∙ ap (option_map changes_of) is)

pub changes_at-none : (lists : List Listed) (number : ℕ) → slice_get lists number ≡ None → changes_at (map changes_of lists) number ≡ []
changes_at-none lists number is =
    ap (λ (o : Option (List Change)). unwrap_or o []) (slice_get-map changes_of lists number ∙ ap (option_map changes_of) is)
