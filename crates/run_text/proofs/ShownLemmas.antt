-- What partitions show, partition by partition, and the order of their changes.
use Rattle.std.proofs.Common.{subst, Bool, true, false, cond, ◌≡◌, ◌∙◌, ap, refl, sym, ℕ, zero, suc, ◌+◌, add-one, add-zero, List, [], ◌∷◌, ◌++◌, ◌<◌, arith, get_or, length, map}
use Rattle.std.specs.Prelude.{count_by, filter, flat_map, is_some, option_map, slice_get, unwrap_or, ◌&&◌, ◌==◌, All, Option, None, Some}
use Rattle.std.specs.Option.{IsSomeAnd}
use Rattle.std.proofs.lemmas.Option.{slice_get_within}
use Rattle.std.specs.List.{range_with_len}
use Rattle.std.proofs.lemmas.List.{append-nil, get_or-map, length-map}
use Rattle.std.proofs.lemmas.List.Concat.{flat_map-append}
use Rattle.std.proofs.lemmas.List.Folds.{flat_map-map}
use Rattle.std.proofs.lemmas.List.Recursion.{is_count_by}
use Rattle.std.proofs.lemmas.List.Sorted.{length_permutation}
use Rattle.std.proofs.lemmas.List.Sums.{length-filter}
use Rattle.std.specs.declared.cmp.Ordering.{Ordering}
use Rattle.std.specs.Cmp.{IsTotalOrder, nat_cmp_total, on_total, then_total}
use Rattle.ksql_types.specs.declared.relation.Relation.{Relation}
use Rattle.ksql_types.specs.declared.topic.TopicSpec.{TopicSpec}
use Rattle.ksql_types.specs.declared.relation.Kind.TheVariants.{Stream}
use Rattle.ksql_types.specs.declared.value.Value.{Value}
use Rattle.ksql_place.specs.Ascending.{ascending}
use Rattle.ksql_place.specs.Said.{said_by, saying}
use Rattle.ksql_place.specs.declared.change.Change.{Change}
use Rattle.ksql_place.specs.declared.change.Decoded.{Decoded}
use Rattle.ksql_place.specs.declared.change.Decoded.TheVariants.{Good, Tombstone, Skipped}
use Rattle.ksql_place.specs.declared.change.SourceRecord.{SourceRecord}
use Rattle.ksql_place.specs.declared.stamp.Stamp.{Stamp}
use Rattle.ksql_place.proofs.Ascending.{IsPermutation-ascending, filter-ascending}
use Rattle.ksql_place.proofs.Orders.{place_total}
use Rattle.ksql_program.specs.Program.{relation_of, relations}
use Rattle.ksql_program.specs.declared.program.Item.{Item}
use Rattle.query_meaning.specs.Parts.{rows_said}
use Rattle.topic_log.specs.Entries.{entries_of}
use Rattle.topic_log.specs.Shelves.{topics_of}
use Rattle.topic_log.specs.declared.shelves.Shelves.{Shelves}
use Rattle.run_text.specs.Standings.{brings_row}
use Rattle.run_text.specs.Shown.{changes_in, records_in, standing_cmp, HasTopicOf, Standing}

-- the records, or the changes, of a partition are those among its entries
pub records_in-entries : (rs : List SourceRecord) (cs : List Change) → records_in (entries_of rs cs) ≡ rs
records_in-entries [] [] = refl
records_in-entries [] (c ∷ cs) = records_in-entries [] cs
records_in-entries (r ∷ rs) cs = ap (λ (more : List SourceRecord). r ∷ more) (records_in-entries rs cs)

pub changes_in-entries : (rs : List SourceRecord) (cs : List Change) → changes_in (entries_of rs cs) ≡ cs
changes_in-entries [] [] = refl
changes_in-entries [] (c ∷ cs) = ap (λ (more : List Change). c ∷ more) (changes_in-entries [] cs)
changes_in-entries (r ∷ rs) cs = changes_in-entries rs cs

pub standing_total : IsTotalOrder standing_cmp
standing_total = then_total (on_total (λ (s : Standing). s.change.place) place_total) (on_total (λ (s : Standing). s.part) nat_cmp_total)

range-more : (a n : ℕ) → range_with_len a (suc n) ≡ range_with_len a n ++ (a + n) ∷ []
range-more a zero = ap (λ (k : ℕ). k ∷ []) (sym (add-zero a))
range-more a (suc n) =
    let last : (a + 1) + n ≡ a + suc n = omega arith in
    ap (λ (ks : List ℕ). a ∷ ks) (range-more (a + 1) n ∙ ap (λ (k : ℕ). range_with_len (a + 1) n ++ k ∷ []) last)

-- what one partition more has
pub parts-more : {A : Type 0} (f : ℕ → List A) (n : ℕ) → flat_map f (range_with_len 0 (n + 1)) ≡ flat_map f (range_with_len 0 n) ++ f n
parts-more {A} f n =
    let last : 0 + n ≡ n = omega arith in
    ap (λ (k : ℕ). flat_map f (range_with_len 0 k)) (add-one n)
    ∙ ap (flat_map f) (range-more 0 n)
    ∙ flat_map-append f (range_with_len 0 n) ((0 + n) ∷ [])
    ∙ ap (λ (xs : List A). flat_map f (range_with_len 0 n) ++ xs) (append-nil (f (0 + n)) ∙ ap f last)

-- ---- the topics of a broker

spec-at : (o : Option TopicSpec) (n : ℕ) → IsSomeAnd o (λ t. t.partitions ≡ n) → unwrap_or (option_map (λ (t : TopicSpec). t.partitions) o) 1 ≡ n
spec-at None n has = absurd has
spec-at (Some t) n has = has

-- a relation's topic is one of the broker's, with the same number of partitions
pub topic-inside : (s : Shelves) (r : Relation) → HasTopicOf s r → r.number < length (topics_of s)
topic-inside s r has = by (slice_get (topics_of s) r.number) refl has
  where
    by : (o : Option TopicSpec) → slice_get (topics_of s) r.number ≡ o → IsSomeAnd o (λ t. t.partitions ≡ r.partitions) → r.number < length (topics_of s)
    by None is has = absurd has
    by (Some t) is has = slice_get_within (topics_of s) r.number t is

-- the topic of one of a program's relations
pub topic-at : (s : Shelves) (items : List Item) (i : ℕ) (item : Item) → All (HasTopicOf s) (relations items) → i < length items → item ≡ get_or items i item →
    HasTopicOf s (relation_of item)
topic-at s items i item all inside is =
    let relation = get_or-map relation_of items i item (relation_of item) inside ∙ ap relation_of (sym is) in
    subst (HasTopicOf s) relation (all i (relation_of item) (simp length-map inside))

-- ---- lists that are alike under two functions

pub alike-long : {A B C : Type 0} (f : A → C) (g : B → C) (xs : List A) (ys : List B) → map f xs ≡ map g ys → length xs ≡ length ys
alike-long f g xs ys same = sym (length-map xs f) ∙ ap length same ∙ length-map ys g

-- at each place
pub alike-at : {A B C : Type 0} (f : A → C) (g : B → C) (xs : List A) (ys : List B) (i : ℕ) (x : A) (y : B) → i < length xs → i < length ys →
    x ≡ get_or xs i x → y ≡ get_or ys i y → map f xs ≡ map g ys → f x ≡ g y
alike-at f g xs ys i x y inside within at is same =
    ap f at ∙ sym (get_or-map f xs i x (f x) inside) ∙ ap (λ cs. get_or cs i (f x)) same ∙ get_or-map g ys i y (f x) within ∙ ap g (sym is)

-- and joined
pub alike-joined : {A B C : Type 0} (f : A → List C) (g : B → List C) (xs : List A) (ys : List B) → map f xs ≡ map g ys → flat_map f xs ≡ flat_map g ys
alike-joined f g xs ys same = sym (flat_map-map (λ cs. cs) f xs) ∙ ap (flat_map (λ cs. cs)) same ∙ flat_map-map (λ cs. cs) g ys

-- ---- how many records there are of a kind

-- the same number in any order
pub count-ascending : {A : Type 0} {cmp : A → A → Ordering} (total : IsTotalOrder cmp) (p : A → Bool) (xs : List A) → count_by p (ascending cmp xs) ≡ count_by p xs
count-ascending {cmp = cmp} total p xs =
    sym (length-filter p (ascending cmp xs)) ∙ ap length (filter-ascending total p xs)
    ∙ length_permutation (filter p xs) (ascending cmp (filter p xs)) (IsPermutation-ascending total (filter p xs))
    ∙ length-filter p xs

-- as many records bring a row to a stream as it has rows
pub rows-counted : (number : ℕ) (order : List SourceRecord) → length (rows_said number order) ≡ count_by (brings_row number) order
rows-counted number = is_count_by (λ order. length (rows_said number order)) (brings_row number) refl (λ r rest. one r.stamp r.time r.key r.value rest (r.stamp.topic == number))
  where
    of_topic : List SourceRecord → List SourceRecord
    of_topic rs = filter (λ (r : SourceRecord). r.stamp.topic == number) rs

    one : (stamp : Stamp) (time : ℕ) (key : List Value) (value : Decoded) (rest : List SourceRecord) (here : Bool) →
        let r : SourceRecord = record { stamp = stamp; time = time; key = key; value = value } in
        length (flat_map (saying Stream) (cond here (r ∷ of_topic rest) (of_topic rest)))
        ≡ cond (here && is_some (said_by Stream key value)) (1 + length (rows_said number rest)) (length (rows_said number rest))
    one stamp time key (Good row) rest true = omega arith
    one stamp time key Tombstone rest true = refl
    one stamp time key Skipped rest true = refl
    one stamp time key value rest false = refl
