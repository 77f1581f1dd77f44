-- The entries of records that were fed, and then those of changes that were sent, by these two lists.
use Rattle.std.proofs.Common.{◌≡◌, ◌∙◌, ap, ap₂, sym, subst, refl, ℕ, List, [], ◌∷◌, ◌++◌, ◌<◌, Bool, true, false, cond, length, map, arith}
use Rattle.std.specs.Prelude.{filter}
use Rattle.std.specs.List.Sorted.{IsNonDecreasingBy}
use Rattle.std.proofs.Math.Seq.{drop-append_seam, take-append_seam}
use Rattle.std.proofs.lemmas.List.{get_or-map, length-map}
use Rattle.std.proofs.lemmas.List.Elements.{filter-append}
use Rattle.std.proofs.lemmas.List.Sorted.{IsNonDecreasingBy-drop, IsNonDecreasingBy-take}
use Rattle.ksql_place.specs.declared.change.Change.{Change}
use Rattle.ksql_place.specs.declared.change.SourceRecord.{SourceRecord}
use Rattle.core_state.specs.State.{feed_of}
use Rattle.core_state.specs.Wired.{between, is_between, log_feed}
use Rattle.core_state.specs.declared.log.LogEntry.{LogEntry}
use Rattle.core_state.specs.declared.log.LogEntry.TheVariants.{Fed, Said}
use Rattle.topic_log.specs.Entries.{entries_of}
use Rattle.topic_log.specs.Order.{IsInPlaceOrder}
use Rattle.task_core.proofs.Cuts.{IsNonDecreasing-feeds}

-- ---- the feeds of a list

module _ {A B : Type 0} (f : A → B) where
  filter-map : (p : B → Bool) (xs : List A) → filter p (map f xs) ≡ map f (filter (λ x. p (f x)) xs)
  filter-map p [] = refl
  filter-map p (x ∷ xs) =
      elim (p (f x)) as (λ k. cond k (f x ∷ filter p (map f xs)) (filter p (map f xs)) ≡ map f (cond k (x ∷ filter (λ y. p (f y)) xs) (filter (λ y. p (f y)) xs)))
      [ true ↦ ap (λ (ys : List B). f x ∷ ys) (filter-map p xs) | false ↦ filter-map p xs ]

  IsNonDecreasing-mapped : (feed : B → ℕ) (xs : List A) → IsNonDecreasingBy feed (map f xs) → IsNonDecreasingBy (λ x. feed (f x)) xs
  IsNonDecreasing-mapped feed xs up i j d le below =
      let within : i < length xs = omega arith in
      let first = ap feed (get_or-map f xs i d (f d) within) in
      let second = ap feed (get_or-map f xs j d (f d) below) in
      let low = up i j (f d) le (simp length-map below) in
      omega (arith, first, second, low)

-- ---- the feeds of both

pub IsNonDecreasing-records : (rs : List SourceRecord) (cs : List Change) → IsInPlaceOrder (entries_of rs cs) → IsNonDecreasingBy (λ (r : SourceRecord). r.stamp.feed) rs
IsNonDecreasing-records rs cs up =
    IsNonDecreasing-mapped Fed log_feed rs
    (subst (IsNonDecreasingBy log_feed) (take-append_seam (map Fed rs) (map Said cs))
    (IsNonDecreasingBy-take log_feed (length (map Fed rs)) (entries_of rs cs) (IsNonDecreasing-feeds (entries_of rs cs) up)))

pub IsNonDecreasing-changes : (rs : List SourceRecord) (cs : List Change) → IsInPlaceOrder (entries_of rs cs) → IsNonDecreasingBy feed_of cs
IsNonDecreasing-changes rs cs up =
    IsNonDecreasing-mapped Said log_feed cs
    (subst (IsNonDecreasingBy log_feed) (drop-append_seam (map Fed rs) (map Said cs))
    (IsNonDecreasingBy-drop log_feed (length (map Fed rs)) (entries_of rs cs) (IsNonDecreasing-feeds (entries_of rs cs) up)))

-- those of some feeds are those of both lists
pub between-both : (a b : ℕ) (rs : List SourceRecord) (cs : List Change) →
    entries_of (between (λ (r : SourceRecord). r.stamp.feed) a b rs) (between feed_of a b cs) ≡ between log_feed a b (entries_of rs cs)
between-both a b rs cs =
    sym (filter-append (is_between log_feed a b) (map Fed rs) (map Said cs)
    ∙ ap₂ (λ (xs ys : List LogEntry). xs ++ ys) (filter-map Fed (is_between log_feed a b) rs) (filter-map Said (is_between log_feed a b) cs))
