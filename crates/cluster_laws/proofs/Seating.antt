-- Tasks at their owners, one after another.
use Rattle.std.proofs.Common.{◌≡◌, ◌∙◌, ap, refl, sym, subst, ℕ, ◌+◌, Bool, List, [], ◌∷◌, ◌++◌, length}
use Rattle.std.proofs.lemmas.List.{nil_from_length}
use Rattle.std.specs.Option.{MatchOption, option_flatten}
use Rattle.std.specs.Prelude.{if◌then◌else◌, Option, Some, None, is_some, unwrap_or}
use Rattle.core_state.specs.Routes.{Routes}
use Rattle.core_state.specs.Shelf.{Shelf}
use Rattle.core_state.specs.declared.journal.JournalEntry.{JournalEntry}
use Rattle.topology.specs.declared.topology.Topology.{Topology}
use Rattle.assignor.specs.declared.assignment.Owned.{Owned}
use Rattle.cluster_laws.specs.Moves.{AllLeave, LeavesOrStays, kept_of, note_anew, seat_anew, seat_notes, seated}
use Rattle.cluster_laws.specs.declared.seats.Seat.{Seat}

-- if as many are to stay or leave as there are tasks, and no task remains, nothing remains
pub none-kept : (stays : List Bool) (seats : List Seat) → length seats ≡ 0 → length stays ≡ length seats → kept_of stays seats ≡ []
none-kept stays seats none places =
    ap (λ (xs : List Bool). kept_of xs seats) (nil_from_length stays (places ∙ none)) ∙ ap (λ (ss : List Seat). kept_of [] ss) (nil_from_length seats none)

pub none-leave : (r : Routes) (stays : List Bool) (seats : List Seat) (b : Shelf) → length seats ≡ 0 → length stays ≡ length seats → AllLeave r stays seats b [] b
none-leave r stays seats b none places =
    subst (λ (xs : List Bool). AllLeave r xs seats b [] b) (sym (nil_from_length stays (places ∙ none)))
    (subst (λ (ss : List Seat). AllLeave r [] ss b [] b) (sym (nil_from_length seats none)) (refl, refl))

-- a task leaves or stays, and then the others do
pub one-leaves : (r : Routes) (stays left : List Bool) (seats ss : List Seat) (stay : Bool) (s : Seat) (b mid next : Shelf) (first rest : List JournalEntry) →
    stays ≡ stay ∷ left → seats ≡ s ∷ ss → LeavesOrStays r stay s.task.name b first mid → AllLeave r left ss mid rest next → AllLeave r stays seats b (first ++ rest) next
one-leaves r stays left seats ss stay s b mid next first rest are is does later =
    subst (λ (xs : List Bool). AllLeave r xs seats b (first ++ rest) next) (sym are)
    (subst (λ (ys : List Seat). AllLeave r (stay ∷ left) ys b (first ++ rest) next) (sym is) (mid, first, rest, does, later, refl))

module _ (t : Topology) (b : Shelf) (o : Owned) (os : List Owned) (kept left : List (Option Seat)) (n m : ℕ) (long : length kept ≡ n) (rest : length left ≡ m) where
  -- the task at the next owner is the kept one, or else it is restored
  pub next-seated : (r : Option (Option Seat)) → MatchOption r ((n ≡ 0) × (m ≡ 0)) (λ k. (kept ≡ k ∷ left) × (m + 1 ≡ n)) →
      seated t b (o ∷ os) kept ≡ unwrap_or (option_flatten r) (seat_anew t b o) ∷ seated t b os left
  next-seated None h =
      ap (λ (ks : List (Option Seat)). seated t b (o ∷ os) ks) (nil_from_length kept (long ∙ h.0))
      ∙ ap (λ (ks : List (Option Seat)). seat_anew t b o ∷ seated t b os ks) (sym (nil_from_length left (rest ∙ h.1)))
  next-seated (Some None) h = ap (λ (ks : List (Option Seat)). seated t b (o ∷ os) ks) h.0
  next-seated (Some (Some s)) h = ap (λ (ks : List (Option Seat)). seated t b (o ∷ os) ks) h.0

  pub next-noted : (r : Option (Option Seat)) → MatchOption r ((n ≡ 0) × (m ≡ 0)) (λ k. (kept ≡ k ∷ left) × (m + 1 ≡ n)) →
      seat_notes b (o ∷ os) kept ≡ (if is_some (option_flatten r) then [] else note_anew b o ∷ []) ++ seat_notes b os left
  next-noted None h =
      ap (λ (ks : List (Option Seat)). seat_notes b (o ∷ os) ks) (nil_from_length kept (long ∙ h.0))
      ∙ ap (λ (ks : List (Option Seat)). note_anew b o ∷ seat_notes b os ks) (sym (nil_from_length left (rest ∙ h.1)))
  next-noted (Some None) h = ap (λ (ks : List (Option Seat)). seat_notes b (o ∷ os) ks) h.0
  next-noted (Some (Some s)) h = ap (λ (ks : List (Option Seat)). seat_notes b (o ∷ os) ks) h.0
