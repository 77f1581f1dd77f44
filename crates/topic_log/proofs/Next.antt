-- The scan over the waiting lists finds the writer of the next change.
use Rattle.std.proofs.Common.{◌≡◌, ◌∙◌, ap, sym, refl, subst, ℕ, zero, suc, List, [], ◌∷◌, true, false, length, map, get_or, set, Option, Some, None, IfSome}
use Rattle.std.specs.List.{AllByRecursion}
use Rattle.std.specs.Ordering.{is_gt}
use Rattle.ksql_place.specs.Ascending.{ascending, Rises}
use Rattle.ksql_place.specs.Routing.{change_cmp}
use Rattle.ksql_place.specs.declared.change.Change.{Change}
use Rattle.ksql_place.proofs.Ascending.{Ascends}
use Rattle.core_state.specs.Routes.{merged}
use Rattle.core_state.specs.State.{upto}
use Rattle.topic_log.specs.Commits.{IsNext, first_if, is_due}
use Rattle.topic_log.proofs.Choice.{GoesFirst, IsBest, change_total, due_downward, dues}
use Rattle.topic_log.proofs.Due.{AllAfter-due, Cut, EachAscends, EachAscends-at, NoneBefore-due, ascending-cut, first_due, nothing_passes, passing, passing-cut}
use Rattle.topic_log.proofs.InOrder.{Ascends-from_rises}

dues-at_list : (c : ℕ) (ls : List (List Change)) (j : ℕ) → get_or (dues c ls) j None ≡ first_if (is_due c) (get_or ls j [])
dues-at_list c [] j = refl
dues-at_list c (l ∷ ls) zero = refl
dues-at_list c (l ∷ ls) (suc j) = dues-at_list c ls j

-- taking the first change that goes first
merged_step : (c : ℕ) (ls : List (List Change)) (i : ℕ) (x y : Change) (rest : List Change) → EachAscends change_cmp ls → GoesFirst (dues c ls) (length ls) i y → get_or ls i [] ≡ x ∷ rest →
    merged (map (upto c) ls) ≡ x ∷ merged (map (upto c) (set ls i rest))
merged_step c ls i x y rest up goes at =
    let due = first_due (is_due c) x y rest (ap (first_if (is_due c)) (sym at) ∙ sym (dues-at_list c ls i) ∙ goes.at) in
    let at-up : Ascends change_cmp (x ∷ rest) = subst (Ascends change_cmp) at (EachAscends-at change_total ls i up) in
    let cut : Cut change_cmp x (passing (is_due c) ls) (passing (is_due c) (set ls i rest)) =
    passing-cut change_total (is_due c) ls i x rest goes.within at due.1 at-up.0
    (λ j low. AllAfter-due change_total (is_due c) (due_downward c) x (get_or ls j []) (EachAscends-at change_total ls j up)
    (subst (λ (o : Option Change). IfSome o (λ z. is_gt (change_cmp z x) ≡ true)) (dues-at_list c ls j)
    (subst (λ (w : Change). IfSome (get_or (dues c ls) j None) (λ z. is_gt (change_cmp z w) ≡ true)) (sym due.0) (goes.before j low))))
    (λ j low below. NoneBefore-due change_total (is_due c) (due_downward c) x (get_or ls j []) (EachAscends-at change_total ls j up)
    (subst (λ (o : Option Change). IfSome o (λ z. is_gt (change_cmp x z) ≡ false)) (dues-at_list c ls j)
    (subst (λ (w : Change). IfSome (get_or (dues c ls) j None) (λ z. is_gt (change_cmp w z) ≡ false)) (sym due.0) (goes.behind j low below)))) in
    ascending-cut change_total x (passing (is_due c) ls) (passing (is_due c) (set ls i rest)) cut

pub EachAscends-from_all : {Q : Type 0} (items : Q → List Change) (ws : List Q) → AllByRecursion (λ w. Rises change_cmp (items w)) ws → EachAscends change_cmp (map items ws)
EachAscends-from_all items [] up = tt
EachAscends-from_all items (w ∷ ws) up = (Ascends-from_rises change_cmp (items w) up.0, EachAscends-from_all items ws up.1)

-- what the scan found at last is the next writer
pub next-found : (c : ℕ) (ls : List (List Change)) (next : Option ℕ) (best : Option Change) → EachAscends change_cmp ls → IsBest (dues c ls) (length ls) next best → IsNext c ls next
next-found c ls None None up best =
    ap (ascending change_cmp) (nothing_passes change_total (is_due c) (due_downward c) ls up (λ j below. sym (dues-at_list c ls j) ∙ best j below))
next-found c ls None (Some y) up best = absurd best
next-found c ls (Some i) None up best = absurd best
next-found c ls (Some i) (Some y) up best = by (get_or ls i []) refl
  where
    by : (l : List Change) → get_or ls i [] ≡ l → IsNext c ls (Some i)
    by [] at =
        let none : None ≡ Some y = ap (first_if (is_due c)) (sym at) ∙ sym (dues-at_list c ls i) ∙ best.at in
        absurd (cc (none))
    by (x ∷ rest) at = (x, rest, at, merged_step c ls i x y rest up best at)
