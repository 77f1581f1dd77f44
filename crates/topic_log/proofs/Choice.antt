-- The writer whose first change goes first.
use Rattle.std.proofs.Common.{◌≡◌, ◌∙◌, ap, sym, refl, subst, ℕ, zero, suc, List, [], ◌∷◌, ◌+◌, ◌<◌, ◌≤◌, true, false, length, map, get_or, arith, Option, Some, None, IfSome, inl, inr, ◌⊎◌}
use Rattle.std.specs.Prelude.{nat_le}
use Rattle.std.specs.declared.cmp.Ordering.{Ordering}
use Rattle.std.specs.declared.cmp.Ordering.TheVariants.{Less, Equal, Greater}
use Rattle.std.specs.Ordering.{is_gt, is_lt, nat_cmp, ordering_then, ordering_reverse}
use Rattle.std.specs.Cmp.{IsTotalOrder}
use Rattle.std.proofs.lemmas.Bool.{false≢true}
use Rattle.std.proofs.lemmas.Bool.Decides.{nat_tests}
use Rattle.std.proofs.lemmas.Cmp.{on_total}
use Rattle.ksql_place.specs.Routing.{change_cmp}
use Rattle.ksql_place.specs.declared.change.Change.{Change}
use Rattle.ksql_place.proofs.Orders.{place_total}
use Rattle.core_state.specs.State.{feed_of}
use Rattle.topic_log.specs.Commits.{first_if, goes_before, is_due}
use Rattle.topic_log.proofs.Due.{after-higher}

-- ---- the scan over the lists

-- the first change of each waiting list, if it is due
abbrev pub dues : ℕ → List (List Change) → List (Option Change)
dues closed ls = map (first_if (is_due closed)) ls

-- the change of the i-th of n lists comes before those of the earlier lists, and not after those of the later ones
pub record GoesFirst (ds : List (Option Change)) (n i : ℕ) (x : Change) : Type 0 where
  pub within : i < n
  pub at : get_or ds i None ≡ Some x
  pub before : (j : ℕ) → j < i → IfSome (get_or ds j None) (λ y. is_gt (change_cmp y x) ≡ true)
  pub behind : (j : ℕ) → i < j → j < n → IfSome (get_or ds j None) (λ y. is_gt (change_cmp x y) ≡ false)

-- among the first n lists, the number of the one whose change comes first, and that change
abbrev pub IsBest : List (Option Change) → ℕ → Option ℕ → Option Change → Type 0
IsBest ds n None None = (j : ℕ) → j < n → get_or ds j None ≡ None
IsBest ds n None (Some x) = ⊥
IsBest ds n (Some i) None = ⊥
IsBest ds n (Some i) (Some x) = GoesFirst ds n i x

-- ---- the order of changes

pub change_total : IsTotalOrder change_cmp
change_total = on_total (λ (x : Change). x.place) place_total

first_low : (o p q : Ordering) → is_gt (ordering_then (ordering_then o p) q) ≡ false → is_gt o ≡ false
first_low Less p q h = refl
first_low Equal p q h = refl
first_low Greater p q h = h

nat_low : (m n : ℕ) → is_gt (nat_cmp m n) ≡ false → m ≤ n
nat_low m n h = grind (arith, nat_tests)

-- a change that is not after another is not of a later feed
pub feed_low : (x y : Change) → is_gt (change_cmp x y) ≡ false → feed_of x ≤ feed_of y
feed_low x y h = nat_low (feed_of x) (feed_of y) (first_low (nat_cmp (feed_of x) (feed_of y)) _ _ h)

pub due_le : (c n : ℕ) → nat_le n c ≡ true → n ≤ c
due_le c n h = grind (arith, nat_tests)

le_due : (c n : ℕ) → n ≤ c → nat_le n c ≡ true
le_due c n h = grind (arith, nat_tests)

-- a change that is not after one that is due is due
pub due_downward : (c : ℕ) (x y : Change) → is_gt (change_cmp x y) ≡ false → is_due c y ≡ true → is_due c x ≡ true
due_downward c x y low due = le_due c (feed_of x) (let up = feed_low x y low in let at = due_le c (feed_of y) due in omega (arith, up, at))

less_turned : (o p : Ordering) → p ≡ ordering_reverse o → is_lt o ≡ true → is_gt p ≡ true
less_turned Less p turned h = ap is_gt turned
less_turned Equal p turned h = absurd (false≢true h)
less_turned Greater p turned h = absurd (false≢true h)

not_less_turned : (o p : Ordering) → p ≡ ordering_reverse o → is_lt o ≡ false → is_gt p ≡ false
not_less_turned Less p turned h = absurd (false≢true (sym h))
not_less_turned Equal p turned h = ap is_gt turned
not_less_turned Greater p turned h = ap is_gt turned

more_turned : (o p : Ordering) → p ≡ ordering_reverse o → is_gt o ≡ true → is_gt p ≡ false
more_turned Less p turned h = absurd (false≢true h)
more_turned Equal p turned h = absurd (false≢true h)
more_turned Greater p turned h = ap is_gt turned

-- ---- one more list

before_or_at : (j n : ℕ) → j < n + 1 → (j < n) ⊎ (j ≡ n)
before_or_at j n h = grind arith

pub IsBest-along : (ds : List (Option Change)) (n : ℕ) (next now : Option ℕ) (best first : Option Change) → now ≡ next → first ≡ best → IsBest ds n next best → IsBest ds n now first
IsBest-along ds n next now best first e f h = subst (λ (k : Option ℕ). IsBest ds n k first) (sym e) (subst (λ (k : Option Change). IsBest ds n next k) (sym f) h)

-- the one that was found stays, where the next doesn't go before it
pub best_stays : (ds : List (Option Change)) (n : ℕ) (next : Option ℕ) (best d : Option Change) → get_or ds n None ≡ d → IsBest ds n next best → goes_before d best ≡ false → IsBest ds (n + 1) next best
best_stays ds n None None None at h late = λ j low. by j (before_or_at j n low)
  where
    by : (j : ℕ) → (j < n) ⊎ (j ≡ n) → get_or ds j None ≡ None
    by j (inl low) = h j low
    by j (inr same) = ap (λ k. get_or ds k None) same ∙ at
best_stays ds n None None (Some d) at h late = absurd (false≢true (sym late))
best_stays ds n None (Some x) d at h late = absurd h
best_stays ds n (Some i) None d at h late = absurd h
best_stays ds n (Some i) (Some x) d at h late = record {
  within = let low = h.within in omega (arith, low);
  at = h.at;
  before = h.before;
  behind = λ j low below. by j low (before_or_at j n below);
}
  where
    last : (e : Option Change) → goes_before e (Some x) ≡ false → IfSome e (λ y. is_gt (change_cmp x y) ≡ false)
    last None late = tt
    last (Some y) late = not_less_turned (change_cmp y x) (change_cmp x y) (change_total.antisymm x y) late

    by : (j : ℕ) → i < j → (j < n) ⊎ (j ≡ n) → IfSome (get_or ds j None) (λ y. is_gt (change_cmp x y) ≡ false)
    by j low (inl below) = h.behind j low below
    by j low (inr same) = subst (λ (o : Option Change). IfSome o (λ y. is_gt (change_cmp x y) ≡ false)) (sym (ap (λ k. get_or ds k None) same ∙ at)) (last d late)

-- the next one takes its place if it comes before it
pub best_changes : (ds : List (Option Change)) (n : ℕ) (next : Option ℕ) (best d : Option Change) → get_or ds n None ≡ d → IsBest ds n next best → goes_before d best ≡ true → IsBest ds (n + 1) (Some n) d
best_changes ds n next best None at h goes = absurd (false≢true goes)
best_changes ds n None (Some x) (Some d) at h goes = absurd h
best_changes ds n (Some i) None (Some d) at h goes = absurd h
best_changes ds n None None (Some d) at h goes = record {
  within = omega arith;
  at = at;
  before = λ j low. subst (λ (o : Option Change). IfSome o (λ y. is_gt (change_cmp y d) ≡ true)) (sym (h j low)) tt;
  behind = λ j low below. absurd (omega (arith, low, below));
}
best_changes ds n (Some i) (Some x) (Some d) at h goes = record {
  within = omega arith;
  at = at;
  before = λ j low. by j low (order j);
  behind = λ j low below. absurd (omega (arith, low, below));
}
  where
    order : (j : ℕ) → (j < i) ⊎ ((j ≡ i) ⊎ (i < j))
    order j = grind arith

    x-after : is_gt (change_cmp x d) ≡ true
    x-after = less_turned (change_cmp d x) (change_cmp x d) (change_total.antisymm x d) goes

    earlier : (o : Option Change) → IfSome o (λ y. is_gt (change_cmp y x) ≡ true) → IfSome o (λ y. is_gt (change_cmp y d) ≡ true)
    earlier None h = tt
    earlier (Some y) gt = after-higher change_total x d y x-after (more_turned (change_cmp y x) (change_cmp x y) (change_total.antisymm x y) gt)

    later : (o : Option Change) → IfSome o (λ y. is_gt (change_cmp x y) ≡ false) → IfSome o (λ y. is_gt (change_cmp y d) ≡ true)
    later None h = tt
    later (Some y) low = after-higher change_total x d y x-after low

    by : (j : ℕ) → j < n → (j < i) ⊎ ((j ≡ i) ⊎ (i < j)) → IfSome (get_or ds j None) (λ y. is_gt (change_cmp y d) ≡ true)
    by j low (inl front) = earlier (get_or ds j None) (h.before j front)
    by j low (inr (inl same)) = subst (λ (o : Option Change). IfSome o (λ y. is_gt (change_cmp y d) ≡ true)) (sym (ap (λ k. get_or ds k None) same ∙ h.at)) x-after
    by j low (inr (inr back)) = later (get_or ds j None) (h.behind j back low)

-- ---- the first change of a list

pub dues-at : {Q : Type 0} (c : ℕ) (items : Q → List Change) (ws : List Q) (i : ℕ) (w : Q) → i < length ws → w ≡ get_or ws i w → get_or (dues c (map items ws)) i None ≡ first_if (is_due c) (items w)
dues-at c items [] i w low is = absurd (omega (arith, low))
dues-at c items (v ∷ ws) zero w low is = ap (λ u. first_if (is_due c) (items u)) (sym is)
dues-at c items (v ∷ ws) (suc i) w low is = dues-at c items ws i w (omega (arith, low)) is
