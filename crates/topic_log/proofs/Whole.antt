-- A partition where only one writer's changes wait, and all of them are due.
use Rattle.std.proofs.Common.{◌≡◌, ◌∙◌, ◌⊎◌, inl, inr, ap, ap₂, sym, refl, subst, ℕ, zero, suc, List, [], ◌∷◌, ◌++◌, ◌+◌, ◌-◌, ◌<◌, ◌≤◌, true, false, length, map, get_or, set, arith, append-nil}
use Rattle.std.specs.Prelude.{All, flat_map, nat_le, nat_lt}
use Rattle.std.specs.Ordering.{is_gt}
use Rattle.std.proofs.lemmas.Bool.{cases_lt}
use Rattle.std.proofs.lemmas.Bool.Decides.{nat_tests}
use Rattle.std.proofs.lemmas.List.{get_or-map}
use Rattle.std.proofs.lemmas.List.Elements.{All-weaker}
use Rattle.ksql_place.specs.Ascending.{Rises, ascending}
use Rattle.ksql_place.specs.Routing.{change_cmp}
use Rattle.ksql_place.specs.declared.change.Change.{Change}
use Rattle.ksql_place.proofs.Ascending.{ascending-kept}
use Rattle.core_state.specs.Routes.{merged}
use Rattle.core_state.specs.State.{after, feed_of, upto}
use Rattle.core_state.proofs.Lists.{filter-all, filter-none}
use Rattle.topic_log.specs.Commits.{IsAlone}
use Rattle.topic_log.proofs.Choice.{change_total, feed_low}
use Rattle.topic_log.proofs.InOrder.{Ascends-from_rises}

is_due : (c n : ℕ) → n ≤ c → nat_le n c ≡ true
is_due c n h = grind (arith, nat_tests)

not_late : (c n : ℕ) → n ≤ c → nat_lt c n ≡ false
not_late c n h = grind (arith, nat_tests)

upto-all : (c : ℕ) (xs : List Change) → All (λ x. feed_of x ≤ c) xs → upto c xs ≡ xs
upto-all c xs all = filter-all (λ x. nat_le (feed_of x) c) xs (All-weaker (λ x. feed_of x ≤ c) (λ x. nat_le (feed_of x) c ≡ true) (λ x low. is_due c (feed_of x) low) xs all)

after-all : (c : ℕ) (xs : List Change) → All (λ x. feed_of x ≤ c) xs → after c xs ≡ []
after-all c xs all = filter-none (λ x. nat_lt c (feed_of x)) xs (All-weaker (λ x. feed_of x ≤ c) (λ x. nat_lt c (feed_of x) ≡ false) (λ x low. not_late c (feed_of x) low) xs all)

-- ---- lists, all but one of them empty

alone-zero : (l : List Change) (ls : List (List Change)) → IsAlone (l ∷ ls) 0 → (k : ℕ) → get_or ls k [] ≡ []
alone-zero l ls alone k = by (alone (suc k))
  where
    by : (suc k ≡ 0) ⊎ (get_or ls k [] ≡ []) → get_or ls k [] ≡ []
    by (inl e) = absurd (omega (arith, e))
    by (inr none) = none

alone-first : (l : List Change) (ls : List (List Change)) (i : ℕ) → IsAlone (l ∷ ls) (suc i) → l ≡ []
alone-first l ls i alone = by (alone 0)
  where
    by : (0 ≡ suc i) ⊎ (l ≡ []) → l ≡ []
    by (inl e) = absurd (omega (arith, e))
    by (inr none) = none

alone-rest : (l : List Change) (ls : List (List Change)) (i : ℕ) → IsAlone (l ∷ ls) (suc i) → IsAlone ls i
alone-rest l ls i alone k = by (alone (suc k))
  where
    by : (suc k ≡ suc i) ⊎ (get_or ls k [] ≡ []) → (k ≡ i) ⊎ (get_or ls k [] ≡ [])
    by (inl e) = inl (omega (arith, e))
    by (inr none) = inr none

none-upto : (c : ℕ) (ls : List (List Change)) → ((k : ℕ) → get_or ls k [] ≡ []) → flat_map (λ xs. xs) (map (upto c) ls) ≡ []
none-upto c [] none = refl
none-upto c (l ∷ ls) none = ap₂ (λ (us vs : List Change). us ++ vs) (ap (upto c) (none 0)) (none-upto c ls (λ k. none (suc k)))

none-after : (c : ℕ) (ls : List (List Change)) → ((k : ℕ) → get_or ls k [] ≡ []) → map (after c) ls ≡ ls
none-after c [] none = refl
none-after c (l ∷ ls) none = ap₂ (λ (us : List Change) (vs : List (List Change)). us ∷ vs) (ap (after c) (none 0) ∙ sym (none 0)) (none-after c ls (λ k. none (suc k)))

-- what is due of the one that isn't is all that is due
alone-upto : (c : ℕ) (ls : List (List Change)) (i : ℕ) → IsAlone ls i → upto c (get_or ls i []) ≡ get_or ls i [] → flat_map (λ xs. xs) (map (upto c) ls) ≡ get_or ls i []
alone-upto c [] i alone all = refl
alone-upto c (l ∷ ls) zero alone all = ap₂ (λ (us vs : List Change). us ++ vs) all (none-upto c ls (alone-zero l ls alone)) ∙ append-nil l
alone-upto c (l ∷ ls) (suc i) alone all = ap₂ (λ (us vs : List Change). us ++ vs) (ap (upto c) (alone-first l ls i alone)) (alone-upto c ls i (alone-rest l ls i alone) all)

alone-after : (c : ℕ) (ls : List (List Change)) (i : ℕ) → IsAlone ls i → after c (get_or ls i []) ≡ [] → map (after c) ls ≡ set ls i []
alone-after c [] i alone none = refl
alone-after c (l ∷ ls) zero alone none = ap₂ (λ (us : List Change) (vs : List (List Change)). us ∷ vs) none (none-after c ls (alone-zero l ls alone))
alone-after c (l ∷ ls) (suc i) alone none =
    ap₂ (λ (us : List Change) (vs : List (List Change)). us ∷ vs) (ap (after c) (alone-first l ls i alone) ∙ sym (alone-first l ls i alone)) (alone-after c ls i (alone-rest l ls i alone) none)

-- ---- a partition where they wait

module _ (c : ℕ) (ls : List (List Change)) (i : ℕ) (xs : List Change) (at : xs ≡ get_or ls i []) (alone : IsAlone ls i) (due : All (λ x. feed_of x ≤ c) xs) (rises : Rises change_cmp xs) where
  pub whole-shown : merged (map (upto c) ls) ≡ xs
  whole-shown =
      ap (λ (us : List Change). ascending change_cmp us) (alone-upto c ls i alone (ap (upto c) (sym at) ∙ upto-all c xs due ∙ at) ∙ sym at)
      ∙ ascending-kept change_total xs (Ascends-from_rises change_cmp xs rises)

  pub whole-left : map (after c) ls ≡ set ls i []
  whole-left = alone-after c ls i alone (ap (after c) (sym at) ∙ after-all c xs due)

-- ---- the last of changes that rise

within-same : {A : Type 0} (xs : List A) (k : ℕ) (d e : A) → k < length xs → get_or xs k d ≡ get_or xs k e
within-same [] k d e below = absurd (omega (arith, below))
within-same (x ∷ xs) zero d e below = refl
within-same (x ∷ xs) (suc k) d e below = within-same xs k d e (omega (arith, below))

pub due-all : (c : ℕ) (xs : List Change) (last : Change) → Rises change_cmp xs → last ≡ get_or xs (length xs - 1) last → feed_of last ≤ c → All (λ x. feed_of x ≤ c) xs
due-all c xs last rises is low k d below = by (cases_lt k (length xs - 1))
  where
    end : Change
    end = get_or xs (length xs - 1) d

    end-is : end ≡ last
    end-is = within-same xs (length xs - 1) d last (omega (arith, below)) ∙ sym is

    by : (k < length xs - 1) ⊎ (length xs - 1 ≤ k) → feed_of (get_or xs k d) ≤ c
    by (inl before) =
        let up = feed_low (get_or xs k d) end (ap is_gt (rises k (length xs - 1) d before (omega (arith, below)))) in
        let same : feed_of end ≡ feed_of last = ap feed_of end-is in
        omega (arith, up, same, low)
    by (inr past) =
        let same : feed_of (get_or xs k d) ≡ feed_of last = ap (λ (n : ℕ). feed_of (get_or xs n d)) (omega (arith, past, below)) ∙ ap feed_of end-is in
        omega (arith, same, low)

-- one more list is looked at
pub alone-next : {Q : Type 0} (items : Q → List Change) (ws : List Q) (i n : ℕ) (w : Q) → n < length ws → w ≡ get_or ws n w → (n ≡ i) ⊎ (items w ≡ []) →
    ((k : ℕ) → k < n → (k ≡ i) ⊎ (get_or (map items ws) k [] ≡ [])) → (k : ℕ) → k < n + 1 → (k ≡ i) ⊎ (get_or (map items ws) k [] ≡ [])
alone-next items ws i n w within at here so_far k low = by (cases_lt k n)
  where
    by : (k < n) ⊎ (n ≤ k) → (k ≡ i) ⊎ (get_or (map items ws) k [] ≡ [])
    by (inl before) = so_far k before
    by (inr past) =
        let is : n ≡ k = omega (arith, past, low) in
        subst (λ (m : ℕ). (m ≡ i) ⊎ (get_or (map items ws) m [] ≡ [])) is (now here)
      where
        now : (n ≡ i) ⊎ (items w ≡ []) → (n ≡ i) ⊎ (get_or (map items ws) n [] ≡ [])
        now (inl e) = inl e
        now (inr none) = inr (get_or-map items ws n w [] within ∙ ap items (sym at) ∙ none)
