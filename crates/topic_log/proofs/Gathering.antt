-- What a writer sent is put to what waits in a partition.
use Rattle.std.proofs.Common.{refl, ◌≡◌, ◌∙◌, ap, sym, subst, ℕ, List, [], ◌++◌, ◌+◌, ◌<◌, length, map, get_or, set, arith, Global, Option}
use Rattle.std.specs.Prelude.{All, unwrap_or, option_map}
use Rattle.std.specs.List.{sum_by}
use Rattle.std.specs.Vec.{with_item}
use Rattle.std.specs.declared.collections.VecDeque.{VecDeque}
use Rattle.std.proofs.Math.ListN.{get_or-map}
use Rattle.std.proofs.lemmas.List.{length-append, length-map, map-set}
use Rattle.std.proofs.lemmas.List.Sums.{sum-map, sum_by-set}
use Rattle.std.proofs.lemmas.Option.{slice_get_read}
use Rattle.ksql_place.specs.Ascending.{Rises}
use Rattle.ksql_place.specs.Routing.{change_cmp}
use Rattle.ksql_place.specs.declared.change.Change.{Change}
use Rattle.topic_log.specs.Commits.{gathered, waiting_lists}
use Rattle.topic_log.specs.Ready.{waiting_len}
use Rattle.topic_log.specs.Shelves.{waiting_in}
use Rattle.topic_log.specs.declared.shelves.PartShelf.{PartShelf}

-- the partition where this waits from a writer
abbrev pub with_waiting : PartShelf → ℕ → VecDeque Change Global → PartShelf
with_waiting p writer w = record { fed = p.fed; said = p.said; waiting = with_item p.waiting writer w }

pub All-from_map : (P : List Change → Type 0) (ws : List (VecDeque Change Global)) → All P (map (λ w. w.items) ws) → All (λ w. P w.items) ws
All-from_map P ws all k d below = subst P (get_or-map (λ w. w.items) ws k d) (all k d.items (subst (λ (n : ℕ). k < n) (sym (length-map ws (λ w. w.items))) below))

module _ (p : PartShelf) (writer : ℕ) (was now : VecDeque Change Global) (sent : List Change) (within : writer < length p.waiting.items) (at : was ≡ get_or p.waiting.items writer was) (more : now.items ≡ was.items ++ sent) where
  waiting-was : waiting_in writer p ≡ was.items
  waiting-was = ap (λ (o : Option (VecDeque Change Global)). unwrap_or (option_map (λ w. w.items) o) []) (slice_get_read p.waiting.items (length p.waiting.items) writer was refl within at)

  pub waiting-gathered : waiting_lists (with_waiting p writer now) ≡ gathered writer sent p
  waiting-gathered =
      map-set (λ w. w.items) p.waiting.items writer now
      ∙ ap (λ (xs : List Change). set (waiting_lists p) writer xs) (more ∙ ap (λ (xs : List Change). xs ++ sent) (sym waiting-was))

  pub length-gathered : waiting_len (with_waiting p writer now) ≡ waiting_len p + length sent
  length-gathered =
      let f : VecDeque Change Global → ℕ = λ w. length w.items in
      let both : sum_by f (set p.waiting.items writer now) + f (get_or p.waiting.items writer was) ≡ sum_by f p.waiting.items + f now = sum_by-set f p.waiting.items writer now was within in
      let left : waiting_len (with_waiting p writer now) ≡ sum_by f (set p.waiting.items writer now) = sum-map f (set p.waiting.items writer now) in
      let right : waiting_len p ≡ sum_by f p.waiting.items = sum-map f p.waiting.items in
      let old : f was ≡ f (get_or p.waiting.items writer was) = ap f at in
      let new : f now ≡ f was + length sent = ap length more ∙ length-append was.items sent in
      omega (arith, both, left, right, old, new)

  pub ascends-gathered : All (Rises change_cmp) (gathered writer sent p) → All (λ w. Rises change_cmp w.items) (with_waiting p writer now).waiting.items
  ascends-gathered all =
      All-from_map (Rises change_cmp) (set p.waiting.items writer now) (subst (All (Rises change_cmp)) (sym waiting-gathered) all)
