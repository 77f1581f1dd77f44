-- The blocks of the texts of a map.
use Rattle.std.proofs.Common.{◌≡◌, ℕ, ◌+◌, List, [], ◌∷◌, map, length, None, Some, cond, sym, ap, ◌∙◌, arith}
use Rattle.std.specs.List.{sum_by}
use Rattle.std.proofs.lemmas.List.Sums.{sum_by-cons}
use Rattle.std.proofs.lemmas.List.{nil_from_length}
use Rattle.std.proofs.lemmas.Bool.Decides.{nat_tests}
use Rattle.std.specs.Ordering.{nat_cmp, is_eq}
use Rattle.std.specs.declared.cmp.Ordering.TheVariants.{Less, Equal, Greater}
use Rattle.std.specs.Cmp.{nat_cmp_total}
use Rattle.std.specs.FinMap.{FinMap, empty, len-entries, len-empty, get, insert, remove, entries, entries-insert, get-entries, same_map, nat_cmp-IsAntisymmetric, find, put, gets}
use Rattle.std.specs.FinMap.Entries.{by_order}
use Rattle.row_pool.specs.Pool.{blocks_of, blocks_in}

-- the blocks of a list of entries
abbrev size : List (ℕ × List ℕ) → ℕ
size es = sum_by (λ text. blocks_of (length text)) (map (λ e. e.1) es)

size-cons : (e : ℕ × List ℕ) (es : List (ℕ × List ℕ)) → size (e ∷ es) ≡ blocks_of (length e.1) + size es
size-cons e es = sum_by-cons (λ text. blocks_of (length text)) e.1 (map (λ x. x.1) es)

-- a new entry adds its blocks
size-put : (k : ℕ) (v : List ℕ) (es : List (ℕ × List ℕ)) → find nat_cmp k es ≡ None → size (put nat_cmp k v es) ≡ size es + blocks_of (length v)
size-put k v [] none = omega (arith, size-cons (k, v) [])
size-put k v (e ∷ es) none =
    elim (nat_cmp k e.0) as (λ r. cond (is_eq r) (Some e.1) (find nat_cmp k es) ≡ None → size (by_order r ((k, v) ∷ e ∷ es) ((e.0, v) ∷ es) (e ∷ put nat_cmp k v es)) ≡ size (e ∷ es) + blocks_of (length v)) [
      | Less ↦ λ n. omega (arith, size-cons (k, v) (e ∷ es))
      | Equal ↦ λ n. cc
      | Greater ↦ λ n. omega (arith, size-cons e (put nat_cmp k v es), size-cons e es, size-put k v es n)
    ] none

-- no texts have no blocks
pub blocks_in-empty : blocks_in empty ≡ 0
blocks_in-empty = ap size (nil_from_length (entries empty) (sym (len-entries empty) ∙ len-empty nat_cmp (List ℕ)))

-- a text under a new ticket adds its blocks
pub blocks_in-insert : (m : FinMap nat_cmp (List ℕ)) (k : ℕ) (v : List ℕ) → get m k ≡ None → blocks_in (insert m k v) ≡ blocks_in m + blocks_of (length v)
blocks_in-insert m k v none =
    ap size (entries-insert nat_cmp_total m k v) ∙ size-put k v (entries m) (sym (get-entries m k) ∙ none)

-- a map is the map without a ticket, plus that ticket's text
pub insert-remove : (m : FinMap nat_cmp (List ℕ)) (k : ℕ) (v : List ℕ) → get m k ≡ Some v → insert (remove m k) k v ≡ m
insert-remove m k v is = same_map nat_cmp_total nat_cmp-IsAntisymmetric _ _ (λ q. grind (arith, gets, nat_tests, is))

pub blocks_in-remove : (m : FinMap nat_cmp (List ℕ)) (k : ℕ) (v : List ℕ) → get m k ≡ Some v → blocks_in m ≡ blocks_in (remove m k) + blocks_of (length v)
blocks_in-remove m k v is =
    ap blocks_in (sym (insert-remove m k v is)) ∙ blocks_in-insert (remove m k) k v (grind (arith, gets, nat_tests))
