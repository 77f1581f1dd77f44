-- Walks along the links of blocks.
use Rattle.std.proofs.Common.{◌≡◌, ℕ, zero, suc, ◌+◌, ◌-◌, ◌<◌, List, ◌++◌, length, refl, sym, ap, ◌∙◌, cond, eqb, arith, zero-add, append_assoc, length-append, ◌*◌, inl, inr}
use Rattle.std.proofs.lemmas.Bool.{eq-eqb, cases_lt}
use Rattle.row_pool.specs.declared.block.Block.{Block}
use Rattle.row_pool.specs.Layout.{bytes_at, next_at, after, visits, bytes_from, IsChain}

-- a walk of m + n blocks goes m blocks, and n from there on
pub after-split : (b : List Block) (i m n k : ℕ) → k ≡ m + n → after b i k ≡ after b (after b i m) n
after-split b i zero n k e = ap (after b i) (e ∙ zero-add n)
after-split b i (suc m) n zero e = absurd (omega arith)
after-split b i (suc m) n (suc k) e = after-split b (next_at b i) m n k (omega arith)

pub visits-split : (b : List Block) (j i m n k : ℕ) → k ≡ m + n → visits b j i k ≡ visits b j i m + visits b j (after b i m) n
visits-split b j i zero n k e = ap (visits b j i) (e ∙ zero-add n) ∙ sym (zero-add _)
visits-split b j i (suc m) n zero e = absurd (omega arith)
visits-split b j i (suc m) n (suc k) e =
    let rest = visits-split b j (next_at b i) m n k (omega arith) in
    omega arith

pub bytes_from-split : (b : List Block) (i m n k : ℕ) → k ≡ m + n → bytes_from b i k ≡ bytes_from b i m ++ bytes_from b (after b i m) n
bytes_from-split b i zero n k e = ap (bytes_from b i) (e ∙ zero-add n)
bytes_from-split b i (suc m) n zero e = absurd (omega arith)
bytes_from-split b i (suc m) n (suc k) e =
    ap (λ bs. bytes_at b i ++ bs) (bytes_from-split b (next_at b i) m n k (omega arith)) ∙ sym (append_assoc (bytes_at b i) (bytes_from b (next_at b i) m) (bytes_from b (after b (next_at b i) m) n))

-- a block is on the walk that begins there
pub visits_first : (b : List Block) (i n : ℕ) → 0 < visits b i i (suc n)
visits_first b i n = let is = eq-eqb i i refl in rw is (omega arith)

-- each block of a walk is visited
pub visits_after : (b : List Block) (i m n : ℕ) → m < n → 0 < visits b (after b i m) i n
visits_after b i m n h =
    let split = visits-split b (after b i m) i m (suc (n - m - 1)) n (omega arith) in
    omega (arith, visits_first b (after b i m) (n - m - 1))

-- if each visited block keeps its link, a walk is unchanged
pub record SameWalk (b c : List Block) (i n : ℕ) : Type 0 where
  pub behind : after c i n ≡ after b i n
  pub visited : (j : ℕ) → visits c j i n ≡ visits b j i n

pub walk_stays : (b c : List Block) (i n : ℕ) → ((k : ℕ) → 0 < visits b k i n → next_at c k ≡ next_at b k) → SameWalk b c i n
walk_stays b c i zero keeps = record { behind = refl; visited = λ j. refl }
walk_stays b c i (suc n) keeps =
    let link = keeps i (visits_first b i n) in
    let rest = walk_stays b c (next_at b i) n (λ k v. keeps k (omega arith)) in
    record {
      behind = ap (λ x. after c x n) link ∙ rest.behind;
      visited = λ j. ap (λ x. cond (eqb i j) 1 0 + visits c j x n) link ∙ ap (λ x. cond (eqb i j) 1 0 + x) (rest.visited j);
    }

pub bytes_stay : (b c : List Block) (i n : ℕ) → ((k : ℕ) → 0 < visits b k i n → (next_at c k ≡ next_at b k) × (bytes_at c k ≡ bytes_at b k)) → bytes_from c i n ≡ bytes_from b i n
bytes_stay b c i zero keeps = refl
bytes_stay b c i (suc n) keeps =
    let here = keeps i (visits_first b i n) in
    ap (λ x. bytes_at c i ++ bytes_from c x n) here.0
    ∙ ap (λ bs. bs ++ bytes_from c (next_at b i) n) here.1
    ∙ ap (λ bs. bytes_at b i ++ bs) (bytes_stay b c (next_at b i) n (λ k v. keeps k (omega arith)))

-- whole blocks hold 64 bytes each
pub length-bytes_from : (b : List Block) (i n : ℕ) → ((k : ℕ) → 0 < visits b k i n → length (bytes_at b k) ≡ 64) → length (bytes_from b i n) ≡ 64 * n
length-bytes_from b i zero whole = refl
length-bytes_from b i (suc n) whole =
    let rest = length-bytes_from b (next_at b i) n (λ k v. whole k (omega arith)) in
    let here = whole i (visits_first b i n) in
    omega (arith, length-append (bytes_at b i) (bytes_from b (next_at b i) n))

-- one step more
pub after_more : (b : List Block) (i n : ℕ) → next_at b (after b i n) ≡ after b i (n + 1)
after_more b i n = sym (after-split b i n 1 (n + 1) refl)

-- the blocks of a chain are there
pub chain_inside : (b : List Block) (i n m : ℕ) → IsChain b i n → m < n → after b i m < length b
chain_inside b i n m chain h =
    elim (cases_lt (after b i m) (length b)) [
      | inl below ↦ below
      | inr past ↦ absurd (omega (arith, chain.inside (after b i m) past, visits_after b i m n h))
    ]
