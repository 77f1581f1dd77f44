-- A text on its way into the blocks of a chain.
use Rattle.std.proofs.Common.{◌≡◌, ◌≢◌, ℕ, suc, ◌+◌, ◌-◌, ◌*◌, ◌<◌, ◌≤◌, min, List, ◌++◌, length, take, drop, get_or, set, refl, sym, ap, ◌∙◌, subst, arith, inl, inr, append_assoc, length-append, length-take, length-drop, length-set, get_or-set_same, get_or-set_other}
use Rattle.std.proofs.lemmas.Bool.{cases_eq, cases_lt}
use Rattle.std.proofs.lemmas.List.{append-nil, take_all, take_at, drop_at, drop-drop, drop_min}
use Rattle.std.proofs.Math.Seq.{take-add, take-append-add}
use Rattle.row_pool.specs.declared.block.Block.{Block}
use Rattle.row_pool.specs.Pool.{blocks_of}
use Rattle.row_pool.specs.Layout.{no_block, bytes_at, next_at, len_at, after, visits, bytes_from, IsChain}
use Rattle.row_pool.proofs.Links.{bytes_from-split, visits-split, visits_first, visits_after, walk_stays, bytes_stay, length-bytes_from, chain_inside}

-- what a write to one block leaves of a field that it keeps
pub kept_by_set : {X : Type 0} (f : Block → X) (b : List Block) (at : ℕ) (y : Block) → at < length b → f y ≡ f (get_or b at no_block) → (i : ℕ) → f (get_or (set b at y) i no_block) ≡ f (get_or b i no_block)
kept_by_set f b at y h e i =
    elim (cases_eq i at) [
      | inl same ↦ rw same (ap f (get_or-set_same b at y no_block h) ∙ e)
      | inr other ↦ ap f (get_or-set_other b at i y no_block other)
    ]

-- the first n blocks of a chain hold the beginning of a text, and no other block changed
pub record Written (old new : List Block) (first : ℕ) (text : List ℕ) (n : ℕ) : Type 0 where
  pub stored : take (min (64 * n) (length text)) (bytes_from new first n) ≡ take (64 * n) text
  pub links : (i : ℕ) → next_at new i ≡ next_at old i
  pub lens : (i : ℕ) → len_at new i ≡ len_at old i
  pub others : (i : ℕ) → visits old i first n ≡ 0 → bytes_at new i ≡ bytes_at old i
  pub whole : (i : ℕ) → i < length new → length (bytes_at new i) ≡ 64

-- before each of its blocks a text has something left, or is empty
pub begun : (len n : ℕ) → n < blocks_of len → 64 * n ≤ len
begun len n h = omega arith

pub enough_blocks : (len : ℕ) → len ≤ 64 * blocks_of len
enough_blocks len = omega arith

-- one piece more
pub more_text : (text front behind : List ℕ) (n : ℕ) → 64 * n ≤ length text → length front ≡ 64 * n → take (min (64 * n) (length text)) front ≡ take (64 * n) text → take (min (64 * (n + 1)) (length text)) (front ++ (take 64 (drop (64 * n) text) ++ behind)) ≡ take (64 * (n + 1)) text
more_text text front behind n begins whole so_far =
    let piece = take 64 (drop (64 * n) text) in
    let ahead : 64 * n + 64 ≡ 64 * (n + 1) = omega arith in
    let front_is : front ≡ take (64 * n) text = sym (take_all (min (64 * n) (length text)) front (omega arith)) ∙ so_far in
    let both : front ++ piece ≡ take (64 * (n + 1)) text =
    ap (λ xs. xs ++ piece) front_is ∙ sym (take-add (64 * n) 64 text) ∙ ap (λ k. take k text) ahead in
    ap (take (min (64 * (n + 1)) (length text))) (sym (append_assoc front piece behind))
    ∙ take_at (front ++ piece) behind _ (ap length both ∙ length-take (64 * (n + 1)) text)
    ∙ both

-- a block that no step of a walk visits is not among its blocks
pub apart : (b : List Block) (at k i n : ℕ) → visits b at i n ≡ 0 → 0 < visits b k i n → k ≢ at
apart b at k i n none some same = let P : ℕ → Type 0 = λ x. 0 < visits b x i n in absurd (omega (arith, subst P same some))

-- the next block of a chain was not visited yet
pub unvisited : (b : List Block) (i n k : ℕ) → IsChain b i k → n < k → visits b (after b i n) i n ≡ 0
unvisited b i n k chain more =
    let at = after b i n in
    let once = chain.once at in
    let split = visits-split b at i n (suc (k - n - 1)) k (omega arith) in
    omega (arith, visits_first b at (k - n - 1))

-- what is visited with one block more
pub visits_more : (b : List Block) (j i n : ℕ) → visits b j i (n + 1) ≡ 0 → (visits b j i n ≡ 0) × (j ≢ after b i n)
visits_more b j i n none =
    let split = visits-split b j i n 1 (n + 1) refl in
    (omega arith, λ same. absurd (omega (arith, subst (λ x. visits b x i (n + 1) ≡ 0) same none, visits_after b i n (n + 1) (omega arith))))

-- the bytes of a chain with the next block's
pub bytes_more : (b c : List Block) (i n : ℕ) → ((k : ℕ) → 0 < visits b k i n → (next_at c k ≡ next_at b k) × (bytes_at c k ≡ bytes_at b k)) → bytes_from c i (n + 1) ≡ bytes_from b i n ++ bytes_at c (after b i n)
bytes_more b c i n keeps =
    bytes_from-split c i n 1 (n + 1) refl
    ∙ ap (λ x. bytes_from c i n ++ x) (append-nil (bytes_at c (after c i n)))
    ∙ ap (λ x. bytes_from c i n ++ bytes_at c x) (walk_stays b c i n (λ k v. (keeps k v).0)).behind
    ∙ ap (λ x. x ++ bytes_at c (after b i n)) (bytes_stay b c i n keeps)

-- each block that a chain visits is there
pub visited_inside : (b : List Block) (i n k j : ℕ) → IsChain b i k → n ≤ k → 0 < visits b j i n → j < length b
visited_inside b i n k j chain le some =
    elim (cases_lt j (length b)) [
      | inl below ↦ below
      | inr past ↦
          let split = visits-split b j i n (k - n) k (omega arith) in
          absurd (omega (arith, chain.inside j past))
    ]

-- the next block takes the next piece
pub written_more : (old b : List Block) (first at : ℕ) (text piece : List ℕ) (n : ℕ) (y : Block) → IsChain old first (blocks_of (length text)) → n < blocks_of (length text) → length b ≡ length old → Written old b first text n → at ≡ after old first n → piece ≡ take 64 (drop (64 * n) text) → y.next ≡ next_at b at → y.text_len ≡ len_at b at → y.bytes ≡ piece ++ drop (length piece) (bytes_at b at) → Written old (set b at y) first text (n + 1)
written_more old b first at text piece n y chain more same w here piece_is next_is len_is bytes_is =
    let c = set b at y in
    let k = blocks_of (length text) in
    let inside : at < length b = rw (here, same) (chain_inside old first k n chain more) in
    let links : (i : ℕ) → next_at c i ≡ next_at b i = kept_by_set (λ x. x.next) b at y inside next_is in
    let lens : (i : ℕ) → len_at c i ≡ len_at b i = kept_by_set (λ x. x.text_len) b at y inside len_is in
    let walk = walk_stays old b first n (λ j v. w.links j) in
    let new : visits b at first n ≡ 0 = walk.visited at ∙ ap (λ x. visits old x first n) here ∙ unvisited old first n k chain more in
    let others : (i : ℕ) → i ≢ at → bytes_at c i ≡ bytes_at b i = λ i e. ap (λ (x : Block). x.bytes) (get_or-set_other b at i y no_block e) in
    let written : bytes_at c at ≡ piece ++ drop (length piece) (bytes_at b at) = ap (λ (x : Block). x.bytes) (get_or-set_same b at y no_block inside) ∙ bytes_is in
    let at_b : after b first n ≡ at = walk.behind ∙ sym here in
    let bytes : bytes_from c first (n + 1) ≡ bytes_from b first n ++ (take 64 (drop (64 * n) text) ++ drop (length piece) (bytes_at b at)) =
    bytes_more b c first n (λ j v. (links j, others j (apart b at j first n new v)))
    ∙ ap (λ x. bytes_from b first n ++ bytes_at c x) at_b
    ∙ ap (λ x. bytes_from b first n ++ x) (written ∙ ap (λ x. x ++ drop (length piece) (bytes_at b at)) piece_is) in
    let whole : length (bytes_from b first n) ≡ 64 * n =
    length-bytes_from b first n (λ j v. w.whole j (rw same (visited_inside old first n k j chain (omega arith) (rw walk.visited at v)))) in
    let short : length piece ≤ 64 = rw piece_is (omega (arith, length-take 64 (drop (64 * n) text))) in
    let filled : length (piece ++ drop (length piece) (bytes_at b at)) ≡ 64 =
    omega (arith, w.whole at inside, length-append piece (drop (length piece) (bytes_at b at)), length-drop (length piece) (bytes_at b at)) in
    record {
      stored = ap (take (min (64 * (n + 1)) (length text))) bytes ∙ more_text text (bytes_from b first n) _ n (begun (length text) n more) whole w.stored;
      links = λ i. links i ∙ w.links i;
      lens = λ i. lens i ∙ w.lens i;
      others = λ i none. let apart_from = visits_more old i first n none in others i (λ e. apart_from.1 (e ∙ here)) ∙ w.others i apart_from.0;
      whole = λ i h.
          elim (cases_eq i at) [
            | inl e ↦ ap (λ x. length (bytes_at c x)) e ∙ ap length written ∙ filled
            | inr e ↦ ap length (others i e) ∙ w.whole i (omega (arith, length-set b at y))
          ];
    }

-- a text on its way out of a chain: one piece more
pub read_more : (b : List Block) (first n a k : ℕ) (old into piece : List ℕ) → IsChain b first (blocks_of (length old)) → n < blocks_of (length old) → into ≡ take (min (64 * n) (length old)) (bytes_from b first n) ++ drop (64 * n) old → a ≡ 64 * n → k ≡ min (length old) (a + 64) - a → piece ≡ take k (bytes_at b (after b first n)) → take a into ++ (piece ++ drop k (drop a into)) ≡ take (min (64 * (n + 1)) (length old)) (bytes_from b first (n + 1)) ++ drop (64 * (n + 1)) old
read_more b first n a k old into piece chain more so_far a_is k_is piece_is =
    let front = bytes_from b first n in
    let rest = drop (64 * n) old in
    let begins = begun (length old) n more in
    let whole : length front ≡ 64 * n = length-bytes_from b first n (λ j v. chain.whole j (visited_inside b first n (blocks_of (length old)) j chain (omega arith) v)) in
    let into_is : into ≡ front ++ rest = so_far ∙ ap (λ xs. xs ++ rest) (take_all (min (64 * n) (length old)) front (omega arith)) in
    let end : min (64 * (n + 1)) (length old) ≡ length front + k = omega arith in
    let taken : take a into ≡ front = ap (take a) into_is ∙ take_at front rest a (omega arith) in
    let left : drop a into ≡ rest = ap (drop a) into_is ∙ drop_at front rest a (omega arith) in
    let past : 64 * n + k ≡ min (64 * (n + 1)) (length old) = omega arith in
    let behind : drop k (drop a into) ≡ drop (64 * (n + 1)) old = ap (drop k) left ∙ drop-drop k (64 * n) old ∙ ap (λ x. drop x old) past ∙ drop_min (64 * (n + 1)) old in
    let bytes : take (min (64 * (n + 1)) (length old)) (bytes_from b first (n + 1)) ≡ front ++ piece =
    ap (take (min (64 * (n + 1)) (length old))) (bytes_more b b first n (λ j v. (refl, refl)))
    ∙ ap (λ x. take x (front ++ bytes_at b (after b first n))) end
    ∙ take-append-add front (bytes_at b (after b first n)) k
    ∙ ap (λ xs. front ++ xs) (sym piece_is) in
    ap (λ xs. xs ++ (piece ++ drop k (drop a into))) taken
    ∙ ap (λ xs. front ++ (piece ++ xs)) behind
    ∙ sym (append_assoc front piece (drop (64 * (n + 1)) old))
    ∙ ap (λ xs. xs ++ drop (64 * (n + 1)) old) (sym bytes)
