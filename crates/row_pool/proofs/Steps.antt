-- What a put, a free and a growth leave of a pool.
use Rattle.std.proofs.Common.{◌≡◌, ◌≢◌, ℕ, suc, ◌+◌, ◌-◌, ◌<◌, ◌≤◌, cond, ltb, List, [], ◌∷◌, ◌++◌, length, get_or, None, Some, option_map, refl, sym, ap, ◌∙◌, subst, arith, inl, inr, add-one, add_comm}
use Rattle.std.proofs.lemmas.Bool.{cases_eq, cases_lt}
use Rattle.std.proofs.lemmas.Bool.Decides.{nat_tests}
use Rattle.std.proofs.lemmas.List.{get_or_push, get_or_append_left, length_push}
use Rattle.std.specs.FinMap.{get, insert, remove, get-insert, get-remove, same_map, nat_cmp-IsAntisymmetric}
use Rattle.std.specs.Cmp.{nat_cmp_total}
use Rattle.row_pool.specs.declared.block.Block.{Block}
use Rattle.row_pool.specs.Pool.{blocks_of, blocks_in}
use Rattle.row_pool.specs.Layout.{no_block, bytes_at, next_at, len_at, after, visits, text_from, text_at, texts_in, size_of, share, taken, IsSound, IsPut, IsFreed}
use Rattle.row_pool.proofs.Links.{visits-split, visits_first, visits_after, walk_stays}
use Rattle.row_pool.proofs.Sums.{blocks_in-empty, blocks_in-insert, blocks_in-remove}
use Rattle.row_pool.proofs.Written.{unvisited, apart}
use Rattle.row_pool.proofs.Shares.{len_at_past, len_at_inside, get-texts_in, text_stays, share_stays, taken_stays, taken_changes, share_le, two_shares_le, one_owner, no_owner, free_chain, text_chain, length-text_from, free_begins_none}

-- the same blocks, under other names
pub sound_at : (b c : List Block) (free first spare more : ℕ) → c ≡ b → first ≡ free → more ≡ spare → IsSound b free spare → IsSound c first more
sound_at b c free first spare more blocks begin count sound =
    subst (λ xs. IsSound xs first more) (sym blocks) (subst (λ i. IsSound b i more) (sym begin) (subst (λ n. IsSound b free n) (sym count) sound))

module _ (b c : List Block) (free spare : ℕ) (text : List ℕ) (sound : IsSound b free spare) (room : blocks_of (length text) ≤ spare) (put : IsPut b c free text) where
  -- a block of a text is not among the first free ones
  not_free : (v q : ℕ) → q < length b → 0 < share b v q → visits b v free (blocks_of (length text)) ≡ 0
  not_free v q inside some =
      let k = blocks_of (length text) in
      let split = visits-split b v free k (spare - k) spare (omega arith) in
      omega (arith, share_le b v q (length b) inside, one_owner b free spare v sound)

  inside_free : free < length b
  inside_free =
      let chain = free_chain b free spare spare sound (omega arith) in
      elim (cases_lt free (length b)) [
        | inl below ↦ below
        | inr past ↦
            let none = chain.inside free past in
            let e : suc (spare - 1) ≡ spare = omega arith in
            let some = subst (λ k. 0 < visits b free free k) e (visits_first b free (spare - 1)) in
            absurd (omega arith)
      ]

  pub put_fresh : get (texts_in b) free ≡ None
  put_fresh = get-texts_in b free ∙ ap (option_map (text_from b free)) (free_begins_none b free spare sound (omega arith))

  pub put_other : (q : ℕ) → q ≢ free → text_at c q ≡ text_at b q
  put_other q other =
      elim (cases_lt q (length b)) [
        | inl below ↦ text_stays b c q (put.lens q other) (λ v s. (put.links v, put.others v (not_free v q below s)))
        | inr past ↦ ap (option_map (text_from c q)) (put.lens q other ∙ len_at_past b q past) ∙ sym (ap (option_map (text_from b q)) (len_at_past b q past))
      ]

  pub put_here : text_at c free ≡ Some text
  put_here = ap (option_map (text_from c free)) put.begins ∙ ap Some put.stored

  pub put_texts : texts_in c ≡ insert (texts_in b) free text
  put_texts =
      same_map nat_cmp_total nat_cmp-IsAntisymmetric _ _ (λ q.
      get-texts_in c q
      ∙ elim (cases_eq q free) [
        | inl same ↦ ap (text_at c) same ∙ put_here ∙ sym (get-insert nat_cmp_total (texts_in b) free text q ∙ grind (arith, nat_tests))
        | inr other ↦ put_other q other ∙ sym (get-insert nat_cmp_total (texts_in b) free text q ∙ grind (arith, nat_tests, get-texts_in b q))
      ])

  pub put_used : blocks_in (texts_in c) ≡ blocks_in (texts_in b) + blocks_of (length text)
  put_used = ap blocks_in put_texts ∙ blocks_in-insert (texts_in b) free text put_fresh

  put_owned : (j : ℕ) → visits c j (after b free (blocks_of (length text))) (spare - blocks_of (length text)) + taken c j (length c) ≡ cond (ltb j (length c)) 1 0
  put_owned j =
      let k = blocks_of (length text) in
      let from = after b free k in
      let rest = (walk_stays b c from (spare - k) (λ v s. put.links v)).visited j in
      let split = visits-split b j free k (spare - k) spare (omega arith) in
      let was : share b j free ≡ 0 = ap (λ o. visits b j free (size_of o)) (free_begins_none b free spare sound (omega arith)) in
      let is : share c j free ≡ visits b j free k = ap (λ o. visits c j free (size_of o)) put.begins ∙ (walk_stays b c free k (λ v s. put.links v)).visited j in
      let all = taken_changes b c j free (length b) inside_free (λ i l e. share_stays b c i (put.lens i e) (λ v s. put.links v) j) in
      rw put.size (omega (arith, sound.owned j))

  pub put_sound : IsSound c (after b free (blocks_of (length text))) (spare - blocks_of (length text))
  put_sound = record {
    owned = put_owned;
    total = let all : blocks_in (texts_in c) + (spare - blocks_of (length text)) ≡ length b = omega (arith, sound.total, put_used) in all ∙ sym put.size;
    whole = put.whole;
  }

module _ (b c : List Block) (free spare first len : ℕ) (sound : IsSound b free spare) (live : len_at b first ≡ Some len) (freed : IsFreed b c first (blocks_of len) free) where
  inside_first : first < length b
  inside_first = len_at_inside b first len live

  abbrev last : ℕ
  last = after b first (blocks_of len - 1)

  own : (j : ℕ) → share b j first ≡ visits b j first (blocks_of len)
  own j = ap (λ o. visits b j first (size_of o)) live

  -- the last block is the text's own
  last_owned : 0 < share b last first
  last_owned = rw own (visits_after b first (blocks_of len - 1) (blocks_of len) (omega arith))

  -- so no other text has it
  others_keep : (q v : ℕ) → q < length b → q ≢ first → 0 < share b v q → next_at c v ≡ next_at b v
  others_keep q v inside other some =
      freed.links v (λ e.
      let P : ℕ → Type 0 = λ x. 0 < share b x q in
      let some_last = subst P e some in
      absurd (omega (arith, two_shares_le b last q first (length b) inside inside_first other, one_owner b free spare last sound, last_owned)))

  -- nor do the free ones
  free_keep : (v : ℕ) → 0 < visits b v free spare → next_at c v ≡ next_at b v
  free_keep v some =
      freed.links v (λ e.
      let P : ℕ → Type 0 = λ x. 0 < visits b x free spare in
      let some_last = subst P e some in
      absurd (omega (arith, share_le b last first (length b) inside_first, one_owner b free spare last sound, last_owned)))

  -- nor is it among the blocks before it
  before_keep : (v : ℕ) → 0 < visits b v first (blocks_of len - 1) → next_at c v ≡ next_at b v
  before_keep v some =
      let none = unvisited b first (blocks_of len - 1) (blocks_of len) (text_chain b free spare first len sound live) (omega arith) in
      freed.links v (apart b last v first (blocks_of len - 1) none some)

  pub freed_other : (q : ℕ) → q ≢ first → text_at c q ≡ text_at b q
  freed_other q other =
      elim (cases_lt q (length b)) [
        | inl below ↦ text_stays b c q (freed.lens q other) (λ v s. (others_keep q v below other s, freed.bytes v))
        | inr past ↦ ap (option_map (text_from c q)) (freed.lens q other ∙ len_at_past b q past) ∙ sym (ap (option_map (text_from b q)) (len_at_past b q past))
      ]

  pub freed_here : text_at c first ≡ None
  freed_here = ap (option_map (text_from c first)) freed.ends

  pub freed_texts : texts_in c ≡ remove (texts_in b) first
  freed_texts =
      same_map nat_cmp_total nat_cmp-IsAntisymmetric _ _ (λ q.
      get-texts_in c q
      ∙ elim (cases_eq q first) [
        | inl same ↦ ap (text_at c) same ∙ freed_here ∙ sym (get-remove nat_cmp_total (texts_in b) first q ∙ grind (arith, nat_tests))
        | inr other ↦ freed_other q other ∙ sym (get-remove nat_cmp_total (texts_in b) first q ∙ grind (arith, nat_tests, get-texts_in b q))
      ])

  -- the text's blocks lead to the free ones
  joined : (j : ℕ) → visits c j first (blocks_of len + spare) ≡ visits b j first (blocks_of len) + visits b j free spare
  joined j =
      let k = blocks_of len - 1 in
      let whole = visits-split c j first k (suc spare) (blocks_of len + spare) (omega arith) in
      let text = visits-split b j first k 1 (blocks_of len) (omega arith) in
      let walk = walk_stays b c first k before_keep in
      let turn : visits c j (after c first k) (suc spare) ≡ visits c j last (suc spare) = ap (λ x. visits c j x (suc spare)) walk.behind in
      let behind : visits c j (next_at c last) spare ≡ visits b j free spare = ap (λ x. visits c j x spare) freed.link ∙ (walk_stays b c free spare free_keep).visited j in
      omega (arith, walk.visited j)

  freed_owned : (j : ℕ) → visits c j first (blocks_of len + spare) + taken c j (length c) ≡ cond (ltb j (length c)) 1 0
  freed_owned j =
      let gone : share c j first ≡ 0 = ap (λ o. visits c j first (size_of o)) freed.ends in
      let all = taken_changes b c j first (length b) inside_first (λ i l e. share_stays b c i (freed.lens i e) (λ v s. others_keep i v l e s) j) in
      rw freed.size (omega (arith, sound.owned j, joined j, own j))

  pub text_is : get (texts_in b) first ≡ Some (text_from b first len)
  text_is = get-texts_in b first ∙ ap (option_map (text_from b first)) live

  pub freed_blocks : blocks_in (texts_in b) ≡ blocks_in (texts_in c) + blocks_of len
  freed_blocks =
      blocks_in-remove (texts_in b) first (text_from b first len) text_is
      ∙ ap (λ m. blocks_in m + blocks_of (length (text_from b first len))) (sym freed_texts)
      ∙ ap (λ n. blocks_in (texts_in c) + blocks_of n) (length-text_from b first len (text_chain b free spare first len sound live))

  pub freed_sound : IsSound c first (spare + blocks_of len)
  freed_sound = record {
    owned = λ j. ap (λ n. visits c j first n + taken c j (length c)) (add_comm spare (blocks_of len)) ∙ freed_owned j;
    total = let all : blocks_in (texts_in c) + (spare + blocks_of len) ≡ length b = omega (arith, sound.total, freed_blocks) in all ∙ sym freed.size;
    whole = λ i inside. ap length (freed.bytes i) ∙ sound.whole i (rw (← freed.size) inside);
  }

-- c is b with one free block more at the end
module _ (b : List Block) (free spare : ℕ) (y : Block) (sound : IsSound b free spare) (link : y.next ≡ free) (none : y.text_len ≡ None) (bytes : length y.bytes ≡ 64) where
  abbrev more : List Block
  more = b ++ y ∷ []

  below_stays : (i : ℕ) → i < length b → get_or more i no_block ≡ get_or b i no_block
  below_stays i inside = get_or_append_left b (y ∷ []) no_block i inside

  at_end : get_or more (length b) no_block ≡ y
  at_end = get_or_push b y no_block (length b) refl

  length-more : length more ≡ length b + 1
  length-more = length_push b y

  grown_lens : (i : ℕ) → len_at more i ≡ len_at b i
  grown_lens i =
      elim (cases_lt i (length b)) [
        | inl below ↦ ap (λ (x : Block). x.text_len) (below_stays i below)
        | inr past ↦
            elim (cases_eq i (length b)) [
              | inl end ↦ rw end (ap (λ (x : Block). x.text_len) at_end ∙ none) ∙ sym (len_at_past b i past)
              | inr beyond ↦ len_at_past more i (omega (arith, length-more)) ∙ sym (len_at_past b i past)
            ]
      ]

  grown_keeps : (q v : ℕ) → q < length b → 0 < share b v q → (next_at more v ≡ next_at b v) × (bytes_at more v ≡ bytes_at b v)
  grown_keeps q v inside some =
      elim (cases_lt v (length b)) [
        | inl below ↦ (ap (λ (x : Block). x.next) (below_stays v below), ap (λ (x : Block). x.bytes) (below_stays v below))
        | inr past ↦ absurd (omega (arith, share_le b v q (length b) inside, no_owner b free spare v sound past))
      ]

  free_stay : (v : ℕ) → 0 < visits b v free spare → next_at more v ≡ next_at b v
  free_stay v some =
      elim (cases_lt v (length b)) [
        | inl below ↦ ap (λ (x : Block). x.next) (below_stays v below)
        | inr past ↦ absurd (omega (arith, no_owner b free spare v sound past))
      ]

  grown_text : (q : ℕ) → text_at more q ≡ text_at b q
  grown_text q =
      elim (cases_lt q (length b)) [
        | inl below ↦ text_stays b more q (grown_lens q) (λ v s. grown_keeps q v below s)
        | inr past ↦ ap (option_map (text_from more q)) (grown_lens q ∙ len_at_past b q past) ∙ sym (ap (option_map (text_from b q)) (len_at_past b q past))
      ]

  pub grown_texts : texts_in more ≡ texts_in b
  grown_texts = same_map nat_cmp_total nat_cmp-IsAntisymmetric _ _ (λ q. get-texts_in more q ∙ grown_text q ∙ sym (get-texts_in b q))

  grown_owned : (j : ℕ) → visits more j (length b) (suc spare) + taken more j (suc (length b)) ≡ cond (ltb j (suc (length b))) 1 0
  grown_owned j =
      let next : next_at more (length b) ≡ free = ap (λ (x : Block). x.next) at_end ∙ link in
      let free_ones : visits more j (next_at more (length b)) spare ≡ visits b j free spare = ap (λ x. visits more j x spare) next ∙ (walk_stays b more free spare free_stay).visited j in
      let empty : share more j (length b) ≡ 0 = ap (λ o. visits more j (length b) (size_of o)) (grown_lens (length b) ∙ len_at_past b (length b) (omega arith)) in
      let rest = taken_stays b more j (length b) (λ i l. share_stays b more i (grown_lens i) (λ v s. (grown_keeps i v l s).0) j) in
      let all = sound.owned j in
      grind (arith, nat_tests)

  pub grown_sound : IsSound more (length b) (spare + 1)
  grown_sound = record {
    owned = λ j.
        let len : length more ≡ suc (length b) = length-more ∙ add-one (length b) in
        ap (λ n. visits more j (length b) n + taken more j (length more)) (add-one spare)
        ∙ ap (λ n. visits more j (length b) (suc spare) + taken more j n) len
        ∙ grown_owned j
        ∙ ap (λ n. cond (ltb j n) 1 0) (sym len);
    total = let all : blocks_in (texts_in b) + (spare + 1) ≡ length b + 1 = omega (arith, sound.total) in ap (λ m. blocks_in m + (spare + 1)) grown_texts ∙ all ∙ sym length-more;
    whole = λ i inside.
        elim (cases_lt i (length b)) [
          | inl below ↦ ap (λ (x : Block). length x.bytes) (below_stays i below) ∙ sound.whole i below
          | inr past ↦ let end : i ≡ length b = omega (arith, length-more) in rw end (ap (λ (x : Block). length x.bytes) at_end ∙ bytes)
        ];
  }

-- a pool with no blocks
pub nothing_sound : IsSound [] 0 0
nothing_sound = record { owned = λ j. grind (arith, nat_tests); total = ap (λ n. n + 0) blocks_in-empty; whole = λ i inside. absurd (omega arith) }
