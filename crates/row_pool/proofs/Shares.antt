-- The texts of a pool and the blocks that they share out.
use Rattle.std.proofs.Common.{◌≡◌, ◌≢◌, ℕ, zero, suc, ◌+◌, ◌-◌, ◌<◌, ◌≤◌, cond, ltb, List, length, take, Option, None, Some, option_map, is_some, IsTrue, refl, sym, ap, ◌∙◌, subst, arith, inl, inr, length-take}
use Rattle.std.proofs.lemmas.Bool.{cases_eq, cases_lt, lt-ltb, le-ltb}
use Rattle.std.proofs.lemmas.Bool.Decides.{nat_tests}
use Rattle.std.proofs.lemmas.List.{get_or_past}
use Rattle.std.specs.Option.{option_map_or}
use Rattle.std.specs.Ordering.{nat_cmp}
use Rattle.std.specs.FinMap.{FinMap, get, get-empty, get-insert}
use Rattle.std.specs.Cmp.{nat_cmp_total}
use Rattle.row_pool.specs.declared.block.Block.{Block}
use Rattle.row_pool.specs.Pool.{blocks_of}
use Rattle.row_pool.specs.Layout.{no_block, bytes_at, next_at, len_at, visits, bytes_from, text_from, text_at, with_text, texts_below, texts_in, size_of, share, taken, IsSound, IsChain}
use Rattle.row_pool.proofs.Links.{visits-split, visits_first, walk_stays, bytes_stay, length-bytes_from}
use Rattle.row_pool.proofs.Written.{visited_inside, enough_blocks}

-- past the end no text begins
pub len_at_past : (b : List Block) (i : ℕ) → length b ≤ i → len_at b i ≡ None
len_at_past b i past = ap (λ (x : Block). x.text_len) (get_or_past b i no_block past)

pub len_at_inside : (b : List Block) (i len : ℕ) → len_at b i ≡ Some len → i < length b
len_at_inside b i len is =
    elim (cases_lt i (length b)) [
      | inl below ↦ below
      | inr past ↦ let none = len_at_past b i past in absurd (cc)
    ]

get-with_text : (m : FinMap nat_cmp (List ℕ)) (b : List Block) (n q : ℕ) (o : Option (List ℕ)) → text_at b n ≡ o → get m q ≡ cond (ltb q n) (text_at b q) None → get (with_text m n o) q ≡ cond (ltb q (suc n)) (text_at b q) None
get-with_text m b n q None is so_far =
    elim (cases_eq q n) [
      | inl same ↦ so_far ∙ ap (λ t. cond t (text_at b q) None) (le-ltb q n (omega arith)) ∙ sym (ap (λ t. cond t (text_at b q) None) (lt-ltb q (suc n) (omega arith)) ∙ ap (text_at b) same ∙ is)
      | inr other ↦ so_far ∙ ap (λ t. cond t (text_at b q) None) (grind (arith, nat_tests))
    ]
get-with_text m b n q (Some t) is so_far =
    elim (cases_eq q n) [
      | inl same ↦ get-insert nat_cmp_total m n t q ∙ grind (arith, nat_tests)
      | inr other ↦ get-insert nat_cmp_total m n t q ∙ grind (arith, nat_tests)
    ]

get-texts_below : (b : List Block) (n q : ℕ) → get (texts_below b n) q ≡ cond (ltb q n) (text_at b q) None
get-texts_below b zero q = get-empty nat_cmp q ∙ sym (ap (λ t. cond t (text_at b q) None) (le-ltb q 0 (omega arith)))
get-texts_below b (suc n) q = get-with_text (texts_below b n) b n q (text_at b n) refl (get-texts_below b n q)

-- the texts in the blocks are those that begin in each
pub get-texts_in : (b : List Block) (q : ℕ) → get (texts_in b) q ≡ text_at b q
get-texts_in b q =
    get-texts_below b (length b) q
    ∙ elim (cases_lt q (length b)) [
      | inl below ↦ ap (λ t. cond t (text_at b q) None) (lt-ltb q (length b) below)
      | inr past ↦ ap (λ t. cond t (text_at b q) None) (le-ltb q (length b) past) ∙ sym (ap (option_map (text_from b q)) (len_at_past b q past))
    ]

-- what stays of a text where its blocks do
pub text_stays : (b c : List Block) (q : ℕ) → len_at c q ≡ len_at b q → ((v : ℕ) → 0 < share b v q → (next_at c v ≡ next_at b v) × (bytes_at c v ≡ bytes_at b v)) → text_at c q ≡ text_at b q
text_stays b c q len keeps =
    ap (option_map (text_from c q)) len
    ∙ elim (len_at b q) as (λ o. ((v : ℕ) → 0 < visits b v q (size_of o) → (next_at c v ≡ next_at b v) × (bytes_at c v ≡ bytes_at b v)) → option_map (text_from c q) o ≡ option_map (text_from b q) o) [
      | None ↦ λ k. refl
      | Some n ↦ λ k. ap (λ xs. Some (take n xs)) (bytes_stay b c q (blocks_of n) k)
    ] keeps

pub share_stays : (b c : List Block) (q : ℕ) → len_at c q ≡ len_at b q → ((v : ℕ) → 0 < share b v q → next_at c v ≡ next_at b v) → (j : ℕ) → share c j q ≡ share b j q
share_stays b c q len keeps j =
    ap (λ o. visits c j q (size_of o)) len ∙ (walk_stays b c q (size_of (len_at b q)) keeps).visited j

-- if each text keeps its share, so do all together
pub taken_stays : (b c : List Block) (j n : ℕ) → ((i : ℕ) → i < n → share c j i ≡ share b j i) → taken c j n ≡ taken b j n
taken_stays b c j zero same = refl
taken_stays b c j (suc n) same =
    let rest = taken_stays b c j n (λ i h. same i (omega arith)) in
    omega (arith, same n (omega arith))

-- where one text alone changes its share
pub taken_changes : (b c : List Block) (j h n : ℕ) → h < n → ((i : ℕ) → i < n → i ≢ h → share c j i ≡ share b j i) → taken c j n + share b j h ≡ taken b j n + share c j h
taken_changes b c j h zero inside same = absurd (omega arith)
taken_changes b c j h (suc n) inside same =
    elim (cases_eq h n) [
      | inl last ↦
          let rest = taken_stays b c j n (λ i l. same i (omega arith) (λ e. omega arith)) in
          let P : ℕ → Type 0 = λ x. share c j n + taken c j n + share b j x ≡ share b j n + taken b j n + share c j x in
          subst P (sym last) (omega arith)
      | inr other ↦
          let rest = taken_changes b c j h n (omega arith) (λ i l. same i (omega arith)) in
          omega (arith, same n (omega arith) (λ e. other (sym e)))
    ]

-- no text has more than all together
pub share_le : (b : List Block) (j i n : ℕ) → i < n → share b j i ≤ taken b j n
share_le b j i zero inside = absurd (omega arith)
share_le b j i (suc n) inside =
    elim (cases_eq i n) [
      | inl last ↦ let P : ℕ → Type 0 = λ x. share b j x ≤ share b j n + taken b j n in subst P (sym last) (omega arith)
      | inr other ↦ omega (arith, share_le b j i n (omega arith))
    ]

-- nor have two
pub two_shares_le : (b : List Block) (j i h n : ℕ) → i < n → h < n → i ≢ h → share b j i + share b j h ≤ taken b j n
two_shares_le b j i h zero inside inside_too apart = absurd (omega arith)
two_shares_le b j i h (suc n) inside inside_too apart =
    elim (cases_eq i n) [
      | inl last ↦
          let P : ℕ → Type 0 = λ x. share b j x + share b j h ≤ share b j n + taken b j n in
          subst P (sym last) (omega (arith, share_le b j h n (omega arith)))
      | inr other ↦
          elim (cases_eq h n) [
            | inl last ↦
                let P : ℕ → Type 0 = λ x. share b j i + share b j x ≤ share b j n + taken b j n in
                subst P (sym last) (omega (arith, share_le b j i n (omega arith)))
            | inr neither ↦ omega (arith, two_shares_le b j i h n (omega arith) (omega arith) apart)
          ]
    ]

-- a block that is in a pool has one owner at most
pub one_owner : (b : List Block) (free spare j : ℕ) → IsSound b free spare → visits b j free spare + taken b j (length b) ≤ 1
one_owner b free spare j sound =
    elim (cases_lt j (length b)) [
      | inl below ↦ let is = sound.owned j ∙ ap (λ t. cond t 1 0) (lt-ltb j (length b) below) in omega arith
      | inr past ↦ let is = sound.owned j ∙ ap (λ t. cond t 1 0) (le-ltb j (length b) past) in omega arith
    ]

-- and none past the end
pub no_owner : (b : List Block) (free spare j : ℕ) → IsSound b free spare → length b ≤ j → visits b j free spare + taken b j (length b) ≡ 0
no_owner b free spare j sound past = sound.owned j ∙ ap (λ t. cond t 1 0) (le-ltb j (length b) past)

-- n free blocks form a chain
pub free_chain : (b : List Block) (free spare n : ℕ) → IsSound b free spare → n ≤ spare → IsChain b free n
free_chain b free spare n sound le = record {
  once = λ j. let split = visits-split b j free n (spare - n) spare (omega arith) in omega (arith, one_owner b free spare j sound);
  inside = λ j past. let split = visits-split b j free n (spare - n) spare (omega arith) in omega (arith, no_owner b free spare j sound past);
  whole = sound.whole;
}

-- the blocks of a text are a chain
pub text_chain : (b : List Block) (free spare i len : ℕ) → IsSound b free spare → len_at b i ≡ Some len → IsChain b i (blocks_of len)
text_chain b free spare i len sound is =
    let inside = len_at_inside b i len is in
    let part : (j : ℕ) → share b j i ≡ visits b j i (blocks_of len) = λ j. ap (λ o. visits b j i (size_of o)) is in
    record {
      once = λ j. omega (arith, part j, share_le b j i (length b) inside, one_owner b free spare j sound);
      inside = λ j past. omega (arith, part j, share_le b j i (length b) inside, no_owner b free spare j sound past);
      whole = sound.whole;
    }

-- a text has its length
pub length-text_from : (b : List Block) (i len : ℕ) → IsChain b i (blocks_of len) → length (text_from b i len) ≡ len
length-text_from b i len chain =
    let whole = length-bytes_from b i (blocks_of len) (λ j v. chain.whole j (visited_inside b i (blocks_of len) (blocks_of len) j chain (omega arith) v)) in
    omega (arith, length-take len (bytes_from b i (blocks_of len)), enough_blocks len)

-- no text begins in the first free block
pub free_begins_none : (b : List Block) (free spare : ℕ) → IsSound b free spare → 0 < spare → len_at b free ≡ None
free_begins_none b free spare sound some =
    elim (len_at b free) as (λ o. len_at b free ≡ o → o ≡ None) [
      | None ↦ λ is. refl
      | Some len ↦ λ is.
          let inside = len_at_inside b free len is in
          let part : share b free free ≡ visits b free free (blocks_of len) = ap (λ o. visits b free free (size_of o)) is in
          let first = visits_first b free (blocks_of len - 1) in
          let again = visits_first b free (spare - 1) in
          let e : suc (blocks_of len - 1) ≡ blocks_of len = omega arith in
          let f : suc (spare - 1) ≡ spare = omega arith in
          let one = subst (λ k. 0 < visits b free free k) e first in
          let two = subst (λ k. 0 < visits b free free k) f again in
          absurd (omega (arith, share_le b free free (length b) inside, one_owner b free spare free sound))
    ] refl

-- the text under a ticket, where one begins there
pub text_under : (b : List Block) (first len : ℕ) → len_at b first ≡ Some len → get (texts_in b) first ≡ Some (text_from b first len)
text_under b first len is = get-texts_in b first ∙ ap (option_map (text_from b first)) is

-- and its length
pub len_under : (b : List Block) (free spare first len : ℕ) → IsSound b free spare → len_at b first ≡ Some len → option_map length (get (texts_in b) first) ≡ Some len
len_under b free spare first len sound is =
    ap (option_map length) (text_under b first len is) ∙ ap Some (length-text_from b first len (text_chain b free spare first len sound is))

-- and its blocks
pub size_under : (b : List Block) (free spare first len : ℕ) → IsSound b free spare → len_at b first ≡ Some len → option_map_or (λ text. blocks_of (length text)) (get (texts_in b) first) 0 ≡ blocks_of len
size_under b free spare first len sound is =
    ap (λ o. option_map_or (λ text. blocks_of (length text)) o 0) (text_under b first len is)
    ∙ ap blocks_of (length-text_from b first len (text_chain b free spare first len sound is))

-- where a ticket is live, a text begins
pub live_begins : (b : List Block) (first : ℕ) → IsTrue (is_some (get (texts_in b) first)) → (len : ℕ) × (len_at b first ≡ Some len)
live_begins b first live =
    let is = subst (λ o. IsTrue (is_some o)) (get-texts_in b first) live in
    elim (len_at b first) as (λ o. len_at b first ≡ o → IsTrue (is_some (option_map (text_from b first) o)) → (len : ℕ) × (len_at b first ≡ Some len)) [
      | None ↦ λ none some. absurd (cc)
      | Some len ↦ λ begins some. (len, begins)
    ] refl is

-- of the length that is known
pub begins_with : (b : List Block) (free spare first len : ℕ) → IsSound b free spare → option_map length (get (texts_in b) first) ≡ Some len → len_at b first ≡ Some len
begins_with b free spare first len sound known =
    elim (len_at b first) as (λ o. len_at b first ≡ o → o ≡ Some len) [
      | None ↦ λ none. let is = get-texts_in b first ∙ ap (option_map (text_from b first)) none in absurd (let e : option_map length (get (texts_in b) first) ≡ None = ap (option_map length) is in cc)
      | Some n ↦ λ begins. let e = len_under b free spare first n sound begins in cc
    ] refl
