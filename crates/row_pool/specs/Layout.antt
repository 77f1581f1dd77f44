-- How a pool lays out its texts in blocks. No public clause cites this module.
use Rattle.std.specs.Prelude.{◌≡◌, ◌≢◌, ℕ, zero, suc, ◌+◌, ◌-◌, ◌<◌, ◌≤◌, ◌==◌, nat_lt, if◌then◌else◌, List, [], ◌++◌, length, take, Option, None, Some, option_map, slice_index_or}
use Rattle.std.specs.Ordering.{nat_cmp}
use Rattle.std.specs.FinMap as map
use Rattle.row_pool.specs.Pool.{blocks_of, blocks_in}
use Rattle.row_pool.specs.declared.block.Block.{Block}

-- what follows the last block: no bytes, and no text begins there
abbrev pub no_block : Block
no_block = record { bytes = []; next = 0; text_len = None }

-- the bytes of a block
abbrev pub bytes_at : List Block → ℕ → List ℕ
bytes_at blocks i = (slice_index_or blocks i no_block).bytes

-- the block that a block links to
abbrev pub next_at : List Block → ℕ → ℕ
next_at blocks i = (slice_index_or blocks i no_block).next

-- the length of the text that begins in a block, if one does
abbrev pub len_at : List Block → ℕ → Option ℕ
len_at blocks i = (slice_index_or blocks i no_block).text_len

-- the block n links after a block
abbrev pub after : List Block → ℕ → ℕ → ℕ
after blocks i zero = i
after blocks i (suc n) = after blocks (next_at blocks i) n

-- how often block j is among the first n from block i on
abbrev pub visits : List Block → ℕ → ℕ → ℕ → ℕ
visits blocks j i zero = 0
visits blocks j i (suc n) = (if i == j then 1 else 0) + visits blocks j (next_at blocks i) n

-- the bytes of the first n blocks from block i on
abbrev pub bytes_from : List Block → ℕ → ℕ → List ℕ
bytes_from blocks i zero = []
bytes_from blocks i (suc n) = bytes_at blocks i ++ bytes_from blocks (next_at blocks i) n

-- the text of this length that begins in block i
abbrev pub text_from : List Block → ℕ → ℕ → List ℕ
text_from blocks i len = take len (bytes_from blocks i (blocks_of len))

-- the text that begins in block i, if one does
abbrev pub text_at : List Block → ℕ → Option (List ℕ)
text_at blocks i = option_map (text_from blocks i) (len_at blocks i)

-- the texts, with one more under this block's number, if one begins there
abbrev pub with_text : map.FinMap nat_cmp (List ℕ) → ℕ → Option (List ℕ) → map.FinMap nat_cmp (List ℕ)
with_text texts i None = texts
with_text texts i (Some text) = map.insert texts i text

-- the texts that begin in the first n blocks
abbrev pub texts_below : List Block → ℕ → map.FinMap nat_cmp (List ℕ)
texts_below blocks zero = map.empty
texts_below blocks (suc n) = with_text (texts_below blocks n) n (text_at blocks n)

-- the texts in the blocks
abbrev pub texts_in : List Block → map.FinMap nat_cmp (List ℕ)
texts_in blocks = texts_below blocks (length blocks)

-- the number of blocks that a text takes, if there is one
abbrev pub size_of : Option ℕ → ℕ
size_of None = 0
size_of (Some len) = blocks_of len

-- how often block j is among those of the text that begins in block i
abbrev pub share : List Block → ℕ → ℕ → ℕ
share blocks j i = visits blocks j i (size_of (len_at blocks i))

-- how often block j is among those of the texts that begin in the first n blocks
abbrev pub taken : List Block → ℕ → ℕ → ℕ
taken blocks j zero = 0
taken blocks j (suc n) = share blocks j n + taken blocks j n

-- `spare` blocks from `free` on are free, each block is either free once or in one text once, the blocks of the texts
-- and the free ones are all blocks, and each block holds 64 bytes
pub record IsSound (blocks : List Block) (free spare : ℕ) : Type 0 where
  pub owned : (j : ℕ) → visits blocks j free spare + taken blocks j (length blocks) ≡ (if nat_lt j (length blocks) then 1 else 0)
  pub total : blocks_in (texts_in blocks) + spare ≡ length blocks
  pub whole : (i : ℕ) → i < length blocks → length (bytes_at blocks i) ≡ 64

-- the first n linked blocks from this one on exist and differ, and each holds 64 bytes
pub record IsChain (blocks : List Block) (first n : ℕ) : Type 0 where
  pub once : (j : ℕ) → visits blocks j first n ≤ 1
  pub inside : (j : ℕ) → length blocks ≤ j → visits blocks j first n ≡ 0
  pub whole : (i : ℕ) → i < length blocks → length (bytes_at blocks i) ≡ 64

-- the new blocks are the old ones, except that a text was put into the blocks from `first` on
pub record IsPut (old new : List Block) (first : ℕ) (text : List ℕ) : Type 0 where
  pub size : length new ≡ length old
  pub begins : len_at new first ≡ Some (length text)
  pub stored : text_from new first (length text) ≡ text
  pub links : (i : ℕ) → next_at new i ≡ next_at old i
  pub lens : (i : ℕ) → i ≢ first → len_at new i ≡ len_at old i
  pub others : (i : ℕ) → visits old i first (blocks_of (length text)) ≡ 0 → bytes_at new i ≡ bytes_at old i
  pub whole : (i : ℕ) → i < length new → length (bytes_at new i) ≡ 64

-- the new blocks are the old ones, except that no text begins in `first`, and the last of its n blocks links to `free`
pub record IsFreed (old new : List Block) (first n free : ℕ) : Type 0 where
  pub size : length new ≡ length old
  pub ends : len_at new first ≡ None
  pub link : next_at new (after old first (n - 1)) ≡ free
  pub links : (i : ℕ) → i ≢ after old first (n - 1) → next_at new i ≡ next_at old i
  pub lens : (i : ℕ) → i ≢ first → len_at new i ≡ len_at old i
  pub bytes : (i : ℕ) → bytes_at new i ≡ bytes_at old i
