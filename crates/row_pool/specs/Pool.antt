-- What contracts see of a pool.
use Rattle.std.specs.Prelude.{◌≡◌, ◌≢◌, ℕ, ◌+◌, ◌/◌, max, List, length, sum_by, Option, IsSome, refl}
use Rattle.std.specs.Option.{option_map_or}
use Rattle.std.specs.Ordering.{nat_cmp}
use Rattle.std.specs.Coded.{Coded, code_by, coded×, coded_ℕ, coded_list}
use Rattle.std.specs.FinMap as map

-- the blocks of 64 bytes that a text of this length takes
abbrev pub blocks_of : ℕ → ℕ
blocks_of len = max 1 ((len + 63) / 64)

-- the text of each live ticket, by its number, and the number of free blocks
pub record Texts : Type 0 where
  pub texts : map.FinMap nat_cmp (List ℕ)
  pub spare : ℕ

-- a pool is coded as the pair of its fields
abbrev pub texts_code : Coded Texts
texts_code =
    code_by
    (map.FinMap nat_cmp (List ℕ) × ℕ)
    (coded× (map.code coded_ℕ (coded_list coded_ℕ)) coded_ℕ)
    (λ t. (t.texts, t.spare))
    (λ p. record { texts = p.0; spare = p.1 })
    (λ _. refl)

-- the text of a ticket, if it is live
abbrev pub text_of : Texts → ℕ → Option (List ℕ)
text_of pool ticket = map.get pool.texts ticket

-- the ticket is one of the pool's, and wasn't freed
abbrev pub IsLive : Texts → ℕ → Type 0
IsLive pool ticket = IsSome (text_of pool ticket)

-- the ticket has this text now, or none, and every other ticket is unchanged
pub record Updates (old new : Texts) (ticket : ℕ) (text : Option (List ℕ)) : Type 0 where
  pub changed : text_of new ticket ≡ text
  pub others : (other : ℕ) → other ≢ ticket → text_of new other ≡ text_of old other

-- the blocks of a ticket's text, if it is live
abbrev pub blocks_under : Texts → ℕ → ℕ
blocks_under pool ticket = option_map_or (λ text. blocks_of (length text)) (text_of pool ticket) 0

-- the blocks of these texts
abbrev pub blocks_in : map.FinMap nat_cmp (List ℕ) → ℕ
blocks_in texts = sum_by (λ text. blocks_of (length text)) (map.values texts)

-- the blocks of the live tickets
abbrev pub used_blocks : Texts → ℕ
used_blocks pool = blocks_in pool.texts
