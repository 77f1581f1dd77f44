-- What is skipped: how long it is, and how the bytes divide.
use Rattle.std.proofs.Common.{◌≡◌, ◌∙◌, ap, refl, sym, ℕ, suc, ◌+◌, ◌-◌, ◌*◌, ◌<◌, ◌≤◌, Bool, List, ◌∷◌, ◌++◌, length, get_or, take, drop, Option, Some, None, append_assoc, length-append, arith, []}
use Rattle.std.specs.List.{flat_map}
use Rattle.std.specs.Int.{w32, w64, cast_unsigned}
use Rattle.std.proofs.lemmas.List.{take_all}
use Rattle.std.proofs.lemmas.List.Elements.{All-tail, All-head}
use Rattle.ksql_types.specs.declared.value.Value.{Value}
use Rattle.ksql_types.specs.declared.value.Value.TheVariants as sql
use Rattle.ksql_types.specs.declared.relation.Span.{Span}
use Rattle.ksql_place.specs.declared.stamp.Stamp.{Stamp}
use Rattle.ksql_place.specs.declared.change.Change.{Change}
use Rattle.record_codec.specs.Spelling.{four, eight, truth, value, values, optional, stamp, path, span, is_turned, head, body, spelling, before_body, ThisMany, IsSpellableValue}
use Rattle.record_codec.proofs.Readers.{length-four, length-eight}

-- ---- lengths

length-stamp : (s : Stamp) → length (stamp s) ≡ 32
length-stamp s =
    let a = length-append (eight s.feed ++ eight s.high ++ four s.topic ++ four s.part) (eight s.offset) in
    let b = length-append (eight s.feed ++ eight s.high ++ four s.topic) (four s.part) in
    let c = length-append (eight s.feed ++ eight s.high) (four s.topic) in
    let d = length-append (eight s.feed) (eight s.high) in
    omega (arith, a, b, c, d, length-eight s.feed, length-eight s.high, length-four s.topic, length-four s.part, length-eight s.offset)

pub length-front : (of_table : Bool) (s : Stamp) → length (head of_table ++ stamp s) ≡ 34
length-front of_table s = omega (arith, length-append (head of_table) (stamp s), length-stamp s)

pub length-path : (numbers : List ℕ) → length (flat_map four numbers) ≡ length numbers * 4
length-path [] = refl
length-path (n ∷ numbers) = omega (arith, length-append (four n) (flat_map four numbers), length-four n, length-path numbers)

length-span : (s : Span) → length (span s) ≡ 16
length-span s = omega (arith, length-append (eight s.start) (eight s.end), length-eight s.start, length-eight s.end)

-- ---- the bytes after the first one or two

pub after_first : (bytes : List ℕ) (b : ℕ) → 1 ≤ length bytes → get_or bytes 0 0 ≡ b → bytes ≡ b ∷ take (length bytes - 1) (drop 1 bytes)
after_first [] b h e = absurd (omega (arith, h))
after_first (x ∷ xs) b h e =
    let all : take (suc (length xs) - 1) xs ≡ xs = take_all (suc (length xs) - 1) xs (omega arith) in
    ap (λ (y : ℕ). y ∷ xs) e ∙ ap (λ (ys : List ℕ). b ∷ ys) (sym all)

pub after_two : (a b : ℕ) (bytes : List ℕ) → take (length (a ∷ b ∷ bytes) - 2) bytes ≡ bytes
after_two a b bytes = take_all (length (a ∷ b ∷ bytes) - 2) bytes (omega arith)

-- ---- what follows the byte for a kind

abbrev Content : ℕ → List ℕ → List ℕ → Type 0
Content n rest after = (b : List ℕ) × (length b ≡ n) × (rest ≡ b ++ after)

pub int-content : (v : Value) (rest after : List ℕ) → 1 ∷ rest ≡ value v ++ after → Content 4 rest after
int-content sql.Null rest after e = absurd cc
int-content (sql.Int z) rest after e = (four (cast_unsigned w32 z), length-four (cast_unsigned w32 z), cc)
int-content (sql.Big z) rest after e = absurd cc
int-content (sql.Txt t) rest after e = absurd cc
int-content (sql.Bool b) rest after e = absurd cc

pub big-content : (v : Value) (rest after : List ℕ) → 2 ∷ rest ≡ value v ++ after → Content 8 rest after
big-content sql.Null rest after e = absurd cc
big-content (sql.Int z) rest after e = absurd cc
big-content (sql.Big z) rest after e = (eight (cast_unsigned w64 z), length-eight (cast_unsigned w64 z), cc)
big-content (sql.Txt t) rest after e = absurd cc
big-content (sql.Bool b) rest after e = absurd cc

pub truth-content : (v : Value) (rest after : List ℕ) → 4 ∷ rest ≡ value v ++ after → Content 1 rest after
truth-content sql.Null rest after e = absurd cc
truth-content (sql.Int z) rest after e = absurd cc
truth-content (sql.Big z) rest after e = absurd cc
truth-content (sql.Txt t) rest after e = absurd cc
truth-content (sql.Bool b) rest after e = (truth b ∷ [], refl, cc)

pub span-content : (o : Option Span) (rest after : List ℕ) → 1 ∷ rest ≡ optional span o ++ after → Content 16 rest after
span-content None rest after e = absurd cc
span-content (Some s) rest after e = (span s, length-span s, cc)

-- ---- one value of several

pub first-value : (vs : List Value) (count : ℕ) (bytes after : List ℕ) → 0 < count → ThisMany count IsSpellableValue vs → bytes ≡ flat_map value vs ++ after
    → (v : Value) × (more : List Value) × IsSpellableValue v × ThisMany (count - 1) IsSpellableValue more × (bytes ≡ value v ++ (flat_map value more ++ after))
first-value [] count bytes after some h e = absurd (omega (arith, some, h.0))
first-value (v ∷ more) count bytes after some h e =
    (v, more, All-head IsSpellableValue v more h.1, (omega (arith, h.0), All-tail IsSpellableValue v more h.1), e ∙ append_assoc (value v) (flat_map value more) after)

-- ---- a change

pub in-three : (a b c rest : List ℕ) → a ++ b ++ c ++ rest ≡ a ++ (b ++ (c ++ rest))
in-three a b c rest = simp append_assoc

regroup : (h s a t w k r : List ℕ) → h ++ s ++ a ++ t ++ w ++ k ++ r ≡ (h ++ s ++ a ++ t ++ (w ++ k)) ++ r
regroup h s a t w k r = simp append_assoc

pub spelling-parts : (c : Change) → spelling c ≡ before_body c ++ body c.body
unfolding spelling
spelling-parts c = regroup (head (is_turned c.body)) (stamp c.place.stamp) (path c.place.path) (eight c.time) (optional span c.span) (values c.key) (body c.body)
