-- The windows of a time by their starts, and the bytes under which a window stands.
use Rattle.std.proofs.Common.{◌≡◌, ◌∙◌, ap, append_assoc, refl, sym, subst, ℕ, zero, suc, ◌+◌, ◌*◌, ◌/◌, ◌-◌, ◌<◌, ◌≤◌, ◌^◌, List, [], ◌∷◌, ◌++◌, map, filter, Bool, true, false, cond, arith, length, drop}
use Rattle.std.proofs.Math.Bool.{or-true}
use Rattle.std.proofs.Math.Nat.{le-div_iff_mul-le}
use Rattle.std.proofs.lemmas.Bool.{and_parts}
use Rattle.std.proofs.lemmas.Bool.Decides.{Decides-eqb, nat_tests}
use Rattle.std.proofs.lemmas.List.{length-append}
use Rattle.std.proofs.lemmas.Nat.{from_be_bytes-to_be_bytes_8}
use Rattle.std.proofs.lemmas.Slice.Eq.{bytes_eq-Decides}
use Rattle.std.specs.Cmp.Derive.{both_true}
use Rattle.std.specs.Int.{w64, from_be_bytes}
use Rattle.std.specs.List.{AllByRecursion, list_any, range_with_len}
use Rattle.std.specs.Prelude.{nat_lt, IsTrue, ◌||◌, ◌==◌}
use Rattle.std.specs.Str.{bytes_eq}
use Rattle.ksql_types.specs.declared.relation.Span.{Span}
use Rattle.ksql_types.specs.declared.relation.Window.{Window}
use Rattle.ksql_types.specs.declared.value.Value.{Value}
use Rattle.ksql_nodes.specs.Entries.{Entry}
use Rattle.ksql_nodes.specs.Windows.{is_same_span, windows_of}
use Rattle.record_codec.specs.Spelling.{eight, values, IsSpellableRow}
use Rattle.record_codec.proofs.Parts.{values-apart}
use Rattle.agg_ops.specs.Totals.{is_sound_window}
use Rattle.window_store.specs.Windows.{under, start_of}

-- spans of the size of a window that start from a first moment to a last one, each later than the one before it
abbrev pub Rise : Window → ℕ → ℕ → List Span → Type 0
Rise w first last [] = Unit {0}
Rise w first last (s ∷ ss) = (first ≤ s.start) × (s.start ≤ last) × (s.end ≡ s.start + w.size) × Rise w (s.start + 1) last ss

rise-earlier : (w : Window) (first later last : ℕ) (ss : List Span) → first ≤ later → Rise w later last ss → Rise w first last ss
rise-earlier w first later last [] le h = tt
rise-earlier w first later last (s ∷ ss) le h = (omega arith, h.1, h.2, h.3)

abbrev window_at : Window → ℕ → Span
window_at w k = record { start = k * w.advance; end = k * w.advance + w.size }

-- the windows of some multiples of the advance
rise-some : (w : Window) (p : Span → Bool) (time k n : ℕ) → 0 < w.advance → k + n ≤ time / w.advance + 1 →
    Rise w (k * w.advance) time (filter p (map (window_at w) (range_with_len k n)))
rise-some w p time k zero moves few = tt
rise-some w p time k (suc n) moves few = by (p (window_at w k)) (rise-some w p time (k + 1) n moves (omega arith))
  where
    rest : List Span
    rest = filter p (map (window_at w) (range_with_len (k + 1) n))

    by : (b : Bool) → Rise w ((k + 1) * w.advance) time rest → Rise w (k * w.advance) time (cond b (window_at w k ∷ rest) rest)
    by true h =
        let le : k ≤ time / w.advance = omega arith in
        (omega arith, (le-div_iff_mul-le moves).0 le, refl, rise-earlier w (k * w.advance + 1) ((k + 1) * w.advance) time rest (omega arith) h)
    by false h = rise-earlier w (k * w.advance) ((k + 1) * w.advance) time rest (omega arith) h

pub windows-rise : (w : Window) (time : ℕ) → 0 < w.advance → Rise w 0 time (windows_of w time)
windows-rise w time moves =
    let none : 0 * w.advance ≡ 0 = omega arith in
    subst (λ k. Rise w k time (windows_of w time)) none (rise-some w (λ s. nat_lt time s.end) time 0 (time / w.advance + 1) moves (omega arith))

-- what a sound window says of its size and its grace
pub record IsSound (w : Window) : Type 0 where
  pub moves : 0 < w.advance
  pub lasts : 0 < w.size

pub sound-parts : (w : Window) → IsTrue (is_sound_window w) → IsSound w
sound-parts w sound =
    record { moves = grind (arith, nat_tests); lasts = grind (arith, nat_tests) }

pub rise-each : (w : Window) (first last : ℕ) (ss : List Span) → Rise w first last ss → AllByRecursion (λ s. (s.start ≤ last) × (s.end ≡ s.start + w.size)) ss
rise-each w first last [] h = tt
rise-each w first last (s ∷ ss) h = ((h.1, h.2), rise-each w (s.start + 1) last ss h.3)

-- the place of one of some spans that rise
pub record StandsAt (w : Window) (low high : ℕ) (spans : List Span) (s : Span) : Type 0 where
  pub first : low ≤ s.start
  pub last : s.start ≤ high
  pub end : s.end ≡ s.start + w.size
  pub before : AllByRecursion (λ a. a.start < s.start) spans

pub rise-at : (w : Window) (first last : ℕ) (before later : List Span) (s : Span) → Rise w first last (before ++ s ∷ later) → StandsAt w first last before s
rise-at w first last [] later s h = record { first = h.0; last = h.1; end = h.2; before = tt }
rise-at w first last (a ∷ before) later s h =
    let r = rise-at w (a.start + 1) last before later s h.3 in
    record { first = omega arith; last = r.last; end = r.end; before = (omega arith, r.before) }

-- ---- the bytes of a key and a start

eight-long : (n : ℕ) → length (eight n) ≡ 8
unfolding eight
eight-long n = refl

eight-read : (n : ℕ) → n < 2 ^ 64 → from_be_bytes w64 (eight n) ≡ n
unfolding eight
eight-read n small = from_be_bytes-to_be_bytes_8 n small

drop-append : (xs ys : List ℕ) → drop (length xs) (xs ++ ys) ≡ ys
drop-append [] ys = refl
drop-append (x ∷ xs) ys = drop-append xs ys

pub start-under : (key : List ℕ) (start : ℕ) → start < 2 ^ 64 → start_of (under key start) ≡ start
unfolding start_of
start-under key start small =
    let long : length (under key start) - 8 ≡ length key = omega (arith, length-append key (eight start), eight-long start) in
    ap (λ n. from_be_bytes w64 (drop n (under key start))) long ∙ ap (from_be_bytes w64) (drop-append key (eight start)) ∙ eight-read start small

-- bytes say one start
pub bytes-start : (b key : List ℕ) (m n : ℕ) → m < 2 ^ 64 → n < 2 ^ 64 → bytes_eq b (under key m) ≡ true → bytes_eq b (under key n) ≡ true → m ≡ n
bytes-start b key m n lm ln em en =
    sym (start-under key m lm) ∙ ap start_of (sym ((bytes_eq-Decides b (under key m)).0 em) ∙ (bytes_eq-Decides b (under key n)).0 en) ∙ start-under key n ln

-- keys and starts with the same bytes are the same
pub under-apart : (a b : List Value) (m n : ℕ) → IsSpellableRow a → IsSpellableRow b → m < 2 ^ 64 → n < 2 ^ 64 → under (values a) m ≡ under (values b) n → (a ≡ b) × (m ≡ n)
under-apart a b m n ha hb lm ln e =
    let p = values-apart a b (eight m) (eight n) ha hb e in
    (p.0, sym (eight-read m lm) ∙ ap (from_be_bytes w64) p.1 ∙ eight-read n ln)

-- ---- one of some spans

pub span-self : (s : Span) → is_same_span s s ≡ true
span-self s = both_true ((Decides-eqb s.start s.start).1 refl) ((Decides-eqb s.end s.end).1 refl)

pub span-same : (a c : Span) → is_same_span a c ≡ true → a ≡ c
span-same a c is =
    let p = and_parts (a.start == c.start) (a.end == c.end) is in
    let start : a.start ≡ c.start = (Decides-eqb a.start c.start).0 p.0 in
    let end : a.end ≡ c.end = (Decides-eqb a.end c.end).0 p.1 in
    λ i. record { start = start i; end = end i }

pub span-among : (before later : List Span) (s : Span) → list_any (is_same_span s) (before ++ s ∷ later) ≡ true
span-among [] later s = ap (λ b. b || list_any (is_same_span s) later) (span-self s)
span-among (a ∷ before) later s = ap (λ b. is_same_span s a || b) (span-among before later s) ∙ or-true (is_same_span s a)

pub each-among : (before ss : List Span) → AllByRecursion (λ s. list_any (is_same_span s) (before ++ ss) ≡ true) ss
each-among before [] = tt
each-among before (s ∷ ss) = (
  span-among before ss s,
  subst (λ (all : List Span). AllByRecursion (λ s. list_any (is_same_span s) all ≡ true) ss) (append_assoc before (s ∷ []) ss) (each-among (before ++ s ∷ []) ss),
)

-- a test that only spans of one start pass
abbrev pub IsOfOneStart : (Span → Bool) → Type 0
IsOfOneStart p = (a c : Span) → a.start < 2 ^ 64 → c.start < 2 ^ 64 → p a ≡ true → p c ≡ true → a.start ≡ c.start

none-later : (w : Window) (first last : ℕ) (p : Span → Bool) (s : Span) (ss : List Span) → IsOfOneStart p → last < 2 ^ 64 → s.start ≤ last → p s ≡ true → s.start < first → Rise w first last ss →
    filter p ss ≡ []
none-later w first last p s [] one small bound is later h = refl
none-later w first last p s (a ∷ ss) one small bound is later h =
    ap (λ b. cond b (a ∷ filter p ss) (filter p ss)) (by (p a) refl) ∙ none-later w (a.start + 1) last p s ss one small bound is (omega arith) h.3
  where
    by : (b : Bool) → p a ≡ b → p a ≡ false
    by true e = absurd (let same : s.start ≡ a.start = one s a (omega arith) (omega arith) is e in omega arith)
    by false e = e

-- of spans that rise such a test is passed by one at most
pub map-once : (w : Window) (first last : ℕ) (p : Span → Bool) (e : Entry) (ss : List Span) → IsOfOneStart p → last < 2 ^ 64 → Rise w first last ss →
    map (λ s. e) (filter p ss) ≡ cond (list_any p ss) (e ∷ []) []
map-once w first last p e [] one small h = refl
map-once w first last p e (s ∷ ss) one small h = by (p s) refl (map-once w (s.start + 1) last p e ss one small h.3)
  where
    by : (b : Bool) → p s ≡ b → map (λ s. e) (filter p ss) ≡ cond (list_any p ss) (e ∷ []) [] → map (λ s. e) (cond (p s) (s ∷ filter p ss) (filter p ss)) ≡ cond (p s || list_any p ss) (e ∷ []) []
    by true is ih =
        ap (λ b. map (λ s. e) (cond b (s ∷ filter p ss) (filter p ss))) is
        ∙ ap (λ (rest : List Span). e ∷ map (λ s. e) rest) (none-later w (s.start + 1) last p s ss one small h.1 is (omega arith) h.3)
        ∙ sym (ap (λ b. cond (b || list_any p ss) (e ∷ []) []) is)
    by false is ih =
        ap (λ b. map (λ s. e) (cond b (s ∷ filter p ss) (filter p ss))) is
        ∙ ih
        ∙ sym (ap (λ b. cond (b || list_any p ss) (e ∷ []) []) is)
