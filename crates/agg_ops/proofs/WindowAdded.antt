-- The entries that were added to a window, by the bytes under which it stands.
use Rattle.std.proofs.Common.{◌≡◌, ◌∙◌, ap, ap₂, refl, sym, ℕ, ◌+◌, ◌-◌, ◌<◌, ◌≤◌, ◌^◌, List, [], ◌∷◌, ◌++◌, map, Bool, true, false, cond, arith}
use Rattle.std.proofs.Math.Bool.{and-true}
use Rattle.std.proofs.lemmas.Bool.{and_parts}
use Rattle.std.proofs.lemmas.Bool.Decides.{Decides-ltb}
use Rattle.std.proofs.lemmas.Grind.{flat_map-append}
use Rattle.std.proofs.lemmas.List.{append-nil}
use Rattle.std.proofs.lemmas.Slice.Eq.{bytes_eq-Decides}
use Rattle.std.specs.Cmp.{both_ways}
use Rattle.std.specs.Cmp.Derive.{both_true}
use Rattle.std.specs.List.{AllByRecursion, list_any}
use Rattle.std.specs.Prelude.{nat_lt, not, ◌&&◌, filter, flat_map}
use Rattle.std.specs.Str.{bytes_eq}
use Rattle.ksql_types.specs.declared.relation.Span.{Span}
use Rattle.ksql_types.specs.declared.relation.Window.{Window}
use Rattle.ksql_types.specs.declared.value.Value.{Value}
use Rattle.ksql_nodes.specs.Entries.{Entry, is_same_key, latest_time}
use Rattle.ksql_nodes.specs.Windows.{Timed, added, is_added, is_same_span, timed, windows_of, with_times}
use Rattle.ksql_nodes.proofs.Keys.{key-decides}
use Rattle.record_codec.specs.Spelling.{values, IsSpellableRow}
use Rattle.operator.specs.Kept.{is_under}
use Rattle.operator.specs.StandsFor.{HasSpelledKey}
use Rattle.window_store.specs.Windows.{under, start_of, has_ended}
use Rattle.agg_ops.specs.WindowGroups.{added_upto, is_one_of}
use Rattle.agg_ops.proofs.Lists.{All-both, All-weaker, filter-none, filter-same, flat_map-same, list_any-and, list_any-same}
use Rattle.agg_ops.proofs.WindowStarts.{IsOfOneStart, bytes-start, each-among, map-once, rise-each, span-same, span-self, start-under, under-apart, windows-rise}
use Rattle.agg_ops.proofs.WindowTimes.{time-at, times-each, times-late, times-more}

-- ---- the value under some bytes

-- what `is_under` and `is_one_of` test of a window: whether it is open, and under these bytes
abbrev pub is_open_at : Window → ℕ → List ℕ → List Value → Span → Bool
is_open_at w time b key s = nat_lt time (s.end + w.grace) && bytes_eq b (under (values key) s.start)

pub open-bytes : (w : Window) (time : ℕ) (b : List ℕ) (key : List Value) (s : Span) → is_open_at w time b key s ≡ true → bytes_eq b (under (values key) s.start) ≡ true
open-bytes w time b key s is = (and_parts (nat_lt time (s.end + w.grace)) (bytes_eq b (under (values key) s.start)) is).1

open-once : (w : Window) (time : ℕ) (b : List ℕ) (key : List Value) → IsOfOneStart (is_open_at w time b key)
open-once w time b key a c la lc ia ic = bytes-start b (values key) a.start c.start la lc (open-bytes w time b key a ia) (open-bytes w time b key c ic)

under-parts : (w : Window) (time : ℕ) (b : List ℕ) (t : Timed) (s : Span) → is_under w time b t s ≡ true → (is_added w s t ≡ true) × (is_open_at w time b t.entry.change.key s ≡ true)
under-parts w time b t s = and_parts (is_added w s t) (is_open_at w time b t.entry.change.key s)

under-once : (w : Window) (time : ℕ) (b : List ℕ) (t : Timed) → IsOfOneStart (is_under w time b t)
under-once w time b t a c la lc ia ic = open-once w time b t.entry.change.key a c la lc (under-parts w time b t a ia).1 (under-parts w time b t c ic).1

-- an entry, once for each of its windows that passes a test
abbrev passing : Window → (Span → Bool) → Entry → List Entry
passing w p e = map (λ s. e) (filter p (windows_of w e.change.time))

passing-same : (w : Window) (p q : Span → Bool) (e : Entry) → AllByRecursion (λ s. p s ≡ q s) (windows_of w e.change.time) → passing w p e ≡ passing w q e
passing-same w p q e same = ap (map (λ s. e)) (filter-same p q (windows_of w e.change.time) same)

passing-once : (w : Window) (p : Span → Bool) (e : Entry) → IsOfOneStart p → 0 < w.advance → e.change.time < 2 ^ 64 →
    passing w p e ≡ cond (list_any p (windows_of w e.change.time)) (e ∷ []) []
passing-once w p e one moves small = map-once w 0 e.change.time p e (windows_of w e.change.time) one small (windows-rise w e.change.time moves)

-- ---- one more entry

twice : (a b : Bool) → (a && (a && b)) ≡ (a && b)
twice true b = refl
twice false b = refl

own-under : (w : Window) (time : ℕ) (b : List ℕ) (t : Timed) (s : Span) → t.stream_time ≡ time → list_any (is_same_span s) (windows_of w t.entry.change.time) ≡ true →
    is_under w time b t s ≡ is_open_at w time b t.entry.change.key s
own-under w time b t s now own =
    ap₂ (λ any at. (any && nat_lt at (s.end + w.grace)) && is_open_at w time b t.entry.change.key s) own now
    ∙ twice (nat_lt time (s.end + w.grace)) (bytes_eq b (under (values t.entry.change.key) s.start))

pub added-more : (w : Window) (time : ℕ) (es : List Entry) (e : Entry) (b : List ℕ) → 0 < w.advance → e.change.time < 2 ^ 64 → time ≡ latest_time (es ++ e ∷ []) →
    added_upto time w (es ++ e ∷ []) b ≡ added_upto time w es b ++ cond (is_one_of time w e.change.key (windows_of w e.change.time) b) (e ∷ []) []
added-more w time es e b moves small now =
    let one : Timed → List Entry = λ t. passing w (is_under w time b t) t.entry in
    let last : Timed = timed 1 es e in
    let ws : List Span = windows_of w e.change.time in
    let same : AllByRecursion (λ s. is_under w time b last s ≡ is_open_at w time b e.change.key s) ws =
    All-weaker (λ s. list_any (is_same_span s) ws ≡ true) (λ s. is_under w time b last s ≡ is_open_at w time b e.change.key s)
    (λ s own. own-under w time b last s (time-at es e ∙ sym now) own) ws (each-among [] ws) in
    ap (flat_map one) (times-more es e)
    ∙ flat_map-append one (with_times 1 es) (last ∷ [])
    ∙ ap (λ mine. added_upto time w es b ++ mine)
    (append-nil (one last)
    ∙ passing-same w (is_under w time b last) (is_open_at w time b e.change.key) e same
    ∙ passing-once w (is_open_at w time b e.change.key) e (open-once w time b e.change.key) moves small)

-- ---- a later stream time

open-later : (c u : Bool) → cond c false u ≡ true → (c ≡ false) × (u ≡ true)
open-later true u h = absurd cc
open-later false u h = (refl, h)

-- at a later stream time the windows are open that have not ended the grace before it
under-later : (w : Window) (time later : ℕ) (b : List ℕ) (t : Timed) (s : Span) → 0 < w.size → time ≤ later → s.start < 2 ^ 64 → s.end ≡ s.start + w.size →
    is_under w later b t s ≡ cond (has_ended w.size (later - w.grace) b) false (is_under w time b t s)
under-later w time later b t s lasts le small ends = both_ways (is_under w later b t s) (cond (has_ended w.size (later - w.grace) b) false (is_under w time b t s)) on back
  where
    key : List ℕ
    key = values t.entry.change.key

    start : bytes_eq b (under key s.start) ≡ true → start_of b ≡ s.start
    start is = ap start_of ((bytes_eq-Decides b (under key s.start)).0 is) ∙ start-under key s.start small

    on : is_under w later b t s ≡ true → cond (has_ended w.size (later - w.grace) b) false (is_under w time b t s) ≡ true
    on is =
        let p = under-parts w later b t s is in
        let q = and_parts (nat_lt later (s.end + w.grace)) (bytes_eq b (under key s.start)) p.1 in
        let lt : later < s.end + w.grace = (Decides-ltb later (s.end + w.grace)).0 q.0 in
        let at : start_of b ≡ s.start = start q.1 in
        let before : later - w.grace < start_of b + w.size = omega arith in
        let now : time < s.end + w.grace = omega arith in
        ap (λ x. cond (not x) false (is_under w time b t s)) ((Decides-ltb (later - w.grace) (start_of b + w.size)).1 before)
        ∙ both_true p.0 (both_true ((Decides-ltb time (s.end + w.grace)).1 now) q.1)

    back : cond (has_ended w.size (later - w.grace) b) false (is_under w time b t s) ≡ true → is_under w later b t s ≡ true
    back is =
        let o = open-later (has_ended w.size (later - w.grace) b) (is_under w time b t s) is in
        let p = under-parts w time b t s o.1 in
        let q = and_parts (nat_lt time (s.end + w.grace)) (bytes_eq b (under key s.start)) p.1 in
        let at : start_of b ≡ s.start = start q.1 in
        let before : later - w.grace < start_of b + w.size = (Decides-ltb (later - w.grace) (start_of b + w.size)).0 (not-false (nat_lt (later - w.grace) (start_of b + w.size)) o.0) in
        let lt : later < s.end + w.grace = omega arith in
        both_true p.0 (both_true ((Decides-ltb later (s.end + w.grace)).1 lt) q.1)
      where
        not-false : (x : Bool) → not x ≡ false → x ≡ true
        not-false true h = refl
        not-false false h = absurd cc

pub added-later : (w : Window) (time later : ℕ) (es : List Entry) (b : List ℕ) → 0 < w.advance → 0 < w.size → time ≤ later → later < 2 ^ 64 → latest_time es ≤ time →
    added_upto later w es b ≡ cond (has_ended w.size (later - w.grace) b) [] (added_upto time w es b)
added-later w time later es b moves lasts le small late =
    flat_map-same (λ t. passing w (is_under w later b t) t.entry) (left (has_ended w.size (later - w.grace) b)) (with_times 1 es)
    (All-weaker (λ t. t.entry.change.time ≤ time) (λ t. passing w (is_under w later b t) t.entry ≡ left (has_ended w.size (later - w.grace) b) t) each (with_times 1 es) (times-late es time late))
    ∙ all (has_ended w.size (later - w.grace) b)
  where
    left : Bool → Timed → List Entry
    left c t = passing w (λ s. cond c false (is_under w time b t s)) t.entry

    each : (t : Timed) → t.entry.change.time ≤ time → passing w (is_under w later b t) t.entry ≡ left (has_ended w.size (later - w.grace) b) t
    each t early =
        let ws : List Span = windows_of w t.entry.change.time in
        passing-same w (is_under w later b t) (λ s. cond (has_ended w.size (later - w.grace) b) false (is_under w time b t s)) t.entry
        (All-weaker (λ s. (s.start ≤ t.entry.change.time) × (s.end ≡ s.start + w.size)) (λ s. is_under w later b t s ≡ cond (has_ended w.size (later - w.grace) b) false (is_under w time b t s))
        (λ s h. under-later w time later b t s lasts le (omega arith) h.1) ws (rise-each w 0 t.entry.change.time ws (windows-rise w t.entry.change.time moves)))

    none : (ts : List Timed) → flat_map (left true) ts ≡ []
    none [] = refl
    none (t ∷ ts) = ap₂ (λ (a c : List Entry). a ++ c) (ap (map (λ s. t.entry)) (filter-none (windows_of w t.entry.change.time))) (none ts)

    all : (c : Bool) → flat_map (left c) (with_times 1 es) ≡ cond c [] (added_upto time w es b)
    all true = none (with_times 1 es)
    all false = refl

-- ---- one window

absorb : (k l q : Bool) → ((k && (l && q)) && l) ≡ (k && (l && q))
absorb true true q = and-true q
absorb true false q = refl
absorb false l q = refl

-- a window of an entry is under the bytes of an open window of a key where it is that window, and the entry has that
-- key
under-own : (w : Window) (time : ℕ) (key : List Value) (s : Span) (t : Timed) (a : Span) → IsSpellableRow key → IsSpellableRow t.entry.change.key → s.start < 2 ^ 64 → a.start < 2 ^ 64 →
    s.end ≡ s.start + w.size → a.end ≡ a.start + w.size → nat_lt time (s.end + w.grace) ≡ true →
    is_under w time (under (values key) s.start) t a ≡ ((is_same_key t.entry.change.key key && is_added w s t) && is_same_span s a)
under-own w time key s t a hk ht ls la es ea open_at = both_ways (is_under w time (under (values key) s.start) t a) ((is_same_key t.entry.change.key key && is_added w s t) && is_same_span s a) on back
  where
    on : is_under w time (under (values key) s.start) t a ≡ true → ((is_same_key t.entry.change.key key && is_added w s t) && is_same_span s a) ≡ true
    on is =
        let p = under-parts w time (under (values key) s.start) t a is in
        let bytes = open-bytes w time (under (values key) s.start) t.entry.change.key a p.1 in
        let same = under-apart key t.entry.change.key s.start a.start hk ht ls la ((bytes_eq-Decides (under (values key) s.start) (under (values t.entry.change.key) a.start)).0 bytes) in
        let end : s.end ≡ a.end = es ∙ ap (λ n. n + w.size) same.1 ∙ sym ea in
        let span : s ≡ a = λ i. record { start = same.1 i; end = end i } in
        both_true
        (both_true ((key-decides t.entry.change.key key).1 (sym same.0)) (ap (λ x. is_added w x t) span ∙ p.0))
        (ap (is_same_span s) (sym span) ∙ span-self s)

    back : ((is_same_key t.entry.change.key key && is_added w s t) && is_same_span s a) ≡ true → is_under w time (under (values key) s.start) t a ≡ true
    back is =
        let p = and_parts (is_same_key t.entry.change.key key && is_added w s t) (is_same_span s a) is in
        let q = and_parts (is_same_key t.entry.change.key key) (is_added w s t) p.0 in
        let span : s ≡ a = span-same s a p.1 in
        let same : t.entry.change.key ≡ key = (key-decides t.entry.change.key key).0 q.0 in
        both_true (ap (λ x. is_added w x t) (sym span) ∙ q.1)
        (both_true (ap (λ (x : Span). nat_lt time (x.end + w.grace)) (sym span) ∙ open_at)
        ((bytes_eq-Decides (under (values key) s.start) (under (values t.entry.change.key) a.start)).1 (ap₂ (λ k (x : Span). under (values k) x.start) (sym same) span)))

flat_map-kept : (f : Timed → List Entry) (p : Timed → Bool) (ts : List Timed) → AllByRecursion (λ t. f t ≡ cond (p t) (t.entry ∷ []) []) ts → flat_map f ts ≡ map (λ t. t.entry) (filter p ts)
flat_map-kept f p [] h = refl
flat_map-kept f p (t ∷ ts) h = ap₂ (λ a b. a ++ b) h.0 (flat_map-kept f p ts h.1) ∙ by (p t)
  where
    by : (c : Bool) → cond c (t.entry ∷ []) [] ++ map (λ t. t.entry) (filter p ts) ≡ map (λ t. t.entry) (cond c (t ∷ filter p ts) (filter p ts))
    by true = refl
    by false = refl

-- the entries under the bytes of an open window of a key are those that were added to it
pub added-under : (w : Window) (time : ℕ) (es : List Entry) (key : List Value) (s : Span) → 0 < w.advance → time < 2 ^ 64 → latest_time es ≤ time → AllByRecursion HasSpelledKey es → IsSpellableRow key →
    s.start ≤ time → s.end ≡ s.start + w.size → nat_lt time (s.end + w.grace) ≡ true →
    added_upto time w es (under (values key) s.start) ≡ added w s key (with_times 1 es)
added-under w time es key s moves small late keys spelled early ends open_at =
    flat_map-kept (λ t. passing w (is_under w time b t) t.entry) (λ t. is_same_key t.entry.change.key key && is_added w s t) (with_times 1 es)
    (All-weaker (λ t. HasSpelledKey t.entry × (t.entry.change.time ≤ time)) (λ t. passing w (is_under w time b t) t.entry ≡ cond (is_same_key t.entry.change.key key && is_added w s t) (t.entry ∷ []) []) each
    (with_times 1 es) (All-both (λ t. HasSpelledKey t.entry) (λ t. t.entry.change.time ≤ time) (with_times 1 es) (times-each HasSpelledKey es keys) (times-late es time late)))
  where
    b : List ℕ
    b = under (values key) s.start

    each : (t : Timed) → HasSpelledKey t.entry × (t.entry.change.time ≤ time) → passing w (is_under w time b t) t.entry ≡ cond (is_same_key t.entry.change.key key && is_added w s t) (t.entry ∷ []) []
    each t h =
        let ws : List Span = windows_of w t.entry.change.time in
        let mine : Bool = is_same_key t.entry.change.key key && is_added w s t in
        let bound : t.entry.change.time < 2 ^ 64 = omega (arith, h.1) in
        let same : AllByRecursion (λ a. is_under w time b t a ≡ (mine && is_same_span s a)) ws =
        All-weaker (λ a. (a.start ≤ t.entry.change.time) × (a.end ≡ a.start + w.size)) (λ a. is_under w time b t a ≡ (mine && is_same_span s a))
        (λ a g. under-own w time key s t a spelled h.0 (omega arith) (omega arith) ends g.1 open_at) ws (rise-each w 0 t.entry.change.time ws (windows-rise w t.entry.change.time moves)) in
        passing-once w (is_under w time b t) t.entry (under-once w time b t) moves bound
        ∙ ap (λ c. cond c (t.entry ∷ []) [])
        (list_any-same (is_under w time b t) (λ a. mine && is_same_span s a) ws same
        ∙ list_any-and mine (is_same_span s) ws
        ∙ absorb (is_same_key t.entry.change.key key) (list_any (is_same_span s) ws) (nat_lt t.stream_time (s.end + w.grace)))
