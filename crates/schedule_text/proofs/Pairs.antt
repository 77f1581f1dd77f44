-- Pairs of words, and whether each topic is named once.
use Rattle.std.proofs.Common.{◌≡◌, ℕ, ◌+◌, ◌<◌, List, [], ◌∷◌, ◌++◌, length, take, drop, get_or, map, Bool, true, false, not, cond, None, Bor, refl, sym, ap, ap₂, ◌∙◌, arith}
use Rattle.std.specs.Prelude.{◌&&◌, ◌||◌}
use Rattle.std.specs.Cmp.Lexicographic.{slice_cmp}
use Rattle.std.specs.Ordering.{is_eq, nat_cmp}
use Rattle.std.specs.Str.{bytes_eq}
use Rattle.std.proofs.lemmas.List.{drop_more, map-append, take_more}
use Rattle.std.proofs.lemmas.List.Folds.{list_any-append}
use Rattle.std.proofs.lemmas.Map.Text.{is_eq-slice_cmp}
use Rattle.schedule_text.specs.declared.forms.Pair.{Pair as LentPair}
use Rattle.schedule_text.specs.Forms.{is_among, name_once, pair_view, pairs_of}

-- a topic without a count is no pair
pub pairs_of-odd : (words : List (Bor (List ℕ))) → 0 < length words → length words < 2 → pairs_of (map (λ word. word.now) words) ≡ None
pairs_of-odd [] some few = absurd (omega arith)
pairs_of-odd (word ∷ []) some few = refl
pairs_of-odd (word ∷ next ∷ more) some few = absurd (omega arith)

-- the topics of pairs
abbrev pub topics_of : List LentPair → List (List ℕ)
topics_of pairs = map (λ pair. pair.topic.now) pairs

-- one pair more
topics-more : (pairs : List LentPair) (i : ℕ) (d : LentPair) → i < length pairs → topics_of (take (i + 1) pairs) ≡ topics_of (take i pairs) ++ (get_or pairs i d).topic.now ∷ []
topics-more pairs i d inside = ap topics_of (take_more pairs i d inside) ∙ map-append (λ (pair : LentPair). pair.topic.now) (take i pairs) (get_or pairs i d ∷ [])

-- a topic that is new
pub name_once-more : (pairs : List LentPair) (i : ℕ) (d : LentPair) → i < length pairs → is_among (topics_of (take i pairs)) (get_or pairs i d).topic.now ≡ false
    → name_once (topics_of (take i pairs)) (map pair_view (drop i pairs)) ≡ name_once (topics_of (take (i + 1) pairs)) (map pair_view (drop (i + 1) pairs))
name_once-more pairs i d inside new =
    ap (λ (left : List LentPair). name_once (topics_of (take i pairs)) (map pair_view left)) (drop_more pairs i d inside)
    ∙ ap (λ (b : Bool). not b && name_once (topics_of (take i pairs) ++ (get_or pairs i d).topic.now ∷ []) (map pair_view (drop (i + 1) pairs))) new
    ∙ ap (λ (before : List (List ℕ)). name_once before (map pair_view (drop (i + 1) pairs))) (sym (topics-more pairs i d inside))

-- put there now, or before
either : (same had : Bool) → cond same true had ≡ (had || (same || false))
either true true = refl
either true false = refl
either false true = refl
either false false = refl

-- one topic more
pub is_among-more : (pairs : List LentPair) (i : ℕ) (d : LentPair) (topic : List ℕ) (had has : Bool) → i < length pairs → had ≡ is_among (topics_of (take i pairs)) topic
    → has ≡ cond (is_eq (slice_cmp nat_cmp (get_or pairs i d).topic.now topic)) true had → has ≡ is_among (topics_of (take (i + 1) pairs)) topic
is_among-more pairs i d topic had has inside before after =
    after
    ∙ ap₂ (λ (same old : Bool). cond same true old) (is_eq-slice_cmp (get_or pairs i d).topic.now topic) before
    ∙ either (bytes_eq (get_or pairs i d).topic.now topic) (is_among (topics_of (take i pairs)) topic)
    ∙ sym (list_any-append (λ other. bytes_eq other topic) (topics_of (take i pairs)) ((get_or pairs i d).topic.now ∷ []))
    ∙ ap (λ topics. is_among topics topic) (sym (topics-more pairs i d inside))

-- what was added wasn't there
pub is_new : {among : Bool} (added had : Bool) → added ≡ not had → added ≡ true → had ≡ among → among ≡ false
is_new added true is was same = cc
is_new added false is was same = sym same
