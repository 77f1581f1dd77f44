-- How windows are taken away.
use Rattle.std.proofs.Common.{◌≡◌, ℕ, ◌+◌, ◌<◌, ◌≤◌, Bool, true, false, cond, List, [], ◌∷◌, All, Contains, IsSome, is_some, Option, None, Some, IfSome, slice_get, take, get_or, length, unwrap_or, option_map, ◌⊎◌, inl, inr, ◌↔◌, refl, sym, ap, subst, ◌∙◌, true≢false, arith}
use Rattle.std.proofs.lemmas.List.Elements.{All-nil, All-more, All-weaker, All-contains}
use Rattle.std.proofs.lemmas.Map.Keys.{le_from_not_gt}
use Rattle.std.proofs.lemmas.Map.Lookups.{exact_unsigned}
use Rattle.std.proofs.lemmas.Map.Views.{tells_apart}
use Rattle.std.proofs.lemmas.Option.{same_Some}
use Rattle.std.specs.BTreeMap as tree
use Rattle.std.specs.BTreeMap.{is_at, btree_map_len}
use Rattle.std.specs.Cmp.Lexicographic.{bytes_decides}
use Rattle.std.specs.FinMap as finite
use Rattle.std.specs.Global.{Vec}
use Rattle.std.specs.Ordering.{nat_cmp}
use Rattle.std.specs.Str.{bytes_eq}
use Rattle.state_store.specs.Store.{Values, Content}
use Rattle.state_store.proofs.ReplayLemmas.{get-with_value}
use Rattle.window_store.specs.Windows.{IsWindowKey, start_of}
use Rattle.window_store.specs.Starts.{Starts, noted, IsOfStart, IsIndex}

-- ---- keys that are deleted, one after another

-- bytes have no value in a map
abbrev pub IsGone : Values → List ℕ → Type 0
IsGone m b = finite.get m b ≡ None

-- bytes have the value that they had, or are among some keys and have none
abbrev pub IsLeft : List (List ℕ) → Values → Values → List ℕ → Type 0
IsLeft keys old new b = (finite.get new b ≡ finite.get old b) ⊎ (Contains keys b × IsGone new b)

still_gone : (m new : Values) (key b : List ℕ) → new ≡ finite.remove m key → IsGone m b → IsGone new b
still_gone m new key b e h =
    ap (λ (m : Values). finite.get m b) e ∙ get-with_value m key None b ∙ by (bytes_eq b key)
  where
    by : (t : Bool) → cond t None (finite.get m b) ≡ None
    by true = refl
    by false = h

now_gone : (m new : Values) (key : List ℕ) → new ≡ finite.remove m key → IsGone new key
now_gone m new key e =
    ap (λ (m : Values). finite.get m key) e ∙ get-with_value m key None key
    ∙ ap (λ t. cond t None (finite.get m key)) ((bytes_decides key key).1 refl)

pub gone-more : (m new : Values) (keys : List (List ℕ)) (i : ℕ) (key : List ℕ) → i < length keys → key ≡ get_or keys i key → new ≡ finite.remove m key → All (IsGone m) (take i keys) → All (IsGone new) (take (i + 1) keys)
gone-more m new keys i key within here e h =
    All-more (IsGone new) keys i key within
    (All-weaker (IsGone m) (IsGone new) (λ b. still_gone m new key b e) (take i keys) h)
    (subst (IsGone new) here (now_gone m new key e))

pub left-more : (keys : List (List ℕ)) (old m new : Values) (key : List ℕ) → Contains keys key → new ≡ finite.remove m key → ((b : List ℕ) → IsLeft keys old m b) → (b : List ℕ) → IsLeft keys old new b
left-more keys old m new key among e h b = by (bytes_eq b key) refl (h b)
  where
    is : (t : Bool) → bytes_eq b key ≡ t → finite.get new b ≡ cond t None (finite.get m b)
    is t is_t = ap (λ (m : Values). finite.get m b) e ∙ get-with_value m key None b ∙ ap (λ t. cond t None (finite.get m b)) is_t

    by : (t : Bool) → bytes_eq b key ≡ t → IsLeft keys old m b → IsLeft keys old new b
    by true is_t before = inr (subst (Contains keys) (sym ((bytes_decides b key).0 is_t)) among, is true is_t)
    by false is_t (inl same) = inl (is false is_t ∙ same)
    by false is_t (inr gone) = inr (gone.0, is false is_t ∙ gone.1)

-- ---- the first start, and the others

-- without the bytes that are noted under a start
abbrev pub IsWithout : Starts → Starts → ℕ → Type 0
IsWithout old new start = (s : ℕ) → tree.get nat_cmp new s ≡ cond (is_at (nat_cmp start) s) None (tree.get nat_cmp old s)

nonempty : {A : Type 0} (xs : List A) (x : A) → slice_get xs 0 ≡ Some x → 0 < length xs
nonempty [] x e = absurd cc
nonempty (y ∷ xs) x e = omega arith

pub popped : (old new : Starts) (r : Option (ℕ × Vec (List ℕ))) (start : ℕ) (keys : Vec (List ℕ)) → slice_get old.entries 0 ≡ Some (start, keys) → (IsSome r ↔ (0 < btree_map_len old)) → IfSome r (λ p. old.entries ≡ p ∷ new.entries) → IfSome r (λ p. tree.Updates nat_cmp old new p.0 None) → IsWithout old new start
popped old new None start keys first is removal without = absurd (true≢false (sym (is.1 (nonempty old.entries (start, keys) first))))
popped old new (Some p) start keys first is removal without =
    let same : Some p ≡ Some (start, keys) = ap (λ (es : List (ℕ × Vec (List ℕ))). slice_get es 0) (sym removal) ∙ first in
    subst (IsWithout old new) (ap (λ (e : ℕ × Vec (List ℕ)). e.0) (same_Some p (start, keys) same)) without.0

noted-without : (old new : Starts) (start : ℕ) → IsWithout old new start → (s : ℕ) → noted new s ≡ cond (is_at (nat_cmp start) s) [] (noted old s)
noted-without old new start without s =
    ap (λ found. unwrap_or (option_map (λ keys. keys.items) found) []) (without s) ∙ by (is_at (nat_cmp start) s)
  where
    by : (t : Bool) → unwrap_or (option_map (λ keys. keys.items) (cond t None (tree.get nat_cmp old s))) [] ≡ cond t [] (noted old s)
    by true = refl
    by false = refl

-- what is noted under a start that was found
pub noted-found : (starts : Starts) (start : ℕ) (keys : Vec (List ℕ)) → tree.get nat_cmp starts start ≡ Some keys → noted starts start ≡ keys.items
noted-found starts start keys found = ap (λ found. unwrap_or (option_map (λ keys. keys.items) found) []) found

-- all of that were deleted
pub IsIndex-without : (starts new : Starts) (old content : Content) (start : ℕ) (keys : List (List ℕ)) → noted starts start ≡ keys → IsWithout starts new start → ((b : List ℕ) → IsLeft keys old.map content.map b) → All (IsGone content.map) keys → All IsWindowKey content.written → IsIndex starts old → IsIndex new content
IsIndex-without starts new old content start keys noted_is without left gone written h = record {
  by_start = λ s. subst (All (IsOfStart s)) (sym (noted-without starts new start without s)) (by_start s (is_at (nat_cmp start) s));
  held = λ b is. held b is (left b);
  written = written;
}
  where
    by_start : (s : ℕ) (t : Bool) → All (IsOfStart s) (cond t [] (noted starts s))
    by_start s true = All-nil (IsOfStart s)
    by_start s false = h.by_start s

    still_noted : (b : List ℕ) (t : Bool) → is_at (nat_cmp start) (start_of b) ≡ t → IsSome (finite.get content.map b) → Contains (noted starts (start_of b)) b → Contains (cond t [] (noted starts (start_of b))) b
    still_noted b true e is among =
        let here : noted starts (start_of b) ≡ keys = ap (noted starts) (sym (tells_apart exact_unsigned start (start_of b) e)) ∙ noted_is in
        let none = All-contains (IsGone content.map) keys b gone (subst (λ (bs : List (List ℕ)). Contains bs b) here among) in
        absurd (true≢false (sym is ∙ ap is_some none))
    still_noted b false e is among = among

    held : (b : List ℕ) → IsSome (finite.get content.map b) → IsLeft keys old.map content.map b → Contains (noted new (start_of b)) b
    held b is (inl same) =
        subst (λ (bs : List (List ℕ)). Contains bs b) (sym (noted-without starts new start without (start_of b)))
        (still_noted b (is_at (nat_cmp start) (start_of b)) refl is (h.held b (subst (λ o. IsSome o) same is)))
    held b is (inr gone) = absurd (true≢false (sym is ∙ ap is_some gone.1))

-- some of them were deleted
pub IsIndex-left : (starts : Starts) (old content : Content) (keys : List (List ℕ)) → ((b : List ℕ) → IsLeft keys old.map content.map b) → All IsWindowKey content.written → IsIndex starts old → IsIndex starts content
IsIndex-left starts old content keys left written h = record {
  by_start = h.by_start;
  held = λ b is. held b is (left b);
  written = written;
}
  where
    held : (b : List ℕ) → IsSome (finite.get content.map b) → IsLeft keys old.map content.map b → Contains (noted starts (start_of b)) b
    held b is (inl same) = h.held b (subst (λ o. IsSome o) same is)
    held b is (inr gone) = absurd (true≢false (sym is ∙ ap is_some gone.1))

-- windows of later starts are as before
pub later-left : (keys : List (List ℕ)) (start last : ℕ) (old new : Values) → start ≤ last → All (IsOfStart start) keys → ((b : List ℕ) → IsLeft keys old new b) → (b : List ℕ) → last < start_of b → finite.get new b ≡ finite.get old b
later-left keys start last old new early all left b late = by (left b)
  where
    by : IsLeft keys old new b → finite.get new b ≡ finite.get old b
    by (inl same) = same
    by (inr gone) = absurd (omega (arith, (All-contains (IsOfStart start) keys b all gone.0).1))

-- ---- when no start is left that is early enough

-- bytes whose start has no place in the index have no value
gone_from_index : (starts : Starts) (content : Content) (b : List ℕ) → IsIndex starts content → (IsSome (tree.get nat_cmp starts (start_of b)) → ⊥) → IsGone content.map b
gone_from_index starts content b h missing = by_value (finite.get content.map b) refl
  where
    by_place : (o : Option (Vec (List ℕ))) → (IsSome o → ⊥) → Contains (unwrap_or (option_map (λ keys. keys.items) o) []) b → ⊥
    by_place None none among = absurd (omega (arith, among.1))
    by_place (Some keys) none among = none refl

    by_value : (o : Option (List ℕ)) → finite.get content.map b ≡ o → o ≡ None
    by_value None e = refl
    by_value (Some value) e = absurd (by_place (tree.get nat_cmp starts (start_of b)) missing (h.held b (ap is_some e)))

-- the first start is too late
pub gone_before : (starts : Starts) (content : Content) (start last : ℕ) → tree.IsLowerBound nat_cmp starts start → last < start → IsIndex starts content → (b : List ℕ) → start_of b ≤ last → IsGone content.map b
gone_before starts content start last least late h b early =
    gone_from_index starts content b h (λ is. absurd (omega (arith, le_from_not_gt start (start_of b) (least (start_of b) is))))
