-- Members added one by one: the least among those that match a name.
use Rattle.std.proofs.Common.{◌≡◌, ℕ, ◌+◌, ◌<◌, List, [], ◌∷◌, length, get_or, take, map, Bool, true, false, cond, ◌↔◌, IsTrue, Option, Some, None, Bor, refl, sym, ap, ◌∙◌, arith}
use Rattle.std.specs.Char.{to_ascii_lowercase, to_ascii_uppercase}
use Rattle.std.specs.declared.cmp.Ordering.{Ordering}
use Rattle.std.specs.declared.cmp.Ordering.TheVariants.{Less, Equal, Greater}
use Rattle.std.specs.Ordering.{is_eq, is_lt, match_ordering, nat_cmp, ordering_reverse}
use Rattle.std.specs.Cmp.{both_ways}
use Rattle.std.specs.Cmp.Lexicographic.{slice_cmp, nat_list_cmp_total}
use Rattle.std.proofs.lemmas.Cmp.{tied_itself}
use Rattle.std.proofs.lemmas.Bool.Decides.{nat_tests}
use Rattle.std.proofs.lemmas.Map.Text.{is_eq-slice_cmp}
use Rattle.std.proofs.lemmas.Slice.Eq.{bytes_eq-Decides}
use Rattle.serde_json.specs.Data.{Data, Members, no_members, member, put}
use Rattle.topic_files.specs.Cells.{is_like, least_like, lesser}
use Rattle.topic_files.specs.Tree.{members_view, named, view}
use Rattle.topic_files.specs.declared.tree.Json.{Json}
use Rattle.topic_files.proofs.TreeLemmas.{members_view-take}

-- ---- names that match

upper-lower : (x y : ℕ) → to_ascii_lowercase x ≡ to_ascii_lowercase y → to_ascii_uppercase x ≡ to_ascii_uppercase y
upper-lower x y e = grind (arith, nat_tests)

lower-upper : (x y : ℕ) → to_ascii_uppercase x ≡ to_ascii_uppercase y → to_ascii_lowercase x ≡ to_ascii_lowercase y
lower-upper x y e = grind (arith, nat_tests)

-- where one map joins two elements another does, so do they for lists
same_maps : (f g : ℕ → ℕ) → ((x y : ℕ) → f x ≡ f y → g x ≡ g y) → (xs ys : List ℕ) → map f xs ≡ map f ys → map g xs ≡ map g ys
same_maps f g each [] [] e = refl
same_maps f g each [] (y ∷ ys) e = cc
same_maps f g each (x ∷ xs) [] e = cc
same_maps f g each (x ∷ xs) (y ∷ ys) e =
    let first : f x ≡ f y = cc in
    let rest : map f xs ≡ map f ys = cc in
    cc (each x y first, same_maps f g each xs ys rest)

-- two names match if they are equal in lower case
pub is_like-is : (name other : List ℕ) (b : Bool) → IsTrue b ↔ (map to_ascii_lowercase name ≡ map to_ascii_lowercase other) → is_like name other ≡ b
is_like-is name other b test =
    let decides = bytes_eq-Decides (map to_ascii_uppercase name) (map to_ascii_uppercase other) in
    both_ways (is_like name other) b
    (λ e. test.1 (same_maps to_ascii_uppercase to_ascii_lowercase lower-upper name other (decides.0 e)))
    (λ e. decides.1 (same_maps to_ascii_lowercase to_ascii_uppercase upper-lower name other (test.0 e)))

-- ---- the least name

abbrev order : List ℕ → List ℕ → Ordering
order = slice_cmp nat_cmp

is_lt-Less : (o : Ordering) → is_lt o ≡ true → o ≡ Less
is_lt-Less Less e = refl
is_lt-Less Equal e = cc
is_lt-Less Greater e = cc

-- an order is not below itself
is_lt-itself : (name : List ℕ) → is_lt (order name name) ≡ false
is_lt-itself name = ap is_lt (tied_itself nat_list_cmp_total name)

-- an earlier member of the same name plays no part
lesser-replaced : (name : List ℕ) (d e : Data) (r : Option (List ℕ × Data)) → lesser (name, d) r ≡ lesser (name, d) (Some (lesser (name, e) r))
lesser-replaced name d e None = rw is_lt-itself
lesser-replaced name d e (Some other) = by_test (is_lt (order other.0 name)) refl
  where
    by_test : (b : Bool) → is_lt (order other.0 name) ≡ b → cond b other (name, d) ≡ lesser (name, d) (Some (cond b other (name, e)))
    by_test true below = rw below
    by_test false not_below = rw is_lt-itself

-- two members of different names may be compared in either order
lesser-swap : (k l : List ℕ) (d e : Data) (r : Option (List ℕ × Data)) → order k l ≡ Greater → lesser (l, e) (Some (lesser (k, d) r)) ≡ lesser (k, d) (Some (lesser (l, e) r))
lesser-swap k l d e r above = by_found r
  where
    below : order l k ≡ Less
    below = nat_list_cmp_total.antisymm l k ∙ ap ordering_reverse above

    by_tests : (other : List ℕ × Data) (a b : Bool) → is_lt (order other.0 l) ≡ a → is_lt (order other.0 k) ≡ b
        → lesser (l, e) (Some (cond b other (k, d))) ≡ lesser (k, d) (Some (cond a other (l, e)))
    by_tests other true true at_l at_k = rw (at_l, at_k)
    by_tests other true false at_l at_k =
        let least : order other.0 k ≡ Less = nat_list_cmp_total.trans other.0 l k (is_lt-Less (order other.0 l) at_l) below in
        let never : true ≡ false = sym (ap is_lt least) ∙ at_k in
        cc
    by_tests other false true at_l at_k = rw (at_l, below)
    by_tests other false false at_l at_k = rw (above, below)

    by_found : (r : Option (List ℕ × Data)) → lesser (l, e) (Some (lesser (k, d) r)) ≡ lesser (k, d) (Some (lesser (l, e) r))
    by_found None = rw (above, below)
    by_found (Some other) = by_tests other (is_lt (order other.0 l)) (is_lt (order other.0 k)) refl refl

-- what is found after one more member
abbrev one_more : List ℕ → List ℕ × Data → Option (List ℕ × Data) → Option (List ℕ × Data)
one_more name m found = cond (is_like m.0 name) (Some (lesser m found)) found

one_more-replaced : (name key : List ℕ) (d e : Data) (r : Option (List ℕ × Data)) → one_more name (key, d) r ≡ one_more name (key, d) (one_more name (key, e) r)
one_more-replaced name key d e r = by_test (is_like key name)
  where
    by_test : (b : Bool) → cond b (Some (lesser (key, d) r)) r ≡ cond b (Some (lesser (key, d) (cond b (Some (lesser (key, e) r)) r))) (cond b (Some (lesser (key, e) r)) r)
    by_test true = ap Some (lesser-replaced key d e r)
    by_test false = refl

one_more-swap : (name k l : List ℕ) (d e : Data) (r : Option (List ℕ × Data)) → order k l ≡ Greater
    → one_more name (l, e) (one_more name (k, d) r) ≡ one_more name (k, d) (one_more name (l, e) r)
one_more-swap name k l d e r above = by_tests (is_like k name) (is_like l name)
  where
    by_tests : (a b : Bool) → cond b (Some (lesser (l, e) (cond a (Some (lesser (k, d) r)) r))) (cond a (Some (lesser (k, d) r)) r)
        ≡ cond a (Some (lesser (k, d) (cond b (Some (lesser (l, e) r)) r))) (cond b (Some (lesser (l, e) r)) r)
    by_tests true true = ap Some (lesser-swap k l d e r above)
    by_tests true false = refl
    by_tests false true = refl
    by_tests false false = refl

-- the least after a member is put
least_like-put : (name key : List ℕ) (d : Data) (ms : Members) → least_like name (put key d ms) ≡ one_more name (key, d) (least_like name ms)
least_like-put name key d no_members = refl
least_like-put name key d (member l e ms) = by_order (order key l) refl (least_like-put name key d ms)
  where
    by_order : (o : Ordering) → order key l ≡ o → least_like name (put key d ms) ≡ one_more name (key, d) (least_like name ms)
        → least_like name (match_ordering o (member key d (member l e ms)) (member l d ms) (member l e (put key d ms))) ≡ one_more name (key, d) (one_more name (l, e) (least_like name ms))
    by_order Less is later = refl
    by_order Equal is later =
        let same : key ≡ l = (bytes_eq-Decides key l).0 (sym (is_eq-slice_cmp key l) ∙ ap is_eq is) in
        one_more-replaced name l d e (least_like name ms) ∙ ap (λ k. one_more name (k, d) (one_more name (l, e) (least_like name ms))) (sym same)
    by_order Greater is later = ap (one_more name (l, e)) later ∙ one_more-swap name key l d e (least_like name ms) is

-- the member at this place, if it matches the name: the lesser of it and what was found before
pub least_like-here : (name : List ℕ) (ms : List (Bor (List ℕ) × Json)) (i : ℕ) (m : Bor (List ℕ) × Json) → i < length ms → m ≡ get_or ms i m → is_like m.0.now name ≡ true
    → least_like name (members_view (take (i + 1) ms)) ≡ Some (lesser (named m) (least_like name (members_view (take i ms))))
least_like-here name ms i m inside is like =
    let before = least_like name (members_view (take i ms)) in
    ap (least_like name) (members_view-take ms i m inside is) ∙ least_like-put name m.0.now (view m.1) (members_view (take i ms)) ∙ ap (λ b. cond b (Some (lesser (named m) before)) before) like

-- if it doesn't match the name, it is skipped
pub least_like-elsewhere : (name : List ℕ) (ms : List (Bor (List ℕ) × Json)) (i : ℕ) (m : Bor (List ℕ) × Json) → i < length ms → m ≡ get_or ms i m → is_like m.0.now name ≡ false
    → least_like name (members_view (take (i + 1) ms)) ≡ least_like name (members_view (take i ms))
least_like-elsewhere name ms i m inside is unlike =
    let before = least_like name (members_view (take i ms)) in
    ap (least_like name) (members_view-take ms i m inside is) ∙ least_like-put name m.0.now (view m.1) (members_view (take i ms)) ∙ ap (λ b. cond b (Some (lesser (named m) before)) before) unlike
