-- The JSON of a line, level by level, and its members, which are put one after another.
use Rattle.std.proofs.Common.{◌≡◌, ℕ, ◌+◌, ◌<◌, List, [], ◌∷◌, ◌++◌, length, get_or, take, map, true, false, true≢false, bytes_eq, Some, Vec, Global, Bor, refl, sym, ap, ◌∙◌, rules}
use Rattle.std.proofs.lemmas.List.{take_more}
use Rattle.std.proofs.lemmas.Slice.Eq.{bytes_eq-Decides}
use Rattle.serde_json.specs.Data.{Items, Members, array, item, no_items, no_members, object, put}
use Rattle.serde_json.specs.Find.{get_member}
use Rattle.serde_json.proofs.Views.{get_member-put, get_member-put_other}
use Rattle.topic_files.specs.Tree.{items_view, members_view, put_all, view}
use Rattle.topic_files.specs.declared.tree.Json.{Json, Array, Object, the_lemmas}

pub view-Array : (v : Vec Json Global) → view (Array v) ≡ array (items_view v.items)
view-Array v = search (rules, the_lemmas)

pub view-Object : (v : Vec (Bor (List ℕ) × Json) Global) → view (Object v) ≡ object (members_view v.items)
view-Object v = search (rules, the_lemmas)

-- ---- items

-- the items of these values, before others
abbrev pub items_before : List Json → Items → Items
items_before [] rest = rest
items_before (v ∷ vs) rest = item (view v) (items_before vs rest)

pub items_before-no_items : (vs : List Json) → items_before vs no_items ≡ items_view vs
items_before-no_items [] = refl
items_before-no_items (v ∷ vs) = ap (item (view v)) (items_before-no_items vs)

pub items_before-push : (vs : List Json) (v : Json) (rest : Items) → items_before vs (item (view v) rest) ≡ items_before (vs ++ v ∷ []) rest
items_before-push [] v rest = refl
items_before-push (w ∷ vs) v rest = ap (item (view w)) (items_before-push vs v rest)

-- ---- members

put_all-push : (ms : List (Bor (List ℕ) × Json)) (m : Bor (List ℕ) × Json) (before : Members)
    → put_all (map (λ m. (m.0, view m.1)) (ms ++ m ∷ [])) before ≡ put m.0.now (view m.1) (put_all (map (λ m. (m.0, view m.1)) ms) before)
put_all-push [] m before = refl
put_all-push (n ∷ ms) m before = put_all-push ms m (put n.0.now (view n.1) before)

-- one more member is put among those before it
pub members_view-push : (ms : List (Bor (List ℕ) × Json)) (m : Bor (List ℕ) × Json) → members_view (ms ++ m ∷ []) ≡ put m.0.now (view m.1) (members_view ms)
members_view-push ms m = put_all-push ms m no_members

-- the member at this place is put among those before it
pub members_view-take : (ms : List (Bor (List ℕ) × Json)) (i : ℕ) (m : Bor (List ℕ) × Json) → i < length ms → m ≡ get_or ms i m
    → members_view (take (i + 1) ms) ≡ put m.0.now (view m.1) (members_view (take i ms))
members_view-take ms i m inside is =
    ap members_view (take_more ms i m inside ∙ ap (λ k. take i ms ++ k ∷ []) (sym is)) ∙ members_view-push (take i ms) m

-- if it has this name, it is what is found
pub get_member-here : (name : List ℕ) (ms : List (Bor (List ℕ) × Json)) (i : ℕ) (m : Bor (List ℕ) × Json) → i < length ms → m ≡ get_or ms i m
    → bytes_eq m.0.now name ≡ true → get_member name (members_view (take (i + 1) ms)) ≡ Some (view m.1)
get_member-here name ms i m inside is same =
    let named : m.0.now ≡ name = (bytes_eq-Decides m.0.now name).0 same in
    ap (get_member name) (members_view-take ms i m inside is ∙ ap (λ k. put k (view m.1) (members_view (take i ms))) named)
    ∙ get_member-put name (view m.1) (members_view (take i ms))

-- if it has another name, it changes nothing
pub get_member-elsewhere : (name : List ℕ) (ms : List (Bor (List ℕ) × Json)) (i : ℕ) (m : Bor (List ℕ) × Json) → i < length ms → m ≡ get_or ms i m
    → bytes_eq m.0.now name ≡ false → get_member name (members_view (take (i + 1) ms)) ≡ get_member name (members_view (take i ms))
get_member-elsewhere name ms i m inside is other =
    ap (get_member name) (members_view-take ms i m inside is)
    ∙ get_member-put_other name m.0.now (view m.1) (members_view (take i ms)) (λ e. true≢false (sym ((bytes_eq-Decides m.0.now name).1 (sym e)) ∙ other))
