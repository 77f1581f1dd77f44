-- The items of an array and the members of an object, read one after another.
use Rattle.std.proofs.Common.{◌≡◌, ℕ, zero, suc, ◌-◌, ◌<◌, ◌≤◌, List, [], ◌∷◌, ◌++◌, length, Option, Some, None, option_map, refl, ap, ◌∙◌, arith}
use Rattle.json.specs.Token.{Token}
use Rattle.json.specs.Json as json
use Rattle.json.specs.Json.{Parse, after_end_array, items, members, parse_map, read_key}
use Rattle.json.proofs.Grammar.{items_end, items_fail, items_more, members_end, members_fail, members_more, members_no_key, read_key-shorter}
use Rattle.serde_json.specs.Data.{Data, Items, Members, array, item, no_members, object, put}
use Rattle.serde_json.specs.Read.{converted, of_items, of_json, of_members}
use Rattle.topic_files.specs.Tree.{items_view, view}
use Rattle.topic_files.specs.declared.tree.Json.{Json}
use Rattle.topic_files.proofs.TreeLemmas.{items_before, items_before-no_items, items_before-push}

-- ---- what was read, as data

-- where data was read, there is JSON that is this data
data_read : {A B : Type 0} (f : A → Option B) (o : Option (A × List Token)) (b : B) (rest : List Token) → ◌≡◌ {A = Option (B × List Token)} (Some (b, rest)) (converted f o)
    → (a : A) × ◌≡◌ {A = Option (A × List Token)} o (Some (a, rest)) × (f a ≡ Some b)
data_read f None b rest e = absurd (cc)
data_read {A} {B} f (Some p) b rest e = by_data (f p.0) refl e
  where
    by_data : (x : Option B) → f p.0 ≡ x → ◌≡◌ {A = Option (B × List Token)} (Some (b, rest)) (option_map (λ y. (y, p.1)) x)
        → (a : A) × ◌≡◌ {A = Option (A × List Token)} (Some p) (Some (a, rest)) × (f a ≡ Some b)
    by_data None is e = absurd (cc)
    by_data (Some y) is e = let same : ◌≡◌ {A = B × List Token} (y, p.1) (b, rest) = cc in (p.0, ap (λ q. Some (p.0, q.1)) same, is ∙ ap (λ q. Some q.0) same)

-- if none was read, there is no JSON, or it is no data
no_data_read : {A B : Type 0} (f : A → Option B) (p : A × List Token) → None ≡ converted f (Some p) → f p.0 ≡ None
no_data_read {A} {B} f p e = by_data (f p.0) e
  where
    by_data : (x : Option B) → ◌≡◌ {A = Option (B × List Token)} None (option_map (λ y. (y, p.1)) x) → x ≡ None
    by_data None e = refl
    by_data (Some y) e = absurd (cc)

twice : {A B : Type 0} (g : A → B) (rest : List Token) (x : Option A) → option_map {U = B × List Token} (λ b. (b, rest)) (option_map g x) ≡ parse_map g (option_map (λ a. (a, rest)) x)
twice g rest None = refl
twice g rest (Some a) = refl

pub converted-array : (o : Option (json.Items × List Token)) → converted of_json (parse_map json.array o) ≡ parse_map array (converted of_items o)
converted-array None = refl
converted-array (Some p) = twice array p.1 (of_items p.0)

pub converted-object : (o : Option (json.Members × List Token)) → converted of_json (parse_map json.object o) ≡ parse_map object (converted (λ ms. of_members ms no_members) o)
converted-object None = refl
converted-object (Some p) = twice object p.1 (of_members p.0 no_members)

-- ---- the items of an array

with_item : (j : json.Json) (d : Data) → of_json j ≡ Some d → (o : Option (json.Items × List Token)) → converted of_items (parse_map (json.item j) o) ≡ parse_map (item d) (converted of_items o)
with_item j d is None = refl
with_item j d is (Some p) = rw is (twice (item d) p.1 (of_items p.0))

without_item : (j : json.Json) → of_json j ≡ None → (o : Option (json.Items × List Token)) → converted of_items (parse_map (json.item j) o) ≡ None
without_item j none None = refl
without_item j none (Some p) = rw none

one_more_item : (vs : List Json) (v : Json) (r : Option (Items × List Token)) → parse_map (items_before vs) (parse_map (item (view v)) r) ≡ parse_map (items_before (vs ++ v ∷ [])) r
one_more_item vs v None = refl
one_more_item vs v (Some p) = ap (λ ds. Some (ds, p.1)) (items_before-push vs v p.0)

-- of all tokens of an array these items have been read, and these tokens are left
pub record ItemsRead (p : Parse json.Json) (all : List Token) (found : List Json) (left : List Token) : Type 0 where
  pub turns : ℕ
  pub enough : length left ≤ turns
  pub same : converted of_items (items p (length all) all) ≡ parse_map (items_before found) (converted of_items (items p turns left))
  pub shorter : length left ≤ length all

module _ (p : Parse json.Json) (all : List Token) (found : List Json) (left : List Token) (so_far : ItemsRead p all found left) where
  pub one_item_read : (v : Json) (rest : List Token) → after_end_array left ≡ None → Some (view v, rest) ≡ converted of_json (p left) → length rest < length left
      → ItemsRead p all (found ++ v ∷ []) rest
  one_item_read v rest going is less =
      let read = data_read of_json (p left) (view v) rest is in
      let turn = ap (converted of_items) (items_more p so_far.turns left rest read.0 (omega (arith, so_far.enough)) going read.1) ∙ with_item read.0 (view v) read.2 _ in
      record {
        turns = so_far.turns - 1;
        enough = omega (arith, so_far.enough);
        same = so_far.same ∙ ap (parse_map (items_before found)) turn ∙ one_more_item found v _;
        shorter = omega (arith, so_far.shorter);
      }

  pub no_item_reads : after_end_array left ≡ None → None ≡ converted of_json (p left) → converted of_items (items p (length all) all) ≡ None
  unfolding items
  no_item_reads going is = so_far.same ∙ ap (parse_map (items_before found)) (by_reading so_far.turns (p left) refl is)
    where
      by_reading : (n : ℕ) (o : Option (json.Json × List Token)) → p left ≡ o → None ≡ converted of_json o → converted of_items (items p n left) ≡ None
      by_reading n None is none = ap (converted of_items) (items_fail p n left going is)
      by_reading zero (Some q) is none = refl
      by_reading (suc n) (Some q) is none =
          ap (converted of_items) (items_more p (suc n) left q.1 q.0 (omega arith) going is) ∙ without_item q.0 (no_data_read of_json q none) _

  pub all_items_read : (rest : List Token) → after_end_array left ≡ Some rest → converted of_items (items p (length all) all) ≡ Some (items_view found, rest)
  all_items_read rest over =
      so_far.same ∙ ap (λ o. parse_map (items_before found) (converted of_items o)) (items_end p so_far.turns left rest so_far.enough over)
      ∙ ap (λ ds. Some (ds, rest)) (items_before-no_items found)

-- ---- the members of an object

with_member : (name : List ℕ) (j : json.Json) (d : Data) (before : Members) → of_json j ≡ Some d → (o : Option (json.Members × List Token))
    → converted (λ ms. of_members ms before) (parse_map (json.member name j) o) ≡ converted (λ ms. of_members ms (put name d before)) o
with_member name j d before is None = refl
with_member name j d before is (Some p) = rw is

without_member : (name : List ℕ) (j : json.Json) (before : Members) → of_json j ≡ None → (o : Option (json.Members × List Token))
    → converted (λ ms. of_members ms before) (parse_map (json.member name j) o) ≡ None
without_member name j before none None = refl
without_member name j before none (Some p) = rw none

-- of all tokens of an object these members have been read, and these tokens are left
pub record MembersRead (p : Parse json.Json) (all : List Token) (before : Members) (left : List Token) : Type 0 where
  pub turns : ℕ
  pub enough : length left ≤ turns
  pub same : converted (λ ms. of_members ms no_members) (members p (length all) all) ≡ converted (λ ms. of_members ms before) (members p turns left)
  pub shorter : length left ≤ length all

pub no_members_read : (p : Parse json.Json) (all : List Token) → MembersRead p all no_members all
no_members_read p all = record { turns = length all; enough = omega arith; same = refl; shorter = omega arith }

module _ (p : Parse json.Json) (all : List Token) (before : Members) (left : List Token) (so_far : MembersRead p all before left) where
  pub one_member_read : (name : List ℕ) (d : Data) (after rest : List Token) → read_key left ≡ Some (Some name, after) → Some (d, rest) ≡ converted of_json (p after)
      → length rest < length after → MembersRead p all (put name d before) rest
  one_member_read name d after rest key is less =
      let named = read_key-shorter left (Some name) after key in
      let read = data_read of_json (p after) d rest is in
      let turn = ap (converted (λ ms. of_members ms before)) (members_more p so_far.turns name left after rest read.0 (omega (arith, so_far.enough)) key read.1)
      ∙ with_member name read.0 d before read.2 _ in
      record {
        turns = so_far.turns - 1;
        enough = omega (arith, so_far.enough);
        same = so_far.same ∙ turn;
        shorter = omega (arith, so_far.shorter);
      }

  pub no_key_reads : read_key left ≡ None → converted (λ ms. of_members ms no_members) (members p (length all) all) ≡ None
  no_key_reads none = so_far.same ∙ ap (converted (λ ms. of_members ms before)) (members_no_key p so_far.turns left none)

  pub no_member_reads : (name : List ℕ) (after : List Token) → read_key left ≡ Some (Some name, after) → None ≡ converted of_json (p after)
      → converted (λ ms. of_members ms no_members) (members p (length all) all) ≡ None
  unfolding members
  no_member_reads name after key is = so_far.same ∙ by_reading so_far.turns (p after) refl is
    where
      by_reading : (n : ℕ) (o : Option (json.Json × List Token)) → p after ≡ o → None ≡ converted of_json o
          → converted (λ ms. of_members ms before) (members p n left) ≡ None
      by_reading n None is none = ap (converted (λ ms. of_members ms before)) (members_fail p n name left after key is)
      by_reading zero (Some q) is none = refl
      by_reading (suc n) (Some q) is none =
          ap (converted (λ ms. of_members ms before)) (members_more p (suc n) name left after q.1 q.0 (omega arith) key is)
          ∙ without_member name q.0 before (no_data_read of_json q none) _

  pub all_members_read : (rest : List Token) → read_key left ≡ Some (None, rest) → converted (λ ms. of_members ms no_members) (members p (length all) all) ≡ Some (before, rest)
  all_members_read rest over = so_far.same ∙ ap (converted (λ ms. of_members ms before)) (members_end p so_far.turns left rest so_far.enough over)
