-- What the relation of an accepted statement keeps.
use Rattle.std.proofs.Common.{◌≡◌, ℕ, suc, zero, ◌<◌, ◌≤◌, Bool, true, false, not, ◌&&◌, ◌||◌, IsTrue, nat_le, List, [], ◌∷◌, ◌++◌, map, take, length, refl, ap, sym, ◌∙◌, subst, arith}
use Rattle.std.specs.Prelude.{bytes_eq}
use Rattle.std.specs.List.{All, AllZip, list_any, list_all}
use Rattle.std.proofs.lemmas.Bool.{leb-true}
use Rattle.std.proofs.lemmas.List.{map-append, length-map, append-nil, append_assoc}
use Rattle.std.proofs.lemmas.List.Elements.{All-weaker}
use Rattle.std.proofs.lemmas.List.Sums.{AllPass-from_list_all}
use Rattle.ksql_types.specs.Catalog.{has_name, has_topic, is_taken}
use Rattle.ksql_types.specs.declared.relation.Column.{Column}
use Rattle.ksql_types.specs.declared.relation.Relation.{Relation}
use Rattle.statement_trees.specs.declared.tree.Statement.{Statement}
use Rattle.ksql_lexer.specs.declared.token.TokenKind.{TokenKind}
use Rattle.ksql_parser.specs.Script.{IsTreeOf}
use Rattle.ksql_program.specs.declared.program.Item.{Item}
use Rattle.ksql_types.specs.Names.{is_among, are_distinct, reserved_columns}
use Rattle.ksql_program.specs.Program.{relation_of, relations}
use Rattle.ksql_types.specs.Columns.{columns}
use Rattle.ksql_program.specs.Sound.{IsSoundItem, AreSoundItems}
use Rattle.ksql_rules.specs.Limits.{IsRelationWithin}
use Rattle.ksql_rules.proofs.Within.{All-unmap}
use Rattle.std.proofs.lemmas.Bool.{and_parts}
use Rattle.ksql_analyse.specs.Judgement.{AreParsed, IsProgramOf}
use Rattle.ksql_analyse.specs.Plain.{HasPlainNames}
use Rattle.ksql_analyse.proofs.lists.Distinct.{or-false, false-or, true-not, same-bytes}
use Rattle.ksql_analyse.proofs.sound.SoundPrograms.{among-mapped, sound}
use Rattle.ksql_analyse.proofs.sound.SoundSources.{relation-sound}

-- a relation that can be put after others
pub record IsNext (catalog : List Relation) (r : Relation) : Type 0 where
  pub numbered : r.number ≡ length catalog
  pub free : is_taken r.name r.topic catalog ≡ false
  pub room : length catalog < 200
  pub within : IsRelationWithin r
  pub plain : HasPlainNames r

-- ---- the first of some statements

take-zip : (n : ℕ) (parts : List (List TokenKind)) (sts : List Statement) → AllZip IsTreeOf parts sts → AllZip IsTreeOf (take n parts) (take n sts)
take-zip zero parts sts h = tt
take-zip (suc n) [] [] h = tt
take-zip (suc n) [] (st ∷ sts) h = absurd h
take-zip (suc n) (ts ∷ parts) [] h = absurd h
take-zip (suc n) (ts ∷ parts) (st ∷ sts) h = (h.0, take-zip n parts sts h.1)

pub parsed-front : (n : ℕ) (sts : List Statement) → AreParsed sts → AreParsed (take n sts)
parsed-front n sts h = (take n h.0, take-zip n h.0 sts h.1)

-- ---- the last of some items

last-sound : (before items : List Item) (i : Item) → AreSoundItems before (items ++ i ∷ []) → IsSoundItem (before ++ items) i
last-sound before [] i h = subst (λ b. IsSoundItem b i) (sym (append-nil before)) h.0
last-sound before (x ∷ items) i h =
    subst (λ b. IsSoundItem b i) (append_assoc before (x ∷ []) items) (last-sound (before ++ x ∷ []) items i h.1)

-- it has no name of an earlier one
last-new : (names : List (List ℕ)) (name : List ℕ) → are_distinct (names ++ name ∷ []) ≡ true → is_among names name ≡ false
last-new [] name h = refl
last-new (x ∷ names) name h =
    let p = and_parts (not (is_among (names ++ name ∷ []) x)) (are_distinct (names ++ name ∷ [])) h in
    false-or (bytes_eq name x) (is_among names name) (same-bytes name x ∙ last-other names x name (true-not (is_among (names ++ name ∷ []) x) p.0)) (last-new names name p.1)
  where
    last-other : (names : List (List ℕ)) (x name : List ℕ) → is_among (names ++ name ∷ []) x ≡ false → bytes_eq x name ≡ false
    last-other [] x name k = (or-false (bytes_eq x name) false k).0
    last-other (y ∷ names) x name k = last-other names x name (or-false (bytes_eq x y) (is_among (names ++ name ∷ []) x) k).1

none-of-two : (p q : Relation → Bool) (rs : List Relation) → list_any p rs ≡ false → list_any q rs ≡ false → list_any (λ r. p r || q r) rs ≡ false
none-of-two p q [] h k = refl
none-of-two p q (r ∷ rs) h k =
    let a = or-false (p r) (list_any p rs) h in
    let b = or-false (q r) (list_any q rs) k in
    false-or (p r || q r) (list_any (λ s. p s || q s) rs) (false-or (p r) (q r) a.0 b.0) (none-of-two p q rs a.1 b.1)

pushed-names : (f : Relation → List ℕ) (items : List Item) (i : Item) → are_distinct (map f (relations (items ++ i ∷ []))) ≡ true
    → list_any (λ r. bytes_eq (f (relation_of i)) (f r)) (relations items) ≡ false
pushed-names f items i h =
    let is : map f (relations (items ++ i ∷ [])) ≡ map f (relations items) ++ f (relation_of i) ∷ [] =
    ap (map f) (map-append relation_of items (i ∷ [])) ∙ map-append f (relations items) (relation_of i ∷ []) in
    sym (among-mapped f (f (relation_of i)) (relations items)) ∙ last-new (map f (relations items)) (f (relation_of i)) (ap are_distinct (sym is) ∙ h)

-- ---- its columns

names-within : (cs : List Column) → list_all (λ c. nat_le (length c.name) 128) cs ≡ true → All (λ c. length c.name ≤ 128) cs
names-within cs h =
    All-weaker (λ c. nat_le (length c.name) 128 ≡ true) (λ c. length c.name ≤ 128) (λ c k. leb-true (length c.name) 128 k) cs
    (AllPass-from_list_all (λ c. nat_le (length c.name) 128) cs h)

second : (a b : Bool) → (a && b) ≡ true → b ≡ true
second true b h = h
second false b h = absurd (cc (h))

names-free : (cs : List Column) → (are_distinct (map (λ c. c.name) cs) && list_all (λ name. not (is_among reserved_columns name)) (map (λ c. c.name) cs)) ≡ true
    → All (λ c. IsTrue (not (is_among reserved_columns c.name))) cs
names-free cs h =
    All-unmap (λ name. IsTrue (not (is_among reserved_columns name))) (λ (c : Column). c.name) cs
    (AllPass-from_list_all (λ name. not (is_among reserved_columns name)) (map (λ c. c.name) cs)
    (second (are_distinct (map (λ c. c.name) cs)) (list_all (λ name. not (is_among reserved_columns name)) (map (λ c. c.name) cs)) h))

-- ---- the relation of the last item

pub next_relation : (sts : List Statement) (items : List Item) (i : Item) → AreParsed sts → IsProgramOf sts (items ++ i ∷ []) → length (relations items) ≤ 199
    → IsNext (relations items) (relation_of i)
next_relation sts items i parsed program few =
    let all = sound sts (items ++ i ∷ []) parsed program in
    let r = relation-sound items i (last-sound [] items i all.sound) in
    let count : length (relations items) ≡ length items = length-map items relation_of in
    record {
      numbered = r.numbered ∙ sym count;
      free = none-of-two (has_name (relation_of i).name) (has_topic (relation_of i).topic) (relations items)
          (pushed-names (λ s. s.name) items i all.names_differ) (pushed-names (λ s. s.topic) items i all.topics_differ);
      room = omega arith;
      within = record { columns_few = r.columns_few; names_short = names-within (columns (relation_of i)) r.columns_short };
      plain = names-free (columns (relation_of i)) r.columns_named;
    }
