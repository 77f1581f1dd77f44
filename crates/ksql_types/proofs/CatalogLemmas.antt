-- The relations of a catalog under their names, a relation found and a relation added.
use Rattle.std.proofs.Common.{◌≡◌, ℕ, ◌+◌, List, [], ◌∷◌, ◌++◌, length, Bool, true, false, cond, not, ◌&&◌, ◌||◌, ◌==◌, Option, None, Some, Bor, refl, sym, ap, ap₂, ◌∙◌, true≢false, is_none, option_copied, slice_get, suc, IfSome, arith, eq-eqb, eqb-true, find}
use Rattle.std.proofs.lemmas.List.{map-append}
use Rattle.std.proofs.lemmas.List.Folds.{list_all-append, list_any-append}
use Rattle.std.proofs.lemmas.Option.{none-some}
use Rattle.std.specs.Option.{option_map_or}
use Rattle.std.specs.Cmp.{first_so, second_so}
use Rattle.std.specs.Cmp.Lexicographic.{bytes_decides, nat_list_eq_equiv}
use Rattle.std.specs.List.{list_all, list_any}
use Rattle.std.specs.Map.{lookup, values_of}
use Rattle.std.specs.Str.{bytes_eq}
use Rattle.indexmap.specs.IndexMap.{insert_entry}
use Rattle.ksql_types.specs.declared.relation.Relation.{Relation}
use Rattle.ksql_types.specs.Catalog.{has_name, has_topic, find_named, is_taken, are_distinct, are_numbered, AreNamed, IsCatalog}

abbrev Entries : Type 0
Entries = List (List ℕ × Relation)

first_false : (s t : Bool) → (s || t) ≡ false → s ≡ false
first_false true t e = e
first_false false t e = refl

second_false : (s t : Bool) → (s || t) ≡ false → t ≡ false
second_false true t e = absurd (true≢false e)
second_false false t e = e

both_true : (s t : Bool) → s ≡ true → t ≡ true → (s && t) ≡ true
both_true s t p q = ap₂ (λ a b. a && b) p q

both_false : (s t : Bool) → s ≡ false → t ≡ false → (s || t) ≡ false
both_false s t p q = ap₂ (λ a b. a || b) p q

-- the first entry of relations under their names
module _ (k : List ℕ) (r : Relation) (es : Entries) (named : AreNamed ((k, r) ∷ es)) where
  own_name : k ≡ r.name
  own_name = (bytes_decides k r.name).0 (first_so (bytes_eq k r.name) (list_all (λ e. bytes_eq e.0 e.1.name) es) named)

  rest_named : AreNamed es
  rest_named = second_so (bytes_eq k r.name) (list_all (λ e. bytes_eq e.0 e.1.name) es) named

-- what a name looks up is the relation with the name
pub lookup-named : (name : List ℕ) (es : Entries) → AreNamed es → lookup (bytes_eq name) es ≡ find_named name (values_of es)
lookup-named name [] named = refl
lookup-named name ((k, r) ∷ es) named =
    ap₂ (λ b o. cond b (Some r) o) (ap (bytes_eq name) (own_name k r es named)) (lookup-named name es (rest_named k r es named))

pub is_none-find : (p : Relation → Bool) (rs : List Relation) → is_none (find p rs) ≡ not (list_any p rs)
is_none-find p [] = refl
is_none-find p (r ∷ rs) = by (p r) (is_none-find p rs)
  where
    by : (b : Bool) → is_none (find p rs) ≡ not (list_any p rs) → is_none (cond b (Some r) (find p rs)) ≡ not (b || list_any p rs)
    by true e = refl
    by false e = e

pub is_none-copied : (o : Option (Bor Relation)) → is_none o ≡ is_none (option_copied o)
is_none-copied None = refl
is_none-copied (Some r) = refl

-- a relation is as far after the first as its number is above a given number
abbrev StandsFrom : ℕ → List Relation → Relation → Type 0
StandsFrom first rs r = (i : ℕ) × (r.number ≡ first + i) × (slice_get rs i ≡ Some r)

-- so does one that is found where the relations are numbered from that number on
found_from : (p : Relation → Bool) (first : ℕ) (rs : List Relation) (r : Relation) → are_numbered first rs ≡ true → find p rs ≡ Some r → StandsFrom first rs r
found_from p first [] r e f = absurd (none-some r f)
found_from p first (s ∷ rs) r e f =
    by (p s) f (first_so (s.number == first) (are_numbered (first + 1) rs) e)
    (found_from p (first + 1) rs r (second_so (s.number == first) (are_numbered (first + 1) rs) e))
  where
    by : (b : Bool) → cond b (Some s) (find p rs) ≡ Some r → (s.number == first) ≡ true → (find p rs ≡ Some r → StandsFrom (first + 1) rs r) → StandsFrom first (s ∷ rs) r
    by true g own rest =
        let number : s.number ≡ first = eqb-true s.number first own in
        let same : s.number ≡ r.number = ap (λ o. option_map_or (λ t. t.number) o 0) g in
        (0, omega arith, g)
    by false g own rest =
        let there : (rest g).0 + (first + 1) ≡ r.number = omega (arith, (rest g).1) in
        (suc (rest g).0, omega arith, (rest g).2)

-- the place of a relation that is found is its number
pub find-numbered : (p : Relation → Bool) (rs : List Relation) (r : Relation) → IsCatalog rs → find p rs ≡ Some r → slice_get rs r.number ≡ Some r
find-numbered p rs r e f =
    let found = found_from p 0 rs r (first_so (are_numbered 0 rs) (are_distinct rs) e) f in
    let there : r.number ≡ 0 + found.0 = found.1 in
    let at : r.number ≡ found.0 = omega arith in
    ap (slice_get rs) at ∙ found.2

pub IfSome-numbered : (p : Relation → Bool) (rs : List Relation) (o : Option (Bor Relation)) → IsCatalog rs → option_copied o ≡ find p rs → IfSome o (λ found. slice_get rs found.now.number ≡ Some found.now)
IfSome-numbered p rs None e f = tt
IfSome-numbered p rs (Some found) e f = find-numbered p rs found.now e (sym f)

module _ (r : Relation) where
  -- a relation with a new name is appended
  pub insert_entry-free : (es : Entries) → AreNamed es → is_taken r.name r.topic (values_of es) ≡ false → insert_entry bytes_eq es r.name r ≡ es ++ (r.name, r) ∷ []
  insert_entry-free [] named free = refl
  insert_entry-free ((k, s) ∷ es) named free =
      let other : bytes_eq r.name k ≡ false =
      ap (bytes_eq r.name) (own_name k s es named)
      ∙ first_false (has_name r.name s) (has_topic r.topic s) (first_false (has_name r.name s || has_topic r.topic s) (is_taken r.name r.topic (values_of es)) free) in
      let rest = insert_entry-free es (rest_named k s es named) (second_false (has_name r.name s || has_topic r.topic s) (is_taken r.name r.topic (values_of es)) free) in
      ap₂ (λ b more. cond b ((k, r) ∷ es) ((k, s) ∷ more)) other rest

  pub values-push : (es : Entries) → values_of (es ++ (r.name, r) ∷ []) ≡ values_of es ++ r ∷ []
  values-push es = map-append (λ e. e.1) es ((r.name, r) ∷ [])

  pub AreNamed-push : (es : Entries) → AreNamed es → AreNamed (es ++ (r.name, r) ∷ [])
  AreNamed-push es named =
      list_all-append (λ e. bytes_eq e.0 e.1.name) es ((r.name, r) ∷ [])
      ∙ both_true _ _ named (both_true _ _ (nat_list_eq_equiv.refl r.name) refl)

  pub are_numbered-push : (first : ℕ) (rs : List Relation) → are_numbered first rs ≡ true → r.number ≡ first + length rs → are_numbered first (rs ++ r ∷ []) ≡ true
  are_numbered-push first [] e n = both_true (r.number == first) true (eq-eqb r.number first (omega arith)) refl
  are_numbered-push first (s ∷ rs) e n =
      both_true (s.number == first) (are_numbered (first + 1) (rs ++ r ∷ []))
      (first_so (s.number == first) (are_numbered (first + 1) rs) e)
      (are_numbered-push (first + 1) rs (second_so (s.number == first) (are_numbered (first + 1) rs) e) (omega arith))

  pub are_distinct-push : (rs : List Relation) → are_distinct rs ≡ true → is_taken r.name r.topic rs ≡ false → are_distinct (rs ++ r ∷ []) ≡ true
  are_distinct-push [] e free = refl
  are_distinct-push (s ∷ rs) e free =
      let apart = first_false (has_name r.name s || has_topic r.topic s) (is_taken r.name r.topic rs) free in
      let names : bytes_eq s.name r.name ≡ false = nat_list_eq_equiv.symm s.name r.name ∙ first_false (has_name r.name s) (has_topic r.topic s) apart in
      let topics : bytes_eq s.topic r.topic ≡ false = nat_list_eq_equiv.symm s.topic r.topic ∙ second_false (has_name r.name s) (has_topic r.topic s) apart in
      let old = first_so (not (is_taken s.name s.topic rs)) (are_distinct rs) e in
      let new : not (is_taken s.name s.topic (rs ++ r ∷ [])) ≡ true =
      ap not (list_any-append (λ t. has_name s.name t || has_topic s.topic t) rs (r ∷ []))
      ∙ clear (is_taken s.name s.topic rs) _ old (both_false _ _ (both_false _ _ names topics) refl) in
      both_true _ _ new (are_distinct-push rs (second_so (not (is_taken s.name s.topic rs)) (are_distinct rs) e) (second_false (has_name r.name s || has_topic r.topic s) (is_taken r.name r.topic rs) free))
    where
      clear : (s t : Bool) → not s ≡ true → t ≡ false → not (s || t) ≡ true
      clear true t p q = p
      clear false t p q = ap not q

  pub IsCatalog-push : (rs : List Relation) → IsCatalog rs → r.number ≡ length rs → is_taken r.name r.topic rs ≡ false → IsCatalog (rs ++ r ∷ [])
  IsCatalog-push rs e n free =
      both_true _ _
      (are_numbered-push 0 rs (first_so (are_numbered 0 rs) (are_distinct rs) e) (omega arith))
      (are_distinct-push rs (second_so (are_numbered 0 rs) (are_distinct rs) e) free)
