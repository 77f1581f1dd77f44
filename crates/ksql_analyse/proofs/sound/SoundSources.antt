-- The sources of an accepted query: earlier relations that are sound.
use Rattle.std.proofs.Common.{◌≡◌, ℕ, zero, suc, ◌+◌, ◌==◌, arith, Bool, true, false, ◌||◌, if◌then◌else◌, List, [], ◌∷◌, ◌++◌, length, Option, Some, None, refl, ap, ap₂, sym, ◌∙◌, subst, inl, inr}
use Rattle.std.specs.Prelude.{◌⊎◌, slice_get, find}
use Rattle.std.specs.List.{list_any, flat_map}
use Rattle.std.proofs.lemmas.Option.{same_Some}
use Rattle.std.proofs.lemmas.Bool.{false≢true}
use Rattle.std.proofs.lemmas.List.{append-nil, length-append}
use Rattle.ksql_types.specs.Catalog.{find_named, has_name}
use Rattle.ksql_types.specs.declared.relation.Relation.{Relation}
use Rattle.statement_trees.specs.declared.tree.JoinText.{JoinText}
use Rattle.statement_trees.specs.declared.tree.Select.{Select}
use Rattle.statement_trees.specs.declared.tree.Source.{Source}
use Rattle.ksql_program.specs.declared.program.Item.{Item}
use Rattle.ksql_program.specs.declared.program.Item.TheVariants.{Declared, Started}
use Rattle.ksql_program.specs.Program.{relation_of, relations, relation_at}
use Rattle.ksql_program.specs.Sound.{IsSoundRelation, IsSoundItem, AreSoundItems}
use Rattle.ksql_clauses.specs.declared.sources.Known.{Known}
use Rattle.ksql_clauses.specs.Sources.{alias_of, sources, known, all_known, has_unknown_source}
use Rattle.ksql_analyse.proofs.lists.Distinct.{or-false}

-- ---- the relations of sound items

pub relation-sound : (before : List Item) (i : Item) → IsSoundItem before i → IsSoundRelation (length before) (relation_of i)
relation-sound before (Declared r) h = h.0
relation-sound before (Started q) h = h.0

at-sound : (before items : List Item) → AreSoundItems before items → (k : ℕ) (r : Relation) → slice_get (relations items) k ≡ Some r → IsSoundRelation (length before + k) r
at-sound before [] h k r e = absurd (cc (e))
at-sound before (i ∷ items) h zero r e =
    let z : length before ≡ length before + 0 = omega arith in
    subst (λ n. IsSoundRelation n r) z (subst (IsSoundRelation (length before)) (same_Some (relation_of i) r e) (relation-sound before i h.0))
at-sound before (i ∷ items) h (suc k) r e =
    let z : length (before ++ i ∷ []) + k ≡ length before + suc k = omega (arith, length-append before (i ∷ [])) in
    subst (λ n. IsSoundRelation n r) z (at-sound (before ++ i ∷ []) items h.1 k r e)

-- a sound relation at its number
pub record IsThere (before : List Item) (r : Relation) : Type 0 where
  pub at : relation_at before r.number ≡ Some r
  pub sound : IsSoundRelation r.number r

found-at : (p : Relation → Bool) (rs : List Relation) (r : Relation) → find p rs ≡ Some r → (k : ℕ) × (slice_get rs k ≡ Some r) × (p r ≡ true)
found-at p [] r e = absurd (cc (e))
found-at p (x ∷ rs) r e = here (p x) refl e (found-at p rs r)
  where
    here : (b : Bool) → p x ≡ b → (if b then Some x else find p rs) ≡ Some r → (find p rs ≡ Some r → (k : ℕ) × (slice_get rs k ≡ Some r) × (p r ≡ true))
        → (k : ℕ) × (slice_get (x ∷ rs) k ≡ Some r) × (p r ≡ true)
    here true h f rest = (0, f, ap p (sym (same_Some x r f)) ∙ h)
    here false h f rest = let k = rest f in (suc k.0, k.1, k.2)

pub named-there : (before : List Item) → AreSoundItems [] before → (name : List ℕ) (r : Relation) → find_named name (relations before) ≡ Some r
    → IsThere before r
named-there before h name r e =
    let k = found-at (has_name name) (relations before) r e in
    let s : IsSoundRelation (0 + k.0) r = at-sound [] before h k.0 r k.1 in
    let n : k.0 ≡ r.number = omega (arith, s.numbered) in
    let z : 0 + k.0 ≡ r.number = omega (arith, s.numbered) in
    record { at = subst (λ i. slice_get (relations before) i ≡ Some r) n k.1; sound = subst (λ i. IsSoundRelation i r) z s }

-- ---- the sources of a query

-- a source that is in the catalog
pub record IsKnown (catalog : List Relation) (s : Source) (k : Known) : Type 0 where
  pub alone : known catalog s ≡ k ∷ []
  pub found : find_named s.name catalog ≡ Some k.relation
  pub alias : k.alias ≡ alias_of s

source-known : (catalog : List Relation) (s : Source) → (length (known catalog s) == 0) ≡ false → (k : Known) × IsKnown catalog s k
source-known catalog s h = at (find_named s.name catalog) refl
  where
    at : (o : Option Relation) → find_named s.name catalog ≡ o → (k : Known) × IsKnown catalog s k
    at None e = absurd (false≢true (sym h ∙ none))
      where
        none : (length (known catalog s) == 0) ≡ true
        none = rw e
    at (Some r) e = (record { alias = alias_of s; relation = r }, record { alone = rw e; found = e; alias = refl })

-- what a query reads: one source, or two with a join
pub record ReadsOne (catalog : List Relation) (q : Select) : Type 0 where
  pub one : Known
  pub is : IsKnown catalog q.source one
  pub all : all_known catalog q ≡ one ∷ []
  pub join : q.join ≡ None

pub record ReadsTwo (catalog : List Relation) (q : Select) : Type 0 where
  pub left : Known
  pub right : Known
  pub text : JoinText
  pub left_is : IsKnown catalog q.source left
  pub right_is : IsKnown catalog text.source right
  pub all : all_known catalog q ≡ left ∷ right ∷ []
  pub join : q.join ≡ Some text

pub what-is-read : (catalog : List Relation) (q : Select) → has_unknown_source catalog q ≡ false → ReadsOne catalog q ⊎ ReadsTwo catalog q
what-is-read catalog q h = at q.join refl
  where
    at : (o : Option JoinText) → q.join ≡ o → ReadsOne catalog q ⊎ ReadsTwo catalog q
    at None e =
        let of : sources q ≡ q.source ∷ [] = ap (λ j. sources (record q { join = j })) e in
        let k = source-known catalog q.source (or-false (length (known catalog q.source) == 0) false (ap (list_any (λ s. length (known catalog s) == 0)) (sym of) ∙ h)).0 in
        inl (record { one = k.0; is = k.1; all = ap (flat_map (known catalog)) of ∙ append-nil (known catalog q.source) ∙ k.1.alone; join = e })
    at (Some j) e =
        let of : sources q ≡ q.source ∷ j.source ∷ [] = ap (λ j. sources (record q { join = j })) e in
        let b = or-false (length (known catalog q.source) == 0) ((length (known catalog j.source) == 0) || false) (ap (list_any (λ s. length (known catalog s) == 0)) (sym of) ∙ h) in
        let l = source-known catalog q.source b.0 in
        let r = source-known catalog j.source (or-false (length (known catalog j.source) == 0) false b.1).0 in
        inr (record {
          left = l.0;
          right = r.0;
          text = j;
          left_is = l.1;
          right_is = r.1;
          all = ap (flat_map (known catalog)) of ∙ ap₂ (λ x y. x ++ (y ++ [])) l.1.alone r.1.alone;
          join = e;
        })
