-- The entries of a side, with one more, and those of a key among them.
use Rattle.std.proofs.Common.{◌≡◌, ◌≢◌, ◌∙◌, ap, refl, ℕ, Bool, true, false, cond, List, [], ◌∷◌, ◌++◌, eq-eqb}
use Rattle.std.specs.Prelude.{◌==◌}
use Rattle.std.specs.List.{filter}
use Rattle.std.proofs.lemmas.List.{append-nil}
use Rattle.std.proofs.lemmas.List.Elements.{filter-append}
use borrow.Author.Tests.{ne_eqb}
use Rattle.ksql_types.specs.declared.value.Value.{Value}
use Rattle.ksql_nodes.specs.Entries.{Entry, is_same_key, of_key, of_side}

side-more : (s : ℕ) (es : List Entry) (e : Entry) (b : Bool) → (e.side == s) ≡ b → of_side s (es ++ e ∷ []) ≡ of_side s es ++ cond b (e ∷ []) []
side-more s es e b is =
    filter-append (λ (e : Entry). e.side == s) es (e ∷ []) ∙ ap (λ (b : Bool). of_side s es ++ cond b (e ∷ []) []) is

-- one more of the side
pub side-own : (s : ℕ) (es : List Entry) (e : Entry) → e.side ≡ s → of_side s (es ++ e ∷ []) ≡ of_side s es ++ e ∷ []
side-own s es e is = side-more s es e true (eq-eqb e.side s is)

-- one more of another side
pub side-other : (s : ℕ) (es : List Entry) (e : Entry) → e.side ≢ s → of_side s (es ++ e ∷ []) ≡ of_side s es
side-other s es e not = side-more s es e false (ne_eqb e.side s not) ∙ append-nil (of_side s es)

-- two filters, in either order
filters-turned : {A : Type 0} (p q : A → Bool) (xs : List A) → filter p (filter q xs) ≡ filter q (filter p xs)
filters-turned p q [] = refl
filters-turned {A} p q (x ∷ xs) = by (p x) (q x) refl refl (filters-turned p q xs)
  where
    by : (a b : Bool) → p x ≡ a → q x ≡ b → filter p (filter q xs) ≡ filter q (filter p xs) →
        filter p (cond (q x) (x ∷ filter q xs) (filter q xs)) ≡ filter q (cond (p x) (x ∷ filter p xs) (filter p xs))
    by true true is_a is_b rest = rw (is_a, is_b, is_a) (ap (λ (rest : List A). x ∷ rest) rest)
    by true false is_a is_b rest = rw (is_a, is_b) rest
    by false true is_a is_b rest = rw (is_a, is_b, is_a) rest
    by false false is_a is_b rest = rw (is_a, is_b) rest

-- the entries of a key among those of a side
pub key-of_side : (key : List Value) (s : ℕ) (es : List Entry) → of_key key (of_side s es) ≡ of_side s (of_key key es)
key-of_side key s es = filters-turned (λ (e : Entry). is_same_key e.change.key key) (λ e. e.side == s) es
