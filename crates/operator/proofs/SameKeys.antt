-- The entries of a key are those whose key has the same bytes.
use Rattle.std.proofs.Common.{◌≡◌, ap, ap₂, refl, sym, subst, List, [], ◌∷◌, ◌++◌, ℕ, Bool, true, false, cond, All}
use Rattle.std.proofs.lemmas.List.Elements.{filter-append}
use Rattle.std.proofs.lemmas.Bool.Decides.{same_from_decides}
use Rattle.std.proofs.lemmas.Slice.Eq.{bytes_eq-Decides}
use Rattle.std.specs.Bool.{Decides}
use Rattle.std.specs.List.{AllByRecursion}
use Rattle.std.specs.Str.{bytes_eq}
use Rattle.ksql_types.specs.declared.value.Value.{Value}
use Rattle.ksql_nodes.specs.Entries.{Entry, is_same_key, of_key}
use Rattle.ksql_nodes.proofs.Keys.{key-decides}
use Rattle.record_codec.specs.Spelling.{values, IsShort, IsSpellableRow}
use Rattle.record_codec.proofs.Parts as codec
use Rattle.operator.specs.Kept.{at_bytes}
use Rattle.operator.specs.StandsFor.{HasSpelledKey}

-- keys with the same bytes are equal
values-apart : (a b : List Value) → IsSpellableRow a → IsSpellableRow b → values a ≡ values b → a ≡ b
values-apart a b ha hb e = (codec.values-apart a b [] [] ha hb (ap (λ (w : List ℕ). w ++ []) e)).0

same-key : (key other : List Value) → IsSpellableRow key → IsSpellableRow other → bytes_eq (values key) (values other) ≡ is_same_key other key
same-key key other h ho = same_from_decides _ _ by_bytes (key-decides other key)
  where
    by_bytes : Decides (bytes_eq (values key) (values other)) (other ≡ key)
    by_bytes = (λ e. sym (values-apart key other h ho ((bytes_eq-Decides (values key) (values other)).0 e)), λ e. (bytes_eq-Decides (values key) (values other)).1 (ap values (sym e)))

pub at_bytes-of_key : (key : List Value) (es : List Entry) → IsSpellableRow key → AllByRecursion HasSpelledKey es → at_bytes (values key) es ≡ of_key key es
at_bytes-of_key key [] h all = refl
at_bytes-of_key key (e ∷ es) h all =
    ap₂ (λ (b : Bool) (rest : List Entry). cond b (e ∷ rest) rest) (same-key key e.change.key h all.0) (at_bytes-of_key key es h all.1)

-- one entry more
pub at_bytes-more : (b : List ℕ) (es : List Entry) (e : Entry) → at_bytes b (es ++ e ∷ []) ≡ at_bytes b es ++ cond (bytes_eq b (values e.change.key)) (e ∷ []) []
at_bytes-more b es e = filter-append (λ (e : Entry). bytes_eq b (values e.change.key)) es (e ∷ [])

-- no entry whose key has a spelling has a key with a long value
pub of_key-long : (key : List Value) (es : List Entry) → ¬ (All IsShort key) → AllByRecursion HasSpelledKey es → of_key key es ≡ []
of_key-long key [] long all = refl
of_key-long key (e ∷ es) long all =
    ap₂ (λ (b : Bool) (rest : List Entry). cond b (e ∷ rest) rest) (apart (is_same_key e.change.key key) refl) (of_key-long key es long all.1)
  where
    apart : (b : Bool) → is_same_key e.change.key key ≡ b → is_same_key e.change.key key ≡ false
    apart true same = absurd (long (subst (All IsShort) ((key-decides e.change.key key).0 same) all.0.limits.1))
    apart false other = other
