-- Keys are the same exactly if they are equal.
use Rattle.std.proofs.Common.{◌≡◌, ◌∙◌, ap, refl, sym, subst, List, Bool, true, false, true≢false}
use Rattle.std.specs.Bool.{Decides}
use Rattle.std.specs.Cmp.{signed_Decides}
use Rattle.std.specs.Cmp.Lexicographic.{pointwise_decides}
use Rattle.std.specs.Ordering.{is_eq, bool_cmp}
use Rattle.std.proofs.lemmas.Slice.Eq.{bytes_eq-Decides}
use Rattle.ksql_types.specs.declared.value.Value.{Value}
use Rattle.ksql_types.specs.declared.value.Value.TheVariants.{Null, Int, Big, Txt}
use Rattle.ksql_types.specs.declared.value.Value.TheVariants as value
use Rattle.ksql_nodes.specs.Entries.{is_same_value, is_same_key}

truth-same : (a b : Bool) → is_eq (bool_cmp a b) ≡ true → a ≡ b
truth-same true true h = refl
truth-same false false h = refl
truth-same true false h = absurd (true≢false (sym h))
truth-same false true h = absurd (true≢false (sym h))

value-same : (a b : Value) → is_same_value a b ≡ true → a ≡ b
value-same Null Null h = refl
value-same (Int a) (Int b) h = ap (λ n. Int n) ((signed_Decides a b).0 h)
value-same (Big a) (Big b) h = ap (λ n. Big n) ((signed_Decides a b).0 h)
value-same (Txt a) (Txt b) h = ap (λ t. Txt t) ((bytes_eq-Decides a b).0 h)
value-same (value.Bool a) (value.Bool b) h = ap (λ t. value.Bool t) (truth-same a b h)
value-same _ _ h = absurd (true≢false (sym h))

truth-own : (a : Bool) → is_eq (bool_cmp a a) ≡ true
truth-own true = refl
truth-own false = refl

value-own : (a : Value) → is_same_value a a ≡ true
value-own Null = refl
value-own (Int a) = (signed_Decides a a).1 refl
value-own (Big a) = (signed_Decides a a).1 refl
value-own (Txt a) = (bytes_eq-Decides a a).1 refl
value-own (value.Bool a) = truth-own a

pub key-decides : (a b : List Value) → Decides (is_same_key a b) (a ≡ b)
unfolding is_same_key
key-decides a b = pointwise_decides (λ x y. (value-same x y, λ e. subst (λ z. is_same_value x z ≡ true) e (value-own x))) a b

pub key-own : (k : List Value) → is_same_key k k ≡ true
key-own k = (key-decides k k).1 refl

pub key-turned : (a b : List Value) → is_same_key a b ≡ is_same_key b a
key-turned a b = by (is_same_key a b) (is_same_key b a) refl refl
  where
    by : (c d : Bool) → is_same_key a b ≡ c → is_same_key b a ≡ d → c ≡ d
    by true true e f = refl
    by false false e f = refl
    by true false e f = absurd (true≢false (sym ((key-decides b a).1 (sym ((key-decides a b).0 e))) ∙ f))
    by false true e f = absurd (true≢false (sym ((key-decides a b).1 (sym ((key-decides b a).0 f))) ∙ e))
