-- The order of keys is total.
use Rattle.std.proofs.Common.{◌≡◌, ℕ, ℤ, pos, List, [], ◌∷◌, Bool, true, false, ◌&&◌, refl, sym, ap, ap₂, ◌∙◌, true≢false}
use Rattle.std.specs.declared.cmp.Ordering.{Ordering}
use Rattle.std.specs.declared.cmp.Ordering.TheVariants.{Less, Equal, Greater}
use Rattle.std.specs.Ordering.{nat_cmp, int_cmp, bool_cmp, ordering_then, ordering_reverse, then_cmp, on, is_eq}
use Rattle.std.specs.Cmp.{IsTotalOrder, int_cmp_total, bool_cmp_total, on_total, then_total, tied_itself, signed_Decides, first_so, second_so, then_flip}
use Rattle.std.specs.Cmp.Lexicographic.{pointwise, slice_cmp, nat_list_cmp_total, lists_total, texts_ties, bytes_decides}
use Rattle.ksql_types.specs.declared.value.Value.{Value}
use Rattle.ksql_types.specs.declared.value.Value.TheVariants.{Null, Int, Big, Txt, Bool as Truth}
use Rattle.ksql_types.specs.Order.{is_alike, AreAlike, value_cmp, key_cmp}

-- the number, the text and the truth of a value, one of which counts
abbrev number_of : Value → ℤ
number_of (Int n) = n
number_of (Big n) = n
number_of _ = pos 0

abbrev text_of : Value → List ℕ
text_of (Txt bytes) = bytes
text_of _ = []

abbrev truth_of : Value → Bool
truth_of (Truth b) = b
truth_of _ = false

-- a total order of all values, which agrees with that of values of one type
abbrev whole_cmp : Value → Value → Ordering
whole_cmp = then_cmp (on number_of int_cmp) (then_cmp (on text_of (slice_cmp nat_cmp)) (on truth_of bool_cmp))

whole_total : IsTotalOrder whole_cmp
whole_total = then_total (on_total number_of int_cmp_total) (then_total (on_total text_of nat_list_cmp_total) (on_total truth_of bool_cmp_total))

then_Equal : (o : Ordering) → ordering_then o Equal ≡ o
then_Equal Less = refl
then_Equal Equal = refl
then_Equal Greater = refl

value_cmp-whole : (x y : Value) → is_alike x y ≡ true → value_cmp x y ≡ whole_cmp x y
value_cmp-whole (Int a) (Int b) e = sym (then_Equal (int_cmp a b))
value_cmp-whole (Big a) (Big b) e = sym (then_Equal (int_cmp a b))
value_cmp-whole (Txt a) (Txt b) e = sym (then_Equal (slice_cmp nat_cmp a b))
value_cmp-whole (Truth a) (Truth b) e = refl
value_cmp-whole _ _ e = absurd (true≢false (sym e))

key_cmp-whole : (a b : List Value) → AreAlike a b → key_cmp a b ≡ slice_cmp whole_cmp a b
key_cmp-whole [] [] e = refl
key_cmp-whole [] (y ∷ ys) e = refl
key_cmp-whole (x ∷ xs) [] e = refl
key_cmp-whole (x ∷ xs) (y ∷ ys) e =
    ap₂ ordering_then (value_cmp-whole x y (first_so (is_alike x y) (pointwise is_alike xs ys) e)) (key_cmp-whole xs ys (second_so (is_alike x y) (pointwise is_alike xs ys) e))

-- values of one type with values of the same are of one type
is_alike-trans : (x y z : Value) → is_alike x y ≡ true → is_alike y z ≡ true → is_alike x z ≡ true
is_alike-trans (Int a) (Int b) z e f = f
is_alike-trans (Big a) (Big b) z e f = f
is_alike-trans (Txt a) (Txt b) z e f = f
is_alike-trans (Truth a) (Truth b) z e f = f
is_alike-trans _ _ _ e f = absurd (true≢false (sym e))

AreAlike-trans : (a b c : List Value) → AreAlike a b → AreAlike b c → AreAlike a c
AreAlike-trans [] [] c e f = f
AreAlike-trans [] (y ∷ ys) c e f = absurd (true≢false (sym e))
AreAlike-trans (x ∷ xs) [] c e f = absurd (true≢false (sym e))
AreAlike-trans (x ∷ xs) (y ∷ ys) [] e f = absurd (true≢false (sym f))
AreAlike-trans (x ∷ xs) (y ∷ ys) (z ∷ zs) e f =
    ap₂ (λ s t. s && t)
    (is_alike-trans x y z (first_so (is_alike x y) (pointwise is_alike xs ys) e) (first_so (is_alike y z) (pointwise is_alike ys zs) f))
    (AreAlike-trans xs ys zs (second_so (is_alike x y) (pointwise is_alike xs ys) e) (second_so (is_alike y z) (pointwise is_alike ys zs) f))

-- what is below one that is below another is below the other
pub key_cmp-trans : (a b c : List Value) → AreAlike a b → AreAlike b c → key_cmp a b ≡ Less → key_cmp b c ≡ Less → key_cmp a c ≡ Less
key_cmp-trans a b c e f p q =
    key_cmp-whole a c (AreAlike-trans a b c e f)
    ∙ (lists_total whole_total).trans a b c (sym (key_cmp-whole a b e) ∙ p) (sym (key_cmp-whole b c f) ∙ q)

-- swapping two values, and so two keys, reverses their order
value_cmp-reversed : (x y : Value) → value_cmp x y ≡ ordering_reverse (value_cmp y x)
value_cmp-reversed (Int a) (Int b) = int_cmp_total.antisymm a b
value_cmp-reversed (Big a) (Big b) = int_cmp_total.antisymm a b
value_cmp-reversed (Txt a) (Txt b) = nat_list_cmp_total.antisymm a b
value_cmp-reversed (Truth a) (Truth b) = bool_cmp_total.antisymm a b
value_cmp-reversed Null Null = refl
value_cmp-reversed _ _ = refl

pub key_cmp-reversed : (a b : List Value) → key_cmp a b ≡ ordering_reverse (key_cmp b a)
key_cmp-reversed [] [] = refl
key_cmp-reversed [] (y ∷ ys) = refl
key_cmp-reversed (x ∷ xs) [] = refl
key_cmp-reversed (x ∷ xs) (y ∷ ys) =
    ap₂ ordering_then (value_cmp-reversed x y) (key_cmp-reversed xs ys) ∙ then_flip (value_cmp y x) (key_cmp ys xs)

-- a key equals itself
value_cmp-itself : (x : Value) → value_cmp x x ≡ Equal
value_cmp-itself Null = refl
value_cmp-itself (Int a) = tied_itself int_cmp_total a
value_cmp-itself (Big a) = tied_itself int_cmp_total a
value_cmp-itself (Txt a) = tied_itself nat_list_cmp_total a
value_cmp-itself (Truth a) = tied_itself bool_cmp_total a

pub key_cmp-itself : (a : List Value) → key_cmp a a ≡ Equal
key_cmp-itself [] = refl
key_cmp-itself (x ∷ xs) = ap₂ ordering_then (value_cmp-itself x) (key_cmp-itself xs)

-- and no other key of its types
value_cmp-Equal : (x y : Value) → is_alike x y ≡ true → value_cmp x y ≡ Equal → x ≡ y
value_cmp-Equal (Int a) (Int b) e p = ap Int ((signed_Decides a b).0 (ap is_eq p))
value_cmp-Equal (Big a) (Big b) e p = ap Big ((signed_Decides a b).0 (ap is_eq p))
value_cmp-Equal (Txt a) (Txt b) e p = ap Txt ((bytes_decides a b).0 (texts_ties a b ∙ ap is_eq p))
value_cmp-Equal (Truth true) (Truth true) e p = refl
value_cmp-Equal (Truth false) (Truth false) e p = refl
value_cmp-Equal (Truth true) (Truth false) e p = absurd (true≢false (sym (ap is_eq p)))
value_cmp-Equal (Truth false) (Truth true) e p = absurd (true≢false (sym (ap is_eq p)))
value_cmp-Equal _ _ e p = absurd (true≢false (sym e))

first_Equal : (o p : Ordering) → ordering_then o p ≡ Equal → o ≡ Equal
first_Equal Less p e = e
first_Equal Equal p e = refl
first_Equal Greater p e = e

second_Equal : (o p : Ordering) → ordering_then o p ≡ Equal → p ≡ Equal
second_Equal Less p e = absurd (true≢false (sym (ap is_eq e)))
second_Equal Equal p e = e
second_Equal Greater p e = absurd (true≢false (sym (ap is_eq e)))

pub key_cmp-Equal : (a b : List Value) → AreAlike a b → key_cmp a b ≡ Equal → a ≡ b
key_cmp-Equal [] [] e p = refl
key_cmp-Equal [] (y ∷ ys) e p = absurd (true≢false (sym e))
key_cmp-Equal (x ∷ xs) [] e p = absurd (true≢false (sym e))
key_cmp-Equal (x ∷ xs) (y ∷ ys) e p =
    ap₂ (λ v vs. v ∷ vs)
    (value_cmp-Equal x y (first_so (is_alike x y) (pointwise is_alike xs ys) e) (first_Equal (value_cmp x y) (key_cmp xs ys) p))
    (key_cmp-Equal xs ys (second_so (is_alike x y) (pointwise is_alike xs ys) e) (second_Equal (value_cmp x y) (key_cmp xs ys) p))
