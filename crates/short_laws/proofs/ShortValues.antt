-- The value of an expression with short UTF-8 texts on a row of such values is one: by induction, form by form.
use Rattle.std.proofs.Common.{◌≡◌, ◌∙◌, ap, sym, subst, refl, ℕ, zero, suc, Bool, true, false, List, [], ◌∷◌, ◌++◌, length, map, ◌≤◌, true≢false, arith}
use Rattle.std.proofs.lemmas.List.{length-map}
use Rattle.std.specs.Prelude.{◌||◌, not, nat_le, nat_lt, if◌then◌else◌, Option, Some, None, option_map, option_and_then, unwrap_or, ℤ, flat_map}
use Rattle.std.specs.List.{AllByRecursion, list_any}
use Rattle.std.specs.Ordering.{is_eq}
use Rattle.std.specs.Str.{IsUtf8, is_utf8}
use Rattle.std.proofs.lemmas.Str.{IsUtf8-append, IsUtf8-from_is_utf8, IsUtf8-nil}
use Rattle.std.proofs.lemmas.Bool.Decides.{nat_tests}
use Rattle.ksql_types.specs.Key.{is_null}
use Rattle.ksql_types.specs.Text.{longest_value}
use Rattle.ksql_types.specs.declared.operator.BinaryOp.{BinaryOp}
use Rattle.ksql_types.specs.declared.operator.BinaryOp.TheVariants as op
use Rattle.ksql_types.specs.declared.value.SqlType.{SqlType}
use Rattle.ksql_types.specs.declared.value.SqlType.TheVariants as sql
use Rattle.ksql_types.specs.declared.value.Value.{Value}
use Rattle.ksql_types.specs.declared.value.Value.TheVariants.{Null, Int, Big, Txt}
use Rattle.ksql_types.specs.declared.value.Value.TheVariants as value
use Rattle.ksql_expr.specs.declared.typed.Fun.{Fun}
use Rattle.ksql_expr.specs.declared.typed.Fun.TheVariants.{Abs, Len, Concat, Substring, Trim, Ucase, Lcase, Coalesce, IfNull, NullIf}
use Rattle.ksql_expr.specs.declared.typed.Typed.{Typed, fold-Typed, roll-Typed, fold-roll-Typed, ind-Typed}
use Rattle.ksql_expr.specs.declared.typed.TypedWhen.{TypedWhen, fold-TypedWhen, roll-TypedWhen, fold-roll-TypedWhen}
use Rattle.ksql_expr.specs.declared.typed.TypedNode.{TypedNode, fold-TypedNode, roll-TypedNode, map-TypedNode, fold-roll-TypedNode}
use Rattle.ksql_expr.specs.declared.typed.TypedNode.TheOpen.{TypedNode-F}
use Rattle.ksql_expr.specs.Aggregates.{holds_long_text, is_long_text, node_holds}
use Rattle.ksql_expr.specs.Value.{applied, bytes_of, cast, cast_number, cell, chosen, compare_so, first_taken, first_value, fitting, from_one, from_two, fun_value, in_capitals, in_small_letters, is_taken, joined, length_of, magnitude, middle_of, node_value, number, of_few, of_one, of_two, of_three, part_of, signed, tail_of, text, trimmed, value_of, whole, widened, without_spaces}
use Rattle.short_laws.specs.Short.{HoldsProperTexts, IsProper, holds_other_text, is_other_text}
use Rattle.short_laws.proofs.Texts.{capitals-utf8, part-short, signed-short, small-utf8, trimmed-short, trimmed-utf8, truth-utf8}

neither : (x y : Bool) → (x || y) ≡ false → (x ≡ false) × (y ≡ false)
neither true y h = absurd (true≢false h)
neither false y h = (refl, h)

-- ---- numbers and texts

pub number-proper : (t : Option SqlType) (z : ℤ) → IsProper (number t z)
number-proper None z = (tt, tt)
number-proper (Some sql.Int) z = (tt, tt)
number-proper (Some sql.Big) z = (tt, tt)
number-proper (Some sql.Text) z = (tt, tt)
number-proper (Some sql.Bool) z = (tt, tt)

if-proper : (b : Bool) (v w : Value) → IsProper v → IsProper w → IsProper (if b then v else w)
if-proper true v w hv hw = hv
if-proper false v w hv hw = hw

from_one-proper : (t : Option SqlType) (f : ℤ → ℤ) (a : Value) → IsProper (from_one t f a)
from_one-proper t f a = by (whole a)
  where
    by : (o : Option ℤ) → IsProper (unwrap_or (option_map (λ x. number t (f x)) o) Null)
    by None = (tt, tt)
    by (Some z) = number-proper t (f z)

from_two-proper : (t : Option SqlType) (f : ℤ → ℤ → Option ℤ) (a b : Value) → IsProper (from_two t f a b)
from_two-proper t f a b = by (option_and_then (λ x. option_and_then (f x) (whole b)) (whole a))
  where
    by : (o : Option ℤ) → IsProper (unwrap_or (option_map (number t) o) Null)
    by None = (tt, tt)
    by (Some z) = number-proper t z

text-proper : (bytes : List ℕ) → IsUtf8 bytes → IsProper (text bytes)
text-proper bytes u = by (nat_le (length bytes) longest_value) refl
  where
    by : (b : Bool) → nat_le (length bytes) 65536 ≡ b → IsProper (if b then Txt bytes else Null)
    by true is = (grind (arith, nat_tests), u)
    by false is = (tt, tt)

joined-proper : (a b : Value) → IsProper a → IsProper b → IsProper (joined a b)
joined-proper (Txt a) (Txt b) ha hb = text-proper (a ++ b) (IsUtf8-append a b ha.1 hb.1)
joined-proper (Txt a) Null ha hb = (tt, tt)
joined-proper (Txt a) (Int x) ha hb = (tt, tt)
joined-proper (Txt a) (Big x) ha hb = (tt, tt)
joined-proper (Txt a) (value.Bool x) ha hb = (tt, tt)
joined-proper Null b ha hb = (tt, tt)
joined-proper (Int x) b ha hb = (tt, tt)
joined-proper (Big x) b ha hb = (tt, tt)
joined-proper (value.Bool x) b ha hb = (tt, tt)

bytes-utf8 : (v : Value) → IsProper v → IsUtf8 (bytes_of v)
bytes-utf8 (Txt t) h = h.1
bytes-utf8 Null h = IsUtf8-nil
bytes-utf8 (Int x) h = IsUtf8-nil
bytes-utf8 (Big x) h = IsUtf8-nil
bytes-utf8 (value.Bool x) h = IsUtf8-nil

all-bytes-utf8 : (vs : List Value) → AllByRecursion IsProper vs → IsUtf8 (flat_map bytes_of vs)
all-bytes-utf8 [] h = IsUtf8-nil
all-bytes-utf8 (v ∷ vs) h = IsUtf8-append (bytes_of v) (flat_map bytes_of vs) (bytes-utf8 v h.0) (all-bytes-utf8 vs h.1)

part-proper : (t : List ℕ) (at : ℤ) (len : Option ℤ) → IsProper (Txt t) → IsProper (Txt (part_of t at len))
part-proper t at len h =
    let part = part-short t at len h.1 in
    let less : length (part_of t at len) ≤ length t = part.0 in
    let most : length t ≤ 65536 = h.0 in
    (omega (arith, less, most), part.1)

tail-proper : (x at : Value) → IsProper x → IsProper (tail_of x at)
tail-proper (Txt t) at h = by (whole at)
  where
    by : (o : Option ℤ) → IsProper (unwrap_or (option_map (λ p. Txt (part_of t p None)) o) Null)
    by None = (tt, tt)
    by (Some p) = part-proper t p None h
tail-proper Null at h = (tt, tt)
tail-proper (Int n) at h = (tt, tt)
tail-proper (Big n) at h = (tt, tt)
tail-proper (value.Bool b) at h = (tt, tt)

middle-proper : (x at len : Value) → IsProper x → IsProper (middle_of x at len)
middle-proper (Txt t) at len h = by (whole at) (whole len)
  where
    by : (o q : Option ℤ) → IsProper (unwrap_or (option_and_then (λ p. option_map (λ n. Txt (part_of t p (Some n))) q) o) Null)
    by None q = (tt, tt)
    by (Some p) None = (tt, tt)
    by (Some p) (Some n) = part-proper t p (Some n) h
middle-proper Null at len h = (tt, tt)
middle-proper (Int n) at len h = (tt, tt)
middle-proper (Big n) at len h = (tt, tt)
middle-proper (value.Bool b) at len h = (tt, tt)

length-proper : (x : Value) → IsProper (length_of x)
length-proper (Txt t) = (tt, tt)
length-proper Null = (tt, tt)
length-proper (Int n) = (tt, tt)
length-proper (Big n) = (tt, tt)
length-proper (value.Bool b) = (tt, tt)

trimmed-proper : (x : Value) → IsProper x → IsProper (without_spaces x)
trimmed-proper (Txt t) h =
    let less : length (trimmed t) ≤ length t = trimmed-short t in
    let most : length t ≤ 65536 = h.0 in
    (omega (arith, less, most), trimmed-utf8 t h.1)
trimmed-proper Null h = (tt, tt)
trimmed-proper (Int n) h = (tt, tt)
trimmed-proper (Big n) h = (tt, tt)
trimmed-proper (value.Bool b) h = (tt, tt)

same-length : (f : ℕ → ℕ) (t : List ℕ) → length t ≤ 65536 → length (map f t) ≤ 65536
same-length f t h = let same : length (map f t) ≡ length t = length-map t f in omega (arith, same, h)

capitals-proper : (x : Value) → IsProper x → IsProper (in_capitals x)
capitals-proper (Txt t) h = (same-length _ t h.0, capitals-utf8 t h.1)
capitals-proper Null h = (tt, tt)
capitals-proper (Int n) h = (tt, tt)
capitals-proper (Big n) h = (tt, tt)
capitals-proper (value.Bool b) h = (tt, tt)

small-proper : (x : Value) → IsProper x → IsProper (in_small_letters x)
small-proper (Txt t) h = (same-length _ t h.0, small-utf8 t h.1)
small-proper Null h = (tt, tt)
small-proper (Int n) h = (tt, tt)
small-proper (Big n) h = (tt, tt)
small-proper (value.Bool b) h = (tt, tt)

-- ---- CAST

cast_number-proper : (to : SqlType) → ((z : ℤ) → IsProper (fitting to z)) → (x : Value) → IsProper (cast_number to x)
cast_number-proper to fit Null = (tt, tt)
cast_number-proper to fit (Int z) = fit z
cast_number-proper to fit (Big z) = fit z
cast_number-proper to fit (Txt t) = if-proper _ _ Null (fit _) (tt, tt)
cast_number-proper to fit (value.Bool b) = (tt, tt)

cast-proper : (to : SqlType) (x : Value) → IsProper x → IsProper (cast to x)
cast-proper sql.Int x h = cast_number-proper sql.Int (λ z. if-proper _ (Int z) Null (tt, tt) (tt, tt)) x
cast-proper sql.Big x h = cast_number-proper sql.Big (λ z. if-proper _ (Big z) Null (tt, tt) (tt, tt)) x
cast-proper sql.Text Null h = (tt, tt)
cast-proper sql.Text (Int z) h = signed-short z
cast-proper sql.Text (Big z) h = signed-short z
cast-proper sql.Text (Txt t) h = h
cast-proper sql.Text (value.Bool b) h = truth-utf8 b
cast-proper sql.Bool Null h = (tt, tt)
cast-proper sql.Bool (Int z) h = (tt, tt)
cast-proper sql.Bool (Big z) h = (tt, tt)
cast-proper sql.Bool (Txt t) h = (tt, tt)
cast-proper sql.Bool (value.Bool b) h = (tt, tt)

-- ---- operators

signed-proper : (t : Option SqlType) (minus : Bool) (x : Value) → IsProper x → IsProper (signed t minus x)
signed-proper t true x h = from_one-proper t _ x
signed-proper t false x h = h

added-proper : (t : Option SqlType) (x y : Value) → IsProper x → IsProper y → IsProper (applied t op.Add x y)
added-proper None x y hx hy = from_two-proper None _ x y
added-proper (Some sql.Int) x y hx hy = from_two-proper (Some sql.Int) _ x y
added-proper (Some sql.Big) x y hx hy = from_two-proper (Some sql.Big) _ x y
added-proper (Some sql.Text) x y hx hy = joined-proper x y hx hy
added-proper (Some sql.Bool) x y hx hy = from_two-proper (Some sql.Bool) _ x y

applied-proper : (t : Option SqlType) (o : BinaryOp) (x y : Value) → IsProper x → IsProper y → IsProper (applied t o x y)
applied-proper t op.Or x y hx hy = (tt, tt)
applied-proper t op.And x y hx hy = (tt, tt)
applied-proper t op.Eq x y hx hy = (tt, tt)
applied-proper t op.Ne x y hx hy = (tt, tt)
applied-proper t op.Lt x y hx hy = (tt, tt)
applied-proper t op.Le x y hx hy = (tt, tt)
applied-proper t op.Gt x y hx hy = (tt, tt)
applied-proper t op.Ge x y hx hy = (tt, tt)
applied-proper t op.Add x y hx hy = added-proper t x y hx hy
applied-proper t op.Sub x y hx hy = from_two-proper t _ x y
applied-proper t op.Concat x y hx hy = joined-proper x y hx hy
applied-proper t op.Mul x y hx hy = from_two-proper t _ x y
applied-proper t op.Div x y hx hy = from_two-proper t _ x y
applied-proper t op.Rem x y hx hy = from_two-proper t _ x y

-- ---- functions and CASE

widened-proper : (t : Option SqlType) (v : Value) → IsProper v → IsProper (widened t v)
widened-proper None v h = h
widened-proper (Some sql.Int) v h = h
widened-proper (Some sql.Big) Null h = (tt, tt)
widened-proper (Some sql.Big) (Int x) h = (tt, tt)
widened-proper (Some sql.Big) (Big x) h = (tt, tt)
widened-proper (Some sql.Big) (Txt x) h = h
widened-proper (Some sql.Big) (value.Bool x) h = (tt, tt)
widened-proper (Some sql.Text) v h = h
widened-proper (Some sql.Bool) v h = h

pub first-proper : (vs : List Value) → AllByRecursion IsProper vs → IsProper (first_value vs)
first-proper [] h = (tt, tt)
first-proper (v ∷ vs) h = if-proper (is_null v) (first_value vs) v (first-proper vs h.1) h.0

one-proper : (t : Option SqlType) (f : Fun) (x : Value) → IsProper x → IsProper (of_one t f x)
one-proper t Abs x h = from_one-proper t magnitude x
one-proper t Len x h = length-proper x
one-proper t Trim x h = trimmed-proper x h
one-proper t Ucase x h = capitals-proper x h
one-proper t Lcase x h = small-proper x h
one-proper t _ x h = (tt, tt)

two-proper : (f : Fun) (x y : Value) → IsProper x → IsProper (of_two f x y)
two-proper Substring x y h = tail-proper x y h
two-proper NullIf x y h = if-proper (compare_so is_eq x y) Null x (tt, tt) h
two-proper _ x y h = (tt, tt)

three-proper : (f : Fun) (x y z : Value) → IsProper x → IsProper (of_three f x y z)
three-proper Substring x y z h = middle-proper x y z h
three-proper _ x y z h = (tt, tt)

few-proper : (t : Option SqlType) (f : Fun) (vs : List Value) → AllByRecursion IsProper vs → IsProper (of_few t f vs)
few-proper t f [] h = (tt, tt)
few-proper t f (x ∷ []) h = one-proper t f x h.0
few-proper t f (x ∷ y ∷ []) h = two-proper f x y h.0
few-proper t f (x ∷ y ∷ z ∷ []) h = three-proper f x y z h.0
few-proper t f (x ∷ y ∷ z ∷ w ∷ vs) h = (tt, tt)

fun-proper : (t : Option SqlType) (f : Fun) (vs : List Value) → AllByRecursion IsProper vs → IsProper (fun_value t f vs)
fun-proper t Concat vs h = text-proper (flat_map bytes_of vs) (all-bytes-utf8 vs h)
fun-proper t Coalesce vs h = widened-proper t (first_value vs) (first-proper vs h)
fun-proper t IfNull vs h = widened-proper t (first_value vs) (first-proper vs h)
fun-proper t Abs vs h = few-proper t Abs vs h
fun-proper t Len vs h = few-proper t Len vs h
fun-proper t Substring vs h = few-proper t Substring vs h
fun-proper t Trim vs h = few-proper t Trim vs h
fun-proper t Ucase vs h = few-proper t Ucase vs h
fun-proper t Lcase vs h = few-proper t Lcase vs h
fun-proper t NullIf vs h = few-proper t NullIf vs h

chosen-proper : (operand : Option Value) (ws : List (Value × Value)) (otherwise : Option Value) → AllByRecursion (λ w. IsProper w.1) ws →
    IsProper (unwrap_or otherwise Null) → IsProper (chosen operand ws otherwise)
chosen-proper operand [] otherwise h other = other
chosen-proper operand (w ∷ ws) otherwise h other = by (is_taken operand w.0) (chosen-proper operand ws otherwise h.1 other)
  where
    by : (b : Bool) → IsProper (chosen operand ws otherwise) → IsProper (unwrap_or (if b then Some w.1 else first_taken operand ws) (unwrap_or otherwise Null))
    by true ih = h.0
    by false ih = ih

cell-proper : (row : List Value) (i : ℕ) → AllByRecursion IsProper row → IsProper (cell row i)
cell-proper [] i h = (tt, tt)
cell-proper (v ∷ row) zero h = h.0
cell-proper (v ∷ row) (suc i) h = cell-proper row i h.1

-- ---- forms

-- whether a part holds a text of a kind
module _ (leaf : TypedNode-F Bool Bool Bool → Bool) where
  abbrev in_node : TypedNode → Bool
  in_node = fold-TypedNode Bool Bool Bool (node_holds leaf) (λ e. e.node) (λ w. w.cond || w.result)

  abbrev in_typed : Typed → Bool
  in_typed = fold-Typed Bool Bool Bool (node_holds leaf) (λ e. e.node) (λ w. w.cond || w.result)

  abbrev in_when : TypedWhen → Bool
  in_when = fold-TypedWhen Bool Bool Bool (node_holds leaf) (λ e. e.node) (λ w. w.cond || w.result)

module _ (row : List Value) (time : ℕ) (proper : AllByRecursion IsProper row) where
  -- what a part is worth
  abbrev of_node : TypedNode → Option SqlType → Value
  of_node = fold-TypedNode (Option SqlType → Value) Value (Value × Value) (node_value row time) (λ e. e.node e.ty) (λ w. (w.cond, w.result))

  abbrev of_typed : Typed → Value
  of_typed = fold-Typed (Option SqlType → Value) Value (Value × Value) (node_value row time) (λ e. e.node e.ty) (λ w. (w.cond, w.result))

  abbrev of_when : TypedWhen → Value × Value
  of_when = fold-TypedWhen (Option SqlType → Value) Value (Value × Value) (node_value row time) (λ e. e.node e.ty) (λ w. (w.cond, w.result))

  -- a part whose texts are proper is worth a proper value
  abbrev ProperNode : TypedNode → Type 0
  ProperNode n = (t : Option SqlType) → in_node is_long_text n ≡ false → in_node is_other_text n ≡ false → IsProper (of_node n t)

  abbrev ProperTyped : Typed → Type 0
  ProperTyped e = in_typed is_long_text e ≡ false → in_typed is_other_text e ≡ false → IsProper (of_typed e)

  abbrev ProperWhen : TypedWhen → Type 0
  ProperWhen w = in_when is_long_text w ≡ false → in_when is_other_text w ≡ false → IsProper (of_when w).1

  abbrev NodePart : Type 0
  NodePart = (n : TypedNode) × ProperNode n

  abbrev TypedPart : Type 0
  TypedPart = (e : Typed) × ProperTyped e

  abbrev WhenPart : Type 0
  WhenPart = (w : TypedWhen) × ProperWhen w

  each : (es : List TypedPart) → list_any (λ c. c) (map (in_typed is_long_text) (map (λ e. e.0) es)) ≡ false →
      list_any (λ c. c) (map (in_typed is_other_text) (map (λ e. e.0) es)) ≡ false → AllByRecursion IsProper (map of_typed (map (λ e. e.0) es))
  each [] a b = tt
  each (e ∷ es) a b =
      let long = neither (in_typed is_long_text e.0) (list_any (λ c. c) (map (in_typed is_long_text) (map (λ (x : TypedPart). x.0) es))) a in
      let other = neither (in_typed is_other_text e.0) (list_any (λ c. c) (map (in_typed is_other_text) (map (λ (x : TypedPart). x.0) es))) b in
      (e.1 long.0 other.0, each es long.1 other.1)

  each_when : (ws : List WhenPart) → list_any (λ c. c) (map (in_when is_long_text) (map (λ w. w.0) ws)) ≡ false →
      list_any (λ c. c) (map (in_when is_other_text) (map (λ w. w.0) ws)) ≡ false → AllByRecursion (λ (v : Value × Value). IsProper v.1) (map of_when (map (λ w. w.0) ws))
  each_when [] a b = tt
  each_when (w ∷ ws) a b =
      let long = neither (in_when is_long_text w.0) (list_any (λ c. c) (map (in_when is_long_text) (map (λ (x : WhenPart). x.0) ws))) a in
      let other = neither (in_when is_other_text w.0) (list_any (λ c. c) (map (in_when is_other_text) (map (λ (x : WhenPart). x.0) ws))) b in
      (w.1 long.0 other.0, each_when ws long.1 other.1)

  abbrev opened : TypedNode-F NodePart TypedPart WhenPart → TypedNode-F TypedNode Typed TypedWhen
  opened y = map-TypedNode NodePart TypedPart WhenPart TypedNode Typed TypedWhen (λ n. n.0) (λ e. e.0) (λ w. w.0) y

  -- whether a form holds a text of a kind in its parts or itself
  abbrev form_holds : (TypedNode-F Bool Bool Bool → Bool) → TypedNode-F NodePart TypedPart WhenPart → Bool
  form_holds leaf y = node_holds leaf (map-TypedNode TypedNode Typed TypedWhen Bool Bool Bool (in_node leaf) (in_typed leaf) (in_when leaf) (opened y))

  abbrev form_value : TypedNode-F NodePart TypedPart WhenPart → Option SqlType → Value
  form_value y t = node_value row time (map-TypedNode TypedNode Typed TypedWhen (Option SqlType → Value) Value (Value × Value) of_node of_typed of_when (opened y)) t

  abbrev whens_hold : (TypedNode-F Bool Bool Bool → Bool) → List WhenPart → Bool
  whens_hold leaf ws = list_any (λ c. c) (map (in_when leaf) (map (λ w. w.0) ws))

  literal-text : (x : List ℕ) → nat_lt 65536 (length x) ≡ false → not (is_utf8 x) ≡ false → IsProper (Txt x)
  literal-text x a b = (grind (arith, nat_tests), by (is_utf8 x) refl b)
    where
      by : (test : Bool) → is_utf8 x ≡ test → not test ≡ false → IsUtf8 x
      by true is h = IsUtf8-from_is_utf8 x is
      by false is h = absurd (true≢false h)

  form : (y : TypedNode-F NodePart TypedPart WhenPart) (t : Option SqlType) → form_holds is_long_text y ≡ false → form_holds is_other_text y ≡ false → IsProper (form_value y t)
  form (TypedNode-F.Literal Null) t a b = (tt, tt)
  form (TypedNode-F.Literal (Int n)) t a b = (tt, tt)
  form (TypedNode-F.Literal (Big n)) t a b = (tt, tt)
  form (TypedNode-F.Literal (Txt x)) t a b = literal-text x a b
  form (TypedNode-F.Literal (value.Bool x)) t a b = (tt, tt)
  form (TypedNode-F.Column i) t a b = cell-proper row i proper
  form TypedNode-F.RowTime t a b = (tt, tt)
  form (TypedNode-F.Sign minus x) t a b = signed-proper t minus (of_typed x.0) (x.1 a b)
  form (TypedNode-F.Binary o x y) t a b =
      let long = neither (in_typed is_long_text x.0) (in_typed is_long_text y.0) a in
      let other = neither (in_typed is_other_text x.0) (in_typed is_other_text y.0) b in
      applied-proper t o (of_typed x.0) (of_typed y.0) (x.1 long.0 other.0) (y.1 long.1 other.1)
  form (TypedNode-F.Not x) t a b = (tt, tt)
  form (TypedNode-F.IsNull negated x) t a b = (tt, tt)
  form (TypedNode-F.Between negated x low high) t a b = (tt, tt)
  form (TypedNode-F.OneOf negated x choices) t a b = (tt, tt)
  form (TypedNode-F.Like negated x pattern) t a b = (tt, tt)
  form (TypedNode-F.Cast x to) t a b = cast-proper to (of_typed x.0) (x.1 a b)
  form (TypedNode-F.Case None ws None) t a b =
      let long = neither (whens_hold is_long_text ws) false a in
      let other = neither (whens_hold is_other_text ws) false b in
      widened-proper t (chosen None (map of_when (map (λ (w : WhenPart). w.0) ws)) None) (chosen-proper None _ None (each_when ws long.0 other.0) (tt, tt))
  form (TypedNode-F.Case None ws (Some z)) t a b =
      let long = neither (whens_hold is_long_text ws) (in_typed is_long_text z.0) a in
      let other = neither (whens_hold is_other_text ws) (in_typed is_other_text z.0) b in
      widened-proper t (chosen None (map of_when (map (λ (w : WhenPart). w.0) ws)) (Some (of_typed z.0)))
      (chosen-proper None _ (Some (of_typed z.0)) (each_when ws long.0 other.0) (z.1 long.1 other.1))
  form (TypedNode-F.Case (Some x) ws None) t a b =
      let long = neither (in_typed is_long_text x.0 || whens_hold is_long_text ws) false a in
      let other = neither (in_typed is_other_text x.0 || whens_hold is_other_text ws) false b in
      let long_ws = neither (in_typed is_long_text x.0) (whens_hold is_long_text ws) long.0 in
      let other_ws = neither (in_typed is_other_text x.0) (whens_hold is_other_text ws) other.0 in
      widened-proper t (chosen (Some (of_typed x.0)) (map of_when (map (λ (w : WhenPart). w.0) ws)) None)
      (chosen-proper (Some (of_typed x.0)) _ None (each_when ws long_ws.1 other_ws.1) (tt, tt))
  form (TypedNode-F.Case (Some x) ws (Some z)) t a b =
      let long = neither (in_typed is_long_text x.0 || whens_hold is_long_text ws) (in_typed is_long_text z.0) a in
      let other = neither (in_typed is_other_text x.0 || whens_hold is_other_text ws) (in_typed is_other_text z.0) b in
      let long_ws = neither (in_typed is_long_text x.0) (whens_hold is_long_text ws) long.0 in
      let other_ws = neither (in_typed is_other_text x.0) (whens_hold is_other_text ws) other.0 in
      widened-proper t (chosen (Some (of_typed x.0)) (map of_when (map (λ (w : WhenPart). w.0) ws)) (Some (of_typed z.0)))
      (chosen-proper (Some (of_typed x.0)) _ (Some (of_typed z.0)) (each_when ws long_ws.1 other_ws.1) (z.1 long.1 other.1))
  form (TypedNode-F.Call fun args) t a b = fun-proper t fun (map of_typed (map (λ (e : TypedPart). e.0) args)) (each args a b)
  form (TypedNode-F.Aggregate fun arg) t a b = (tt, tt)

  abbrev folded : (leaf : TypedNode-F Bool Bool Bool → Bool) (y : TypedNode-F NodePart TypedPart WhenPart) → in_node leaf (roll-TypedNode (opened y)) ≡ form_holds leaf y
  folded leaf y = fold-roll-TypedNode Bool Bool Bool (node_holds leaf) (λ e. e.node) (λ w. w.cond || w.result) (opened y)

  node : (y : TypedNode-F NodePart TypedPart WhenPart) → ProperNode (roll-TypedNode (opened y))
  node y t a b =
      subst IsProper (sym (ap (λ made. made t) (fold-roll-TypedNode (Option SqlType → Value) Value (Value × Value) (node_value row time) (λ e. e.node e.ty) (λ w. (w.cond, w.result)) (opened y))))
      (form y t (sym (folded is_long_text y) ∙ a) (sym (folded is_other_text y) ∙ b))

  typed : (t : Option SqlType) (n : TypedNode) → ProperNode n → ProperTyped (roll-Typed (record { ty = t; node = n }))
  typed t n h a b =
      subst IsProper (sym (fold-roll-Typed (Option SqlType → Value) Value (Value × Value) (node_value row time) (λ e. e.node e.ty) (λ w. (w.cond, w.result)) (record { ty = t; node = n })))
      (h t (sym (fold-roll-Typed Bool Bool Bool (node_holds is_long_text) (λ e. e.node) (λ w. w.cond || w.result) (record { ty = t; node = n })) ∙ a)
      (sym (fold-roll-Typed Bool Bool Bool (node_holds is_other_text) (λ e. e.node) (λ w. w.cond || w.result) (record { ty = t; node = n })) ∙ b))

  when : (c r : Typed) → ProperTyped r → ProperWhen (roll-TypedWhen (record { cond = c; result = r }))
  when c r h a b =
      let long = neither (in_typed is_long_text c) (in_typed is_long_text r)
      (sym (fold-roll-TypedWhen Bool Bool Bool (node_holds is_long_text) (λ e. e.node) (λ w. w.cond || w.result) (record { cond = c; result = r })) ∙ a) in
      let other = neither (in_typed is_other_text c) (in_typed is_other_text r)
      (sym (fold-roll-TypedWhen Bool Bool Bool (node_holds is_other_text) (λ e. e.node) (λ w. w.cond || w.result) (record { cond = c; result = r })) ∙ b) in
      subst (λ (v : Value × Value). IsProper v.1)
      (sym (fold-roll-TypedWhen (Option SqlType → Value) Value (Value × Value) (node_value row time) (λ e. e.node e.ty) (λ w. (w.cond, w.result)) (record { cond = c; result = r })))
      (h long.1 other.1)

  whole_form : (e : Typed) → ProperTyped e
  whole_form = ind-Typed ProperNode ProperTyped ProperWhen
      (λ x y is. subst (λ z. ProperNode (roll-TypedNode z)) is (node y))
      (λ x y is. subst (λ z. ProperTyped (roll-Typed z)) is (typed y.ty y.node.0 y.node.1))
      (λ x y is. subst (λ z. ProperWhen (roll-TypedWhen z)) is (when y.cond.0 y.result.0 y.result.1))

pub values-proper : (row : List Value) (time : ℕ) (e : Typed) → AllByRecursion IsProper row → HoldsProperTexts e → IsProper (value_of row time e)
unfolding value_of holds_long_text holds_other_text
values-proper row time e proper h = whole_form row time proper e h.0 h.1
