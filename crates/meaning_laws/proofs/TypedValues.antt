-- The value of an expression that has its type is NULL or of this type: by induction on its typing, form by form.
use Rattle.std.proofs.Common.{◌≡◌, ◌∙◌, ap, sym, subst, refl, ℕ, zero, suc, Bool, true, false, List, [], ◌∷◌, ◌++◌, map, true≢false}
use Rattle.std.specs.Prelude.{IsTrue, if◌then◌else◌, Option, Some, None, option_map, option_and_then, unwrap_or, slice_get, ℤ, flat_map}
use Rattle.std.specs.List.{list_all, AllByRecursion, AllZip}
use Rattle.std.specs.Ordering.{is_eq}
use Rattle.std.proofs.lemmas.Option.{none-some, same_Some}
use Rattle.ksql_types.specs.Key.{is_null}
use Rattle.ksql_types.specs.declared.operator.BinaryOp.{BinaryOp}
use Rattle.ksql_types.specs.declared.operator.BinaryOp.TheVariants as op
use Rattle.ksql_types.specs.declared.value.SqlType.{SqlType}
use Rattle.ksql_types.specs.declared.value.SqlType.TheVariants as sql
use Rattle.ksql_types.specs.declared.value.Value.{Value}
use Rattle.ksql_types.specs.declared.value.Value.TheVariants.{Null, Int, Big, Txt}
use Rattle.ksql_types.specs.declared.value.Value.TheVariants as value
use Rattle.ksql_expr.specs.declared.typed.Fun.{Fun}
use Rattle.ksql_expr.specs.declared.typed.Fun.TheVariants.{Abs, Len, Concat, Substring, Trim, Ucase, Lcase, Coalesce, IfNull, NullIf}
use Rattle.ksql_expr.specs.declared.typed.Typed.{Typed, fold-Typed, fold-roll-Typed}
use Rattle.ksql_expr.specs.declared.typed.TypedWhen.{TypedWhen, fold-TypedWhen, fold-roll-TypedWhen}
use Rattle.ksql_expr.specs.declared.typed.TypedNode.{TypedNode, fold-TypedNode, fold-roll-TypedNode, map-TypedNode, roll-TypedNode}
use Rattle.ksql_expr.specs.declared.typed.TypedNode.TheVariants as n
use Rattle.ksql_expr.specs.declared.typed.TypedNode.TheOpen.{TypedNode-F}
use Rattle.ksql_expr.specs.Rules.{type_of, fits, given, joint, joint_type, binary_type, sign_type, typed, fun_type, can_be_when, are_comparable, case_type}
use Rattle.ksql_expr.specs.Typing.{of, Part, one, perhaps, each, whens, HasTypes, IsTyped, types, results}
use Rattle.ksql_expr.specs.Typing as t
use Rattle.ksql_expr.specs.Value.{value_of, node_value, cell, number, from_one, from_two, magnitude, whole, text, joined, signed, applied, cast, cast_number, fitting, fun_value, chosen, first_taken, first_value, is_taken, widened, length_of, without_spaces, in_capitals, in_small_letters, tail_of, middle_of, part_of, compare_so, bytes_of}
use Rattle.ksql_nodes.proofs.Lists.{All-append}
use Rattle.meaning_laws.proofs.Lists.{All-map, All-weaker}

-- a value is NULL or of a type; None is the type of NULL alone
abbrev pub Has : Option SqlType → Value → Type 0
Has None v = IsTrue (is_null v)
Has (Some ty) v = IsTrue (fits ty (type_of v))

-- ---- values of types

pub null-has : (t : Option SqlType) → Has t Null
null-has None = refl
null-has (Some t) = refl

pub nothing-has : (t : Option SqlType) (v : Value) → Has None v → Has t v
nothing-has t Null h = null-has t
nothing-has t (Int x) h = absurd (true≢false (sym h))
nothing-has t (Big x) h = absurd (true≢false (sym h))
nothing-has t (Txt x) h = absurd (true≢false (sym h))
nothing-has t (value.Bool x) h = absurd (true≢false (sym h))

type_of-has : (v : Value) → Has (type_of v) v
type_of-has Null = refl
type_of-has (Int x) = refl
type_of-has (Big x) = refl
type_of-has (Txt x) = refl
type_of-has (value.Bool x) = refl

pub number-has : (t : Option SqlType) (z : ℤ) → Has t (number t z)
number-has None z = refl
number-has (Some sql.Int) z = refl
number-has (Some sql.Big) z = refl
number-has (Some sql.Text) z = refl
number-has (Some sql.Bool) z = refl

numbers-has : (t : Option SqlType) (o : Option ℤ) → Has t (unwrap_or (option_map (number t) o) Null)
numbers-has t None = null-has t
numbers-has t (Some z) = number-has t z

from_one-has : (t : Option SqlType) (f : ℤ → ℤ) (a : Value) → Has t (from_one t f a)
from_one-has t f a = by (whole a)
  where
    by : (o : Option ℤ) → Has t (unwrap_or (option_map (λ x. number t (f x)) o) Null)
    by None = null-has t
    by (Some z) = number-has t (f z)

from_two-has : (t : Option SqlType) (f : ℤ → ℤ → Option ℤ) (a b : Value) → Has t (from_two t f a b)
from_two-has t f a b = numbers-has t (option_and_then (λ x. option_and_then (f x) (whole b)) (whole a))

if-has : (t : Option SqlType) (b : Bool) (v : Value) → Has t v → Has t (if b then v else Null)
if-has t true v h = h
if-has t false v h = null-has t

text-has : (bytes : List ℕ) → Has (Some sql.Text) (text bytes)
text-has bytes = if-has (Some sql.Text) _ (Txt bytes) refl

joined-has : (a b : Value) → Has (Some sql.Text) (joined a b)
joined-has (Txt a) (Txt b) = text-has (a ++ b)
joined-has (Txt a) Null = refl
joined-has (Txt a) (Int x) = refl
joined-has (Txt a) (Big x) = refl
joined-has (Txt a) (value.Bool x) = refl
joined-has Null b = refl
joined-has (Int x) b = refl
joined-has (Big x) b = refl
joined-has (value.Bool x) b = refl

cell-has : (cs : List (Option SqlType)) (row : List Value) → AllZip Has cs row → (i : ℕ) (t : Option SqlType) → slice_get cs i ≡ Some t → Has t (cell row i)
cell-has [] [] zip i t is = absurd (none-some t is)
cell-has [] (v ∷ row) zip i t is = absurd zip
cell-has (c ∷ cs) [] zip i t is = absurd zip
cell-has (c ∷ cs) (v ∷ row) zip zero t is = subst (λ x. Has x v) (same_Some c t is) zip.0
cell-has (c ∷ cs) (v ∷ row) zip (suc i) t is = cell-has cs row zip.1 i t is

-- ---- operators

given-same : (b : Bool) (u t : SqlType) → given b u ≡ Some t → u ≡ t
given-same true u t is = same_Some u t is
given-same false u t is = absurd (none-some t is)

signed-has : (a : Option SqlType) (t : SqlType) → sign_type a ≡ Some t → (minus : Bool) (x : Value) → Has a x → Has (Some t) (signed (Some t) minus x)
signed-has a t is true x h = from_one-has (Some t) _ x
signed-has None t is false x h = nothing-has (Some t) x h
signed-has (Some sql.Int) t is false x h = subst (λ u. Has (Some u) x) (same_Some sql.Int t is) h
signed-has (Some sql.Big) t is false x h = subst (λ u. Has (Some u) x) (same_Some sql.Big t is) h
signed-has (Some sql.Text) t is false x h = absurd (none-some t is)
signed-has (Some sql.Bool) t is false x h = absurd (none-some t is)

given-has : (b : Bool) (u t : SqlType) → given b u ≡ Some t → (v : Value) → Has (Some u) v → Has (Some t) v
given-has b u t is v h = subst (λ x. Has (Some x) v) (given-same b u t is) h

added-has : (t : SqlType) (x y : Value) → Has (Some t) (applied (Some t) op.Add x y)
added-has sql.Int x y = from_two-has (Some sql.Int) _ x y
added-has sql.Big x y = from_two-has (Some sql.Big) _ x y
added-has sql.Text x y = joined-has x y
added-has sql.Bool x y = from_two-has (Some sql.Bool) _ x y

applied-has : (o : BinaryOp) (a b : Option SqlType) (t : SqlType) → binary_type o a b ≡ Some t → (x y : Value) → Has (Some t) (applied (Some t) o x y)
applied-has op.Or a b t is x y = given-has _ sql.Bool t is (applied (Some t) op.Or x y) refl
applied-has op.And a b t is x y = given-has _ sql.Bool t is (applied (Some t) op.And x y) refl
applied-has op.Eq a b t is x y = given-has _ sql.Bool t is (applied (Some t) op.Eq x y) refl
applied-has op.Ne a b t is x y = given-has _ sql.Bool t is (applied (Some t) op.Ne x y) refl
applied-has op.Lt a b t is x y = given-has _ sql.Bool t is (applied (Some t) op.Lt x y) refl
applied-has op.Le a b t is x y = given-has _ sql.Bool t is (applied (Some t) op.Le x y) refl
applied-has op.Gt a b t is x y = given-has _ sql.Bool t is (applied (Some t) op.Gt x y) refl
applied-has op.Ge a b t is x y = given-has _ sql.Bool t is (applied (Some t) op.Ge x y) refl
applied-has op.Add a b t is x y = added-has t x y
applied-has op.Sub a b t is x y = from_two-has (Some t) _ x y
applied-has op.Concat a b t is x y = given-has _ sql.Text t is (joined x y) (joined-has x y)
applied-has op.Mul a b t is x y = from_two-has (Some t) _ x y
applied-has op.Div a b t is x y = from_two-has (Some t) _ x y
applied-has op.Rem a b t is x y = from_two-has (Some t) _ x y

-- ---- CAST

cast_number-has : (to : SqlType) → ((z : ℤ) → Has (Some to) (fitting to z)) → (x : Value) → Has (Some to) (cast_number to x)
cast_number-has to fit Null = refl
cast_number-has to fit (Int z) = fit z
cast_number-has to fit (Big z) = fit z
cast_number-has to fit (Txt t) = if-has (Some to) _ _ (fit _)
cast_number-has to fit (value.Bool b) = refl

cast-has : (to : SqlType) (x : Value) → Has (Some to) (cast to x)
cast-has sql.Int x = cast_number-has sql.Int (λ z. if-has (Some sql.Int) _ (Int z) refl) x
cast-has sql.Big x = cast_number-has sql.Big (λ z. if-has (Some sql.Big) _ (Big z) refl) x
cast-has sql.Text Null = refl
cast-has sql.Text (Int z) = refl
cast-has sql.Text (Big z) = refl
cast-has sql.Text (Txt t) = refl
cast-has sql.Text (value.Bool b) = refl
cast-has sql.Bool Null = refl
cast-has sql.Bool (Int z) = refl
cast-has sql.Bool (Big z) = refl
cast-has sql.Bool (Txt t) = refl
cast-has sql.Bool (value.Bool b) = refl

-- ---- one type of several results

-- a value that is widened where the whole is BIGINT is NULL or of a type
abbrev Into : Option SqlType → Value → Type 0
Into t v = Has t (widened t v)

null-into : (t : Option SqlType) → Into t Null
null-into None = refl
null-into (Some sql.Int) = refl
null-into (Some sql.Big) = refl
null-into (Some sql.Text) = refl
null-into (Some sql.Bool) = refl

nothing-into : (t : Option SqlType) (v : Value) → Has None v → Into t v
nothing-into t Null h = null-into t
nothing-into t (Int x) h = absurd (true≢false (sym h))
nothing-into t (Big x) h = absurd (true≢false (sym h))
nothing-into t (Txt x) h = absurd (true≢false (sym h))
nothing-into t (value.Bool x) h = absurd (true≢false (sym h))

own-into : (t : Option SqlType) (v : Value) → Has t v → Into t v
own-into None v h = h
own-into (Some sql.Int) v h = h
own-into (Some sql.Big) Null h = refl
own-into (Some sql.Big) (Int x) h = refl
own-into (Some sql.Big) (Big x) h = refl
own-into (Some sql.Big) (Txt x) h = h
own-into (Some sql.Big) (value.Bool x) h = h
own-into (Some sql.Text) v h = h
own-into (Some sql.Bool) v h = h

wider-into : (v : Value) → Has (Some sql.Int) v → Into (Some sql.Big) v
wider-into Null h = refl
wider-into (Int x) h = refl
wider-into (Big x) h = refl
wider-into (Txt x) h = h
wider-into (value.Bool x) h = h

-- both of two types go into their joint type
record Joins (x u t : Option SqlType) : Type 0 where
  own : (v : Value) → Has x v → Into t v
  rest : (v : Value) → Into u v → Into t v

joins-at : (x u s t : Option SqlType) → Joins x u s → Some s ≡ Some t → Joins x u t
joins-at x u s t j is = subst (Joins x u) (same_Some s t is) j

joined-types : (x u t : Option SqlType) → joint x u ≡ Some t → Joins x u t
joined-types None u t is = joins-at None u u t (record { own = nothing-into u; rest = λ v h. h }) is
joined-types (Some a) None t is = joins-at (Some a) None (Some a) t (record { own = own-into (Some a); rest = nothing-into (Some a) }) is
joined-types (Some sql.Int) (Some sql.Int) t is = joins-at (Some sql.Int) (Some sql.Int) (Some sql.Int) t (record { own = own-into (Some sql.Int); rest = λ v h. h }) is
joined-types (Some sql.Int) (Some sql.Big) t is = joins-at (Some sql.Int) (Some sql.Big) (Some sql.Big) t (record { own = wider-into; rest = λ v h. h }) is
joined-types (Some sql.Big) (Some sql.Int) t is = joins-at (Some sql.Big) (Some sql.Int) (Some sql.Big) t (record { own = own-into (Some sql.Big); rest = wider-into }) is
joined-types (Some sql.Big) (Some sql.Big) t is = joins-at (Some sql.Big) (Some sql.Big) (Some sql.Big) t (record { own = own-into (Some sql.Big); rest = λ v h. h }) is
joined-types (Some sql.Text) (Some sql.Text) t is = joins-at (Some sql.Text) (Some sql.Text) (Some sql.Text) t (record { own = own-into (Some sql.Text); rest = λ v h. h }) is
joined-types (Some sql.Bool) (Some sql.Bool) t is = joins-at (Some sql.Bool) (Some sql.Bool) (Some sql.Bool) t (record { own = own-into (Some sql.Bool); rest = λ v h. h }) is
joined-types _ _ t is = absurd (none-some t is)

-- ---- functions

typed-has : (b : Bool) (u : SqlType) (t : Option SqlType) → typed (given b u) ≡ Some t → (v : Value) → Has (Some u) v → Has t v
typed-has true u t is v h = subst (λ x. Has x v) (same_Some (Some u) t is) h
typed-has false u t is v h = absurd (none-some t is)

length-has : (x : Value) → Has (Some sql.Int) (length_of x)
length-has Null = refl
length-has (Int n) = refl
length-has (Big n) = refl
length-has (Txt t) = refl
length-has (value.Bool b) = refl

trimmed-has : (x : Value) → Has (Some sql.Text) (without_spaces x)
trimmed-has Null = refl
trimmed-has (Int n) = refl
trimmed-has (Big n) = refl
trimmed-has (Txt t) = refl
trimmed-has (value.Bool b) = refl

capitals-has : (x : Value) → Has (Some sql.Text) (in_capitals x)
capitals-has Null = refl
capitals-has (Int n) = refl
capitals-has (Big n) = refl
capitals-has (Txt t) = refl
capitals-has (value.Bool b) = refl

small-has : (x : Value) → Has (Some sql.Text) (in_small_letters x)
small-has Null = refl
small-has (Int n) = refl
small-has (Big n) = refl
small-has (Txt t) = refl
small-has (value.Bool b) = refl

tail-has : (x at : Value) → Has (Some sql.Text) (tail_of x at)
tail-has (Txt t) at = by (whole at)
  where
    by : (o : Option ℤ) → Has (Some sql.Text) (unwrap_or (option_map (λ p. Txt (part_of t p None)) o) Null)
    by None = refl
    by (Some p) = refl
tail-has Null at = refl
tail-has (Int n) at = refl
tail-has (Big n) at = refl
tail-has (value.Bool b) at = refl

middle-has : (x at len : Value) → Has (Some sql.Text) (middle_of x at len)
middle-has (Txt t) at len = by (whole at) (whole len)
  where
    by : (o q : Option ℤ) → Has (Some sql.Text) (unwrap_or (option_and_then (λ p. option_map (λ n. Txt (part_of t p (Some n))) q) o) Null)
    by None q = refl
    by (Some p) None = refl
    by (Some p) (Some n) = refl
middle-has Null at len = refl
middle-has (Int n) at len = refl
middle-has (Big n) at len = refl
middle-has (value.Bool b) at len = refl

module _ (worth : Typed → Value) where
  abbrev IsWorth : Typed → Type 0
  IsWorth e = Has e.ty (worth e)

  -- each of some results widens to their joint type
  joint-into : (es : List Typed) (t : Option SqlType) → joint_type (types es) ≡ Some t → AllByRecursion IsWorth es → AllByRecursion (λ e. Into t (worth e)) es
  joint-into [] t is h = tt
  joint-into (e ∷ es) t is h = by (joint_type (types es)) refl is (λ u at. joint-into es u at h.1)
    where
      by : (o : Option (Option SqlType)) → joint_type (types es) ≡ o → option_and_then (joint e.ty) o ≡ Some t →
          ((u : Option SqlType) → joint_type (types es) ≡ Some u → AllByRecursion (λ (x : Typed). Into u (worth x)) es) → AllByRecursion (λ (x : Typed). Into t (worth x)) (e ∷ es)
      by None at is rest = absurd (none-some t is)
      by (Some u) at is rest =
          let j = joined-types e.ty u t is in
          (j.own (worth e) h.0, All-weaker (λ (x : Typed). Into u (worth x)) (λ x. Into t (worth x)) (λ x. j.rest (worth x)) es (rest u at))

  first-into : (t : Option SqlType) (es : List Typed) → AllByRecursion (λ e. Into t (worth e)) es → Into t (first_value (map worth es))
  first-into t [] h = null-into t
  first-into t (e ∷ es) h = by (is_null (worth e)) (first-into t es h.1)
    where
      by : (b : Bool) → Into t (first_value (map worth es)) → Into t (if b then first_value (map worth es) else worth e)
      by true ih = ih
      by false ih = h.0

  fun-has : (f : Fun) (es : List Typed) (t : Option SqlType) → fun_type f (types es) ≡ Some t → AllByRecursion IsWorth es → Has t (fun_value t f (map worth es))
  fun-has Concat es t is h = typed-has _ sql.Text t is (text (flat_map bytes_of (map worth es))) (text-has (flat_map bytes_of (map worth es)))
  fun-has Coalesce (x ∷ xs) t is h = first-into t (x ∷ xs) (joint-into (x ∷ xs) t is h)
  fun-has IfNull (x ∷ y ∷ []) t is h = first-into t (x ∷ y ∷ []) (joint-into (x ∷ y ∷ []) t is h)
  fun-has Abs (x ∷ []) t is h = from_one-has t magnitude (worth x)
  fun-has Len (x ∷ []) t is h = typed-has _ sql.Int t is (length_of (worth x)) (length-has (worth x))
  fun-has Substring (x ∷ y ∷ []) t is h = typed-has _ sql.Text t is (tail_of (worth x) (worth y)) (tail-has (worth x) (worth y))
  fun-has Substring (x ∷ y ∷ z ∷ []) t is h = typed-has _ sql.Text t is (middle_of (worth x) (worth y) (worth z)) (middle-has (worth x) (worth y) (worth z))
  fun-has Trim (x ∷ []) t is h = typed-has _ sql.Text t is (without_spaces (worth x)) (trimmed-has (worth x))
  fun-has Ucase (x ∷ []) t is h = typed-has _ sql.Text t is (in_capitals (worth x)) (capitals-has (worth x))
  fun-has Lcase (x ∷ []) t is h = typed-has _ sql.Text t is (in_small_letters (worth x)) (small-has (worth x))
  fun-has NullIf (x ∷ y ∷ []) t is h = by (are_comparable x.ty y.ty) is (compare_so is_eq (worth x) (worth y))
    where
      by : (b : Bool) → (if b then Some x.ty else None) ≡ Some t → (same : Bool) → Has t (if same then Null else worth x)
      by true is true = null-has t
      by true is false = subst (λ u. Has u (worth x)) (same_Some x.ty t is) h.0
      by false is same = absurd (none-some t is)
  fun-has _ _ t is h = absurd (none-some t is)

-- ---- CASE

chosen-into : (t : Option SqlType) (operand : Option Value) (ws : List (Value × Value)) (otherwise : Option Value) → AllByRecursion (λ w. Into t w.1) ws →
    Into t (unwrap_or otherwise Null) → Into t (chosen operand ws otherwise)
chosen-into t operand [] otherwise h other = other
chosen-into t operand (w ∷ ws) otherwise h other = by (is_taken operand w.0) (chosen-into t operand ws otherwise h.1 other)
  where
    by : (b : Bool) → Into t (chosen operand ws otherwise) → Into t (unwrap_or (if b then Some w.1 else first_taken operand ws) (unwrap_or otherwise Null))
    by true ih = h.0
    by false ih = ih

-- ---- the values of parts

abbrev pub of_node : List Value → ℕ → TypedNode → Option SqlType → Value
of_node row time = fold-TypedNode (Option SqlType → Value) Value (Value × Value) (node_value row time) (λ e. e.node e.ty) (λ w. (w.cond, w.result))

abbrev pub of_typed : List Value → ℕ → Typed → Value
of_typed row time = fold-Typed (Option SqlType → Value) Value (Value × Value) (node_value row time) (λ e. e.node e.ty) (λ w. (w.cond, w.result))

abbrev pub of_when : List Value → ℕ → TypedWhen → Value × Value
of_when row time = fold-TypedWhen (Option SqlType → Value) Value (Value × Value) (node_value row time) (λ e. e.node e.ty) (λ w. (w.cond, w.result))

-- a form with the values of its parts
abbrev pub with_values : List Value → ℕ → TypedNode-F TypedNode Typed TypedWhen → TypedNode-F (Option SqlType → Value) Value (Value × Value)
with_values row time = map-TypedNode TypedNode Typed TypedWhen (Option SqlType → Value) Value (Value × Value) (of_node row time) (of_typed row time) (of_when row time)

pub of_form : (row : List Value) (time : ℕ) (t : Option SqlType) (form : TypedNode-F TypedNode Typed TypedWhen) (node : TypedNode)
    → roll-TypedNode form ≡ node → node_value row time (with_values row time form) t ≡ value_of row time (of t node)
unfolding value_of
of_form row time t form node rolls =
    let whole = fold-roll-Typed (Option SqlType → Value) Value (Value × Value) (node_value row time) (λ e. e.node e.ty) (λ w. (w.cond, w.result)) (record { ty = t; node = node }) in
    let folds = fold-roll-TypedNode (Option SqlType → Value) Value (Value × Value) (node_value row time) (λ e. e.node e.ty) (λ w. (w.cond, w.result)) form in
    sym (whole ∙ ap (λ v. of_node row time v t) (sym rolls) ∙ ap (λ made. made t) folds)

-- a column's value
pub value-column : (row : List Value) (time : ℕ) (e : Typed) (i : ℕ) → e.node ≡ n.Column i → cell row i ≡ value_of row time e
unfolding value_of
value-column row time e i is = of_form row time e.ty (TypedNode-F.Column i) (n.Column i) (n.rolls-Column i) ∙ ap (λ node. value_of row time (of e.ty node)) (sym is)

when_value : (row : List Value) (time : ℕ) (w : TypedWhen) → (of_when row time w).1 ≡ value_of row time w.result
unfolding value_of
when_value row time w =
    ap (λ p. p.1) (fold-roll-TypedWhen (Option SqlType → Value) Value (Value × Value) (node_value row time) (λ e. e.node e.ty) (λ x. (x.cond, x.result)) (record { cond = w.cond; result = w.result }))

-- the facts about the values of parts that have their types
abbrev Worth : List Value → ℕ → Part → Type 0
Worth row time (one e) = Has e.ty (value_of row time e)
Worth row time (perhaps None) = Unit {0}
Worth row time (perhaps (Some e)) = Has e.ty (value_of row time e)
Worth row time (each es) = AllByRecursion (λ e. Has e.ty (value_of row time e)) es
Worth row time (whens ws) = AllByRecursion (λ w. Has w.result.ty (value_of row time w.result)) ws

results-worth : (row : List Value) (time : ℕ) (ws : List TypedWhen) → AllByRecursion (λ w. Has w.result.ty (value_of row time w.result)) ws →
    AllByRecursion (λ e. Has e.ty (value_of row time e)) (map (λ w. w.result) ws)
results-worth row time ws h = All-map (λ (e : Typed). Has e.ty (value_of row time e)) (λ (w : TypedWhen). w.result) ws h

whens-into : (row : List Value) (time : ℕ) (t : Option SqlType) (ws : List TypedWhen) →
    AllByRecursion (λ e. Into t (value_of row time e)) (map (λ w. w.result) ws) → AllByRecursion (λ w. Into t w.1) (map (of_when row time) ws)
whens-into row time t [] h = tt
whens-into row time t (w ∷ ws) h = (subst (Into t) (sym (when_value row time w)) h.0, whens-into row time t ws h.1)

first-all : (P : Typed → Type 0) (es ds : List Typed) → AllByRecursion P (es ++ ds) → AllByRecursion P es
first-all P [] ds h = tt
first-all P (x ∷ xs) ds h = (h.0, first-all P xs ds h.1)

last-into : (P : Typed → Type 0) (es : List Typed) (e : Typed) → AllByRecursion P (es ++ e ∷ []) → P e
last-into P [] e h = h.0
last-into P (x ∷ xs) e h = last-into P xs e h.1

case-joint : (operand : Option (Option SqlType)) (conds ts : List (Option SqlType)) (t : Option SqlType) → case_type operand conds ts ≡ Some t → joint_type ts ≡ Some t
case-joint operand conds ts t is = by (list_all (can_be_when operand) conds) is
  where
    by : (b : Bool) → (if b then joint_type ts else None) ≡ Some t → joint_type ts ≡ Some t
    by true is = is
    by false is = absurd (none-some t is)

-- ---- by induction

case-has : (row : List Value) (time : ℕ) (operand otherwise : Option Typed) (ws : List TypedWhen) (t : Option SqlType) →
    AllByRecursion (λ w. Into t w.1) (map (of_when row time) ws) → Into t (unwrap_or (option_map (value_of row time) otherwise) Null) →
    Has t (value_of row time (of t (n.Case operand ws otherwise)))
unfolding value_of
case-has row time None None ws t h other =
    subst (Has t) (of_form row time t (TypedNode-F.Case None ws None) (n.Case None ws None) (n.rolls-Case None ws None))
    (chosen-into t None (map (of_when row time) ws) None h other)
case-has row time None (Some o) ws t h other =
    subst (Has t) (of_form row time t (TypedNode-F.Case None ws (Some o)) (n.Case None ws (Some o)) (n.rolls-Case None ws (Some o)))
    (chosen-into t None (map (of_when row time) ws) (Some (value_of row time o)) h other)
case-has row time (Some a) None ws t h other =
    subst (Has t) (of_form row time t (TypedNode-F.Case (Some a) ws None) (n.Case (Some a) ws None) (n.rolls-Case (Some a) ws None))
    (chosen-into t (Some (value_of row time a)) (map (of_when row time) ws) None h other)
case-has row time (Some a) (Some o) ws t h other =
    subst (Has t) (of_form row time t (TypedNode-F.Case (Some a) ws (Some o)) (n.Case (Some a) ws (Some o)) (n.rolls-Case (Some a) ws (Some o)))
    (chosen-into t (Some (value_of row time a)) (map (of_when row time) ws) (Some (value_of row time o)) h other)

case-into : (row : List Value) (time : ℕ) (operand otherwise : Option Typed) (ws : List TypedWhen) (t : Option SqlType) →
    joint_type (types (results ws otherwise)) ≡ Some t → AllByRecursion (λ w. Has w.result.ty (value_of row time w.result)) ws → Worth row time (perhaps otherwise) →
    Has t (value_of row time (of t (n.Case operand ws otherwise)))
case-into row time operand None ws t is h other =
    case-has row time operand None ws t (whens-into row time t ws (joint-into (value_of row time) (map (λ w. w.result) ws) t is (results-worth row time ws h))) (null-into t)
case-into row time operand (Some o) ws t is h other =
    let all = joint-into (value_of row time) (map (λ w. w.result) ws ++ o ∷ []) t is
    (All-append (λ (e : Typed). Has e.ty (value_of row time e)) (map (λ w. w.result) ws) (o ∷ []) (results-worth row time ws h) (other, tt)) in
    case-has row time operand (Some o) ws t
    (whens-into row time t ws (first-all (λ e. Into t (value_of row time e)) (map (λ w. w.result) ws) (o ∷ []) all))
    (last-into (λ e. Into t (value_of row time e)) (map (λ w. w.result) ws) o all)

valued-part : (row : List Value) (time : ℕ) {cs : List (Option SqlType)} {part : Part} → AllZip Has cs row → HasTypes cs part → Worth row time part
unfolding value_of
valued-part row time fit (t.literal {x = x}) = subst (Has (type_of x)) (of_form row time (type_of x) (TypedNode-F.Literal x) (n.Literal x) (n.rolls-Literal x)) (type_of-has x)
valued-part row time fit (t.column {cs = cs} {i = i} {t = ty} is) = subst (Has ty) (of_form row time ty (TypedNode-F.Column i) (n.Column i) (n.rolls-Column i)) (cell-has cs row fit i ty is)
valued-part row time fit t.row_time = subst (Has (Some sql.Big)) (of_form row time (Some sql.Big) TypedNode-F.RowTime n.RowTime n.rolls-RowTime) refl
valued-part row time fit (t.sign {minus = minus} {a = a} {t = ty} h is) =
    subst (Has (Some ty)) (of_form row time (Some ty) (TypedNode-F.Sign minus a) (n.Sign minus a) (n.rolls-Sign minus a))
    (signed-has a.ty ty is minus (value_of row time a) (valued-part row time fit h))
valued-part row time fit (t.binary {o = o} {a = a} {b = b} {t = ty} h k is) =
    subst (Has (Some ty)) (of_form row time (Some ty) (TypedNode-F.Binary o a b) (n.Binary o a b) (n.rolls-Binary o a b))
    (applied-has o a.ty b.ty ty is (value_of row time a) (value_of row time b))
valued-part row time fit (t.not {a = a} h is) =
    subst (Has (Some sql.Bool)) (of_form row time (Some sql.Bool) (TypedNode-F.Not a) (n.Not a) (n.rolls-Not a)) refl
valued-part row time fit (t.is_null {negated = negated} {a = a} h) =
    subst (Has (Some sql.Bool)) (of_form row time (Some sql.Bool) (TypedNode-F.IsNull negated a) (n.IsNull negated a) (n.rolls-IsNull negated a)) refl
valued-part row time fit (t.between {negated = negated} {a = a} {low = low} {high = high} h k l is) =
    subst (Has (Some sql.Bool)) (of_form row time (Some sql.Bool) (TypedNode-F.Between negated a low high) (n.Between negated a low high) (n.rolls-Between negated a low high)) refl
valued-part row time fit (t.one_of {negated = negated} {a = a} {es = es} h k is) =
    subst (Has (Some sql.Bool)) (of_form row time (Some sql.Bool) (TypedNode-F.OneOf negated a es) (n.OneOf negated a es) (n.rolls-OneOf negated a es)) refl
valued-part row time fit (t.like {negated = negated} {a = a} {pattern = pattern} h is) =
    subst (Has (Some sql.Bool)) (of_form row time (Some sql.Bool) (TypedNode-F.Like negated a pattern) (n.Like negated a pattern) (n.rolls-Like negated a pattern)) refl
valued-part row time fit (t.cast {a = a} {to = to} h is) =
    subst (Has (Some to)) (of_form row time (Some to) (TypedNode-F.Cast a to) (n.Cast a to) (n.rolls-Cast a to)) (cast-has to (value_of row time a))
valued-part row time fit (t.case {operand = operand} {otherwise = otherwise} {ws = ws} {t = ty} h k l is) =
    case-into row time operand otherwise ws ty (case-joint (option_map (λ e. e.ty) operand) (map (λ w. w.cond.ty) ws) (types (results ws otherwise)) ty is) (valued-part row time fit k) (valued-part row time fit l)
valued-part row time fit (t.call {f = f} {es = es} {t = ty} h is) =
    subst (Has ty) (of_form row time ty (TypedNode-F.Call f es) (n.Call f es) (n.rolls-Call f es)) (fun-has (value_of row time) f es ty is (valued-part row time fit h))
valued-part row time fit (t.aggregate {f = f} {a = None} {t = ty} h is) =
    subst (Has ty) (of_form row time ty (TypedNode-F.Aggregate f None) (n.Aggregate f None) (n.rolls-Aggregate f None)) (null-has ty)
valued-part row time fit (t.aggregate {f = f} {a = Some a} {t = ty} h is) =
    subst (Has ty) (of_form row time ty (TypedNode-F.Aggregate f (Some a)) (n.Aggregate f (Some a)) (n.rolls-Aggregate f (Some a))) (null-has ty)
valued-part row time fit t.left_out = tt
valued-part row time fit (t.there h) = valued-part row time fit h
valued-part row time fit t.none = tt
valued-part row time fit (t.more h k) = (valued-part row time fit h, valued-part row time fit k)
valued-part row time fit t.no_when = tt
valued-part row time fit (t.more_whens h k l) = (valued-part row time fit k, valued-part row time fit l)

-- the value of an expression on a row of its columns is NULL or of its type
pub typed-has_type : (row : List Value) (time : ℕ) (cs : List (Option SqlType)) → AllZip Has cs row → (e : Typed) → IsTyped cs e → Has e.ty (value_of row time e)
typed-has_type row time cs fit e h = valued-part row time fit h
