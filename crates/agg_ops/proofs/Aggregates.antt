-- Each aggregate function of one more value, from its value before.
use Rattle.std.proofs.Common.{◌≡◌, ◌∙◌, ap, refl, sym, Bool, true, false, cond, List, [], ◌∷◌, ◌++◌, length, arith}
use Rattle.std.specs.Prelude.{Option, None, Some, not, if◌then◌else◌, unwrap_or, ℤ, pos, ◌+ℤ◌, ◌-ℤ◌}
use Rattle.std.proofs.lemmas.Int.{ints, int_wrap-add_left}
use Rattle.std.proofs.lemmas.List.{append-nil, length-append}
use Rattle.std.proofs.lemmas.List.Elements.{filter-append}
use Rattle.std.proofs.lemmas.List.Sums.{fold-append}
use Rattle.std.specs.Int.{w32, w64}
use Rattle.std.specs.List.{fold, last_or}
use Rattle.std.specs.Ordering.{is_lt, is_gt}
use Rattle.std.specs.declared.cmp.Ordering.{Ordering}
use Rattle.ksql_types.specs.Key.{is_null}
use Rattle.ksql_types.specs.declared.value.SqlType.{SqlType}
use Rattle.ksql_types.specs.declared.value.SqlType.TheVariants as sql
use Rattle.ksql_types.specs.declared.value.Value.{Value}
use Rattle.ksql_types.specs.declared.value.Value.TheVariants.{Null, Int, Big, Txt}
use Rattle.ksql_types.specs.declared.value.Value.TheVariants as value
use Rattle.ksql_expr.specs.declared.typed.AggFun.{AggFun}
use Rattle.ksql_expr.specs.declared.typed.AggFun.TheVariants.{CountAll, Count, Sum, Min, Max, Latest, Earliest}
use Rattle.ksql_expr.specs.Value.{number, first_value}
use Rattle.ksql_nodes.specs.Aggregates.{present, total, amount, better, extreme, aggregate, balance}
use Rattle.agg_ops.specs.Totals.{raised, more}

null-is : (v : Value) → is_null v ≡ true → v ≡ Null
null-is Null e = refl
null-is (Int n) e = absurd cc
null-is (Big n) e = absurd cc
null-is (Txt t) e = absurd cc
null-is (value.Bool b) e = absurd cc

-- ---- numbers, which wrap in their type

number-raised : (ty : Option SqlType) (x y : ℤ) → number ty (x +ℤ y) ≡ raised ty (number ty x) y
number-raised None x y = refl
number-raised (Some sql.Int) x y = ap (λ z. Int z) (sym (int_wrap-add_left w32 x y))
number-raised (Some sql.Big) x y = ap (λ z. Big z) (sym (int_wrap-add_left w64 x y))
number-raised (Some sql.Text) x y = refl
number-raised (Some sql.Bool) x y = refl

total-append : (vs ws : List Value) → total (vs ++ ws) ≡ total vs +ℤ total ws
total-append [] ws = omega (arith, ints)
total-append (v ∷ vs) ws = omega (arith, ints, total-append vs ws)

present-append : (vs ws : List Value) → present (vs ++ ws) ≡ present vs ++ present ws
present-append vs ws = filter-append (λ (v : Value). not (is_null v)) vs ws

amount-append : (f : AggFun) (vs ws : List Value) → amount f (vs ++ ws) ≡ amount f vs +ℤ amount f ws
amount-append CountAll vs ws = omega (arith, ints, length-append vs ws)
amount-append Count vs ws = ap (λ vs. pos (length vs)) (present-append vs ws) ∙ omega (arith, ints, length-append (present vs) (present ws))
amount-append Sum vs ws = ap total (present-append vs ws) ∙ total-append (present vs) (present ws)
amount-append Min vs ws = refl
amount-append Max vs ws = refl
amount-append Latest vs ws = refl
amount-append Earliest vs ws = refl

-- nothing is counted of no values
pub amount-none : (f : AggFun) → amount f [] ≡ pos 0
amount-none CountAll = refl
amount-none Count = refl
amount-none Sum = refl
amount-none Min = refl
amount-none Max = refl
amount-none Latest = refl
amount-none Earliest = refl

amount-more : (f : AggFun) (ty : Option SqlType) (vs : List Value) (v : Value) → number ty (amount f (vs ++ v ∷ [])) ≡ raised ty (number ty (amount f vs)) (amount f (v ∷ []))
amount-more f ty vs v = ap (number ty) (amount-append f vs (v ∷ [])) ∙ number-raised ty (amount f vs) (amount f (v ∷ []))

-- more values that enter, and more that leave
pub balance-more : (f : AggFun) (ty : Option SqlType) (entered gone vs ws : List Value) →
    balance f ty (entered ++ vs) (gone ++ ws) ≡ raised ty (balance f ty entered gone) (amount f vs -ℤ amount f ws)
balance-more f ty entered gone vs ws =
    ap (number ty) (omega (arith, ints, amount-append f entered vs, amount-append f gone ws))
    ∙ number-raised ty (amount f entered -ℤ amount f gone) (amount f vs -ℤ amount f ws)

present-more : (vs : List Value) (v : Value) → present (vs ++ v ∷ []) ≡ present vs ++ (if is_null v then [] else v ∷ [])
present-more vs v = present-append vs (v ∷ []) ∙ by (is_null v)
  where
    by : (b : Bool) → present vs ++ cond (not b) (v ∷ []) [] ≡ present vs ++ (if b then [] else v ∷ [])
    by true = refl
    by false = refl

-- ---- the best value

-- NULL is passed over
better-null : (test : Ordering → Bool) (best : Value) → better test best Null ≡ best
better-null test Null = refl
better-null test (Int n) = refl
better-null test (Big n) = refl
better-null test (Txt t) = refl
better-null test (value.Bool b) = refl

extreme-more : (test : Ordering → Bool) (vs : List Value) (v : Value) → extreme test (present (vs ++ v ∷ [])) ≡ better test (extreme test (present vs)) v
extreme-more test vs v =
    ap (extreme test) (present-more vs v) ∙ fold-append (better test) Null (present vs) (if is_null v then [] else v ∷ [])
    ∙ one (extreme test (present vs)) v
  where
    one : (best v : Value) → fold (better test) best (if is_null v then [] else v ∷ []) ≡ better test best v
    one best Null = sym (better-null test best)
    one best (Int n) = refl
    one best (Big n) = refl
    one best (Txt t) = refl
    one best (value.Bool b) = refl

-- ---- the last and the first value

last-more : {A : Type 0} (o : Option A) (xs : List A) (x : A) → last_or o (xs ++ x ∷ []) ≡ Some x
last-more o [] x = refl
last-more o (y ∷ ys) x = last-more (Some y) ys x

latest-more : (vs : List Value) (v : Value) → unwrap_or (last_or None (present (vs ++ v ∷ []))) Null ≡ (if is_null v then unwrap_or (last_or None (present vs)) Null else v)
latest-more vs v = ap (λ ws. unwrap_or (last_or None ws) Null) (present-more vs v) ∙ by (is_null v)
  where
    by : (b : Bool) → unwrap_or (last_or None (present vs ++ (if b then [] else v ∷ []))) Null ≡ (if b then unwrap_or (last_or None (present vs)) Null else v)
    by true = ap (λ ws. unwrap_or (last_or None ws) Null) (append-nil (present vs))
    by false = ap (λ o. unwrap_or o Null) (last-more None (present vs) v)

earliest-more : (vs : List Value) (v : Value) → first_value (vs ++ v ∷ []) ≡ (if is_null (first_value vs) then v else first_value vs)
earliest-more [] v = by (is_null v) refl
  where
    by : (b : Bool) → is_null v ≡ b → (if b then Null else v) ≡ v
    by true e = sym (null-is v e)
    by false e = refl
earliest-more (w ∷ vs) v = by (is_null w) refl (earliest-more vs v)
  where
    by : (b : Bool) → is_null w ≡ b → first_value (vs ++ v ∷ []) ≡ (if is_null (first_value vs) then v else first_value vs) →
        (if b then first_value (vs ++ v ∷ []) else w) ≡ (if is_null (if b then first_value vs else w) then v else (if b then first_value vs else w))
    by true e rest = rest
    by false e rest = ap (λ b. if b then v else w) (sym e)

-- ---- any of them

pub aggregate-more : (f : AggFun) (ty : Option SqlType) (vs : List Value) (v : Value) → aggregate f ty (vs ++ v ∷ []) ≡ more f ty (aggregate f ty vs) v
aggregate-more CountAll ty vs v = amount-more CountAll ty vs v
aggregate-more Count ty vs v = amount-more Count ty vs v
aggregate-more Sum ty vs v = amount-more Sum ty vs v
aggregate-more Min ty vs v = extreme-more is_lt vs v
aggregate-more Max ty vs v = extreme-more is_gt vs v
aggregate-more Latest ty vs v = latest-more vs v
aggregate-more Earliest ty vs v = earliest-more vs v
