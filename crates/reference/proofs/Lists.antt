-- The last, the first and the sum of some values, and the entries of none.
use Rattle.std.proofs.Common.{◌≡◌, ◌∙◌, ap, refl, sym, ◌-◌, ◌≤◌, Bool, true, false, List, [], ◌∷◌, ◌++◌, map, length, sub-one, Some, None, arith}
use Rattle.std.specs.Prelude.{Option, ◌==◌, option_map, slice_get, find, not, unwrap_or, if◌then◌else◌, pos, ◌+ℤ◌}
use Rattle.std.specs.List.{last_or}
use Rattle.std.proofs.Math.Dec.{eqb-suc-zero}
use Rattle.std.proofs.lemmas.Int.{ints}
use Rattle.std.proofs.lemmas.List.{append-nil}
use Rattle.std.proofs.lemmas.List.Elements.{filter-append}
use Rattle.std.proofs.lemmas.List.Filters.{length-filter_both}
use Rattle.ksql_types.specs.Key.{is_null}
use Rattle.ksql_types.specs.declared.value.Value.{Value}
use Rattle.ksql_types.specs.declared.value.Value.TheVariants.{Null, Int, Big, Txt}
use Rattle.ksql_types.specs.declared.value.Value.TheVariants as value
use Rattle.ksql_expr.specs.Value.{first_value, whole}
use Rattle.ksql_nodes.specs.Aggregates.{present, total, unless_none}
use Rattle.ksql_nodes.specs.Entries.{Row}
use Rattle.reference.specs.Steps.{entry_of}
use Rattle.reference.specs.declared.entries.EntryRef.{EntryRef}

last-after : {A B : Type 0} (f : A → B) (x : A) (xs : List A) → last_or (Some (f x)) (map f xs) ≡ option_map f (slice_get (x ∷ xs) (length xs))
last-after f x [] = refl
last-after f x (y ∷ ys) = last-after f y ys

-- the last of some values is at the index one below their number
pub last_read : {A B : Type 0} (f : A → B) (xs : List A) → last_or None (map f xs) ≡ option_map f (slice_get xs (length xs - 1))
last_read f [] = refl
last_read f (x ∷ xs) = rw (sub-one, last-after f x xs)

-- the first value that isn't NULL is the one that a search finds
pub first_found : (vs : List Value) → first_value vs ≡ unwrap_or (find (λ v. not (is_null v)) vs) Null
first_found [] = refl
first_found (v ∷ vs) = by (is_null v) (first_found vs)
  where
    by : (b : Bool) → first_value vs ≡ unwrap_or (find (λ v. not (is_null v)) vs) Null →
        (if b then first_value vs else v) ≡ unwrap_or (if not b then Some v else find (λ v. not (is_null v)) vs) Null
    by true ih = ih
    by false ih = refl

-- there are no more present values than values
pub few_present : (vs : List Value) → length (present vs) ≤ length vs
few_present vs = omega (arith, length-filter_both (λ (v : Value). not (is_null v)) (λ v. not (not (is_null v))) (λ v. refl) vs)

total-append : (vs ws : List Value) → total (vs ++ ws) ≡ total vs +ℤ total ws
total-append [] ws = omega (arith, ints)
total-append (v ∷ vs) ws = omega (arith, ints, total-append vs ws)

total-one : (v : Value) → total (present (v ∷ [])) ≡ unwrap_or (whole v) (pos 0)
total-one Null = refl
total-one (Int n) = omega (arith, ints)
total-one (Big n) = omega (arith, ints)
total-one (Txt t) = refl
total-one (value.Bool b) = refl

-- one value more
pub total-more : (vs : List Value) (v : Value) → total (present (vs ++ v ∷ [])) ≡ total (present vs) +ℤ unwrap_or (whole v) (pos 0)
total-more vs v =
    ap total (filter-append (λ (v : Value). not (is_null v)) vs (v ∷ [])) ∙ total-append (present vs) (present (v ∷ []))
    ∙ ap (λ z. total (present vs) +ℤ z) (total-one v)

last-append : {A : Type 0} (o : Option A) (xs : List A) (x : A) → last_or o (xs ++ x ∷ []) ≡ Some x
last-append o [] x = refl
last-append o (y ∷ ys) x = last-append (Some y) ys x

-- the last present value of some and one more
pub latest_more : (vs : List Value) (v : Value) →
    unwrap_or (last_or None (present (vs ++ v ∷ []))) Null ≡ (if is_null v then unwrap_or (last_or None (present vs)) Null else v)
latest_more vs v =
    ap (λ ws. unwrap_or (last_or None ws) Null) (filter-append (λ (v : Value). not (is_null v)) vs (v ∷ [])) ∙ by (is_null v)
  where
    by : (b : Bool) → unwrap_or (last_or None (present vs ++ (if not b then v ∷ [] else []))) Null ≡ (if b then unwrap_or (last_or None (present vs)) Null else v)
    by true = ap (λ ws. unwrap_or (last_or None ws) Null) (append-nil (present vs))
    by false = ap (λ o. unwrap_or o Null) (last-append None (present vs) v)

-- a row is absent if there are no entries
pub absent_without : (es : List EntryRef) (row : Row) → unless_none (map entry_of es) row ≡ (if length es == 0 then None else Some row)
absent_without [] row = refl
absent_without (e ∷ es) row = sym (ap (λ (b : Bool). if b then None else Some row) (eqb-suc-zero (length es)))
