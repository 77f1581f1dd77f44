-- What entered a group of a table less what left it is what the group holds.
use Rattle.std.proofs.Common.{◌≡◌, ◌∙◌, ap, refl, sym, subst, List, [], ◌∷◌, ◌++◌, Bool, true, false, cond, arith, append_assoc}
use Rattle.std.proofs.lemmas.List.{append-nil}
use Rattle.std.specs.Prelude.{filter, not, ◌||◌, Option, Some, None, ℤ, pos, ◌+ℤ◌, option_and_then}
use Rattle.std.specs.Option.{option_to_list}
use Rattle.std.specs.List.{list_any, last_or}
use Rattle.std.proofs.lemmas.Int.{ints}
use Rattle.ksql_types.specs.declared.value.Value.{Value}
use Rattle.ksql_place.specs.Said.{row_in, row_out}
use Rattle.ksql_nodes.specs.Entries.{Row, Entry, of_key, is_same_key, row_after}
use Rattle.ksql_nodes.specs.TableAggregates.{standing}
use Rattle.ksql_nodes.specs.Steps.{IsTableFrom}
use Rattle.ksql_nodes.proofs.Keys.{key-decides, key-turned}

-- ---- the entries that stand

abbrev later_of : List Value → Entry → Bool
later_of key later = is_same_key key later.change.key

abbrev has_key : List Value → Entry → Bool
has_key key e = is_same_key e.change.key key

abbrev some : {A : Type 0} → List A → Bool
some [] = false
some (x ∷ xs) = true

any-later : (key : List Value) (es : List Entry) → list_any (later_of key) es ≡ some (filter (has_key key) es)
any-later key [] = refl
any-later key (e ∷ es) = ap (λ b. b || list_any (later_of key) es) (key-turned key e.change.key) ∙ by (has_key key e) (any-later key es)
  where
    by : (b : Bool) → list_any (later_of key) es ≡ some (filter (has_key key) es) →
        (b || list_any (later_of key) es) ≡ some (cond b (e ∷ filter (has_key key) es) (filter (has_key key) es))
    by true ih = refl
    by false ih = ih

or-assoc : (a b c : Bool) → ((a || b) || c) ≡ (a || (b || c))
or-assoc true b c = refl
or-assoc false b c = refl

any-more : (test : Entry → Bool) (es : List Entry) (e : Entry) → list_any test (es ++ e ∷ []) ≡ (list_any test es || test e)
any-more test [] e = by (test e)
  where
    by : (b : Bool) → (b || false) ≡ b
    by true = refl
    by false = refl
any-more test (x ∷ xs) e = ap (λ b. test x || b) (any-more test xs e) ∙ sym (or-assoc (test x) (list_any test xs) (test e))

abbrev other : List Value → Entry → Bool
other key e = not (has_key key e)

-- one entry more takes the place of the one of its key
standing-more : (es : List Entry) (e : Entry) → standing (es ++ e ∷ []) ≡ filter (other e.change.key) (standing es) ++ e ∷ []
standing-more [] e = refl
standing-more (x ∷ xs) e =
    ap (λ b. cond b (standing (xs ++ e ∷ [])) (x ∷ standing (xs ++ e ∷ []))) (any-more (later_of x.change.key) xs e)
    ∙ ap (λ rest. cond (list_any (later_of x.change.key) xs || has_key e.change.key x) rest (x ∷ rest)) (standing-more xs e)
    ∙ by (list_any (later_of x.change.key) xs) (has_key e.change.key x) refl
  where
    by : (a b : Bool) → has_key e.change.key x ≡ b →
        cond (a || b) (filter (other e.change.key) (standing xs) ++ e ∷ []) (x ∷ filter (other e.change.key) (standing xs) ++ e ∷ [])
        ≡ filter (other e.change.key) (cond a (standing xs) (x ∷ standing xs)) ++ e ∷ []
    by true b is = refl
    by false b is = ends b ∙ sym (ap (λ d. cond (not d) (x ∷ filter (other e.change.key) (standing xs)) (filter (other e.change.key) (standing xs)) ++ e ∷ []) is)
      where
        ends : (b : Bool) → cond b (filter (other e.change.key) (standing xs) ++ e ∷ []) (x ∷ filter (other e.change.key) (standing xs) ++ e ∷ [])
            ≡ cond (not b) (x ∷ filter (other e.change.key) (standing xs)) (filter (other e.change.key) (standing xs)) ++ e ∷ []
        ends true = refl
        ends false = refl

-- the current entry of a key is the last one of that key
standing-key : (key : List Value) (es : List Entry) → filter (has_key key) (standing es) ≡ option_to_list (last_or None (filter (has_key key) es))
standing-key key [] = refl
standing-key key (x ∷ xs) = by (has_key key x) refl (standing-key key xs)
  where
    taken : (S ys : List Entry) → has_key key x ≡ true → filter (has_key key) S ≡ option_to_list (last_or None ys) →
        filter (has_key key) (cond (some ys) S (x ∷ S)) ≡ option_to_list (last_or None (x ∷ ys))
    taken S [] is ih = ap (λ d. cond d (x ∷ filter (has_key key) S) (filter (has_key key) S)) is ∙ ap (λ rest. x ∷ rest) ih
    taken S (y ∷ ys) is ih = ih

    passed : (a : Bool) (S : List Entry) → has_key key x ≡ false → filter (has_key key) (cond a S (x ∷ S)) ≡ filter (has_key key) S
    passed true S is = refl
    passed false S is = ap (λ d. cond d (x ∷ filter (has_key key) S) (filter (has_key key) S)) is

    by : (b : Bool) → has_key key x ≡ b → filter (has_key key) (standing xs) ≡ option_to_list (last_or None (filter (has_key key) xs)) →
        filter (has_key key) (cond (list_any (later_of x.change.key) xs) (standing xs) (x ∷ standing xs))
        ≡ option_to_list (last_or None (cond (has_key key x) (x ∷ filter (has_key key) xs) (filter (has_key key) xs)))
    by true is ih =
        ap (λ a. filter (has_key key) (cond a (standing xs) (x ∷ standing xs)))
        (ap (λ k. list_any (later_of k) xs) ((key-decides x.change.key key).0 is) ∙ any-later key xs)
        ∙ taken (standing xs) (filter (has_key key) xs) is ih
        ∙ sym (ap (λ d. option_to_list (last_or None (cond d (x ∷ filter (has_key key) xs) (filter (has_key key) xs)))) is)
    by false is ih =
        passed (list_any (later_of x.change.key) xs) (standing xs) is ∙ ih
        ∙ sym (ap (λ d. option_to_list (last_or None (cond d (x ∷ filter (has_key key) xs) (filter (has_key key) xs)))) is)

-- ---- weights

unfoldable pub weight : (Entry → ℤ) → List Entry → ℤ
weight w [] = pos 0
weight w (e ∷ es) = w e +ℤ weight w es

weight-more : (w : Entry → ℤ) (es : List Entry) (e : Entry) → weight w (es ++ e ∷ []) ≡ weight w es +ℤ w e
unfolding weight
weight-more w [] e = omega (arith, ints)
weight-more w (x ∷ xs) e = ap (λ z. w x +ℤ z) (weight-more w xs e) ∙ omega (arith, ints)

weight-split : (w : Entry → ℤ) (p : Entry → Bool) (es : List Entry) → weight w es ≡ weight w (filter (λ e. not (p e)) es) +ℤ weight w (filter p es)
unfolding weight
weight-split w p [] = refl
weight-split w p (x ∷ xs) = by (p x) (weight-split w p xs)
  where
    by : (b : Bool) → weight w xs ≡ weight w (filter (λ e. not (p e)) xs) +ℤ weight w (filter p xs) →
        w x +ℤ weight w xs ≡ weight w (cond (not b) (x ∷ filter (λ e. not (p e)) xs) (filter (λ e. not (p e)) xs)) +ℤ weight w (cond b (x ∷ filter p xs) (filter p xs))
    by true ih = omega (arith, ints)
    by false ih = omega (arith, ints)

-- ---- the law

-- what a row weighs, and nothing weighs nothing
abbrev pub rows_in : (Option Row → ℤ) → Entry → ℤ
rows_in weigh e = weigh (row_in e.change.body)

abbrev pub rows_out : (Option Row → ℤ) → Entry → ℤ
rows_out weigh e = weigh (row_out e.change.body)

weight-last : (weigh : Option Row → ℤ) → weigh None ≡ pos 0 → (last : Option Entry) →
    weight (rows_in weigh) (option_to_list last) ≡ weigh (option_and_then (λ e. row_in e.change.body) last)
unfolding weight
weight-last weigh none None = sym none
weight-last weigh none (Some e) = omega (arith, ints)

weight-key : (weigh : Option Row → ℤ) → weigh None ≡ pos 0 → (key : List Value) (es : List Entry) →
    weight (rows_in weigh) (filter (has_key key) (standing es)) ≡ weigh (row_after (of_key key es))
weight-key weigh none key es = ap (weight (rows_in weigh)) (standing-key key es) ∙ weight-last weigh none (last_or None (of_key key es))

abbrev pub IsBalanced : (Option Row → ℤ) → List Entry → Type 0
IsBalanced weigh es = weight (rows_in weigh) es ≡ weight (rows_out weigh) es +ℤ weight (rows_in weigh) (standing es)

balance-step : (i o s n k r more less i' o' s' : ℤ) → i ≡ o +ℤ s → i' ≡ i +ℤ more → o' ≡ o +ℤ less → s' ≡ n +ℤ more → s ≡ n +ℤ k → k ≡ r → less ≡ r → i' ≡ o' +ℤ s'
balance-step i o s n k r more less i' o' s' e1 e2 e3 e4 e5 e6 e7 = omega (arith, ints)

balanced-more : (weigh : Option Row → ℤ) → weigh None ≡ pos 0 → (es : List Entry) (e : Entry) →
    row_out e.change.body ≡ row_after (of_key e.change.key es) → IsBalanced weigh es → IsBalanced weigh (es ++ e ∷ [])
balanced-more weigh none es e follows ih =
    let k : List Value = e.change.key in
    let a = weight-more (rows_in weigh) es e in
    let b = weight-more (rows_out weigh) es e in
    let c = ap (weight (rows_in weigh)) (standing-more es e) ∙ weight-more (rows_in weigh) (filter (other k) (standing es)) e in
    let d = weight-split (rows_in weigh) (has_key k) (standing es) in
    let f = weight-key weigh none k es in
    let g = ap weigh follows in
    balance-step _ _ _ _ _ _ _ _ _ _ _ ih a b c d f g

balanced-from : (weigh : Option Row → ℤ) → weigh None ≡ pos 0 → (before es : List Entry) → IsTableFrom before es → IsBalanced weigh before → IsBalanced weigh (before ++ es)
balanced-from weigh none before [] table ih = subst (IsBalanced weigh) (sym (append-nil before)) ih
balanced-from weigh none before (e ∷ es) table ih =
    subst (IsBalanced weigh) (append_assoc before (e ∷ []) es) (balanced-from weigh none (before ++ e ∷ []) es table.1 (balanced-more weigh none before e (ap row_out table.0) ih))

-- entered is left and held
pub balanced : (weigh : Option Row → ℤ) → weigh None ≡ pos 0 → (es : List Entry) → IsTableFrom [] es → IsBalanced weigh es
unfolding weight
balanced weigh none es table = balanced-from weigh none [] es table refl
