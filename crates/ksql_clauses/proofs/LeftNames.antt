-- Whether an expression contains a name that is looked for, form by form.
use Rattle.std.proofs.Common.{◌≡◌, ℕ, suc, arith, List, [], ◌∷◌, ◌++◌, ◌||◌, map, Bool, true, false, if◌then◌else◌, not, ◌&&◌, Bor, nat_lt, Option, Some, None, refl, ap, ap₂, sym, ◌∙◌}
use Rattle.std.specs.Prelude.{◌==◌, bytes_eq, filter, find, length, option_map}
use Rattle.std.specs.List.{list_any, list_all, AllByRecursion as Each}
use Rattle.std.proofs.lemmas.Bool.{lt-ltb}
use Rattle.std.proofs.lemmas.List.Folds.{list_any-append}
use Rattle.expression_trees.specs.declared.tree.Expr.{Expr}
use Rattle.expression_trees.specs.declared.tree.Expr.TheVariants as e
use Rattle.expression_trees.specs.declared.tree.WhenText.{WhenText}
use Rattle.ksql_clauses.specs.declared.sources.Known.{Known}
use Rattle.ksql_scopes.specs.declared.scope.Scope.{Scope}
use Rattle.ksql_scopes.specs.declared.scope.ScopeColumn.{ScopeColumn}
use Rattle.ksql_scopes.specs.Functions.{is_aggregate}
use Rattle.ksql_scopes.specs.Scope.{is_known_as, row_time}
use Rattle.ksql_scopes.specs.Uses.{Use, names, names_step, of_when, all_of, perhaps, in_aggregate}
use Rattle.expression_trees.proofs.Folds as folds
use Rattle.expression_trees.proofs.Folds.{perhaps_folded}
use Rattle.ksql_scopes.proofs.Induction.{IfThere, InWhen, induction}
use Rattle.expression_trees.specs.Parts.{passes, any_of, any_perhaps}
use Rattle.expression_trees.proofs.Passing as passed
use Rattle.ksql_clauses.specs.declared.left_names.Sought.{Sought}
use Rattle.ksql_clauses.specs.declared.left_names.Sought.TheVariants.{Any, Other}
use Rattle.ksql_clauses.specs.Keys.{is_left_name, is_of_left}
use Rattle.ksql_clauses.specs.Sought.{is_sought, has_name, sought_name, use_of}

-- ---- what a name is found to be

none-at : {A : Type 0} (b : Bool) (x : A) (xs : List A) (o : Option A)
    → (o ≡ None → xs ≡ []) → (if b then Some x else o) ≡ None → (if b then x ∷ xs else xs) ≡ []
none-at true x xs o k h = absurd (cc (h))
none-at false x xs o k h = k h

pub none-found : {A : Type 0} (p : A → Bool) (xs : List A) → find p xs ≡ None → filter p xs ≡ []
none-found p [] h = refl
none-found p (x ∷ xs) h = none-at (p x) x (filter p xs) (find p xs) (none-found p xs) h

some-at : {A : Type 0} (b : Bool) (x : A) (xs : List A) (o : Option A) (y : A)
    → (o ≡ Some y → (rest : List A) × (xs ≡ y ∷ rest)) → (if b then Some x else o) ≡ Some y
    → (rest : List A) × ((if b then x ∷ xs else xs) ≡ y ∷ rest)
some-at true x xs o y k h = (xs, let e : x ≡ y = cc (h) in ap (λ z. z ∷ xs) e)
some-at false x xs o y k h = k h

pub some-found : {A : Type 0} (p : A → Bool) (xs : List A) (y : A) → find p xs ≡ Some y → (rest : List A) × (filter p xs ≡ y ∷ rest)
some-found p [] y h = absurd (cc (h))
some-found p (x ∷ xs) y h = some-at (p x) x (filter p xs) (find p xs) y (some-found p xs y) h

pub left-none : (s : Scope) (k : Known) (u : Use) → find (is_known_as u.qualifier u.name) s.columns ≡ None
    → is_left_name s k u ≡ (length (row_time s u.qualifier u.name) == 1)
left-none s k u h =
    let e : filter (is_known_as u.qualifier u.name) s.columns ≡ [] = none-found (is_known_as u.qualifier u.name) s.columns h in
    rw e

pub left-alone : (s : Scope) (k : Known) (u : Use) (c : ScopeColumn) → find (is_known_as u.qualifier u.name) s.columns ≡ Some c → c.alias ≡ None
    → is_left_name s k u ≡ false
left-alone s k u c h i =
    let f = some-found (is_known_as u.qualifier u.name) s.columns c h in
    let e : filter (is_known_as u.qualifier u.name) s.columns ≡ c ∷ f.0 = f.1 in
    rw (e, i)

pub left-of : (s : Scope) (k : Known) (u : Use) (c : ScopeColumn) (alias : List ℕ)
    → find (is_known_as u.qualifier u.name) s.columns ≡ Some c → c.alias ≡ Some alias → is_left_name s k u ≡ bytes_eq alias k.alias
left-of s k u c alias h i =
    let f = some-found (is_known_as u.qualifier u.name) s.columns c h in
    let e : filter (is_known_as u.qualifier u.name) s.columns ≡ c ∷ f.0 = f.1 in
    rw (e, i)

some-any : (us : List Use) → list_any (is_sought Any) us ≡ nat_lt 0 (length us)
some-any [] = refl
some-any (u ∷ us) = sym (lt-ltb 0 (suc (length us)) (omega arith))

not-or : (b c : Bool) → (b && not c) ≡ not (not b || c)
not-or true c = refl
not-or false c = refl

all-not : {A : Type 0} (p : A → Bool) (xs : List A) → list_all p xs ≡ not (list_any (λ x. not (p x)) xs)
all-not p [] = refl
all-not p (x ∷ xs) = ap (λ b. p x && b) (all-not p xs) ∙ not-or (p x) (list_any (λ y. not (p y)) xs)

-- an expression of the left relation's columns has a name, and no other
pub of-left : (scope : Bor Scope) (left : Bor Known) (a : Expr) (any other : Bool) → any ≡ has_name Any a → other ≡ has_name (Other scope left) a
    → (any && not other) ≡ is_of_left scope.now left.now a
of-left scope left a any other h i =
    ap₂ (λ b c. b && c) (h ∙ some-any (names a)) (ap not i ∙ sym (all-not (is_left_name scope.now left.now) (names a)))

-- ---- an expression contains a name that is looked for exactly if it passes

abbrev when_names : WhenText → List Use
when_names = folds.folded_when (List Use) (List Use) names_step of_when

one_when : (p : Use → Bool) (w : WhenText) → list_any p (when_names w) ≡ (list_any p (names w.cond) || list_any p (names w.result))
unfolding names
one_when p w = ap (list_any p) (folds.fold-when (List Use) (List Use) names_step of_when w) ∙ list_any-append p (names w.cond) (names w.result)

-- a name in an aggregate is looked for if it is outside
same-within : (sought : Sought) (u : Use) → is_sought sought (in_aggregate u) ≡ is_sought sought u
same-within Any u = refl
same-within (Other scope left) u = refl

any-within : (sought : Sought) (us : List Use) → list_any (is_sought sought) (map in_aggregate us) ≡ list_any (is_sought sought) us
any-within sought [] = refl
any-within sought (u ∷ us) = ap₂ (λ a b. a || b) (same-within sought u) (any-within sought us)

within-or-not : (sought : Sought) (b : Bool) (us : List Use)
    → list_any (is_sought sought) (if b then map in_aggregate us else us) ≡ list_any (is_sought sought) us
within-or-not sought true us = any-within sought us
within-or-not sought false us = refl

or-false : (b : Bool) → (b || false) ≡ b
or-false true = refl
or-false false = refl

module _ (sought : Sought) where
  abbrev does : Expr → Bool
  does = passes (sought_name sought)

  abbrev IsSame : Expr → Type 0
  IsSame a = does a ≡ has_name sought a

  any-each : (es : List Expr) → Each IsSame es → any_of (map does es) ≡ list_any (is_sought sought) (all_of (map names es))
  any-each [] h = refl
  any-each (a ∷ es) h = ap₂ (λ b c. b || c) h.0 (any-each es h.1) ∙ sym (list_any-append (is_sought sought) (names a) (all_of (map names es)))

  any-whens : (ws : List WhenText) → Each (InWhen IsSame) ws
      → any_of (map (λ w. does w.cond || does w.result) ws) ≡ list_any (is_sought sought) (all_of (map when_names ws))
  any-whens [] h = refl
  any-whens (w ∷ ws) h =
      ap₂ (λ b c. b || c) (ap₂ (λ b c. b || c) h.0.0 h.0.1 ∙ sym (one_when (is_sought sought) w)) (any-whens ws h.1)
      ∙ sym (list_any-append (is_sought sought) (when_names w) (all_of (map when_names ws)))

  any-perhaps : (x : Option Expr) → IfThere IsSame x
      → any_perhaps (option_map does x) ≡ list_any (is_sought sought) (perhaps (perhaps_folded names x))
  any-perhaps None h = refl
  any-perhaps (Some x) h = h

  -- where the parts pass, the lists of their names have one that is looked for
  any-two : (us vs : List Use) (b c : Bool) → b ≡ list_any (is_sought sought) us → c ≡ list_any (is_sought sought) vs
      → (b || c) ≡ list_any (is_sought sought) (us ++ vs)
  any-two us vs b c h k = ap₂ (λ u v. u || v) h k ∙ sym (list_any-append (is_sought sought) us vs)

  any-three : (us vs ws : List Use) (b c d : Bool)
      → b ≡ list_any (is_sought sought) us → c ≡ list_any (is_sought sought) vs → d ≡ list_any (is_sought sought) ws
      → (b || c || d) ≡ list_any (is_sought sought) (us ++ vs ++ ws)
  any-three us vs ws b c d h k l = any-two (us ++ vs) ws (b || c) d (any-two us vs b c h k) l

  -- the names of an expression, and so what is found among them
  by-names : (a : Expr) (us : List Use) (b : Bool) → names a ≡ us → b ≡ list_any (is_sought sought) us → b ≡ has_name sought a
  by-names a us b h k = k ∙ sym (ap (list_any (is_sought sought)) h)

  pub same : (a : Expr) → IsSame a
  unfolding names
  same = induction IsSame (record {
    digits = λ n. passed.passes-Digits (sought_name sought) (e.Digits n) n refl (rw (e.outs-Digits n))
        ∙ by-names (e.Digits n) [] false (folds.fold-Digits (List Use) (List Use) names_step of_when n) refl;
    text = λ t. passed.passes-Text (sought_name sought) (e.Text t) t refl (rw (e.outs-Text t))
        ∙ by-names (e.Text t) [] false (folds.fold-Text (List Use) (List Use) names_step of_when t) refl;
    truth = λ b. passed.passes-Truth (sought_name sought) (e.Truth b) b refl (rw (e.outs-Truth b))
        ∙ by-names (e.Truth b) [] false (folds.fold-Truth (List Use) (List Use) names_step of_when b) refl;
    null = passed.passes-Null (sought_name sought) e.Null refl (rw e.outs-Null)
        ∙ by-names e.Null [] false (folds.fold-Null (List Use) (List Use) names_step of_when) refl;
    name = λ q t. passed.passes-decided (sought_name sought) (e.Name q t) (is_sought sought (use_of q t)) (rw (e.outs-Name q t))
        ∙ by-names (e.Name q t) (use_of q t ∷ []) (is_sought sought (use_of q t)) (folds.fold-Name (List Use) (List Use) names_step of_when q t)
        (sym (or-false (is_sought sought (use_of q t))));
    sign = λ m a h. passed.passes-Sign (sought_name sought) (e.Sign m a) m a refl (rw (e.outs-Sign m a))
        ∙ by-names (e.Sign m a) (names a) (does a) (folds.fold-Sign (List Use) (List Use) names_step of_when m a) h;
    binary = λ o a b h k. passed.passes-Binary (sought_name sought) (e.Binary o a b) o a b refl (rw (e.outs-Binary o a b))
        ∙ by-names (e.Binary o a b) (names a ++ names b) (does a || does b) (folds.fold-Binary (List Use) (List Use) names_step of_when o a b)
        (any-two (names a) (names b) (does a) (does b) h k);
    not = λ a h. passed.passes-Not (sought_name sought) (e.Not a) a refl (rw (e.outs-Not a))
        ∙ by-names (e.Not a) (names a) (does a) (folds.fold-Not (List Use) (List Use) names_step of_when a) h;
    is_null = λ n a h. passed.passes-IsNull (sought_name sought) (e.IsNull n a) n a refl (rw (e.outs-IsNull n a))
        ∙ by-names (e.IsNull n a) (names a) (does a) (folds.fold-IsNull (List Use) (List Use) names_step of_when n a) h;
    between = λ n a b c h k l. passed.passes-Between (sought_name sought) (e.Between n a b c) n a b c refl (rw (e.outs-Between n a b c))
        ∙ by-names (e.Between n a b c) (names a ++ names b ++ names c) (does a || does b || does c)
        (folds.fold-Between (List Use) (List Use) names_step of_when n a b c)
        (any-three (names a) (names b) (names c) (does a) (does b) (does c) h k l);
    one_of = λ n a es h k. passed.passes-OneOf (sought_name sought) (e.OneOf n a es) n a es refl (rw (e.outs-OneOf n a es))
        ∙ by-names (e.OneOf n a es) (names a ++ all_of (map names es)) (does a || any_of (map does es))
        (folds.fold-OneOf (List Use) (List Use) names_step of_when n a es)
        (any-two (names a) (all_of (map names es)) (does a) (any_of (map does es)) h (any-each es k));
    like = λ n a t h. passed.passes-Like (sought_name sought) (e.Like n a t) n a t refl (rw (e.outs-Like n a t))
        ∙ by-names (e.Like n a t) (names a) (does a) (folds.fold-Like (List Use) (List Use) names_step of_when n a t) h;
    cast = λ a to h. passed.passes-Cast (sought_name sought) (e.Cast a to) a to refl (rw (e.outs-Cast a to))
        ∙ by-names (e.Cast a to) (names a) (does a) (folds.fold-Cast (List Use) (List Use) names_step of_when a to) h;
    case = λ x ws z h k l. passed.passes-Case (sought_name sought) (e.Case x ws z) x ws z refl (rw (e.outs-Case x ws z))
        ∙ by-names (e.Case x ws z) (perhaps (perhaps_folded names x) ++ all_of (map when_names ws) ++ perhaps (perhaps_folded names z))
        (any_perhaps (option_map does x) || any_of (map (λ w. does w.cond || does w.result) ws) || any_perhaps (option_map does z))
        (folds.fold-Case (List Use) (List Use) names_step of_when x ws z)
        (any-three _ _ _ _ _ _ (any-perhaps x h) (any-whens ws k) (any-perhaps z l));
    call = λ f star es h. passed.passes-Call (sought_name sought) (e.Call f star es) f star es refl (rw (e.outs-Call f star es)) ∙ any-each es h
        ∙ sym (ap (list_any (is_sought sought)) (folds.fold-Call (List Use) (List Use) names_step of_when f star es)
        ∙ within-or-not sought (is_aggregate f) (all_of (map names es)));
  })
