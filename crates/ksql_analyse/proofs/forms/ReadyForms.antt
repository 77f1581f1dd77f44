-- What is looked for in an expression that is neither a group expression nor an aggregate is looked for in its parts.
use Rattle.std.proofs.Common.{◌≡◌, ℕ, Bool, true, false, not, ◌||◌, List, [], ◌∷◌, ◌++◌, map, Option, Some, None, is_some, refl, ap, sym, ◌∙◌}
use Rattle.std.specs.Prelude.{option_map}
use Rattle.std.specs.List.{list_all}
use Rattle.std.proofs.lemmas.List.Folds.{list_all-append}
use Rattle.ksql_types.specs.declared.operator.BinaryOp.{BinaryOp}
use Rattle.ksql_types.specs.declared.value.SqlType.{SqlType}
use Rattle.expression_trees.specs.declared.tree.Expr.{Expr}
use Rattle.expression_trees.specs.declared.tree.Expr.TheVariants as e
use Rattle.expression_trees.specs.declared.tree.WhenText.{WhenText}
use Rattle.std.proofs.lemmas.Bool.{and_parts}
use Rattle.ksql_scopes.specs.Functions.{is_aggregate}
use Rattle.ksql_scopes.specs.Uses.{all_of, perhaps}
use Rattle.expression_trees.specs.Parts.{passes, any_of, any_perhaps}
use Rattle.aggregate_rules.specs.Grouping.{aggregates_of, place_among, is_bare, is_window_bound}
use Rattle.expression_trees.proofs.Passing.{passes-decided, passes-Sign, passes-Binary, passes-Not, passes-IsNull, passes-Between, passes-OneOf, passes-Like, passes-Cast, passes-Case, passes-Call}
use Rattle.ksql_analyse.proofs.forms.AggregatesIn as within
use Rattle.ksql_analyse.proofs.lists.Distinct.{or-false}

module _ (groups aggs : List Expr) where
  -- ---- what is decided

  bare-Name : (q : Option (List ℕ)) (name : List ℕ) → place_among groups (e.Name q name) ≡ None → is_bare groups (e.Name q name) ≡ Some (not (is_window_bound q name))
  bare-Name q name h = rw (h, e.outs-Name q name)

  bare-Sign : (m : Bool) (a : Expr) → place_among groups (e.Sign m a) ≡ None → is_bare groups (e.Sign m a) ≡ None
  bare-Sign m a h = rw (h, e.outs-Sign m a)

  bare-Binary : (o : BinaryOp) (a b : Expr) → place_among groups (e.Binary o a b) ≡ None → is_bare groups (e.Binary o a b) ≡ None
  bare-Binary o a b h = rw (h, e.outs-Binary o a b)

  bare-Not : (a : Expr) → place_among groups (e.Not a) ≡ None → is_bare groups (e.Not a) ≡ None
  bare-Not a h = rw (h, e.outs-Not a)

  bare-IsNull : (m : Bool) (a : Expr) → place_among groups (e.IsNull m a) ≡ None → is_bare groups (e.IsNull m a) ≡ None
  bare-IsNull m a h = rw (h, e.outs-IsNull m a)

  bare-Between : (m : Bool) (a b c : Expr) → place_among groups (e.Between m a b c) ≡ None → is_bare groups (e.Between m a b c) ≡ None
  bare-Between m a b c h = rw (h, e.outs-Between m a b c)

  bare-OneOf : (m : Bool) (a : Expr) (es : List Expr) → place_among groups (e.OneOf m a es) ≡ None → is_bare groups (e.OneOf m a es) ≡ None
  bare-OneOf m a es h = rw (h, e.outs-OneOf m a es)

  bare-Like : (m : Bool) (a : Expr) (pattern : List ℕ) → place_among groups (e.Like m a pattern) ≡ None → is_bare groups (e.Like m a pattern) ≡ None
  bare-Like m a pattern h = rw (h, e.outs-Like m a pattern)

  bare-Cast : (a : Expr) (to : SqlType) → place_among groups (e.Cast a to) ≡ None → is_bare groups (e.Cast a to) ≡ None
  bare-Cast a to h = rw (h, e.outs-Cast a to)

  bare-Case : (x : Option Expr) (ws : List WhenText) (z : Option Expr) → place_among groups (e.Case x ws z) ≡ None → is_bare groups (e.Case x ws z) ≡ None
  bare-Case x ws z h = rw (h, e.outs-Case x ws z)

  bare-Call : (f : List ℕ) (star : Bool) (args : List Expr) → is_aggregate f ≡ false → place_among groups (e.Call f star args) ≡ None
      → is_bare groups (e.Call f star args) ≡ None
  bare-Call f star args plain h = rw (h, e.outs-Call f star args, plain)

  -- ---- what is looked for: no bare column, and aggregates that are all among those of the query

  abbrev bare : Expr → Bool
  bare a = passes (is_bare groups) a

  abbrev is_found : Expr → Bool
  is_found a = is_some (place_among aggs a)

  abbrev of_expr : Expr → List Expr
  of_expr a = aggregates_of a

  abbrev Ready : Bool → List Expr → Type 0
  Ready b found = (b ≡ false) × (list_all is_found found ≡ true)

  abbrev pub IsReady : Expr → Type 0
  IsReady a = Ready (bare a) (of_expr a)

  abbrev pub IsReadyPart : Option Expr → Type 0
  IsReadyPart a = Ready (any_perhaps (option_map bare a)) (perhaps (option_map of_expr a))

  abbrev pub AreReady : List Expr → Type 0
  AreReady es = Ready (any_of (map bare es)) (all_of (map of_expr es))

  abbrev pub AreReadyWhens : List WhenText → Type 0
  AreReadyWhens ws = Ready (any_of (map (λ w. bare w.cond || bare w.result) ws)) (all_of (map (λ w. of_expr w.cond ++ of_expr w.result) ws))

  alike : (b d : Bool) (xs ys : List Expr) → b ≡ d → xs ≡ ys → Ready b xs → Ready d ys
  alike b d xs ys h k r = (sym h ∙ r.0, ap (list_all is_found) (sym k) ∙ r.1)

  two : (b d : Bool) (xs ys : List Expr) → Ready (b || d) (xs ++ ys) → Ready b xs × Ready d ys
  two b d xs ys r =
      let p = or-false b d r.0 in
      let q = and_parts (list_all is_found xs) (list_all is_found ys) (sym (list_all-append is_found xs ys) ∙ r.1) in
      ((p.0, q.0), (p.1, q.1))

  three : (b c d : Bool) (xs ys zs : List Expr) → Ready (b || c || d) (xs ++ ys ++ zs) → Ready b xs × Ready c ys × Ready d zs
  three b c d xs ys zs r =
      let p = two (b || c) d (xs ++ ys) zs r in
      let q = two b c xs ys p.0 in
      (q.0, q.1, p.1)

  pub ready-Sign : (m : Bool) (a : Expr) → place_among groups (e.Sign m a) ≡ None → IsReady (e.Sign m a) → IsReady a
  ready-Sign m a h r =
      let x = e.Sign m a in
      alike (bare x) (bare a) (of_expr x) (of_expr a) (passes-Sign (is_bare groups) x m a refl (bare-Sign m a h)) (within.of-Sign m a) r

  pub ready-Binary : (o : BinaryOp) (a b : Expr) → place_among groups (e.Binary o a b) ≡ None → IsReady (e.Binary o a b) → IsReady a × IsReady b
  ready-Binary o a b h r =
      let x = e.Binary o a b in
      two (bare a) (bare b) (of_expr a) (of_expr b)
      (alike (bare x) (bare a || bare b) (of_expr x) (of_expr a ++ of_expr b)
      (passes-Binary (is_bare groups) x o a b refl (bare-Binary o a b h)) (within.of-Binary o a b) r)

  pub ready-Not : (a : Expr) → place_among groups (e.Not a) ≡ None → IsReady (e.Not a) → IsReady a
  ready-Not a h r =
      let x = e.Not a in
      alike (bare x) (bare a) (of_expr x) (of_expr a) (passes-Not (is_bare groups) x a refl (bare-Not a h)) (within.of-Not a) r

  pub ready-IsNull : (m : Bool) (a : Expr) → place_among groups (e.IsNull m a) ≡ None → IsReady (e.IsNull m a) → IsReady a
  ready-IsNull m a h r =
      let x = e.IsNull m a in
      alike (bare x) (bare a) (of_expr x) (of_expr a) (passes-IsNull (is_bare groups) x m a refl (bare-IsNull m a h)) (within.of-IsNull m a) r

  pub ready-Between : (m : Bool) (a b c : Expr) → place_among groups (e.Between m a b c) ≡ None → IsReady (e.Between m a b c) → IsReady a × IsReady b × IsReady c
  ready-Between m a b c h r =
      let x = e.Between m a b c in
      three (bare a) (bare b) (bare c) (of_expr a) (of_expr b) (of_expr c)
      (alike (bare x) (bare a || bare b || bare c) (of_expr x) (of_expr a ++ of_expr b ++ of_expr c)
      (passes-Between (is_bare groups) x m a b c refl (bare-Between m a b c h)) (within.of-Between m a b c) r)

  pub ready-OneOf : (m : Bool) (a : Expr) (es : List Expr) → place_among groups (e.OneOf m a es) ≡ None → IsReady (e.OneOf m a es) → IsReady a × AreReady es
  ready-OneOf m a es h r =
      let x = e.OneOf m a es in
      two (bare a) (any_of (map bare es)) (of_expr a) (all_of (map of_expr es))
      (alike (bare x) (bare a || any_of (map bare es)) (of_expr x) (of_expr a ++ all_of (map of_expr es))
      (passes-OneOf (is_bare groups) x m a es refl (bare-OneOf m a es h)) (within.of-OneOf m a es) r)

  pub ready-Like : (m : Bool) (a : Expr) (pattern : List ℕ) → place_among groups (e.Like m a pattern) ≡ None → IsReady (e.Like m a pattern) → IsReady a
  ready-Like m a pattern h r =
      let x = e.Like m a pattern in
      alike (bare x) (bare a) (of_expr x) (of_expr a) (passes-Like (is_bare groups) x m a pattern refl (bare-Like m a pattern h))
      (within.of-Like m a pattern) r

  pub ready-Cast : (a : Expr) (to : SqlType) → place_among groups (e.Cast a to) ≡ None → IsReady (e.Cast a to) → IsReady a
  ready-Cast a to h r =
      let x = e.Cast a to in
      alike (bare x) (bare a) (of_expr x) (of_expr a) (passes-Cast (is_bare groups) x a to refl (bare-Cast a to h)) (within.of-Cast a to) r

  pub ready-Case : (y : Option Expr) (ws : List WhenText) (z : Option Expr) → place_among groups (e.Case y ws z) ≡ None → IsReady (e.Case y ws z)
      → IsReadyPart y × AreReadyWhens ws × IsReadyPart z
  ready-Case y ws z h r =
      let x = e.Case y ws z in
      let whens = any_of (map (λ w. bare w.cond || bare w.result) ws) in
      let of_whens = all_of (map (λ w. of_expr w.cond ++ of_expr w.result) ws) in
      three (any_perhaps (option_map bare y)) whens (any_perhaps (option_map bare z)) (perhaps (option_map of_expr y)) of_whens (perhaps (option_map of_expr z))
      (alike (bare x) (any_perhaps (option_map bare y) || whens || any_perhaps (option_map bare z))
      (of_expr x) (perhaps (option_map of_expr y) ++ of_whens ++ perhaps (option_map of_expr z))
      (passes-Case (is_bare groups) x y ws z refl (bare-Case y ws z h)) (within.of-Case y ws z) r)

  pub ready-Call : (f : List ℕ) (star : Bool) (args : List Expr) → is_aggregate f ≡ false → place_among groups (e.Call f star args) ≡ None
      → IsReady (e.Call f star args) → AreReady args
  ready-Call f star args plain h r =
      let x = e.Call f star args in
      alike (bare x) (any_of (map bare args)) (of_expr x) (all_of (map of_expr args))
      (passes-Call (is_bare groups) x f star args refl (bare-Call f star args plain h))
      (within.of-function f star args plain) r

  -- an aggregate is among those of the query
  pub ready-Aggregate : (f : List ℕ) (star : Bool) (args : List Expr) → is_aggregate f ≡ true → IsReady (e.Call f star args)
      → is_some (place_among aggs (e.Call f star args)) ≡ true
  ready-Aggregate f star args is r =
      let x = e.Call f star args in
      let found : list_all is_found (x ∷ []) ≡ true = ap (list_all is_found) (sym (within.of-aggregate f star args is)) ∙ r.1 in
      (and_parts (is_found x) true found).0

  -- a name is a bound of a window
  pub ready-Name : (q : Option (List ℕ)) (name : List ℕ) → place_among groups (e.Name q name) ≡ None → IsReady (e.Name q name) → is_window_bound q name ≡ true
  ready-Name q name h r =
      at (is_window_bound q name) (sym (passes-decided (is_bare groups) (e.Name q name) (not (is_window_bound q name)) (bare-Name q name h)) ∙ r.0)
    where
      at : (b : Bool) → not b ≡ false → b ≡ true
      at true k = refl
      at false k = absurd (cc (k))

  pub ready-there : (a : Expr) → IsReadyPart (Some a) → IsReady a
  ready-there a r = r

  pub ready-more : (a : Expr) (es : List Expr) → AreReady (a ∷ es) → IsReady a × AreReady es
  ready-more a es r = two (bare a) (any_of (map bare es)) (of_expr a) (all_of (map of_expr es)) r

  pub ready-whens : (w : WhenText) (ws : List WhenText) → AreReadyWhens (w ∷ ws) → IsReady w.cond × IsReady w.result × AreReadyWhens ws
  ready-whens w ws r =
      let p = two (bare w.cond || bare w.result) (any_of (map (λ v. bare v.cond || bare v.result) ws))
      (of_expr w.cond ++ of_expr w.result) (all_of (map (λ v. of_expr v.cond ++ of_expr v.result) ws)) r in
      let q = two (bare w.cond) (bare w.result) (of_expr w.cond) (of_expr w.result) p.0 in
      (q.0, q.1, p.1)
