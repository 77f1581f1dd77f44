-- Aggregates inside others, and what expressions hand down to their aggregates.
use Rattle.std.proofs.Common.{◌≡◌, ℕ, Bool, true, false, ◌&&◌, ◌||◌, if◌then◌else◌, List, [], ◌∷◌, map, Option, Some, None, refl, ap, ap₂, sym, ◌∙◌}
use Rattle.std.specs.Prelude.{option_map}
use Rattle.std.specs.List.{list_any, AllByRecursion as Each}
use Rattle.ksql_types.specs.declared.operator.BinaryOp.{BinaryOp}
use Rattle.ksql_types.specs.declared.value.SqlType.{SqlType}
use Rattle.expression_trees.specs.declared.tree.Expr.{Expr}
use Rattle.expression_trees.specs.declared.tree.Expr.TheVariants as e
use Rattle.expression_trees.specs.declared.tree.WhenText.{WhenText}
use Rattle.ksql_scopes.specs.declared.scope.Scope.{Scope}
use Rattle.ksql_scopes.specs.Functions.{is_aggregate}
use Rattle.ksql_scopes.specs.Uses.{IsSmall, is_small, are_small, are_whens_small, is_small_perhaps}
use Rattle.std.proofs.lemmas.Bool.{and_parts}
use Rattle.ksql_scopes.proofs.Small as small
use Rattle.ksql_scopes.proofs.Induction.{IfThere, InWhen, induction}
use Rattle.ksql_scopes.specs.Resolved.{resolved, resolved_when}
use Rattle.ksql_scopes.proofs.Resolving as r
use Rattle.expression_trees.specs.Parts.{any_of, any_perhaps}
use Rattle.aggregate_rules.specs.Grouping.{has_aggregate, has_nested_aggregate, holds_inner}
use Rattle.aggregate_rules.proofs.Calls as called
use Rattle.aggregate_rules.proofs.Calls.{calls_one}
use Rattle.expression_trees.proofs.Passing as passed
use Rattle.ksql_analyse.proofs.forms.AggregatesIn.{Inherits}
use Rattle.ksql_analyse.proofs.forms.Resolution.{resolved-name, calls-resolved}
use Rattle.ksql_analyse.proofs.lists.Distinct.{or-false}
use Rattle.ksql_analyse.proofs.accepted.Refusals.{or-three}

-- ---- nothing passes in any part

pub none-any : (p : Expr → Bool) (es : List Expr) → any_of (map p es) ≡ false → Each (λ a. p a ≡ false) es
none-any p [] h = tt
none-any p (a ∷ es) h = let g = or-false (p a) (any_of (map p es)) h in (g.0, none-any p es g.1)

pub none-when : (p : Expr → Bool) (ws : List WhenText) → any_of (map (λ w. p w.cond || p w.result) ws) ≡ false → Each (InWhen (λ a. p a ≡ false)) ws
none-when p [] h = tt
none-when p (w ∷ ws) h =
    let g = or-false (p w.cond || p w.result) (any_of (map (λ v. p v.cond || p v.result) ws)) h in
    let k = or-false (p w.cond) (p w.result) g.0 in
    ((k.0, k.1), none-when p ws g.1)

pub none-part : (p : Expr → Bool) (x : Option Expr) → any_perhaps (option_map p x) ≡ false → IfThere (λ a. p a ≡ false) x
none-part p None h = tt
none-part p (Some a) h = h

-- ---- nested aggregates, form by form

abbrev inner-of : List ℕ → List Expr → Bool
inner-of f es = is_aggregate f && list_any has_aggregate es

inner-Name : (q : Option (List ℕ)) (t : List ℕ) → holds_inner (e.Name q t) ≡ None
inner-Name q t = rw (e.outs-Name q t)

pub nested-Name : (q : Option (List ℕ)) (t : List ℕ) → has_nested_aggregate (e.Name q t) ≡ (false)
nested-Name q t = passed.passes-Name holds_inner (e.Name q t) q t refl (inner-Name q t)

inner-Sign : (m : Bool) (a : Expr) → holds_inner (e.Sign m a) ≡ None
inner-Sign m a = rw (e.outs-Sign m a)

pub nested-Sign : (m : Bool) (a : Expr) → has_nested_aggregate (e.Sign m a) ≡ (has_nested_aggregate a)
nested-Sign m a = passed.passes-Sign holds_inner (e.Sign m a) m a refl (inner-Sign m a)

inner-Binary : (o : BinaryOp) (a : Expr) (b : Expr) → holds_inner (e.Binary o a b) ≡ None
inner-Binary o a b = rw (e.outs-Binary o a b)

pub nested-Binary : (o : BinaryOp) (a : Expr) (b : Expr) → has_nested_aggregate (e.Binary o a b) ≡ (has_nested_aggregate a || has_nested_aggregate b)
nested-Binary o a b = passed.passes-Binary holds_inner (e.Binary o a b) o a b refl (inner-Binary o a b)

inner-Not : (a : Expr) → holds_inner (e.Not a) ≡ None
inner-Not a = rw (e.outs-Not a)

pub nested-Not : (a : Expr) → has_nested_aggregate (e.Not a) ≡ (has_nested_aggregate a)
nested-Not a = passed.passes-Not holds_inner (e.Not a) a refl (inner-Not a)

inner-IsNull : (m : Bool) (a : Expr) → holds_inner (e.IsNull m a) ≡ None
inner-IsNull m a = rw (e.outs-IsNull m a)

pub nested-IsNull : (m : Bool) (a : Expr) → has_nested_aggregate (e.IsNull m a) ≡ (has_nested_aggregate a)
nested-IsNull m a = passed.passes-IsNull holds_inner (e.IsNull m a) m a refl (inner-IsNull m a)

inner-Between : (m : Bool) (a : Expr) (b : Expr) (c : Expr) → holds_inner (e.Between m a b c) ≡ None
inner-Between m a b c = rw (e.outs-Between m a b c)

pub nested-Between : (m : Bool) (a : Expr) (b : Expr) (c : Expr) → has_nested_aggregate (e.Between m a b c) ≡ (has_nested_aggregate a || has_nested_aggregate b || has_nested_aggregate c)
nested-Between m a b c = passed.passes-Between holds_inner (e.Between m a b c) m a b c refl (inner-Between m a b c)

inner-OneOf : (m : Bool) (a : Expr) (es : List Expr) → holds_inner (e.OneOf m a es) ≡ None
inner-OneOf m a es = rw (e.outs-OneOf m a es)

pub nested-OneOf : (m : Bool) (a : Expr) (es : List Expr) → has_nested_aggregate (e.OneOf m a es) ≡ (has_nested_aggregate a || any_of (map has_nested_aggregate es))
nested-OneOf m a es = passed.passes-OneOf holds_inner (e.OneOf m a es) m a es refl (inner-OneOf m a es)

inner-Like : (m : Bool) (a : Expr) (t : List ℕ) → holds_inner (e.Like m a t) ≡ None
inner-Like m a t = rw (e.outs-Like m a t)

pub nested-Like : (m : Bool) (a : Expr) (t : List ℕ) → has_nested_aggregate (e.Like m a t) ≡ (has_nested_aggregate a)
nested-Like m a t = passed.passes-Like holds_inner (e.Like m a t) m a t refl (inner-Like m a t)

inner-Cast : (a : Expr) (to : SqlType) → holds_inner (e.Cast a to) ≡ None
inner-Cast a to = rw (e.outs-Cast a to)

pub nested-Cast : (a : Expr) (to : SqlType) → has_nested_aggregate (e.Cast a to) ≡ (has_nested_aggregate a)
nested-Cast a to = passed.passes-Cast holds_inner (e.Cast a to) a to refl (inner-Cast a to)

inner-Case : (x : Option Expr) (ws : List WhenText) (z : Option Expr) → holds_inner (e.Case x ws z) ≡ None
inner-Case x ws z = rw (e.outs-Case x ws z)

pub nested-Case : (x : Option Expr) (ws : List WhenText) (z : Option Expr) → has_nested_aggregate (e.Case x ws z) ≡ (any_perhaps (option_map has_nested_aggregate x) || any_of (map (λ w. has_nested_aggregate w.cond || has_nested_aggregate w.result) ws) || any_perhaps (option_map has_nested_aggregate z))
nested-Case x ws z = passed.passes-Case holds_inner (e.Case x ws z) x ws z refl (inner-Case x ws z)

inner-Call : (f : List ℕ) (star : Bool) (es : List Expr) → holds_inner (e.Call f star es) ≡ (if inner-of f es then Some true else None)
inner-Call f star es = rw (e.outs-Call f star es)

pub nested-Call : (f : List ℕ) (star : Bool) (es : List Expr) → has_nested_aggregate (e.Call f star es) ≡ (inner-of f es || any_of (map has_nested_aggregate es))
nested-Call f star es = at (inner-of f es) refl
  where
    at : (b : Bool) → inner-of f es ≡ b → has_nested_aggregate (e.Call f star es) ≡ (inner-of f es || any_of (map has_nested_aggregate es))
    at true h =
        passed.passes-decided holds_inner (e.Call f star es) true (inner-Call f star es ∙ ap (λ b. if b then Some true else None) h)
        ∙ sym (ap (λ b. b || any_of (map has_nested_aggregate es)) h)
    at false h =
        passed.passes-Call holds_inner (e.Call f star es) f star es refl (inner-Call f star es ∙ ap (λ b. if b then Some true else None) h)
        ∙ sym (ap (λ b. b || any_of (map has_nested_aggregate es)) h)

-- ---- resolved names change nothing of that

module _ (s : Scope) where
  abbrev IsSame : Expr → Type 0
  IsSame a = has_nested_aggregate (resolved s a) ≡ has_nested_aggregate a

  any-same : (es : List Expr) → Each IsSame es → any_of (map has_nested_aggregate (map (resolved s) es)) ≡ any_of (map has_nested_aggregate es)
  any-same [] k = refl
  any-same (a ∷ es) k = ap₂ (λ x y. x || y) k.0 (any-same es k.1)

  when-same : (w : WhenText) → InWhen IsSame w
      → (has_nested_aggregate (resolved_when s w).cond || has_nested_aggregate (resolved_when s w).result) ≡ (has_nested_aggregate w.cond || has_nested_aggregate w.result)
  when-same w k =
      ap (λ v. has_nested_aggregate v.cond || has_nested_aggregate v.result) (r.resolved-when s w) ∙ ap₂ (λ x y. x || y) k.0 k.1

  whens-same : (ws : List WhenText) → Each (InWhen IsSame) ws
      → any_of (map (λ w. has_nested_aggregate w.cond || has_nested_aggregate w.result) (map (resolved_when s) ws))
      ≡ any_of (map (λ w. has_nested_aggregate w.cond || has_nested_aggregate w.result) ws)
  whens-same [] k = refl
  whens-same (w ∷ ws) k = ap₂ (λ x y. x || y) (when-same w k.0) (whens-same ws k.1)

  part-same : (x : Option Expr) → IfThere IsSame x → any_perhaps (option_map has_nested_aggregate (option_map (resolved s) x)) ≡ any_perhaps (option_map has_nested_aggregate x)
  part-same None k = refl
  part-same (Some a) k = k

  held-same : (es : List Expr) → list_any has_aggregate (map (resolved s) es) ≡ list_any has_aggregate es
  held-same [] = refl
  held-same (a ∷ es) = ap₂ (λ x y. x || y) (ap (list_any is_aggregate) (calls-resolved s a)) (held-same es)

  name-same : (q : Option (List ℕ)) (t : List ℕ) → IsSame (e.Name q t)
  name-same q t =
      let k = resolved-name s q t in
      ap has_nested_aggregate k.is ∙ nested-Name k.qualifier k.name ∙ sym (nested-Name q t)

  pub nested-resolved : (a : Expr) → IsSame a
  nested-resolved = induction IsSame (record {
    digits = λ n. ap has_nested_aggregate (r.resolved-Digits s n);
    text = λ t. ap has_nested_aggregate (r.resolved-Text s t);
    truth = λ b. ap has_nested_aggregate (r.resolved-Truth s b);
    null = ap has_nested_aggregate (r.resolved-Null s);
    name = name-same;
    sign = λ m a ka. ap has_nested_aggregate (r.resolved-Sign s m a) ∙ nested-Sign m (resolved s a) ∙ ka ∙ sym (nested-Sign m a);
    binary = λ o a b ka kb. ap has_nested_aggregate (r.resolved-Binary s o a b) ∙ nested-Binary o (resolved s a) (resolved s b) ∙ ap₂ (λ u v. u || v) ka kb ∙ sym (nested-Binary o a b);
    not = λ a ka. ap has_nested_aggregate (r.resolved-Not s a) ∙ nested-Not (resolved s a) ∙ ka ∙ sym (nested-Not a);
    is_null = λ m a ka. ap has_nested_aggregate (r.resolved-IsNull s m a) ∙ nested-IsNull m (resolved s a) ∙ ka ∙ sym (nested-IsNull m a);
    between = λ m a b c ka kb kc. ap has_nested_aggregate (r.resolved-Between s m a b c) ∙ nested-Between m (resolved s a) (resolved s b) (resolved s c) ∙ ap₂ (λ u v. u || v) (ap₂ (λ u v. u || v) ka kb) kc ∙ sym (nested-Between m a b c);
    one_of = λ m a es ka kes. ap has_nested_aggregate (r.resolved-OneOf s m a es) ∙ nested-OneOf m (resolved s a) (map (resolved s) es) ∙ ap₂ (λ u v. u || v) ka (any-same es kes) ∙ sym (nested-OneOf m a es);
    like = λ m a t ka. ap has_nested_aggregate (r.resolved-Like s m a t) ∙ nested-Like m (resolved s a) t ∙ ka ∙ sym (nested-Like m a t);
    cast = λ a to ka. ap has_nested_aggregate (r.resolved-Cast s a to) ∙ nested-Cast (resolved s a) to ∙ ka ∙ sym (nested-Cast a to);
    case = λ x ws z kx kws kz. ap has_nested_aggregate (r.resolved-Case s x ws z) ∙ nested-Case (option_map (resolved s) x) (map (resolved_when s) ws) (option_map (resolved s) z) ∙ ap₂ (λ u v. u || v) (ap₂ (λ u v. u || v) (part-same x kx) (whens-same ws kws)) (part-same z kz) ∙ sym (nested-Case x ws z);
    call = λ f star es kes. ap has_nested_aggregate (r.resolved-Call s f star es) ∙ nested-Call f star (map (resolved s) es)
        ∙ ap₂ (λ x y. (is_aggregate f && x) || y) (held-same es) (any-same es kes) ∙ sym (nested-Call f star es);
  })

-- ---- what is handed down

-- no nested aggregate
abbrev pub IsFlat : Expr → Type 0
IsFlat a = has_nested_aggregate a ≡ false

pub flat-inherits : Inherits IsFlat
flat-inherits = record {
  sign = λ m a h. (sym (nested-Sign m a) ∙ h);
  binary = λ o a b h. let g = or-false (has_nested_aggregate a) (has_nested_aggregate b) (sym (nested-Binary o a b) ∙ h) in (g.0, g.1);
  not = λ a h. (sym (nested-Not a) ∙ h);
  is_null = λ m a h. (sym (nested-IsNull m a) ∙ h);
  between = λ m a b c h. let g = or-three (has_nested_aggregate a) (has_nested_aggregate b) (has_nested_aggregate c) (sym (nested-Between m a b c) ∙ h) in (g.0, g.1, g.2);
  one_of = λ m a es h. let g = or-false (has_nested_aggregate a) (any_of (map has_nested_aggregate es)) (sym (nested-OneOf m a es) ∙ h) in (g.0, none-any has_nested_aggregate es g.1);
  like = λ m a t h. (sym (nested-Like m a t) ∙ h);
  cast = λ a to h. (sym (nested-Cast a to) ∙ h);
  case = λ x ws z h. let g = or-three (any_perhaps (option_map has_nested_aggregate x)) (any_of (map (λ w. has_nested_aggregate w.cond || has_nested_aggregate w.result) ws)) (any_perhaps (option_map has_nested_aggregate z)) (sym (nested-Case x ws z) ∙ h) in (none-part has_nested_aggregate x g.0, none-when has_nested_aggregate ws g.1, none-part has_nested_aggregate z g.2);
  call = λ f star es h. none-any has_nested_aggregate es (or-false (inner-of f es) (any_of (map has_nested_aggregate es)) (sym (nested-Call f star es) ∙ h)).1;
}

-- no function of a kind
abbrev pub CallsNone : (List ℕ → Bool) → Expr → Type 0
CallsNone p a = calls_one p a ≡ false

pub calls-inherit : (p : List ℕ → Bool) → Inherits (CallsNone p)
calls-inherit p = record {
  sign = λ m a h. (sym (called.calls-Sign p (e.Sign m a) m a refl) ∙ h);
  binary = λ o a b h. let g = or-false ((calls_one p) a) ((calls_one p) b) (sym (called.calls-Binary p (e.Binary o a b) o a b refl) ∙ h) in (g.0, g.1);
  not = λ a h. (sym (called.calls-Not p (e.Not a) a refl) ∙ h);
  is_null = λ m a h. (sym (called.calls-IsNull p (e.IsNull m a) m a refl) ∙ h);
  between = λ m a b c h. let g = or-three ((calls_one p) a) ((calls_one p) b) ((calls_one p) c) (sym (called.calls-Between p (e.Between m a b c) m a b c refl) ∙ h) in (g.0, g.1, g.2);
  one_of = λ m a es h. let g = or-false ((calls_one p) a) (any_of (map (calls_one p) es)) (sym (called.calls-OneOf p (e.OneOf m a es) m a es refl) ∙ h) in (g.0, none-any (calls_one p) es g.1);
  like = λ m a t h. (sym (called.calls-Like p (e.Like m a t) m a t refl) ∙ h);
  cast = λ a to h. (sym (called.calls-Cast p (e.Cast a to) a to refl) ∙ h);
  case = λ x ws z h. let g = or-three (any_perhaps (option_map (calls_one p) x)) (any_of (map (λ w. (calls_one p) w.cond || (calls_one p) w.result) ws)) (any_perhaps (option_map (calls_one p) z)) (sym (called.calls-Case p (e.Case x ws z) x ws z refl) ∙ h) in (none-part (calls_one p) x g.0, none-when (calls_one p) ws g.1, none-part (calls_one p) z g.2);
  call = λ f star es h. none-any (calls_one p) es (or-false (p f) (any_of (map (calls_one p) es)) (sym (called.calls-Call p (e.Call f star es) f star es refl) ∙ h)).1;
}

-- short literals
small-each : (es : List Expr) → are_small es ≡ true → Each IsSmall es
small-each [] h = tt
small-each (a ∷ es) h = let g = and_parts (is_small a) (are_small es) h in (g.0, small-each es g.1)

small-whens : (ws : List WhenText) → are_whens_small ws ≡ true → Each (InWhen IsSmall) ws
small-whens [] h = tt
small-whens (w ∷ ws) h =
    let g = and_parts (is_small w.cond && is_small w.result) (are_whens_small ws) h in
    let k = and_parts (is_small w.cond) (is_small w.result) g.0 in
    ((k.0, k.1), small-whens ws g.1)

small-part : (x : Option Expr) → is_small_perhaps x ≡ true → IfThere IsSmall x
small-part None h = tt
small-part (Some a) h = h

pub small-inherits : Inherits IsSmall
small-inherits = record {
  sign = λ m a h. (small.small-Sign (e.Sign m a) h m a refl);
  binary = λ o a b h. let g = small.small-Binary (e.Binary o a b) h o a b refl in (g.0, g.1);
  not = λ a h. (small.small-Not (e.Not a) h a refl);
  is_null = λ m a h. (small.small-IsNull (e.IsNull m a) h m a refl);
  between = λ m a b c h. let g = small.small-Between (e.Between m a b c) h m a b c refl in (g.0, g.1, g.2);
  one_of = λ m a es h. let g = small.small-OneOf (e.OneOf m a es) h m a es refl in (g.0, small-each es g.1);
  like = λ m a t h. (small.small-Like (e.Like m a t) h m a t refl);
  cast = λ a to h. (small.small-Cast (e.Cast a to) h a to refl);
  case = λ x ws z h. let g = small.small-Case (e.Case x ws z) h x ws z refl in (small-part x g.0, small-whens ws g.1, small-part z g.2);
  call = λ f star es h. small-each es (small.small-Call (e.Call f star es) h f star es refl);
}
