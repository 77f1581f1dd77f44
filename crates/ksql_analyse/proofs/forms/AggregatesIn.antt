-- The aggregates in an expression: each is a call of an aggregate, has what its surroundings hand down, and there is
-- one exactly if an aggregate is called.
use Rattle.std.proofs.Common.{◌≡◌, ℕ, Bool, true, false, ◌||◌, if◌then◌else◌, List, [], ◌∷◌, ◌++◌, map, Option, Some, None, refl, ap, ap₂, sym, ◌∙◌, subst}
use Rattle.std.specs.Prelude.{option_map}
use Rattle.std.specs.List.{AllByRecursion as Each}
use Rattle.ksql_types.specs.declared.operator.BinaryOp.{BinaryOp}
use Rattle.ksql_types.specs.declared.value.SqlType.{SqlType}
use Rattle.expression_trees.specs.declared.tree.Expr.{Expr}
use Rattle.expression_trees.specs.declared.tree.Expr.TheVariants as e
use Rattle.expression_trees.specs.declared.tree.WhenText.{WhenText}
use Rattle.ksql_scopes.specs.Functions.{is_aggregate}
use Rattle.ksql_scopes.specs.Uses.{all_of, perhaps}
use Rattle.ksql_scopes.proofs.Induction.{IfThere, InWhen, induction}
use Rattle.expression_trees.specs.Parts.{any_of, any_perhaps}
use Rattle.aggregate_rules.specs.Grouping.{aggregates_of, whole_aggregate, is_aggregate_call, has_aggregate}
use Rattle.aggregate_rules.proofs.Calls as called
use Rattle.aggregate_rules.proofs.Gives as given
use Rattle.ksql_analyse.proofs.sound.SoundColumns.{each-append}
use Rattle.ksql_analyse.proofs.forms.Bearing.{some, some-append}

-- ---- which expressions are calls of aggregates

pub whole-Digits : (n : ℕ) → whole_aggregate (e.Digits n) ≡ None
whole-Digits n = rw (e.outs-Digits n)

pub whole-Text : (t : List ℕ) → whole_aggregate (e.Text t) ≡ None
whole-Text t = rw (e.outs-Text t)

pub whole-Truth : (b : Bool) → whole_aggregate (e.Truth b) ≡ None
whole-Truth b = rw (e.outs-Truth b)

pub whole-Null : whole_aggregate e.Null ≡ None
whole-Null = rw e.outs-Null

pub whole-Name : (q : Option (List ℕ)) (t : List ℕ) → whole_aggregate (e.Name q t) ≡ None
whole-Name q t = rw (e.outs-Name q t)

pub whole-Sign : (m : Bool) (a : Expr) → whole_aggregate (e.Sign m a) ≡ None
whole-Sign m a = rw (e.outs-Sign m a)

pub whole-Binary : (o : BinaryOp) (a : Expr) (b : Expr) → whole_aggregate (e.Binary o a b) ≡ None
whole-Binary o a b = rw (e.outs-Binary o a b)

pub whole-Not : (a : Expr) → whole_aggregate (e.Not a) ≡ None
whole-Not a = rw (e.outs-Not a)

pub whole-IsNull : (m : Bool) (a : Expr) → whole_aggregate (e.IsNull m a) ≡ None
whole-IsNull m a = rw (e.outs-IsNull m a)

pub whole-Between : (m : Bool) (a : Expr) (b : Expr) (c : Expr) → whole_aggregate (e.Between m a b c) ≡ None
whole-Between m a b c = rw (e.outs-Between m a b c)

pub whole-OneOf : (m : Bool) (a : Expr) (es : List Expr) → whole_aggregate (e.OneOf m a es) ≡ None
whole-OneOf m a es = rw (e.outs-OneOf m a es)

pub whole-Like : (m : Bool) (a : Expr) (t : List ℕ) → whole_aggregate (e.Like m a t) ≡ None
whole-Like m a t = rw (e.outs-Like m a t)

pub whole-Cast : (a : Expr) (to : SqlType) → whole_aggregate (e.Cast a to) ≡ None
whole-Cast a to = rw (e.outs-Cast a to)

pub whole-Case : (x : Option Expr) (ws : List WhenText) (z : Option Expr) → whole_aggregate (e.Case x ws z) ≡ None
whole-Case x ws z = rw (e.outs-Case x ws z)

pub called-Call : (f : List ℕ) (star : Bool) (es : List Expr) → is_aggregate_call (e.Call f star es) ≡ is_aggregate f
called-Call f star es = rw (e.outs-Call f star es)

pub whole-aggregate : (f : List ℕ) (star : Bool) (es : List Expr) → is_aggregate f ≡ true → whole_aggregate (e.Call f star es) ≡ Some (e.Call f star es ∷ [])
whole-aggregate f star es h = ap (λ b. if b then Some (e.Call f star es ∷ []) else None) (called-Call f star es ∙ h)

pub whole-function : (f : List ℕ) (star : Bool) (es : List Expr) → is_aggregate f ≡ false → whole_aggregate (e.Call f star es) ≡ None
whole-function f star es h = ap (λ b. if b then Some (e.Call f star es ∷ []) else None) (called-Call f star es ∙ h)

-- ---- the aggregates of each form

abbrev pub when_aggregates : WhenText → List Expr
when_aggregates w = aggregates_of w.cond ++ aggregates_of w.result

pub of-Digits : (n : ℕ) → aggregates_of (e.Digits n) ≡ []
of-Digits n = given.gives-Digits whole_aggregate (e.Digits n) n refl (whole-Digits n)

pub of-Text : (t : List ℕ) → aggregates_of (e.Text t) ≡ []
of-Text t = given.gives-Text whole_aggregate (e.Text t) t refl (whole-Text t)

pub of-Truth : (b : Bool) → aggregates_of (e.Truth b) ≡ []
of-Truth b = given.gives-Truth whole_aggregate (e.Truth b) b refl (whole-Truth b)

pub of-Null : aggregates_of e.Null ≡ []
of-Null = given.gives-Null whole_aggregate e.Null refl whole-Null

pub of-Name : (q : Option (List ℕ)) (t : List ℕ) → aggregates_of (e.Name q t) ≡ []
of-Name q t = given.gives-Name whole_aggregate (e.Name q t) q t refl (whole-Name q t)

pub of-Sign : (m : Bool) (a : Expr) → aggregates_of (e.Sign m a) ≡ aggregates_of a
of-Sign m a = given.gives-Sign whole_aggregate (e.Sign m a) m a refl (whole-Sign m a)

pub of-Binary : (o : BinaryOp) (a : Expr) (b : Expr) → aggregates_of (e.Binary o a b) ≡ aggregates_of a ++ aggregates_of b
of-Binary o a b = given.gives-Binary whole_aggregate (e.Binary o a b) o a b refl (whole-Binary o a b)

pub of-Not : (a : Expr) → aggregates_of (e.Not a) ≡ aggregates_of a
of-Not a = given.gives-Not whole_aggregate (e.Not a) a refl (whole-Not a)

pub of-IsNull : (m : Bool) (a : Expr) → aggregates_of (e.IsNull m a) ≡ aggregates_of a
of-IsNull m a = given.gives-IsNull whole_aggregate (e.IsNull m a) m a refl (whole-IsNull m a)

pub of-Between : (m : Bool) (a : Expr) (b : Expr) (c : Expr) → aggregates_of (e.Between m a b c) ≡ aggregates_of a ++ aggregates_of b ++ aggregates_of c
of-Between m a b c = given.gives-Between whole_aggregate (e.Between m a b c) m a b c refl (whole-Between m a b c)

pub of-OneOf : (m : Bool) (a : Expr) (es : List Expr) → aggregates_of (e.OneOf m a es) ≡ aggregates_of a ++ all_of (map aggregates_of es)
of-OneOf m a es = given.gives-OneOf whole_aggregate (e.OneOf m a es) m a es refl (whole-OneOf m a es)

pub of-Like : (m : Bool) (a : Expr) (t : List ℕ) → aggregates_of (e.Like m a t) ≡ aggregates_of a
of-Like m a t = given.gives-Like whole_aggregate (e.Like m a t) m a t refl (whole-Like m a t)

pub of-Cast : (a : Expr) (to : SqlType) → aggregates_of (e.Cast a to) ≡ aggregates_of a
of-Cast a to = given.gives-Cast whole_aggregate (e.Cast a to) a to refl (whole-Cast a to)

pub of-Case : (x : Option Expr) (ws : List WhenText) (z : Option Expr) → aggregates_of (e.Case x ws z) ≡ perhaps (option_map aggregates_of x) ++ all_of (map when_aggregates ws) ++ perhaps (option_map aggregates_of z)
of-Case x ws z = given.gives-Case whole_aggregate (e.Case x ws z) x ws z refl (whole-Case x ws z)

pub of-aggregate : (f : List ℕ) (star : Bool) (es : List Expr) → is_aggregate f ≡ true → aggregates_of (e.Call f star es) ≡ e.Call f star es ∷ []
of-aggregate f star es h = given.gives-decided whole_aggregate (e.Call f star es) (e.Call f star es ∷ []) (whole-aggregate f star es h)

pub of-function : (f : List ℕ) (star : Bool) (es : List Expr) → is_aggregate f ≡ false → aggregates_of (e.Call f star es) ≡ all_of (map aggregates_of es)
of-function f star es h = given.gives-Call whole_aggregate (e.Call f star es) f star es refl (whole-function f star es h)

-- ---- what is handed down

-- what holds of a form holds of its parts
pub record Inherits (R : Expr → Type 0) : Type 0 where
  pub sign : (m : Bool) (a : Expr) → R (e.Sign m a) → R a
  pub binary : (o : BinaryOp) (a b : Expr) → R (e.Binary o a b) → R a × R b
  pub not : (a : Expr) → R (e.Not a) → R a
  pub is_null : (m : Bool) (a : Expr) → R (e.IsNull m a) → R a
  pub between : (m : Bool) (a b c : Expr) → R (e.Between m a b c) → R a × R b × R c
  pub one_of : (m : Bool) (a : Expr) (es : List Expr) → R (e.OneOf m a es) → R a × Each R es
  pub like : (m : Bool) (a : Expr) (t : List ℕ) → R (e.Like m a t) → R a
  pub cast : (a : Expr) (to : SqlType) → R (e.Cast a to) → R a
  pub case : (x : Option Expr) (ws : List WhenText) (z : Option Expr) → R (e.Case x ws z) → IfThere R x × Each (InWhen R) ws × IfThere R z
  pub call : (f : List ℕ) (star : Bool) (es : List Expr) → R (e.Call f star es) → Each R es

module _ (R : Expr → Type 0) (inherits : Inherits R) where
  -- an aggregate with what is handed down
  abbrev pub Kept : Expr → Type 0
  Kept g = R g × (is_aggregate_call g ≡ true)

  abbrev Hands : Expr → Type 0
  Hands a = R a → Each Kept (aggregates_of a)

  to-all : (es : List Expr) → Each Hands es → Each R es → Each Kept (all_of (map aggregates_of es))
  to-all [] k h = tt
  to-all (a ∷ es) k h = each-append Kept (aggregates_of a) (all_of (map aggregates_of es)) (k.0 h.0) (to-all es k.1 h.1)

  to-whens : (ws : List WhenText) → Each (InWhen Hands) ws → Each (InWhen R) ws → Each Kept (all_of (map when_aggregates ws))
  to-whens [] k h = tt
  to-whens (w ∷ ws) k h =
      each-append Kept (when_aggregates w) (all_of (map when_aggregates ws))
      (each-append Kept (aggregates_of w.cond) (aggregates_of w.result) (k.0.0 h.0.0) (k.0.1 h.0.1)) (to-whens ws k.1 h.1)

  to-part : (x : Option Expr) → IfThere Hands x → IfThere R x → Each Kept (perhaps (option_map aggregates_of x))
  to-part None k h = tt
  to-part (Some a) k h = k h

  moved : (xs ys : List Expr) → xs ≡ ys → Each Kept ys → Each Kept xs
  moved xs ys h = subst (Each Kept) (sym h)

  to-call : (f : List ℕ) (star : Bool) (es : List Expr) → Each Hands es → Hands (e.Call f star es)
  to-call f star es k h = at (is_aggregate f) refl
    where
      at : (b : Bool) → is_aggregate f ≡ b → Each Kept (aggregates_of (e.Call f star es))
      at true g = moved _ (e.Call f star es ∷ []) (of-aggregate f star es g) ((h, called-Call f star es ∙ g), tt)
      at false g = moved _ (all_of (map aggregates_of es)) (of-function f star es g) (to-all es k (inherits.call f star es h))

  pub aggregates-inherit : (a : Expr) → Hands a
  aggregates-inherit = induction Hands (record {
    digits = λ n h. moved _ [] (of-Digits n) tt;
    text = λ t h. moved _ [] (of-Text t) tt;
    truth = λ b h. moved _ [] (of-Truth b) tt;
    null = λ h. moved _ [] of-Null tt;
    name = λ q t h. moved _ [] (of-Name q t) tt;
    sign = λ m a ka h. moved _ _ (of-Sign m a) (ka (inherits.sign m a h));
    binary = λ o a b ka kb h. moved _ _ (of-Binary o a b) (let r = inherits.binary o a b h in each-append Kept (aggregates_of a) (aggregates_of b) (ka r.0) (kb r.1));
    not = λ a ka h. moved _ _ (of-Not a) (ka (inherits.not a h));
    is_null = λ m a ka h. moved _ _ (of-IsNull m a) (ka (inherits.is_null m a h));
    between = λ m a b c ka kb kc h. moved _ _ (of-Between m a b c) (let r = inherits.between m a b c h in each-append Kept (aggregates_of a ++ aggregates_of b) (aggregates_of c) (each-append Kept (aggregates_of a) (aggregates_of b) (ka r.0) (kb r.1)) (kc r.2));
    one_of = λ m a es ka kes h. moved _ _ (of-OneOf m a es) (let r = inherits.one_of m a es h in each-append Kept (aggregates_of a) (all_of (map aggregates_of es)) (ka r.0) (to-all es kes r.1));
    like = λ m a t ka h. moved _ _ (of-Like m a t) (ka (inherits.like m a t h));
    cast = λ a to ka h. moved _ _ (of-Cast a to) (ka (inherits.cast a to h));
    case = λ x ws z kx kws kz h. moved _ _ (of-Case x ws z) (let r = inherits.case x ws z h in each-append Kept (perhaps (option_map aggregates_of x) ++ all_of (map when_aggregates ws)) (perhaps (option_map aggregates_of z)) (each-append Kept (perhaps (option_map aggregates_of x)) (all_of (map when_aggregates ws)) (to-part x kx r.0) (to-whens ws kws r.1)) (to-part z kz r.2));
    call = to-call;
  })

-- ---- whether there is one

abbrev IsSeen : Expr → Type 0
IsSeen a = has_aggregate a ≡ some (aggregates_of a)

all-seen : (es : List Expr) → Each IsSeen es → any_of (map has_aggregate es) ≡ some (all_of (map aggregates_of es))
all-seen [] k = refl
all-seen (a ∷ es) k = ap₂ (λ x y. x || y) k.0 (all-seen es k.1) ∙ sym (some-append (aggregates_of a) (all_of (map aggregates_of es)))

whens-seen : (ws : List WhenText) → Each (InWhen IsSeen) ws → any_of (map (λ w. has_aggregate w.cond || has_aggregate w.result) ws) ≡ some (all_of (map when_aggregates ws))
whens-seen [] k = refl
whens-seen (w ∷ ws) k =
    ap₂ (λ x y. x || y) (ap₂ (λ x y. x || y) k.0.0 k.0.1 ∙ sym (some-append (aggregates_of w.cond) (aggregates_of w.result))) (whens-seen ws k.1)
    ∙ sym (some-append (when_aggregates w) (all_of (map when_aggregates ws)))

part-seen : (x : Option Expr) → IfThere IsSeen x → any_perhaps (option_map has_aggregate x) ≡ some (perhaps (option_map aggregates_of x))
part-seen None k = refl
part-seen (Some a) k = k

call-seen : (f : List ℕ) (star : Bool) (es : List Expr) → Each IsSeen es → IsSeen (e.Call f star es)
call-seen f star es k = at (is_aggregate f) refl
  where
    calls : has_aggregate (e.Call f star es) ≡ (is_aggregate f || any_of (map has_aggregate es))
    calls = called.calls-Call is_aggregate (e.Call f star es) f star es refl

    at : (b : Bool) → is_aggregate f ≡ b → IsSeen (e.Call f star es)
    at true g = calls ∙ ap (λ b. b || any_of (map has_aggregate es)) g ∙ sym (ap some (of-aggregate f star es g))
    at false g = calls ∙ ap (λ b. b || any_of (map has_aggregate es)) g ∙ all-seen es k ∙ sym (ap some (of-function f star es g))

pub aggregates-seen : (a : Expr) → has_aggregate a ≡ some (aggregates_of a)
aggregates-seen = induction IsSeen (record {
  digits = λ n. called.calls-Digits is_aggregate (e.Digits n) n refl ∙ sym (ap some (of-Digits n));
  text = λ t. called.calls-Text is_aggregate (e.Text t) t refl ∙ sym (ap some (of-Text t));
  truth = λ b. called.calls-Truth is_aggregate (e.Truth b) b refl ∙ sym (ap some (of-Truth b));
  null = called.calls-Null is_aggregate e.Null refl ∙ sym (ap some of-Null);
  name = λ q t. called.calls-Name is_aggregate (e.Name q t) q t refl ∙ sym (ap some (of-Name q t));
  sign = λ m a ka. called.calls-Sign is_aggregate (e.Sign m a) m a refl ∙ ka ∙ sym (ap some (of-Sign m a));
  binary = λ o a b ka kb. called.calls-Binary is_aggregate (e.Binary o a b) o a b refl ∙ ap₂ (λ u v. u || v) ka kb ∙ sym (some-append (aggregates_of a) (aggregates_of b)) ∙ sym (ap some (of-Binary o a b));
  not = λ a ka. called.calls-Not is_aggregate (e.Not a) a refl ∙ ka ∙ sym (ap some (of-Not a));
  is_null = λ m a ka. called.calls-IsNull is_aggregate (e.IsNull m a) m a refl ∙ ka ∙ sym (ap some (of-IsNull m a));
  between = λ m a b c ka kb kc. called.calls-Between is_aggregate (e.Between m a b c) m a b c refl ∙ ap₂ (λ u v. u || v) (ap₂ (λ u v. u || v) ka kb ∙ sym (some-append (aggregates_of a) (aggregates_of b))) kc ∙ sym (some-append (aggregates_of a ++ aggregates_of b) (aggregates_of c)) ∙ sym (ap some (of-Between m a b c));
  one_of = λ m a es ka kes. called.calls-OneOf is_aggregate (e.OneOf m a es) m a es refl ∙ ap₂ (λ u v. u || v) ka (all-seen es kes) ∙ sym (some-append (aggregates_of a) (all_of (map aggregates_of es))) ∙ sym (ap some (of-OneOf m a es));
  like = λ m a t ka. called.calls-Like is_aggregate (e.Like m a t) m a t refl ∙ ka ∙ sym (ap some (of-Like m a t));
  cast = λ a to ka. called.calls-Cast is_aggregate (e.Cast a to) a to refl ∙ ka ∙ sym (ap some (of-Cast a to));
  case = λ x ws z kx kws kz. called.calls-Case is_aggregate (e.Case x ws z) x ws z refl ∙ ap₂ (λ u v. u || v) (ap₂ (λ u v. u || v) (part-seen x kx) (whens-seen ws kws) ∙ sym (some-append (perhaps (option_map aggregates_of x)) (all_of (map when_aggregates ws)))) (part-seen z kz) ∙ sym (some-append (perhaps (option_map aggregates_of x) ++ all_of (map when_aggregates ws)) (perhaps (option_map aggregates_of z))) ∙ sym (ap some (of-Case x ws z));
  call = call-seen;
})
