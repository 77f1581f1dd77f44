-- A function that is looked for is called in an expression exactly if the expression passes.
use Rattle.std.proofs.Common.{◌≡◌, ℕ, List, [], ◌∷◌, ◌||◌, map, Bool, true, false, if◌then◌else◌, Option, Some, None, refl, ap, ap₂, sym, ◌∙◌}
use Rattle.std.specs.Prelude.{option_map}
use Rattle.std.specs.List.{AllByRecursion as Each}
use Rattle.expression_trees.specs.declared.tree.Expr.{Expr}
use Rattle.expression_trees.specs.declared.tree.Expr.TheVariants as e
use Rattle.expression_trees.specs.declared.tree.WhenText.{WhenText}
use Rattle.ksql_scopes.proofs.Induction.{IfThere, InWhen, induction}
use Rattle.expression_trees.specs.Parts.{passes, any_of, any_perhaps}
use Rattle.expression_trees.proofs.Passing as passed
use Rattle.aggregate_rules.specs.declared.aggregates.Called.{Called}
use Rattle.aggregate_rules.specs.Grouping.{is_wanted, is_called}
use Rattle.aggregate_rules.proofs.Calls as called
use Rattle.aggregate_rules.proofs.Calls.{calls_one}

module _ (wanted : Called) where
  abbrev does : Expr → Bool
  does = passes (is_called wanted)

  abbrev calls : Expr → Bool
  calls = calls_one (is_wanted wanted)

  abbrev IsSame : Expr → Type 0
  IsSame a = does a ≡ calls a

  same-each : (es : List Expr) → Each IsSame es → any_of (map does es) ≡ any_of (map calls es)
  same-each [] h = refl
  same-each (a ∷ es) h = ap₂ (λ b c. b || c) h.0 (same-each es h.1)

  same-whens : (ws : List WhenText) → Each (InWhen IsSame) ws
      → any_of (map (λ w. does w.cond || does w.result) ws) ≡ any_of (map (λ w. calls w.cond || calls w.result) ws)
  same-whens [] h = refl
  same-whens (w ∷ ws) h = ap₂ (λ b c. b || c) (ap₂ (λ b c. b || c) h.0.0 h.0.1) (same-whens ws h.1)

  same-perhaps : (x : Option Expr) → IfThere IsSame x → any_perhaps (option_map does x) ≡ any_perhaps (option_map calls x)
  same-perhaps None h = refl
  same-perhaps (Some x) h = h

  same-Call : (f : List ℕ) (star : Bool) (es : List Expr) → Each IsSame es → IsSame (e.Call f star es)
  same-Call f star es h = at (is_wanted wanted f) refl ∙ sym (called.calls-Call (is_wanted wanted) (e.Call f star es) f star es refl)
    where
      decided : is_called wanted (e.Call f star es) ≡ (if is_wanted wanted f then Some true else None)
      decided = rw (e.outs-Call f star es)

      at : (b : Bool) → is_wanted wanted f ≡ b → does (e.Call f star es) ≡ (is_wanted wanted f || any_of (map calls es))
      at true k =
          passed.passes-decided (is_called wanted) (e.Call f star es) true (decided ∙ ap (λ b. if b then Some true else None) k)
          ∙ sym (ap (λ b. b || any_of (map calls es)) k)
      at false k =
          passed.passes-Call (is_called wanted) (e.Call f star es) f star es refl (decided ∙ ap (λ b. if b then Some true else None) k)
          ∙ same-each es h ∙ sym (ap (λ b. b || any_of (map calls es)) k)

  pub same : (a : Expr) → IsSame a
  same = induction IsSame (record {
    digits = λ n. passed.passes-Digits (is_called wanted) (e.Digits n) n refl (rw (e.outs-Digits n)) ∙ sym (called.calls-Digits (is_wanted wanted) (e.Digits n) n refl);
    text = λ t. passed.passes-Text (is_called wanted) (e.Text t) t refl (rw (e.outs-Text t)) ∙ sym (called.calls-Text (is_wanted wanted) (e.Text t) t refl);
    truth = λ b. passed.passes-Truth (is_called wanted) (e.Truth b) b refl (rw (e.outs-Truth b)) ∙ sym (called.calls-Truth (is_wanted wanted) (e.Truth b) b refl);
    null = passed.passes-Null (is_called wanted) e.Null refl (rw e.outs-Null) ∙ sym (called.calls-Null (is_wanted wanted) e.Null refl);
    name = λ q t. passed.passes-Name (is_called wanted) (e.Name q t) q t refl (rw (e.outs-Name q t)) ∙ sym (called.calls-Name (is_wanted wanted) (e.Name q t) q t refl);
    sign = λ m a h. passed.passes-Sign (is_called wanted) (e.Sign m a) m a refl (rw (e.outs-Sign m a)) ∙ h ∙ sym (called.calls-Sign (is_wanted wanted) (e.Sign m a) m a refl);
    binary = λ o a b h k. passed.passes-Binary (is_called wanted) (e.Binary o a b) o a b refl (rw (e.outs-Binary o a b)) ∙ ap₂ (λ u v. u || v) h k
        ∙ sym (called.calls-Binary (is_wanted wanted) (e.Binary o a b) o a b refl);
    not = λ a h. passed.passes-Not (is_called wanted) (e.Not a) a refl (rw (e.outs-Not a)) ∙ h ∙ sym (called.calls-Not (is_wanted wanted) (e.Not a) a refl);
    is_null = λ n a h. passed.passes-IsNull (is_called wanted) (e.IsNull n a) n a refl (rw (e.outs-IsNull n a)) ∙ h ∙ sym (called.calls-IsNull (is_wanted wanted) (e.IsNull n a) n a refl);
    between = λ n a b c h k l. passed.passes-Between (is_called wanted) (e.Between n a b c) n a b c refl (rw (e.outs-Between n a b c))
        ∙ ap₂ (λ u v. u || v) (ap₂ (λ u v. u || v) h k) l ∙ sym (called.calls-Between (is_wanted wanted) (e.Between n a b c) n a b c refl);
    one_of = λ n a es h k. passed.passes-OneOf (is_called wanted) (e.OneOf n a es) n a es refl (rw (e.outs-OneOf n a es))
        ∙ ap₂ (λ u v. u || v) h (same-each es k) ∙ sym (called.calls-OneOf (is_wanted wanted) (e.OneOf n a es) n a es refl);
    like = λ n a t h. passed.passes-Like (is_called wanted) (e.Like n a t) n a t refl (rw (e.outs-Like n a t)) ∙ h ∙ sym (called.calls-Like (is_wanted wanted) (e.Like n a t) n a t refl);
    cast = λ a to h. passed.passes-Cast (is_called wanted) (e.Cast a to) a to refl (rw (e.outs-Cast a to)) ∙ h ∙ sym (called.calls-Cast (is_wanted wanted) (e.Cast a to) a to refl);
    case = λ x ws z h k l. passed.passes-Case (is_called wanted) (e.Case x ws z) x ws z refl (rw (e.outs-Case x ws z))
        ∙ ap₂ (λ u v. u || v) (ap₂ (λ u v. u || v) (same-perhaps x h) (same-whens ws k)) (same-perhaps z l)
        ∙ sym (called.calls-Case (is_wanted wanted) (e.Case x ws z) x ws z refl);
    call = λ f star es h. same-Call f star es h;
  })
