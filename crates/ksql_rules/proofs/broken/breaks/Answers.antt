use Rattle.std.proofs.Common.{◌≡◌, Bool, false, Result, Ok, Err, IsTrue, IfOk, inl, inr, sym, ◌∙◌}
use Rattle.std.specs.Prelude.{◌↔◌, ◌⊎◌}
use Rattle.ksql_rules.specs.Breaks.{BodyBreaks, is_full_catalog}
use Rattle.ksql_rules.proofs.broken.breaks.Goals as goal

body-alone : {P : Type 0} (full b : Bool) → full ≡ false → IsTrue b ↔ P → IsTrue b ↔ (IsTrue full ⊎ P)
body-alone {P} full b none h = (λ k. inr (h.0 k), λ k. from k)
  where
    from : IsTrue full ⊎ P → IsTrue b
    from (inl k) = absurd (cc (k, none))
    from (inr p) = h.1 p

in-ok : {E : Type 0} (P : Type 0) (full : Bool) (r : Result Bool E) → full ≡ false → IfOk r (λ b. IsTrue b ↔ P) → IfOk r (λ b. IsTrue b ↔ (IsTrue full ⊎ P))
in-ok P full (Ok b) none h = body-alone full b none h
in-ok P full (Err e) none h = h

pub returns : goal.returns
returns c =
    in-ok (BodyBreaks c.args.catalog.now c.args.statement.now c.args.statement.now.body c.args.code) (is_full_catalog c.args.catalog.now c.args.code) c.body_breaks.result (sym c.is_full_catalog.ensures ∙ c.if-is_full_catalog.false) c.body_breaks.ensures
