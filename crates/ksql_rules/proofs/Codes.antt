-- The first of some codes whose rule is broken, given the first among those after the head.
use Rattle.std.proofs.Common.{◌≡◌, ◌-◌, ◌≤◌, Bool, false, List, [], ◌∷◌, length, get_or, take, drop, Option, Some, None, IsTrue, inr, arith, ap, ◌∙◌, subst}
use Rattle.std.specs.Prelude.{◌↔◌, IfSome}
use Rattle.std.proofs.Math.Seq.{take-length}
use Rattle.ksql_types.specs.declared.code.Code.{Code}
use Rattle.ksql_types.specs.declared.code.Code.TheVariants.{Syntax}
use Rattle.ksql_types.specs.declared.relation.Relation.{Relation}
use Rattle.statement_trees.specs.declared.tree.Statement.{Statement}
use Rattle.ksql_rules.specs.Breaks.{Breaks}
use Rattle.ksql_rules.specs.Lowest.{BreaksFirst, BreaksNone}

-- the codes after the first
abbrev pub behind : List Code → List Code
behind codes = take (length codes - 1) (drop 1 codes)

behind-first : (c : Code) (cs : List Code) → behind (c ∷ cs) ≡ cs
behind-first c cs = let e : length (c ∷ cs) - 1 ≡ length cs = omega arith in ap (λ n. take n cs) e ∙ take-length cs

unbroken : {P : Type 0} (b : Bool) → IsTrue b ↔ P → b ≡ false → ¬ P
unbroken b h none p = absurd (cc (h.1 p, none))

module _ (catalog : List Relation) (st : Statement) where
  pub none-behind : (codes : List Code) (b : Bool) → 1 ≤ length codes → IsTrue b ↔ Breaks catalog st (get_or codes 0 Syntax) → b ≡ false
      → BreaksNone catalog st (behind codes) → BreaksNone catalog st codes
  none-behind [] b some h none k = absurd (omega arith)
  none-behind (c ∷ cs) b some h none k = (unbroken b h none, subst (λ xs. BreaksNone catalog st xs) (behind-first c cs) k)

  first-here : (found : Option Code) (c : Code) (cs : List Code) → ¬ Breaks catalog st c → IfSome found (λ code. BreaksFirst catalog st cs code)
      → IfSome found (λ code. BreaksFirst catalog st (c ∷ cs) code)
  first-here None c cs none k = k
  first-here (Some code) c cs none k = inr (none, k)

  pub first-behind : (codes : List Code) (b : Bool) (found : Option Code) → 1 ≤ length codes → IsTrue b ↔ Breaks catalog st (get_or codes 0 Syntax)
      → b ≡ false → IfSome found (λ code. BreaksFirst catalog st (behind codes) code) → IfSome found (λ code. BreaksFirst catalog st codes code)
  first-behind [] b found some h none k = absurd (omega arith)
  first-behind (c ∷ cs) b found some h none k =
      first-here found c cs (unbroken b h none) (subst (λ xs. IfSome found (λ code. BreaksFirst catalog st xs code)) (behind-first c cs) k)
