-- Each function in an expression is known exactly if each in its parts is.
use Rattle.std.proofs.Common.{◌≡◌, ℕ, Bool, false, ◌||◌, List, ◌++◌, map, ap, ap₂, sym, ◌∙◌}
use Rattle.std.specs.List.{list_any}
use Rattle.std.proofs.lemmas.Bool.{or_parts}
use Rattle.expression_trees.specs.declared.tree.Expr.{Expr}
use Rattle.expression_trees.specs.declared.tree.Expr.TheVariants as e
use Rattle.ksql_scopes.specs.Functions.{is_unknown}
use Rattle.ksql_scopes.specs.Uses.{calls, all_of, perhaps}
use Rattle.ksql_scopes.proofs.Equations as q
use Rattle.ksql_scopes.proofs.NameFlags.{none-of, none-either}
use Rattle.expression_trees.proofs.Folds.{perhaps_folded}
use Rattle.ksql_typing.specs.Standing as st
use Rattle.ksql_typing.specs.Standing.{Pair}

-- functions of these names are known
abbrev pub AreKnown : List (List ℕ) → Type 0
AreKnown names = list_any is_unknown names ≡ false

-- those in a part
abbrev pub Known : Pair → Type 0
Known (st.one a x) = AreKnown (calls a)
Known (st.perhaps a x) = AreKnown (perhaps (perhaps_folded calls a))
Known (st.each es xs) = AreKnown (all_of (map calls es))
Known (st.whens ws ys) = AreKnown (all_of (map q.calls_when ws))

-- of a form of one part, of two and of three
pub one-known : {a b : List (List ℕ)} → a ≡ b → AreKnown a → AreKnown b
one-known e k = ap (list_any is_unknown) (sym e) ∙ k

pub two-known : {a : List (List ℕ)} (b c : List (List ℕ)) → a ≡ b ++ c → AreKnown a → AreKnown b × AreKnown c
two-known b c e k = none-of is_unknown b c (one-known e k)

pub three-known : {a : List (List ℕ)} (b c d : List (List ℕ)) → a ≡ b ++ c ++ d → AreKnown a → AreKnown b × AreKnown c × AreKnown d
three-known b c d e k =
    let r = two-known (b ++ c) d e k in
    let l = none-of is_unknown b c r.0 in
    (l.0, l.1, r.1)

-- the function of a call, and those in its arguments
pub call-known : (f : List ℕ) (star : Bool) (es : List Expr) → AreKnown (calls (e.Call f star es)) → (is_unknown f ≡ false) × AreKnown (all_of (map calls es))
call-known f star es k = or_parts (is_unknown f) (list_any is_unknown (all_of (map calls es))) (one-known (q.calls-Call f star es) k)

-- ---- and back

pub of-one-known : {a b : List (List ℕ)} → a ≡ b → AreKnown b → AreKnown a
of-one-known e k = ap (list_any is_unknown) e ∙ k

pub of-two-known : {a : List (List ℕ)} (b c : List (List ℕ)) → a ≡ b ++ c → AreKnown b → AreKnown c → AreKnown a
of-two-known b c e k l = of-one-known e (none-either is_unknown b c k l)

pub of-three-known : {a : List (List ℕ)} (b c d : List (List ℕ)) → a ≡ b ++ c ++ d → AreKnown b → AreKnown c → AreKnown d → AreKnown a
of-three-known b c d e k l m = of-two-known (b ++ c) d e (none-either is_unknown b c k l) m

pub of-call-known : (f : List ℕ) (star : Bool) (es : List Expr) → is_unknown f ≡ false → AreKnown (all_of (map calls es)) → AreKnown (calls (e.Call f star es))
of-call-known f star es k l = of-one-known (q.calls-Call f star es) (ap₂ (λ a b. a || b) k l)
