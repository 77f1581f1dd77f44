-- Two forms are the same exactly if they are equal; the first of some forms that is the same as another.
use base.Stored.{Gv, gnil, gnum, gcons}
use Rattle.std.proofs.Common.{◌≡◌, ◌∙◌, ◌==◌, ℕ, suc, ◌+◌, ◌<◌, Bool, ◌&&◌, true, false, if◌then◌else◌, IsTrue, List, length, drop, get_or, Some, refl, ap, ap₂, sym, subst}
use Rattle.std.specs.Prelude.{◌↔◌}
use Rattle.std.proofs.Math.Numerals.{suc-eq-add-one}
use Rattle.std.proofs.lemmas.List.{drop_more}
use Rattle.std.proofs.lemmas.Bool.{eqb-true, eq-eqb, false≢true}
use Rattle.ksql_expr.specs.contracts.typed.Typed as tree
use Rattle.ksql_expr.specs.contracts.typed.TypedNode as form
use Rattle.ksql_expr.specs.declared.typed.Typed.{Typed}
use Rattle.ksql_expr.specs.declared.typed.TypedNode.{TypedNode}
use Rattle.grouped_expressions.specs.Grouped.{place_from}
use Rattle.grouped_expressions.specs.Same.{same_code, same_form, same_tree}

first-holds : (p q : Bool) → (p && q) ≡ true → p ≡ true
first-holds true q h = refl
first-holds false q h = absurd (false≢true h)

last-holds : (p q : Bool) → (p && q) ≡ true → q ≡ true
last-holds true q h = h
last-holds false q h = absurd (false≢true h)

code-equal : (a b : Gv) → same_code a b ≡ true → a ≡ b
code-equal gnil gnil h = refl
code-equal (gnum m) (gnum n) h = ap gnum (eqb-true m n h)
code-equal (gcons a b) (gcons c d) h = ap₂ gcons (code-equal a c (first-holds (same_code a c) (same_code b d) h)) (code-equal b d (last-holds (same_code a c) (same_code b d) h))
code-equal a b h = absurd (false≢true h)

code-same : (a : Gv) → same_code a a ≡ true
code-same gnil = refl
code-same (gnum n) = eq-eqb n n refl
code-same (gcons a b) = ap₂ (λ x y. x && y) (code-same a) (code-same b)

pub equal : (a b : TypedNode) → same_form a b ≡ true → a ≡ b
unfolding same_form
equal a b h = form.the_row.coded.inj a b (code-equal (form.the_row.coded.code a) (form.the_row.coded.code b) h)

pub same : (a b : TypedNode) → a ≡ b → same_form a b ≡ true
unfolding same_form
same a b h = subst (λ c. same_code (form.the_row.coded.code a) (form.the_row.coded.code c) ≡ true) h (code-same (form.the_row.coded.code a))

pub equal-trees : (a b : Typed) → same_tree a b ≡ true → a ≡ b
unfolding same_tree
equal-trees a b h = tree.the_row.coded.inj a b (code-equal (tree.the_row.coded.code a) (tree.the_row.coded.code b) h)

pub same-trees : (a b : Typed) → a ≡ b → same_tree a b ≡ true
unfolding same_tree
same-trees a b h = subst (λ c. same_code (tree.the_row.coded.code a) (tree.the_row.coded.code c) ≡ true) h (code-same (tree.the_row.coded.code a))

-- what a test says
pub decided : (r : Bool) (a b : TypedNode) → (IsTrue r ↔ (a ≡ b)) → same_form a b ≡ r
decided true a b h = same a b (h.0 refl)
decided false a b h = at (same_form a b) refl
  where
    at : (s : Bool) → same_form a b ≡ s → s ≡ false
    at false k = refl
    at true k = sym (h.1 (equal a b k))

-- ---- places

-- the first of some forms, and the rest
pub place-next : (cs : List TypedNode) (form x : TypedNode) (i : ℕ) (b : Bool) → i < length cs → x ≡ get_or cs i x → same_form x form ≡ b
    → place_from i (drop i cs) form ≡ (if b then Some i else place_from (i + 1) (drop (i + 1) cs) form)
place-next cs form x i b below at is =
    ap (λ os. place_from i os form) (drop_more cs i x below)
    ∙ ap (λ o. if same_form o form then Some i else place_from (suc i) (drop (i + 1) cs) form) (sym at)
    ∙ ap₂ (λ s j. if s then Some i else place_from j (drop (i + 1) cs) form) is (suc-eq-add-one i)
