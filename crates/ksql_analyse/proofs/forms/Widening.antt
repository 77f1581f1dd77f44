-- A typed tree has its types where there are more columns after, and a tree that can name the bounds of windows is that
-- of the expression without them.
use Rattle.std.proofs.Common.{◌≡◌, Bool, false, List, [], ◌∷◌, ◌++◌, Option, Some, None, sym, ◌∙◌}
use Rattle.ksql_types.specs.declared.value.SqlType.{SqlType}
use Rattle.expression_trees.specs.declared.tree.Expr.{Expr}
use Rattle.ksql_expr.specs.declared.typed.Typed.{Typed}
use Rattle.ksql_expr.specs.Typing as w
use Rattle.ksql_expr.specs.Typing.{HasTypes, Part}
use Rattle.ksql_scopes.specs.declared.scope.Scope.{Scope}
use Rattle.ksql_scopes.specs.Scope.{Meaning, meanings, columns_known_as, row_time, window_bounds, seen, inside}
use Rattle.ksql_typing.specs.Standing.{IsTypedTree}
use Rattle.ksql_analyse.proofs.lists.Appended.{front-at}
use Rattle.ksql_typing.proofs.Across.{Agree, agree-itself, one-across}
use Rattle.ksql_analyse.proofs.lists.EqualLists.{heads}

pub widened : (ds : List (Option SqlType)) {cs : List (Option SqlType)} {p : Part} → HasTypes cs p → HasTypes (cs ++ ds) p
widened ds (w.literal {x = x}) = w.literal {x = x}
widened ds {cs} (w.column {i = i} {t = t} e) = w.column (front-at cs ds i t e)
widened ds w.row_time = w.row_time
widened ds (w.sign h e) = w.sign (widened ds h) e
widened ds (w.binary h k e) = w.binary (widened ds h) (widened ds k) e
widened ds (w.not h e) = w.not (widened ds h) e
widened ds (w.is_null h) = w.is_null (widened ds h)
widened ds (w.between h k l e) = w.between (widened ds h) (widened ds k) (widened ds l) e
widened ds (w.one_of h k e) = w.one_of (widened ds h) (widened ds k) e
widened ds (w.like h e) = w.like (widened ds h) e
widened ds (w.cast h e) = w.cast (widened ds h) e
widened ds (w.case h k l e) = w.case (widened ds h) (widened ds k) (widened ds l) e
widened ds (w.call h e) = w.call (widened ds h) e
widened ds (w.aggregate h e) = w.aggregate (widened ds h) e
widened ds w.left_out = w.left_out
widened ds (w.there h) = w.there (widened ds h)
widened ds w.none = w.none
widened ds (w.more h k) = w.more (widened ds h) (widened ds k)
widened ds w.no_when = w.no_when
widened ds (w.more_whens h k l) = w.more_whens (widened ds h) (widened ds k) (widened ds l)

-- the first of more is the first
first-same : (xs ys : List Meaning) (m o : Meaning) → xs ++ [] ≡ m ∷ [] → xs ++ ys ≡ o ∷ [] → m ≡ o
first-same [] ys m o h k = absurd (cc (h))
first-same (x ∷ xs) ys m o h k = sym (heads h) ∙ heads k

seen-agree : (r : Scope) (v : Bool) → Agree (seen false r) (seen v r)
unfolding meanings
seen-agree r v (Some q) name o p h k =
    let first = columns_known_as (Some q) name 0 r.columns ++ row_time r (Some q) name in
    first-same first [] o p h k
seen-agree r v None name o p h k =
    let first = columns_known_as None name 0 r.columns ++ row_time r None name in
    first-same first (window_bounds (seen v r) None name) o p h k

pub seen-same : (r : Scope) (v : Bool) (a : Expr) (x y : Typed) → IsTypedTree (seen false r) a x → IsTypedTree (seen v r) a y → x ≡ y
seen-same r v a x y h k = one-across (seen false r) (seen v r) (record { here = seen-agree r v; within = agree-itself (inside r) }) a x y h k
