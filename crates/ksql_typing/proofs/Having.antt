-- If an expression has a tree, its names are unambiguous.
use Rattle.std.proofs.Common.{◌≡◌, ℕ, Bool, true, false, ◌||◌, if◌then◌else◌, List, [], ◌∷◌, ◌++◌, map, length, is_some, refl, ap, ◌∙◌}
use Rattle.std.specs.List.{list_any}
use Rattle.ksql_expr.specs.declared.typed.AggFun.TheVariants.{Count}
use Rattle.ksql_scopes.specs.declared.scope.Scope.{Scope}
use Rattle.ksql_scopes.specs.Scope.{inside}
use Rattle.ksql_typing.specs.Standing as st
use Rattle.ksql_typing.specs.Standing.{Stands, Pair, one, perhaps, each, whens}
use Rattle.ksql_scopes.specs.Uses.{names, meanings_of, all_of, in_aggregate}
use Rattle.ksql_scopes.specs.Uses as uses
use Rattle.ksql_scopes.proofs.Disjoint.{no-aggregate, is-aggregate, unknown-none}
use Rattle.ksql_scopes.proofs.Equations as q
use Rattle.expression_trees.proofs.Folds.{perhaps_folded}
use Rattle.ksql_scopes.proofs.NameFlags.{counted, none-either, counted-inside}

-- no name is counted
module _ (p : ℕ → Bool) (single : p 1 ≡ false) where
  abbrev Clear : Scope → Pair → Type 0
  Clear s (one a x) = list_any (counted p s) (names a) ≡ false
  Clear s (perhaps a x) = list_any (counted p s) (uses.perhaps (perhaps_folded names a)) ≡ false
  Clear s (each es xs) = list_any (counted p s) (all_of (map names es)) ≡ false
  Clear s (whens ws ys) = list_any (counted p s) (all_of (map q.names_when ws)) ≡ false

  along : (s : Scope) {a b : List _} → a ≡ b → list_any (counted p s) b ≡ false → list_any (counted p s) a ≡ false
  along s e k = ap (list_any (counted p s)) e ∙ k

  pub clear : {s : Scope} {p : Pair} → Stands s p → Clear s p
  clear {s} (st.digits {number = n}) = along s (q.names-Digits n) refl
  clear {s} (st.text {content = c}) = along s (q.names-Text c) refl
  clear {s} (st.truth {b = b}) = along s (q.names-Truth b) refl
  clear {s} st.null = along s q.names-Null refl
  clear {s} (st.name {q = qualifier} {found = found} m) =
      along s (q.names-Name qualifier found) (ap (λ ms. p (length ms) || false) m ∙ ap (λ b. b || false) single)
  clear {s} (st.sign {minus = minus} {a = a} k r) = along s (q.names-Sign minus a) (clear k)
  clear {s} (st.binary {o = o} {a = a} {b = b} k l r) = along s (q.names-Binary o a b) (none-either (counted p s) (names a) (names b) (clear k) (clear l))
  clear {s} (st.not {a = a} k r) = along s (q.names-Not a) (clear k)
  clear {s} (st.is_null {negated = n} {a = a} k) = along s (q.names-IsNull n a) (clear k)
  clear {s} (st.between {negated = n} {a = a} {low = b} {high = c} k l m r) =
      along s (q.names-Between n a b c)
      (none-either (counted p s) (names a ++ names b) (names c) (none-either (counted p s) (names a) (names b) (clear k) (clear l)) (clear m))
  clear {s} (st.one_of {negated = n} {a = a} {es = es} k l r) =
      along s (q.names-OneOf n a es) (none-either (counted p s) (names a) (all_of (map names es)) (clear k) (clear l))
  clear {s} (st.like {negated = n} {a = a} {pattern = c} k r) = along s (q.names-Like n a c) (clear k)
  clear {s} (st.cast {a = a} {to = to} k r) = along s (q.names-Cast a to) (clear k)
  clear {s} (st.case {operand = x} {otherwise = z} {ws = ws} k l m r) =
      let front = uses.perhaps (perhaps_folded names x) in
      let middle = all_of (map q.names_when ws) in
      along s (q.names-Case x ws z)
      (none-either (counted p s) (front ++ middle) (uses.perhaps (perhaps_folded names z)) (none-either (counted p s) front middle (clear k) (clear l)) (clear m))
  clear {s} (st.call {f = f} {args = es} {found = found} g k r) =
      along s (q.names-Call f false es)
      (ap (λ b. list_any (counted p s) (if b then map in_aggregate (all_of (map names es)) else all_of (map names es))) (ap is_some (no-aggregate f found g)) ∙ clear k)
  clear {s} (st.count_all {f = f} g) =
      along s (q.names-Call f true []) (ap (λ b. list_any (counted p s) (if b then [] else [])) (is-aggregate f Count g))
  clear {s} (st.aggregate {f = f} {a = a} {found = found} g k r) =
      let us = names a ++ [] in
      along s (q.names-Call f false (a ∷ []))
      (ap (λ b. list_any (counted p s) (if b then map in_aggregate us else us)) (is-aggregate f found g)
      ∙ counted-inside p s us ∙ none-either (counted p (inside s)) (names a) [] (clear k) refl)
  clear {s} (st.unknown {f = f} {star = star} {args = es} g k) =
      along s (q.names-Call f star es)
      (ap (λ b. list_any (counted p s) (if b then map in_aggregate (all_of (map names es)) else all_of (map names es))) (ap is_some (unknown-none f g).1) ∙ clear k)
  clear {s} st.left_out = refl
  clear {s} (st.there k) = clear k
  clear {s} st.none = refl
  clear {s} (st.more {a = a} {es = es} k l) = none-either (counted p s) (names a) (all_of (map names es)) (clear k) (clear l)
  clear {s} st.no_when = refl
  clear {s} (st.more_whens {w = w} {ws = ws} k l m) =
      none-either (counted p s) (q.names_when w) (all_of (map q.names_when ws))
      (along s (q.names-when w) (none-either (counted p s) (names w.cond) (names w.result) (clear k) (clear l))) (clear m)
