-- What is found out of an expression is exact: its types, its tree, and what is decided by the types.
use Rattle.std.proofs.Common.{◌≡◌, true, false, Option, Some, None, is_some, IsTrue, refl, ap, sym, ◌∙◌}
use Rattle.std.specs.Prelude.{◌==◌, ◌↔◌, nat_lt}
use Rattle.ksql_types.specs.declared.value.SqlType.{SqlType}
use Rattle.ksql_types.specs.declared.value.SqlType.TheVariants as sql
use Rattle.expression_trees.specs.declared.tree.Expr.{Expr}
use Rattle.ksql_expr.specs.declared.typed.Typed.{Typed}
use Rattle.ksql_expr.specs.Rules.{fits}
use Rattle.ksql_scopes.specs.declared.scope.Scope.{Scope}
use Rattle.ksql_type_sets.specs.Decisions.{has_value, can_be_true, do_agree, can_agree}
use Rattle.ksql_typing.specs.Possible.{possible}
use Rattle.ksql_type_sets.specs.Sets.{has, is_some_in, some_in}
use Rattle.ksql_scopes.specs.Uses.{has_unknown_name, has_ambiguous_name, has_unknown_function}
use Rattle.ksql_typing.proofs.Deciding.{decides}
use Rattle.ksql_typing.proofs.Having.{clear}
use Rattle.ksql_type_sets.proofs.Sets.{some-in, some-from, type-same, same-type}
use Rattle.ksql_typing.specs.Judged.{judged}
use Rattle.ksql_typing.specs.Standing.{HasType, HasSomeType, HasValue, CanBeTrue, Agree, CanAgree, IsTypedTree}
use Rattle.ksql_typing.specs.Typed.{AreNamesClear}
use Rattle.ksql_typing.proofs.Answering.{in-set, some-type, some-in-set}
use Rattle.ksql_typing.proofs.MadeTrees.{makes-tree}
use Rattle.ksql_typing.proofs.OneTyping.{tree-made}

-- ---- the types and the tree

pub types : (s : Scope) (a : Expr) (t : Option SqlType) → IsTrue (has (judged a s).types t) ↔ HasType s a t
unfolding judged
types s a t = (decides a s t, in-set s a t)

pub tree : (s : Scope) (a : Expr) (x : Typed) → ((judged a s).tree ≡ Some x) ↔ IsTypedTree s a x
unfolding judged
tree s a x = (makes-tree a s x, tree-made s a x)

pub unknown : (s : Scope) (a : Expr) → (judged a s).unknown ≡ has_unknown_name s a
unfolding judged
unknown s a = refl

pub ambiguous : (s : Scope) (a : Expr) → (judged a s).ambiguous ≡ has_ambiguous_name s a
unfolding judged
ambiguous s a = refl

pub accepted : (s : Scope) (a : Expr) (t : Option SqlType) → has_unknown_function a ≡ false → HasType s a t
    → (x : Typed) × IsTypedTree s a x × (x.ty ≡ t)
accepted s a t k h = (h.0, (h.1, k), h.2)

pub tree_type : (s : Scope) (a : Expr) (x : Typed) → IsTypedTree s a x → HasType s a x.ty
tree_type s a x h = (x, h.0, refl)

pub known : (s : Scope) (a : Expr) (x : Typed) → IsTypedTree s a x → has_unknown_function a ≡ false
known s a x h = h.1

pub names_clear : (s : Scope) (a : Expr) (t : Option SqlType) → HasType s a t → AreNamesClear s a
names_clear s a t h = (clear (λ n. n == 0) refl h.1, clear (λ n. nat_lt 1 n) refl h.1)

-- ---- what is decided

pub some_type : (s : Scope) (a : Expr) → IsTrue (is_some_in (judged a s).types) ↔ HasSomeType s a
unfolding judged
some_type s a = (some-type s a, λ h. some-in-set s a h.0 h.1)

value-is : (s : Scope) (a : Expr) (t : Option SqlType) → HasType s a t → is_some t ≡ true → HasValue s a
value-is s a None h k = absurd (cc (k))
value-is s a (Some t) h k = (t, h)

pub value : (s : Scope) (a : Expr) → IsTrue (has_value (judged a s).types) ↔ HasValue s a
unfolding judged
value s a = (
  λ k. let r = some-in (possible a s) is_some k in value-is s a r.0 (decides a s r.0 r.1) r.2,
  λ h. some-from (possible a s) is_some (Some h.0) (in-set s a (Some h.0) h.1) refl,
)

pub truth : (s : Scope) (a : Expr) → IsTrue (can_be_true (judged a s).types) ↔ CanBeTrue s a
unfolding judged
truth s a = (
  λ k. let r = some-in (possible a s) (fits sql.Bool) k in (r.0, decides a s r.0 r.1, r.2),
  λ h. some-from (possible a s) (fits sql.Bool) h.0 (in-set s a h.0 h.1) h.2,
)

agree : (x y : Option SqlType) → do_agree x y ≡ true → Agree x y
agree None y k = tt
agree (Some x) None k = tt
agree (Some x) (Some y) k = type-same x y k

agreed : (x y : Option SqlType) → Agree x y → do_agree x y ≡ true
agreed None y k = refl
agreed (Some x) None k = refl
agreed (Some x) (Some y) k = ap (do_agree (Some x)) (ap (λ t. Some t) (sym k)) ∙ same-type x

pub agreement : (s : Scope) (a b : Expr) → IsTrue (can_agree (judged a s).types (judged b s).types) ↔ CanAgree s (a, b)
unfolding judged
agreement s a b = (
  λ k.
      let x = some-in (possible a s) (λ u. some_in (possible b s) (do_agree u)) k in
      let y = some-in (possible b s) (do_agree x.0) x.2 in
      (x.0, y.0, decides a s x.0 x.1, decides b s y.0 y.1, agree x.0 y.0 y.2),
  λ h. some-from (possible a s) (λ u. some_in (possible b s) (do_agree u)) h.0 (in-set s a h.0 h.2)
      (some-from (possible b s) (do_agree h.0) h.1 (in-set s b h.1 h.3) (agreed h.0 h.1 h.4)),
)
