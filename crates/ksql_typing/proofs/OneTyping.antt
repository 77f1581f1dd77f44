-- An expression has at most one typed tree, or one fault, and not both.
use Rattle.std.proofs.Common.{◌≡◌, Some, refl, ap, sym, ◌∙◌}
use Rattle.std.specs.Prelude.{◌==◌, nat_lt, Ok}
use Rattle.std.proofs.lemmas.Bool.{both_ways}
use Rattle.std.proofs.lemmas.Option.{same_Some}
use Rattle.expression_trees.specs.declared.tree.Expr.{Expr}
use Rattle.ksql_expr.specs.declared.typed.Typed.{Typed}
use Rattle.ksql_expr.specs.Typing.{IsTyped}
use Rattle.ksql_scopes.specs.declared.scope.Scope.{Scope}
use Rattle.ksql_scopes.specs.Scope.{column_types}
use Rattle.ksql_scopes.specs.Uses.{has_unknown_name, has_ambiguous_name, has_unknown_function}
use Rattle.ksql_typing.specs.declared.judged.Judged.{Judged}
use Rattle.ksql_typing.specs.declared.fault.TypeFault.{TypeFault}
use Rattle.ksql_typing.specs.declared.fault.TypeFault.TheVariants.{UnknownColumn, AmbiguousColumn, TypeMismatch, Unsupported, OutOfMemory}
use Rattle.ksql_typing.specs.Judged as j
use Rattle.ksql_typing.specs.Judged.{judged}
use Rattle.ksql_typing.specs.Made.{made}
use Rattle.ksql_typing.specs.Possible.{possible}
use Rattle.ksql_typing.specs.Standing.{IsTypedTree, one}
use Rattle.ksql_typing.specs.Typed.{HasFault}
use Rattle.ksql_typing.proofs.Having.{clear}
use Rattle.ksql_typing.proofs.Making.{Gives, gives}
use Rattle.ksql_typing.proofs.Meanings.{typed-meanings, typed-meanings-inside}

-- what stands for an expression and is typed
gives-tree : (s : Scope) (a : Expr) (x : Typed) → IsTypedTree s a x → Gives (column_types s) s (one a x)
gives-tree s a x h = gives (typed-meanings s) (typed-meanings-inside s) h.0 h.1

pub tree-made : (s : Scope) (a : Expr) (x : Typed) → IsTypedTree s a x → made a s ≡ Some x
tree-made s a x h = (gives-tree s a x h).0

pub checked : (s : Scope) (a : Expr) (x : Typed) → IsTypedTree s a x → IsTyped (column_types s) x
checked s a x h = (gives-tree s a x h).1

-- it is the result
pub tree-answered : (s : Scope) (a : Expr) (x : Typed) → IsTypedTree s a x → (v : Judged) → v ≡ judged a s → j.answer v ≡ Ok x
unfolding judged
tree-answered s a x h v k =
    ap j.answer k ∙ ap (λ o. j.answer_of o (j.refusal (possible a s) (has_unknown_name s a) (has_ambiguous_name s a))) (tree-made s a x h)

pub one-tree : (s : Scope) (a : Expr) (x y : Typed) → IsTypedTree s a x → IsTypedTree s a y → x ≡ y
one-tree s a x y h k = same_Some x y (sym (tree-made s a x h) ∙ tree-made s a y k)

pub not-both : (s : Scope) (a : Expr) (x : Typed) → IsTypedTree s a x → (f : TypeFault) → HasFault s a f → ⊥
not-both s a x h UnknownColumn k = both_ways (has_unknown_name s a) (clear (λ n. n == 0) refl h.0) k
not-both s a x h AmbiguousColumn k = both_ways (has_ambiguous_name s a) (clear (λ n. nat_lt 1 n) refl h.0) k.1
not-both s a x h TypeMismatch k = k.1 (x.ty, (x, h.0, refl))
not-both s a x h Unsupported k = both_ways (has_unknown_function a) h.1 k.2
not-both s a x h OutOfMemory k = k

pub one-fault : (s : Scope) (a : Expr) (f g : TypeFault) → HasFault s a f → HasFault s a g → f ≡ g
one-fault s a UnknownColumn UnknownColumn k l = refl
one-fault s a UnknownColumn AmbiguousColumn k l = absurd (both_ways (has_unknown_name s a) l.0 k)
one-fault s a UnknownColumn TypeMismatch k l = absurd (both_ways (has_unknown_name s a) l.0.0 k)
one-fault s a UnknownColumn Unsupported k l = absurd (both_ways (has_unknown_name s a) l.0.0 k)
one-fault s a AmbiguousColumn UnknownColumn k l = absurd (both_ways (has_unknown_name s a) k.0 l)
one-fault s a AmbiguousColumn AmbiguousColumn k l = refl
one-fault s a AmbiguousColumn TypeMismatch k l = absurd (both_ways (has_ambiguous_name s a) l.0.1 k.1)
one-fault s a AmbiguousColumn Unsupported k l = absurd (both_ways (has_ambiguous_name s a) l.0.1 k.1)
one-fault s a TypeMismatch UnknownColumn k l = absurd (both_ways (has_unknown_name s a) k.0.0 l)
one-fault s a TypeMismatch AmbiguousColumn k l = absurd (both_ways (has_ambiguous_name s a) k.0.1 l.1)
one-fault s a TypeMismatch TypeMismatch k l = refl
one-fault s a TypeMismatch Unsupported k l = absurd (k.1 l.1)
one-fault s a Unsupported UnknownColumn k l = absurd (both_ways (has_unknown_name s a) k.0.0 l)
one-fault s a Unsupported AmbiguousColumn k l = absurd (both_ways (has_ambiguous_name s a) k.0.1 l.1)
one-fault s a Unsupported TypeMismatch k l = absurd (l.1 k.1)
one-fault s a Unsupported Unsupported k l = refl
one-fault s a OutOfMemory g k l = absurd k
one-fault s a UnknownColumn OutOfMemory k l = absurd l
one-fault s a AmbiguousColumn OutOfMemory k l = absurd l
one-fault s a TypeMismatch OutOfMemory k l = absurd l
one-fault s a Unsupported OutOfMemory k l = absurd l
