-- What is answered: a tree of the expression, or else the fault that applies.
use Rattle.std.proofs.Common.{◌≡◌, Bool, true, false, if◌then◌else◌, Option, Some, None, ◌⊎◌, inr, refl, ap, sym, ◌∙◌, subst}
use Rattle.std.proofs.lemmas.Bool.{both_ways, true_from_ne_false}
use Rattle.std.specs.Prelude.{Result, Err, IfOk, IfErr}
use Rattle.ksql_types.specs.declared.value.SqlType.{SqlType}
use Rattle.expression_trees.specs.declared.tree.Expr.{Expr}
use Rattle.ksql_expr.specs.declared.typed.Typed.{Typed}
use Rattle.ksql_scopes.specs.declared.scope.Scope.{Scope}
use Rattle.ksql_typing.specs.Possible.{possible}
use Rattle.ksql_type_sets.specs.Sets.{has, is_some_in}
use Rattle.ksql_scopes.specs.Uses.{has_unknown_name, has_ambiguous_name, has_unknown_function}
use Rattle.ksql_typing.proofs.Deciding.{decides}
use Rattle.ksql_typing.proofs.Possibly.{possibly}
use Rattle.ksql_type_sets.proofs.Sets.{some-in, some-from}
use Rattle.ksql_typing.specs.declared.judged.Judged.{Judged}
use Rattle.ksql_typing.specs.declared.fault.TypeFault.{TypeFault}
use Rattle.ksql_typing.specs.declared.fault.TypeFault.TheVariants.{UnknownColumn, AmbiguousColumn, TypeMismatch, Unsupported, OutOfMemory}
use Rattle.ksql_typing.specs.Judged as j
use Rattle.ksql_typing.specs.Judged.{judged}
use Rattle.ksql_typing.specs.Made.{made}
use Rattle.ksql_typing.specs.Standing.{HasType, HasSomeType, IsTypedTree}
use Rattle.ksql_typing.specs.Typed.{Answers, HasFault}
use Rattle.ksql_typing.proofs.MadeTrees.{makes-tree}
use Rattle.ksql_typing.proofs.OneTyping.{tree-made, not-both, one-fault}

-- if there is a type and each function is known, there is a tree
tree-of : (s : Scope) (a : Expr) (t : Option SqlType) → has_unknown_function a ≡ false → (h : HasType s a t) → made a s ≡ Some h.0
tree-of s a t known h = tree-made s a h.0 (h.1, known)

-- ---- some type

pub some-type : (s : Scope) (a : Expr) → is_some_in (possible a s) ≡ true → HasSomeType s a
some-type s a k =
    let r = some-in (possible a s) (λ t. true) k in
    (r.0, decides a s r.0 r.1)

-- a type is in the set
pub in-set : (s : Scope) (a : Expr) (t : Option SqlType) → HasType s a t → has (possible a s) t ≡ true
in-set s a t h = ap (has (possible a s)) (sym h.2) ∙ possibly h.1

pub some-in-set : (s : Scope) (a : Expr) (t : Option SqlType) → HasType s a t → is_some_in (possible a s) ≡ true
some-in-set s a t h = some-from (possible a s) (λ u. true) t (in-set s a t h) refl

-- without a tree a function is unknown
unknown-function : (s : Scope) (a : Expr) → HasSomeType s a → made a s ≡ None → has_unknown_function a ≡ true
unknown-function s a h k = true_from_ne_false (has_unknown_function a) (λ known. cc (sym k ∙ tree-of s a h.0 known h.1))

-- ---- the fault

fault-at : (s : Scope) (a : Expr) (u v w : Bool) → has_unknown_name s a ≡ u → has_ambiguous_name s a ≡ v → is_some_in (possible a s) ≡ w → made a s ≡ None
    → HasFault s a (if u then UnknownColumn else if v then AmbiguousColumn else if w then Unsupported else TypeMismatch)
fault-at s a true v w i k l n = i
fault-at s a false true w i k l n = (i, k)
fault-at s a false false true i k l n =
    let h = some-type s a l in
    ((i, k), h, unknown-function s a h n)
fault-at s a false false false i k l n = ((i, k), λ h. both_ways (is_some_in (possible a s)) l (some-in-set s a h.0 h.1))

-- the fault that is answered in place of a tree
abbrev fault : Scope → Expr → TypeFault
fault s a = j.refusal (possible a s) (has_unknown_name s a) (has_ambiguous_name s a)

fault-of : (s : Scope) (a : Expr) → made a s ≡ None → HasFault s a (fault s a)
fault-of s a n = fault-at s a (has_unknown_name s a) (has_ambiguous_name s a) (is_some_in (possible a s)) refl refl refl n

-- ---- the answer

abbrev IsRight : Scope → Expr → Result Typed TypeFault → Type 0
IsRight s a r = IfOk r (λ tree. IsTypedTree s a tree) × IfErr r (λ f. (f ≡ OutOfMemory) ⊎ HasFault s a f)

right-at : (s : Scope) (a : Expr) (o : Option Typed) → made a s ≡ o → IsRight s a (j.answer_of o (fault s a))
right-at s a None k = (tt, inr (fault-of s a k))
right-at s a (Some x) k = (makes-tree a s x k, tt)

pub right : (s : Scope) (a : Expr) (v : Judged) → v ≡ judged a s → IsRight s a (j.answer v)
unfolding judged
right s a v k = subst (λ z. IsRight s a (j.answer z)) (sym k) (right-at s a (made a s) refl)

fault-at-answer : (s : Scope) (a : Expr) (f : TypeFault) → HasFault s a f → (o : Option Typed) → made a s ≡ o → j.answer_of o (fault s a) ≡ Err f
fault-at-answer s a f h None k = ap (λ g. Err g) (one-fault s a (fault s a) f (fault-of s a k) h)
fault-at-answer s a f h (Some x) k = absurd (not-both s a x (makes-tree a s x k) f h)

answers-itself : (f : TypeFault) → Answers (Err f) (Err f)
answers-itself UnknownColumn = refl
answers-itself AmbiguousColumn = refl
answers-itself TypeMismatch = refl
answers-itself Unsupported = refl
answers-itself OutOfMemory = tt

pub fault-answered : (s : Scope) (a : Expr) (f : TypeFault) → HasFault s a f → (v : Judged) → v ≡ judged a s → Answers (j.answer v) (Err f)
unfolding judged
fault-answered s a f h v k =
    subst (λ r. Answers r (Err f)) (sym (ap j.answer k ∙ fault-at-answer s a f h (made a s) refl)) (answers-itself f)
