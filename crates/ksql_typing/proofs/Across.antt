-- The trees of an expression in two scopes, where its names stand for the same, are equal.
use Rattle.std.proofs.Common.{◌≡◌, ℕ, Bool, true, false, not, ◌&&◌, List, [], ◌∷◌, map, Option, Some, None, refl, ap, sym, ◌∙◌, subst}
use Rattle.std.specs.List.{AllByRecursion as Each}
use Rattle.std.proofs.lemmas.Option.{same_Some}
use Rattle.ksql_types.specs.declared.value.Value.TheVariants as value
use Rattle.expression_trees.specs.declared.tree.Expr.{Expr}
use Rattle.expression_trees.specs.declared.tree.WhenText.{WhenText}
use Rattle.ksql_expr.specs.declared.typed.Typed.{Typed}
use Rattle.ksql_expr.specs.Typing.{of}
use Rattle.ksql_scopes.specs.declared.scope.Scope.{Scope}
use Rattle.ksql_scopes.specs.Functions.{function_of, aggregate_of, is_aggregate}
use Rattle.ksql_scopes.specs.Scope.{Meaning, meanings, inside, seen}
use Rattle.ksql_scopes.proofs.Induction.{IfThere, InWhen, Steps, induction}
use Rattle.expression_trees.proofs.Folds.{perhaps_folded}
use Rattle.ksql_typing.specs.Judged.{after}
use Rattle.ksql_typing.specs.Made as m
use Rattle.ksql_typing.specs.Made.{made, all_there, perhaps_there, name_tree, named_tree, literal_tree, typed_when}
use Rattle.ksql_typing.specs.Possible.{scope_within}
use Rattle.ksql_typing.specs.Standing.{IsTypedTree, digits_value}
use Rattle.ksql_typing.proofs.Equations as q
use Rattle.ksql_typing.proofs.OneTyping.{tree-made}

-- if a name stands for exactly one thing in both scopes, it is the same thing
abbrev pub Agree : Scope → Scope → Type 0
Agree s s2 = (qualifier : Option (List ℕ)) (name : List ℕ) (o p : Meaning) → meanings s qualifier name ≡ o ∷ [] → meanings s2 qualifier name ≡ p ∷ [] → o ≡ p

pub record AgreeBoth (s s2 : Scope) : Type 0 where
  pub here : Agree s s2
  pub within : Agree (inside s) (inside s2)

heads : {A : Type 0} {x y : A} {xs ys : List A} → x ∷ xs ≡ y ∷ ys → x ≡ y
heads k = cc

pub agree-itself : (s : Scope) → Agree s s
agree-itself s qualifier name o p k l = heads (sym k ∙ l)

-- if both exist they are equal
abbrev Same : {A : Type 0} → Option A → Option A → Type 0
Same {A} o p = (x y : A) → o ≡ Some x → p ≡ Some y → x ≡ y

itself : {A : Type 0} (o : Option A) → Same o o
itself o x y h k = same_Some x y (sym h ∙ k)

along : {A : Type 0} {o o2 p p2 : Option A} → o ≡ o2 → p ≡ p2 → Same o2 p2 → Same o p
along i j same x y h k = same x y (sym i ∙ h) (sym j ∙ k)

same-after : {A B : Type 0} (o p : Option A) (f g : A → Option B) → Same o p → ((x : A) → Same (f x) (g x)) → Same (after o f) (after p g)
same-after None p f g same rest x y h k = absurd (cc (h))
same-after (Some a) None f g same rest x y h k = absurd (cc (k))
same-after (Some a) (Some b) f g same rest x y h k = rest a x y h (subst (λ z. g z ≡ Some y) (sym (same a b refl refl)) k)

-- the same is made of the same part
of-same : {A B : Type 0} (o p : Option A) (f : A → Option B) → Same o p → Same (after o f) (after p f)
of-same o p f same = same-after o p f f same (λ x. itself (f x))

abbrev Alike : Expr → Type 0
Alike a = (s s2 : Scope) → AgreeBoth s s2 → Same (made a s) (made a s2)

each-alike : (es : List Expr) → Each Alike es → (s s2 : Scope) → AgreeBoth s s2 → Same (all_there s (map made es)) (all_there s2 (map made es))
each-alike [] d s s2 g = itself (Some [])
each-alike (a ∷ es) d s s2 g =
    same-after (made a s) (made a s2) _ _ (d.0 s s2 g)
    (λ x. of-same (all_there s (map made es)) (all_there s2 (map made es)) (λ xs. Some (x ∷ xs)) (each-alike es d.1 s s2 g))

whens-alike : (ws : List WhenText) → Each (InWhen Alike) ws → (s s2 : Scope) → AgreeBoth s s2
    → Same (all_there s (map q.made_when ws)) (all_there s2 (map q.made_when ws))
whens-alike [] d s s2 g = itself (Some [])
whens-alike (w ∷ ws) d s s2 g =
    same-after (q.made_when w s) (q.made_when w s2) _ _
    (along (q.made-when w s) (q.made-when w s2)
    (same-after (made w.cond s) (made w.cond s2) _ _ (d.0.0 s s2 g)
    (λ x. of-same (made w.result s) (made w.result s2) (λ y. Some (typed_when x y)) (d.0.1 s s2 g))))
    (λ y. of-same (all_there s (map q.made_when ws)) (all_there s2 (map q.made_when ws)) (λ ys. Some (y ∷ ys)) (whens-alike ws d.1 s s2 g))

perhaps-alike : (a : Option Expr) → IfThere Alike a → (s s2 : Scope) → AgreeBoth s s2
    → Same (perhaps_there s (perhaps_folded made a)) (perhaps_there s2 (perhaps_folded made a))
perhaps-alike None d s s2 g = itself (Some None)
perhaps-alike (Some a) d s s2 g = of-same (made a s) (made a s2) (λ x. Some (Some x)) (d s s2 g)

name-alike : (os ps : List Meaning) → ((o p : Meaning) → os ≡ o ∷ [] → ps ≡ p ∷ [] → o ≡ p) → Same (name_tree os) (name_tree ps)
name-alike (o ∷ []) (p ∷ []) same x y h k =
    sym (same_Some _ _ h) ∙ ap (λ (v : Meaning). of (Some v.1) v.0) (same o p refl refl) ∙ same_Some _ _ k
name-alike [] ps same x y h k = absurd (cc (h))
name-alike (o ∷ o2 ∷ os) ps same x y h k = absurd (cc (h))
name-alike (o ∷ []) [] same x y h k = absurd (cc (k))
name-alike (o ∷ []) (p ∷ p2 ∷ ps) same x y h k = absurd (cc (k))

-- the scopes of the arguments of a function
within-both : (b : Bool) (s s2 : Scope) → AgreeBoth s s2 → AgreeBoth (seen (not b && s.windowed) s) (seen (not b && s2.windowed) s2)
within-both true s s2 g = record { here = g.within; within = g.within }
within-both false s s2 g = g

steps : Steps Alike
steps = record {
  digits = λ number s s2 g. along (q.made-Digits number s) (q.made-Digits number s2) (itself (literal_tree (digits_value number)));
  text = λ content s s2 g. along (q.made-Text content s) (q.made-Text content s2) (itself (literal_tree (value.Txt content)));
  truth = λ b s s2 g. along (q.made-Truth b s) (q.made-Truth b s2) (itself (literal_tree (value.Bool b)));
  null = λ s s2 g. along (q.made-Null s) (q.made-Null s2) (itself (literal_tree value.Null));
  name = λ qualifier name s s2 g. along (q.made-Name qualifier name s) (q.made-Name qualifier name s2)
      (name-alike (meanings s qualifier name) (meanings s2 qualifier name) (g.here qualifier name));
  sign = λ minus a d s s2 g. along (q.made-Sign minus a s) (q.made-Sign minus a s2)
      (of-same (made a s) (made a s2) (m.sign_tree minus) (d s s2 g));
  binary = λ o a b d d2 s s2 g. along (q.made-Binary o a b s) (q.made-Binary o a b s2)
      (same-after (made a s) (made a s2) _ _ (d s s2 g) (λ x. of-same (made b s) (made b s2) (m.binary_tree o x) (d2 s s2 g)));
  not = λ a d s s2 g. along (q.made-Not a s) (q.made-Not a s2) (of-same (made a s) (made a s2) m.not_tree (d s s2 g));
  is_null = λ n a d s s2 g. along (q.made-IsNull n a s) (q.made-IsNull n a s2)
      (of-same (made a s) (made a s2) (m.is_null_tree n) (d s s2 g));
  between = λ n a b c d d2 d3 s s2 g. along (q.made-Between n a b c s) (q.made-Between n a b c s2)
      (same-after (made a s) (made a s2) _ _ (d s s2 g)
      (λ x. same-after (made b s) (made b s2) _ _ (d2 s s2 g) (λ y. of-same (made c s) (made c s2) (m.between_tree n x y) (d3 s s2 g))));
  one_of = λ n a es d d2 s s2 g. along (q.made-OneOf n a es s) (q.made-OneOf n a es s2)
      (same-after (made a s) (made a s2) _ _ (d s s2 g)
      (λ x. of-same (all_there s (map made es)) (all_there s2 (map made es)) (m.one_of_tree n x) (each-alike es d2 s s2 g)));
  like = λ n a pattern d s s2 g. along (q.made-Like n a pattern s) (q.made-Like n a pattern s2)
      (of-same (made a s) (made a s2) (m.like_tree n pattern) (d s s2 g));
  cast = λ a to d s s2 g. along (q.made-Cast a to s) (q.made-Cast a to s2) (of-same (made a s) (made a s2) (m.cast_tree to) (d s s2 g));
  case = λ a ws b d d2 d3 s s2 g. along (q.made-Case a ws b s) (q.made-Case a ws b s2)
      (same-after (perhaps_there s (perhaps_folded made a)) (perhaps_there s2 (perhaps_folded made a)) _ _ (perhaps-alike a d s s2 g)
      (λ x. same-after (all_there s (map q.made_when ws)) (all_there s2 (map q.made_when ws)) _ _ (whens-alike ws d2 s s2 g)
      (λ ys. of-same (perhaps_there s (perhaps_folded made b)) (perhaps_there s2 (perhaps_folded made b)) (m.case_tree x ys) (perhaps-alike b d3 s s2 g))));
  call = λ f star es d s s2 g. along (q.made-Call f star es s) (q.made-Call f star es s2)
      (of-same (all_there (scope_within f s) (map made es)) (all_there (scope_within f s2) (map made es)) (named_tree (aggregate_of f) (function_of f) star)
      (each-alike es d (scope_within f s) (scope_within f s2) (within-both (is_aggregate f) s s2 g)));
}

pub one-across : (s s2 : Scope) → AgreeBoth s s2 → (a : Expr) (x y : Typed) → IsTypedTree s a x → IsTypedTree s2 a y → x ≡ y
one-across s s2 g a x y h k = induction Alike steps a s s2 g x y (tree-made s a x h) (tree-made s2 a y k)
