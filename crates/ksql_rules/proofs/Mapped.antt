-- What is asked of references is asked of what they refer to.
use Rattle.std.proofs.Common.{◌≡◌, Bool, ◌||◌, ◌++◌, List, map, Bor, [], ◌∷◌, refl, ap, sym, ◌∙◌}
use Rattle.std.specs.List.{list_any}
use Rattle.std.proofs.lemmas.List.Folds.{list_any-append}
use Rattle.expression_trees.specs.declared.tree.Expr.{Expr}

any-map : {A B : Type 0} (p : B → Bool) (f : A → B) (xs : List A) → list_any p (map f xs) ≡ list_any (λ x. p (f x)) xs
any-map p f [] = refl
any-map p f (x ∷ xs) = ap (λ b. p (f x) || b) (any-map p f xs)

-- one of some borrowed expressions passes
pub lent : (p : Expr → Bool) (xs : List (Bor Expr)) (es : List Expr) → map (λ a. a.now) xs ≡ es → list_any (λ a. p a.now) xs ≡ list_any p es
lent p xs es h = sym (any-map p (λ (a : Bor Expr). a.now) xs) ∙ ap (list_any p) h

-- one of some parts, or one of others, passes
pub parts : {A B : Type 0} (p : B → Bool) (f : A → B) (xs : List A) (ys : List B)
    → list_any p (map f xs ++ ys) ≡ (list_any (λ x. p (f x)) xs || list_any p ys)
parts p f xs ys = list_any-append p (map f xs) ys ∙ ap (λ b. b || list_any p ys) (any-map p f xs)
