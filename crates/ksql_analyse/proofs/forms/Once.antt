-- Expressions each once: all are among them, and each has a place.
use Rattle.std.proofs.Common.{◌≡◌, ℕ, suc, ◌+◌, arith, Bool, true, false, ◌||◌, if◌then◌else◌, List, [], ◌∷◌, ◌++◌, Some, refl, ap, ◌∙◌, subst}
use Rattle.std.specs.Prelude.{slice_get}
use Rattle.std.specs.List.{list_any, flat_map, AllByRecursion as Each}
use Rattle.std.proofs.lemmas.List.Folds.{list_any-append}
use Rattle.std.proofs.lemmas.Option.{same_Some}
use Rattle.expression_trees.specs.declared.tree.Expr.{Expr}
use Rattle.aggregate_rules.specs.Grouping.{add_once, once_from, place_from}
use Rattle.expression_trees.specs.Same.{same_expr}
use Rattle.std.proofs.lemmas.Bool.{or_left, or_right}
use Rattle.expression_trees.proofs.Equality.{equal, same}
use Rattle.ksql_analyse.proofs.sound.SoundTrees.{each-front, each-behind}
use Rattle.ksql_analyse.proofs.forms.Bearing.{some}

-- an expression is one of some
abbrev pub IsAmong : List Expr → Expr → Type 0
IsAmong es a = list_any (λ o. same_expr o a) es ≡ true

-- found from the other side
turned : (a : Expr) (es : List Expr) → list_any (same_expr a) es ≡ true → IsAmong es a
turned a [] h = absurd (cc (h))
turned a (o ∷ es) h = at (same_expr a o) refl h (turned a es)
  where
    at : (b : Bool) → same_expr a o ≡ b → (b || list_any (same_expr a) es) ≡ true → (list_any (same_expr a) es ≡ true → IsAmong es a) → IsAmong (o ∷ es) a
    at true e k rest =
        or_left (same_expr o a) (list_any (λ p. same_expr p a) es) (subst (λ z. same_expr z a ≡ true) (equal a o e) (same a a refl))
    at false e k rest = or_right (same_expr o a) (list_any (λ p. same_expr p a) es) (rest k)

add-keeps : (found : List Expr) (a g : Expr) → IsAmong found g → IsAmong (add_once found a) g
add-keeps found a g h = at (list_any (same_expr a) found)
  where
    at : (b : Bool) → IsAmong (if b then found else found ++ a ∷ []) g
    at true = h
    at false = list_any-append (λ o. same_expr o g) found (a ∷ []) ∙ or_left (list_any (λ o. same_expr o g) found) (same_expr a g || false) h

add-has : (found : List Expr) (a : Expr) → IsAmong (add_once found a) a
add-has found a = at (list_any (same_expr a) found) refl
  where
    at : (b : Bool) → list_any (same_expr a) found ≡ b → IsAmong (if b then found else found ++ a ∷ []) a
    at true e = turned a found e
    at false e =
        list_any-append (λ o. same_expr o a) found (a ∷ [])
        ∙ or_right (list_any (λ o. same_expr o a) found) (same_expr a a || false) (or_left (same_expr a a) false (same a a refl))

once-keeps : (xs found : List Expr) (g : Expr) → IsAmong found g → IsAmong (once_from found xs) g
once-keeps [] found g h = h
once-keeps (a ∷ xs) found g h = once-keeps xs (add_once found a) g (add-keeps found a g h)

pub once-has : (xs found : List Expr) → Each (IsAmong (once_from found xs)) xs
once-has [] found = tt
once-has (a ∷ xs) found = (once-keeps xs (add_once found a) a (add-has found a), once-has xs (add_once found a))

-- what holds of each
pub once-each : (P : Expr → Type 0) (xs found : List Expr) → Each P found → Each P xs → Each P (once_from found xs)
once-each P [] found k h = k
once-each P (a ∷ xs) found k h = once-each P xs (add_once found a) (at (list_any (same_expr a) found)) h.1
  where
    pushed : (es : List Expr) → Each P es → Each P (es ++ a ∷ [])
    pushed [] l = (h.0, tt)
    pushed (o ∷ es) l = (l.0, pushed es l.1)

    at : (b : Bool) → Each P (if b then found else found ++ a ∷ [])
    at true = k
    at false = pushed found k

-- there are some where there were some
once-kept : (xs found : List Expr) → some found ≡ true → some (once_from found xs) ≡ true
once-kept [] found h = h
once-kept (a ∷ xs) found h = once-kept xs (add_once found a) (at (list_any (same_expr a) found) found h)
  where
    at : (b : Bool) (es : List Expr) → some es ≡ true → some (if b then es else es ++ a ∷ []) ≡ true
    at true es k = k
    at false [] k = absurd (cc (k))
    at false (o ∷ es) k = refl

pub once-some : (xs : List Expr) → some xs ≡ true → some (once_from [] xs) ≡ true
once-some [] h = absurd (cc (h))
once-some (a ∷ xs) h = once-kept xs (a ∷ []) refl

-- of what several expressions give
pub each-flat-of : {A B : Type 0} (P : B → Type 0) (f : A → List B) (xs : List A) → Each P (flat_map f xs) → Each (λ x. Each P (f x)) xs
each-flat-of P f [] h = tt
each-flat-of P f (x ∷ xs) h = (each-front P (f x) (flat_map f xs) h, each-flat-of P f xs (each-behind P (f x) (flat_map f xs) h))

-- ---- places

pub place-found : (es : List Expr) (a : Expr) (number : ℕ) → IsAmong es a → (place : ℕ) × (place_from number es a ≡ Some place)
place-found [] a number h = absurd (cc (h))
place-found (o ∷ es) a number h = at (same_expr o a) refl h (place-found es a (suc number))
  where
    at : (b : Bool) → same_expr o a ≡ b → (b || list_any (λ p. same_expr p a) es) ≡ true → (IsAmong es a → (place : ℕ) × (place_from (suc number) es a ≡ Some place))
        → (place : ℕ) × (place_from number (o ∷ es) a ≡ Some place)
    at true e k rest = (number, ap (λ b. if b then Some number else place_from (suc number) es a) e)
    at false e k rest = let r = rest k in (r.0, ap (λ b. if b then Some number else place_from (suc number) es a) e ∙ r.1)

pub place-at : (es : List Expr) (a : Expr) (number place : ℕ) → place_from number es a ≡ Some place → (j : ℕ) × (place ≡ number + j) × (slice_get es j ≡ Some a)
place-at [] a number place h = absurd (cc (h))
place-at (o ∷ es) a number place h = at (same_expr o a) refl h (place-at es a (suc number) place)
  where
    at : (b : Bool) → same_expr o a ≡ b → (if b then Some number else place_from (suc number) es a) ≡ Some place
        → (place_from (suc number) es a ≡ Some place → (j : ℕ) × (place ≡ suc number + j) × (slice_get es j ≡ Some a))
        → (j : ℕ) × (place ≡ number + j) × (slice_get (o ∷ es) j ≡ Some a)
    at true e k rest = let z : number ≡ place = same_Some number place k in (0, omega arith, ap Some (equal o a e))
    at false e k rest = let r = rest k in (suc r.0, omega (arith, r.1), r.2)
