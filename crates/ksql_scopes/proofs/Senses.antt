-- What a name stands for, given the parts of a scope.
use Rattle.std.proofs.Common.{◌≡◌, ℕ, suc, true, false, if◌then◌else◌, List, [], ◌∷◌, ◌++◌, Option, Some, None, refl, ap, sym, ◌∙◌}
use Rattle.ksql_expr.specs.declared.typed.TypedNode.TheVariants as n
use Rattle.ksql_scopes.specs.declared.scope.ScopeColumn.{ScopeColumn}
use Rattle.ksql_scopes.specs.Senses.{sense, both}
use Rattle.ksql_scopes.specs.Scope.{Meaning, columns_known_as, is_known_as}

pub both-assoc : (a b c : Option (Option Meaning)) → both (both a b) c ≡ both a (both b c)
both-assoc None b c = refl
both-assoc (Some a) None c = refl
both-assoc (Some a) (Some b) None = refl
both-assoc (Some a) (Some b) (Some c) = refl

pub both-none : (a : Option (Option Meaning)) → both a None ≡ a
both-none None = refl
both-none (Some a) = refl

pub sense-more : (m : Meaning) (ms : List Meaning) → sense (m ∷ ms) ≡ both (Some (Some m)) (sense ms)
sense-more m [] = refl
sense-more m (o ∷ []) = refl
sense-more m (o ∷ p ∷ ms) = refl

pub sense-append : (ms os : List Meaning) → sense (ms ++ os) ≡ both (sense ms) (sense os)
sense-append [] os = refl
sense-append (m ∷ ms) os =
    sense-more m (ms ++ os) ∙ ap (both (Some (Some m))) (sense-append ms os)
    ∙ sym (both-assoc (Some (Some m)) (sense ms) (sense os)) ∙ ap (λ x. both x (sense os)) (sym (sense-more m ms))

-- what stands for either: what was found, and the remaining columns
abbrev pub with_rest : Option (List ℕ) → List ℕ → Option (Option Meaning) → ℕ → List ScopeColumn → Option (Option Meaning)
with_rest q name found i cs = both found (sense (columns_known_as q name i cs))

pub rest-known : (q : Option (List ℕ)) (name : List ℕ) (found : Option (Option Meaning)) (i : ℕ) (c : ScopeColumn) (cs : List ScopeColumn)
    → is_known_as q name c ≡ true
    → with_rest q name (both found (Some (Some (n.Column i, c.column.ty)))) (suc i) cs ≡ with_rest q name found i (c ∷ cs)
rest-known q name found i c cs h =
    let m : Meaning = (n.Column i, c.column.ty) in
    both-assoc found (Some (Some m)) (sense (columns_known_as q name (suc i) cs))
    ∙ ap (both found) (sym (sense-more m (columns_known_as q name (suc i) cs)))
    ∙ ap (λ b. both found (sense (if b then m ∷ columns_known_as q name (suc i) cs else columns_known_as q name (suc i) cs))) (sym h)

pub rest-other : (q : Option (List ℕ)) (name : List ℕ) (found : Option (Option Meaning)) (i : ℕ) (c : ScopeColumn) (cs : List ScopeColumn)
    → is_known_as q name c ≡ false
    → with_rest q name found (suc i) cs ≡ with_rest q name found i (c ∷ cs)
rest-other q name found i c cs h =
    let m : Meaning = (n.Column i, c.column.ty) in
    ap (λ b. both found (sense (if b then m ∷ columns_known_as q name (suc i) cs else columns_known_as q name (suc i) cs))) (sym h)
