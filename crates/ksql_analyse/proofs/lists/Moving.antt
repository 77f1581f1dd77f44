-- A property of some things holds of equal ones.
use Rattle.std.proofs.Common.{◌≡◌, subst}

pub moved : {A B C : Type 0} (P : A → B → C → Type 0) (a d : A) (b e : B) (c f : C) → a ≡ d → b ≡ e → c ≡ f → P a b c → P d e f
moved {A} {B} {C} P a d b e c f h k l p =
    subst (λ (z : C). P d e z) l (subst (λ (y : B). P d y c) k (subst (λ (x : A). P x b c) h p))

pub moved-two : {A B : Type 0} (P : A → B → Type 0) (a c : A) (b d : B) → a ≡ c → b ≡ d → P a b → P c d
moved-two {A} {B} P a c b d h k p = subst (λ (y : B). P c y) k (subst (λ (x : A). P x b) h p)
