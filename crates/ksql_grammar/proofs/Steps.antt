-- Readers that find what is there: each step says what comes first.
use Rattle.std.proofs.Common.{◌≡◌, ℕ, Bool, true, false, cond, List, [], ◌∷◌, Option, Some, None, refl, sym, ap, ap₂, ◌∙◌, subst}
use Rattle.std.proofs.lemmas.Option.{none-some, same_Some}
use denote.Enum.Bare.{sameb, same_true, true_same}
use Rattle.ksql_lexer.specs.declared.token.Mark.{Mark}
use Rattle.ksql_lexer.specs.contracts.token.Mark.{the_type as the_mark}
use Rattle.ksql_grammar.specs.declared.symbol.Keyword.{Keyword}
use Rattle.ksql_grammar.specs.contracts.symbol.Keyword.{the_type as the_keyword}
use Rattle.ksql_grammar.specs.declared.symbol.Symbol.{Symbol}
use Rattle.ksql_grammar.specs.declared.symbol.Symbol.TheVariants.{Key, Word, Quoted, Text, Number, Sign}
use Rattle.ksql_grammar.specs.Expressions.{after_key, after_sign, first}
use Rattle.expression_trees.specs.Options.{◌>>=◌}

-- what is read, if anything is
abbrev pub If : {A : Type 0} → Option A → (A → Type 0) → Type 0
If None P = Unit {0}
If (Some x) P = P x

pub if_bind : {A B : Type 0} (o : Option A) (f : A → Option B) (P : A → Type 0) (Q : B → Type 0) → If o P → ((x : A) → P x → If (f x) Q) → If (o >>= f) Q
if_bind None f P Q h k = tt
if_bind (Some x) f P Q h k = k x h

pub if_some : {A : Type 0} (o : Option A) (P : A → Type 0) (x : A) → If o P → o ≡ Some x → P x
if_some None P x h e = absurd (none-some x e)
if_some (Some y) P x h e = subst P (same_Some y x e) h

pub if_weaker : {A : Type 0} (o : Option A) (P Q : A → Type 0) → If o P → ((x : A) → P x → Q x) → If o Q
if_weaker None P Q h k = tt
if_weaker (Some x) P Q h k = k x h

pub if_from : {A : Type 0} (o : Option A) (P : A → Type 0) → ((x : A) → o ≡ Some x → P x) → If o P
if_from None P k = tt
if_from (Some x) P k = k x refl

-- the first of a choice
pub if_cond : {A : Type 0} (b : Bool) (x : A) (P : A → Type 0) → (b ≡ true → P x) → If (cond b (Some x) None) P
if_cond true x P k = k refl
if_cond false x P k = tt

pub key_found : (k : Keyword) (ts : List Symbol) → If (after_key k ts) (λ us. ts ≡ Key k ∷ us)
unfolding after_key
key_found k [] = tt
key_found k (Key found ∷ ts) = if_cond (sameb the_keyword found k) ts _ (λ e. ap (λ x. Key x ∷ ts) (same_true the_keyword tt found k e))
key_found k (_ ∷ ts) = tt

pub sign_found : (m : Mark) (ts : List Symbol) → If (after_sign m ts) (λ us. ts ≡ Sign m ∷ us)
unfolding after_sign
sign_found m [] = tt
sign_found m (Sign found ∷ ts) = if_cond (sameb the_mark found m) ts _ (λ e. ap (λ x. Sign x ∷ ts) (same_true the_mark tt found m e))
sign_found m (_ ∷ ts) = tt

pub key_there : (k : Keyword) (ts : List Symbol) → after_key k (Key k ∷ ts) ≡ Some ts
unfolding after_key
key_there k ts = ap (λ b. cond b (Some ts) None) (true_same the_keyword k k refl)

pub sign_there : (m : Mark) (ts : List Symbol) → after_sign m (Sign m ∷ ts) ≡ Some ts
unfolding after_sign
sign_there m ts = ap (λ b. cond b (Some ts) None) (true_same the_mark m m refl)

-- the first symbol, and its value
pub first_found : {A : Type 0} (of : Symbol → Option A) (ts : List Symbol) → If (first of ts) (λ x. (s : Symbol) × (ts ≡ s ∷ x.1) × (of s ≡ Some x.0))
unfolding first
first_found of [] = tt
first_found of (s ∷ ts) = if_bind (of s) _ (λ x. of s ≡ Some x) _ (if_from (of s) _ (λ x e. e)) (λ x e. (s, refl, e))

pub first_there : {A : Type 0} (of : Symbol → Option A) (s : Symbol) (ts : List Symbol) (x : A) → of s ≡ Some x → first of (s ∷ ts) ≡ Some (x, ts)
unfolding first
first_there of s ts x e = ap (λ o. o >>= λ y. Some (y, ts)) e
