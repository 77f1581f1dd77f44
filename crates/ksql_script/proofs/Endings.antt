-- Where what is spelled at the start of some symbols ends: at one place, or nowhere.
use Rattle.std.proofs.Common.{◌≡◌, List, ◌∷◌, Option, Some, None, refl, sym, ap, ◌∙◌, subst}
use Rattle.std.proofs.lemmas.Option.{none-some, same_Some, some_pair_parts}
use Rattle.ksql_lexer.specs.declared.token.Mark.{Mark}
use Rattle.ksql_grammar.specs.declared.symbol.Keyword.{Keyword}
use Rattle.ksql_grammar.specs.declared.symbol.Keyword.TheVariants as key
use Rattle.ksql_grammar.specs.declared.symbol.Symbol.{Symbol}
use Rattle.ksql_grammar.specs.declared.symbol.Symbol.TheVariants.{Key, Sign}
use Rattle.ksql_grammar.specs.Grammar.{Phrase as PhraseExpr, Spells as SpellsExpr}
use Rattle.ksql_parser.specs.Grammar.{Phrase, Spells}
use Rattle.ksql_grammar.specs.Expressions.{after_key, after_sign}
use Rattle.ksql_parser.specs.Statements.{after_by}
use Rattle.ksql_parser.proofs.Steps.{by_found}
use Rattle.ksql_grammar.proofs.Steps.{if_some, key_found, key_there, sign_found, sign_there}

-- S ends at this place, and at no other after which stands what C says; or at none of those
pub data Settled (S C : List Symbol → Type 0) : Type 0 where
  ends : (us : List Symbol) → S us → ((vs : List Symbol) → S vs → C vs → vs ≡ us) → Settled S C
  fails : ((vs : List Symbol) → S vs → C vs → ⊥) → Settled S C

-- anything may follow
abbrev pub Always : List Symbol → Type 0
Always us = Unit {0}

-- a phrase is spelled up to there
abbrev pub Spelt : {A : Type 0} → (A → Phrase) → List Symbol → List Symbol → Type 0
Spelt {A} phrase ts us = (a : A) × Spells (phrase a) ts us

-- a phrase of expressions is
abbrev pub SpeltExpr : {A : Type 0} → (A → PhraseExpr) → List Symbol → List Symbol → Type 0
SpeltExpr {A} phrase ts us = (a : A) × SpellsExpr (phrase a) ts us

-- where a reader says it
pub settled_read : {A : Type 0} {C : List Symbol → Type 0} (read : Option (A × List Symbol)) (P : A → List Symbol → Type 0)
    → ((x : A × List Symbol) → read ≡ Some x → P x.0 x.1) → ((a : A) (us : List Symbol) → P a us → C us → read ≡ Some (a, us))
    → Settled (λ us. (a : A) × P a us) C
settled_read {A} {C} read P found only = at read refl
  where
    at : (o : Option (A × List Symbol)) → read ≡ o → Settled (λ us. (a : A) × P a us) C
    at None e = fails (λ vs s c. none-some (s.0, vs) (sym e ∙ only s.0 vs s.1 c))
    at (Some x) e = ends x.1 (x.0, found x e) (λ vs s c. (some_pair_parts s.0 x.0 vs x.1 (sym (only s.0 vs s.1 c) ∙ e)).1)

-- up to where a reader reads
pub settled_given : {A : Type 0} {C : List Symbol → Type 0} (read : Option (A × List Symbol)) → Settled (λ us. (a : A) × (read ≡ Some (a, us))) C
settled_given read = settled_read read (λ a us. read ≡ Some (a, us)) (λ x e. e) (λ a us e c. e)

-- by another that ends there
pub settled_as : {S T C D : List Symbol → Type 0} → Settled S C → ((us : List Symbol) → S us → T us)
    → ((us : List Symbol) → T us → D us → S us × C us) → Settled T D
settled_as (ends us s only) to from = ends us (to us s) (λ vs t d. let h = from vs t d in only vs h.0 h.1)
settled_as (fails none) to from = fails (λ vs t d. let h = from vs t d in none vs h.0 h.1)

-- by one in front and another after it
module _ {S C R D : List Symbol → Type 0} (T : List Symbol → List Symbol → Type 0) (to : (us vs : List Symbol) → S us → T us vs → R vs)
    (from : (vs : List Symbol) → R vs → D vs → (us : List Symbol) × S us × C us × T us vs) where
  after_front : (us : List Symbol) → S us → ((vs : List Symbol) → S vs → C vs → vs ≡ us) → Settled (T us) D → Settled R D
  after_front us s only (ends vs t last) =
      ends vs (to us vs s t) (λ ws r d. let h = from ws r d in last ws (subst (λ l. T l ws) (only h.0 h.1 h.2) h.3) d)
  after_front us s only (fails none) =
      fails (λ ws r d. let h = from ws r d in none ws (subst (λ l. T l ws) (only h.0 h.1 h.2) h.3) d)

  pub settled_by : Settled S C → ((us : List Symbol) → S us → Settled (T us) D) → Settled R D
  settled_by (ends us s only) next = after_front us s only (next us s)
  settled_by (fails none) next = fails (λ ws r d. let h = from ws r d in none h.0 h.1 h.2)

-- as it stands, where the second says what follows the first
pub settled_then : {S C D : List Symbol → Type 0} (T : List Symbol → List Symbol → Type 0) → Settled S C → ((us : List Symbol) → Settled (T us) D)
    → ((us vs : List Symbol) → T us vs → D vs → C us) → Settled (λ vs. (us : List Symbol) × S us × T us vs) D
settled_then T first next back = settled_by T (λ us vs s t. (us, s, t)) (λ vs h d. (h.0, h.1, back h.0 vs h.2 d, h.2)) first (λ us s. next us)

-- after a reserved word, a sign or a word and BY
pub key_here : (k : Keyword) (ts us : List Symbol) → after_key k ts ≡ Some us → ts ≡ Key k ∷ us
key_here k ts us e = if_some (after_key k ts) (λ us. ts ≡ Key k ∷ us) us (key_found k ts) e

pub sign_here : (m : Mark) (ts us : List Symbol) → after_sign m ts ≡ Some us → ts ≡ Sign m ∷ us
sign_here m ts us e = if_some (after_sign m ts) (λ us. ts ≡ Sign m ∷ us) us (sign_found m ts) e

pub by_here : (k : Keyword) (ts us : List Symbol) → after_by k ts ≡ Some us → ts ≡ Key k ∷ Key key.By ∷ us
by_here k ts us e = if_some (after_by k ts) (λ us. ts ≡ Key k ∷ Key key.By ∷ us) us (by_found k ts) e

one_symbol : {C : List Symbol → Type 0} (s : Symbol) (ts : List Symbol) (o : Option (List Symbol)) → ((us : List Symbol) → o ≡ Some us → ts ≡ s ∷ us)
    → ((us : List Symbol) → ts ≡ s ∷ us → o ≡ Some us) → Settled (λ us. ts ≡ s ∷ us) C
one_symbol s ts None here there = fails (λ vs e c. none-some vs (there vs e))
one_symbol s ts (Some us) here there = ends us (here us refl) (λ vs e c. sym (same_Some us vs (there vs e)))

pub some_key : {C : List Symbol → Type 0} (k : Keyword) (ts : List Symbol) → Settled (λ us. ts ≡ Key k ∷ us) C
some_key k ts = one_symbol (Key k) ts (after_key k ts) (key_here k ts) (λ us e. ap (after_key k) e ∙ key_there k us)

pub some_sign : {C : List Symbol → Type 0} (m : Mark) (ts : List Symbol) → Settled (λ us. ts ≡ Sign m ∷ us) C
some_sign m ts = one_symbol (Sign m) ts (after_sign m ts) (sign_here m ts) (λ us e. ap (after_sign m) e ∙ sign_there m us)
