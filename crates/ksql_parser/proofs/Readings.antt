-- What was read where a sign or a reserved word stands.
use Rattle.std.proofs.Common.{◌≡◌, List, ◌∷◌, Option, Some, Err, sym, ap, ◌∙◌}
use Rattle.std.specs.Borrow.{Bor}
use Rattle.std.proofs.lemmas.Option.{none-some, same_Some}
use Rattle.ksql_lexer.specs.declared.token.Mark.{Mark}
use Rattle.ksql_grammar.specs.declared.symbol.Keyword.{Keyword}
use Rattle.ksql_grammar.specs.declared.symbol.Symbol.{Symbol}
use Rattle.ksql_grammar.specs.declared.symbol.Symbol.TheVariants.{Key, Sign}
use Rattle.ksql_grammar.specs.declared.fault.ReadError.{ReadError}
use Rattle.ksql_grammar.specs.Reading.{Gives}
use Rattle.ksql_grammar.specs.Expressions.{after_key, after_sign}
use Rattle.ksql_grammar.proofs.Errors.{gives_err}
use Rattle.ksql_grammar.proofs.Steps.{key_there, sign_there}

pub sign_read : (m : Mark) (ts us vs : List Symbol) → ts ≡ Sign m ∷ us → after_sign m ts ≡ Some vs → us ≡ vs
sign_read m ts us vs e h = same_Some us vs (sym (ap (after_sign m) e ∙ sign_there m us) ∙ h)

pub key_read : (k : Keyword) (ts us vs : List Symbol) → ts ≡ Key k ∷ us → after_key k ts ≡ Some vs → us ≡ vs
key_read k ts us vs e h = same_Some us vs (sym (ap (after_key k) e ∙ key_there k us) ∙ h)

-- a call that failed although it could read failed out of memory
pub unread : {X Y Z W : Type 0} (seen : X → Y) (view : Z → W) (e : ReadError) (o : Option Y) (x : Y) (y : W) → o ≡ Some x → Gives seen (Err e) o → Gives view (Err e) (Some y)
unread seen view e o x y k h = gives_err seen view e o (Some y) h (λ none. absurd (none-some x (sym none ∙ k)))

pub sign_unread : {Z W : Type 0} (view : Z → W) (e : ReadError) (m : Mark) (ts us : List Symbol) (y : W) → ts ≡ Sign m ∷ us
    → Gives (λ (rest : Bor (List Symbol)). rest.now) (Err e) (after_sign m ts) → Gives view (Err e) (Some y)
sign_unread view e m ts us y k h = unread (λ (rest : Bor (List Symbol)). rest.now) view e (after_sign m ts) us y (ap (after_sign m) k ∙ sign_there m us) h

pub key_unread : {Z W : Type 0} (view : Z → W) (e : ReadError) (k : Keyword) (ts us : List Symbol) (y : W) → ts ≡ Key k ∷ us
    → Gives (λ (rest : Bor (List Symbol)). rest.now) (Err e) (after_key k ts) → Gives view (Err e) (Some y)
key_unread view e k ts us y l h = unread (λ (rest : Bor (List Symbol)). rest.now) view e (after_key k ts) us y (ap (after_key k) l ∙ key_there k us) h
