-- Readers that find what is there: each step says what comes first.
use Rattle.std.proofs.Common.{◌≡◌, ℕ, Bool, true, false, cond, List, [], ◌∷◌, Option, Some, None, Result, Ok, Err, refl, sym, ap, ◌∙◌, subst}
use Rattle.std.specs.Borrow.{Bor}
use Rattle.std.specs.Option.{option_copied}
use Rattle.std.specs.Str.{bytes_eq}
use Rattle.std.proofs.lemmas.Option.{none-some, same_Some}
use Rattle.std.proofs.lemmas.Slice.Eq.{bytes_eq-Decides}
use denote.Enum.Bare.{sameb, same_true, true_same}
use Rattle.ksql_lexer.specs.declared.token.Mark.{Mark}
use Rattle.ksql_lexer.specs.contracts.token.Mark.{the_type as the_mark}
use Rattle.ksql_grammar.specs.declared.symbol.Keyword.{Keyword}
use Rattle.ksql_grammar.specs.declared.symbol.Keyword.TheVariants as key
use Rattle.ksql_grammar.specs.contracts.symbol.Keyword.{the_type as the_keyword}
use Rattle.ksql_grammar.specs.declared.symbol.Symbol.{Symbol}
use Rattle.ksql_grammar.specs.declared.symbol.Symbol.TheVariants.{Key, Word, Quoted, Text, Number, Sign}
use Rattle.ksql_grammar.specs.declared.fault.ReadError.{ReadError}
use Rattle.ksql_grammar.specs.declared.fault.ReadError.TheVariants.{Unspelled, OutOfMemory}
use Rattle.ksql_parser.specs.Grammar.{Phrase, Spells}
use Rattle.ksql_grammar.specs.Reading.{Gives, with_rest}
use Rattle.ksql_grammar.specs.Expressions.{Reader, after_key, after_sign, first}
use Rattle.expression_trees.specs.Options.{◌>>=◌}
use Rattle.ksql_grammar.proofs.Steps.{If, if_bind, if_some, if_weaker, if_cond, key_found}
use Rattle.ksql_parser.specs.Statements.{after_word, after_words, after_by}

pub behind : {p : Phrase} {ts us rest : List Symbol} → ts ≡ us → Spells p us rest → Spells p ts rest
behind {p = p} {rest = rest} e d = subst (λ ts. Spells p ts rest) (sym e) d

pub along : {p : Phrase} {ts us vs : List Symbol} → Spells p ts us → us ≡ vs → Spells p ts vs
along {p = p} {ts = ts} d e = subst (λ us. Spells p ts us) e d

pub word_found : (w : List ℕ) (ts : List Symbol) → If (after_word w ts) (λ us. ts ≡ Word w ∷ us)
unfolding after_word
word_found w [] = tt
word_found w (Word found ∷ ts) = if_cond (bytes_eq found w) ts _ (λ e. ap (λ x. Word x ∷ ts) ((bytes_eq-Decides found w).0 e))
word_found w (_ ∷ ts) = tt

pub words_found : (v w : List ℕ) (ts : List Symbol) → If (after_words v w ts) (λ us. ts ≡ Word v ∷ Word w ∷ us)
unfolding after_words
words_found v w ts =
    if_bind (after_word v ts) _ (λ us. ts ≡ Word v ∷ us) _ (word_found v ts) (λ us h.
    if_weaker (after_word w us) (λ vs. us ≡ Word w ∷ vs) _ (word_found w us) (λ vs k. h ∙ ap (λ x. Word v ∷ x) k))

pub by_found : (k : Keyword) (ts : List Symbol) → If (after_by k ts) (λ us. ts ≡ Key k ∷ Key key.By ∷ us)
unfolding after_by
by_found k ts =
    if_bind (after_key k ts) _ (λ us. ts ≡ Key k ∷ us) _ (key_found k ts) (λ us h.
    if_weaker (after_key key.By us) (λ vs. us ≡ Key key.By ∷ vs) _ (key_found key.By us) (λ vs e. h ∙ ap (λ x. Key k ∷ x) e))

pub word_there : (w : List ℕ) (ts : List Symbol) → after_word w (Word w ∷ ts) ≡ Some ts
unfolding after_word
word_there w ts = ap (λ b. cond b (Some ts) None) ((bytes_eq-Decides w w).1 refl)

-- the first symbol, and its value
abbrev pub First : {A : Type 0} → (Symbol → Option A) → List Symbol → A × List Symbol → Type 0
First of ts x = (s : Symbol) × (ts ≡ s ∷ x.1) × (of s ≡ Some x.0)

pub bind_is : {A B : Type 0} {o : Option A} {x : A} (f : A → Option B) {y : Option B} → o ≡ Some x → f x ≡ y → (o >>= f) ≡ y
bind_is f e k = ap (λ o. o >>= f) e ∙ k

-- what a call returned, where its clause names what it reads
pub found_of : {A : Type 0} {X : Type 0} (seen : X → A) (o : Option A) (P : A → Type 0) (x : X) → If o P → Gives seen (Ok x) o → P (seen x)
found_of seen o P x h e = if_some o P (seen x) h e

pub copied_of : (o : Option (Bor (List Symbol))) (p : Option (List Symbol)) (P : List Symbol → Type 0) (x : Bor (List Symbol)) → If p P → option_copied o ≡ p → o ≡ Some x → P x.now
copied_of o p P x h e k = if_some p P x.now h (sym e ∙ ap option_copied k)

-- a call that failed although it could read failed out of memory
pub failed : {A B X Y : Type 0} (seen : X → A) (other : Y → B) (e : ReadError) (a : A) (b : B) → Gives seen (Err e) (Some a) → Gives other (Err e) (Some b)
failed seen other Unspelled a b h = absurd (none-some a (sym h))
failed seen other OutOfMemory a b h = tt

-- a call that returned read what is there
pub same_read : {A : Type 0} (x : A × Bor (List Symbol)) (a : A) (rest : List Symbol) → Gives with_rest (Ok x) (Some (a, rest)) → (a ≡ x.0) × (rest ≡ x.1.now)
same_read x a rest h = let p = same_Some (a, rest) (x.0, x.1.now) h in (ap (λ y. y.0) p, ap (λ y. y.1) p)
