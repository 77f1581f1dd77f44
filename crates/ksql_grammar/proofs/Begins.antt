-- By which symbol an expression begins.
use Rattle.std.proofs.Common.{◌≡◌, ℕ, Bool, true, false, List, [], ◌∷◌, Option, Some, None, is_some, refl, sym, ap, ◌∙◌}
use Rattle.std.proofs.lemmas.Option.{none-some}
use Rattle.ksql_lexer.specs.declared.token.Mark.TheVariants as mark
use Rattle.ksql_grammar.specs.declared.symbol.Keyword.TheVariants as key
use Rattle.ksql_grammar.specs.declared.symbol.Symbol.{Symbol}
use Rattle.ksql_grammar.specs.declared.symbol.Symbol.TheVariants.{Key, Word, Quoted, Text, Number, Sign}
use Rattle.ksql_grammar.specs.Symbols.{name_of}
use Rattle.ksql_grammar.specs.Grammar.{Level, Phrase, Spells, at, exprs, whens, expr, conj, neg, pred, sum, prod, unary, primary, minus_of, truth_of}
use Rattle.ksql_grammar.specs.Grammar as g
use Rattle.ksql_grammar.specs.Expressions.{is_not, is_sign}
use Rattle.ksql_grammar.proofs.Ends.{BeginsPrimary, BeginsUnary, BeginsExpr, primary_begins_unary, unary_begins_expr}

-- there is a first symbol with a property
abbrev pub First : (Symbol → Type 0) → List Symbol → Type 0
First P [] = ⊥
First P (s ∷ ss) = P s

abbrev first_weaker : (P Q : Symbol → Type 0) → ((s : Symbol) → P s → Q s) → (ts : List Symbol) → First P ts → First Q ts
first_weaker P Q h [] r = r
first_weaker P Q h (s ∷ ts) r = h s r

abbrev pub Begins : Phrase → List Symbol → Type 0
Begins (at expr a) ts = First BeginsExpr ts
Begins (at conj a) ts = First BeginsExpr ts
Begins (at neg a) ts = First BeginsExpr ts
Begins (at primary a) ts = First BeginsPrimary ts
Begins (at l a) ts = First BeginsUnary ts
Begins (exprs es) ts = First BeginsExpr ts
Begins (whens ws) ts = First (λ s. s ≡ Key key.When) ts
Begins _ ts = Unit {0}

minus_begins : (s : Symbol) (m : Bool) → minus_of s ≡ Some m → BeginsUnary s
minus_begins (Sign mark.Minus) m h = refl
minus_begins (Sign mark.Plus) m h = refl
minus_begins _ m h = absurd (none-some m h)

truth_begins : (s : Symbol) (b : Bool) → truth_of s ≡ Some b → BeginsPrimary s
truth_begins (Key key.True) b h = refl
truth_begins (Key key.False) b h = refl
truth_begins _ b h = absurd (none-some b h)

pub name_begins : (s : Symbol) (n : List ℕ) → name_of s ≡ Some n → BeginsPrimary s
name_begins (Word w) n h = refl
name_begins (Quoted w) n h = refl
name_begins _ n h = absurd (none-some n h)

pub begins : {p : Phrase} {ts us : List Symbol} → Spells p ts us → Begins p ts
begins (g.one_conj d) = begins d
begins (g.or d h f) = begins d
begins (g.one_neg d) = begins d
begins (g.and d h f) = begins d
begins (g.not d) = refl
begins (g.one_pred {ts = ts} d) = first_weaker BeginsUnary BeginsExpr unary_begins_expr ts (begins d)
begins (g.one_sum d) = begins d
begins (g.compared d h f) = begins d
begins (g.is_null d m) = begins d
begins (g.between d m f k) = begins d
begins (g.one_of d m f) = begins d
begins (g.like d m) = begins d
begins (g.one_prod d) = begins d
begins (g.added d h f) = begins d
begins (g.one_unary d) = begins d
begins (g.multiplied d h f) = begins d
begins (g.signed {m} {s} h d) = minus_begins s m h
begins (g.one_primary {ts = ts} d) = first_weaker BeginsPrimary BeginsUnary primary_begins_unary ts (begins d)
begins g.digits = refl
begins g.text = refl
begins (g.truth {s} {b} h) = truth_begins s b h
begins g.null = refl
begins (g.cast d h) = refl
begins (g.case x w y) = refl
begins (g.last_when d f) = refl
begins (g.more_whens d f w) = refl
begins (g.call {n} {name = m} h d) = name_begins n m h
begins (g.name {n} {name = m} h) = name_begins n m h
begins (g.name_in {q} {qualifier = m} h k) = name_begins q m h
begins (g.parens d) = refl
begins (g.last_expr d) = begins d
begins (g.more_exprs d f) = begins d
begins _ = tt
