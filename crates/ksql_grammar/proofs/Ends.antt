-- Which symbols end an expression of each level, and which begin it.
use Rattle.std.proofs.Common.{◌≡◌, ℕ, Bool, true, false, ◌||◌, List, [], ◌∷◌, Option, Some, None, is_some, refl, sym, ap, ◌∙◌}
use Rattle.std.proofs.lemmas.Bool.{false≢true}
use Rattle.std.proofs.lemmas.Option.{none-some}
use Rattle.ksql_types.specs.declared.operator.BinaryOp.{BinaryOp}
use Rattle.ksql_lexer.specs.declared.token.Mark.{Mark}
use Rattle.ksql_lexer.specs.declared.token.Mark.TheVariants as mark
use Rattle.ksql_grammar.specs.declared.symbol.Keyword.{Keyword}
use Rattle.ksql_grammar.specs.declared.symbol.Keyword.TheVariants as key
use Rattle.ksql_grammar.specs.declared.symbol.Symbol.{Symbol}
use Rattle.ksql_grammar.specs.declared.symbol.Symbol.TheVariants.{Key, Word, Quoted, Text, Number, Sign}
use Rattle.ksql_grammar.specs.Symbols.{or_of, and_of, comparison_of, sum_of, product_of}
use Rattle.ksql_grammar.specs.Reading.{goes_on, EndsExpr as ExprEnds, EndsExprs as ExprsEnd, is_comma}
use Rattle.ksql_grammar.specs.Expressions.{is_not, is_sign}

-- of the first symbol, if any
abbrev pub Rest : (Symbol → Type 0) → List Symbol → Type 0
Rest P [] = Unit {0}
Rest P (s ∷ ss) = P s

pub rest_weaker : (P Q : Symbol → Type 0) → ((s : Symbol) → P s → Q s) → (ts : List Symbol) → Rest P ts → Rest Q ts
rest_weaker P Q h [] r = tt
rest_weaker P Q h (s ∷ ts) r = h s r

-- `(` or `.`, after a name
abbrev pub extends : Symbol → Bool
extends (Sign mark.Open) = true
extends (Sign mark.Dot) = true
extends _ = false

-- IS, NOT, BETWEEN, IN or LIKE
abbrev pub tests : Symbol → Bool
tests (Key key.Is) = true
tests (Key key.Not) = true
tests (Key key.Between) = true
tests (Key key.In) = true
tests (Key key.Like) = true
tests _ = false

abbrev pub EndsUnary : Symbol → Type 0
EndsUnary s = extends s ≡ false

abbrev pub EndsProd : Symbol → Type 0
EndsProd s = EndsUnary s × (product_of s ≡ None)

abbrev pub EndsSum : Symbol → Type 0
EndsSum s = EndsProd s × (sum_of s ≡ None)

abbrev pub EndsPred : Symbol → Type 0
EndsPred s = EndsSum s × (comparison_of s ≡ None) × (tests s ≡ false)

abbrev pub EndsConj : Symbol → Type 0
EndsConj s = EndsPred s × (and_of s ≡ None)

abbrev pub EndsExpr : Symbol → Type 0
EndsExpr s = EndsConj s × (or_of s ≡ None)

-- each operator ends its operands
pub or_ends : (s : Symbol) (o : BinaryOp) → or_of s ≡ Some o → EndsConj s
or_ends (Key key.Or) o h = ((((refl, refl), refl), refl, refl), refl)
or_ends _ o h = absurd (none-some o h)

pub and_ends : (s : Symbol) (o : BinaryOp) → and_of s ≡ Some o → EndsPred s
and_ends (Key key.And) o h = (((refl, refl), refl), refl, refl)
and_ends _ o h = absurd (none-some o h)

pub comparison_ends : (s : Symbol) (o : BinaryOp) → comparison_of s ≡ Some o → EndsSum s
comparison_ends (Sign mark.Equal) o h = ((refl, refl), refl)
comparison_ends (Sign mark.NotEqual) o h = ((refl, refl), refl)
comparison_ends (Sign mark.Less) o h = ((refl, refl), refl)
comparison_ends (Sign mark.LessEqual) o h = ((refl, refl), refl)
comparison_ends (Sign mark.Greater) o h = ((refl, refl), refl)
comparison_ends (Sign mark.GreaterEqual) o h = ((refl, refl), refl)
comparison_ends _ o h = absurd (none-some o h)

pub sum_ends : (s : Symbol) (o : BinaryOp) → sum_of s ≡ Some o → EndsProd s
sum_ends (Sign mark.Plus) o h = (refl, refl)
sum_ends (Sign mark.Minus) o h = (refl, refl)
sum_ends (Sign mark.Concat) o h = (refl, refl)
sum_ends _ o h = absurd (none-some o h)

pub product_ends : (s : Symbol) (o : BinaryOp) → product_of s ≡ Some o → EndsUnary s
product_ends (Sign mark.Star) o h = refl
product_ends (Sign mark.Slash) o h = refl
product_ends (Sign mark.Percent) o h = refl
product_ends _ o h = absurd (none-some o h)

-- a symbol that continues no expression ends it
pub ends_expr : (s : Symbol) → goes_on s ≡ false → EndsExpr s
ends_expr (Key key.Or) h = absurd (false≢true (sym h))
ends_expr (Key key.And) h = absurd (false≢true (sym h))
ends_expr (Key key.Not) h = absurd (false≢true (sym h))
ends_expr (Key key.Is) h = absurd (false≢true (sym h))
ends_expr (Key key.Between) h = absurd (false≢true (sym h))
ends_expr (Key key.In) h = absurd (false≢true (sym h))
ends_expr (Key key.Like) h = absurd (false≢true (sym h))
ends_expr (Key _) h = (((((refl, refl), refl), refl, refl), refl), refl)
ends_expr (Word w) h = (((((refl, refl), refl), refl, refl), refl), refl)
ends_expr (Quoted w) h = (((((refl, refl), refl), refl, refl), refl), refl)
ends_expr (Text w) h = (((((refl, refl), refl), refl, refl), refl), refl)
ends_expr (Number w) h = (((((refl, refl), refl), refl, refl), refl), refl)
ends_expr (Sign mark.Close) h = (((((refl, refl), refl), refl, refl), refl), refl)
ends_expr (Sign mark.Comma) h = (((((refl, refl), refl), refl, refl), refl), refl)
ends_expr (Sign mark.Semicolon) h = (((((refl, refl), refl), refl, refl), refl), refl)
ends_expr (Sign _) h = absurd (false≢true (sym h))

pub rest_ends : (ts : List Symbol) → ExprEnds ts → Rest EndsExpr ts
rest_ends [] h = tt
rest_ends (s ∷ ts) h = ends_expr s h

-- the symbol begins a primary
abbrev pub begins_primary : Symbol → Bool
begins_primary (Key key.True) = true
begins_primary (Key key.False) = true
begins_primary (Key key.Null) = true
begins_primary (Key key.Cast) = true
begins_primary (Key key.Case) = true
begins_primary (Key _) = false
begins_primary (Sign mark.Open) = true
begins_primary (Sign _) = false
begins_primary _ = true

abbrev pub BeginsPrimary : Symbol → Type 0
BeginsPrimary s = begins_primary s ≡ true

abbrev pub BeginsUnary : Symbol → Type 0
BeginsUnary s = (is_sign s || begins_primary s) ≡ true

abbrev pub BeginsExpr : Symbol → Type 0
BeginsExpr s = (is_not s || (is_sign s || begins_primary s)) ≡ true

pub primary_begins_unary : (s : Symbol) → BeginsPrimary s → BeginsUnary s
primary_begins_unary (Sign mark.Minus) h = refl
primary_begins_unary (Sign mark.Plus) h = refl
primary_begins_unary _ h = h

pub unary_begins_expr : (s : Symbol) → BeginsUnary s → BeginsExpr s
unary_begins_expr (Key key.Not) h = refl
unary_begins_expr _ h = h

pub primary_no_sign : (s : Symbol) → BeginsPrimary s → is_sign s ≡ false
primary_no_sign (Sign mark.Minus) h = absurd (false≢true h)
primary_no_sign (Sign mark.Plus) h = absurd (false≢true h)
primary_no_sign _ h = refl

pub unary_no_not : (s : Symbol) → BeginsUnary s → is_not s ≡ false
unary_no_not (Key key.Not) h = absurd (false≢true h)
unary_no_not _ h = refl
