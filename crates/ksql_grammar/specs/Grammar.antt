-- The grammar of expressions. `Spells p ts rest` says that the symbols ts spell p and then the rest. There is one rule
-- for each alternative, and above each group of rules stands its line of the grammar.
use Rattle.std.specs.Prelude.{◌≡◌, ℕ, Bool, true, false, List, [], ◌∷◌, Option, Some, None}
use Rattle.ksql_lexer.specs.declared.token.Mark.TheVariants as mark
use Rattle.ksql_types.specs.declared.operator.BinaryOp.{BinaryOp}
use Rattle.ksql_types.specs.declared.value.SqlType.{SqlType}
use Rattle.expression_trees.specs.declared.tree.Expr.{Expr}
use Rattle.expression_trees.specs.declared.tree.Expr.TheVariants as e
use Rattle.expression_trees.specs.declared.tree.WhenText.{WhenText, roll-WhenText}
use Rattle.ksql_grammar.specs.declared.symbol.Keyword.TheVariants as key
use Rattle.ksql_grammar.specs.declared.symbol.Symbol.{Symbol}
use Rattle.ksql_grammar.specs.declared.symbol.Symbol.TheVariants.{Key, Text, Number, Sign}
use Rattle.ksql_grammar.specs.Symbols.{name_of, type_of, or_of, and_of, comparison_of, sum_of, product_of}

-- the levels of expressions, weakest first
pub data Level : Type 0 where
  expr conj neg pred sum prod unary primary : Level

-- a part of an expression, with its tree
pub data Phrase : Type 0 where
  at : Level → Expr → Phrase
  exprs : List Expr → Phrase
  negation : Bool → Phrase
  operand : Option Expr → Phrase
  whens : List WhenText → Phrase
  otherwise : Option Expr → Phrase
  arguments : Bool → List Expr → Phrase

-- whether a sign before an expression is a minus
abbrev pub minus_of : Symbol → Option Bool
minus_of (Sign mark.Minus) = Some true
minus_of (Sign mark.Plus) = Some false
minus_of _ = None

abbrev pub truth_of : Symbol → Option Bool
truth_of (Key key.True) = Some true
truth_of (Key key.False) = Some false
truth_of _ = None

abbrev pub when_then : Expr → Expr → WhenText
when_then c r = roll-WhenText (record { cond = c; result = r })

pub data Spells : Phrase → List Symbol → List Symbol → Type 0 where
  -- expr = conj {OR conj}
  one_conj : {a : Expr} {ts us : List Symbol} → Spells (at conj a) ts us → Spells (at expr a) ts us
  or : {o : BinaryOp} {s : Symbol} {a b : Expr} {ts us vs : List Symbol}
      → Spells (at expr a) ts (s ∷ us) → or_of s ≡ Some o → Spells (at conj b) us vs → Spells (at expr (e.Binary o a b)) ts vs
  -- conj = neg {AND neg}
  one_neg : {a : Expr} {ts us : List Symbol} → Spells (at neg a) ts us → Spells (at conj a) ts us
  and : {o : BinaryOp} {s : Symbol} {a b : Expr} {ts us vs : List Symbol}
      → Spells (at conj a) ts (s ∷ us) → and_of s ≡ Some o → Spells (at neg b) us vs → Spells (at conj (e.Binary o a b)) ts vs
  -- neg = NOT neg | pred
  not : {a : Expr} {ts us : List Symbol} → Spells (at neg a) ts us → Spells (at neg (e.Not a)) (Key key.Not ∷ ts) us
  one_pred : {a : Expr} {ts us : List Symbol} → Spells (at pred a) ts us → Spells (at neg a) ts us
  -- pred = sum [("=" | "<>" | "<" | "<=" | ">" | ">=") sum
  one_sum : {a : Expr} {ts us : List Symbol} → Spells (at sum a) ts us → Spells (at pred a) ts us
  compared : {o : BinaryOp} {s : Symbol} {a b : Expr} {ts us vs : List Symbol}
      → Spells (at sum a) ts (s ∷ us) → comparison_of s ≡ Some o → Spells (at sum b) us vs → Spells (at pred (e.Binary o a b)) ts vs
  --             | IS [NOT] NULL
  is_null : {n : Bool} {a : Expr} {ts us vs : List Symbol}
      → Spells (at sum a) ts (Key key.Is ∷ us) → Spells (negation n) us (Key key.Null ∷ vs) → Spells (at pred (e.IsNull n a)) ts vs
  --             | [NOT] BETWEEN sum AND sum
  between : {n : Bool} {a low high : Expr} {ts us vs ws xs : List Symbol}
      → Spells (at sum a) ts us → Spells (negation n) us (Key key.Between ∷ vs) → Spells (at sum low) vs (Key key.And ∷ ws)
      → Spells (at sum high) ws xs → Spells (at pred (e.Between n a low high)) ts xs
  --             | [NOT] IN "(" expr {"," expr} ")"
  one_of : {n : Bool} {a : Expr} {es : List Expr} {ts us vs ws : List Symbol}
      → Spells (at sum a) ts us → Spells (negation n) us (Key key.In ∷ Sign mark.Open ∷ vs) → Spells (exprs es) vs (Sign mark.Close ∷ ws)
      → Spells (at pred (e.OneOf n a es)) ts ws
  --             | [NOT] LIKE text]
  like : {n : Bool} {a : Expr} {pattern : List ℕ} {ts us vs : List Symbol}
      → Spells (at sum a) ts us → Spells (negation n) us (Key key.Like ∷ Text pattern ∷ vs) → Spells (at pred (e.Like n a pattern)) ts vs
  -- [NOT]
  plainly : {ts : List Symbol} → Spells (negation false) ts ts
  negated : {ts : List Symbol} → Spells (negation true) (Key key.Not ∷ ts) ts
  -- sum = prod {("+" | "-" | "||") prod}
  one_prod : {a : Expr} {ts us : List Symbol} → Spells (at prod a) ts us → Spells (at sum a) ts us
  added : {o : BinaryOp} {s : Symbol} {a b : Expr} {ts us vs : List Symbol}
      → Spells (at sum a) ts (s ∷ us) → sum_of s ≡ Some o → Spells (at prod b) us vs → Spells (at sum (e.Binary o a b)) ts vs
  -- prod = unary {("*" | "/" | "%") unary}
  one_unary : {a : Expr} {ts us : List Symbol} → Spells (at unary a) ts us → Spells (at prod a) ts us
  multiplied : {o : BinaryOp} {s : Symbol} {a b : Expr} {ts us vs : List Symbol}
      → Spells (at prod a) ts (s ∷ us) → product_of s ≡ Some o → Spells (at unary b) us vs → Spells (at prod (e.Binary o a b)) ts vs
  -- unary = ("-" | "+") unary | primary
  signed : {m : Bool} {s : Symbol} {a : Expr} {ts us : List Symbol}
      → minus_of s ≡ Some m → Spells (at unary a) ts us → Spells (at unary (e.Sign m a)) (s ∷ ts) us
  one_primary : {a : Expr} {ts us : List Symbol} → Spells (at primary a) ts us → Spells (at unary a) ts us
  -- primary = digits | text | TRUE | FALSE | NULL
  digits : {n : ℕ} {ts : List Symbol} → Spells (at primary (e.Digits n)) (Number n ∷ ts) ts
  text : {content : List ℕ} {ts : List Symbol} → Spells (at primary (e.Text content)) (Text content ∷ ts) ts
  truth : {s : Symbol} {b : Bool} {ts : List Symbol} → truth_of s ≡ Some b → Spells (at primary (e.Truth b)) (s ∷ ts) ts
  null : {ts : List Symbol} → Spells (at primary e.Null) (Key key.Null ∷ ts) ts
  --         | CAST "(" expr AS type ")"
  cast : {a : Expr} {t : Symbol} {ty : SqlType} {ts us : List Symbol}
      → Spells (at expr a) ts (Key key.As ∷ t ∷ Sign mark.Close ∷ us) → type_of t ≡ Some ty
      → Spells (at primary (e.Cast a ty)) (Key key.Cast ∷ Sign mark.Open ∷ ts) us
  --         | CASE [expr] WHEN expr THEN expr {WHEN expr THEN expr} [ELSE expr] END
  case : {x y : Option Expr} {ws : List WhenText} {ts us vs rest : List Symbol}
      → Spells (operand x) ts us → Spells (whens ws) us vs → Spells (otherwise y) vs (Key key.End ∷ rest)
      → Spells (at primary (e.Case x ws y)) (Key key.Case ∷ ts) rest
  no_operand : {ts : List Symbol} → Spells (operand None) ts ts
  an_operand : {a : Expr} {ts us : List Symbol} → Spells (at expr a) ts us → Spells (operand (Some a)) ts us
  last_when : {c r : Expr} {ts us vs : List Symbol}
      → Spells (at expr c) ts (Key key.Then ∷ us) → Spells (at expr r) us vs
      → Spells (whens (when_then c r ∷ [])) (Key key.When ∷ ts) vs
  more_whens : {c r : Expr} {ws : List WhenText} {ts us vs rest : List Symbol}
      → Spells (at expr c) ts (Key key.Then ∷ us) → Spells (at expr r) us vs → Spells (whens ws) vs rest
      → Spells (whens (when_then c r ∷ ws)) (Key key.When ∷ ts) rest
  no_else : {ts : List Symbol} → Spells (otherwise None) ts ts
  an_else : {a : Expr} {ts us : List Symbol} → Spells (at expr a) ts us → Spells (otherwise (Some a)) (Key key.Else ∷ ts) us
  --         | name "(" ["*" | expr {"," expr}] ")"
  call : {n : Symbol} {name : List ℕ} {is_star : Bool} {es : List Expr} {ts us : List Symbol}
      → name_of n ≡ Some name → Spells (arguments is_star es) ts (Sign mark.Close ∷ us)
      → Spells (at primary (e.Call name is_star es)) (n ∷ Sign mark.Open ∷ ts) us
  no_arguments : {ts : List Symbol} → Spells (arguments false []) ts ts
  star_argument : {ts : List Symbol} → Spells (arguments true []) (Sign mark.Star ∷ ts) ts
  some_arguments : {es : List Expr} {ts us : List Symbol} → Spells (exprs es) ts us → Spells (arguments false es) ts us
  --         | name ["." name] | "(" expr ")"
  name : {n : Symbol} {name : List ℕ} {ts : List Symbol} → name_of n ≡ Some name → Spells (at primary (e.Name None name)) (n ∷ ts) ts
  name_in : {q n : Symbol} {qualifier name : List ℕ} {ts : List Symbol} → name_of q ≡ Some qualifier → name_of n ≡ Some name
      → Spells (at primary (e.Name (Some qualifier) name)) (q ∷ Sign mark.Dot ∷ n ∷ ts) ts
  parens : {a : Expr} {ts us : List Symbol}
      → Spells (at expr a) ts (Sign mark.Close ∷ us) → Spells (at primary a) (Sign mark.Open ∷ ts) us
  -- expr {"," expr}
  last_expr : {a : Expr} {ts us : List Symbol} → Spells (at expr a) ts us → Spells (exprs (a ∷ [])) ts us
  more_exprs : {a : Expr} {es : List Expr} {ts us vs : List Symbol}
      → Spells (at expr a) ts (Sign mark.Comma ∷ us) → Spells (exprs es) us vs → Spells (exprs (a ∷ es)) ts vs
