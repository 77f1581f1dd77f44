-- How an expression is read from the start of some symbols: the results of the private functions.
use Rattle.std.specs.Prelude.{◌≡◌, ℕ, zero, suc, Bool, true, false, if◌then◌else◌, List, [], ◌∷◌, length, take, drop, Option, Some, None, is_some, option_map}
use Rattle.std.specs.List.{prefix_len}
use Rattle.std.specs.Global.{Vec}
use Rattle.std.specs.Borrow.{Bor}
use denote.Enum.Bare.{sameb}
use Rattle.expression_trees.specs.Options.{◌>>=◌}
use Rattle.ksql_types.specs.declared.operator.BinaryOp.{BinaryOp}
use Rattle.ksql_types.specs.declared.value.SqlType.{SqlType}
use Rattle.ksql_lexer.specs.declared.token.Mark.{Mark}
use Rattle.ksql_lexer.specs.declared.token.Mark.TheVariants as mark
use Rattle.ksql_lexer.specs.contracts.token.Mark.{the_type as the_mark}
use Rattle.ksql_grammar.specs.declared.symbol.Keyword.{Keyword}
use Rattle.ksql_grammar.specs.declared.symbol.Keyword.TheVariants as key
use Rattle.ksql_grammar.specs.contracts.symbol.Keyword.{the_type as the_keyword}
use Rattle.ksql_grammar.specs.declared.symbol.Symbol.{Symbol}
use Rattle.ksql_grammar.specs.declared.symbol.Symbol.TheVariants.{Key, Word, Quoted, Text, Number, Sign}
use Rattle.expression_trees.specs.declared.tree.Expr.{Expr}
use Rattle.expression_trees.specs.declared.tree.Expr.TheVariants as e
use Rattle.expression_trees.specs.declared.tree.WhenText.{WhenText}
use Rattle.ksql_grammar.specs.declared.expression.Level.{Level}
use Rattle.ksql_grammar.specs.declared.expression.Level.TheVariants as level
use Rattle.ksql_grammar.specs.Symbols.{name_of, type_of, or_of, and_of, comparison_of, sum_of, product_of}
use Rattle.ksql_grammar.specs.Grammar.{when_then, minus_of}

-- a reader gives a tree and the symbols after it
abbrev pub Reader : Type 0 → Type 0
Reader A = List Symbol → Option (A × List Symbol)

-- whether the arguments of a call are `*`, the arguments, and the symbols after them
abbrev pub with_arguments : (Bool × Vec Expr) × Bor (List Symbol) → (Bool × List Expr) × List Symbol
with_arguments x = ((x.0.0, x.0.1.items), x.1.now)

-- the symbols after this reserved word, if it comes first
unfoldable pub after_key : Keyword → List Symbol → Option (List Symbol)
after_key k (Key found ∷ ts) = if sameb the_keyword found k then Some ts else None
after_key k _ = None

-- the symbols after this sign, if it comes first
unfoldable pub after_sign : Mark → List Symbol → Option (List Symbol)
after_sign m (Sign found ∷ ts) = if sameb the_mark found m then Some ts else None
after_sign m _ = None

-- the value of the first symbol, if it has one
unfoldable pub first : {A : Type 0} → (Symbol → Option A) → Reader A
first of [] = None
first of (s ∷ ts) = of s >>= λ x. Some (x, ts)

-- an item, and the further ones if they follow
abbrev pub list_end : {A : Type 0} → A × List Symbol → Reader (List A) → Option (List Symbol) → Option (List A × List Symbol)
list_end x others None = Some (x.0 ∷ [], x.1)
list_end x others (Some ts) = others ts >>= λ xs. Some (x.0 ∷ xs.0, xs.1)

-- one or more items, each after the first announced by `more`; the number bounds how many
unfoldable pub list_of : {A : Type 0} → Reader A → (List Symbol → Option (List Symbol)) → ℕ → Reader (List A)
list_of item more zero ts = None
list_of item more (suc n) ts = item ts >>= λ x. list_end x (list_of item more n) (more x.1)

-- an operand after an operator, if any, and what goes on from both
abbrev pub chain_step : Reader Expr → (Expr → Reader Expr) → Expr → List Symbol → Option (BinaryOp × List Symbol) → Option (Expr × List Symbol)
chain_step operand others a ts None = Some (a, ts)
chain_step operand others a ts (Some o) = operand o.1 >>= λ b. others (e.Binary o.0 a b.0) b.1

-- the continuation of an expression with operators and operands, left-associative; the number bounds how many
unfoldable pub chain_with : (Symbol → Option BinaryOp) → Reader Expr → ℕ → Expr → Reader Expr
chain_with op operand zero a ts = Some (a, ts)
chain_with op operand (suc n) a ts = chain_step operand (chain_with op operand n) a ts (first op ts)

-- operands with operators between them, left-associative
unfoldable pub chain : (Symbol → Option BinaryOp) → Reader Expr → Reader Expr
chain op operand ts = operand ts >>= λ a. chain_with op operand (suc (length a.1)) a.0 a.1

-- an expression after NOT or a sign
abbrev pub after_prefix : Symbol → Expr → Expr
after_prefix (Key k) a = e.Not a
after_prefix (Sign mark.Minus) a = e.Sign true a
after_prefix s a = e.Sign false a

-- an expression after several of them, nearest first
unfoldable pub after_prefixes : List Symbol → Expr → Expr
after_prefixes [] a = a
after_prefixes (s ∷ ss) a = after_prefix s (after_prefixes ss a)

-- all leading symbols that pass, and what follows them
unfoldable pub prefixed : (Symbol → Bool) → Reader Expr → Reader Expr
prefixed test operand ts =
    let n = prefix_len test ts in operand (drop n ts) >>= λ a. Some (after_prefixes (take n ts) a.0, a.1)

abbrev pub is_not : Symbol → Bool
is_not (Key key.Not) = true
is_not _ = false

abbrev pub is_sign : Symbol → Bool
is_sign s = is_some (minus_of s)

-- whether NOT comes first, and what follows it
abbrev pub negation_of : List Symbol → Option (List Symbol) → Bool × List Symbol
negation_of ts None = (false, ts)
negation_of ts (Some us) = (true, us)

unfoldable pub negation_at : List Symbol → Bool × List Symbol
negation_at ts = negation_of ts (after_key key.Not ts)

-- after a name and `.`
unfoldable pub qualified : List ℕ → Reader Expr
qualified qualifier ts = first name_of ts >>= λ n. Some (e.Name (Some qualifier) n.0, n.1)

abbrev pub text_of : Symbol → Option (List ℕ)
text_of (Text content) = Some content
text_of _ = None

-- after an expression and LIKE
unfoldable pub like : Bool → Expr → Reader Expr
like negated a ts = first text_of ts >>= λ pattern. Some (e.Like negated a pattern.0, pattern.1)

-- after an expression and IS
unfoldable pub is_null : Expr → Reader Expr
is_null a ts = do
  let n = negation_at ts
  us ← after_key key.Null n.1
  Some (e.IsNull n.0 a, us)

-- `inner` reads expressions in parentheses, in lists and in CASE
module _ (inner : Reader Expr) where
  unfoldable pub exprs : Reader (List Expr)
  exprs ts = list_of inner (after_sign mark.Comma) (suc (length ts)) ts

  -- after `(`
  unfoldable pub parens : Reader Expr
  parens ts = do
    a ← inner ts
    us ← after_sign mark.Close a.1
    Some (a.0, us)

  -- after CAST
  unfoldable pub cast : Reader Expr
  cast ts = do
    us ← after_sign mark.Open ts
    a ← inner us
    vs ← after_key key.As a.1
    t ← first type_of vs
    ws ← after_sign mark.Close t.1
    Some (e.Cast a.0 t.0, ws)

  -- after WHEN
  unfoldable pub when : Reader WhenText
  when ts = do
    c ← inner ts
    us ← after_key key.Then c.1
    r ← inner us
    Some (when_then c.0 r.0, r.1)

  unfoldable pub whens : Reader (List WhenText)
  whens ts = do
    us ← after_key key.When ts
    list_of when (after_key key.When) (length ts) us

  abbrev pub operand_at : List Symbol → Option (List Symbol) → Option (Option Expr × List Symbol)
  operand_at ts (Some us) = Some (None, ts)
  operand_at ts None = inner ts >>= λ a. Some (Some a.0, a.1)

  -- after CASE, before WHEN
  unfoldable pub operand : Reader (Option Expr)
  operand ts = operand_at ts (after_key key.When ts)

  abbrev pub otherwise_at : List Symbol → Option (List Symbol) → Option (Option Expr × List Symbol)
  otherwise_at ts (Some us) = inner us >>= λ a. Some (Some a.0, a.1)
  otherwise_at ts None = Some (None, ts)

  unfoldable pub otherwise : Reader (Option Expr)
  otherwise ts = otherwise_at ts (after_key key.Else ts)

  -- after CASE
  unfoldable pub case : Reader Expr
  case ts = do
    x ← operand ts
    ws ← whens x.1
    y ← otherwise ws.1
    us ← after_key key.End y.1
    Some (e.Case x.0 ws.0 y.0, us)

  -- after a reserved word
  abbrev pub keyed : Keyword → Reader Expr
  keyed key.True ts = Some (e.Truth true, ts)
  keyed key.False ts = Some (e.Truth false, ts)
  keyed key.Null ts = Some (e.Null, ts)
  keyed key.Cast ts = cast ts
  keyed key.Case ts = case ts
  keyed _ ts = None

  abbrev pub arguments_at : List Symbol → Option (List Symbol) → Option (List Symbol) → Option ((Bool × List Expr) × List Symbol)
  arguments_at ts (Some us) _ = Some ((false, []), ts)
  arguments_at ts None (Some us) = Some ((true, []), us)
  arguments_at ts None None = exprs ts >>= λ es. Some ((false, es.0), es.1)

  -- after a name and `(`
  unfoldable pub arguments : Reader (Bool × List Expr)
  arguments ts = arguments_at ts (after_sign mark.Close ts) (after_sign mark.Star ts)

  unfoldable pub call : List ℕ → Reader Expr
  call name ts = do
    x ← arguments ts
    us ← after_sign mark.Close x.1
    Some (e.Call name x.0.0 x.0.1, us)

  abbrev pub named_at : List ℕ → List Symbol → Option (List Symbol) → Option (List Symbol) → Option (Expr × List Symbol)
  named_at name ts (Some us) _ = call name us
  named_at name ts None (Some us) = qualified name us
  named_at name ts None None = Some (e.Name None name, ts)

  -- after a name
  unfoldable pub named : List ℕ → Reader Expr
  named name ts = named_at name ts (after_sign mark.Open ts) (after_sign mark.Dot ts)

  abbrev pub primary_at : Symbol → Reader Expr
  primary_at (Key k) ts = keyed k ts
  primary_at (Word word) ts = named word ts
  primary_at (Quoted name) ts = named name ts
  primary_at (Text content) ts = Some (e.Text content, ts)
  primary_at (Number n) ts = Some (e.Digits n, ts)
  primary_at (Sign mark.Open) ts = parens ts
  primary_at (Sign _) ts = None

  unfoldable pub primary : Reader Expr
  primary [] = None
  primary (s ∷ ts) = primary_at s ts

  unfoldable pub unary : Reader Expr
  unary = prefixed is_sign primary

  unfoldable pub product : Reader Expr
  product = chain product_of unary

  unfoldable pub sum : Reader Expr
  sum = chain sum_of product

  -- after an expression and BETWEEN
  unfoldable pub between : Bool → Expr → Reader Expr
  between negated a ts = do
    low ← sum ts
    us ← after_key key.And low.1
    high ← sum us
    Some (e.Between negated a low.0 high.0, high.1)

  -- after an expression and IN
  unfoldable pub one_of : Bool → Expr → Reader Expr
  one_of negated a ts = do
    us ← after_sign mark.Open ts
    es ← exprs us
    vs ← after_sign mark.Close es.1
    Some (e.OneOf negated a es.0, vs)

  -- after an expression and its operator
  unfoldable pub compared : Expr → BinaryOp → Reader Expr
  compared a o ts = sum ts >>= λ b. Some (e.Binary o a b.0, b.1)

  -- the test that continues an expression, after its NOT
  abbrev pub ranged : Bool → Expr → Reader Expr
  ranged negated a (Key key.Between ∷ ts) = between negated a ts
  ranged negated a (Key key.In ∷ ts) = one_of negated a ts
  ranged negated a (Key key.Like ∷ ts) = like negated a ts
  ranged negated a ts = if negated then None else Some (a, ts)

  abbrev pub tested_at : Expr → List Symbol → Option (BinaryOp × List Symbol) → Option (List Symbol) → Option (Expr × List Symbol)
  tested_at a ts (Some o) _ = compared a o.0 o.1
  tested_at a ts None (Some us) = is_null a us
  tested_at a ts None None = ranged (negation_at ts).0 a (negation_at ts).1

  -- after an expression
  unfoldable pub tested : Expr → Reader Expr
  tested a ts = tested_at a ts (first comparison_of ts) (after_key key.Is ts)

  unfoldable pub predicate : Reader Expr
  predicate ts = sum ts >>= λ a. tested a.0 a.1

  unfoldable pub negations : Reader Expr
  negations = prefixed is_not predicate

  unfoldable pub conjunction : Reader Expr
  conjunction = chain and_of negations

  unfoldable pub disjunction : Reader Expr
  disjunction = chain or_of conjunction

  -- the operands of each level
  abbrev pub operand_of : Level → Reader Expr
  operand_of level.Expr = conjunction
  operand_of level.Conj = negations
  operand_of level.Sum = product
  operand_of level.Prod = unary

-- the operators of each level
abbrev pub operator_at : Level → Symbol → Option BinaryOp
operator_at level.Expr s = or_of s
operator_at level.Conj s = and_of s
operator_at level.Sum s = sum_of s
operator_at level.Prod s = product_of s

-- expressions nested no deeper than the number
unfoldable pub within : ℕ → Reader Expr
within zero ts = None
within (suc n) ts = disjunction (within n) ts
