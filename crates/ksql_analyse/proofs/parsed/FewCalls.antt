-- An expression of the items or of HAVING of a statement that the grammar accepts calls at most 2,000 functions.
use Rattle.std.proofs.Common.{◌≡◌, ℕ, suc, ◌+◌, ◌≤◌, ◌<◌, Bool, List, [], ◌∷◌, ◌++◌, map, length, Option, Some, None, refl, ap, ap₂, ◌∙◌, arith, inl, inr}
use Rattle.std.specs.Prelude.{◌⊎◌, All}
use Rattle.std.specs.List.{flat_map, AllByRecursion as Each}
use Rattle.std.proofs.lemmas.Bool.{cases_lt}
use Rattle.std.proofs.lemmas.List.{length-append, length-map}
use Rattle.std.proofs.lemmas.List.Elements.{All-from_recursion}
use Rattle.ksql_types.specs.declared.operator.BinaryOp.{BinaryOp}
use Rattle.ksql_lexer.specs.declared.token.TokenKind.{TokenKind}
use Rattle.ksql_grammar.specs.declared.symbol.Symbol.{Symbol}
use Rattle.expression_trees.specs.declared.tree.Expr.{Expr}
use Rattle.expression_trees.specs.declared.tree.Expr.TheVariants as e
use Rattle.statement_trees.specs.declared.tree.Statement.{Statement}
use Rattle.statement_trees.specs.declared.tree.StatementBody.{StatementBody}
use Rattle.statement_trees.specs.declared.tree.StatementBody.TheVariants.{Declared, Query}
use Rattle.expression_trees.specs.declared.tree.WhenText.{WhenText}
use Rattle.ksql_grammar.specs.Grammar.{Phrase as PhraseExpr, Spells as SpellsExpr}
use Rattle.ksql_grammar.specs.Grammar as ge
use Rattle.ksql_parser.specs.Grammar as g
use Rattle.ksql_parser.specs.Grammar.{Spells, Phrase}
use Rattle.ksql_grammar.specs.Symbols.{symbol_of}
use Rattle.ksql_parser.specs.Script.{AreTrees, IsTreeOf}
use Rattle.ksql_scopes.specs.Uses.{calls, all_of, perhaps}
use Rattle.ksql_scopes.proofs.Equations as equation
use Rattle.ksql_scopes.proofs.Equations.{calls_when, calls-when}
use Rattle.expression_trees.proofs.Folds.{perhaps_folded}
use Rattle.ksql_clauses.specs.Sources.{item_exprs, late_exprs, there}
use Rattle.ksql_analyse.specs.Few.{CallsFew, HasFewCalls}
use Rattle.ksql_analyse.specs.Judgement.{AreParsed}

-- ---- how many functions are called

abbrev count : Expr → ℕ
count a = length (calls a)

abbrev count_all : List Expr → ℕ
count_all [] = 0
count_all (a ∷ es) = count a + count_all es

abbrev count_whens : List WhenText → ℕ
count_whens [] = 0
count_whens (w ∷ ws) = count w.cond + count w.result + count_whens ws

abbrev count_body : StatementBody → ℕ
count_body (Declared cs ps) = 0
count_body (Query ps q) = count_all (late_exprs q)

count-append : (es fs : List Expr) → count_all (es ++ fs) ≡ count_all es + count_all fs
count-append [] fs = omega arith
count-append (a ∷ es) fs = omega (arith, count-append es fs)

all-counted : (es : List Expr) → length (all_of (map calls es)) ≡ count_all es
all-counted [] = refl
all-counted (a ∷ es) = length-append (calls a) (all_of (map calls es)) ∙ ap (λ n. count a + n) (all-counted es)

whens-counted : (ws : List WhenText) → length (all_of (map calls_when ws)) ≡ count_whens ws
whens-counted [] = refl
whens-counted (w ∷ ws) =
    length-append (calls_when w) (all_of (map calls_when ws))
    ∙ ap₂ (λ m n. m + n) (ap length (calls-when w) ∙ length-append (calls w.cond) (calls w.result)) (whens-counted ws)

part-counted : (x : Option Expr) → length (perhaps (perhaps_folded calls x)) ≡ count_all (there x)
part-counted None = refl
part-counted (Some a) = omega arith

of-Binary : (o : BinaryOp) (a b : Expr) → count (e.Binary o a b) ≡ count a + count b
of-Binary o a b = ap length (equation.calls-Binary o a b) ∙ length-append (calls a) (calls b)

of-Between : (m : Bool) (a b c : Expr) → count (e.Between m a b c) ≡ count a + count b + count c
of-Between m a b c =
    ap length (equation.calls-Between m a b c) ∙ length-append (calls a ++ calls b) (calls c) ∙ ap (λ n. n + count c) (length-append (calls a) (calls b))

of-OneOf : (m : Bool) (a : Expr) (es : List Expr) → count (e.OneOf m a es) ≡ count a + count_all es
of-OneOf m a es = ap length (equation.calls-OneOf m a es) ∙ length-append (calls a) (all_of (map calls es)) ∙ ap (λ n. count a + n) (all-counted es)

of-Case : (x : Option Expr) (ws : List WhenText) (z : Option Expr) → count (e.Case x ws z) ≡ count_all (there x) + count_whens ws + count_all (there z)
of-Case x ws z =
    ap length (equation.calls-Case x ws z)
    ∙ length-append (perhaps (perhaps_folded calls x) ++ all_of (map calls_when ws)) (perhaps (perhaps_folded calls z))
    ∙ ap₂ (λ m n. m + n) (length-append (perhaps (perhaps_folded calls x)) (all_of (map calls_when ws)) ∙ ap₂ (λ m n. m + n) (part-counted x) (whens-counted ws)) (part-counted z)

of-Call : (f : List ℕ) (star : Bool) (es : List Expr) → count (e.Call f star es) ≡ suc (count_all es)
of-Call f star es = ap length (equation.calls-Call f star es) ∙ ap suc (all-counted es)

-- ---- each takes a symbol

abbrev expr_cost : PhraseExpr → ℕ
expr_cost (ge.at l a) = count a
expr_cost (ge.exprs es) = count_all es
expr_cost (ge.operand x) = count_all (there x)
expr_cost (ge.whens ws) = count_whens ws
expr_cost (ge.otherwise x) = count_all (there x)
expr_cost (ge.arguments star es) = count_all es
expr_cost _ = 0

abbrev cost : Phrase → ℕ
cost (g.statement st) = count_body st.body
cost (g.select q) = count_all (late_exprs q)
cost (g.items is) = count_all (flat_map item_exprs is)
cost (g.item i) = count_all (item_exprs i)
cost (g.having x) = count_all (there x)
cost _ = 0

expr_fits : {p : PhraseExpr} {ts us : List Symbol} → SpellsExpr p ts us → expr_cost p + length us ≤ length ts
expr_fits (ge.one_conj d) = expr_fits d
expr_fits (ge.or {o = o} {a = a} {b = b} d h f) = omega (arith, expr_fits d, expr_fits f, of-Binary o a b)
expr_fits (ge.one_neg d) = expr_fits d
expr_fits (ge.and {o = o} {a = a} {b = b} d h f) = omega (arith, expr_fits d, expr_fits f, of-Binary o a b)
expr_fits (ge.not {a = a} d) = omega (arith, expr_fits d, ap length (equation.calls-Not a))
expr_fits (ge.one_pred d) = expr_fits d
expr_fits (ge.one_sum d) = expr_fits d
expr_fits (ge.compared {o = o} {a = a} {b = b} d h f) = omega (arith, expr_fits d, expr_fits f, of-Binary o a b)
expr_fits (ge.is_null {n = m} {a = a} d f) = omega (arith, expr_fits d, expr_fits f, ap length (equation.calls-IsNull m a))
expr_fits (ge.between {n = m} {a = a} {low = low} {high = high} d f c b) = omega (arith, expr_fits d, expr_fits f, expr_fits c, expr_fits b, of-Between m a low high)
expr_fits (ge.one_of {n = m} {a = a} {es = es} d f c) = omega (arith, expr_fits d, expr_fits f, expr_fits c, of-OneOf m a es)
expr_fits (ge.like {n = m} {a = a} {pattern = pattern} d f) = omega (arith, expr_fits d, expr_fits f, ap length (equation.calls-Like m a pattern))
expr_fits ge.plainly = omega arith
expr_fits ge.negated = omega arith
expr_fits (ge.one_prod d) = expr_fits d
expr_fits (ge.added {o = o} {a = a} {b = b} d h f) = omega (arith, expr_fits d, expr_fits f, of-Binary o a b)
expr_fits (ge.one_unary d) = expr_fits d
expr_fits (ge.multiplied {o = o} {a = a} {b = b} d h f) = omega (arith, expr_fits d, expr_fits f, of-Binary o a b)
expr_fits (ge.signed {m = m} {a = a} h d) = omega (arith, expr_fits d, ap length (equation.calls-Sign m a))
expr_fits (ge.one_primary d) = expr_fits d
expr_fits (ge.digits {n = number}) = omega (arith, ap length (equation.calls-Digits number))
expr_fits (ge.text {content = content}) = omega (arith, ap length (equation.calls-Text content))
expr_fits (ge.truth {b = b} h) = omega (arith, ap length (equation.calls-Truth b))
expr_fits ge.null = omega (arith, ap length equation.calls-Null)
expr_fits (ge.cast {a = a} {ty = ty} d h) = omega (arith, expr_fits d, ap length (equation.calls-Cast a ty))
expr_fits (ge.case {x = x} {y = z} {ws = ws} d f c) = omega (arith, expr_fits d, expr_fits f, expr_fits c, of-Case x ws z)
expr_fits ge.no_operand = omega arith
expr_fits (ge.an_operand d) = omega (arith, expr_fits d)
expr_fits (ge.last_when d f) = omega (arith, expr_fits d, expr_fits f)
expr_fits (ge.more_whens d f h) = omega (arith, expr_fits d, expr_fits f, expr_fits h)
expr_fits ge.no_else = omega arith
expr_fits (ge.an_else d) = omega (arith, expr_fits d)
expr_fits (ge.call {name = name} {is_star = star} {es = es} h d) = omega (arith, expr_fits d, of-Call name star es)
expr_fits ge.no_arguments = omega arith
expr_fits ge.star_argument = omega arith
expr_fits (ge.some_arguments d) = expr_fits d
expr_fits (ge.name {name = name} h) = omega (arith, ap length (equation.calls-Name None name))
expr_fits (ge.name_in {qualifier = qualifier} {name = name} h k) = omega (arith, ap length (equation.calls-Name (Some qualifier) name))
expr_fits (ge.parens d) = omega (arith, expr_fits d)
expr_fits (ge.last_expr d) = omega (arith, expr_fits d)
expr_fits (ge.more_exprs d f) = omega (arith, expr_fits d, expr_fits f)

fits : {p : Phrase} {ts us : List Symbol} → Spells p ts us → cost p + length us ≤ length ts
fits (g.declared h k d f) = omega (arith, fits d, fits f)
fits (g.query h k d f) = omega (arith, fits d, fits f)
fits (g.last_column d) = omega (arith, fits d)
fits (g.more_columns d f) = omega (arith, fits d, fits f)
fits (g.a_column h k d) = omega (arith, fits d)
fits g.no_key = omega arith
fits (g.key_word h) = omega arith
fits (g.primary_key h k) = omega arith
fits g.no_props = omega arith
fits (g.some_props d) = omega (arith, fits d)
fits (g.all_props d) = omega (arith, fits d)
fits (g.last_prop d) = omega (arith, fits d)
fits (g.more_props d f) = omega (arith, fits d, fits f)
fits (g.text_prop h) = omega arith
fits (g.digits_prop h) = omega arith
fits (g.a_select {is = is} {h = h} d0 d1 d2 d3 d4 d5 d6 d7 d8) =
    omega (arith, fits d0, fits d1, fits d2, fits d3, fits d4, fits d5, fits d6, fits d7, fits d8, count-append (flat_map item_exprs is) (there h))
fits (g.last_item {i = i} d) = omega (arith, fits d, count-append (item_exprs i) [])
fits (g.more_items {i = i} {is = is} d f) = omega (arith, fits d, fits f, count-append (item_exprs i) (flat_map item_exprs is))
fits g.star = omega arith
fits (g.star_of h) = omega arith
fits (g.one d f) = omega (arith, expr_fits d, fits f)
fits g.no_alias = omega arith
fits (g.plain_alias h) = omega arith
fits (g.as_alias h) = omega arith
fits (g.a_source h d) = omega (arith, fits d)
fits g.no_join = omega arith
fits (g.a_join d f c) = omega (arith, fits d, fits f, expr_fits c)
fits g.join = omega arith
fits g.inner_join = omega arith
fits g.left_join = omega arith
fits g.left_outer_join = omega arith
fits g.full_join = omega arith
fits g.full_outer_join = omega arith
fits g.no_window = omega arith
fits (g.a_window d) = omega (arith, fits d)
fits (g.tumbling h k d f c) = omega (arith, fits d, fits f, fits c)
fits (g.hopping h k l d f c b) = omega (arith, fits d, fits f, fits c, fits b)
fits g.no_retention = omega arith
fits (g.a_retention h d) = omega (arith, fits d)
fits g.no_grace = omega arith
fits (g.a_grace h k d) = omega (arith, fits d)
fits (g.a_span h) = omega arith
fits g.no_filter = omega arith
fits (g.a_filter d) = omega (arith, expr_fits d)
fits g.no_group = omega arith
fits (g.a_group d) = omega (arith, expr_fits d)
fits g.no_partition = omega arith
fits (g.a_partition d) = omega (arith, expr_fits d)
fits g.no_having = omega arith
fits (g.a_having d) = omega (arith, expr_fits d)
fits g.no_emit = omega arith
fits (g.changes h) = omega arith

-- ---- statements

each-few : (es : List Expr) → count_all es ≤ 2000 → Each CallsFew es
each-few [] h = tt
each-few (a ∷ es) h = (omega (arith, h), each-few es (omega (arith, h)))

body-few : (b : StatementBody) → count_body b ≤ 2000 → HasFewCalls b
body-few (Declared cs ps) h = tt
body-few (Query ps q) h = each-few (late_exprs q) h

pub tree-few : (ts : List TokenKind) (st : Statement) → IsTreeOf ts st → HasFewCalls st.body
tree-few ts st h = at (cases_lt 2000 (length ts))
  where
    at : (2000 < length ts) ⊎ (length ts ≤ 2000) → HasFewCalls st.body
    at (inl many) = absurd (h.0.0 many)
    at (inr few) = body-few st.body (omega (arith, few, fits h.1, length-map ts symbol_of))

trees-few : (parts : List (List TokenKind)) (sts : List Statement) → AreTrees parts sts → Each (λ st. HasFewCalls st.body) sts
trees-few [] [] h = tt
trees-few [] (st ∷ sts) h = absurd h
trees-few (ts ∷ parts) [] h = absurd h
trees-few (ts ∷ parts) (st ∷ sts) h = (tree-few ts st h.0, trees-few parts sts h.1)

pub parsed-few : (sts : List Statement) → AreParsed sts → All (λ st. HasFewCalls st.body) sts
parsed-few sts h = All-from_recursion (λ st. HasFewCalls st.body) sts (trees-few h.0 sts h.1)
