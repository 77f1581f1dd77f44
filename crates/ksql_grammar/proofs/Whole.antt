-- Reading whole expressions, and lists of them.
use Rattle.std.proofs.Common.{◌≡◌, ℕ, suc, ◌<◌, ◌≤◌, List, [], ◌∷◌, length, Option, Some, None, refl, sym, ap, ◌∙◌, arith}
use Rattle.std.proofs.lemmas.Option.{some_pair_parts}
use Rattle.ksql_lexer.specs.declared.token.Mark.{Mark}
use Rattle.ksql_grammar.specs.declared.symbol.Keyword.{Keyword}
use Rattle.ksql_grammar.specs.declared.symbol.Symbol.{Symbol}
use Rattle.ksql_grammar.specs.declared.symbol.Symbol.TheVariants.{Key, Sign}
use Rattle.expression_trees.specs.declared.tree.Expr.{Expr}
use Rattle.ksql_grammar.specs.Grammar.{Spells, at, exprs, expr}
use Rattle.ksql_grammar.specs.Reading.{EndsExpr, EndsExprs}
use Rattle.ksql_grammar.specs.declared.symbol.Keyword.TheVariants as key
use Rattle.ksql_grammar.specs.Expressions.{after_key, after_sign, list_of}
use Rattle.expression_trees.specs.Options.{◌>>=◌}
use Rattle.ksql_grammar.specs.Expressions as r
use Rattle.ksql_grammar.proofs.Steps.{If, if_some, key_found, sign_found}
use Rattle.ksql_grammar.proofs.Takes.{takes}
use Rattle.ksql_grammar.proofs.Ends.{Rest, ends_expr, rest_ends}
use Rattle.ksql_grammar.proofs.Found.{Reads, AWhen, within_found, when_found, exprs_found}
use Rattle.ksql_grammar.proofs.Chains.{TakesOne}
use Rattle.ksql_grammar.proofs.Only.{EndsListed, expr_whole, exprs_whole, only}

pub within_takes : (n : ℕ) → TakesOne (r.within n)
within_takes n ts x h = takes (if_some (r.within n ts) (Reads expr ts) x (within_found n ts) h)

pub when_takes : (n : ℕ) → TakesOne (r.when (r.within n))
when_takes n ts x h =
    let w = if_some (r.when (r.within n) ts) (AWhen ts) x (when_found (r.within n) (within_found n) ts) h in
    let t = takes w.4 in let u = takes w.5 in omega arith

pub key_fewer : (k : Keyword) (ts us : List Symbol) → after_key k ts ≡ Some us → length us < length ts
key_fewer k ts us h = omega (arith, ap length (if_some (after_key k ts) (λ us. ts ≡ Key k ∷ us) us (key_found k ts) h))

pub sign_fewer : (m : Mark) (ts us : List Symbol) → after_sign m ts ≡ Some us → length us < length ts
sign_fewer m ts us h = omega (arith, ap length (if_some (after_sign m ts) (λ us. ts ≡ Sign m ∷ us) us (sign_found m ts) h))

-- what is spelled is read if the allowed depth is the number of symbols
pub expression_only : (a : Expr) (ts us : List Symbol) → Spells (at expr a) ts us → EndsExpr us → r.within (suc (length ts)) ts ≡ Some (a, us)
expression_only a ts us d ends = expr_whole (length ts) a ts us (only d (length ts) (omega arith)) (rest_ends us ends)

rest_listed : (ts : List Symbol) → EndsExprs ts → Rest EndsListed ts
rest_listed [] h = tt
rest_listed (s ∷ ts) h = (ends_expr s h.0, h.1)

pub expressions_only : (es : List Expr) (ts us : List Symbol) → Spells (exprs es) ts us → EndsExprs us → r.exprs (r.within (suc (length ts))) ts ≡ Some (es, us)
expressions_only es ts us d ends = exprs_whole (length ts) es ts us (omega arith) (only d) (rest_listed us ends)

-- the first WHEN
pub whens_start : (n : ℕ) (ts us : List Symbol) → after_key key.When ts ≡ Some us → list_of (r.when (r.within n)) (after_key key.When) (suc (length us)) us ≡ r.whens (r.within n) ts
unfolding r.whens
whens_start n ts us h =
    ap (λ k. list_of (r.when (r.within n)) (after_key key.When) k us) (sym (ap length (if_some (after_key key.When ts) (λ us. ts ≡ Key key.When ∷ us) us (key_found key.When ts) h)))
    ∙ sym (ap (λ o. o >>= list_of (r.when (r.within n)) (after_key key.When) (length ts)) h)

-- what ends an expression leaves only one
pub one_expression : (ts us vs : List Symbol) (a b : Expr) → Spells (at expr a) ts us → Spells (at expr b) ts vs → EndsExpr us → EndsExpr vs → (a ≡ b) × (us ≡ vs)
one_expression ts us vs a b d f ends stops = some_pair_parts a b us vs (sym (expression_only a ts us d ends) ∙ expression_only b ts vs f stops)

pub one_expressions : (ts us vs : List Symbol) (ds es : List Expr) → Spells (exprs ds) ts us → Spells (exprs es) ts vs → EndsExprs us → EndsExprs vs → (ds ≡ es) × (us ≡ vs)
one_expressions ts us vs ds es d f ends stops = some_pair_parts ds es us vs (sym (expressions_only ds ts us d ends) ∙ expressions_only es ts vs f stops)
