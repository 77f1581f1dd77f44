-- What is spelled in a clause of a query is read.
use Rattle.std.proofs.Common.{◌≡◌, ℕ, suc, ◌≤◌, Bool, true, false, List, [], ◌∷◌, Option, Some, None, Result, Ok, Err, refl, sym, ap, ap₂, ◌∙◌, subst, arith}
use Rattle.std.specs.Borrow.{Bor}
use Rattle.std.proofs.lemmas.Option.{none-some, same_Some}
use Rattle.ksql_lexer.specs.declared.token.Mark.TheVariants as mark
use Rattle.ksql_grammar.specs.declared.symbol.Keyword.{Keyword}
use Rattle.ksql_grammar.specs.declared.symbol.Keyword.TheVariants as key
use Rattle.ksql_grammar.specs.declared.symbol.Symbol.{Symbol}
use Rattle.ksql_grammar.specs.declared.symbol.Symbol.TheVariants.{Key, Word, Quoted, Text, Number, Sign}
use Rattle.expression_trees.specs.declared.tree.Expr.{Expr}
use Rattle.ksql_parser.specs.Grammar as g
use Rattle.ksql_grammar.specs.Grammar.{Spells as SpellsExpr, at, expr, exprs}
use Rattle.ksql_parser.specs.Grammar.{Spells}
use Rattle.ksql_grammar.specs.Reading.{Gives, with_rest, goes_on, is_comma, EndsExpr, EndsExprs}
use Rattle.ksql_grammar.specs.Expressions.{after_key}
use Rattle.ksql_grammar.specs.declared.fault.ReadError.{ReadError}
use Rattle.ksql_parser.specs.Statements.{place_of, BeginsFrom, after_by}
use Rattle.ksql_grammar.proofs.Found.{behind}
use Rattle.ksql_parser.proofs.Steps.{along, same_read, failed, bind_is}
use Rattle.ksql_grammar.proofs.Steps.{key_there}

-- where a clause begins, no expression continues
place_ends : (s : Symbol) → 1 ≤ place_of s → goes_on s ≡ false
place_ends (Word _) h = refl
place_ends (Quoted _) h = refl
place_ends (Text _) h = refl
place_ends (Number _) h = refl
place_ends (Sign _) h = absurd (omega (arith, h))
place_ends (Key key.Or) h = absurd (omega (arith, h))
place_ends (Key key.And) h = absurd (omega (arith, h))
place_ends (Key key.Not) h = absurd (omega (arith, h))
place_ends (Key key.Is) h = absurd (omega (arith, h))
place_ends (Key key.Between) h = absurd (omega (arith, h))
place_ends (Key key.In) h = absurd (omega (arith, h))
place_ends (Key key.Like) h = absurd (omega (arith, h))
place_ends (Key _) h = refl

pub clause_ends : (n : ℕ) (ts : List Symbol) → BeginsFrom (suc n) ts → EndsExpr ts
clause_ends n [] h = tt
clause_ends n (s ∷ ss) h = place_ends s (omega (arith, h))

tail_of : List Symbol → List Symbol
tail_of [] = []
tail_of (s ∷ ss) = ss

-- what is read: a tree, and the symbols after it
abbrev pub both : {A : Type 0} → A → List Symbol → Option (A × List Symbol)
both a ts = Some (a, ts)

-- the result of reading an expression, if there is one
abbrev pub OnlyAt : List Symbol → Result (Expr × Bor (List Symbol)) ReadError → Type 0
OnlyAt us r = (a : Expr) (rest : List Symbol) → SpellsExpr (at expr a) us rest → EndsExpr rest → Gives with_rest r (both a rest)

-- a clause that is there has an expression
abbrev pub HasExpr : Option Expr → List Symbol → List Symbol → Type 0
HasExpr f us rest = (a : Expr) × (f ≡ Some a) × SpellsExpr (at expr a) us rest × EndsExpr rest

pub clause_read : (f : Option Expr) (us rest : List Symbol) (x : Expr × Bor (List Symbol)) → HasExpr f us rest → OnlyAt us (Ok x) → both f rest ≡ both (Some x.0) x.1.now
clause_read f us rest x h only =
    let p = same_read x h.0 rest (only h.0 rest h.2 h.3) in
    ap (λ o. both o rest) h.1 ∙ (λ i. both (Some (p.0 i)) (p.1 i))

pub clause_failed : (f : Option Expr) (us rest : List Symbol) (e : ReadError) → HasExpr f us rest → OnlyAt us (Err e) → Gives (with_rest {A = Option Expr}) (Err e) (both f rest)
clause_failed f us rest e h only = failed (with_rest {A = Expr}) (with_rest {A = Option Expr}) e (h.0, rest) (f, rest) (only h.0 rest h.2 h.3)

late : (n : ℕ) (s : Symbol) (us rest : List Symbol) → rest ≡ s ∷ us → BeginsFrom n rest → n ≤ place_of s
late n s us rest e b = subst (BeginsFrom n) e b

pub filter_absent : (ts rest : List Symbol) (f : Option Expr) → None ≡ after_key key.Where ts → Spells (g.filter f) ts rest → both f rest ≡ both None ts
filter_absent ts rest f h g.no_filter = refl
filter_absent ts rest f h (g.a_filter {ts = us} d) = absurd (none-some us (h ∙ key_there key.Where us))

pub filter_there : (ts us rest : List Symbol) (f : Option Expr) → ts ≡ Key key.Where ∷ us → BeginsFrom 4 rest → Spells (g.filter f) ts rest → HasExpr f us rest
unfolding tail_of
filter_there ts us rest f e b (g.a_filter {a = a} d) = (a, refl, behind (sym (ap tail_of e)) d, clause_ends 3 rest b)
filter_there ts us rest f e b g.no_filter = absurd (omega (arith, late 4 (Key key.Where) us rest e b))

pub having_absent : (ts rest : List Symbol) (f : Option Expr) → None ≡ after_key key.Having ts → Spells (g.having f) ts rest → both f rest ≡ both None ts
having_absent ts rest f h g.no_having = refl
having_absent ts rest f h (g.a_having {ts = us} d) = absurd (none-some us (h ∙ key_there key.Having us))

pub having_there : (ts us rest : List Symbol) (f : Option Expr) → ts ≡ Key key.Having ∷ us → BeginsFrom 7 rest → Spells (g.having f) ts rest → HasExpr f us rest
unfolding tail_of
having_there ts us rest f e b (g.a_having {a = a} d) = (a, refl, behind (sym (ap tail_of e)) d, clause_ends 6 rest b)
having_there ts us rest f e b g.no_having = absurd (omega (arith, late 7 (Key key.Having) us rest e b))

by_there : (k : Keyword) (ts : List Symbol) → after_by k (Key k ∷ Key key.By ∷ ts) ≡ Some ts
unfolding after_by
by_there k ts = bind_is (after_key key.By) (key_there k (Key key.By ∷ ts)) (key_there key.By ts)

pub partition_absent : (ts rest : List Symbol) (f : Option Expr) → None ≡ after_by key.Partition ts → Spells (g.partition f) ts rest → both f rest ≡ both None ts
partition_absent ts rest f h g.no_partition = refl
partition_absent ts rest f h (g.a_partition {ts = us} d) = absurd (none-some us (h ∙ by_there key.Partition us))

pub partition_there : (ts us rest : List Symbol) (f : Option Expr) → ts ≡ Key key.Partition ∷ Key key.By ∷ us → BeginsFrom 6 rest → Spells (g.partition f) ts rest → HasExpr f us rest
unfolding tail_of
partition_there ts us rest f e b (g.a_partition {a = a} d) = (a, refl, behind (sym (ap (λ x. tail_of (tail_of x)) e)) d, clause_ends 5 rest b)
partition_there ts us rest f e b g.no_partition = absurd (omega (arith, late 6 (Key key.Partition) (Key key.By ∷ us) rest e b))

no_comma : (s : Symbol) → 1 ≤ place_of s → is_comma s ≡ false
no_comma (Key _) h = refl
no_comma (Word _) h = refl
no_comma (Quoted _) h = refl
no_comma (Text _) h = refl
no_comma (Number _) h = refl
no_comma (Sign _) h = absurd (omega (arith, h))

pub clause_ends_list : (n : ℕ) (ts : List Symbol) → BeginsFrom (suc n) ts → EndsExprs ts
clause_ends_list n [] h = tt
clause_ends_list n (s ∷ ss) h = (place_ends s (omega (arith, h)), no_comma s (omega (arith, h)))

pub empty_group : (es : List Expr) (ts : List Symbol) → es ≡ [] → Spells (g.group es) ts ts
empty_group es ts e = subst (λ xs. Spells (g.group xs) ts ts) (sym e) g.no_group

pub group_absent : (ts rest : List Symbol) (es found : List Expr) → found ≡ [] → None ≡ after_by key.Group ts → Spells (g.group es) ts rest → both es rest ≡ both found ts
group_absent ts rest es found e h g.no_group = ap (λ xs. both xs ts) (sym e)
group_absent ts rest es found e h (g.a_group {ts = us} d) = absurd (none-some us (h ∙ by_there key.Group us))

pub group_there : (ts us rest : List Symbol) (es : List Expr) → ts ≡ Key key.Group ∷ Key key.By ∷ us → BeginsFrom 5 rest → Spells (g.group es) ts rest
    → SpellsExpr (exprs es) us rest × EndsExprs rest
unfolding tail_of
group_there ts us rest es e b (g.a_group d) = (behind (sym (ap (λ x. tail_of (tail_of x)) e)) d, clause_ends_list 4 rest b)
group_there ts us rest es e b g.no_group = absurd (omega (arith, late 5 (Key key.Group) (Key key.By ∷ us) rest e b))
