-- What is spelled as a statement is read.
use Rattle.std.proofs.Common.{◌≡◌, ℕ, Bool, List, [], ◌∷◌, Option, Some, None, refl, sym, ap, ◌∙◌, subst}
use Rattle.std.proofs.lemmas.Option.{none-some, some_pair_parts}
use Rattle.ksql_lexer.specs.declared.token.Mark.TheVariants as mark
use Rattle.ksql_grammar.specs.declared.symbol.Keyword.TheVariants as key
use Rattle.ksql_grammar.specs.declared.symbol.Symbol.{Symbol}
use Rattle.ksql_grammar.specs.declared.symbol.Symbol.TheVariants.{Key, Sign}
use Rattle.statement_trees.specs.declared.tree.Property.{Property}
use Rattle.statement_trees.specs.declared.tree.Select.{Select}
use Rattle.statement_trees.specs.declared.tree.Statement.{Statement}
use Rattle.statement_trees.specs.declared.tree.StatementBody.{StatementBody}
use Rattle.statement_trees.specs.declared.tree.StatementBody.TheVariants.{Declared, Query}
use Rattle.ksql_grammar.specs.Symbols.{name_of}
use Rattle.ksql_parser.specs.Grammar as g
use Rattle.ksql_parser.specs.Grammar.{Spells, table_of}
use Rattle.ksql_grammar.specs.Expressions.{after_sign, first}
use Rattle.expression_trees.specs.Options.{◌>>=◌}
use Rattle.ksql_parser.specs.Statements as r
use Rattle.ksql_parser.proofs.Steps.{behind, bind_is}
use Rattle.ksql_grammar.proofs.Steps.{key_there, sign_there, first_there}
use Rattle.ksql_parser.proofs.Found.{Head}
use Rattle.ksql_parser.proofs.Only.{both}
use Rattle.ksql_parser.proofs.Calls.{same_tail}

head_there : (s n : Symbol) (t : Bool) (name : List ℕ) (ts : List Symbol) → table_of s ≡ Some t → name_of n ≡ Some name → r.head (Key key.Create ∷ s ∷ n ∷ ts) ≡ both (t, name) ts
unfolding r.head
head_there s n t name ts h k =
    bind_is (λ us. first table_of us >>= λ x. first name_of x.1 >>= λ m. both (x.0, m.0) m.1) (key_there key.Create (s ∷ n ∷ ts))
    (bind_is (λ x. first name_of x.1 >>= λ m. both (x.0, m.0) m.1) (first_there table_of s (n ∷ ts) t h)
    (bind_is (λ m. both (t, m.0) m.1) (first_there name_of n ts name k) refl))

-- what follows the name of what was spelled
abbrev pub HasBody : Statement → List Symbol → List Symbol → Type 0
HasBody s ts rest = (us : List Symbol) × (r.head ts ≡ both (s.table, s.name) us) × r.SpellsBody s.body us rest

pub body_of : (s : Statement) (ts rest : List Symbol) → Spells (g.statement s) ts rest → HasBody s ts rest
body_of s ts rest (g.declared {r = w} {n} {t} {name} {ts = us} {us = vs} h k c p) =
    (Sign mark.Open ∷ us, head_there w n t name (Sign mark.Open ∷ us) h k, (us, refl, (vs, c, p)))
body_of s ts rest (g.query {r = w} {n} {t} {name} {ts = us} {us = vs} h k c p) = (us, head_there w n t name us h k, (vs, c, p))

abbrev statement_with : Bool → List ℕ → StatementBody → Statement
statement_with t name b = record { table = t; name = name; body = b }

pub statement_found : (t : Bool) (name : List ℕ) (b : StatementBody) (ts us rest : List Symbol) → Head ts ((t, name), us) → r.SpellsBody b us rest
    → Spells (g.statement (record { table = t; name = name; body = b })) ts rest
statement_found t name (Declared cs ps) ts us rest h d =
    behind (h.2 ∙ ap (λ x. Key key.Create ∷ h.0 ∷ h.1 ∷ x) d.1) (g.declared h.3 h.4 d.2.1 d.2.2)
statement_found t name (Query ps q) ts us rest h d = behind h.2 (g.query h.3 h.4 d.1 d.2)

-- with `(` a declaration begins, and else a query
pub declared_body : (b : StatementBody) (ts us rest : List Symbol) → ts ≡ Sign mark.Open ∷ us → r.SpellsDeclared b us rest → r.SpellsBody b ts rest
declared_body (Declared cs ps) ts us rest e d = (us, e, d)
declared_body (Query ps q) ts us rest e d = absurd d

pub query_body : (b : StatementBody) (ts rest : List Symbol) → r.SpellsQuery b ts rest → r.SpellsBody b ts rest
query_body (Declared cs ps) ts rest d = absurd d
query_body (Query ps q) ts rest d = d

no_open : (ps : List Property) (ts us vs ws : List Symbol) → ts ≡ Sign mark.Open ∷ us → vs ≡ Key key.As ∷ ws → Spells (g.with_props ps) ts vs → ⊥
no_open ps ts us vs ws e f g.no_props = let h : Sign mark.Open ∷ us ≡ Key key.As ∷ ws = sym e ∙ f in cc
no_open ps ts us vs ws e f (g.some_props d) = cc

pub body_declared : (b : StatementBody) (ts us rest : List Symbol) → ts ≡ Sign mark.Open ∷ us → r.SpellsBody b ts rest → r.SpellsDeclared b us rest
body_declared (Declared cs ps) ts us rest e d =
    subst (λ x. r.SpellsDeclared (Declared cs ps) x rest) (same_tail (Sign mark.Open) (Sign mark.Open) d.0 us (sym d.1 ∙ e)) d.2
body_declared (Query ps q) ts us rest e d = absurd (no_open ps ts us (Key key.As ∷ d.0) d.0 e refl d.1)

pub body_query : (b : StatementBody) (ts rest : List Symbol) → after_sign mark.Open ts ≡ None → r.SpellsBody b ts rest → r.SpellsQuery b ts rest
body_query (Declared cs ps) ts rest h d = absurd (none-some d.0 (sym h ∙ ap (after_sign mark.Open) d.1 ∙ sign_there mark.Open d.0))
body_query (Query ps q) ts rest h d = d

-- the two parts of a query
abbrev pub HasQuery : StatementBody → List Symbol → List Symbol → Type 0
HasQuery b ts rest = (ps : List Property) × (q : Select) × (us : List Symbol) × (b ≡ Query ps q) × Spells (g.with_props ps) ts (Key key.As ∷ us) × Spells (g.select q) us rest

pub query_parts : (b : StatementBody) (ts rest : List Symbol) → r.SpellsQuery b ts rest → HasQuery b ts rest
query_parts (Declared cs ps) ts rest d = absurd d
query_parts (Query ps q) ts rest d = (ps, q, d.0, refl, d.1, d.2)

pub query_read : (b : StatementBody) (ps qs : List Property) (p q : Select) (us vs : List Symbol) → b ≡ Query ps p → ps ≡ qs → p ≡ q → us ≡ vs → both b us ≡ both (Query qs q) vs
query_read b ps qs p q us vs h a c e = ap (λ x. both x us) h ∙ (λ i. both (Query (a i) (c i)) (e i))

pub statement_read : (s : Statement) (p : Bool × List ℕ) (b : StatementBody) → ◌≡◌ {A = Bool × List ℕ} (s.table, s.name) p → s.body ≡ b → Some s ≡ Some (statement_with p.0 p.1 b)
statement_read s p b h e = λ i. Some (statement_with (h i).0 (h i).1 (e i))
