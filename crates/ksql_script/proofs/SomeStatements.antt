-- Where a statement ends: all of the symbols are one statement, or they are none.
use Rattle.std.proofs.Common.{◌≡◌, suc, List, [], ◌∷◌, length, Option, Some, None, refl, sym, ap, ◌∙◌, arith}
use Rattle.std.proofs.lemmas.Option.{some_pair_parts}
use Rattle.ksql_lexer.specs.declared.token.Mark.TheVariants as mark
use Rattle.ksql_grammar.specs.declared.symbol.Keyword.TheVariants as key
use Rattle.ksql_grammar.specs.declared.symbol.Symbol.{Symbol}
use Rattle.ksql_grammar.specs.declared.symbol.Symbol.TheVariants.{Key, Sign}
use Rattle.statement_trees.specs.declared.tree.StatementBody.{StatementBody}
use Rattle.statement_trees.specs.declared.tree.StatementBody.TheVariants.{Declared, Query}
use Rattle.ksql_parser.specs.Grammar as g
use Rattle.ksql_parser.specs.Grammar.{Spells}
use Rattle.ksql_grammar.specs.Expressions.{after_key, after_sign, list_of}
use Rattle.ksql_parser.specs.Statements as r
use Rattle.ksql_parser.proofs.Steps.{behind, along}
use Rattle.ksql_grammar.proofs.Steps.{if_some}
use Rattle.ksql_parser.proofs.Found.{Head, head_found}
use Rattle.ksql_parser.proofs.Declared.{Signed, columns_found, columns_only, properties_found, properties_only}
use Rattle.ksql_parser.proofs.Bodies.{props_parts, with_there, with_absent, declared_parts}
use Rattle.ksql_parser.proofs.Wholes.{body_of, statement_found, declared_body, query_body, body_declared, body_query, query_parts}
use Rattle.ksql_script.proofs.Endings.{Settled, ends, fails, Always, Spelt, settled_read, settled_given, settled_as, settled_by, settled_then, key_here, sign_here, some_key, some_sign}
use Rattle.ksql_script.proofs.SomeQueries.{IsEnd, some_select}

-- AS follows
abbrev IsAs : List Symbol → Type 0
IsAs us = (rest : List Symbol) × (us ≡ Key key.As ∷ rest)

-- ---- declarations

some_columns : (ts : List Symbol) → Settled (Spelt g.columns ts) (Signed mark.Close)
some_columns ts =
    let read = list_of r.column (after_sign mark.Comma) (suc (length ts)) ts in
    settled_read read (λ cs us. Spells (g.columns cs) ts us)
    (λ x e. if_some read (λ x. Spells (g.columns x.0) ts x.1) x (columns_found (suc (length ts)) ts) e)
    (λ cs us d c. columns_only cs ts us (suc (length ts)) (omega arith) c d)

some_list : (ts : List Symbol) → Settled (Spelt g.prop_list ts) (Signed mark.Close)
some_list ts =
    let read = list_of r.property (after_sign mark.Comma) (suc (length ts)) ts in
    settled_read read (λ ps us. Spells (g.prop_list ps) ts us)
    (λ x e. if_some read (λ x. Spells (g.prop_list x.0) ts x.1) x (properties_found (suc (length ts)) ts) e)
    (λ ps us d c. properties_only ps ts us (suc (length ts)) (omega arith) c d)

some_props : (ts : List Symbol) → Settled (Spelt g.props ts) Always
some_props ts =
    settled_as
    (settled_then (λ us vs. us ≡ Sign mark.Close ∷ vs)
    (settled_then (Spelt g.prop_list) (some_sign {C = Always} mark.Open ts) some_list (λ us vs s c. tt))
    (λ us. some_sign mark.Close us) (λ us vs s c. (vs, s)))
    (λ us p. (p.1.2.0, behind p.1.1 (g.all_props (along p.1.2.1 p.2))))
    (λ us s c. let h = props_parts s.0 ts us s.1 in ((Sign mark.Close ∷ us, (h.0, h.1, (s.0, h.2)), refl), c))

some_with_props : (ts : List Symbol) → Settled (Spelt g.with_props ts) IsAs
some_with_props ts = with_at (after_key key.With ts) refl
  where
    with_at : (o : Option (List Symbol)) → after_key key.With ts ≡ o → Settled (Spelt g.with_props ts) IsAs
    with_at None e = ends ts ([], g.no_props) (λ vs s c. (some_pair_parts s.0 [] vs ts (with_absent s.0 [] ts vs refl (sym e) s.1)).1)
    with_at (Some us) e =
        let here = key_here key.With ts us e in
        settled_as (some_props us) (λ vs s. (s.0, behind here (g.some_props s.1)))
        (λ vs s c. ((s.0, with_there s.0 ts us c.0 vs here c.1 s.1), tt))

some_declared : (ts : List Symbol) → Settled (λ us. (b : StatementBody) × r.SpellsDeclared b ts us) IsEnd
some_declared ts =
    settled_as
    (settled_then (Spelt g.props)
    (settled_then (λ us vs. us ≡ Key key.With ∷ vs)
    (settled_then (λ us vs. us ≡ Sign mark.Close ∷ vs) (some_columns ts) (λ us. some_sign {C = Always} mark.Close us) (λ us vs s c. (vs, s)))
    (λ us. some_key {C = Always} key.With us) (λ us vs s c. tt))
    some_props (λ us vs s c. tt))
    (λ us p. (Declared p.1.1.1.0 p.2.0, (p.0, along p.1.1.1.1 (p.1.1.2 ∙ ap (λ l. Sign mark.Close ∷ l) p.1.2), p.2.1)))
    (λ us s c. let h = declared_parts s.0 ts us s.1 in
    ((h.2, (Key key.With ∷ h.2, (Sign mark.Close ∷ Key key.With ∷ h.2, (h.0, h.4), refl), refl), (h.1, h.5)), tt))

some_query : (ts : List Symbol) → Settled (λ us. (b : StatementBody) × r.SpellsQuery b ts us) IsEnd
some_query ts =
    settled_as
    (settled_then (Spelt g.select)
    (settled_then (λ us vs. us ≡ Key key.As ∷ vs) (some_with_props ts) (λ us. some_key {C = Always} key.As us) (λ us vs s c. (vs, s)))
    some_select (λ us vs s c. tt))
    (λ us p. (Query p.1.1.0 p.2.0, (p.0, along p.1.1.1 p.1.2, p.2.1)))
    (λ us s c. let h = query_parts s.0 ts us s.1 in ((h.2, (Key key.As ∷ h.2, (h.0, h.4), refl), (h.1, h.5)), c))

-- ---- statements

abbrev Body : List Symbol → List Symbol → Type 0
Body ts us = (b : StatementBody) × r.SpellsBody b ts us

some_body : (ts : List Symbol) → Settled (Body ts) IsEnd
some_body ts = open_at (after_sign mark.Open ts) refl
  where
    open_at : (o : Option (List Symbol)) → after_sign mark.Open ts ≡ o → Settled (Body ts) IsEnd
    open_at None e = settled_as (some_query ts) (λ us s. (s.0, query_body s.0 ts us s.1)) (λ us s c. ((s.0, body_query s.0 ts us e s.1), c))
    open_at (Some vs) e =
        let here = sign_here mark.Open ts vs e in
        settled_as (some_declared vs) (λ us s. (s.0, declared_body s.0 ts vs us here s.1)) (λ us s c. ((s.0, body_declared s.0 ts vs us here s.1), c))

some_statement : (ts : List Symbol) → Settled (Spelt g.statement ts) IsEnd
some_statement ts =
    settled_by Body
    (λ us vs s t. (
      record { table = s.0.0; name = s.0.1; body = t.0 },
      statement_found s.0.0 s.0.1 t.0 ts us vs (if_some (r.head ts) (Head ts) (s.0, us) (head_found ts) s.1) t.1,
    ))
    (λ vs s e. let h = body_of s.0 ts vs s.1 in (h.0, ((s.0.table, s.0.name), h.1), tt, (s.0.body, h.2)))
    (settled_given {C = Always} (r.head ts)) (λ us s. some_body us)

-- all of the symbols together are a statement, or they are none
pub some_spelling : (ts : List Symbol) → Dec (Spelt g.statement ts [])
some_spelling ts = all (some_statement ts)
  where
    all : Settled (Spelt g.statement ts) IsEnd → Dec (Spelt g.statement ts [])
    all (ends [] s only) = yes s
    all (ends (x ∷ us) s only) = no (λ t. let clash : [] ≡ x ∷ us = only [] t refl in cc)
    all (fails none) = no (λ t. none [] t refl)
