-- Where each clause of a query ends, before a later clause or at the end.
use Rattle.std.proofs.Common.{◌≡◌, ℕ, suc, List, [], ◌∷◌, length, Option, Some, None, refl, sym}
use Rattle.std.proofs.lemmas.Option.{some_pair_parts}
use Rattle.ksql_grammar.specs.declared.symbol.Keyword.TheVariants as key
use Rattle.ksql_grammar.specs.declared.symbol.Symbol.{Symbol}
use Rattle.ksql_grammar.specs.declared.symbol.Symbol.TheVariants.{Key}
use Rattle.expression_trees.specs.declared.tree.Expr.{Expr}
use Rattle.statement_trees.specs.declared.tree.JoinWord.{JoinWord}
use Rattle.ksql_parser.specs.Grammar as g
use Rattle.ksql_grammar.specs.Grammar.{Spells as SpellsExpr, at, expr, exprs}
use Rattle.ksql_parser.specs.Grammar.{Phrase, Spells}
use Rattle.ksql_grammar.specs.Reading.{EndsExpr, EndsExprs}
use Rattle.ksql_grammar.specs.Expressions.{after_key}
use Rattle.ksql_grammar.specs.Expressions as reading
use Rattle.ksql_grammar.proofs.Ends.{Rest}
use Rattle.ksql_grammar.proofs.Found.{Reads, within_found, exprs_found}
use Rattle.ksql_grammar.proofs.Whole.{expression_only, expressions_only}
use Rattle.ksql_parser.specs.Statements as r
use Rattle.ksql_parser.specs.Statements.{BeginsFrom, after_by}
use Rattle.ksql_parser.specs.Queries.{SpellsClauses}
use Rattle.ksql_parser.proofs.Steps.{behind, along}
use Rattle.ksql_grammar.proofs.Steps.{if_some}
use Rattle.ksql_parser.proofs.Found.{source_found, join_words_found, windowed_found, emit_found}
use Rattle.ksql_parser.proofs.Only.{both, HasExpr, filter_absent, filter_there, having_absent, having_there, partition_absent, partition_there, group_absent, group_there}
use Rattle.ksql_parser.proofs.UniqueParts.{NoAlias, source_read}
use Rattle.ksql_parser.proofs.UniqueClauses.{windowed_read, emit_read, group_from, partition_from, having_from}
use Rattle.ksql_parser.proofs.Joins.{join_absent, join_there}
use Rattle.ksql_script.proofs.Endings.{Settled, ends, Always, Spelt, SpeltExpr, settled_read, settled_given, settled_as, settled_then, key_here, by_here, some_key}

-- ---- expressions

pub some_expr : (ts : List Symbol) → Settled (SpeltExpr (at expr) ts) EndsExpr
some_expr ts =
    settled_read (reading.within (suc (length ts)) ts) (λ a us. SpellsExpr (at expr a) ts us)
    (λ x e. if_some (reading.within (suc (length ts)) ts) (Reads expr ts) x (within_found (suc (length ts)) ts) e)
    (λ a us d c. expression_only a ts us d c)

some_exprs : (ts : List Symbol) → Settled (SpeltExpr exprs ts) EndsExprs
some_exprs ts =
    let inner = reading.within (suc (length ts)) in
    settled_read (reading.exprs inner ts) (λ es us. SpellsExpr (exprs es) ts us)
    (λ x e. if_some (reading.exprs inner ts) (λ x. SpellsExpr (exprs x.0) ts x.1) x (exprs_found inner (within_found (suc (length ts))) ts) e)
    (λ es us d c. expressions_only es ts us d c)

-- ---- a clause that may be left out: after its words an expression

module _ (p : Option Expr → Phrase) (n : ℕ) (ts : List Symbol) (absent : Spells (p None) ts ts) where
  clause_at : (o : Option (List Symbol)) → ((us : List Symbol) → o ≡ Some us → (a : Expr) (vs : List Symbol) → SpellsExpr (at expr a) us vs → Spells (p (Some a)) ts vs)
      → (None ≡ o → (f : Option Expr) (vs : List Symbol) → Spells (p f) ts vs → both f vs ≡ both None ts)
      → ((us : List Symbol) → o ≡ Some us → (f : Option Expr) (vs : List Symbol) → BeginsFrom n vs → Spells (p f) ts vs → HasExpr f us vs)
      → Settled (Spelt p ts) (BeginsFrom n)
  clause_at None there left_out has = ends ts (None, absent) (λ vs s c. (some_pair_parts s.0 None vs ts (left_out refl s.0 vs s.1)).1)
  clause_at (Some us) there left_out has =
      settled_as (some_expr us) (λ vs s. (Some s.0, there us refl s.0 vs s.1))
      (λ vs s c. let h = has us refl s.0 vs c s.1 in ((h.0, h.2), h.3))

some_filter : (ts : List Symbol) → Settled (Spelt g.filter ts) (BeginsFrom 4)
some_filter ts =
    clause_at g.filter 4 ts g.no_filter (after_key key.Where ts) (λ us e a vs d. behind (key_here key.Where ts us e) (g.a_filter d))
    (λ e f vs d. filter_absent ts vs f e d) (λ us e f vs c d. filter_there ts us vs f (key_here key.Where ts us e) c d)

some_having : (ts : List Symbol) → Settled (Spelt g.having ts) (BeginsFrom 7)
some_having ts =
    clause_at g.having 7 ts g.no_having (after_key key.Having ts) (λ us e a vs d. behind (key_here key.Having ts us e) (g.a_having d))
    (λ e f vs d. having_absent ts vs f e d) (λ us e f vs c d. having_there ts us vs f (key_here key.Having ts us e) c d)

some_partition : (ts : List Symbol) → Settled (Spelt g.partition ts) (BeginsFrom 6)
some_partition ts =
    clause_at g.partition 6 ts g.no_partition (after_by key.Partition ts) (λ us e a vs d. behind (by_here key.Partition ts us e) (g.a_partition d))
    (λ e f vs d. partition_absent ts vs f e d) (λ us e f vs c d. partition_there ts us vs f (by_here key.Partition ts us e) c d)

some_group : (ts : List Symbol) → Settled (Spelt g.group ts) (BeginsFrom 5)
some_group ts = group_at (after_by key.Group ts) refl
  where
    group_at : (o : Option (List Symbol)) → after_by key.Group ts ≡ o → Settled (Spelt g.group ts) (BeginsFrom 5)
    group_at None e = ends ts ([], g.no_group) (λ vs s c. (some_pair_parts s.0 [] vs ts (group_absent ts vs s.0 [] refl (sym e) s.1)).1)
    group_at (Some us) e =
        let here = by_here key.Group ts us e in
        settled_as (some_exprs us) (λ vs s. (s.0, behind here (g.a_group s.1)))
        (λ vs s c. let h = group_there ts us vs s.0 here c s.1 in ((s.0, h.0), h.1))

pub some_clauses : (ts : List Symbol) → Settled (λ us. (c : _) × SpellsClauses c ts us) (BeginsFrom 7)
some_clauses ts =
    settled_as
    (settled_then (Spelt g.having)
    (settled_then (Spelt g.partition)
    (settled_then (Spelt g.group) (some_filter ts) some_group (λ vs ws s c. group_from s.1 c))
    some_partition (λ vs ws s c. partition_from s.1 c))
    some_having (λ vs ws s c. having_from s.1 c))
    (λ us p. (record { filter = p.1.1.1.0; group = p.1.1.2.0; partition = p.1.2.0; having = p.2.0 }, (p.1.1.0, p.1.0, p.0, p.1.1.1.1, p.1.1.2.1, p.1.2.1, p.2.1)))
    (λ us s c. let d = s.1 in ((d.2, (d.1, (d.0, (s.0.filter, d.3), (s.0.group, d.4)), (s.0.partition, d.5)), (s.0.having, d.6)), c))

-- ---- sources, joins and windows

pub some_source : (ts : List Symbol) → Settled (Spelt g.source ts) (Rest NoAlias)
some_source ts =
    settled_read (r.source ts) (λ s us. Spells (g.source s) ts us)
    (λ x e. if_some (r.source ts) (λ x. Spells (g.source x.0) ts x.1) x (source_found ts) e)
    (λ s us d c. source_read d c)

-- ON and an expression
on_expr : (ts : List Symbol) → Settled (λ vs. (us : List Symbol) × (ts ≡ Key key.On ∷ us) × SpeltExpr (at expr) us vs) EndsExpr
on_expr ts = settled_then (SpeltExpr (at expr)) (some_key {C = Always} key.On ts) some_expr (λ vs ws s c. tt)

pub some_joined : (ts : List Symbol) → Settled (Spelt g.joined ts) (BeginsFrom 2)
some_joined ts = join_at (r.join_words ts) refl
  where
    join_at : (o : Option (JoinWord × List Symbol)) → r.join_words ts ≡ o → Settled (Spelt g.joined ts) (BeginsFrom 2)
    join_at None e = ends ts (None, g.no_join) (λ vs s c. (some_pair_parts s.0 None vs ts (join_absent s.0 ts vs e s.1)).1)
    join_at (Some x) e =
        let words = if_some (r.join_words ts) (λ x. Spells (g.join_words x.0) ts x.1) x (join_words_found ts) e in
        settled_as
        (settled_then (λ us ws. (vs : List Symbol) × (us ≡ Key key.On ∷ vs) × SpeltExpr (at expr) vs ws) (settled_given {C = Always} (r.source x.1)) on_expr (λ vs ws s c. tt))
        (λ us p.
        let source = if_some (r.source x.1) (λ y. Spells (g.source y.0) x.1 y.1) (p.1.0, p.0) (source_found x.1) p.1.1 in
        (Some (record { kind = x.0; source = p.1.0; on = p.2.2.0 }), g.a_join words (along source p.2.1) p.2.2.1))
        (λ us s c.
        let h = join_there s.0 ts us x.0 x.1 words c s.1 in
        ((Key key.On ∷ h.2, (h.0, h.4), (h.2, refl, (h.1, h.5))), h.6))

pub some_windowed : (ts : List Symbol) → Settled (Spelt g.windowed ts) (BeginsFrom 3)
some_windowed ts =
    settled_read (r.windowed ts) (λ w us. Spells (g.windowed w) ts us)
    (λ x e. if_some (r.windowed ts) (λ x. Spells (g.windowed x.0) ts x.1) x (windowed_found ts) e)
    (λ w us d c. windowed_read d c)

pub some_emit : (ts : List Symbol) → Settled (Spells g.emit ts) (BeginsFrom 8)
some_emit ts = ends (r.emit ts) (emit_found ts) (λ vs d c. sym (emit_read d c))
