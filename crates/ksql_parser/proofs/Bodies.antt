-- The parts of what follows the name of a statement, without queries.
use Rattle.std.proofs.Common.{◌≡◌, List, [], ◌∷◌, None, refl, sym, ap, ◌∙◌, subst}
use Rattle.std.proofs.lemmas.Option.{none-some}
use Rattle.ksql_lexer.specs.declared.token.Mark.TheVariants as mark
use Rattle.ksql_grammar.specs.declared.symbol.Keyword.TheVariants as key
use Rattle.ksql_grammar.specs.declared.symbol.Symbol.{Symbol}
use Rattle.ksql_grammar.specs.declared.symbol.Symbol.TheVariants.{Key, Sign}
use Rattle.statement_trees.specs.declared.tree.ColumnText.{ColumnText}
use Rattle.statement_trees.specs.declared.tree.Property.{Property}
use Rattle.statement_trees.specs.declared.tree.StatementBody.{StatementBody}
use Rattle.statement_trees.specs.declared.tree.StatementBody.TheVariants.{Declared, Query}
use Rattle.ksql_parser.specs.Grammar as g
use Rattle.ksql_parser.specs.Grammar.{Spells}
use Rattle.ksql_grammar.specs.Expressions.{after_key}
use Rattle.ksql_parser.specs.Statements.{SpellsDeclared}
use Rattle.ksql_parser.proofs.Steps.{behind}
use Rattle.ksql_grammar.proofs.Steps.{key_there}
use Rattle.ksql_parser.proofs.Only.{both}
use Rattle.ksql_parser.proofs.Readings.{key_read}

-- the parentheses around properties
pub props_parts : (ps : List Property) (ts us : List Symbol) → Spells (g.props ps) ts us
    → (vs : List Symbol) × (ts ≡ Sign mark.Open ∷ vs) × Spells (g.prop_list ps) vs (Sign mark.Close ∷ us)
props_parts ps ts us (g.all_props {ts = vs} d) = (vs, refl, d)

-- properties follow WITH
pub with_there : (ps : List Property) (ts us rest end : List Symbol) → ts ≡ Key key.With ∷ us → end ≡ Key key.As ∷ rest → Spells (g.with_props ps) ts end → Spells (g.props ps) us end
with_there ps ts us rest end h e g.no_props = absurd (cc)
with_there ps ts us rest end h e (g.some_props {ts = vs} d) =
    behind (sym (key_read key.With (Key key.With ∷ vs) vs us refl (ap (after_key key.With) h ∙ key_there key.With us))) d

-- without WITH none do
pub with_absent : (ps found : List Property) (ts end : List Symbol) → found ≡ [] → None ≡ after_key key.With ts → Spells (g.with_props ps) ts end
    → both ps end ≡ both found ts
with_absent ps found ts end e h g.no_props = ap (λ qs. both qs ts) (sym e)
with_absent ps found ts end e h (g.some_props {ts = vs} d) = absurd (none-some vs (h ∙ key_there key.With vs))

pub no_with : (ps : List Property) (ts : List Symbol) → ps ≡ [] → Spells (g.with_props ps) ts ts
no_with ps ts e = subst (λ qs. Spells (g.with_props qs) ts ts) (sym e) g.no_props

-- columns, `)`, WITH and properties
pub declared_parts : (b : StatementBody) (ts us : List Symbol) → SpellsDeclared b ts us
    → (cs : List ColumnText) × (ps : List Property) × (vs : List Symbol) × (b ≡ Declared cs ps) × Spells (g.columns cs) ts (Sign mark.Close ∷ Key key.With ∷ vs) × Spells (g.props ps) vs us
declared_parts (Declared cs ps) ts us h = (cs, ps, h.0, refl, h.1, h.2)
declared_parts (Query ps q) ts us h = absurd h
