-- The trees of the demo's script.
use Rattle.std.proofs.Common.{◌≡◌, ◌∙◌, refl, sym, subst, ℕ, ◌+◌, ◌<◌, ◌≤◌, true, false, List, [], ◌∷◌, ◌++◌, codes, length, min, take, count_by, arith}
use Rattle.std.specs.List.{list_any}
use Rattle.std.proofs.lemmas.Bool.{false≢true}
use Rattle.std.proofs.lemmas.List.{length-take}
use Rattle.std.proofs.lemmas.List.Sums.{count_by-le-length}
use Rattle.std.specs.Prelude.{Option, None, Some, Ok}
use Rattle.ksql_types.specs.declared.value.SqlType.TheVariants as sql
use Rattle.ksql_lexer.specs.declared.token.TokenKind.{TokenKind}
use Rattle.expression_trees.specs.declared.tree.Expr.{Expr}
use Rattle.expression_trees.specs.declared.tree.Expr.TheVariants as e
use Rattle.statement_trees.specs.declared.tree.ColumnText.{ColumnText}
use Rattle.statement_trees.specs.declared.tree.KeyMark.TheVariants as keyed
use Rattle.statement_trees.specs.declared.tree.Property.{Property}
use Rattle.statement_trees.specs.declared.tree.PropertyValue.TheVariants as value
use Rattle.statement_trees.specs.declared.tree.Select.{Select}
use Rattle.statement_trees.specs.declared.tree.SelectItem.{SelectItem}
use Rattle.statement_trees.specs.declared.tree.SelectItem.TheVariants.{One}
use Rattle.statement_trees.specs.declared.tree.Statement.{Statement}
use Rattle.statement_trees.specs.declared.tree.StatementBody.TheVariants.{Declared, Query}
use Rattle.statement_trees.specs.declared.tree.Unit.TheVariants as unit
use Rattle.statement_trees.specs.declared.tree.WindowText.{WindowText}
use Rattle.statement_trees.specs.declared.tree.WindowText.TheVariants.{Tumbling}
use Rattle.ksql_grammar.specs.declared.symbol.Symbol.{Symbol}
use Rattle.ksql_grammar.specs.Grammar as g
use Rattle.ksql_grammar.specs.Symbols.{keyword_of}
use Rattle.ksql_parser.specs.Grammar as s
use Rattle.ksql_parser.specs.Limits.{IsTooDeep, is_closing, is_opening, is_too_large}
use Rattle.ksql_parser.specs.Script.{AreTrees, IsTreeOf, statements}
use Rattle.ksql_script.specs.Reading.{Reads, all_trees}
use Rattle.demo_files.specs.Demo.{demo_script}
use Rattle.schedule_laws.proofs.DemoTokens.{demo-text, demo-tokens, demo_kinds, line_one, line_two, line_three, line_four, line_five, line_six}

-- ---- the trees

-- a plain name
abbrev pub name : List ℕ → Expr
name word = e.Name None word

-- COUNT(*)
abbrev pub count_all : Expr
count_all = e.Call (codes "COUNT") true []

-- SUM of a name
abbrev pub sum_of : List ℕ → Expr
sum_of word = e.Call (codes "SUM") false (name word ∷ [])

-- the columns of HITS
abbrev pub hits_columns : List ColumnText
hits_columns =
    record { name = codes "ID"; ty = sql.Big; mark = keyed.Key } ∷ record { name = codes "PAGE"; ty = sql.Text; mark = keyed.Plain }
    ∷ record { name = codes "N"; ty = sql.Int; mark = keyed.Plain } ∷ []

-- its properties
abbrev pub hits_properties : List Property
hits_properties =
    record { name = codes "KAFKA_TOPIC"; value = value.Text (codes "hits") } ∷ record { name = codes "VALUE_FORMAT"; value = value.Text (codes "JSON") }
    ∷ record { name = codes "PARTITIONS"; value = value.Digits 4 } ∷ []

-- the first statement
abbrev pub hits : Statement
hits = record { table = false; name = codes "HITS"; body = Declared hits_columns hits_properties }

-- a query of HITS by page
abbrev pub by_page : List SelectItem → Option WindowText → Select
by_page items window = record {
  items = items;
  source = record { name = codes "HITS"; alias = None };
  join = None;
  window = window;
  filter = None;
  group = name (codes "PAGE") ∷ [];
  partition = None;
  having = None;
}

-- the page, the count, and more items
abbrev pub page_and_count : List SelectItem → List SelectItem
page_and_count more = One (name (codes "PAGE")) None ∷ One count_all (Some (codes "C")) ∷ more

-- the query of the second statement
abbrev pub pages_select : Select
pages_select = by_page (page_and_count (One (sum_of (codes "N")) (Some (codes "TOTAL")) ∷ [])) None

-- the second statement
abbrev pub pages : Statement
pages = record { table = true; name = codes "PAGES"; body = Query [] pages_select }

-- the query of the third statement
abbrev pub minutes_select : Select
minutes_select = by_page (page_and_count []) (Some (Tumbling (record { digits = 1; unit = unit.Minute }) None None))

-- the third statement
abbrev pub minutes : Statement
minutes = record { table = true; name = codes "MINUTES"; body = Query [] minutes_select }

-- ---- the grammar

alone : {a : Expr} {ts us : List Symbol} → g.Spells (g.at g.primary a) ts us → g.Spells (g.at g.expr a) ts us
alone spelled = g.one_conj (g.one_neg (g.one_pred (g.one_sum (g.one_prod (g.one_unary (g.one_primary spelled))))))

hits-spelled : s.IsSpelledBy hits (line_one ++ line_two)
unfolding keyword_of
hits-spelled =
    s.declared refl refl
    (s.more_columns (s.a_column refl refl (s.key_word refl)) (s.more_columns (s.a_column refl refl s.no_key) (s.last_column (s.a_column refl refl s.no_key))))
    (s.all_props (s.more_props (s.text_prop refl) (s.more_props (s.text_prop refl) (s.last_prop (s.digits_prop refl)))))

pages-spelled : s.IsSpelledBy pages (line_three ++ line_four)
unfolding keyword_of
pages-spelled =
    s.query refl refl s.no_props
    (s.a_select
    (s.more_items (s.one (alone (g.name refl)) s.no_alias)
    (s.more_items (s.one (alone (g.call refl g.star_argument)) (s.as_alias refl))
    (s.last_item (s.one (alone (g.call refl (g.some_arguments (g.last_expr (alone (g.name refl)))))) (s.as_alias refl)))))
    (s.a_source refl s.no_alias) s.no_join s.no_window s.no_filter (s.a_group (g.last_expr (alone (g.name refl)))) s.no_partition s.no_having s.no_emit)

minutes-spelled : s.IsSpelledBy minutes (line_five ++ line_six)
unfolding keyword_of
minutes-spelled =
    s.query refl refl s.no_props
    (s.a_select
    (s.more_items (s.one (alone (g.name refl)) s.no_alias) (s.last_item (s.one (alone (g.call refl g.star_argument)) (s.as_alias refl))))
    (s.a_source refl s.no_alias) s.no_join (s.a_window (s.tumbling refl refl (s.a_span refl) s.no_retention s.no_grace)) s.no_filter
    (s.a_group (g.last_expr (alone (g.name refl)))) s.no_partition s.no_having s.no_emit)

-- ---- the limits

not-deep : (ts : List TokenKind) → length ts ≤ 64 → IsTooDeep ts → ⊥
not-deep ts short deep =
    let few : count_by is_opening (take deep.0 ts) ≤ length (take deep.0 ts) = count_by-le-length is_opening (take deep.0 ts) in
    let part : length (take deep.0 ts) ≡ min deep.0 (length ts) = length-take deep.0 ts in
    let more : count_by is_closing (take deep.0 ts) + 64 < count_by is_opening (take deep.0 ts) = deep.1 in
    omega (arith, more, few, part, short)

tree-of : (ts : List TokenKind) (st : Statement) → length ts ≤ 64 → list_any is_too_large ts ≡ false → s.IsSpelledBy st ts → IsTreeOf ts st
tree-of ts st short small spelled = (
  (λ many. omega (arith, many, short), (not-deep ts short, (λ large. false≢true (sym small ∙ large), (λ h. h.0 (st, spelled), (λ none. none (st, spelled), tt))))),
  spelled,
)

-- the trees of the script
abbrev pub demo_trees : List Statement
demo_trees = hits ∷ pages ∷ minutes ∷ []

pub demo-trees : AreTrees (statements demo_kinds) demo_trees
demo-trees = (tree-of _ hits (omega arith) refl hits-spelled, (tree-of _ pages (omega arith) refl pages-spelled, (tree-of _ minutes (omega arith) refl minutes-spelled, tt)))

-- the script is read as these trees
pub demo-reads : Reads demo_script (Ok demo_trees)
demo-reads = let ts = demo-tokens in all_trees demo-text ts.2 (subst (λ (ks : List TokenKind). AreTrees (statements ks) demo_trees) (sym ts.1) demo-trees)
