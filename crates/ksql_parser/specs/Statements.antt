-- How the parts of a statement without expressions are read from the start of some symbols.
use Rattle.std.specs.Prelude.{◌≡◌, ◌≤◌, ℕ, Bool, true, false, if◌then◌else◌, List, [], ◌∷◌, Option, Some, None, option_map, bytes_eq, codes}
use Rattle.std.specs.Borrow.{Bor}
use Rattle.ksql_lexer.specs.declared.token.Mark.TheVariants as mark
use Rattle.ksql_grammar.specs.declared.symbol.Keyword.{Keyword}
use Rattle.ksql_grammar.specs.declared.symbol.Keyword.TheVariants as key
use Rattle.ksql_grammar.specs.declared.symbol.Symbol.{Symbol}
use Rattle.ksql_grammar.specs.declared.symbol.Symbol.TheVariants.{Key, Word, Text, Number, Sign}
use Rattle.statement_trees.specs.declared.tree.ColumnText.{ColumnText}
use Rattle.statement_trees.specs.declared.tree.KeyMark.{KeyMark}
use Rattle.statement_trees.specs.declared.tree.KeyMark.TheVariants as keyed
use Rattle.statement_trees.specs.declared.tree.Property.{Property}
use Rattle.statement_trees.specs.declared.tree.PropertyValue.{PropertyValue}
use Rattle.statement_trees.specs.declared.tree.PropertyValue.TheVariants as value
use Rattle.statement_trees.specs.declared.tree.Source.{Source}
use Rattle.statement_trees.specs.declared.tree.JoinWord.{JoinWord}
use Rattle.statement_trees.specs.declared.tree.JoinWord.TheVariants as how
use Rattle.statement_trees.specs.declared.tree.WindowText.{WindowText}
use Rattle.statement_trees.specs.declared.tree.WindowText.TheVariants.{Tumbling, Hopping}
use Rattle.statement_trees.specs.declared.tree.SpanText.{SpanText}
use Rattle.ksql_grammar.specs.Symbols.{name_of, type_of}
use Rattle.ksql_parser.specs.Grammar.{unit_of}
use Rattle.statement_trees.specs.declared.tree.StatementBody.{StatementBody}
use Rattle.statement_trees.specs.declared.tree.StatementBody.TheVariants.{Declared, Query}
use Rattle.ksql_parser.specs.Grammar.{Spells, table_of, columns, props, with_props, select}
use Rattle.ksql_grammar.specs.Expressions.{Reader, after_key, after_sign, first}
use Rattle.expression_trees.specs.Options.{◌>>=◌}

-- a value and the symbols after it, both borrowed
abbrev pub lent : {A : Type 0} → Bor A × Bor (List Symbol) → A × List Symbol
lent x = (x.0.now, x.1.now)

-- after this word, which isn't reserved
unfoldable pub after_word : List ℕ → List Symbol → Option (List Symbol)
after_word w (Word found ∷ ts) = if bytes_eq found w then Some ts else None
after_word w _ = None

-- after both words
unfoldable pub after_words : List ℕ → List ℕ → List Symbol → Option (List Symbol)
after_words v w ts = after_word v ts >>= after_word w

abbrev pub key_mark_at : List Symbol → Option (List Symbol) → Option (List Symbol) → KeyMark × List Symbol
key_mark_at ts (Some us) _ = (keyed.Key, us)
key_mark_at ts None (Some us) = (keyed.PrimaryKey, us)
key_mark_at ts None None = (keyed.Plain, ts)

-- [KEY | PRIMARY KEY]
unfoldable pub key_mark : List Symbol → KeyMark × List Symbol
key_mark ts = key_mark_at ts (after_word (codes "KEY") ts) (after_words (codes "PRIMARY") (codes "KEY") ts)

unfoldable pub column : Reader ColumnText
column ts = do
  n ← first name_of ts
  t ← first type_of n.1
  let m = key_mark t.1
  Some (record { name = n.0; ty = t.0; mark = m.0 }, m.1)

unfoldable pub property_value : Reader PropertyValue
property_value (Text content ∷ ts) = Some (value.Text content, ts)
property_value (Number n ∷ ts) = Some (value.Digits n, ts)
property_value _ = None

unfoldable pub property : Reader Property
property ts = do
  n ← first name_of ts
  us ← after_sign mark.Equal n.1
  v ← property_value us
  Some (record { name = n.0; value = v.0 }, v.1)

-- after AS, a name
unfoldable pub after_as : Reader (List ℕ)
after_as ts = after_key key.As ts >>= first name_of

abbrev pub alias_at : List Symbol → Option (List ℕ × List Symbol) → Option (List ℕ × List Symbol) → Option (Option (List ℕ) × List Symbol)
alias_at ts (Some n) _ = Some (Some n.0, n.1)
alias_at ts None (Some n) = Some (Some n.0, n.1)
alias_at ts None None = Some (None, ts)

-- [[AS] name]
unfoldable pub alias : Reader (Option (List ℕ))
alias ts = alias_at ts (after_as ts) (first name_of ts)

unfoldable pub source : Reader Source
source ts = do
  n ← first name_of ts
  a ← alias n.1
  Some (record { name = n.0; alias = a.0 }, a.1)

-- [INNER | LEFT [OUTER] | FULL [OUTER]] JOIN
unfoldable pub join_words : Reader JoinWord
join_words (Key key.Join ∷ ts) = Some (how.Inner, ts)
join_words (Key key.Inner ∷ Key key.Join ∷ ts) = Some (how.Inner, ts)
join_words (Key key.Left ∷ Key key.Join ∷ ts) = Some (how.Left, ts)
join_words (Key key.Left ∷ Key key.Outer ∷ Key key.Join ∷ ts) = Some (how.Left, ts)
join_words (Key key.Full ∷ Key key.Join ∷ ts) = Some (how.Full, ts)
join_words (Key key.Full ∷ Key key.Outer ∷ Key key.Join ∷ ts) = Some (how.Full, ts)
join_words _ = None

abbrev pub digits_of : Symbol → Option ℕ
digits_of (Number n) = Some n
digits_of _ = None

unfoldable pub span : Reader SpanText
span ts = do
  n ← first digits_of ts
  u ← first unit_of n.1
  Some (record { digits = n.0; unit = u.0 }, u.1)

abbrev pub span_at : List Symbol → Option (List Symbol) → Option (Option SpanText × List Symbol)
span_at ts (Some us) = span us >>= λ s. Some (Some s.0, s.1)
span_at ts None = Some (None, ts)

unfoldable pub after_retention : List Symbol → Option (List Symbol)
after_retention ts = after_sign mark.Comma ts >>= after_word (codes "RETENTION")

unfoldable pub after_grace : List Symbol → Option (List Symbol)
after_grace ts = after_sign mark.Comma ts >>= after_words (codes "GRACE") (codes "PERIOD")

-- [retention] [grace] ")"
unfoldable pub limits : Reader (Option SpanText × Option SpanText)
limits ts = do
  r ← span_at ts (after_retention ts)
  g ← span_at r.1 (after_grace r.1)
  us ← after_sign mark.Close g.1
  Some ((r.0, g.0), us)

-- "(" SIZE span
unfoldable pub size : Reader SpanText
size ts = do
  us ← after_sign mark.Open ts
  vs ← after_word (codes "SIZE") us
  span vs

-- after TUMBLING
unfoldable pub tumbling : Reader WindowText
tumbling ts = do
  s ← size ts
  l ← limits s.1
  Some (Tumbling s.0 l.0.0 l.0.1, l.1)

-- "," ADVANCE BY span
unfoldable pub advance : Reader SpanText
advance ts = do
  us ← after_sign mark.Comma ts
  vs ← after_word (codes "ADVANCE") us
  ws ← after_key key.By vs
  span ws

-- after HOPPING
unfoldable pub hopping : Reader WindowText
hopping ts = do
  s ← size ts
  a ← advance s.1
  l ← limits a.1
  Some (Hopping s.0 a.0 l.0.0 l.0.1, l.1)

abbrev pub window_at : Option (List Symbol) → Option (List Symbol) → Option (WindowText × List Symbol)
window_at (Some us) _ = tumbling us
window_at None (Some us) = hopping us
window_at None None = None

-- after WINDOW
unfoldable pub window : Reader WindowText
window ts = window_at (after_word (codes "TUMBLING") ts) (after_word (codes "HOPPING") ts)

abbrev pub windowed_at : List Symbol → Option (List Symbol) → Option (Option WindowText × List Symbol)
windowed_at ts (Some us) = window us >>= λ w. Some (Some w.0, w.1)
windowed_at ts None = Some (None, ts)

-- [WINDOW window]
unfoldable pub windowed : Reader (Option WindowText)
windowed ts = windowed_at ts (after_key key.Window ts)

-- the rest after an optional part
abbrev pub after_or_here : List Symbol → Option (List Symbol) → List Symbol
after_or_here ts (Some us) = us
after_or_here ts None = ts

unfoldable pub after_changes : List Symbol → Option (List Symbol)
after_changes ts = after_key key.Emit ts >>= after_word (codes "CHANGES")

-- [EMIT CHANGES]
unfoldable pub emit : List Symbol → List Symbol
emit ts = after_or_here ts (after_changes ts)

-- this reserved word and BY
unfoldable pub after_by : Keyword → List Symbol → Option (List Symbol)
after_by k ts = after_key k ts >>= after_key key.By

-- name "." "*"
unfoldable pub star_of : Reader (List ℕ)
star_of ts = do
  n ← first name_of ts
  us ← after_sign mark.Dot n.1
  vs ← after_sign mark.Star us
  Some (n.0, vs)

-- CREATE (STREAM | TABLE) name
unfoldable pub head : Reader (Bool × List ℕ)
head ts = do
  us ← after_key key.Create ts
  t ← first table_of us
  n ← first name_of t.1
  Some ((t.0, n.0), n.1)

-- the rank of a clause in a query, by the word that begins it; 0 if none does
abbrev pub place_of : Symbol → ℕ
place_of (Key key.Join) = 1
place_of (Key key.Inner) = 1
place_of (Key key.Left) = 1
place_of (Key key.Full) = 1
place_of (Key key.Window) = 2
place_of (Key key.Where) = 3
place_of (Key key.Group) = 4
place_of (Key key.Partition) = 5
place_of (Key key.Having) = 6
place_of (Key key.Emit) = 7
place_of _ = 0

-- the end, or a clause of this rank or a later one
abbrev pub BeginsFrom : ℕ → List Symbol → Type 0
BeginsFrom n [] = Unit {0}
BeginsFrom n (s ∷ ss) = n ≤ place_of s

-- whether a symbol can follow an item: a comma or FROM
abbrev pub ends_item : Symbol → Bool
ends_item (Sign mark.Comma) = true
ends_item (Key key.From) = true
ends_item _ = false

abbrev pub EndsItem : List Symbol → Type 0
EndsItem [] = ⊥
EndsItem (s ∷ ss) = ends_item s ≡ true

-- after the name of a statement and `(`: columns, `)`, WITH and properties
abbrev pub SpellsDeclared : StatementBody → List Symbol → List Symbol → Type 0
SpellsDeclared (Declared cs ps) ts vs =
    (us : List Symbol) × Spells (columns cs) ts (Sign mark.Close ∷ Key key.With ∷ us) × Spells (props ps) us vs
SpellsDeclared (Query ps q) ts vs = ⊥

-- after the name of a statement: [WITH props] AS select
abbrev pub SpellsQuery : StatementBody → List Symbol → List Symbol → Type 0
SpellsQuery (Declared cs ps) ts vs = ⊥
SpellsQuery (Query ps q) ts vs = (us : List Symbol) × Spells (with_props ps) ts (Key key.As ∷ us) × Spells (select q) us vs

-- after the name of a statement
abbrev pub SpellsBody : StatementBody → List Symbol → List Symbol → Type 0
SpellsBody (Declared cs ps) ts vs = (us : List Symbol) × (ts ≡ Sign mark.Open ∷ us) × SpellsDeclared (Declared cs ps) us vs
SpellsBody (Query ps q) ts vs = SpellsQuery (Query ps q) ts vs
