-- The grammar of statements. `Spells p ts rest` says that the symbols ts spell p and then the rest. There is one rule
-- for each alternative, and above each group of rules stands its line of the grammar.
use Rattle.std.specs.Prelude.{◌≡◌, ℕ, Bool, true, false, List, [], ◌∷◌, Option, Some, None, map, codes}
use Rattle.ksql_lexer.specs.declared.token.Mark.TheVariants as mark
use Rattle.ksql_lexer.specs.declared.token.TokenKind.{TokenKind}
use Rattle.ksql_types.specs.declared.value.SqlType.{SqlType}
use Rattle.expression_trees.specs.Words.{beside}
use Rattle.expression_trees.specs.declared.tree.Expr.{Expr}
use Rattle.statement_trees.specs.declared.tree.Statement.{Statement}
use Rattle.statement_trees.specs.declared.tree.StatementBody.TheVariants.{Declared, Query}
use Rattle.statement_trees.specs.declared.tree.ColumnText.{ColumnText}
use Rattle.statement_trees.specs.declared.tree.KeyMark.{KeyMark}
use Rattle.statement_trees.specs.declared.tree.KeyMark.TheVariants as keyed
use Rattle.statement_trees.specs.declared.tree.Property.{Property}
use Rattle.statement_trees.specs.declared.tree.PropertyValue.TheVariants as value
use Rattle.statement_trees.specs.declared.tree.Select.{Select}
use Rattle.statement_trees.specs.declared.tree.SelectItem.{SelectItem}
use Rattle.statement_trees.specs.declared.tree.SelectItem.TheVariants.{Star, StarOf, One}
use Rattle.statement_trees.specs.declared.tree.Source.{Source}
use Rattle.statement_trees.specs.declared.tree.JoinText.{JoinText}
use Rattle.statement_trees.specs.declared.tree.JoinWord.{JoinWord}
use Rattle.statement_trees.specs.declared.tree.JoinWord.TheVariants as how
use Rattle.statement_trees.specs.declared.tree.WindowText.{WindowText}
use Rattle.statement_trees.specs.declared.tree.WindowText.TheVariants.{Tumbling, Hopping}
use Rattle.statement_trees.specs.declared.tree.SpanText.{SpanText}
use Rattle.statement_trees.specs.declared.tree.Unit.{Unit as UnitWord}
use Rattle.statement_trees.specs.declared.tree.Unit.TheVariants as unit
use Rattle.ksql_grammar.specs.declared.symbol.Keyword.TheVariants as key
use Rattle.ksql_grammar.specs.declared.symbol.Symbol.{Symbol}
use Rattle.ksql_grammar.specs.declared.symbol.Symbol.TheVariants.{Key, Word, Text, Number, Sign}
use Rattle.ksql_grammar.specs.Symbols.{symbol_of, name_of, type_of}
use Rattle.ksql_grammar.specs.Grammar.{Spells as SpellsExpr, at, expr, exprs}

-- a part of a statement, with its tree
pub data Phrase : Type 0 where
  statement : Statement → Phrase
  columns : List ColumnText → Phrase
  column : ColumnText → Phrase
  key_mark : KeyMark → Phrase
  with_props : List Property → Phrase
  props : List Property → Phrase
  prop_list : List Property → Phrase
  prop : Property → Phrase
  select : Select → Phrase
  items : List SelectItem → Phrase
  item : SelectItem → Phrase
  alias : Option (List ℕ) → Phrase
  source : Source → Phrase
  joined : Option JoinText → Phrase
  join_words : JoinWord → Phrase
  windowed : Option WindowText → Phrase
  window : WindowText → Phrase
  retention : Option SpanText → Phrase
  grace : Option SpanText → Phrase
  span : SpanText → Phrase
  filter : Option Expr → Phrase
  group : List Expr → Phrase
  partition : Option Expr → Phrase
  having : Option Expr → Phrase
  emit : Phrase

-- whether a statement creates a table, by its word TABLE or STREAM
abbrev pub table_of : Symbol → Option Bool
table_of (Key key.Stream) = Some false
table_of (Key key.Table) = Some true
table_of _ = None

-- the symbol is this word, which isn't reserved
abbrev pub IsWord : List ℕ → Symbol → Type 0
IsWord word s = s ≡ Word word

-- the units of time
abbrev pub unit_words : List (List ℕ × UnitWord)
unit_words =
    (codes "DAY", unit.Day) ∷ (codes "DAYS", unit.Day) ∷ (codes "HOUR", unit.Hour) ∷ (codes "HOURS", unit.Hour)
    ∷ (codes "MINUTE", unit.Minute) ∷ (codes "MINUTES", unit.Minute) ∷ (codes "SECOND", unit.Second)
    ∷ (codes "SECONDS", unit.Second) ∷ (codes "MILLISECOND", unit.Millisecond)
    ∷ (codes "MILLISECONDS", unit.Millisecond) ∷ []

-- the unit that a symbol names
abbrev pub unit_of : Symbol → Option UnitWord
unit_of (Word word) = beside unit_words word
unit_of _ = None

pub data Spells : Phrase → List Symbol → List Symbol → Type 0 where
  -- statement = CREATE (STREAM | TABLE) name "(" column {"," column} ")" WITH props
  declared : {r n : Symbol} {t : Bool} {name : List ℕ} {cs : List ColumnText} {ps : List Property} {ts us vs : List Symbol}
      → table_of r ≡ Some t → name_of n ≡ Some name
      → Spells (columns cs) ts (Sign mark.Close ∷ Key key.With ∷ us) → Spells (props ps) us vs
      → Spells (statement (record { table = t; name = name; body = Declared cs ps })) (Key key.Create ∷ r ∷ n ∷ Sign mark.Open ∷ ts) vs
  --           | CREATE (STREAM | TABLE) name [WITH props] AS select
  query : {r n : Symbol} {t : Bool} {name : List ℕ} {ps : List Property} {q : Select} {ts us vs : List Symbol}
      → table_of r ≡ Some t → name_of n ≡ Some name
      → Spells (with_props ps) ts (Key key.As ∷ us) → Spells (select q) us vs
      → Spells (statement (record { table = t; name = name; body = Query ps q })) (Key key.Create ∷ r ∷ n ∷ ts) vs
  -- column {"," column}
  last_column : {c : ColumnText} {ts us : List Symbol} → Spells (column c) ts us → Spells (columns (c ∷ [])) ts us
  more_columns : {c : ColumnText} {cs : List ColumnText} {ts us vs : List Symbol}
      → Spells (column c) ts (Sign mark.Comma ∷ us) → Spells (columns cs) us vs → Spells (columns (c ∷ cs)) ts vs
  -- column = name type [KEY | PRIMARY KEY]
  a_column : {n t : Symbol} {name : List ℕ} {ty : SqlType} {m : KeyMark} {ts us : List Symbol}
      → name_of n ≡ Some name → type_of t ≡ Some ty → Spells (key_mark m) ts us
      → Spells (column (record { name = name; ty = ty; mark = m })) (n ∷ t ∷ ts) us
  no_key : {ts : List Symbol} → Spells (key_mark keyed.Plain) ts ts
  key_word : {k : Symbol} {ts : List Symbol} → IsWord (codes "KEY") k → Spells (key_mark keyed.Key) (k ∷ ts) ts
  primary_key : {p k : Symbol} {ts : List Symbol} → IsWord (codes "PRIMARY") p → IsWord (codes "KEY") k
      → Spells (key_mark keyed.PrimaryKey) (p ∷ k ∷ ts) ts
  -- [WITH props]
  no_props : {ts : List Symbol} → Spells (with_props []) ts ts
  some_props : {ps : List Property} {ts us : List Symbol} → Spells (props ps) ts us → Spells (with_props ps) (Key key.With ∷ ts) us
  -- props = "(" prop {"," prop} ")"
  all_props : {ps : List Property} {ts us : List Symbol}
      → Spells (prop_list ps) ts (Sign mark.Close ∷ us) → Spells (props ps) (Sign mark.Open ∷ ts) us
  last_prop : {p : Property} {ts us : List Symbol} → Spells (prop p) ts us → Spells (prop_list (p ∷ [])) ts us
  more_props : {p : Property} {ps : List Property} {ts us vs : List Symbol}
      → Spells (prop p) ts (Sign mark.Comma ∷ us) → Spells (prop_list ps) us vs → Spells (prop_list (p ∷ ps)) ts vs
  -- prop = name "=" (text | digits)
  text_prop : {n : Symbol} {name content : List ℕ} {ts : List Symbol} → name_of n ≡ Some name
      → Spells (prop (record { name = name; value = value.Text content })) (n ∷ Sign mark.Equal ∷ Text content ∷ ts) ts
  digits_prop : {n : Symbol} {name : List ℕ} {number : ℕ} {ts : List Symbol} → name_of n ≡ Some name
      → Spells (prop (record { name = name; value = value.Digits number })) (n ∷ Sign mark.Equal ∷ Number number ∷ ts) ts
  -- select = SELECT item {"," item} FROM source [join] [WINDOW window] [WHERE expr] [GROUP BY expr {"," expr}]
  --          [PARTITION BY expr] [HAVING expr] [EMIT CHANGES]
  a_select : {is : List SelectItem} {s : Source} {j : Option JoinText} {w : Option WindowText} {f : Option Expr}
      {g : List Expr} {p h : Option Expr} {s0 s1 s2 s3 s4 s5 s6 s7 s8 s9 : List Symbol}
      → Spells (items is) s0 (Key key.From ∷ s1) → Spells (source s) s1 s2 → Spells (joined j) s2 s3
      → Spells (windowed w) s3 s4 → Spells (filter f) s4 s5 → Spells (group g) s5 s6 → Spells (partition p) s6 s7
      → Spells (having h) s7 s8 → Spells emit s8 s9
      → Spells (select (record { items = is; source = s; join = j; window = w; filter = f; group = g; partition = p; having = h })) (Key key.Select ∷ s0) s9
  -- item {"," item}
  last_item : {i : SelectItem} {ts us : List Symbol} → Spells (item i) ts us → Spells (items (i ∷ [])) ts us
  more_items : {i : SelectItem} {is : List SelectItem} {ts us vs : List Symbol}
      → Spells (item i) ts (Sign mark.Comma ∷ us) → Spells (items is) us vs → Spells (items (i ∷ is)) ts vs
  -- item = "*" | name "." "*" | expr [[AS] name]
  star : {ts : List Symbol} → Spells (item Star) (Sign mark.Star ∷ ts) ts
  star_of : {n : Symbol} {name : List ℕ} {ts : List Symbol} → name_of n ≡ Some name
      → Spells (item (StarOf name)) (n ∷ Sign mark.Dot ∷ Sign mark.Star ∷ ts) ts
  one : {a : Expr} {n : Option (List ℕ)} {ts us vs : List Symbol}
      → SpellsExpr (at expr a) ts us → Spells (alias n) us vs → Spells (item (One a n)) ts vs
  -- [[AS] name]
  no_alias : {ts : List Symbol} → Spells (alias None) ts ts
  plain_alias : {n : Symbol} {name : List ℕ} {ts : List Symbol} → name_of n ≡ Some name → Spells (alias (Some name)) (n ∷ ts) ts
  as_alias : {n : Symbol} {name : List ℕ} {ts : List Symbol} → name_of n ≡ Some name
      → Spells (alias (Some name)) (Key key.As ∷ n ∷ ts) ts
  -- source = name [[AS] name]
  a_source : {n : Symbol} {name : List ℕ} {a : Option (List ℕ)} {ts us : List Symbol}
      → name_of n ≡ Some name → Spells (alias a) ts us → Spells (source (record { name = name; alias = a })) (n ∷ ts) us
  -- [join]
  no_join : {ts : List Symbol} → Spells (joined None) ts ts
  -- join = [INNER | LEFT [OUTER] | FULL [OUTER]] JOIN source ON expr
  a_join : {k : JoinWord} {s : Source} {a : Expr} {ts us vs ws : List Symbol}
      → Spells (join_words k) ts us → Spells (source s) us (Key key.On ∷ vs) → SpellsExpr (at expr a) vs ws
      → Spells (joined (Some (record { kind = k; source = s; on = a }))) ts ws
  join : {ts : List Symbol} → Spells (join_words how.Inner) (Key key.Join ∷ ts) ts
  inner_join : {ts : List Symbol} → Spells (join_words how.Inner) (Key key.Inner ∷ Key key.Join ∷ ts) ts
  left_join : {ts : List Symbol} → Spells (join_words how.Left) (Key key.Left ∷ Key key.Join ∷ ts) ts
  left_outer_join : {ts : List Symbol} → Spells (join_words how.Left) (Key key.Left ∷ Key key.Outer ∷ Key key.Join ∷ ts) ts
  full_join : {ts : List Symbol} → Spells (join_words how.Full) (Key key.Full ∷ Key key.Join ∷ ts) ts
  full_outer_join : {ts : List Symbol} → Spells (join_words how.Full) (Key key.Full ∷ Key key.Outer ∷ Key key.Join ∷ ts) ts
  -- [WINDOW window]
  no_window : {ts : List Symbol} → Spells (windowed None) ts ts
  a_window : {w : WindowText} {ts us : List Symbol} → Spells (window w) ts us → Spells (windowed (Some w)) (Key key.Window ∷ ts) us
  -- window = TUMBLING "(" SIZE span [retention] [grace] ")"
  tumbling : {t z : Symbol} {size : SpanText} {r g : Option SpanText} {ts us vs ws : List Symbol}
      → IsWord (codes "TUMBLING") t → IsWord (codes "SIZE") z
      → Spells (span size) ts us → Spells (retention r) us vs → Spells (grace g) vs (Sign mark.Close ∷ ws)
      → Spells (window (Tumbling size r g)) (t ∷ Sign mark.Open ∷ z ∷ ts) ws
  --        | HOPPING "(" SIZE span "," ADVANCE BY span [retention] [grace] ")"
  hopping : {t z d : Symbol} {size advance : SpanText} {r g : Option SpanText} {ts us vs ws xs : List Symbol}
      → IsWord (codes "HOPPING") t → IsWord (codes "SIZE") z → IsWord (codes "ADVANCE") d
      → Spells (span size) ts (Sign mark.Comma ∷ d ∷ Key key.By ∷ us) → Spells (span advance) us vs
      → Spells (retention r) vs ws → Spells (grace g) ws (Sign mark.Close ∷ xs)
      → Spells (window (Hopping size advance r g)) (t ∷ Sign mark.Open ∷ z ∷ ts) xs
  -- retention = "," RETENTION span
  no_retention : {ts : List Symbol} → Spells (retention None) ts ts
  a_retention : {r : Symbol} {s : SpanText} {ts us : List Symbol} → IsWord (codes "RETENTION") r
      → Spells (span s) ts us → Spells (retention (Some s)) (Sign mark.Comma ∷ r ∷ ts) us
  -- grace = "," GRACE PERIOD span
  no_grace : {ts : List Symbol} → Spells (grace None) ts ts
  a_grace : {g p : Symbol} {s : SpanText} {ts us : List Symbol} → IsWord (codes "GRACE") g → IsWord (codes "PERIOD") p
      → Spells (span s) ts us → Spells (grace (Some s)) (Sign mark.Comma ∷ g ∷ p ∷ ts) us
  -- span = digits unit
  a_span : {n : ℕ} {s : Symbol} {u : UnitWord} {ts : List Symbol} → unit_of s ≡ Some u
      → Spells (span (record { digits = n; unit = u })) (Number n ∷ s ∷ ts) ts
  -- [WHERE expr]
  no_filter : {ts : List Symbol} → Spells (filter None) ts ts
  a_filter : {a : Expr} {ts us : List Symbol} → SpellsExpr (at expr a) ts us → Spells (filter (Some a)) (Key key.Where ∷ ts) us
  -- [GROUP BY expr {"," expr}]
  no_group : {ts : List Symbol} → Spells (group []) ts ts
  a_group : {es : List Expr} {ts us : List Symbol} → SpellsExpr (exprs es) ts us → Spells (group es) (Key key.Group ∷ Key key.By ∷ ts) us
  -- [PARTITION BY expr]
  no_partition : {ts : List Symbol} → Spells (partition None) ts ts
  a_partition : {a : Expr} {ts us : List Symbol} → SpellsExpr (at expr a) ts us
      → Spells (partition (Some a)) (Key key.Partition ∷ Key key.By ∷ ts) us
  -- [HAVING expr]
  no_having : {ts : List Symbol} → Spells (having None) ts ts
  a_having : {a : Expr} {ts us : List Symbol} → SpellsExpr (at expr a) ts us → Spells (having (Some a)) (Key key.Having ∷ ts) us
  -- [EMIT CHANGES]
  no_emit : {ts : List Symbol} → Spells emit ts ts
  changes : {c : Symbol} {ts : List Symbol} → IsWord (codes "CHANGES") c → Spells emit (Key key.Emit ∷ c ∷ ts) ts

-- the tokens spell the statement
abbrev pub IsSpelledBy : Statement → List TokenKind → Type 0
IsSpelledBy s ts = Spells (statement s) (map symbol_of ts) []
