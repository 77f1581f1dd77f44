-- Short values, records and changes, and short texts in the expressions of nodes and programs.
use Rattle.std.specs.Prelude.{◌≡◌, ◌<◌, Bool, false, not, List, All, IfSome}
use Rattle.std.specs.List.{AllByRecursion}
use Rattle.std.specs.Str.{IsUtf8, is_utf8}
use Rattle.ksql_types.specs.declared.value.Value.{Value}
use Rattle.ksql_types.specs.declared.value.Value.TheVariants.{Txt}
use Rattle.ksql_place.specs.declared.change.Body.{Body}
use Rattle.ksql_place.specs.declared.change.Body.TheVariants.{Said, Turned}
use Rattle.ksql_place.specs.declared.change.Change.{Change}
use Rattle.ksql_place.specs.declared.change.Decoded.{Decoded}
use Rattle.ksql_place.specs.declared.change.Decoded.TheVariants.{Good}
use Rattle.ksql_place.specs.declared.change.SourceRecord.{SourceRecord}
use Rattle.ksql_expr.specs.declared.typed.Typed.{Typed}
use Rattle.ksql_expr.specs.declared.typed.TypedNode.TheOpen.{TypedNode-F}
use Rattle.ksql_expr.specs.Aggregates.{HoldsShortTexts, holds}
use Rattle.ksql_program.specs.declared.program.Item.{Item}
use Rattle.ksql_program.specs.declared.program.Item.TheVariants.{Declared, Started}
use Rattle.ksql_program.specs.declared.query.From.{From}
use Rattle.ksql_program.specs.declared.query.From.TheVariants.{One, Join}
use Rattle.ksql_program.specs.declared.query.Shape.{Shape}
use Rattle.ksql_program.specs.declared.query.Shape.TheVariants as shape
use Rattle.ksql_nodes.specs.declared.node.Node.{Node}
use Rattle.ksql_nodes.specs.declared.node.Node.TheVariants as node
use Rattle.record_codec.specs.Spelling.{IsShort}

-- ---- values

-- a text is valid UTF-8
abbrev pub IsText : Value → Type 0
IsText (Txt t) = IsUtf8 t
IsText v = Unit {0}

-- a short value, and valid UTF-8 if it is a text: no function makes it long
abbrev pub IsProper : Value → Type 0
IsProper v = IsShort v × IsText v

-- ---- records

-- a property of each value of a good row
abbrev pub HoldsInDecoded : (Value → Type 0) → Decoded → Type 0
HoldsInDecoded P (Good row) = All P row
HoldsInDecoded P _ = Unit {0}

-- a record whose key and row have short values
abbrev pub IsShortRecord : SourceRecord → Type 0
IsShortRecord r = All IsShort r.key × HoldsInDecoded IsShort r.value

-- a record whose texts are valid UTF-8
abbrev pub IsTextRecord : SourceRecord → Type 0
IsTextRecord r = All IsText r.key × HoldsInDecoded IsText r.value

-- ---- changes

-- a property of each value of each row of a change
abbrev pub HoldsInRows : (Value → Type 0) → Body → Type 0
HoldsInRows P (Said row) = All P row
HoldsInRows P (Turned old new) = IfSome old (All P) × IfSome new (All P)

-- a property of each value of a change, whose window, if any, starts before it ends
pub record HoldsIn (P : Value → Type 0) (c : Change) : Type 0 where
  pub key : All P c.key
  pub rows : HoldsInRows P c.body
  pub span : IfSome c.span (λ s. s.start < s.end)

-- a change with a short key and short rows, of any number of values, whose window, if any, starts before it ends
abbrev pub IsShortChange : Change → Type 0
IsShortChange c = HoldsIn IsShort c

-- the same with texts of valid UTF-8
abbrev pub IsProperChange : Change → Type 0
IsProperChange c = HoldsIn IsProper c

-- ---- expressions

-- a text literal that isn't valid UTF-8
abbrev pub is_other_text : TypedNode-F Bool Bool Bool → Bool
is_other_text (TypedNode-F.Literal (Txt t)) = not (is_utf8 t)
is_other_text form = false

-- whether an expression contains a text literal that isn't valid UTF-8
unfoldable pub holds_other_text : Typed → Bool
holds_other_text = holds is_other_text

-- each text literal of an expression is valid UTF-8
abbrev pub HoldsTexts : Typed → Type 0
HoldsTexts e = holds_other_text e ≡ false

-- each text literal of an expression is short and valid UTF-8
abbrev pub HoldsProperTexts : Typed → Type 0
HoldsProperTexts e = HoldsShortTexts e × HoldsTexts e

-- ---- nodes

-- each text literal of a node's expressions is short and valid UTF-8
abbrev pub KeepsProper : Node → Type 0
KeepsProper (node.Rekey key) = HoldsProperTexts key
KeepsProper (node.Table relation) = Unit {0}
KeepsProper (node.JoinStreamTable kind on left right) = HoldsProperTexts on
KeepsProper (node.JoinTables kind left right) = Unit {0}
KeepsProper (node.Filter on) = HoldsProperTexts on
KeepsProper (node.Group keys) = AllByRecursion HoldsProperTexts keys
KeepsProper (node.Aggregate over aggs window) = AllByRecursion (λ a. IfSome a.arg HoldsProperTexts) aggs
KeepsProper (node.Having on) = HoldsProperTexts on
KeepsProper (node.Select keys values) = AllByRecursion HoldsProperTexts keys × AllByRecursion HoldsProperTexts values

-- ---- programs

-- a property of the expression in what a query reads, if any
abbrev pub HoldsInFrom : (Typed → Type 0) → From → Type 0
HoldsInFrom P (One number) = Unit {0}
HoldsInFrom P (Join kind left right on) = P on

-- a property of each expression of a shape
abbrev pub HoldsInShape : (Typed → Type 0) → Shape → Type 0
HoldsInShape P (shape.Plain keys values) = AllByRecursion P keys × AllByRecursion P values
HoldsInShape P (shape.Group keys window aggs having values) =
    AllByRecursion P keys × AllByRecursion (λ a. IfSome a.arg P) aggs × IfSome having P × AllByRecursion P values

-- a property of each expression of an item
abbrev pub HoldsInItem : (Typed → Type 0) → Item → Type 0
HoldsInItem P (Declared r) = Unit {0}
HoldsInItem P (Started q) = HoldsInFrom P q.from × IfSome q.filter P × HoldsInShape P q.shape

-- each text literal of a program is valid UTF-8
abbrev pub HoldTexts : List Item → Type 0
HoldTexts items = AllByRecursion (HoldsInItem HoldsTexts) items
