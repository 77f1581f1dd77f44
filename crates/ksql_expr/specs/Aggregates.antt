-- Aggregates, columns and ROWTIME in an expression.
use Rattle.std.specs.Prelude.{◌≡◌, Bool, true, false, ◌||◌, nat_lt, length, Option, Some, None}
use Rattle.std.specs.List.{list_any}
use Rattle.ksql_types.specs.declared.value.Value.TheVariants.{Txt}
use Rattle.ksql_expr.specs.declared.typed.Typed.{Typed, fold-Typed}
use Rattle.ksql_expr.specs.declared.typed.TypedNode.TheOpen.{TypedNode-F}

-- the same for an optional part
abbrev pub perhaps : Option Bool → Bool
perhaps None = false
perhaps (Some b) = b

-- whether a test holds of some form in an expression, asked of LIKE, aggregates and the forms without parts
abbrev pub node_holds : (TypedNode-F Bool Bool Bool → Bool) → TypedNode-F Bool Bool Bool → Bool
node_holds leaf (TypedNode-F.Sign minus x) = x
node_holds leaf (TypedNode-F.Binary o a b) = a || b
node_holds leaf (TypedNode-F.Not x) = x
node_holds leaf (TypedNode-F.IsNull negated x) = x
node_holds leaf (TypedNode-F.Between negated x low high) = x || low || high
node_holds leaf (TypedNode-F.OneOf negated x choices) = x || list_any (λ c. c) choices
node_holds leaf (TypedNode-F.Like negated x pattern) = leaf (TypedNode-F.Like negated x pattern) || x
node_holds leaf (TypedNode-F.Cast x to) = x
node_holds leaf (TypedNode-F.Case operand whens otherwise) = perhaps operand || list_any (λ w. w) whens || perhaps otherwise
node_holds leaf (TypedNode-F.Call fun args) = list_any (λ a. a) args
node_holds leaf form = leaf form

abbrev pub holds : (TypedNode-F Bool Bool Bool → Bool) → Typed → Bool
holds leaf = fold-Typed Bool Bool Bool (node_holds leaf) (λ e. e.node) (λ w. w.cond || w.result)

-- a text literal, or the pattern of a LIKE, of more than 65,536 bytes
abbrev pub is_long_text : TypedNode-F Bool Bool Bool → Bool
is_long_text (TypedNode-F.Literal (Txt t)) = nat_lt 65536 (length t)
is_long_text (TypedNode-F.Like negated x pattern) = nat_lt 65536 (length pattern)
is_long_text form = false

abbrev pub is_aggregate : TypedNode-F Bool Bool Bool → Bool
is_aggregate (TypedNode-F.Aggregate fun arg) = true
is_aggregate form = false

-- a column, or the row's time
abbrev pub is_column : TypedNode-F Bool Bool Bool → Bool
is_column (TypedNode-F.Column i) = true
is_column TypedNode-F.RowTime = true
is_column form = false

-- whether an expression contains an aggregate
unfoldable pub holds_aggregate : Typed → Bool
holds_aggregate = holds is_aggregate

-- an expression contains no aggregate
abbrev pub HoldsNoAggregate : Typed → Type 0
HoldsNoAggregate e = holds_aggregate e ≡ false

-- whether a text literal or a pattern in an expression exceeds its limit
unfoldable pub holds_long_text : Typed → Bool
holds_long_text = holds is_long_text

-- no text literal and no pattern in an expression exceeds its limit
abbrev pub HoldsShortTexts : Typed → Type 0
HoldsShortTexts e = holds_long_text e ≡ false

-- whether an expression contains a column or ROWTIME
unfoldable pub holds_column : Typed → Bool
holds_column = holds is_column

-- an expression contains a column or ROWTIME
abbrev pub HoldsColumn : Typed → Type 0
HoldsColumn e = holds_column e ≡ true

abbrev pub is_row_time : TypedNode-F Bool Bool Bool → Bool
is_row_time TypedNode-F.RowTime = true
is_row_time form = false

-- whether an expression contains ROWTIME
unfoldable pub holds_row_time : Typed → Bool
holds_row_time = holds is_row_time

-- an expression doesn't contain ROWTIME
abbrev pub IsTimeless : Typed → Type 0
IsTimeless e = holds_row_time e ≡ false
