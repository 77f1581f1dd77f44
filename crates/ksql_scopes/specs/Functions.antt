-- Functions by name (ksqlDB reference manual, "Scalar functions" and "Aggregate functions").
use Rattle.std.specs.Prelude.{ℕ, Bool, not, ◌||◌, List, [], ◌∷◌, Option, is_some, codes}
use Rattle.expression_trees.specs.Words.{beside}
use Rattle.ksql_expr.specs.declared.typed.Fun.{Fun}
use Rattle.ksql_expr.specs.declared.typed.Fun.TheVariants as fun
use Rattle.ksql_expr.specs.declared.typed.AggFun.{AggFun}
use Rattle.ksql_expr.specs.declared.typed.AggFun.TheVariants as agg

abbrev pub functions : List (List ℕ × Fun)
functions =
    (codes "ABS", fun.Abs) ∷ (codes "LEN", fun.Len) ∷ (codes "CONCAT", fun.Concat) ∷ (codes "SUBSTRING", fun.Substring)
    ∷ (codes "TRIM", fun.Trim) ∷ (codes "UCASE", fun.Ucase) ∷ (codes "LCASE", fun.Lcase) ∷ (codes "COALESCE", fun.Coalesce)
    ∷ (codes "IFNULL", fun.IfNull) ∷ (codes "NULLIF", fun.NullIf) ∷ []

abbrev pub aggregates : List (List ℕ × AggFun)
aggregates =
    (codes "COUNT", agg.Count) ∷ (codes "SUM", agg.Sum) ∷ (codes "MIN", agg.Min) ∷ (codes "MAX", agg.Max)
    ∷ (codes "LATEST_BY_OFFSET", agg.Latest) ∷ (codes "EARLIEST_BY_OFFSET", agg.Earliest) ∷ []

-- the scalar function with a name
unfoldable pub function_of : List ℕ → Option Fun
function_of name = beside functions name

-- the aggregate function with a name
unfoldable pub aggregate_of : List ℕ → Option AggFun
aggregate_of name = beside aggregates name

abbrev pub is_aggregate : List ℕ → Bool
is_aggregate name = is_some (aggregate_of name)

-- whether no function has a name
abbrev pub is_unknown : List ℕ → Bool
is_unknown name = not (is_some (function_of name) || is_aggregate name)
