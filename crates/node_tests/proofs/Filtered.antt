-- A filter and then a select list can take small changes.
use Rattle.std.proofs.Common.{subst, sym, ℕ, List, [], ◌∷◌, ◌++◌, All, Option, None, Some}
use Rattle.std.specs.List.{AllByRecursion}
use Rattle.std.proofs.lemmas.List.Elements.{All-from_recursion}
use Rattle.ksql_place.specs.declared.change.Body.{Body}
use Rattle.ksql_place.specs.declared.change.Change.{Change}
use Rattle.ksql_expr.specs.declared.typed.Typed.{Typed}
use Rattle.ksql_nodes.specs.declared.node.Node.{Node}
use Rattle.ksql_nodes.specs.declared.node.Node.TheVariants.{Filter, Select}
use Rattle.ksql_nodes.specs.Entries.{Entry, from_side, results}
use Rattle.ksql_nodes.specs.Nodes.{gives}
use Rattle.ksql_nodes.specs.Rows.{by_rows, filtered, passing, with_body}
use Rattle.operator.specs.Storable.{IsStorable}
use Rattle.op_chain.specs.Chain.{AreStorable, passed}
use Rattle.node_tests.specs.Plain.{AreFiltered, IsPlain}

recursion-append : {X : Type 0} (P : X → Type 0) (xs ys : List X) → AllByRecursion P xs → AllByRecursion P ys → AllByRecursion P (xs ++ ys)
recursion-append P [] ys hx hy = hy
recursion-append P (x ∷ xs) ys hx hy = (hx.0, recursion-append P xs ys hx.1 hy)

weaker : {X : Type 0} (P Q : X → Type 0) → ((x : X) → P x → Q x) → (xs : List X) → AllByRecursion P xs → AllByRecursion Q xs
weaker P Q by [] all = tt
weaker P Q by (x ∷ xs) all = (by x all.0, weaker P Q by xs all.1)

plain-body : (c : Change) (body : Option Body) → IsPlain c → AllByRecursion IsPlain (with_body c body)
plain-body c None h = tt
plain-body c (Some body) h = (record { time = h.time; path = h.path; key = h.key }, tt)

-- what a filter gives of small changes is small
plain-results : (on : Typed) (earlier es : List Entry) → AllByRecursion (λ (e : Entry). IsPlain e.change) es → AllByRecursion IsPlain (results (gives 1 (Filter on)) earlier es)
unfolding gives
plain-results on earlier [] all = tt
plain-results on earlier (e ∷ es) all =
    recursion-append IsPlain (filtered on e.change) (results (gives 1 (Filter on)) (earlier ++ e ∷ []) es)
    (plain-body e.change (by_rows (passing on e.change.time) e.change.body) all.0) (plain-results on (earlier ++ e ∷ []) es all.1)

plain-side : (side : ℕ) (cs : List Change) → AllByRecursion IsPlain cs → AllByRecursion (λ (e : Entry). IsPlain e.change) (from_side side cs)
plain-side side [] all = tt
plain-side side (c ∷ cs) all = (all.0, plain-side side cs all.1)

-- a node without a store can store small changes
abbrev TakesPlain : Node → Type 0
TakesPlain n = (e : Entry) → IsPlain e.change → IsStorable n e.side e.change

filter-takes : (on : Typed) → TakesPlain (Filter on)
filter-takes on e h = record { time = h.time; path = h.path; key = h.key; short = tt }

select-takes : (keys items : List Typed) → TakesPlain (Select keys items)
select-takes keys items e h = record { time = h.time; path = h.path; key = h.key; short = tt }

all-taken : (n : Node) (es : List Entry) → TakesPlain n → AllByRecursion (λ (e : Entry). IsPlain e.change) es → All (λ (e : Entry). IsStorable n e.side e.change) es
all-taken n es takes all =
    All-from_recursion (λ (e : Entry). IsStorable n e.side e.change) es (weaker (λ (e : Entry). IsPlain e.change) (λ (e : Entry). IsStorable n e.side e.change) takes es all)

pub storable-filtered : (nodes : List Node) (earlier es : List Entry) → AreFiltered nodes → AllByRecursion (λ (e : Entry). IsPlain e.change) es → AreStorable nodes earlier es
storable-filtered nodes earlier es (on, keys, items, are) all =
    let came = plain-side 0 (results (gives 1 (Filter on)) earlier es) (plain-results on earlier es all) in
    subst (λ (nodes : List Node). AreStorable nodes earlier es) (sym are)
    (all-taken (Filter on) es (filter-takes on) all, (all-taken (Select keys items) (passed (Filter on) earlier es) (select-takes keys items) came, tt))
