-- A join of two tables is a table.
use Rattle.std.proofs.Common.{◌≡◌, ◌∙◌, ap, ap₂, refl, sym, subst, ℕ, List, [], ◌∷◌, ◌++◌, Bool, true, false, cond, inl, inr}
use Rattle.std.proofs.lemmas.List.{append-nil}
use Rattle.std.proofs.lemmas.List.Elements.{filter-append}
use Rattle.std.specs.Prelude.{◌==◌, max, ◌⊎◌, Option, Some, None, option_and_then}
use Rattle.std.specs.List.{AllByRecursion}
use Rattle.ksql_types.specs.declared.value.Value.{Value}
use Rattle.ksql_place.specs.Said.{row_in, row_out}
use Rattle.ksql_place.specs.declared.change.Change.{Change}
use Rattle.ksql_program.specs.declared.query.JoinKind.{JoinKind}
use Rattle.ksql_program.specs.declared.query.JoinKind.TheVariants.{Inner, Left, Full}
use Rattle.ksql_nodes.specs.declared.node.Node.TheVariants.{JoinTables}
use Rattle.ksql_nodes.specs.declared.node.Side.{Side}
use Rattle.ksql_nodes.specs.Entries.{Entry, Row, from_side, is_same_key, of_key, of_side, results, row_after, time_after}
use Rattle.ksql_nodes.specs.Joins.{joined, joined_from, other_side, side_step}
use Rattle.ksql_nodes.specs.Nodes.{gives}
use Rattle.ksql_nodes.specs.Rows.{at_path, turned, with_body}
use Rattle.ksql_nodes.specs.Steps.{IsTableFrom}
use Rattle.ksql_nodes.proofs.Keys.{key-decides}
use Rattle.meaning_laws.proofs.Sides.{IsSided}
use Rattle.meaning_laws.proofs.Turning.{IsStep, last-more, step-none, step-turned, table-more}

-- the joined row of a key
abbrev joined_at : JoinKind → Side → Side → List Value → List Entry → Option Row
joined_at kind l r key es = joined kind l r key (row_after (of_side 0 (of_key key es))) (row_after (of_side 1 (of_key key es)))

-- the outputs so far leave, for each key, its joined row
abbrev Follows : JoinKind → Side → Side → List Entry → List Entry → Type 0
Follows kind l r outs before = (key : List Value) → row_after (of_key key outs) ≡ joined_at kind l r key before

side-more : (side : ℕ) (key : List Value) (es : List Entry) (e : Entry) →
    row_after (of_side side (of_key key (es ++ e ∷ []))) ≡ cond (is_same_key e.change.key key) (cond (e.side == side) (row_in e.change.body) (row_after (of_side side (of_key key es)))) (row_after (of_side side (of_key key es)))
side-more side key es e =
    ap (λ xs. row_after (of_side side xs)) (filter-append (λ x. is_same_key x.change.key key) es (e ∷ [])) ∙ by (is_same_key e.change.key key)
  where
    mine : List Entry
    mine = of_key key es

    inner : (d : Bool) → row_after (of_side side mine ++ cond d (e ∷ []) []) ≡ cond d (row_in e.change.body) (row_after (of_side side mine))
    inner true = ap (option_and_then (λ x. row_in x.change.body)) (last-more None (of_side side mine) e)
    inner false = ap row_after (append-nil (of_side side mine))

    by : (b : Bool) → row_after (of_side side (mine ++ cond b (e ∷ []) [])) ≡ cond b (cond (e.side == side) (row_in e.change.body) (row_after (of_side side mine))) (row_after (of_side side mine))
    by true = ap row_after (filter-append (λ x. x.side == side) mine (e ∷ [])) ∙ inner (e.side == side)
    by false = ap (λ xs. row_after (of_side side xs)) (append-nil mine)

-- the same where nothing is given for a side that stays absent
step-within : (outs : List Entry) (c : Change) (f : Option Row → Option Row) (o n : Option Row) → row_after (of_key c.key outs) ≡ f o →
    IsStep outs c.key (f n) (with_body c (option_and_then (λ own. turned (f (row_out own)) (f (row_in own))) (turned o n)))
step-within outs c f None None left = step-none outs c.key (f None) left
step-within outs c f None (Some n) left = step-turned outs c (f None) (f (Some n)) left
step-within outs c f (Some o) None left = step-turned outs c (f (Some o)) (f None) left
step-within outs c f (Some o) (Some n) left = step-turned outs c (f (Some o)) (f (Some n)) left

-- the joined row of a key, from the sides of an entry
from-side : (side : ℕ) → (side ≡ 0) ⊎ (side ≡ 1) → (kind : JoinKind) (l r : Side) (key : List Value) (before : List Entry) →
    joined_from side kind l r key (row_after (of_side side (of_key key before))) (row_after (of_side (other_side side) (of_key key before))) ≡ joined_at kind l r key before
from-side side (inl is) kind l r key before = subst (λ s. joined_from s kind l r key (row_after (of_side s (of_key key before))) (row_after (of_side (other_side s) (of_key key before))) ≡ joined_at kind l r key before) (sym is) refl
from-side side (inr is) kind l r key before = subst (λ s. joined_from s kind l r key (row_after (of_side s (of_key key before))) (row_after (of_side (other_side s) (of_key key before))) ≡ joined_at kind l r key before) (sym is) refl

-- and after that entry
after-side : (side : ℕ) → (side ≡ 0) ⊎ (side ≡ 1) → (kind : JoinKind) (l r : Side) (before : List Entry) (e : Entry) → e.side ≡ side →
    joined_from side kind l r e.change.key (row_in e.change.body) (row_after (of_side (other_side side) (of_key e.change.key before))) ≡ joined_at kind l r e.change.key (before ++ e ∷ [])
after-side side two kind l r before e same = by side two same
  where
    k : List Value
    k = e.change.key

    own : is_same_key k k ≡ true
    own = (key-decides k k).1 refl

    at : (s : ℕ) (d : Bool) → (e.side == s) ≡ d → row_after (of_side s (of_key k (before ++ e ∷ []))) ≡ cond d (row_in e.change.body) (row_after (of_side s (of_key k before)))
    at s d is = side-more s k before e ∙ ap₂ (λ b c. cond b (cond c (row_in e.change.body) (row_after (of_side s (of_key k before)))) (row_after (of_side s (of_key k before)))) own is

    by : (side : ℕ) → (side ≡ 0) ⊎ (side ≡ 1) → e.side ≡ side →
        joined_from side kind l r k (row_in e.change.body) (row_after (of_side (other_side side) (of_key k before))) ≡ joined_at kind l r k (before ++ e ∷ [])
    by side (inl is) same =
        ap (λ s. joined_from s kind l r k (row_in e.change.body) (row_after (of_side (other_side s) (of_key k before)))) is
        ∙ sym (ap₂ (joined kind l r k) (at 0 true (ap (λ s. s == 0) (same ∙ is))) (at 1 false (ap (λ s. s == 1) (same ∙ is))))
    by side (inr is) same =
        ap (λ s. joined_from s kind l r k (row_in e.change.body) (row_after (of_side (other_side s) (of_key k before)))) is
        ∙ sym (ap₂ (joined kind l r k) (at 0 false (ap (λ s. s == 0) (same ∙ is))) (at 1 true (ap (λ s. s == 1) (same ∙ is))))

joined-more : (kind : JoinKind) (l r : Side) (key : List Value) (before : List Entry) (e : Entry) →
    joined_at kind l r key (before ++ e ∷ []) ≡ cond (is_same_key e.change.key key) (joined_at kind l r e.change.key (before ++ e ∷ [])) (joined_at kind l r key before)
joined-more kind l r key before e = by (is_same_key e.change.key key) refl
  where
    by : (b : Bool) → is_same_key e.change.key key ≡ b → joined_at kind l r key (before ++ e ∷ []) ≡ cond b (joined_at kind l r e.change.key (before ++ e ∷ [])) (joined_at kind l r key before)
    by true is = ap (λ k. joined_at kind l r k (before ++ e ∷ [])) (sym ((key-decides e.change.key key).0 is))
    by false is = ap₂ (joined kind l r key)
        (side-more 0 key before e ∙ ap (λ b. cond b (cond (e.side == 0) (row_in e.change.body) (row_after (of_side 0 (of_key key before)))) (row_after (of_side 0 (of_key key before)))) is)
        (side-more 1 key before e ∙ ap (λ b. cond b (cond (e.side == 1) (row_in e.change.body) (row_after (of_side 1 (of_key key before)))) (row_after (of_side 1 (of_key key before)))) is)

joined-from : (n : ℕ) (kind : JoinKind) (l r : Side) (outs before es : List Entry) → Follows kind l r outs before → AllByRecursion IsSided es →
    IsTableFrom outs (from_side 0 (results (gives n (JoinTables kind l r)) before es))
unfolding gives
joined-from n kind l r outs before [] follows sided = tt
joined-from n kind l r outs before (e ∷ es) follows sided =
    let k : List Value = e.change.key in
    let cs : List Change = gives n (JoinTables kind l r) before e in
    let others : List Entry = of_side (other_side e.side) (of_key k before) in
    let c : Change = record (at_path (side_step e.side l r ∷ e.change.place.path) e.change) { time = max e.change.time (time_after others) } in
    let f : Option Row → Option Row = λ own. joined_from e.side kind l r k own (row_after others) in
    let step : IsStep outs k (f (row_in e.change.body)) cs =
    step-within outs c f (row_after (of_side e.side (of_key k before))) (row_in e.change.body) (follows k ∙ sym (from-side e.side sided.0 kind l r k before)) in
    let now : Follows kind l r (outs ++ from_side 0 cs) (before ++ e ∷ []) =
    λ key. step.after key ∙ ap₂ (λ x y. cond (is_same_key k key) x y) (after-side e.side sided.0 kind l r before e refl) (follows key) ∙ sym (joined-more kind l r key before e) in
    table-more (gives n (JoinTables kind l r)) outs before e es step.table (joined-from n kind l r (outs ++ from_side 0 cs) (before ++ e ∷ []) es now sided.1)

none-joined : (kind : JoinKind) (l r : Side) (key : List Value) → None ≡ joined kind l r key None None
none-joined Inner l r key = refl
none-joined Left l r key = refl
none-joined Full l r key = refl

-- old is the latest new in a join of tables, whatever olds its entries have
pub joined-turned : (n : ℕ) (kind : JoinKind) (l r : Side) (es : List Entry) → AllByRecursion IsSided es → IsTableFrom [] (from_side 0 (results (gives n (JoinTables kind l r)) [] es))
joined-turned n kind l r es sided = joined-from n kind l r [] [] es (none-joined kind l r) sided
