-- Joins of tables as their records say them give what they give of the tables' changes: those from absent to absent are
-- left out, and the others have their old rows put in.
use Rattle.std.proofs.Common.{◌≡◌, ◌∙◌, ap, ap₂, refl, sym, ℕ, List, [], ◌∷◌, ◌++◌, Bool, true, false, cond}
use Rattle.std.proofs.lemmas.List.{append-nil, map-append}
use Rattle.std.proofs.lemmas.List.Elements.{filter-append}
use Rattle.std.specs.Cmp.{unsigned_Decides}
use Rattle.std.specs.List.{flat_map, last_or}
use Rattle.std.specs.Option.{option_to_list}
use Rattle.std.specs.Prelude.{◌==◌, max, if◌then◌else◌, IfSome, Option, Some, None, option_and_then, option_map, unwrap_or}
use Rattle.ksql_types.specs.declared.value.Value.{Value}
use Rattle.ksql_place.specs.Ascending.{ascending}
use Rattle.ksql_place.specs.Said.{row_in, row_out}
use Rattle.ksql_place.specs.declared.change.Body.{Body}
use Rattle.ksql_place.specs.declared.change.Body.TheVariants.{Turned}
use Rattle.ksql_place.specs.declared.change.Change.{Change}
use Rattle.ksql_expr.specs.declared.typed.Typed.{Typed}
use Rattle.ksql_program.specs.declared.query.JoinKind.{JoinKind}
use Rattle.ksql_nodes.specs.declared.node.Node.TheVariants.{Table, JoinStreamTable, JoinTables}
use Rattle.ksql_nodes.specs.declared.node.Side.{Side}
use Rattle.ksql_nodes.specs.Entries.{Entry, Row, from_side, is_same_key, of_key, of_side, results, row_after, time_after}
use Rattle.ksql_nodes.specs.Joins.{join_key, join_row, joined_from, other_side, rekeyed, side_step}
use Rattle.ksql_nodes.specs.Nodes.{gives}
use Rattle.ksql_nodes.specs.Rows.{at_path, turned, with_body}
use Rattle.ksql_nodes.proofs.Keys.{key-decides}
use Rattle.query_meaning.specs.Queries.{entry_cmp}
use Rattle.meaning_laws.proofs.Lists.{filter-swap}
use Rattle.meaning_laws.proofs.Forks.{Rise}
use Rattle.meaning_laws.proofs.Turning.{after-more, last-more}
use Rattle.lane_laws.specs.Lanes.{merged, tabled}
use Rattle.lane_laws.proofs.Sidewise.{IsAt, IsSidewise, made, made-of-merged, results-on-made}

-- ---- the latest row of a key on a side

-- the last entry of a key on a side
abbrev last_of : ℕ → List Value → List Entry → Option Entry
last_of side key es = last_or None (of_side side (of_key key es))

-- the row that an entry leaves, and its time
abbrev left_by : Entry → Option (Row × ℕ)
left_by e = option_map (λ row. (row, e.change.time)) (row_in e.change.body)

abbrev latest : ℕ → List Value → List Entry → Option (Row × ℕ)
latest side key es = option_and_then left_by (last_of side key es)

last_of-more : {B : Type 0} (f : Option Entry → B) (side : ℕ) (key : List Value) (es : List Entry) (e : Entry) →
    f (last_of side key (es ++ e ∷ [])) ≡ cond (is_same_key e.change.key key) (cond (e.side == side) (f (Some e)) (f (last_of side key es))) (f (last_of side key es))
last_of-more f side key es e =
    ap (λ xs. f (last_or None (of_side side xs))) (filter-append (λ x. is_same_key x.change.key key) es (e ∷ [])) ∙ by (is_same_key e.change.key key)
  where
    mine : List Entry
    mine = of_key key es

    inner : (d : Bool) → f (last_or None (of_side side mine ++ cond d (e ∷ []) [])) ≡ cond d (f (Some e)) (f (last_or None (of_side side mine)))
    inner true = ap f (last-more None (of_side side mine) e)
    inner false = ap (λ xs. f (last_or None xs)) (append-nil (of_side side mine))

    by : (b : Bool) → f (last_or None (of_side side (mine ++ cond b (e ∷ []) []))) ≡ cond b (cond (e.side == side) (f (Some e)) (f (last_or None (of_side side mine)))) (f (last_or None (of_side side mine)))
    by true = ap (λ xs. f (last_or None xs)) (filter-append (λ x. x.side == side) mine (e ∷ [])) ∙ inner (e.side == side)
    by false = ap (λ xs. f (last_or None (of_side side xs))) (append-nil mine)

latest-row : (side : ℕ) (key : List Value) (es : List Entry) → row_after (of_side side (of_key key es)) ≡ option_map (λ p. p.0) (latest side key es)
latest-row side key es = by (last_of side key es)
  where
    row : (time : ℕ) (o : Option Row) → o ≡ option_map (λ (p : Row × ℕ). p.0) (option_map (λ row. (row, time)) o)
    row time None = refl
    row time (Some r) = refl

    by : (o : Option Entry) → option_and_then (λ e. row_in e.change.body) o ≡ option_map (λ p. p.0) (option_and_then left_by o)
    by None = refl
    by (Some e) = row e.change.time (row_in e.change.body)

latest-time : (side : ℕ) (key : List Value) (es : List Entry) → time_after (of_side side (of_key key es)) ≡ unwrap_or (option_map (λ p. p.1) (latest side key es)) 0
latest-time side key es = by (last_of side key es)
  where
    time : (t : ℕ) (o : Option Row) → unwrap_or (option_map (λ row. t) o) 0 ≡ unwrap_or (option_map (λ (p : Row × ℕ). p.1) (option_map (λ row. (row, t)) o)) 0
    time t None = refl
    time t (Some r) = refl

    by : (o : Option Entry) → unwrap_or (option_and_then (λ e. option_map (λ row. e.change.time) (row_in e.change.body)) o) 0 ≡ unwrap_or (option_map (λ p. p.1) (option_and_then left_by o)) 0
    by None = refl
    by (Some e) = time e.change.time (row_in e.change.body)

-- entries leave the same rows at the same times as others
abbrev SameLatest : List Entry → List Entry → Type 0
SameLatest seen before = (side : ℕ) (key : List Value) → latest side key seen ≡ latest side key before

same-row : (seen before : List Entry) → SameLatest seen before → (side : ℕ) (key : List Value) → row_after (of_side side (of_key key seen)) ≡ row_after (of_side side (of_key key before))
same-row seen before same side key = latest-row side key seen ∙ ap (option_map (λ p. p.0)) (same side key) ∙ sym (latest-row side key before)

same-time : (seen before : List Entry) → SameLatest seen before → (side : ℕ) (key : List Value) → time_after (of_side side (of_key key seen)) ≡ time_after (of_side side (of_key key before))
same-time seen before same side key = latest-time side key seen ∙ ap (λ o. unwrap_or (option_map (λ p. p.1) o) 0) (same side key) ∙ sym (latest-time side key before)

-- ---- what the records of some sides say, as changes of tables

abbrev with_entry_body : Entry → Body → Entry
with_entry_body e body = record { side = e.side; change = record e.change { body = body } }

-- the row that the side of an entry has for its key before it
abbrev old_row : List Entry → Entry → Option Row
old_row before e = row_after (of_side e.side (of_key e.change.key before))

abbrev tabling : (ℕ → Bool) → List Entry → Entry → Option Entry
tabling are_tables before e = if are_tables e.side then option_map (with_entry_body e) (turned (old_row before e) (row_in e.change.body)) else Some e

tabling-sidewise : (are_tables : ℕ → Bool) → IsSidewise (tabling are_tables)
tabling-sidewise are_tables = record {
  stays = λ before e. stays e (are_tables e.side) (turned (old_row before e) (row_in e.change.body));
  own = λ these those e same.
      ap (λ old. if are_tables e.side then option_map (with_entry_body e) (turned old (row_in e.change.body)) else Some e)
      (ap row_after
      (filter-swap (λ x. x.side == e.side) (λ x. is_same_key x.change.key e.change.key) these
      ∙ ap (of_key e.change.key) same
      ∙ sym (filter-swap (λ x. x.side == e.side) (λ x. is_same_key x.change.key e.change.key) those)));
}
  where
    stays : (e : Entry) (b : Bool) (o : Option Body) → IfSome (if b then option_map (with_entry_body e) o else Some e) (IsAt e)
    stays e true None = tt
    stays e true (Some body) = (refl, refl)
    stays e false o = (refl, refl)

-- an entry that leaves the same row
same-one : (seen before : List Entry) (e : Entry) (body : Body) → row_in body ≡ row_in e.change.body → SameLatest seen before →
    SameLatest (seen ++ with_entry_body e body ∷ []) (before ++ e ∷ [])
same-one seen before e body is same side key =
    last_of-more (option_and_then left_by) side key seen (with_entry_body e body)
    ∙ ap₂ (λ row old. cond (is_same_key e.change.key key) (cond (e.side == side) (option_map (λ r. (r, e.change.time)) row) old) old) is (same side key)
    ∙ sym (last_of-more (option_and_then left_by) side key before e)

-- an entry from absent to absent leaves what was left
same-none : (seen before : List Entry) (e : Entry) → old_row before e ≡ None → row_in e.change.body ≡ None → SameLatest seen before →
    SameLatest (seen ++ []) (before ++ e ∷ [])
same-none seen before e absent none same side key =
    ap (latest side key) (append-nil seen) ∙ same side key
    ∙ by (is_same_key e.change.key key) (e.side == side) refl refl
    ∙ sym (last_of-more (option_and_then left_by) side key before e)
  where
    no-latest : (o : Option (Row × ℕ)) → option_map (λ p. p.0) o ≡ None → o ≡ None
    no-latest None is = refl
    no-latest (Some p) is = absurd (cc (is))

    own : latest e.side e.change.key before ≡ option_map (λ r. (r, e.change.time)) (row_in e.change.body)
    own = no-latest (latest e.side e.change.key before) (sym (latest-row e.side e.change.key before) ∙ absent) ∙ sym (ap (option_map (λ r. (r, e.change.time))) none)

    by : (b d : Bool) → is_same_key e.change.key key ≡ b → (e.side == side) ≡ d →
        latest side key before ≡ cond b (cond d (left_by e) (latest side key before)) (latest side key before)
    by true true is_key is_side =
        ap₂ (λ s k. latest s k before) (sym ((unsigned_Decides e.side side).0 is_side)) (sym ((key-decides e.change.key key).0 is_key)) ∙ own
    by true false is_key is_side = refl
    by false d is_key is_side = refl

tabling-keeps : (are_tables : ℕ → Bool) (seen before : List Entry) (e : Entry) → SameLatest seen before → SameLatest (seen ++ made (tabling are_tables) before e) (before ++ e ∷ [])
tabling-keeps are_tables seen before e same = by (are_tables e.side) (old_row before e) (row_in e.change.body) refl refl
  where
    by : (b : Bool) (old new : Option Row) → old_row before e ≡ old → row_in e.change.body ≡ new →
        SameLatest (seen ++ option_to_list (if b then option_map (with_entry_body e) (turned old new) else Some e)) (before ++ e ∷ [])
    by true None None is_old is_new = same-none seen before e is_old is_new same
    by true None (Some new) is_old is_new = same-one seen before e (Turned None (Some new)) (sym is_new) same
    by true (Some old) None is_old is_new = same-one seen before e (Turned (Some old) None) (sym is_new) same
    by true (Some old) (Some new) is_old is_new = same-one seen before e (Turned (Some old) (Some new)) (sym is_new) same
    by false old new is_old is_new = same-one seen before e e.change.body refl same

-- ---- a table's side

module _ (are_tables : ℕ → Bool) (side : ℕ) where
  abbrev entry : Change → Entry
  entry c = record { side = side; change = c }

  placed-body : (c : Change) (o : Option Body) → option_to_list (option_map (with_entry_body (entry c)) o) ≡ from_side side (with_body c o)
  placed-body c None = refl
  placed-body c (Some body) = refl

  -- it becomes what the node Table gives for it
  table-side : are_tables side ≡ true → (number : ℕ) (seen before : List Entry) (cs : List Change) →
      ((key : List Value) → row_after (of_side side (of_key key before)) ≡ row_after (of_key key seen)) →
      results (made (tabling are_tables)) before (from_side side cs) ≡ from_side side (results (gives 1 (Table number)) seen (from_side 0 cs))
  unfolding gives
  table-side is number seen before [] same = refl
  table-side is number seen before (c ∷ cs) same =
      let now : Option Body = turned (row_after (of_key c.key seen)) (row_in c.body) in
      ap₂ (λ first rest. first ++ rest)
      (ap₂ (λ b old. option_to_list (if b then option_map (with_entry_body (entry c)) (turned old (row_in c.body)) else Some (entry c))) is (same c.key)
      ∙ placed-body c now)
      (table-side is number (seen ++ record { side = 0; change = c } ∷ []) (before ++ entry c ∷ []) cs more)
      ∙ sym (map-append entry (with_body c now) (results (gives 1 (Table number)) (seen ++ record { side = 0; change = c } ∷ []) (from_side 0 cs)))
    where
      more : (key : List Value) → row_after (of_side side (of_key key (before ++ entry c ∷ []))) ≡ row_after (of_key key (seen ++ record { side = 0; change = c } ∷ []))
      more key =
          last_of-more (option_and_then (λ e. row_in e.change.body)) side key before (entry c)
          ∙ ap₂ (λ d old. cond (is_same_key c.key key) (cond d (row_in c.body) old) old) ((unsigned_Decides side side).1 refl) (same key)
          ∙ sym (after-more key seen (record { side = 0; change = c }))

  -- a stream's side stays as it is
  stream-side : are_tables side ≡ false → (before : List Entry) (cs : List Change) → results (made (tabling are_tables)) before (from_side side cs) ≡ from_side side cs
  stream-side is before [] = refl
  stream-side is before (c ∷ cs) =
      ap₂ (λ b rest. option_to_list (if b then option_map (with_entry_body (entry c)) (turned (old_row before (entry c)) (row_in c.body)) else Some (entry c)) ++ rest) is
      (stream-side is (before ++ entry c ∷ []) cs)

-- ---- a join of a stream

abbrev is_right : ℕ → Bool
is_right side = side == 1

-- only the entries of side 0 are joined
right-silent : (n : ℕ) (kind : JoinKind) (on : Typed) (l r : Side) (before : List Entry) (e : Entry) → (e.side == 1) ≡ true → gives n (JoinStreamTable kind on l r) before e ≡ []
unfolding gives
right-silent n kind on l r before e is =
    ap (λ b. if b then flat_map (join_row kind l r before) (rekeyed (join_key on e.change) e.change) else []) (ap (λ s. s == 0) ((unsigned_Decides e.side 1).0 is))

join-same : (n : ℕ) (kind : JoinKind) (on : Typed) (l r : Side) (seen before : List Entry) (e : Entry) → SameLatest seen before →
    gives n (JoinStreamTable kind on l r) seen e ≡ gives n (JoinStreamTable kind on l r) before e
unfolding gives
join-same n kind on l r seen before e same = ap (λ cs. if e.side == 0 then cs else []) (by (join_key on e.change))
  where
    by : (k : List Value) → flat_map (join_row kind l r seen) (rekeyed k e.change) ≡ flat_map (join_row kind l r before) (rekeyed k e.change)
    by [] = refl
    by (k ∷ ks) = rw (same-row seen before same 1 (k ∷ ks))

stream-step : (n : ℕ) (kind : JoinKind) (on : Typed) (l r : Side) (seen before : List Entry) (e : Entry) → SameLatest seen before →
    results (gives n (JoinStreamTable kind on l r)) seen (made (tabling is_right) before e) ≡ gives n (JoinStreamTable kind on l r) before e
stream-step n kind on l r seen before e same = by (e.side == 1) (turned (old_row before e) (row_in e.change.body)) refl
  where
    by : (b : Bool) (o : Option Body) → (e.side == 1) ≡ b →
        results (gives n (JoinStreamTable kind on l r)) seen (option_to_list (if b then option_map (with_entry_body e) o else Some e)) ≡ gives n (JoinStreamTable kind on l r) before e
    by true None is = sym (right-silent n kind on l r before e is)
    by true (Some body) is =
        append-nil (gives n (JoinStreamTable kind on l r) seen (with_entry_body e body))
        ∙ right-silent n kind on l r seen (with_entry_body e body) is ∙ sym (right-silent n kind on l r before e is)
    by false o is = append-nil (gives n (JoinStreamTable kind on l r) seen e) ∙ join-same n kind on l r seen before e same

-- a join that reads what the records of a table say gives what it gives of the table's changes
pub stream-join-raw : (n a b number : ℕ) (kind : JoinKind) (on : Typed) (l r : Side) (ls rs : List Change) → Rise ls → Rise rs →
    results (gives n (JoinStreamTable kind on l r)) [] (merged a b ls rs) ≡ results (gives n (JoinStreamTable kind on l r)) [] (merged a b ls (tabled number rs))
stream-join-raw n a b number kind on l r ls rs left right =
    sym (results-on-made SameLatest (gives n (JoinStreamTable kind on l r)) (tabling is_right) (tabling-keeps is_right) (stream-step n kind on l r) [] [] (merged a b ls rs) (λ side key. refl))
    ∙ ap (results (gives n (JoinStreamTable kind on l r)) [])
    (made-of-merged a b (tabling is_right) (tabling-sidewise is_right) ls rs left right
    ∙ ap₂ (λ xs ys. ascending (entry_cmp a b) (xs ++ ys)) (stream-side is_right 0 refl [] ls) (table-side is_right 1 refl number [] [] rs (λ key. refl)))

-- ---- a join of tables

abbrev all_tables : ℕ → Bool
all_tables side = true

module _ (n : ℕ) (kind : JoinKind) (l r : Side) where
  -- an entry under its own time and path
  abbrev joined_change : Entry → ℕ → Change
  joined_change e time = record (at_path (side_step e.side l r ∷ e.change.place.path) e.change) { time = max e.change.time time }

  -- what a join gives for an entry, from the other side's row and time and the change of its own row
  abbrev shown : Entry → Option Row → ℕ → Option Body → List Change
  shown e other time own =
      with_body (joined_change e time)
      (option_and_then (λ b. turned (joined_from e.side kind l r e.change.key (row_out b) other) (joined_from e.side kind l r e.change.key (row_in b) other)) own)

  abbrev others : List Entry → Entry → List Entry
  others before e = of_side (other_side e.side) (of_key e.change.key before)

  with_body-over : (c : Change) (body : Body) (o : Option Body) → with_body (record c { body = body }) o ≡ with_body c o
  with_body-over c body None = refl
  with_body-over c body (Some b) = refl

  table-shown : (before : List Entry) (e : Entry) →
      gives n (JoinTables kind l r) before e ≡ shown e (row_after (others before e)) (time_after (others before e)) (turned (old_row before e) (row_in e.change.body))
  unfolding gives
  table-shown before e = refl

  -- an entry with its old row put in gives the same
  table-one : (seen before : List Entry) (e : Entry) (body : Body) → SameLatest seen before → turned (old_row before e) (row_in body) ≡ Some body →
      gives n (JoinTables kind l r) seen (with_entry_body e body) ≡ shown e (row_after (others before e)) (time_after (others before e)) (Some body)
  table-one seen before e body same is =
      table-shown seen (with_entry_body e body)
      ∙ with_body-over (joined_change e (time_after (others seen e))) body _
      ∙ ap₂ (λ other time. shown e other time (turned (old_row seen e) (row_in body))) (same-row seen before same (other_side e.side) e.change.key) (same-time seen before same (other_side e.side) e.change.key)
      ∙ ap (shown e (row_after (others before e)) (time_after (others before e))) (ap (λ old. turned old (row_in body)) (same-row seen before same e.side e.change.key) ∙ is)

  table-step : (seen before : List Entry) (e : Entry) → SameLatest seen before →
      results (gives n (JoinTables kind l r)) seen (made (tabling all_tables) before e) ≡ gives n (JoinTables kind l r) before e
  table-step seen before e same = by (old_row before e) (row_in e.change.body) refl ∙ sym (table-shown before e)
    where
      shown-here : Option Body → List Change
      shown-here o = shown e (row_after (others before e)) (time_after (others before e)) o

      some : (old new : Option Row) → turned (old_row before e) new ≡ Some (Turned old new) →
          results (gives n (JoinTables kind l r)) seen (with_entry_body e (Turned old new) ∷ []) ≡ shown-here (Some (Turned old new))
      some old new is = append-nil (gives n (JoinTables kind l r) seen (with_entry_body e (Turned old new))) ∙ table-one seen before e (Turned old new) same is

      by : (old new : Option Row) → old_row before e ≡ old →
          results (gives n (JoinTables kind l r)) seen (option_to_list (option_map (with_entry_body e) (turned old new))) ≡ shown-here (turned old new)
      by None None is = refl
      by None (Some new) is = some None (Some new) (ap (λ o. turned o (Some new)) is)
      by (Some old) None is = some (Some old) None (ap (λ o. turned o None) is)
      by (Some old) (Some new) is = some (Some old) (Some new) (ap (λ o. turned o (Some new)) is)

pub table-join-raw : (n a b first second : ℕ) (kind : JoinKind) (l r : Side) (ls rs : List Change) → Rise ls → Rise rs →
    results (gives n (JoinTables kind l r)) [] (merged a b ls rs) ≡ results (gives n (JoinTables kind l r)) [] (merged a b (tabled first ls) (tabled second rs))
table-join-raw n a b first second kind l r ls rs left right =
    sym (results-on-made SameLatest (gives n (JoinTables kind l r)) (tabling all_tables) (tabling-keeps all_tables) (table-step n kind l r) [] [] (merged a b ls rs) (λ side key. refl))
    ∙ ap (results (gives n (JoinTables kind l r)) [])
    (made-of-merged a b (tabling all_tables) (tabling-sidewise all_tables) ls rs left right
    ∙ ap₂ (λ xs ys. ascending (entry_cmp a b) (xs ++ ys)) (table-side all_tables 0 refl first [] [] ls (λ key. refl)) (table-side all_tables 1 refl second [] [] rs (λ key. refl)))
