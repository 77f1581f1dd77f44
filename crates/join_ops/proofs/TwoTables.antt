-- The rows of two tables, and one entry more.
use Rattle.std.proofs.Common.{◌≡◌, ◌≢◌, ◌∙◌, ap, refl, sym, subst, ℕ, List, [], ◌∷◌, ◌++◌, arith}
use Rattle.std.specs.Prelude.{Option, ◌==◌}
use Rattle.std.specs.FinMap.{get}
use Rattle.std.specs.List.{AllByRecursion}
use Rattle.ksql_place.specs.declared.change.Change.{Change}
use Rattle.ksql_nodes.specs.Entries.{Entry, Row, of_key, of_side}
use Rattle.ksql_nodes.specs.Joins.{other_side}
use Rattle.ksql_nodes.proofs.Lists.{All-append}
use Rattle.state_store.specs.Store.{Values}
use Rattle.operator.specs.Kept.{rows_at}
use Rattle.operator.specs.StandsFor.{HasSpelledRow}
use Rattle.operator.proofs.Rows.{All-filter}
use Rattle.row_ops.specs.InputTable.{HoldsRows, latest_row}
use Rattle.join_ops.specs.Tables.{HoldTables}
use Rattle.join_ops.proofs.Sides.{side-own, side-other, key-of_side}

All-last : {A : Type 0} (P : A → Type 0) (xs : List A) (x : A) → AllByRecursion P (xs ++ x ∷ []) → P x
All-last P [] x all = all.0
All-last P (y ∷ ys) x all = All-last P ys x all.1

-- the rows of one side
side-rows : (m : Values) (s : ℕ) (es : List Entry) → AllByRecursion HasSpelledRow es → ((b : List ℕ) → get m b ≡ rows_at (of_side s es) b) → HoldsRows m (of_side s es)
side-rows m s es spelled rows = record { spelled = All-filter HasSpelledRow (λ (e : Entry). e.side == s) es spelled; rows = rows }

-- one entry more, with what its own table and the other one had for its key
own-rows : (m : Values) (s : ℕ) (es : List Entry) (e : Entry) → e.side ≡ s → HoldsRows m (of_side s es ++ e ∷ []) → (b : List ℕ) → get m b ≡ rows_at (of_side s (es ++ e ∷ [])) b
own-rows m s es e is h b = h.rows b ∙ ap (λ (es : List Entry). rows_at es b) (sym (side-own s es e is))

other-rows : (m : Values) (s : ℕ) (es : List Entry) (e : Entry) → e.side ≢ s → ((b : List ℕ) → get m b ≡ rows_at (of_side s es) b) → (b : List ℕ) → get m b ≡ rows_at (of_side s (es ++ e ∷ [])) b
other-rows m s es e not h b = h b ∙ ap (λ (es : List Entry). rows_at es b) (sym (side-other s es e not))

-- what turning a table at some entries returns and leaves, where another one is at others
abbrev pub Turns : Values → Values → Values → Change → Option (ℕ × Row) → Option (ℕ × Row) → Type 0
Turns old new standing c own other =
    (side : ℕ) (mine others : List Entry) → HoldsRows old mine → HoldsRows standing others →
    (own ≡ latest_row (of_key c.key mine)) × (other ≡ latest_row (of_key c.key others)) × HoldsRows new (mine ++ record { side = side; change = c } ∷ [])

-- the same of two tables, whose values are then these
abbrev pub TurnsAt : List Entry → Values → Values → Change → Option (ℕ × Row) → Option (ℕ × Row) → ℕ → Type 0
TurnsAt es left right c own other side =
    (own ≡ latest_row (of_side side (of_key c.key es))) × (other ≡ latest_row (of_side (other_side side) (of_key c.key es)))
    × HoldTables left right (es ++ record { side = side; change = c } ∷ [])

module _ (left right new : Values) (es : List Entry) (c : Change) (own other : Option (ℕ × Row)) (h : HoldTables left right es) where
  lefts : HoldsRows left (of_side 0 es)
  lefts = side-rows left 0 es h.spelled h.left_rows

  rights : HoldsRows right (of_side 1 es)
  rights = side-rows right 1 es h.spelled h.right_rows

  pub turns-left : Turns left new right c own other → (side : ℕ) → side ≡ 0 → TurnsAt es new right c own other side
  turns-left turns side is =
      subst (TurnsAt es new right c own other) (sym is) (
        t.0 ∙ ap latest_row (key-of_side c.key 0 es),
        t.1 ∙ ap latest_row (key-of_side c.key 1 es),
        record {
          spelled = All-append HasSpelledRow es (e ∷ []) h.spelled (All-last HasSpelledRow (of_side 0 es) e t.2.spelled, tt);
          left_rows = own-rows new 0 es e refl t.2;
          right_rows = other-rows right 1 es e (λ same. absurd (omega arith)) h.right_rows;
        },
      )
    where
      e : Entry
      e = record { side = 0; change = c }

      t : (own ≡ latest_row (of_key c.key (of_side 0 es))) × (other ≡ latest_row (of_key c.key (of_side 1 es))) × HoldsRows new (of_side 0 es ++ e ∷ [])
      t = turns 0 (of_side 0 es) (of_side 1 es) lefts rights

  pub turns-right : Turns right new left c own other → (side : ℕ) → side ≡ 1 → TurnsAt es left new c own other side
  turns-right turns side is =
      subst (TurnsAt es left new c own other) (sym is) (
        t.0 ∙ ap latest_row (key-of_side c.key 1 es),
        t.1 ∙ ap latest_row (key-of_side c.key 0 es),
        record {
          spelled = All-append HasSpelledRow es (e ∷ []) h.spelled (All-last HasSpelledRow (of_side 1 es) e t.2.spelled, tt);
          left_rows = other-rows left 0 es e (λ same. absurd (omega arith)) h.left_rows;
          right_rows = own-rows new 1 es e refl t.2;
        },
      )
    where
      e : Entry
      e = record { side = 1; change = c }

      t : (own ≡ latest_row (of_key c.key (of_side 1 es))) × (other ≡ latest_row (of_key c.key (of_side 0 es))) × HoldsRows new (of_side 1 es ++ e ∷ [])
      t = turns 1 (of_side 1 es) (of_side 0 es) rights lefts
