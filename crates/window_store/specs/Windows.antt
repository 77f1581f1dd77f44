-- What contracts see of a window store.
use Rattle.std.specs.Prelude.{ℕ, ◌+◌, ◌-◌, ◌≡◌, ◌≤◌, ◌^◌, nat_lt, Bool, not, List, ◌++◌, filter, drop, length, refl}
use Rattle.std.specs.Coded.{Coded, code_by, coded×, coded_ℕ}
use Rattle.std.specs.Int.{w64, from_be_bytes}
use Rattle.ksql_types.specs.declared.relation.StoreEntry.{StoreEntry}
use Rattle.state_store.specs.Store.{Content, content_code}
use Rattle.record_codec.specs.Spelling.{eight}
use Rattle.operator.specs.Holding.{is_of_time}

-- windows of one size: the value of each key and start, by their bytes, and the stream time
pub record Windows : Type 0 where
  pub size : ℕ
  pub content : Content
  pub time : ℕ

-- it is coded as its fields
abbrev pub windows_code : Coded Windows
windows_code =
    code_by
    (ℕ × (Content × ℕ))
    (coded× coded_ℕ (coded× content_code coded_ℕ))
    (λ w. (w.size, (w.content, w.time)))
    (λ p. record { size = p.0; content = p.1.0; time = p.1.1 })
    (λ _. refl)

-- the bytes of the window with a key and a start
abbrev pub under : List ℕ → ℕ → List ℕ
under key start = key ++ eight start

-- bytes that a window can have
abbrev pub IsWindowKey : List ℕ → Type 0
IsWindowKey b = (key : List ℕ) × (start : ℕ) × (b ≡ under key start) × (start ≤ 2 ^ 56)

-- the start in such bytes, at their end
unfoldable pub start_of : List ℕ → ℕ
start_of b = from_be_bytes w64 (drop (length b - 8) b)

-- whether the window with such bytes has ended at a moment: its end is at most that
abbrev pub has_ended : ℕ → ℕ → List ℕ → Bool
has_ended size moment b = not (nat_lt moment (start_of b + size))

-- the entries of a log for windows, and those for the stream time
abbrev pub of_windows : List StoreEntry → List StoreEntry
of_windows log = filter (λ entry. not (is_of_time entry)) log

abbrev pub of_time : List StoreEntry → List StoreEntry
of_time log = filter is_of_time log
