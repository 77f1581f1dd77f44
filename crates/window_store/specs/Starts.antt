-- The index of a window store: the bytes of windows that may be held, by their start.
use Rattle.std.specs.Prelude.{ℕ, ◌≡◌, List, [], All, Contains, unwrap_or, option_map, IsSome}
use Rattle.std.specs.BTreeMap as tree
use Rattle.std.specs.BTreeMap.{BTreeMap}
use Rattle.std.specs.FinMap as finite
use Rattle.std.specs.Global.{Vec}
use Rattle.std.specs.Ordering.{nat_cmp}
use Rattle.state_store.specs.Store.{Content}
use Rattle.window_store.specs.Windows.{IsWindowKey, start_of}

-- the bytes in the index under each start, ascending by start
abbrev pub Starts : Type 0
Starts = BTreeMap ℕ (Vec (List ℕ))

-- the bytes in the index under a start
abbrev pub noted : Starts → ℕ → List (List ℕ)
noted starts start = unwrap_or (option_map (λ keys. keys.items) (tree.get nat_cmp starts start)) []

-- bytes of a window with this start
abbrev pub IsOfStart : ℕ → List ℕ → Type 0
IsOfStart start b = IsWindowKey b × (start_of b ≡ start)

-- bytes of windows, each under its start
abbrev pub IsByStart : Starts → Type 0
IsByStart starts = (start : ℕ) → All (IsOfStart start) (noted starts start)

-- an index of a content: each window that is held is under its start, and all writes are windows
pub record IsIndex (starts : Starts) (content : Content) : Type 0 where
  pub by_start : IsByStart starts
  pub held : (b : List ℕ) → IsSome (finite.get content.map b) → Contains (noted starts (start_of b)) b
  pub written : All IsWindowKey content.written
