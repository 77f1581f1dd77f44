-- Columns without the names of a row's time and of a window's bounds.
use Rattle.std.proofs.Common.{◌≡◌, ℕ, Bool, true, false, List, [], ◌∷◌, Some}
use Rattle.std.specs.Prelude.{slice_get, codes}
use Rattle.ksql_types.specs.Names.{is_among}
use Rattle.ksql_scopes.specs.declared.scope.Scope.{Scope}
use Rattle.ksql_scopes.specs.declared.scope.ScopeColumn.{ScopeColumn}

abbrev pub time_names : List (List ℕ)
time_names = codes "ROWTIME" ∷ codes "WINDOWSTART" ∷ codes "WINDOWEND" ∷ []

-- no column of a scope has such a name
abbrev pub HasPlainColumns : Scope → Type 0
HasPlainColumns s = (i : ℕ) (c : ScopeColumn) → slice_get s.columns i ≡ Some c → is_among time_names c.column.name ≡ false

pub never : {A : Type 0} (b : Bool) → b ≡ true → b ≡ false → A
never true h k = absurd (cc (k))
never false h k = absurd (cc (h))
