-- What contracts see of the operator of a windowed aggregate.
use Rattle.std.specs.Prelude.{◌≡◌, IsTrue, List, refl}
use Rattle.std.specs.Coded.{Coded, code_by, coded×, coded_list}
use Rattle.ksql_types.specs.contracts.relation.Window as window
use Rattle.ksql_types.specs.declared.relation.Window.{Window}
use Rattle.ksql_program.specs.contracts.query.Agg as agg
use Rattle.ksql_program.specs.declared.query.Agg.{Agg}
use Rattle.window_store.specs.Windows.{Windows, windows_code}
use Rattle.agg_ops.specs.Totals.{is_sound_window}

-- its aggregates and its window, and what it keeps of the windows
pub record WindowAggView : Type 0 where
  pub aggs : List Agg
  pub window : Window
  pub windows : Windows

-- it is coded as its fields
abbrev pub window_agg_code : Coded WindowAggView
window_agg_code =
    code_by
    (List Agg × (Window × Windows))
    (coded× (coded_list agg.the_row.coded) (coded× window.the_row.coded windows_code))
    (λ w. (w.aggs, (w.window, w.windows)))
    (λ p. record { aggs = p.0; window = p.1.0; windows = p.1.1 })
    (λ _. refl)

-- windows of a sound window's size
pub record AreWindowsOf (w : Window) (windows : Windows) : Type 0 where
  pub sound : IsTrue (is_sound_window w)
  pub size : windows.size ≡ w.size
