use Rattle.std.proofs.Common.{◌≡◌, ◌++◌, ap₂, sym, ◌∙◌}
use Rattle.ksql_scopes.specs.Scope.{columns_known_as, row_time, window_bounds, meanings, seen}
use Rattle.ksql_scopes.specs.Senses.{sense, view, both}
use Rattle.ksql_scopes.proofs.Senses.{sense-append}
use Rattle.ksql_scopes.proofs.sense.sense_of.Goals as goal

pub returns : goal.returns
unfolding meanings
returns c =
    let s = seen c.args.windowed c.args.scope.now in
    let q = c.args.qualifier.now in
    let name = c.args.name.now in
    let known = columns_known_as q name 0 s.columns in
    let time = row_time s q name in
    let bounds = window_bounds s q name in
    let first : view c.column_sense-columns.result ≡ sense known = rw c.items.ensures at c.column_sense-columns.ensures in
    c.and-2.ensures
    ∙ ap₂ both (c.and.ensures ∙ ap₂ both first c.time_sense-time.ensures ∙ sym (sense-append known time)) c.bound_sense-bound.ensures
    ∙ sym (sense-append (known ++ time) bounds)
