use Rattle.std.proofs.Common.{◌≡◌}
use Rattle.std.specs.Iterator.Adapters.{zip_first, zip_second}
use Rattle.std.specs.Slice.Iter.{iter_rest}
use Rattle.ksql_types.specs.Order.{AreAlike, key_cmp}
use Rattle.ksql_types.proofs.order.cmp_key.Given as goal

-- the values visited so far are equal, so the remaining ones decide
abbrev pub invariant-loop-first : goal.invariant-loop-first
invariant-loop-first l =
    let first = iter_rest (zip_first l.first-iterator) in
    let second = iter_rest (zip_second l.first-iterator) in
    record { same : key_cmp l.a l.b ≡ key_cmp first second; alike : AreAlike first second }
