use Rattle.std.proofs.Common.{◌≡◌, flat_map, string_bytes}
use Rattle.std.specs.List.{range_with_len}
use Rattle.demo_files.specs.Demo.{feed_lines}
use Rattle.demo_files.proofs.schedule.Given as goal

-- the feeds so far are written
abbrev pub invariant-loop : goal.invariant-loop
invariant-loop l = string_bytes l.out ≡ flat_map (λ _. feed_lines l.records) (range_with_len 0 l.counter)
