use Rattle.std.proofs.Common.{◌≡◌, ◌≤◌, length, string_len, string_bytes, arith, rules, ap}
use Rattle.ksql_types.specs.Text.{longest_text}
use Rattle.ksql_clauses.specs.Items.{numbered_name}
use Rattle.ksql_clauses.proofs.Naming.{numbered_is_short}
use Rattle.ksql_clauses.proofs.items.numbered_name.Goals as goal

pub of-requires : goal.of-requires
unfolding longest_text
of-requires c =
    let short : length (numbered_name c.args.number) ≤ 29 = numbered_is_short c.args.number (omega arith) in
    let same : length (string_bytes c.in_ok-format.field-0) ≡ length (numbered_name c.args.number) = ap length c.in_ok-format.ensures.ok in
    let len : string_len c.in_ok-format.field-0 ≡ length (string_bytes c.in_ok-format.field-0) = search rules in
    omega arith
