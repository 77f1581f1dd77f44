use Rattle.std.proofs.Common.{decimal, ◌*◌, ◌%◌, ◌++◌}
use Rattle.std.specs.Prelude.{codes}
use Rattle.demo_files.specs.Demo.{demo_line}
use Rattle.demo_files.proofs.Texts.{five, on-more}
use Rattle.demo_files.proofs.push_line.Goals as goal

pub returns : goal.returns
unfolding demo_line
returns c =
    let i = c.args.i in
    on-more c.push_value.result
    (λ last. five _ _ _ _ _ _ (codes "{\"t\":") (decimal (1000 * i)) (codes ",\"k\":") (decimal (i % 1000))
    (codes ",\"v\":{\"PAGE\":\"p" ++ (decimal (i % 10) ++ (codes "\",\"N\":" ++ (decimal (i % 100) ++ codes "}}\n"))))
    c.in_ok-push_str.ensures.bytes c.in_ok-push_number.ensures c.in_ok-push_str-2.ensures.bytes c.in_ok-push_number-2.ensures last)
    c.push_value.ensures
