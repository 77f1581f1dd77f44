use Rattle.std.proofs.Common.{decimal}
use Rattle.std.specs.Prelude.{codes}
use Rattle.demo_files.proofs.Texts.{five, on-more, on-ok}
use Rattle.demo_files.proofs.push_value.Goals as goal

pub returns : goal.returns
returns c =
    on-more c.push_str-3.result
    (λ last. five _ _ _ _ _ _ (codes ",\"v\":{\"PAGE\":\"p") (decimal c.args.page) (codes "\",\"N\":") (decimal c.args.number) (codes "}}\n")
    c.in_ok-push_str.ensures.bytes c.in_ok-push_number.ensures c.in_ok-push_str-2.ensures.bytes c.in_ok-push_number-2.ensures last)
    (on-ok c.push_str-3.result _ _ _ c.push_str-3.ensures.bytes)
