-- Names that were compared to their end are equal, and names of different lengths or bytes differ.
use Rattle.std.proofs.Common.{◌≡◌, ◌≤◌, length, sym, ◌∙◌, rules, arith}
use Rattle.std.proofs.lemmas.List.{take_all}
use Rattle.std.proofs.lemmas.Slice.Eq.{bytes_eq-Decides}
use Rattle.topic_files.proofs.tree.is_named.Goals as goal

pub returns : goal.returns
returns c =
    let key = c.as_bytes-key.result.now in
    let name = c.as_bytes-name.result.now in
    let alike : length key ≡ length name = search rules in
    let over : length key ≤ c.loop-i.i = search rules in
    let same : key ≡ name = sym (take_all c.loop-i.i key over) ∙ c.loop-i.invariant ∙ take_all c.loop-i.i name (omega (arith, alike, over)) in
    sym ((bytes_eq-Decides c.args.key.now c.args.name.now).1 (sym c.as_bytes-key.ensures.value ∙ same ∙ c.as_bytes-name.ensures.value))
