use Rattle.std.proofs.Common.{◌≡◌, ◌++◌, ◌∙◌, ap, sym, arith, length, take, false, true, append_assoc, length-append, inl, inr}
use Rattle.std.specs.Str.{is_utf8}
use Rattle.std.proofs.lemmas.List.{take_at}
use Rattle.std.proofs.lemmas.Str.{is_utf8-from_IsUtf8}
use Rattle.record_codec.specs.Spelling.{four}
use Rattle.record_codec.proofs.Readers.{reads-four}
use Rattle.record_codec.proofs.Given.{the_same}
use Rattle.record_codec.proofs.reading.text.Goals as goal

pub returns-then-len-gt65536 : goal.returns-then-len-gt65536
returns-then-len-gt65536 c = λ x rest fit e.
    let m = the_same reads-four c.in_ok-len.ensures (length x) (x ++ rest) (omega (arith, fit.0)) (e ∙ append_assoc (four (length x)) x rest) in
    elim c.then-len-gt65536.either [
      | inl h ↦ omega (arith, m.0, fit.0, h)
      | inr h ↦ omega (arith, m.0, ap length m.1, length-append x rest, h.1)
    ]

pub returns-in-None : goal.returns-in-None
returns-in-None c = λ x rest fit e.
    let m = the_same reads-four c.in_ok-len.ensures (length x) (x ++ rest) (omega (arith, fit.0)) (e ∙ append_assoc (four (length x)) x rest) in
    let front : c.split_at.result.0.now ≡ x = c.split_at.ensures.front ∙ ap (take c.in_ok-len.len) m.1 ∙ take_at x rest c.in_ok-len.len (sym m.0) in
    let wrong : false ≡ true = c.in-None.ensures.utf8 ∙ ap is_utf8 front ∙ is_utf8-from_IsUtf8 x fit.1 in
    cc
