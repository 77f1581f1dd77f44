use Rattle.std.proofs.Common.{◌≡◌, ◌∙◌, ap, sym, ◌++◌}
use Rattle.std.specs.Str.Iter.{chars_rest}
use Rattle.std.specs.Char.{encode_utf8}
use Rattle.std.proofs.lemmas.Str.{chars_past_char}
use Rattle.ksql_eval.proofs.pattern.first_char.Goals as goal

pub returns : goal.returns
returns c =
    let step : chars_rest c.chars-rest.result ≡ encode_utf8 c.in_ok-first.first ++ chars_rest c.next.new.self = c.in_ok-first.ensures.steps.0 in
    record {
      first = chars_past_char c.args.text.now c.as_str.result.now c.in_ok-first.first c.utf8.text
          (sym c.chars-rest.ensures.rest ∙ step ∙ ap (λ r. encode_utf8 c.in_ok-first.first ++ r) (sym c.as_str.ensures));
      utf8 = c.as_str.utf8;
    }
