use Rattle.std.proofs.Common.{◌≡◌, ◌∙◌, lit<, ap, sym, false, refl}
use Rattle.ksql_types.specs.Key.{is_key}
use Rattle.record_codec.specs.declared.fault.ReadError.TheVariants.{Unspelled}
use Rattle.record_codec.proofs.Parsers.{key_at}
use Rattle.record_codec.proofs.Parts.{reads-key, reads-list-of-values}
use Rattle.record_codec.proofs.Given.{given, begins_not}
use Rattle.record_codec.proofs.reading.key.Goals as goal

pub returns-then-not-is_key : goal.returns-then-not-is_key
unfolding key_at
returns-then-not-is_key c =
    let e : is_key c.in_ok-values.values.items ≡ false = ap is_key (sym c.deref.ensures.value) ∙ sym c.if-not-is_key.ensures in
    begins_not reads-key c.args.bytes.now (rw (given (reads-list-of-values 8 (lit< tt)) c.in_ok-values.ensures, e) refl) Unspelled
