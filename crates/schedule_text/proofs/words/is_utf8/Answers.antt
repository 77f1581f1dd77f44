-- A text that is read as UTF-8 is UTF-8.
use Rattle.std.proofs.Common.{◌≡◌, ℕ, List, Bool, true, false, Result, Ok, Err, Bor, is_ok, refl, sym, ◌∙◌}
use Rattle.std.specs.Str.{IsUtf8, is_utf8}
use Rattle.std.specs.Result.{MatchResult}
use Rattle.std.proofs.lemmas.Str.{IsUtf8-from_is_utf8, is_utf8-from_IsUtf8}
use Rattle.schedule_text.proofs.words.is_utf8.Goals as goal

-- bytes that aren't UTF-8 fail the test
refused : (bytes : List ℕ) → ¬ (IsUtf8 bytes) → is_utf8 bytes ≡ false
refused bytes other = by (is_utf8 bytes) (λ passes. other (IsUtf8-from_is_utf8 bytes passes))
  where
    by : (test : Bool) → ¬ (test ≡ true) → test ≡ false
    by true fails = absurd (fails refl)
    by false fails = refl

test : {E : Type 0} (Q : E → Type 0) (bytes : List ℕ) (r : Result (Bor (List ℕ)) E)
    → MatchResult r (λ s. (s.now ≡ bytes) × IsUtf8 bytes) (λ e. ¬ (IsUtf8 bytes) × Q e) → is_ok r ≡ is_utf8 bytes
test Q bytes (Ok text) read = sym (is_utf8-from_IsUtf8 bytes read.1)
test Q bytes (Err fault) read = sym (refused bytes read.0)

pub returns : goal.returns
returns c = c.is_ok.ensures.value ∙ test _ c.args.bytes.now c.from_utf8.result c.from_utf8.ensures.cases
