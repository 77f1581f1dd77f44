-- The tokens of a text: how many they are, and that digits are digits.
use Rattle.std.proofs.Common.{◌≡◌, ℕ, ◌+◌, ◌<◌, ◌≤◌, true, ◌&&◌, List, [], ◌∷◌, length, Some, codes, refl, sym, ap, subst, ⊎_elim, length-append, arith}
use Rattle.std.proofs.lemmas.Bool.{lt-ltb}
use Rattle.std.proofs.lemmas.List.{length-map}
use Rattle.ksql_lexer.specs.declared.token.Mark.{Mark}
use Rattle.ksql_lexer.specs.declared.token.Mark.TheVariants as mark
use Rattle.ksql_lexer.specs.declared.token.Token.{Token}
use Rattle.ksql_lexer.specs.declared.token.TokenKind.{TokenKind}
use Rattle.ksql_lexer.specs.declared.token.TokenKind.TheVariants as kind
use Rattle.ksql_lexer.specs.Piece.{sign, Spelled, IsWord}
use Rattle.ksql_lexer.specs.Script.{Lexes, done, skip, next, kinds, AreTokens}
use Rattle.ksql_parser.specs.Words.{are_digits, is_written, AreWritten}

sign_some : (m : Mark) → 0 < length (sign m)
sign_some mark.Open = omega arith
sign_some mark.Close = omega arith
sign_some mark.Comma = omega arith
sign_some mark.Semicolon = omega arith
sign_some mark.Dot = omega arith
sign_some mark.Equal = omega arith
sign_some mark.NotEqual = omega arith
sign_some mark.Less = omega arith
sign_some mark.LessEqual = omega arith
sign_some mark.Greater = omega arith
sign_some mark.GreaterEqual = omega arith
sign_some mark.Plus = omega arith
sign_some mark.Minus = omega arith
sign_some mark.Star = omega arith
sign_some mark.Slash = omega arith
sign_some mark.Percent = omega arith
sign_some mark.Concat = omega arith

word_some : (front : List ℕ) → IsWord front → 0 < length front
word_some [] h = absurd h
word_some (b ∷ front) h = omega arith

-- a token has at least one byte
some_bytes : (k : TokenKind) (front : List ℕ) → Spelled (Some k) front → 0 < length front
some_bytes (kind.Word name) front h = word_some front h.0
some_bytes (kind.Quoted name) front h = omega (arith, ap length h.0)
some_bytes (kind.Text content) front h = omega (arith, ap length h)
some_bytes (kind.Digits digits) front h = h.0.0
some_bytes (kind.Mark m) front h = ⊎_elim
    (λ (e : front ≡ sign m). omega (arith, ap length e, sign_some m))
    (λ (e : (m ≡ mark.NotEqual) × (front ≡ codes "!=")). omega (arith, ap length e.1)) h

-- a token of digits has digits
digits_written : (k : TokenKind) (front : List ℕ) → Spelled (Some k) front → is_written k ≡ true
digits_written (kind.Word name) front h = refl
digits_written (kind.Quoted name) front h = refl
digits_written (kind.Text content) front h = refl
digits_written (kind.Digits digits) front h =
    subst (λ ds. are_digits ds ≡ true) (sym h.1) (λ i. lt-ltb 0 (length front) h.0.0 i && h.0.1 i)
digits_written (kind.Mark m) front h = refl

tokens_le : (text : List ℕ) (ks : List TokenKind) (rest : List ℕ) → Lexes text ks rest → length ks + length rest ≤ length text
tokens_le text ks rest done = omega arith
tokens_le text ks rest (skip {after} longest lexes) =
    let more = tokens_le after ks rest lexes in
    omega (arith, more, ap length longest.begins.whole, length-append longest.begins.front after)
tokens_le text ks rest (next {after} {k} {ks = others} longest lexes) =
    let more = tokens_le after others rest lexes in
    omega (arith, more, ap length longest.begins.whole, length-append longest.begins.front after, some_bytes k longest.begins.front longest.begins.spelled)

lexed_written : (text : List ℕ) (ks : List TokenKind) (rest : List ℕ) → Lexes text ks rest → AreWritten ks
lexed_written text ks rest done = refl
lexed_written text ks rest (skip {after} longest lexes) = lexed_written after ks rest lexes
lexed_written text ks rest (next {after} {k} {ks = others} longest lexes) =
    λ i. digits_written k longest.begins.front longest.begins.spelled i && lexed_written after others rest lexes i

-- a text has no more tokens than bytes
pub few_tokens : (text : List ℕ) (ts : List Token) → AreTokens text ts → length ts ≤ length text
few_tokens text ts are =
    let few = tokens_le text (kinds ts) [] are.lexes in
    omega (arith, few, length-map ts (λ t. t.kind))

pub all_written : (text : List ℕ) (ts : List Token) → AreTokens text ts → AreWritten (kinds ts)
all_written text ts are = lexed_written text (kinds ts) [] are.lexes
