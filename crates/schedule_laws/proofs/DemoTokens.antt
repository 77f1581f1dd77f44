-- The tokens of the demo's script.
use Rattle.std.proofs.Common.{◌≡◌, ◌∙◌, ap, refl, sym, subst, ℕ, true, false, List, [], ◌∷◌, ◌++◌, codes, map, arith}
use Rattle.std.proofs.lemmas.Bool.{false≢true}
use Rattle.std.specs.Char.{is_ascii_digit, to_ascii_uppercase}
use Rattle.std.specs.List.{list_all}
use Rattle.std.specs.Prelude.{◌==◌, None, Some}
use Rattle.json.proofs.Printed.Utf8.{IsUtf8-are_ascii}
use Rattle.ksql_types.specs.Text.{longest_text}
use Rattle.ksql_lexer.specs.declared.byte.Class.TheVariants.{Blank, Letter, Digit, Other}
use Rattle.ksql_lexer.specs.declared.token.Mark.{Mark}
use Rattle.ksql_lexer.specs.declared.token.Mark.TheVariants as mark
use Rattle.ksql_lexer.specs.declared.token.Token.{Token}
use Rattle.ksql_lexer.specs.declared.token.TokenKind.{TokenKind}
use Rattle.ksql_lexer.specs.declared.token.TokenKind.TheVariants as kind
use Rattle.ksql_lexer.specs.Piece.{doubled, first_passes, is_word_byte}
use Rattle.ksql_lexer.specs.Place.{class_of, first_class, pair_at, pair_mark, single_mark}
use Rattle.ksql_lexer.specs.Script.{AreNumbered, AreTokens, Lexes, done, kinds, next, skip, statement_after}
use Rattle.ksql_lexer.proofs.Places.{blank_longest, digits_longest, mark_longest, no_comment_front, text_longest, word_longest}
use Rattle.ksql_lexer.proofs.Runs.{head_same}
use Rattle.ksql_lexer.proofs.Signs.{single_longest}
use Rattle.ksql_script.specs.Reading.{IsText}
use Rattle.demo_files.specs.Demo.{demo_script}

-- ---- one token or blank in front

blank : {rest : List ℕ} {ks : List TokenKind} (b : ℕ) → class_of b ≡ Blank → Lexes rest ks [] → Lexes (b ∷ rest) ks []
blank {rest} b is lexed = skip (blank_longest (b ∷ rest) rest (ap Some is) refl) lexed

word : {rest : List ℕ} {ks : List TokenKind} (run : List ℕ) → first_class (run ++ rest) ≡ Some Letter → list_all is_word_byte run ≡ true → first_passes is_word_byte rest ≡ false →
    Lexes rest ks [] → Lexes (run ++ rest) (kind.Word (map to_ascii_uppercase run) ∷ ks) []
word {rest} run begins all stops lexed =
    next (word_longest (run ++ rest) run rest (map to_ascii_uppercase run) begins (record { whole = refl; passes = all; stops = stops }) refl) lexed

digits : {rest : List ℕ} {ks : List TokenKind} (run : List ℕ) → first_class (run ++ rest) ≡ Some Digit → list_all is_word_byte run ≡ true → first_passes is_word_byte rest ≡ false →
    list_all is_ascii_digit run ≡ true → Lexes rest ks [] → Lexes (run ++ rest) (kind.Digits run ∷ ks) []
digits {rest} run begins all stops decimal lexed =
    next (digits_longest (run ++ rest) run rest run begins (record { whole = refl; passes = all; stops = stops }) decimal refl) lexed

text : {rest : List ℕ} {ks : List TokenKind} (content : List ℕ) → doubled content ≡ content → first_passes (λ b. b == 39) rest ≡ false →
    Lexes rest ks [] → Lexes (39 ∷ (content ++ 39 ∷ rest)) (kind.Text content ∷ ks) []
text {rest} content plain stops lexed =
    next (text_longest (39 ∷ (content ++ 39 ∷ rest)) content rest content refl (ap (λ (xs : List ℕ). 39 ∷ (xs ++ 39 ∷ rest)) (sym plain))
    (λ inside more is. false≢true (sym stops ∙ ap (first_passes (λ b. b == 39)) is)) refl) lexed

no-pair : (b : ℕ) → ((c : ℕ) → pair_mark b c ≡ None) → (rest : List ℕ) → pair_at (b ∷ rest) ≡ None
no-pair b none [] = refl
no-pair b none (c ∷ rest) = none c

sign : {rest : List ℕ} {ks : List TokenKind} (m : Mark) (b : ℕ) → class_of b ≡ Other → ((c : ℕ) → pair_mark b c ≡ None) → single_mark b ≡ Some m → (b == 45) ≡ false → (b == 47) ≡ false →
    Lexes rest ks [] → Lexes (b ∷ rest) (kind.Mark m ∷ ks) []
sign {rest} m b is alone single no_dash no_slash lexed =
    next (mark_longest (b ∷ rest) m rest (ap Some is)
    (no_comment_front (b ∷ rest) (λ more same. false≢true (sym no_dash ∙ ap (λ x. x == 45) (head_same b 45 rest (45 ∷ more) same)))
    (λ more same. false≢true (sym no_slash ∙ ap (λ x. x == 47) (head_same b 47 rest (42 ∷ more) same))))
    (single_longest (b ∷ rest) rest m (no-pair b alone rest) single refl)) lexed

-- ---- the lines of the script

-- the tokens of line 1
abbrev pub line_one : List TokenKind
line_one = kind.Word (codes "CREATE") ∷ kind.Word (codes "STREAM") ∷ kind.Word (codes "HITS") ∷ kind.Mark mark.Open ∷ kind.Word (codes "ID") ∷ kind.Word (codes "BIGINT") ∷ kind.Word (codes "KEY") ∷ kind.Mark mark.Comma ∷ kind.Word (codes "PAGE") ∷ kind.Word (codes "VARCHAR") ∷ kind.Mark mark.Comma ∷ kind.Word (codes "N") ∷ kind.Word (codes "INTEGER") ∷ kind.Mark mark.Close ∷ []

lexed-one : {rest : List ℕ} {ks : List TokenKind} → Lexes rest ks [] → Lexes (codes "CREATE STREAM HITS (ID BIGINT KEY, PAGE VARCHAR, N INTEGER)\n" ++ rest) (line_one ++ ks) []
lexed-one lexed = word (codes "CREATE") refl refl refl (blank 32 refl (word (codes "STREAM") refl refl refl (blank 32 refl (word (codes "HITS") refl refl refl (blank 32 refl (sign mark.Open 40 refl (λ c. refl) refl refl refl (word (codes "ID") refl refl refl (blank 32 refl (word (codes "BIGINT") refl refl refl (blank 32 refl (word (codes "KEY") refl refl refl (sign mark.Comma 44 refl (λ c. refl) refl refl refl (blank 32 refl (word (codes "PAGE") refl refl refl (blank 32 refl (word (codes "VARCHAR") refl refl refl (sign mark.Comma 44 refl (λ c. refl) refl refl refl (blank 32 refl (word (codes "N") refl refl refl (blank 32 refl (word (codes "INTEGER") refl refl refl (sign mark.Close 41 refl (λ c. refl) refl refl refl (blank 10 refl lexed)))))))))))))))))))))))

-- the tokens of line 2, without the last `;`
abbrev pub line_two : List TokenKind
line_two = kind.Word (codes "WITH") ∷ kind.Mark mark.Open ∷ kind.Word (codes "KAFKA_TOPIC") ∷ kind.Mark mark.Equal ∷ kind.Text (codes "hits") ∷ kind.Mark mark.Comma ∷ kind.Word (codes "VALUE_FORMAT") ∷ kind.Mark mark.Equal ∷ kind.Text (codes "JSON") ∷ kind.Mark mark.Comma ∷ kind.Word (codes "PARTITIONS") ∷ kind.Mark mark.Equal ∷ kind.Digits (codes "4") ∷ kind.Mark mark.Close ∷ []

lexed-two : {rest : List ℕ} {ks : List TokenKind} → Lexes rest ks [] → Lexes (codes "  WITH (KAFKA_TOPIC='hits', VALUE_FORMAT='JSON', PARTITIONS=4);\n" ++ rest) (line_two ++ kind.Mark mark.Semicolon ∷ ks) []
lexed-two lexed = blank 32 refl (blank 32 refl (word (codes "WITH") refl refl refl (blank 32 refl (sign mark.Open 40 refl (λ c. refl) refl refl refl (word (codes "KAFKA_TOPIC") refl refl refl (sign mark.Equal 61 refl (λ c. refl) refl refl refl (text (codes "hits") refl refl (sign mark.Comma 44 refl (λ c. refl) refl refl refl (blank 32 refl (word (codes "VALUE_FORMAT") refl refl refl (sign mark.Equal 61 refl (λ c. refl) refl refl refl (text (codes "JSON") refl refl (sign mark.Comma 44 refl (λ c. refl) refl refl refl (blank 32 refl (word (codes "PARTITIONS") refl refl refl (sign mark.Equal 61 refl (λ c. refl) refl refl refl (digits (codes "4") refl refl refl refl (sign mark.Close 41 refl (λ c. refl) refl refl refl (sign mark.Semicolon 59 refl (λ c. refl) refl refl refl (blank 10 refl lexed))))))))))))))))))))

-- the tokens of line 3
abbrev pub line_three : List TokenKind
line_three = kind.Word (codes "CREATE") ∷ kind.Word (codes "TABLE") ∷ kind.Word (codes "PAGES") ∷ kind.Word (codes "AS") ∷ kind.Word (codes "SELECT") ∷ kind.Word (codes "PAGE") ∷ kind.Mark mark.Comma ∷ kind.Word (codes "COUNT") ∷ kind.Mark mark.Open ∷ kind.Mark mark.Star ∷ kind.Mark mark.Close ∷ kind.Word (codes "AS") ∷ kind.Word (codes "C") ∷ kind.Mark mark.Comma ∷ kind.Word (codes "SUM") ∷ kind.Mark mark.Open ∷ kind.Word (codes "N") ∷ kind.Mark mark.Close ∷ kind.Word (codes "AS") ∷ kind.Word (codes "TOTAL") ∷ []

lexed-three : {rest : List ℕ} {ks : List TokenKind} → Lexes rest ks [] → Lexes (codes "CREATE TABLE PAGES AS SELECT PAGE, COUNT(*) AS C, SUM(N) AS TOTAL\n" ++ rest) (line_three ++ ks) []
lexed-three lexed = word (codes "CREATE") refl refl refl (blank 32 refl (word (codes "TABLE") refl refl refl (blank 32 refl (word (codes "PAGES") refl refl refl (blank 32 refl (word (codes "AS") refl refl refl (blank 32 refl (word (codes "SELECT") refl refl refl (blank 32 refl (word (codes "PAGE") refl refl refl (sign mark.Comma 44 refl (λ c. refl) refl refl refl (blank 32 refl (word (codes "COUNT") refl refl refl (sign mark.Open 40 refl (λ c. refl) refl refl refl (sign mark.Star 42 refl (λ c. refl) refl refl refl (sign mark.Close 41 refl (λ c. refl) refl refl refl (blank 32 refl (word (codes "AS") refl refl refl (blank 32 refl (word (codes "C") refl refl refl (sign mark.Comma 44 refl (λ c. refl) refl refl refl (blank 32 refl (word (codes "SUM") refl refl refl (sign mark.Open 40 refl (λ c. refl) refl refl refl (word (codes "N") refl refl refl (sign mark.Close 41 refl (λ c. refl) refl refl refl (blank 32 refl (word (codes "AS") refl refl refl (blank 32 refl (word (codes "TOTAL") refl refl refl (blank 10 refl lexed)))))))))))))))))))))))))))))))

-- the tokens of line 4, without the last `;`
abbrev pub line_four : List TokenKind
line_four = kind.Word (codes "FROM") ∷ kind.Word (codes "HITS") ∷ kind.Word (codes "GROUP") ∷ kind.Word (codes "BY") ∷ kind.Word (codes "PAGE") ∷ []

lexed-four : {rest : List ℕ} {ks : List TokenKind} → Lexes rest ks [] → Lexes (codes "  FROM HITS GROUP BY PAGE;\n" ++ rest) (line_four ++ kind.Mark mark.Semicolon ∷ ks) []
lexed-four lexed = blank 32 refl (blank 32 refl (word (codes "FROM") refl refl refl (blank 32 refl (word (codes "HITS") refl refl refl (blank 32 refl (word (codes "GROUP") refl refl refl (blank 32 refl (word (codes "BY") refl refl refl (blank 32 refl (word (codes "PAGE") refl refl refl (sign mark.Semicolon 59 refl (λ c. refl) refl refl refl (blank 10 refl lexed))))))))))))

-- the tokens of line 5
abbrev pub line_five : List TokenKind
line_five = kind.Word (codes "CREATE") ∷ kind.Word (codes "TABLE") ∷ kind.Word (codes "MINUTES") ∷ kind.Word (codes "AS") ∷ kind.Word (codes "SELECT") ∷ kind.Word (codes "PAGE") ∷ kind.Mark mark.Comma ∷ kind.Word (codes "COUNT") ∷ kind.Mark mark.Open ∷ kind.Mark mark.Star ∷ kind.Mark mark.Close ∷ kind.Word (codes "AS") ∷ kind.Word (codes "C") ∷ []

lexed-five : {rest : List ℕ} {ks : List TokenKind} → Lexes rest ks [] → Lexes (codes "CREATE TABLE MINUTES AS SELECT PAGE, COUNT(*) AS C\n" ++ rest) (line_five ++ ks) []
lexed-five lexed = word (codes "CREATE") refl refl refl (blank 32 refl (word (codes "TABLE") refl refl refl (blank 32 refl (word (codes "MINUTES") refl refl refl (blank 32 refl (word (codes "AS") refl refl refl (blank 32 refl (word (codes "SELECT") refl refl refl (blank 32 refl (word (codes "PAGE") refl refl refl (sign mark.Comma 44 refl (λ c. refl) refl refl refl (blank 32 refl (word (codes "COUNT") refl refl refl (sign mark.Open 40 refl (λ c. refl) refl refl refl (sign mark.Star 42 refl (λ c. refl) refl refl refl (sign mark.Close 41 refl (λ c. refl) refl refl refl (blank 32 refl (word (codes "AS") refl refl refl (blank 32 refl (word (codes "C") refl refl refl (blank 10 refl lexed)))))))))))))))))))))

-- the tokens of line 6, without the last `;`
abbrev pub line_six : List TokenKind
line_six = kind.Word (codes "FROM") ∷ kind.Word (codes "HITS") ∷ kind.Word (codes "WINDOW") ∷ kind.Word (codes "TUMBLING") ∷ kind.Mark mark.Open ∷ kind.Word (codes "SIZE") ∷ kind.Digits (codes "1") ∷ kind.Word (codes "MINUTE") ∷ kind.Mark mark.Close ∷ kind.Word (codes "GROUP") ∷ kind.Word (codes "BY") ∷ kind.Word (codes "PAGE") ∷ []

lexed-six : {rest : List ℕ} {ks : List TokenKind} → Lexes rest ks [] → Lexes (codes "  FROM HITS WINDOW TUMBLING (SIZE 1 MINUTE) GROUP BY PAGE;\n" ++ rest) (line_six ++ kind.Mark mark.Semicolon ∷ ks) []
lexed-six lexed = blank 32 refl (blank 32 refl (word (codes "FROM") refl refl refl (blank 32 refl (word (codes "HITS") refl refl refl (blank 32 refl (word (codes "WINDOW") refl refl refl (blank 32 refl (word (codes "TUMBLING") refl refl refl (blank 32 refl (sign mark.Open 40 refl (λ c. refl) refl refl refl (word (codes "SIZE") refl refl refl (blank 32 refl (digits (codes "1") refl refl refl refl (blank 32 refl (word (codes "MINUTE") refl refl refl (sign mark.Close 41 refl (λ c. refl) refl refl refl (blank 32 refl (word (codes "GROUP") refl refl refl (blank 32 refl (word (codes "BY") refl refl refl (blank 32 refl (word (codes "PAGE") refl refl refl (sign mark.Semicolon 59 refl (λ c. refl) refl refl refl (blank 10 refl lexed))))))))))))))))))))))))

script-lexed : Lexes demo_script (line_one ++ (line_two ++ kind.Mark mark.Semicolon ∷ (line_three ++ (line_four ++ kind.Mark mark.Semicolon ∷ (line_five ++ (line_six ++ kind.Mark mark.Semicolon ∷ [])))))) []
unfolding demo_script
script-lexed = lexed-one (lexed-two (lexed-three (lexed-four (lexed-five (lexed-six done)))))

-- tokens of these kinds, with their numbers
numbered : (before ks : List TokenKind) → (ts : List Token) × (kinds ts ≡ ks) × AreNumbered before ts
numbered before [] = ([], refl, tt)
numbered before (k ∷ ks) =
    let others = numbered (before ++ k ∷ []) ks in
    (record { kind = k; statement = statement_after before } ∷ others.0, ap (λ (l : List TokenKind). k ∷ l) others.1, (refl, others.2))

-- the kinds of all tokens
abbrev pub demo_kinds : List TokenKind
demo_kinds = line_one ++ (line_two ++ kind.Mark mark.Semicolon ∷ (line_three ++ (line_four ++ kind.Mark mark.Semicolon ∷ (line_five ++ (line_six ++ kind.Mark mark.Semicolon ∷ [])))))

-- the tokens of the script
pub demo-tokens : (ts : List Token) × (kinds ts ≡ demo_kinds) × AreTokens demo_script ts
demo-tokens =
    let ts = numbered [] demo_kinds in
    (ts.0, ts.1, record { lexes = subst (λ (ks : List TokenKind). Lexes demo_script ks []) (sym ts.1) script-lexed; numbered = ts.2 })

pub demo-text : IsText demo_script
unfolding demo_script longest_text
demo-text = (omega arith, IsUtf8-are_ascii demo_script refl)
