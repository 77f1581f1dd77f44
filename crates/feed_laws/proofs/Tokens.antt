-- In a text of UTF-8, each string token is of UTF-8.
use Rattle.std.proofs.Common.{◌≡◌, ◌∙◌, ap, sym, refl, subst, ℕ, suc, List, [], ◌∷◌, ◌++◌, ◌+◌, ◌<◌, Bool, true, false, cond, length, get_or, drop, Option, Some, None, append_assoc, arith, eqb-true}
use Rattle.std.specs.Prelude.{◌&&◌, ◌==◌, IfSome, nat_eq}
use Rattle.std.specs.List.{AllByRecursion, starts_with}
use Rattle.std.specs.Str.{IsCharBoundary, IsUtf8}
use Rattle.std.proofs.lemmas.List.{length-append}
use Rattle.std.proofs.lemmas.Str.{IsCharBoundary-after_ascii, IsUtf8-drop}
use Rattle.json.specs.Ascii as ascii
use Rattle.json.specs.Lex.{Class, Lexeme, Mode, Place, begins_colon, class, if_allowed, lex, lex_byte, may_begin, may_close, operator_lexeme, place_token, punctuate, string_token, tokens}
use Rattle.json.specs.Text.{content, plain}
use Rattle.json.specs.Token.{Token}
use Rattle.json.specs.Word.{after_number, ends_word, head, is_operator, is_space, literal, number_before, word}
use Rattle.feed_laws.proofs.Contents.{content-text}

-- a string is of UTF-8
abbrev pub IsTextToken : Token → Type 0
IsTextToken (Token.string s) = IsUtf8 s
IsTextToken t = Unit {0}

abbrev IsTextLexeme : Lexeme → Type 0
IsTextLexeme (Lexeme.token t) = IsTextToken t
IsTextLexeme Lexeme.comma = Unit {0}
IsTextLexeme Lexeme.colon = Unit {0}

-- ---- what follows a byte of a text

-- bytes that follow others in a text
abbrev IsTail : List ℕ → Type 0
IsTail xs = (before : List ℕ) × IsUtf8 (before ++ xs)

tail-next : (x : ℕ) (xs : List ℕ) → IsTail (x ∷ xs) → IsTail xs
tail-next x xs tail = (tail.0 ++ x ∷ [], subst IsUtf8 (sym (append_assoc tail.0 (x ∷ []) xs)) tail.1)

drop-past : (before : List ℕ) (x : ℕ) (xs : List ℕ) → drop (length before + 1) (before ++ x ∷ xs) ≡ xs
drop-past [] x xs = refl
drop-past (b ∷ before) x xs =
    let next : suc (length before) + 1 ≡ suc (length before + 1) = omega arith in
    ap (λ k. drop k (b ∷ (before ++ x ∷ xs))) next ∙ drop-past before x xs

get-past : (before : List ℕ) (x : ℕ) (xs : List ℕ) → get_or (before ++ x ∷ xs) (length before) 0 ≡ x
get-past [] x xs = refl
get-past (b ∷ before) x xs = get-past before x xs

tail-after_ascii : (x : ℕ) (xs : List ℕ) → x < 128 → IsTail (x ∷ xs) → IsUtf8 xs
tail-after_ascii x xs low tail =
    let before : List ℕ = tail.0 in
    let whole : List ℕ = before ++ x ∷ xs in
    let within : length before < length whole = omega (arith, length-append before (x ∷ xs)) in
    let byte : get_or whole (length before) 0 < 128 = omega (arith, get-past before x xs) in
    let cut : IsCharBoundary whole (length before + 1) = IsCharBoundary-after_ascii whole (length before) tail.1 within byte in
    subst IsUtf8 (drop-past before x xs) (IsUtf8-drop whole (length before + 1) tail.1 cut)

-- ---- lexemes

pick-token : (b : Bool) (t u : Token) → IsTextToken t → IsTextToken u → IsTextToken (cond b t u)
pick-token true t u is-t is-u = is-t
pick-token false t u is-t is-u = is-u

pick-lexeme : (b : Bool) (l m : Lexeme) → IsTextLexeme l → IsTextLexeme m → IsTextLexeme (cond b l m)
pick-lexeme true l m is-l is-m = is-l
pick-lexeme false l m is-l is-m = is-m

text-operator : (x : ℕ) → IsTextLexeme (operator_lexeme x)
text-operator x =
    pick-lexeme (x == ascii.open_brace) (Lexeme.token Token.begin_object) _ tt
    (pick-lexeme (x == ascii.close_brace) (Lexeme.token Token.end_object) _ tt
    (pick-lexeme (x == ascii.open_bracket) (Lexeme.token Token.begin_array) _ tt
    (pick-lexeme (x == ascii.close_bracket) (Lexeme.token Token.end_array) _ tt
    (pick-lexeme (x == ascii.comma) Lexeme.comma Lexeme.colon tt tt))))

text-literal : (name : List ℕ) (t : Token) (xs : List ℕ) → IsTextToken t → IsTextToken (literal name t xs)
text-literal name t xs is = pick-token (starts_with nat_eq xs name && ends_word (drop (length name) xs)) t Token.bad is tt

text-number : (xs : List ℕ) (o : Option (List ℕ)) → IsTextToken (number_before xs o)
text-number xs None = tt
text-number xs (Some rest) = pick-token (ends_word rest) (Token.number _) Token.bad tt tt

text-word : (xs : List ℕ) → IsTextToken (word xs)
unfolding word
text-word xs =
    pick-token (head xs == ascii.lower_t) (literal ascii.true_text (Token.boolean true) xs) _ (text-literal ascii.true_text (Token.boolean true) xs tt)
    (pick-token (head xs == ascii.lower_f) (literal ascii.false_text (Token.boolean false) xs) _ (text-literal ascii.false_text (Token.boolean false) xs tt)
    (pick-token (head xs == ascii.lower_n) (literal ascii.null_text Token.null xs) _ (text-literal ascii.null_text Token.null xs tt)
    (text-number xs (after_number xs))))

text-string : (o : Option (List ℕ)) → IfSome o IsUtf8 → IsTextToken (string_token o)
text-string None is = tt
text-string (Some s) is = is

abbrev AreLexemes : List Lexeme → Type 0
AreLexemes ls = AllByRecursion IsTextLexeme ls

text-byte : (m : Mode) (c : Class) (x : ℕ) (xs : List ℕ) (k : Mode → List Lexeme) → (c ≡ Class.quote → IsUtf8 xs) → ((next : Mode) → AreLexemes (k next)) →
    AreLexemes (lex_byte m c x xs k)
text-byte Mode.in_escape c x xs k text rest = rest Mode.in_string
text-byte Mode.between Class.quote x xs k text rest = (text-string (content plain xs) (content-text xs (text refl)), rest Mode.in_string)
text-byte Mode.between Class.backslash x xs k text rest = (tt, rest Mode.in_word)
text-byte Mode.between Class.operator x xs k text rest = (text-operator x, rest Mode.between)
text-byte Mode.between Class.space x xs k text rest = rest Mode.between
text-byte Mode.between Class.other x xs k text rest = (text-word (x ∷ xs), rest Mode.in_word)
text-byte Mode.in_word Class.quote x xs k text rest = rest Mode.in_word
text-byte Mode.in_word Class.backslash x xs k text rest = rest Mode.in_word
text-byte Mode.in_word Class.operator x xs k text rest = (text-operator x, rest Mode.between)
text-byte Mode.in_word Class.space x xs k text rest = rest Mode.between
text-byte Mode.in_word Class.other x xs k text rest = rest Mode.in_word
text-byte Mode.in_string Class.quote x xs k text rest = rest Mode.between
text-byte Mode.in_string Class.backslash x xs k text rest = rest Mode.in_escape
text-byte Mode.in_string Class.operator x xs k text rest = rest Mode.in_string
text-byte Mode.in_string Class.space x xs k text rest = rest Mode.in_string
text-byte Mode.in_string Class.other x xs k text rest = rest Mode.in_string

not-quote : (a b c : Bool) → cond a Class.backslash (cond b Class.operator (cond c Class.space Class.other)) ≡ Class.quote → ⊥
not-quote true b c is = cc
not-quote false true c is = cc
not-quote false false true is = cc
not-quote false false false is = cc

class-quote : (x : ℕ) → class x ≡ Class.quote → x ≡ 34
class-quote x is = by (x == 34) refl is
  where
    by : (quote : Bool) → (x == 34) ≡ quote →
        cond quote Class.quote (cond (x == 92) Class.backslash (cond (is_operator x) Class.operator (cond (is_space x) Class.space Class.other))) ≡ Class.quote → x ≡ 34
    by true same is-quote = eqb-true x 34 same
    by false same is-quote = absurd (not-quote (x == 92) (is_operator x) (is_space x) is-quote)

text-lexemes : (m : Mode) (xs : List ℕ) → IsTail xs → AreLexemes (lex m xs)
unfolding lex
text-lexemes m [] tail = tt
text-lexemes m (x ∷ xs) tail =
    text-byte m (class x) x xs (λ next. lex next xs) (λ is. tail-after_ascii x xs (omega (arith, class-quote x is)) tail)
    (λ next. text-lexemes next xs (tail-next x xs tail))

-- ---- tokens

abbrev pub AreTokens : List Token → Type 0
AreTokens ts = AllByRecursion IsTextToken ts

allowed : (b : Bool) (t : Token) (k : Place → List Token) (next : Place) → IsTextToken t → ((p : Place) → AreTokens (k p)) → AreTokens (if_allowed b t k next)
allowed true t k next is rest = (is, rest next)
allowed false t k next is rest = (tt, tt)

text-place : (p : Place) (t : Token) (colon : Bool) (k : Place → List Token) → IsTextToken t → ((next : Place) → AreTokens (k next)) → AreTokens (place_token p t colon k)
text-place p Token.begin_object colon k is rest = allowed (may_begin p) Token.begin_object k Place.fresh tt rest
text-place p Token.end_object colon k is rest = allowed (may_close p) Token.end_object k Place.after_value tt rest
text-place p Token.begin_array colon k is rest = allowed (may_begin p) Token.begin_array k Place.fresh tt rest
text-place p Token.end_array colon k is rest = allowed (may_close p) Token.end_array k Place.after_value tt rest
text-place p (Token.key s) colon k is rest = (tt, tt)
text-place p (Token.string s) true k is rest = allowed (may_begin p) (Token.key s) k Place.after_key tt rest
text-place p (Token.string s) false k is rest = allowed (may_begin p) (Token.string s) k Place.after_value is rest
text-place p (Token.number s) colon k is rest = allowed (may_begin p) (Token.number s) k Place.after_value tt rest
text-place p (Token.boolean b) colon k is rest = allowed (may_begin p) (Token.boolean b) k Place.after_value tt rest
text-place p Token.null colon k is rest = allowed (may_begin p) Token.null k Place.after_value tt rest
text-place p Token.bad colon k is rest = (tt, tt)

text-punctuate : (p : Place) (ls : List Lexeme) → AreLexemes ls → AreTokens (punctuate p ls)
unfolding punctuate
text-punctuate Place.fresh [] are = tt
text-punctuate Place.after_value [] are = tt
text-punctuate Place.after_comma [] are = (tt, tt)
text-punctuate Place.after_key [] are = (tt, tt)
text-punctuate Place.fresh (Lexeme.token t ∷ ls) are = text-place Place.fresh t (begins_colon ls) (λ next. punctuate next ls) are.0 (λ next. text-punctuate next ls are.1)
text-punctuate Place.after_value (Lexeme.token t ∷ ls) are = text-place Place.after_value t (begins_colon ls) (λ next. punctuate next ls) are.0 (λ next. text-punctuate next ls are.1)
text-punctuate Place.after_comma (Lexeme.token t ∷ ls) are = text-place Place.after_comma t (begins_colon ls) (λ next. punctuate next ls) are.0 (λ next. text-punctuate next ls are.1)
text-punctuate Place.after_key (Lexeme.token t ∷ ls) are = text-place Place.after_key t (begins_colon ls) (λ next. punctuate next ls) are.0 (λ next. text-punctuate next ls are.1)
text-punctuate Place.fresh (Lexeme.comma ∷ ls) are = (tt, tt)
text-punctuate Place.after_value (Lexeme.comma ∷ ls) are = text-punctuate Place.after_comma ls are.1
text-punctuate Place.after_comma (Lexeme.comma ∷ ls) are = (tt, tt)
text-punctuate Place.after_key (Lexeme.comma ∷ ls) are = (tt, tt)
text-punctuate Place.fresh (Lexeme.colon ∷ ls) are = (tt, tt)
text-punctuate Place.after_value (Lexeme.colon ∷ ls) are = (tt, tt)
text-punctuate Place.after_comma (Lexeme.colon ∷ ls) are = (tt, tt)
text-punctuate Place.after_key (Lexeme.colon ∷ ls) are = text-punctuate Place.fresh ls are.1

-- the tokens of a text
pub text-tokens : (text : List ℕ) → IsUtf8 text → AreTokens (tokens text)
text-tokens text utf8 = text-punctuate Place.fresh (lex Mode.between text) (text-lexemes Mode.between text ([], utf8))
