-- At each place of a text something is the longest that begins there, or nothing begins.
use Rattle.std.proofs.Common.{◌≡◌, ℕ, zero, suc, ◌<◌, not, ◌==◌, ◌⊎◌, inl, inr, ⊎_elim, List, [], ◌∷◌, ◌++◌, length, map, drop, Option, Some, None, refl, sym, ap, ◌∙◌, arith, length-append}
use Rattle.std.specs.List.{list_all}
use Rattle.std.specs.Char.{is_ascii_digit, to_ascii_uppercase}
use Rattle.std.proofs.lemmas.Bool.{cases_lt, cases_Bool, false≢true}
use Rattle.ksql_lexer.specs.declared.byte.Class.{Class}
use Rattle.ksql_lexer.specs.declared.byte.Class.TheVariants.{Blank, Letter, Digit, Quote, Backquote, Other}
use Rattle.ksql_lexer.specs.declared.token.Mark.{Mark}
use Rattle.ksql_lexer.specs.declared.token.TokenKind.{TokenKind}
use Rattle.ksql_lexer.specs.declared.token.TokenKind.TheVariants as kind
use Rattle.ksql_lexer.specs.Piece.{is_word_byte, Lacks, IsQuotable, doubled, Longest, BeginsNothing}
use Rattle.ksql_lexer.specs.Place.{first_class, NoComment, pair_at, single_at}
use Rattle.ksql_lexer.proofs.Signs.{pair_longest, single_longest, no_mark}
use Rattle.ksql_lexer.proofs.Places.{nothing_in_nil, word_longest, digits_longest, digits_nothing, quoted_longest, quoted_nothing, quoted_open, text_first, text_more, text_longest, text_open, blank_longest, line_longest, block_longest, no_comment_open, no_comment_front, front_open, mark_longest, mark_nothing}
use Rattle.ksql_script.proofs.SomeCuts.{some_run, some_between, some_begin, some_end}

-- something begins there, or nothing does
abbrev pub StandsOrNot : List ℕ → Type 0
StandsOrNot text = ((piece : Option TokenKind) × (rest : List ℕ) × Longest text piece rest) ⊎ BeginsNothing text

-- ---- by the class of the first byte

at_word : (text : List ℕ) → first_class text ≡ Some Letter → StandsOrNot text
at_word text c =
    let r = some_run is_word_byte text in
    inl (Some (kind.Word (map to_ascii_uppercase r.0)), r.1, word_longest text r.0 r.1 (map to_ascii_uppercase r.0) c r.2 refl)

at_digits : (text : List ℕ) → first_class text ≡ Some Digit → StandsOrNot text
at_digits text c =
    let r = some_run is_word_byte text in
    ⊎_elim
    (λ all. inl (Some (kind.Digits r.0), r.1, digits_longest text r.0 r.1 r.0 c r.2 all refl))
    (λ some. inr (digits_nothing text r.0 r.1 c r.2 some))
    (cases_Bool (list_all is_ascii_digit r.0))

some_quotable : (name : List ℕ) → Lacks 96 name → IsQuotable name ⊎ ¬ (IsQuotable name)
some_quotable name lacks =
    ⊎_elim
    (λ more. ⊎_elim
    (λ line. inl (more, lacks, line))
    (λ broken. inr (λ q. false≢true (sym broken ∙ q.2)))
    (cases_Bool (list_all (λ b. not (b == 10)) name)))
    (λ none. inr (λ q. omega (arith, q.0)))
    (cases_lt 0 (length name))

at_backquote : (text : List ℕ) → first_class text ≡ Some Backquote → StandsOrNot text
at_backquote text c =
    ⊎_elim
    (λ b. ⊎_elim
    (λ quotable. inl (Some (kind.Quoted b.0), b.1, quoted_longest text b.0 b.1 b.0 c b.2 quotable refl))
    (λ bad. inr (quoted_nothing text b.0 b.1 c b.2 bad))
    (some_quotable b.0 b.2.lacks))
    (λ none. inr (quoted_open text c none))
    (some_between 96 text)

-- a text continues if its quote is doubled
text_from : (n : ℕ) (text content rest : List ℕ) → length rest < n → first_class text ≡ Some Quote → text ≡ 39 ∷ (doubled content ++ 39 ∷ rest) → StandsOrNot text
text_from zero text content rest short c e = absurd (omega arith)
text_from (suc n) text content rest short c e =
    ⊎_elim
    (λ b.
    let less : length b.1 < n = omega (arith, ap length b.2.whole, length-append b.0 (39 ∷ b.1)) in
    text_from n text ((content ++ 39 ∷ []) ++ b.0) b.1 less c (text_more text content rest b.0 b.1 ((content ++ 39 ∷ []) ++ b.0) e b.2 refl))
    (λ none. inl (Some (kind.Text content), rest, text_longest text content rest content c e none refl))
    (some_between 39 rest)

at_quote : (text : List ℕ) → first_class text ≡ Some Quote → StandsOrNot text
at_quote text c =
    ⊎_elim
    (λ b. text_from (suc (length b.1)) text b.0 b.1 (omega arith) c (text_first text b.0 b.1 b.0 b.2 refl))
    (λ none. inr (text_open text c none))
    (some_between 39 text)

-- a comment, or none
some_comment : (text : List ℕ) → ((rest : List ℕ) × Longest text None rest) ⊎ NoComment text
some_comment text =
    ⊎_elim
    (λ line. let r = some_run (λ b. not (b == 10)) line.0 in inl (r.1, line_longest text line.0 r.0 r.1 line.1 r.2))
    (λ no_line. ⊎_elim
    (λ block. ⊎_elim
    (λ u. inl (u.1, block_longest text block.0 u.0 u.1 block.1 u.2))
    (λ none. inr (no_comment_open text no_line (front_open text block.0 block.1 none)))
    (some_end block.0))
    (λ no_block. inr (no_comment_front text no_line no_block))
    (some_begin 47 42 text))
    (some_begin 45 45 text)

at_mark : (text : List ℕ) → first_class text ≡ Some Other → NoComment text → StandsOrNot text
at_mark text c none = pair (pair_at text) refl
  where
    single : (o : Option Mark) → single_at text ≡ o → pair_at text ≡ None → StandsOrNot text
    single None e p = inr (mark_nothing text c none (no_mark text p e))
    single (Some m) e p = inl (Some (kind.Mark m), drop 1 text, mark_longest text m (drop 1 text) c none (single_longest text (drop 1 text) m p e refl))

    pair : (o : Option Mark) → pair_at text ≡ o → StandsOrNot text
    pair None e = single (single_at text) refl e
    pair (Some m) e = inl (Some (kind.Mark m), drop 2 text, mark_longest text m (drop 2 text) c none (pair_longest text (drop 2 text) m e refl))

at_other : (text : List ℕ) → first_class text ≡ Some Other → StandsOrNot text
at_other text c = ⊎_elim (λ l. inl (None, l.0, l.1)) (λ none. at_mark text c none) (some_comment text)

pub some_place : (text : List ℕ) → StandsOrNot text
some_place text = at (first_class text) refl
  where
    at : (c : Option Class) → first_class text ≡ c → StandsOrNot text
    at None e = inr (nothing_in_nil text e)
    at (Some Blank) e = inl (None, drop 1 text, blank_longest text (drop 1 text) e refl)
    at (Some Letter) e = at_word text e
    at (Some Digit) e = at_digits text e
    at (Some Backquote) e = at_backquote text e
    at (Some Quote) e = at_quote text e
    at (Some Other) e = at_other text e
