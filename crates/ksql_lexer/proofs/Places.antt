-- For each class of the first byte: what was read is the longest that begins there, or nothing does.
use Rattle.std.proofs.Common.{◌≡◌, ◌≢◌, ℕ, ◌<◌, ◌≤◌, true, false, not, ◌==◌, inl, inr, ⊎_elim, List, [], ◌∷◌, ◌++◌, length, map, drop, Option, Some, None, codes, IsUtf8, IsCharBoundary, refl, sym, ap, ◌∙◌, subst, arith, append_assoc, length-append}
use Rattle.std.specs.List.{list_all}
use Rattle.std.specs.Char.{is_ascii_digit, to_ascii_uppercase}
use Rattle.std.specs.Str.Iter.{HasSubslice}
use Rattle.std.specs.Str.Pattern.{StripsPrefix, FindsTextPrefix}
use Rattle.std.proofs.lemmas.Bool.{both_ways, false≢true, and_parts, and_from, or_left, or_right}
use Rattle.std.proofs.lemmas.Bool.Decides.{nat_tests}
use Rattle.std.proofs.lemmas.Str.{IsCharBoundary-after_ascii}
use Rattle.ksql_lexer.specs.declared.byte.Class.{Class}
use Rattle.ksql_lexer.specs.declared.byte.Class.TheVariants.{Blank, Letter, Digit, Quote, Backquote, Other}
use Rattle.ksql_lexer.specs.declared.token.Mark.{Mark}
use Rattle.ksql_lexer.specs.declared.token.TokenKind.{TokenKind}
use Rattle.ksql_lexer.specs.declared.token.TokenKind.TheVariants as kind
use Rattle.ksql_lexer.specs.Piece.{is_blank, is_letter, is_word_byte, IsWord, IsQuotable, doubled, first_passes, Begins, Longest, BeginsNothing}
use Rattle.ksql_lexer.specs.Place.{class_of, first_class, IsRun, IsBetween, NoneBetween, IsUpToEnd, NoneCloses, NoComment, NoMark, IsLongestMark}
use Rattle.ksql_lexer.proofs.Runs.{head_same, tail_same, run_le, one_run, one_cut, one_end}
use Rattle.ksql_lexer.proofs.Doubled.{doubled_le, doubled-append, doubled-Lacks}
use Rattle.ksql_lexer.proofs.Classes.{fits, begins_fits, nothing_begins_nil, class_blank, class_letter, class_digit, blank_class}
use Rattle.ksql_lexer.proofs.Signs.{mark_front}

-- what begins a text fits the class of its first byte
first_fits : (text : List ℕ) (p : Option TokenKind) (rest : List ℕ) (c : Class) → first_class text ≡ Some c → Begins text p rest → fits p c ≡ true
first_fits [] p rest c h g = absurd (nothing_begins_nil p rest g)
first_fits (b ∷ bs) p rest c h g = let same : class_of b ≡ c = cc in subst (λ k. fits p k ≡ true) same (begins_fits b bs p rest g)

-- the empty text
pub nothing_in_nil : (text : List ℕ) → first_class text ≡ None → BeginsNothing text
nothing_in_nil [] h p rest g = nothing_begins_nil p rest g
nothing_in_nil (b ∷ bs) h p rest g = let h' : Some (class_of b) ≡ None = h in cc

-- words

word_passes : (front : List ℕ) → IsWord front → list_all is_word_byte front ≡ true
word_passes [] h = absurd h
word_passes (b ∷ bs) h = and_from (is_word_byte b) (list_all is_word_byte bs) (or_left (is_letter b) (is_ascii_digit b) h.0) h.1

word_is : (text run rest : List ℕ) → first_class text ≡ Some Letter → IsRun is_word_byte text run rest → IsWord run
word_is [] run rest c r = let h : None ≡ Some Letter = c in absurd cc
word_is (b ∷ bs) [] rest c r =
    let letter = class_letter b (let h : class_of b ≡ Letter = cc in h) in
    both_ways (is_word_byte b) (ap (first_passes is_word_byte) r.whole ∙ r.stops) (or_left (is_letter b) (is_ascii_digit b) letter)
word_is (b ∷ bs) (x ∷ xs) rest c r =
    let letter = class_letter b (let h : class_of b ≡ Letter = cc in h) in
    (subst (λ y. is_letter y ≡ true) (head_same b x bs (xs ++ rest) r.whole) letter, (and_parts (is_word_byte x) (list_all is_word_byte xs) r.passes).1)

word_le : (text run rest : List ℕ) → first_class text ≡ Some Letter → IsRun is_word_byte text run rest → (other : Option TokenKind) (after : List ℕ) → Begins text other after → length rest ≤ length after
word_le text run rest c r (Some (kind.Word n)) after g = run_le is_word_byte run rest g.front after (sym r.whole ∙ g.whole) (word_passes g.front g.spelled.0) r.stops
word_le text run rest c r other after g = absurd (false≢true (first_fits text other after Letter c g))

pub word_longest : (text run rest name : List ℕ) → first_class text ≡ Some Letter → IsRun is_word_byte text run rest → name ≡ map to_ascii_uppercase run → Longest text (Some (kind.Word name)) rest
word_longest text run rest name c r e = record {
  begins = record { front = run; whole = r.whole; spelled = (word_is text run rest c r, e); follows = tt };
  longest = word_le text run rest c r;
}

-- digits

digits_pass : (xs : List ℕ) → list_all is_ascii_digit xs ≡ true → list_all is_word_byte xs ≡ true
digits_pass [] h = refl
digits_pass (x ∷ xs) h =
    let parts = and_parts (is_ascii_digit x) (list_all is_ascii_digit xs) h in
    and_from (is_word_byte x) (list_all is_word_byte xs) (or_right (is_letter x) (is_ascii_digit x) parts.0) (digits_pass xs parts.1)

run_some : (text run rest : List ℕ) → first_class text ≡ Some Digit → IsRun is_word_byte text run rest → 0 < length run
run_some [] run rest c r = let h : None ≡ Some Digit = c in absurd cc
run_some (b ∷ bs) [] rest c r =
    let digit = class_digit b (let h : class_of b ≡ Digit = cc in h) in
    absurd (both_ways (is_word_byte b) (ap (first_passes is_word_byte) r.whole ∙ r.stops) (or_right (is_letter b) (is_ascii_digit b) digit))
run_some (b ∷ bs) (x ∷ xs) rest c r = omega arith

-- the digits that begin a text are its run
digits_run : (text run rest digits after : List ℕ) → IsRun is_word_byte text run rest → Begins text (Some (kind.Digits digits)) after → (run ≡ digits) × (rest ≡ after)
digits_run text run rest digits after r g =
    let one = one_run is_word_byte run rest g.front after (sym r.whole ∙ g.whole) r.passes (digits_pass g.front g.spelled.0.1) r.stops g.follows in
    (one.0 ∙ sym g.spelled.1, one.1)

digits_le : (text run rest : List ℕ) → first_class text ≡ Some Digit → IsRun is_word_byte text run rest → (other : Option TokenKind) (after : List ℕ) → Begins text other after → length rest ≤ length after
digits_le text run rest c r (Some (kind.Digits d)) after g = omega (arith, ap length (digits_run text run rest d after r g).1)
digits_le text run rest c r other after g = absurd (false≢true (first_fits text other after Digit c g))

pub digits_longest : (text run rest digits : List ℕ) → first_class text ≡ Some Digit → IsRun is_word_byte text run rest → list_all is_ascii_digit run ≡ true → digits ≡ run → Longest text (Some (kind.Digits digits)) rest
digits_longest text run rest digits c r all e = record {
  begins = record { front = run; whole = r.whole; spelled = ((run_some text run rest c r, all), e); follows = r.stops };
  longest = digits_le text run rest c r;
}

pub digits_nothing : (text run rest : List ℕ) → first_class text ≡ Some Digit → IsRun is_word_byte text run rest → list_all is_ascii_digit run ≡ false → BeginsNothing text
digits_nothing text run rest c r all (Some (kind.Digits d)) after g =
    both_ways (list_all is_ascii_digit run) all (ap (list_all is_ascii_digit) ((digits_run text run rest d after r g).0 ∙ g.spelled.1) ∙ g.spelled.0.1)
digits_nothing text run rest c r all other after g = false≢true (first_fits text other after Digit c g)

-- the text between quotes

between_whole : (q : ℕ) (text front inside rest : List ℕ) → text ≡ front ++ rest → front ≡ q ∷ (inside ++ q ∷ []) → text ≡ q ∷ (inside ++ q ∷ rest)
between_whole q text front inside rest e f = e ∙ ap (λ l. l ++ rest) f ∙ ap (λ l. q ∷ l) (append_assoc inside (q ∷ []) rest)

begins_between : (q : ℕ) (text inside rest : List ℕ) → text ≡ q ∷ (inside ++ q ∷ rest) → text ≡ (q ∷ (inside ++ q ∷ [])) ++ rest
begins_between q text inside rest e = e ∙ ap (λ l. q ∷ l) (sym (append_assoc inside (q ∷ []) rest))

-- the name that begins a text is the text between its backquotes
quoted_between : (text inside rest name after : List ℕ) → IsBetween 96 text inside rest → Begins text (Some (kind.Quoted name)) after → (inside ≡ name) × (rest ≡ after)
quoted_between text inside rest name after b g =
    let whole = between_whole 96 text g.front name after g.whole g.spelled.0 in
    one_cut 96 inside rest name after (tail_same 96 96 (inside ++ 96 ∷ rest) (name ++ 96 ∷ after) (sym b.whole ∙ whole)) b.lacks g.spelled.1.1

quoted_le : (text inside rest : List ℕ) → first_class text ≡ Some Backquote → IsBetween 96 text inside rest → (other : Option TokenKind) (after : List ℕ) → Begins text other after → length rest ≤ length after
quoted_le text inside rest c b (Some (kind.Quoted name)) after g = omega (arith, ap length (quoted_between text inside rest name after b g).1)
quoted_le text inside rest c b other after g = absurd (false≢true (first_fits text other after Backquote c g))

pub quoted_longest : (text inside rest name : List ℕ) → first_class text ≡ Some Backquote → IsBetween 96 text inside rest → IsQuotable inside → name ≡ inside → Longest text (Some (kind.Quoted name)) rest
quoted_longest text inside rest name c b quotable e = subst (λ n. Longest text (Some (kind.Quoted n)) rest) (sym e) (record {
  begins = record { front = 96 ∷ (inside ++ 96 ∷ []); whole = begins_between 96 text inside rest b.whole; spelled = (refl, quotable); follows = tt };
  longest = quoted_le text inside rest c b;
})

pub quoted_nothing : (text inside rest : List ℕ) → first_class text ≡ Some Backquote → IsBetween 96 text inside rest → ¬ (IsQuotable inside) → BeginsNothing text
quoted_nothing text inside rest c b bad (Some (kind.Quoted name)) after g = bad (subst IsQuotable (sym (quoted_between text inside rest name after b g).0) g.spelled.1)
quoted_nothing text inside rest c b bad other after g = false≢true (first_fits text other after Backquote c g)

pub quoted_open : (text : List ℕ) → first_class text ≡ Some Backquote → NoneBetween 96 text → BeginsNothing text
quoted_open text c none (Some (kind.Quoted name)) after g = none name after (between_whole 96 text g.front name after g.whole g.spelled.0)
quoted_open text c none other after g = false≢true (first_fits text other after Backquote c g)

text_le : (text content rest : List ℕ) → first_class text ≡ Some Quote → text ≡ 39 ∷ (doubled content ++ 39 ∷ rest) → NoneBetween 39 rest → (other : Option TokenKind) (after : List ℕ) → Begins text other after → length rest ≤ length after
text_le text content rest c e none (Some (kind.Text d)) after g =
    let whole = between_whole 39 text g.front (doubled d) after g.whole g.spelled in
    doubled_le content rest d after (tail_same 39 39 (doubled content ++ 39 ∷ rest) (doubled d ++ 39 ∷ after) (sym e ∙ whole)) none
text_le text content rest c e none other after g = absurd (false≢true (first_fits text other after Quote c g))

pub text_longest : (text content rest held : List ℕ) → first_class text ≡ Some Quote → text ≡ 39 ∷ (doubled content ++ 39 ∷ rest) → NoneBetween 39 rest → held ≡ content → Longest text (Some (kind.Text held)) rest
text_longest text content rest held c e none f = subst (λ n. Longest text (Some (kind.Text n)) rest) (sym f) (record {
  begins = record { front = 39 ∷ (doubled content ++ 39 ∷ []); whole = begins_between 39 text (doubled content) rest e; spelled = refl; follows = tt };
  longest = text_le text content rest c e none;
})

-- the first piece of a text
pub text_first : (text inside rest content : List ℕ) → IsBetween 39 text inside rest → content ≡ inside → text ≡ 39 ∷ (doubled content ++ 39 ∷ rest)
text_first text inside rest content b e = b.whole ∙ ap (λ l. 39 ∷ (l ++ 39 ∷ rest)) (sym (doubled-Lacks inside b.lacks) ∙ ap doubled (sym e))

-- one more piece of a text, after a quote that was written twice
pub text_more : (text content rest inside behind more : List ℕ) → text ≡ 39 ∷ (doubled content ++ 39 ∷ rest) → IsBetween 39 rest inside behind → more ≡ (content ++ 39 ∷ []) ++ inside → text ≡ 39 ∷ (doubled more ++ 39 ∷ behind)
text_more text content rest inside behind more e b m =
    let twice : doubled more ≡ (doubled content ++ 39 ∷ 39 ∷ []) ++ inside =
    ap doubled m ∙ doubled-append (content ++ 39 ∷ []) inside ∙ (λ i. doubled-append content (39 ∷ []) i ++ doubled-Lacks inside b.lacks i) in
    e ∙ ap (λ l. 39 ∷ (doubled content ++ 39 ∷ l)) b.whole
    ∙ ap (λ l. 39 ∷ l) (sym (append_assoc (doubled content) (39 ∷ 39 ∷ []) (inside ++ 39 ∷ behind)) ∙ sym (append_assoc (doubled content ++ 39 ∷ 39 ∷ []) inside (39 ∷ behind)))
    ∙ ap (λ l. 39 ∷ (l ++ 39 ∷ behind)) (sym twice)

pub text_open : (text : List ℕ) → first_class text ≡ Some Quote → NoneBetween 39 text → BeginsNothing text
text_open text c none (Some (kind.Text d)) after g = none (doubled d) after (between_whole 39 text g.front (doubled d) after g.whole g.spelled)
text_open text c none other after g = false≢true (first_fits text other after Quote c g)

-- blanks

blank_ascii : (b : ℕ) → is_blank b ≡ true → b < 128
blank_ascii b h = grind (arith, nat_tests)

blank_le : (b : ℕ) (bs : List ℕ) → class_of b ≡ Blank → (other : Option TokenKind) (after : List ℕ) → Begins (b ∷ bs) other after → length bs ≤ length after
blank_le b bs c None after g =
    ⊎_elim
    (λ blank. omega (arith, ap length g.whole, length-append g.front after, ap length blank.1))
    (λ comment. ⊎_elim
    (λ line. let same = head_same b 45 bs ((45 ∷ line.0) ++ after) (g.whole ∙ ap (λ l. l ++ after) line.1) in
    let clash : Blank ≡ Other = sym c ∙ ap class_of same in absurd cc)
    (λ block. let same = head_same b 47 bs ((42 ∷ (block.0 ++ codes "*/")) ++ after) (g.whole ∙ ap (λ l. l ++ after) block.1) in
    let clash : Blank ≡ Other = sym c ∙ ap class_of same in absurd cc)
    comment)
    g.spelled
blank_le b bs c (Some (kind.Mark m)) after g = absurd (false≢true (first_fits (b ∷ bs) (Some (kind.Mark m)) after Blank (ap (λ k. Some k) c) g))
blank_le b bs c other after g = absurd (false≢true (first_fits (b ∷ bs) other after Blank (ap (λ k. Some k) c) g))

pub blank_longest : (text rest : List ℕ) → first_class text ≡ Some Blank → rest ≡ drop 1 text → Longest text None rest
blank_longest [] rest c e = let h : None ≡ Some Blank = c in absurd cc
blank_longest (b ∷ bs) rest c e =
    let blank : class_of b ≡ Blank = cc in
    subst (λ l. Longest (b ∷ bs) None l) (sym e) (record {
      begins = record { front = b ∷ []; whole = refl; spelled = inl (b, refl, class_blank b blank); follows = tt };
      longest = blank_le b bs blank;
    })

-- a text may be cut after a blank
pub blank_boundary : (text : List ℕ) → first_class text ≡ Some Blank → IsUtf8 text → IsCharBoundary text 1
blank_boundary [] c utf8 = let h : None ≡ Some Blank = c in absurd cc
blank_boundary (b ∷ bs) c utf8 =
    let blank : class_of b ≡ Blank = cc in
    IsCharBoundary-after_ascii (b ∷ bs) 0 utf8 (omega arith) (blank_ascii b (class_blank b blank))

-- comments

line_le : (line rest : List ℕ) → IsRun (λ b. not (b == 10)) (line ++ rest) line rest → (other : Option TokenKind) (after : List ℕ) → Begins (45 ∷ 45 ∷ (line ++ rest)) other after → length rest ≤ length after
line_le line rest r None after g =
    ⊎_elim
    (λ blank. omega (arith, ap length g.whole, length-append g.front after, ap length blank.1, length-append line rest))
    (λ comment. ⊎_elim
    (λ other. let whole : 45 ∷ 45 ∷ (line ++ rest) ≡ 45 ∷ 45 ∷ (other.0 ++ after) = g.whole ∙ ap (λ l. l ++ after) other.1 in
    let same = tail_same 45 45 (line ++ rest) (other.0 ++ after) (tail_same 45 45 (45 ∷ (line ++ rest)) (45 ∷ (other.0 ++ after)) whole) in
    run_le (λ b. not (b == 10)) line rest other.0 after same other.2 r.stops)
    (λ block. absurd (omega (arith, head_same 45 47 (45 ∷ (line ++ rest)) ((42 ∷ (block.0 ++ codes "*/")) ++ after) (g.whole ∙ ap (λ l. l ++ after) block.1))))
    comment)
    g.spelled
line_le line rest r (Some (kind.Mark m)) after g =
    ⊎_elim
    (λ one. omega (arith, ap length g.whole, length-append g.front after, ap length one.1, length-append line rest))
    (λ two. omega (arith, ap length g.whole, length-append g.front after, ap length two.2, length-append line rest))
    (mark_front m g.front g.spelled)
line_le line rest r other after g = absurd (false≢true (first_fits (45 ∷ 45 ∷ (line ++ rest)) other after Other refl g))

pub line_longest : (text inner line rest : List ℕ) → text ≡ 45 ∷ 45 ∷ inner → IsRun (λ b. not (b == 10)) inner line rest → Longest text None rest
line_longest text inner line rest e r =
    subst (λ l. Longest l None rest) (ap (λ l. 45 ∷ 45 ∷ l) (sym r.whole) ∙ sym e) (record {
      begins = record { front = 45 ∷ 45 ∷ line; whole = refl; spelled = inr (inl (line, refl, r.passes)); follows = tt };
      longest = line_le line rest (record { whole = refl; passes = r.passes; stops = r.stops });
    })

block_le : (inside rest : List ℕ) → ¬ (HasSubslice inside (codes "*/")) → (other : Option TokenKind) (after : List ℕ) → Begins (47 ∷ 42 ∷ (inside ++ 42 ∷ 47 ∷ rest)) other after → length rest ≤ length after
block_le inside rest none None after g =
    ⊎_elim
    (λ blank. omega (arith, ap length g.whole, length-append g.front after, ap length blank.1, length-append inside (42 ∷ 47 ∷ rest)))
    (λ comment. ⊎_elim
    (λ line. absurd (omega (arith, head_same 47 45 (42 ∷ (inside ++ 42 ∷ 47 ∷ rest)) ((45 ∷ line.0) ++ after) (g.whole ∙ ap (λ l. l ++ after) line.1))))
    (λ other.
    let whole : 47 ∷ 42 ∷ (inside ++ 42 ∷ 47 ∷ rest) ≡ 47 ∷ 42 ∷ (other.0 ++ 42 ∷ 47 ∷ after) = g.whole ∙ ap (λ l. l ++ after) other.1 ∙ ap (λ l. 47 ∷ 42 ∷ l) (append_assoc other.0 (42 ∷ 47 ∷ []) after) in
    let same = tail_same 42 42 (inside ++ 42 ∷ 47 ∷ rest) (other.0 ++ 42 ∷ 47 ∷ after) (tail_same 47 47 (42 ∷ (inside ++ 42 ∷ 47 ∷ rest)) (42 ∷ (other.0 ++ 42 ∷ 47 ∷ after)) whole) in
    omega (arith, ap length (one_end inside rest other.0 after same none other.2)))
    comment)
    g.spelled
block_le inside rest none (Some (kind.Mark m)) after g =
    ⊎_elim
    (λ one. omega (arith, ap length g.whole, length-append g.front after, ap length one.1, length-append inside (42 ∷ 47 ∷ rest)))
    (λ two. omega (arith, ap length g.whole, length-append g.front after, ap length two.2, length-append inside (42 ∷ 47 ∷ rest)))
    (mark_front m g.front g.spelled)
block_le inside rest none other after g = absurd (false≢true (first_fits (47 ∷ 42 ∷ (inside ++ 42 ∷ 47 ∷ rest)) other after Other refl g))

pub block_longest : (text inner inside rest : List ℕ) → text ≡ 47 ∷ 42 ∷ inner → IsUpToEnd inner inside rest → Longest text None rest
block_longest text inner inside rest e u =
    subst (λ l. Longest l None rest) (ap (λ l. 47 ∷ 42 ∷ l) (sym u.whole) ∙ sym e) (record {
      begins = record { front = 47 ∷ 42 ∷ (inside ++ 42 ∷ 47 ∷ []); whole = ap (λ l. 47 ∷ 42 ∷ l) (sym (append_assoc inside (42 ∷ 47 ∷ []) rest)); spelled = inr (inr (inside, refl, u.lacks)); follows = tt };
      longest = block_le inside rest u.lacks;
    })

-- without `--` in front, and without `/*` in front and `*/` after it, no comment begins
pub no_comment : (text : List ℕ) → ((rest : List ℕ) → text ≢ 45 ∷ 45 ∷ rest) → ((inside rest : List ℕ) → text ≢ 47 ∷ 42 ∷ (inside ++ 42 ∷ 47 ∷ rest)) → NoComment text
no_comment text no_line no_block front rest e comment =
    ⊎_elim
    (λ line. no_line (line.0 ++ rest) (e ∙ ap (λ l. l ++ rest) line.1))
    (λ block. no_block block.0 rest (e ∙ ap (λ l. l ++ rest) block.1 ∙ ap (λ l. 47 ∷ 42 ∷ l) (append_assoc block.0 (42 ∷ 47 ∷ []) rest)))
    comment

-- what `strip_prefix` says
pub stripped : (p text rest : List ℕ) → StripsPrefix (FindsTextPrefix p) text rest → text ≡ p ++ rest
stripped p text rest h = h.1.1 ∙ ap (λ l. p ++ l) (sym h.2)

-- no `*/` follows the leading `/*`
pub front_open : (text inner : List ℕ) → text ≡ 47 ∷ 42 ∷ inner → ¬ (HasSubslice inner (codes "*/")) → NoneCloses text
front_open text inner e none front inside rest f = at front (sym e ∙ f)
  where
    at : (a : List ℕ) → 47 ∷ 42 ∷ inner ≡ a ++ (47 ∷ 42 ∷ (inside ++ 42 ∷ 47 ∷ rest)) → ⊥
    at [] g = none (inside, rest, tail_same 42 42 inner (inside ++ 42 ∷ 47 ∷ rest) (tail_same 47 47 (42 ∷ inner) (42 ∷ (inside ++ 42 ∷ 47 ∷ rest)) g))
    at (x ∷ []) g = omega (arith, head_same 42 47 inner (42 ∷ (inside ++ 42 ∷ 47 ∷ rest)) (tail_same 47 x (42 ∷ inner) (47 ∷ 42 ∷ (inside ++ 42 ∷ 47 ∷ rest)) g))
    at (x ∷ y ∷ a) g =
        let later = tail_same 42 y inner (a ++ (47 ∷ 42 ∷ (inside ++ 42 ∷ 47 ∷ rest))) (tail_same 47 x (42 ∷ inner) (y ∷ (a ++ (47 ∷ 42 ∷ (inside ++ 42 ∷ 47 ∷ rest)))) g) in
        none (a ++ (47 ∷ 42 ∷ inside), rest, later ∙ sym (append_assoc a (47 ∷ 42 ∷ inside) (42 ∷ 47 ∷ rest)))

-- a property of a text that holds of its rests
pub none_closes_rest : (text front rest : List ℕ) → text ≡ front ++ rest → NoneCloses text → NoneCloses rest
none_closes_rest text front rest e none before inside after f =
    none (front ++ before) inside after (e ∙ ap (λ l. front ++ l) f ∙ sym (append_assoc front before (47 ∷ 42 ∷ (inside ++ 42 ∷ 47 ∷ after))))

-- no comment begins, given what was looked for
pub no_comment_open : (text : List ℕ) → ((rest : List ℕ) → text ≢ 45 ∷ 45 ∷ rest) → NoneCloses text → NoComment text
no_comment_open text no_line none = no_comment text no_line (λ inside rest. none [] inside rest)

pub no_comment_front : (text : List ℕ) → ((rest : List ℕ) → text ≢ 45 ∷ 45 ∷ rest) → ((rest : List ℕ) → text ≢ 47 ∷ 42 ∷ rest) → NoComment text
no_comment_front text no_line no_block = no_comment text no_line (λ inside rest. no_block (inside ++ 42 ∷ 47 ∷ rest))

-- signs

-- no blank begins by another byte
no_blank : (text rest front : List ℕ) (b : ℕ) → first_class text ≡ Some Other → text ≡ front ++ rest → front ≡ b ∷ [] → class_of b ≡ Blank → ⊥
no_blank text rest front b c e f blank =
    let first : Some Other ≡ Some (class_of b) = sym c ∙ ap first_class (e ∙ ap (λ l. l ++ rest) f) in
    let clash : Some Other ≡ Some Blank = first ∙ ap (λ k. Some k) blank in
    cc

nothing_passed_over : (text after : List ℕ) → first_class text ≡ Some Other → NoComment text → Begins text None after → ⊥
nothing_passed_over text after c none g =
    ⊎_elim
    (λ blank. no_blank text after g.front blank.0 c g.whole blank.1 (blank_class blank.0 blank.2))
    (λ comment. none g.front after g.whole comment)
    g.spelled

mark_le : (text : List ℕ) (m : Mark) (rest : List ℕ) → first_class text ≡ Some Other → NoComment text → IsLongestMark text m rest → (other : Option TokenKind) (after : List ℕ) → Begins text other after → length rest ≤ length after
mark_le text m rest c none h None after g = absurd (nothing_passed_over text after c none g)
mark_le text m rest c none h (Some (kind.Mark n)) after g = h.longest n after g
mark_le text m rest c none h other after g = absurd (false≢true (first_fits text other after Other c g))

pub mark_longest : (text : List ℕ) (m : Mark) (rest : List ℕ) → first_class text ≡ Some Other → NoComment text → IsLongestMark text m rest → Longest text (Some (kind.Mark m)) rest
mark_longest text m rest c none h = record { begins = h.begins; longest = mark_le text m rest c none h }

pub mark_nothing : (text : List ℕ) → first_class text ≡ Some Other → NoComment text → NoMark text → BeginsNothing text
mark_nothing text c none unmarked None after g = nothing_passed_over text after c none g
mark_nothing text c none unmarked (Some (kind.Mark m)) after g = unmarked m after g
mark_nothing text c none unmarked other after g = false≢true (first_fits text other after Other c g)
