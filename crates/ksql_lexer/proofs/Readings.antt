-- A text has one reading.
use Rattle.std.proofs.Common.{◌≡◌, ℕ, true, ⊎_elim, List, [], ◌∷◌, ◌++◌, length, Option, Some, None, Result, Ok, Err, codes, refl, sym, ap, ◌∙◌, subst, arith, length-append}
use Rattle.std.specs.Global.{Vec}
use Rattle.std.proofs.lemmas.Bool.{false≢true}
use Rattle.ksql_lexer.specs.declared.byte.Class.{Class}
use Rattle.ksql_lexer.specs.declared.byte.Class.TheVariants.{Blank, Letter, Digit, Quote, Backquote, Other}
use Rattle.ksql_lexer.specs.declared.fault.LexFault.{LexFault}
use Rattle.ksql_lexer.specs.declared.fault.LexFault.TheVariants.{Bad, OutOfMemory}
use Rattle.ksql_lexer.specs.declared.token.Mark.{Mark}
use Rattle.ksql_lexer.specs.declared.token.Token.{Token}
use Rattle.ksql_lexer.specs.declared.token.TokenKind.{TokenKind}
use Rattle.ksql_lexer.specs.declared.token.TokenKind.TheVariants as kind
use Rattle.ksql_lexer.specs.Piece.{Spelled, IsPassedOver, Longest, BeginsNothing, doubled}
use Rattle.ksql_lexer.specs.Place.{class_of, pair_mark, single_mark}
use Rattle.ksql_lexer.specs.Script.{Lexes, done, skip, next, statement_after, AreNumbered, kinds, AreTokens, BreaksIn, IsReading, Answers}
use Rattle.ksql_lexer.proofs.Runs.{head_same, tail_same, same_split}
use Rattle.ksql_lexer.proofs.Doubled.{doubled_same}
use Rattle.ksql_lexer.proofs.Classes.{fits, first_fits, spelled_first, nothing_begins_nil, blank_class}
use Rattle.ksql_lexer.proofs.Signs.{IsMarkFront, mark_front}

-- what is spelled by the same bytes fits the same class
both_fit : (p q : Option TokenKind) (f : List ℕ) → Spelled p f → Spelled q f → (c : Class) × (fits p c ≡ true) × (fits q c ≡ true)
both_fit p q f h k = at f (spelled_first p f h) (spelled_first q f k)
  where
    at : (g : List ℕ) → first_fits p g → first_fits q g → (c : Class) × (fits p c ≡ true) × (fits q c ≡ true)
    at [] a b = absurd a
    at (x ∷ xs) a b = (class_of x, a, b)

word_class : (n : List ℕ) (c : Class) → fits (Some (kind.Word n)) c ≡ true → c ≡ Letter
word_class n Letter h = refl
word_class n c h = absurd (false≢true h)

quoted_class : (n : List ℕ) (c : Class) → fits (Some (kind.Quoted n)) c ≡ true → c ≡ Backquote
quoted_class n Backquote h = refl
quoted_class n c h = absurd (false≢true h)

text_class : (n : List ℕ) (c : Class) → fits (Some (kind.Text n)) c ≡ true → c ≡ Quote
text_class n Quote h = refl
text_class n c h = absurd (false≢true h)

digits_class : (n : List ℕ) (c : Class) → fits (Some (kind.Digits n)) c ≡ true → c ≡ Digit
digits_class n Digit h = refl
digits_class n c h = absurd (false≢true h)

mark_class : (m : Mark) (c : Class) → fits (Some (kind.Mark m)) c ≡ true → c ≡ Other
mark_class m Other h = refl
mark_class m c h = absurd (false≢true h)

-- the class of the second, where that of the first is known
fits_second : (q : Option TokenKind) (b : Class) (c : Class) → c ≡ b → fits q c ≡ true → fits q b ≡ true
fits_second q b c e h = subst (λ k. fits q k ≡ true) e h

word_same : (f n : List ℕ) (q : Option TokenKind) → Spelled (Some (kind.Word n)) f → Spelled q f → Some (kind.Word n) ≡ q
word_same f n (Some (kind.Word m)) h k = ap (λ l. Some (kind.Word l)) (h.1 ∙ sym k.1)
word_same f n q h k = let b = both_fit (Some (kind.Word n)) q f h k in absurd (false≢true (fits_second q Letter b.0 (word_class n b.0 b.1) b.2))

quoted_same : (f n : List ℕ) (q : Option TokenKind) → Spelled (Some (kind.Quoted n)) f → Spelled q f → Some (kind.Quoted n) ≡ q
quoted_same f n (Some (kind.Quoted m)) h k =
    let e : n ++ 96 ∷ [] ≡ m ++ 96 ∷ [] = tail_same 96 96 (n ++ 96 ∷ []) (m ++ 96 ∷ []) (sym h.0 ∙ k.0) in
    ap (λ l. Some (kind.Quoted l)) (same_split n (96 ∷ []) m (96 ∷ []) e refl).0
quoted_same f n q h k = let b = both_fit (Some (kind.Quoted n)) q f h k in absurd (false≢true (fits_second q Backquote b.0 (quoted_class n b.0 b.1) b.2))

text_same : (f n : List ℕ) (q : Option TokenKind) → Spelled (Some (kind.Text n)) f → Spelled q f → Some (kind.Text n) ≡ q
text_same f n (Some (kind.Text m)) h k =
    let e : doubled n ++ 39 ∷ [] ≡ doubled m ++ 39 ∷ [] = tail_same 39 39 (doubled n ++ 39 ∷ []) (doubled m ++ 39 ∷ []) (sym h ∙ k) in
    ap (λ l. Some (kind.Text l)) (doubled_same n m (same_split (doubled n) (39 ∷ []) (doubled m) (39 ∷ []) e refl).0)
text_same f n q h k = let b = both_fit (Some (kind.Text n)) q f h k in absurd (false≢true (fits_second q Quote b.0 (text_class n b.0 b.1) b.2))

digits_same : (f n : List ℕ) (q : Option TokenKind) → Spelled (Some (kind.Digits n)) f → Spelled q f → Some (kind.Digits n) ≡ q
digits_same f n (Some (kind.Digits m)) h k = ap (λ l. Some (kind.Digits l)) (h.1 ∙ sym k.1)
digits_same f n q h k = let b = both_fit (Some (kind.Digits n)) q f h k in absurd (false≢true (fits_second q Digit b.0 (digits_class n b.0 b.1) b.2))

one_mark : (m n : Mark) (f : List ℕ) → IsMarkFront m f → IsMarkFront n f → m ≡ n
one_mark m n f h k =
    ⊎_elim
    (λ a. ⊎_elim
    (λ b. let same = head_same a.0 b.0 [] [] (sym a.1 ∙ b.1) in
    let e : Some m ≡ Some n = sym a.2 ∙ ap single_mark same ∙ b.2 in cc)
    (λ b. absurd (omega (arith, ap length (sym a.1 ∙ b.2))))
    k)
    (λ a. ⊎_elim
    (λ b. absurd (omega (arith, ap length (sym a.2 ∙ b.1))))
    (λ b.
    let first = head_same a.0 b.0 (a.1 ∷ []) (b.1 ∷ []) (sym a.2 ∙ b.2) in
    let second = head_same a.1 b.1 [] [] (tail_same a.0 b.0 (a.1 ∷ []) (b.1 ∷ []) (sym a.2 ∙ b.2)) in
    let e : Some m ≡ Some n = sym a.3 ∙ (λ i. pair_mark (first i) (second i)) ∙ b.3 in cc)
    k)
    h

-- no sign is a blank or a comment
mark_not_passed_over : (m : Mark) (f : List ℕ) → Spelled (Some (kind.Mark m)) f → IsPassedOver f → ⊥
mark_not_passed_over m f h over =
    ⊎_elim
    (λ blank.
    let fit : fits (Some (kind.Mark m)) (class_of blank.0) ≡ true = subst (first_fits (Some (kind.Mark m))) blank.1 (spelled_first (Some (kind.Mark m)) f h) in
    let clash : Blank ≡ Other = sym (blank_class blank.0 blank.2) ∙ mark_class m (class_of blank.0) fit in
    absurd cc)
    (λ comment. ⊎_elim
    (λ line. ⊎_elim
    (λ one. omega (arith, ap length (sym one.1 ∙ line.1)))
    (λ two.
    let first = head_same two.0 45 (two.1 ∷ []) (45 ∷ line.0) (sym two.2 ∙ line.1) in
    let none : None ≡ Some m = ap (λ b. pair_mark b two.1) (sym first) ∙ two.3 in
    cc)
    (mark_front m f h))
    (λ block. ⊎_elim
    (λ one. omega (arith, ap length (sym one.1 ∙ block.1)))
    (λ two. omega (arith, ap length (sym two.2 ∙ block.1), length-append block.0 (codes "*/")))
    (mark_front m f h))
    comment)
    over

mark_same : (f : List ℕ) (m : Mark) (q : Option TokenKind) → Spelled (Some (kind.Mark m)) f → Spelled q f → Some (kind.Mark m) ≡ q
mark_same f m None h k = absurd (mark_not_passed_over m f h k)
mark_same f m (Some (kind.Mark n)) h k = ap (λ l. Some (kind.Mark l)) (one_mark m n f (mark_front m f h) (mark_front n f k))
mark_same f m q h k = let b = both_fit (Some (kind.Mark m)) q f h k in absurd (false≢true (fits_second q Other b.0 (mark_class m b.0 b.1) b.2))

-- bytes spell one token alone, or blanks and comments alone
pub one_piece : (p q : Option TokenKind) (f : List ℕ) → Spelled p f → Spelled q f → p ≡ q
one_piece (Some (kind.Word n)) q f h k = word_same f n q h k
one_piece (Some (kind.Quoted n)) q f h k = quoted_same f n q h k
one_piece (Some (kind.Text n)) q f h k = text_same f n q h k
one_piece (Some (kind.Digits n)) q f h k = digits_same f n q h k
one_piece (Some (kind.Mark m)) q f h k = mark_same f m q h k
one_piece None None f h k = refl
one_piece None (Some (kind.Word n)) f h k = sym (word_same f n None k h)
one_piece None (Some (kind.Quoted n)) f h k = sym (quoted_same f n None k h)
one_piece None (Some (kind.Text n)) f h k = sym (text_same f n None k h)
one_piece None (Some (kind.Digits n)) f h k = sym (digits_same f n None k h)
one_piece None (Some (kind.Mark m)) f h k = sym (mark_same f m None k h)

-- there is only one longest
pub one_longest : (text : List ℕ) (p q : Option TokenKind) (us vs : List ℕ) → Longest text p us → Longest text q vs → (p ≡ q) × (us ≡ vs)
one_longest text p q us vs a b =
    let up = a.longest q vs b.begins in
    let down = b.longest p us a.begins in
    let same = same_split a.begins.front us b.begins.front vs (sym a.begins.whole ∙ b.begins.whole) (omega arith) in
    (one_piece p q b.begins.front (subst (Spelled p) same.0 a.begins.spelled) b.begins.spelled, same.1)

-- the tokens up to a place where nothing begins, and that place, are fixed by the text
pub one_lexing : {text place rest : List ℕ} {ks ls : List TokenKind} → Lexes text ks place → Lexes text ls rest → BeginsNothing place → BeginsNothing rest → (ks ≡ ls) × (place ≡ rest)
one_lexing done done a b = (refl, refl)
one_lexing done (skip l m) a b = absurd (a None _ l.begins)
one_lexing done (next l m) a b = absurd (a (Some _) _ l.begins)
one_lexing (skip l m) done a b = absurd (b None _ l.begins)
one_lexing (next l m) done a b = absurd (b (Some _) _ l.begins)
one_lexing {rest = rest} {ls = ls} (skip l m) (skip k n) a b =
    let same = one_longest _ None None _ _ l k in
    one_lexing m (subst (λ t. Lexes t ls rest) (sym same.1) n) a b
one_lexing (skip l m) (next k n) a b = let same = (one_longest _ _ _ _ _ l k).0 in absurd cc
one_lexing (next l m) (skip k n) a b = let same = (one_longest _ _ _ _ _ l k).0 in absurd cc
one_lexing {rest = rest} (next {k = x} l m) (next {k = y} {ks = ys} k n) a b =
    let same = one_longest _ (Some x) (Some y) _ _ l k in
    let first : x ≡ y = let e : Some x ≡ Some y = same.0 in cc in
    let later = one_lexing m (subst (λ t. Lexes t ys rest) (sym same.1) n) a b in
    ((λ i. first i ∷ later.0 i), later.1)

-- numbered tokens are fixed by what they are
numbered_same : (before : List TokenKind) (ts us : List Token) → kinds ts ≡ kinds us → AreNumbered before ts → AreNumbered before us → ts ≡ us
numbered_same before [] [] e a b = refl
numbered_same before [] (u ∷ us) e a b = cc
numbered_same before (t ∷ ts) [] e a b = cc
numbered_same before (t ∷ ts) (u ∷ us) e a b =
    let same : t.kind ≡ u.kind = cc in
    let later : kinds ts ≡ kinds us = cc in
    let number : t.statement ≡ u.statement = a.0 ∙ sym b.0 in
    let rest = numbered_same (before ++ u.kind ∷ []) ts us later (subst (λ k. AreNumbered (before ++ k ∷ []) ts) same a.1) b.1 in
    let first : t ≡ u = λ i. record { kind = same i; statement = number i } in
    (λ i. first i ∷ rest i)

pub one_list : (text : List ℕ) (ts us : List Token) → AreTokens text ts → AreTokens text us → ts ≡ us
one_list text ts us a b = numbered_same [] ts us (one_lexing a.lexes b.lexes nothing_begins_nil nothing_begins_nil).0 a.numbered b.numbered

pub one_fault : (text : List ℕ) (s n : ℕ) → BreaksIn text s → BreaksIn text n → s ≡ n
one_fault text s n a b =
    let same = one_lexing a.2.lexes b.2.lexes a.2.nothing b.2.nothing in
    a.3 ∙ ap statement_after same.0 ∙ sym b.3

pub not_both : (text : List ℕ) (ts : List Token) (s : ℕ) → AreTokens text ts → BreaksIn text s → ⊥
not_both text ts s a b = b.2.more (sym (one_lexing a.lexes b.2.lexes nothing_begins_nil b.2.nothing).1)

-- what was read is what the text is

pub answers_list : (text : List ℕ) (r : Result (Vec Token) LexFault) (ts : List Token) → IsReading text r → AreTokens text ts → Answers r (Ok ts)
answers_list text (Ok v) ts h a = ap (λ l. Ok l) (one_list text ts v.items a h)
answers_list text (Err (Bad s)) ts h a = absurd (not_both text ts s a h)
answers_list text (Err OutOfMemory) ts h a = tt

pub answers_fault : (text : List ℕ) (r : Result (Vec Token) LexFault) (s : ℕ) → IsReading text r → BreaksIn text s → Answers r (Err (Bad s))
answers_fault text (Ok v) s h a = absurd (not_both text v.items s h a)
answers_fault text (Err (Bad n)) s h a = ap (λ k. Err (Bad k)) (one_fault text s n a h)
answers_fault text (Err OutOfMemory) s h a = tt
