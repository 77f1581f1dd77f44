-- What std's searches say, in the words of the places.
use Rattle.std.proofs.Common.{◌≡◌, ◌≢◌, ℕ, ◌+◌, ◌-◌, ◌<◌, ◌≤◌, Bool, true, false, not, ◌==◌, ⊎_elim, List, [], ◌∷◌, ◌++◌, length, take, drop, get_or, Option, Some, None, MatchOption, Bor, codes, IsUtf8, IsCharBoundary, refl, sym, ap, ◌∙◌, subst, arith, append_assoc, add-zero, length-append, length-take, length-drop, take-append-drop, get_or-take, get_or-drop, eqb-true, ne_eqb, subst₂}
use Rattle.std.specs.List.{prefix_len}
use Rattle.std.specs.Str.Iter.{HasSubslice}
use Rattle.std.specs.Str.Pattern.{FindsText}
use Rattle.std.proofs.lemmas.Bool.{not-false, cases_lt}
use Rattle.std.proofs.lemmas.Bool.Decides.{nat_tests}
use Rattle.std.proofs.lemmas.List.{drop_at, get_or_at, get_or_default}
use Rattle.std.proofs.lemmas.List.Sums.{prefix_len-le-length, prefix_len_passes, prefix_len_stops, list_all-from_AllPass}
use Rattle.std.proofs.lemmas.Str.{IsCharBoundary-start, IsCharBoundary-end, IsCharBoundary-after_ascii, IsCharBoundary-before_ascii}
use Rattle.std.proofs.lemmas.Str.Pattern.{IsSplitOnceResult, split_parts, split_text_parts}
use Rattle.ksql_lexer.specs.Piece.{is_word_byte, first_passes, Lacks}
use Rattle.ksql_lexer.specs.Place.{IsRun, IsBetween, NoneBetween, IsUpToEnd}

first_fails : (p : ℕ → Bool) (xs : List ℕ) → (0 < length xs → p (get_or xs 0 0) ≡ false) → first_passes p xs ≡ false
first_fails p [] h = refl
first_fails p (x ∷ xs) h = h (omega arith)

-- the bytes that pass from the front on are a run
prefix_run : (p : ℕ → Bool) (bs : List ℕ) (n : ℕ) → n ≡ prefix_len p bs → IsRun p bs (take n bs) (drop n bs)
prefix_run p bs n e = subst (λ m. IsRun p bs (take m bs) (drop m bs)) (sym e) (record {
  whole = sym (take-append-drop (prefix_len p bs) bs);
  passes = list_all-from_AllPass p (take (prefix_len p bs) bs)
      (λ k d h. let lt : k < prefix_len p bs = omega (arith, length-take (prefix_len p bs) bs) in
      ap p (get_or-take (prefix_len p bs) bs k d lt) ∙ prefix_len_passes p bs k d lt);
  stops = first_fails p (drop (prefix_len p bs) bs)
      (λ h. ap p (get_or-drop (prefix_len p bs) bs 0 0 ∙ ap (λ i. get_or bs i 0) (add-zero (prefix_len p bs)))
      ∙ prefix_len_stops p bs 0 (omega (arith, length-drop (prefix_len p bs) bs)));
})

pub run_at : (p : ℕ → Bool) (bs : List ℕ) (n : ℕ) (run rest : List ℕ) → n ≡ prefix_len p bs → run ≡ take n bs → rest ≡ drop n bs → IsRun p bs run rest
run_at p bs n run rest e f r = subst₂ (IsRun p bs) (sym f) (sym r) (prefix_run p bs n e)

word_byte_ascii : (b : ℕ) → is_word_byte b ≡ true → b < 128
word_byte_ascii b h = grind (arith, nat_tests)

-- a text may be cut after its first word
pub word_boundary : (bs : List ℕ) (n : ℕ) → n ≡ prefix_len is_word_byte bs → IsUtf8 bs → IsCharBoundary bs n
word_boundary bs n e utf8 =
    ⊎_elim
    (λ some.
    let before : n - 1 < prefix_len is_word_byte bs = omega arith in
    let within : n - 1 < length bs = omega (arith, prefix_len-le-length is_word_byte bs) in
    let next : n - 1 + 1 ≡ n = omega arith in
    subst (IsCharBoundary bs) next (IsCharBoundary-after_ascii bs (n - 1) utf8 within (word_byte_ascii (get_or bs (n - 1) 0) (prefix_len_passes is_word_byte bs (n - 1) 0 before))))
    (λ none. let zero : 0 ≡ n = omega arith in subst (IsCharBoundary bs) zero (IsCharBoundary-start bs utf8))
    (cases_lt 0 n)

-- a text may be cut at the end of its first line
pub line_boundary : (bs : List ℕ) (n : ℕ) → n ≡ prefix_len (λ b. not (b == 10)) bs → IsCharBoundary bs n
line_boundary bs n e =
    subst (IsCharBoundary bs) (sym e)
    (⊎_elim
    (λ more. IsCharBoundary-before_ascii bs (prefix_len (λ b. not (b == 10)) bs) more
    (let end = eqb-true (get_or bs (prefix_len (λ b. not (b == 10)) bs) 0) 10 (not-false (get_or bs (prefix_len (λ b. not (b == 10)) bs) 0 == 10) (prefix_len_stops (λ b. not (b == 10)) bs 0 more)) in omega arith))
    (λ whole. let all : length bs ≡ prefix_len (λ b. not (b == 10)) bs = omega (arith, prefix_len-le-length (λ b. not (b == 10)) bs) in subst (IsCharBoundary bs) all (IsCharBoundary-end bs))
    (cases_lt (prefix_len (λ b. not (b == 10)) bs) (length bs)))

-- a list without the byte at any place lacks it
lacks_from_places : (c : ℕ) (bs : List ℕ) → ((i : ℕ) → i < length bs → get_or bs i 0 ≢ c) → Lacks c bs
lacks_from_places c bs h = list_all-from_AllPass (λ b. not (b == c)) bs (λ k d lt. ap not (ne_eqb (get_or bs k d) c (λ e. h k lt (sym (get_or_default bs k d 0 lt) ∙ e))))

-- no second quote comes
pub none_between : (q : ℕ) (bs inner : List ℕ) → bs ≡ q ∷ inner → ((i : ℕ) → i < length inner → get_or inner i 0 ≢ q) → NoneBetween q bs
none_between q bs inner e none inside rest f =
    let split : inner ≡ inside ++ q ∷ rest = let h : q ∷ inner ≡ q ∷ (inside ++ q ∷ rest) = sym e ∙ f in cc in
    none (length inside) (omega (arith, ap length split, length-append inside (q ∷ rest))) (ap (λ l. get_or l (length inside) 0) split ∙ get_or_at inside q rest 0 (length inside) refl)

-- what `split_once` at the quote says of the text with the quote in front
pub between_split : (q : ℕ) (bs inner : List ℕ) (r : Option (Bor (List ℕ) × Bor (List ℕ))) → bs ≡ q ∷ inner → IsSplitOnceResult q inner r → q < 128 → MatchOption r (NoneBetween q bs) (λ x. IsBetween q bs x.0.now x.1.now)
between_split q bs inner r e h small = at r (split_parts q inner r h small)
  where
    at : (o : Option (Bor (List ℕ) × Bor (List ℕ))) → MatchOption o ((i : ℕ) → i < length inner → get_or inner i 0 ≢ q) (λ x. (inner ≡ x.0.now ++ (q ∷ x.1.now)) × ((i : ℕ) → i < length x.0.now → get_or x.0.now i 0 ≢ q)) → MatchOption o (NoneBetween q bs) (λ x. IsBetween q bs x.0.now x.1.now)
    at None none = none_between q bs inner e none
    at (Some x) parts = record { whole = e ∙ ap (λ l. q ∷ l) parts.0; lacks = lacks_from_places q x.0.now parts.1 }

-- the bytes before the first match hold none
before_first_match : (p bs : List ℕ) (i : ℕ) → 0 < length p → ((k : ℕ) → k < i → (rest : List ℕ) → drop k bs ≢ p ++ rest) → ¬ (HasSubslice (take i bs) p)
before_first_match p bs i some none has =
    let front = has.0 in
    let sizes = ap length has.2 ∙ length-append front (p ++ has.1) in
    let again = length-append p has.1 in
    let near : length front < i = omega (arith, length-take i bs) in
    let whole : bs ≡ front ++ (p ++ (has.1 ++ drop i bs)) =
    sym (take-append-drop i bs) ∙ ap (λ l. l ++ drop i bs) has.2 ∙ append_assoc front (p ++ has.1) (drop i bs) ∙ ap (λ l. front ++ l) (append_assoc p has.1 (drop i bs)) in
    none (length front) near (has.1 ++ drop i bs) (ap (drop (length front)) whole ∙ drop_at front (p ++ (has.1 ++ drop i bs)) (length front) refl)

-- the clause of `split_once` at `*/`
abbrev pub IsSplitAtEnd : List ℕ → Option (Bor (List ℕ) × Bor (List ℕ)) → Type 0
IsSplitAtEnd bs r = MatchOption r (FindsText (codes "*/") bs None) (λ x. (i : ℕ) × (j : ℕ) × FindsText (codes "*/") bs (Some (i, j)) × (x.0.now ≡ take i bs) × (x.1.now ≡ drop j bs) × (i ≤ j) × (length x.0.now ≡ i) × (length x.1.now + j ≡ length bs))

pub up_to_end_split : (bs : List ℕ) (r : Option (Bor (List ℕ) × Bor (List ℕ))) → IsSplitAtEnd bs r → MatchOption r (¬ (HasSubslice bs (codes "*/"))) (λ x. IsUpToEnd bs x.0.now x.1.now)
up_to_end_split bs r h = at r h (split_text_parts (codes "*/") bs r h)
  where
    at : (o : Option (Bor (List ℕ) × Bor (List ℕ))) → IsSplitAtEnd bs o → MatchOption o ((xs ys : List ℕ) → bs ≢ xs ++ (codes "*/" ++ ys)) (λ x. bs ≡ x.0.now ++ (codes "*/" ++ x.1.now)) → MatchOption o (¬ (HasSubslice bs (codes "*/"))) (λ x. IsUpToEnd bs x.0.now x.1.now)
    at None found parts = λ has. parts has.0 has.1 has.2
    at (Some x) found parts = record {
      whole = parts;
      lacks = subst (λ l. ¬ (HasSubslice l (codes "*/"))) (sym found.3) (before_first_match (codes "*/") bs found.0 (omega arith) found.2.0);
    }
