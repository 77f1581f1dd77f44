-- The first list of tokens up to a `;`.
use Rattle.std.proofs.Common.{◌≡◌, ℕ, ◌+◌, ◌<◌, ◌≤◌, true, false, cond, not, List, [], ◌∷◌, ◌++◌, ◌-◌, take, drop, length, Some, None, refl, sym, ap, ◌∙◌, subst, length-drop, arith}
use Rattle.std.specs.Prelude.{if◌then◌else◌, filter, nat_lt}
use Rattle.std.specs.List.{list_all, position, position_or_len, slice_split, onto_first as onto}
use Rattle.std.proofs.lemmas.List.{take-append-drop, take_all, take-map, drop-map, length-map}
use Rattle.std.proofs.lemmas.List.Folds.{list_all-append}
use Rattle.std.proofs.lemmas.List.Splits.{slice_split_first}
use Rattle.std.proofs.lemmas.Bool.{and_parts, ltb-true}
use Rattle.std.proofs.lemmas.Bool.Decides.{nat_tests}
use Rattle.ksql_lexer.specs.declared.token.Token.{Token}
use Rattle.ksql_lexer.specs.declared.token.TokenKind.{TokenKind}
use Rattle.ksql_lexer.specs.declared.token.TokenKind.TheVariants as kind
use Rattle.ksql_lexer.specs.declared.token.Mark.TheVariants as mark
use Rattle.ksql_lexer.specs.Script.{is_semicolon, kinds}
use Rattle.ksql_parser.specs.Script.{onto_first, parts, is_filled, statements}
use Rattle.ksql_parser.specs.Words.{is_written, AreWritten}

onto_same : (t : TokenKind) (tss : List (List TokenKind)) → onto_first t tss ≡ onto t tss
onto_same t [] = refl
onto_same t (ts ∷ tss) = refl

-- the lists between the signs `;` are those of `split`
parts_split : (ts : List TokenKind) → parts ts ≡ slice_split is_semicolon ts
parts_split [] = refl
parts_split (t ∷ ts) =
    elim (is_semicolon t) as (λ b. (if b then [] ∷ parts ts else onto_first t (parts ts)) ≡ cond b ([] ∷ slice_split is_semicolon ts) (onto t (slice_split is_semicolon ts))) [
      | true ↦ ap (λ tss. [] ∷ tss) (parts_split ts)
      | false ↦ ap (onto_first t) (parts_split ts) ∙ onto_same t (slice_split is_semicolon ts)
    ]

-- the first list, if there is a `;`
pub first_statement : (ts : List TokenKind) (end : ℕ) → end ≡ position_or_len is_semicolon ts → end < length ts
    → statements ts ≡ filter is_filled (take end ts ∷ []) ++ statements (drop (end + 1) ts)
first_statement ts end is inside =
    let place : position_or_len is_semicolon ts < length ts = omega arith in
    let split : parts ts ≡ take end ts ∷ parts (drop (end + 1) ts) =
    parts_split ts ∙ slice_split_first is_semicolon ts (kind.Mark mark.Semicolon) place
    ∙ (λ i. take (sym is i) ts ∷ sym (parts_split (drop (sym is i + 1) ts)) i) in
    ap (filter is_filled) split ∙ kept (take end ts) (parts (drop (end + 1) ts))
  where
    kept : (front : List TokenKind) (tss : List (List TokenKind)) → filter is_filled (front ∷ tss) ≡ filter is_filled (front ∷ []) ++ filter is_filled tss
    kept [] tss = refl
    kept (t ∷ front) tss = refl

unsplit : (ts : List TokenKind) → length ts ≤ position_or_len is_semicolon ts → parts ts ≡ ts ∷ []
unsplit [] h = refl
unsplit (t ∷ ts) h =
    elim (is_semicolon t) as (λ b. is_semicolon t ≡ b → (if b then [] ∷ parts ts else onto_first t (parts ts)) ≡ (t ∷ ts) ∷ []) [
      | true ↦ λ e. let k : length (t ∷ ts) ≤ cond (not true) (1 + position_or_len is_semicolon ts) 0 = rw e at h in absurd (omega arith)
      | false ↦ λ e. let k : length (t ∷ ts) ≤ cond (not false) (1 + position_or_len is_semicolon ts) 0 = rw e at h in ap (onto_first t) (unsplit ts (omega arith))
    ] refl

-- and if there is none
pub last_statement : (ts : List TokenKind) → length ts ≤ position_or_len is_semicolon ts → statements ts ≡ filter is_filled (ts ∷ []) ++ []
last_statement ts none = ap (filter is_filled) (unsplit ts none) ∙ plain ts
  where
    plain : (front : List TokenKind) → filter is_filled (front ∷ []) ≡ filter is_filled (front ∷ []) ++ []
    plain [] = refl
    plain (t ∷ front) = refl

-- parts of written tokens are written
pub written_cut : (n : ℕ) (ts : List TokenKind) → AreWritten ts → AreWritten (take n ts) × AreWritten (drop n ts)
written_cut n ts all =
    and_parts (list_all is_written (take n ts)) (list_all is_written (drop n ts))
    (sym (list_all-append is_written (take n ts) (drop n ts)) ∙ ap (list_all is_written) (take-append-drop n ts) ∙ all)

-- what `position` says of the place
pub placed : (ts : List TokenKind) (end : ℕ) → position is_semicolon ts ≡ Some end → (end ≡ position_or_len is_semicolon ts) × (end < length ts)
placed ts end found =
    elim (nat_lt (position_or_len is_semicolon ts) (length ts)) as (λ b. nat_lt (position_or_len is_semicolon ts) (length ts) ≡ b → cond b (Some (position_or_len is_semicolon ts)) None ≡ Some end → (end ≡ position_or_len is_semicolon ts) × (end < length ts)) [
      | true ↦ λ e p.
          let inside = ltb-true (position_or_len is_semicolon ts) (length ts) e in
          let same : end ≡ position_or_len is_semicolon ts = cc in
          (same, omega (arith, same, inside))
      | false ↦ λ e p. absurd (cc)
    ] refl found

pub unplaced : (ts : List TokenKind) → position is_semicolon ts ≡ None → length ts ≤ position_or_len is_semicolon ts
unplaced ts found =
    elim (nat_lt (position_or_len is_semicolon ts) (length ts)) as (λ b. nat_lt (position_or_len is_semicolon ts) (length ts) ≡ b → cond b (Some (position_or_len is_semicolon ts)) None ≡ None → length ts ≤ position_or_len is_semicolon ts) [
      | true ↦ λ e p. absurd (cc)
      | false ↦ λ e p. let h = e in grind (arith, nat_tests)
    ] refl found

-- all of a rest
whole : {X : Type 0} (ts : List X) (n : ℕ) → take (length ts - n) (drop n ts) ≡ drop n ts
whole ts n = take_all (length ts - n) (drop n ts) (omega (arith, length-drop n ts))

-- the first list of tokens, as slices say it
pub first_of_tokens : (ts : List Token) (end : ℕ) → position is_semicolon (kinds ts) ≡ Some end
    → statements (kinds ts) ≡ filter is_filled (kinds (take end ts) ∷ []) ++ statements (kinds (take (length ts - (end + 1)) (drop (end + 1) ts)))
first_of_tokens ts end found =
    let place = placed (kinds ts) end found in
    first_statement (kinds ts) end place.0 place.1
    ∙ ap (λ front. filter is_filled (front ∷ []) ++ statements (drop (end + 1) (kinds ts))) (take-map (λ t. t.kind) end ts)
    ∙ ap (λ behind. filter is_filled (kinds (take end ts) ∷ []) ++ statements behind) (drop-map (λ t. t.kind) (end + 1) ts ∙ ap kinds (sym (whole ts (end + 1))))

pub written_tokens : (ts : List Token) (end : ℕ) → AreWritten (kinds ts) → AreWritten (kinds (take end ts)) × AreWritten (kinds (take (length ts - (end + 1)) (drop (end + 1) ts)))
written_tokens ts end all =
    let front = written_cut end (kinds ts) all in
    let behind = written_cut (end + 1) (kinds ts) all in (
      subst AreWritten (take-map (λ t. t.kind) end ts) front.0,
      subst AreWritten (drop-map (λ t. t.kind) (end + 1) ts ∙ ap kinds (sym (whole ts (end + 1)))) behind.1,
    )

-- `position` of tokens by their kinds
pub position-kinds : (ts : List Token) → position (λ t. is_semicolon t.kind) ts ≡ position is_semicolon (kinds ts)
position-kinds ts =
    λ i. cond (nat_lt (places ts i) (sizes i)) (Some (places ts i)) None
  where
    sizes : length ts ≡ length (kinds ts)
    sizes = sym (length-map ts (λ t. t.kind))

    places : (us : List Token) → position_or_len (λ t. is_semicolon t.kind) us ≡ position_or_len is_semicolon (kinds us)
    places [] = refl
    places (u ∷ us) = ap (λ n. cond (not (is_semicolon u.kind)) (1 + n) 0) (places us)
