-- One place more of a script.
use Rattle.std.proofs.Common.{◌≡◌, ℕ, ◌+◌, ◌<◌, ◌≤◌, Bool, true, false, not, ◌&&◌, cond, List, [], ◌∷◌, ◌++◌, length, Option, Some, None, refl, sym, ap, ◌∙◌, subst, arith, append_assoc, append-nil, add-zero, add_assoc, length-append}
use Rattle.std.proofs.lemmas.List.{map_push}
use Rattle.ksql_lexer.specs.declared.script.Numbering.{Numbering}
use Rattle.ksql_lexer.specs.declared.token.Token.{Token}
use Rattle.ksql_lexer.specs.declared.token.TokenKind.{TokenKind}
use Rattle.ksql_lexer.specs.Piece.{Longest}
use Rattle.ksql_lexer.specs.Place.{NoneCloses}
use Rattle.ksql_lexer.specs.Script.{Lexes, done, skip, next, is_semicolon, ended_from, statement_after, AreNumbered, kinds}
use Rattle.ksql_lexer.specs.Numbering.{moved}
use Rattle.ksql_lexer.proofs.Classes.{spelled_first, first_fits}
use Rattle.ksql_lexer.proofs.Places.{none_closes_rest}

-- tokens up to a place, and tokens from there on
lexes_on : {text place rest : List ℕ} {ks ls : List TokenKind} → Lexes text ks place → Lexes place ls rest → Lexes text (ks ++ ls) rest
lexes_on done m = m
lexes_on (skip l n) m = skip l (lexes_on n m)
lexes_on (next l n) m = next l (lexes_on n m)

-- whether the list that comes after these tokens has tokens already
abbrev begun_from : Bool → List TokenKind → Bool
begun_from begun [] = begun
begun_from begun (k ∷ ks) = begun_from (not (is_semicolon k)) ks

begun_push : (b : Bool) (ks : List TokenKind) (k : TokenKind) → begun_from b (ks ++ k ∷ []) ≡ not (is_semicolon k)
begun_push b [] k = refl
begun_push b (x ∷ ks) k = begun_push (not (is_semicolon x)) ks k

-- one more, where a list with tokens ends
abbrev one_more : Bool → Bool → ℕ
one_more ends begun = cond (ends && begun) 1 0

ended_one : (t b : Bool) → cond t (cond b 1 0 + 0) 0 ≡ 0 + one_more t b
ended_one true true = refl
ended_one true false = refl
ended_one false b = refl

ended_step : (t : Bool) (n : ℕ) (k : TokenKind) (ks : List TokenKind)
    → ended_from false (ks ++ k ∷ []) ≡ ended_from false ks + one_more (is_semicolon k) (begun_from false ks)
    → ended_from true (ks ++ k ∷ []) ≡ ended_from true ks + one_more (is_semicolon k) (begun_from true ks)
    → cond t (n + ended_from false (ks ++ k ∷ [])) (ended_from true (ks ++ k ∷ []))
    ≡ cond t (n + ended_from false ks) (ended_from true ks) + one_more (is_semicolon k) (begun_from (not t) ks)
ended_step true n k ks f g = ap (λ m. n + m) f ∙ sym (add_assoc n (ended_from false ks) (one_more (is_semicolon k) (begun_from false ks)))
ended_step false n k ks f g = g

ended_push : (b : Bool) (ks : List TokenKind) (k : TokenKind) → ended_from b (ks ++ k ∷ []) ≡ ended_from b ks + one_more (is_semicolon k) (begun_from b ks)
ended_push b [] k = ended_one (is_semicolon k) b
ended_push b (x ∷ ks) k = ended_step (is_semicolon x) (cond b 1 0) k ks (ended_push false ks k) (ended_push true ks k)

numbered_push : (before : List TokenKind) (ts : List Token) (t : Token) → AreNumbered before ts → t.statement ≡ statement_after (before ++ kinds ts) → AreNumbered before (ts ++ t ∷ [])
numbered_push before [] t a e = (e ∙ ap statement_after (append-nil before), tt)
numbered_push before (x ∷ ts) t a e = (a.0, numbered_push (before ++ x.kind ∷ []) ts t a.1 (e ∙ ap statement_after (sym (append_assoc before (x.kind ∷ []) (kinds ts)))))

-- the script is these tokens up to the rest, whose first token has this number
pub record Reached (text rest : List ℕ) (ts : List Token) (at : Numbering) (closes : Bool) : Type 0 where
  pub lexes : Lexes text (kinds ts) rest
  pub numbered : AreNumbered [] ts
  pub statement : at.statement ≡ statement_after (kinds ts)
  pub begun : at.begun ≡ begun_from false (kinds ts)
  pub bound : at.statement + length rest ≤ 1 + length text
  pub open_ends : closes ≡ false → NoneCloses rest

pub reached_start : (text : List ℕ) (at : Numbering) (closes : Bool) → at.statement ≡ 1 → at.begun ≡ false → closes ≡ true → Reached text text [] at closes
reached_start text at closes s b c = record {
  lexes = done;
  numbered = tt;
  statement = s;
  begun = b;
  bound = omega arith;
  open_ends = λ f. let clash : true ≡ false = sym c ∙ f in absurd cc;
}

-- what begins at a place takes at least a byte
pub longest_less : (text rest : List ℕ) (p : Option TokenKind) → Longest text p rest → length rest < length text
longest_less text rest p l = at l.begins.front l.begins.whole (spelled_first p l.begins.front l.begins.spelled)
  where
    at : (front : List ℕ) → text ≡ front ++ rest → first_fits p front → length rest < length text
    at [] e h = absurd h
    at (x ∷ xs) e h = omega (arith, ap length e, length-append xs rest)

-- a blank or a comment is passed over
pub reached_skip : (text rest behind : List ℕ) (ts : List Token) (at : Numbering) (closes later : Bool) → Reached text rest ts at closes → (later ≡ false → NoneCloses rest) → Longest rest None behind → Reached text behind ts at later
reached_skip text rest behind ts at closes later r c l = record {
  lexes = subst (λ ks. Lexes text ks behind) (append-nil (kinds ts)) (lexes_on r.lexes (skip l done));
  numbered = r.numbered;
  statement = r.statement;
  begun = r.begun;
  bound = omega (arith, r.bound, longest_less rest behind None l);
  open_ends = λ f. none_closes_rest rest l.begins.front behind l.begins.whole (c f);
}

moved_bound : (ends begun : Bool) (s : ℕ) → cond (ends && begun) (s + 1) s ≤ s + 1
moved_bound true true s = omega arith
moved_bound true false s = omega arith
moved_bound false b s = omega arith

moved_by : (ends begun : Bool) (s : ℕ) → cond (ends && begun) (s + 1) s ≡ s + one_more ends begun
moved_by true true s = refl
moved_by true false s = sym (add-zero s)
moved_by false b s = sym (add-zero s)

-- a token is taken
pub reached_next : (text rest behind : List ℕ) (ts : List Token) (at : Numbering) (closes later : Bool) (k : TokenKind) (t : Token) → Reached text rest ts at closes → (later ≡ false → NoneCloses rest) → Longest rest (Some k) behind
    → t.kind ≡ k → t.statement ≡ at.statement → Reached text behind (ts ++ t ∷ []) (moved at k) later
reached_next text rest behind ts at closes later k t r c l kind_is statement_is =
    let kinds_are : kinds (ts ++ t ∷ []) ≡ kinds ts ++ k ∷ [] = map_push (λ (x : Token). x.kind) ts t ∙ ap (λ x. kinds ts ++ x ∷ []) kind_is in
    record {
      lexes = subst (λ ks. Lexes text ks behind) (sym kinds_are) (lexes_on r.lexes (next l done));
      numbered = numbered_push [] ts t r.numbered (statement_is ∙ r.statement);
      statement = moved_by (is_semicolon k) at.begun at.statement
          ∙ (λ i. r.statement i + one_more (is_semicolon k) (r.begun i))
          ∙ add_assoc 1 (ended_from false (kinds ts)) (one_more (is_semicolon k) (begun_from false (kinds ts)))
          ∙ ap (λ n. 1 + n) (sym (ended_push false (kinds ts) k))
          ∙ ap statement_after (sym kinds_are);
      begun = sym (ap (begun_from false) kinds_are ∙ begun_push false (kinds ts) k);
      bound = omega (arith, r.bound, longest_less rest behind (Some k) l, moved_bound (is_semicolon k) at.begun at.statement);
      open_ends = λ f. none_closes_rest rest l.begins.front behind l.begins.whole (c f);
    }
