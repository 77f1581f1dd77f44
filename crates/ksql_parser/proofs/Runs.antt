-- Counts and tests along the tokens of a statement.
use Rattle.std.proofs.Common.{◌≡◌, ℕ, ◌+◌, ◌<◌, ◌≤◌, Bool, true, false, cond, List, [], ◌∷◌, ◌++◌, take, get_or, length, refl, sym, ap, ◌∙◌, subst, ⊎_elim, arith}
use Rattle.std.specs.Prelude.{map, IsTrue}
use Rattle.std.specs.List.{count_by, list_any, list_all}
use Rattle.std.proofs.lemmas.List.{get_or-map, length-map, map_more, take_all}
use Rattle.std.proofs.lemmas.List.Sums.{count_by_more_yes, count_by_more_no}
use Rattle.std.proofs.lemmas.List.Folds.{list_any_at, list_all_at, list_any_more}
use Rattle.std.proofs.lemmas.Bool.{both_ways, or_from}
use Rattle.std.proofs.lemmas.Bool.Decides.{leb_tells}
use Rattle.std.proofs.Math.Dec.{leb}
use mir.Val.{bool_byte}
use Rattle.ksql_lexer.specs.declared.token.Token.{Token}
use Rattle.ksql_lexer.specs.declared.token.TokenKind.{TokenKind}
use Rattle.ksql_lexer.specs.Script.{kinds}
use Rattle.ksql_parser.specs.Limits.{is_opening, is_closing, is_too_large, IsTooDeep, HasTooLarge}
use Rattle.ksql_parser.specs.Words.{is_written, AreWritten}

-- the kind of the token at a place
kind_at : (ts : List Token) (i : ℕ) (t : Token) → i < length ts → t ≡ get_or ts i t → get_or (kinds ts) i t.kind ≡ t.kind
kind_at ts i t inside here = get_or-map (λ x. x.kind) ts i t t.kind inside ∙ sym (ap (λ x. x.kind) here)

count_step : {X : Type 0} (p : X → Bool) (xs : List X) (i : ℕ) (d : X) → i < length xs → count_by p (take (i + 1) xs) ≡ count_by p (take i xs) + cond (p (get_or xs i d)) 1 0
count_step p xs i d inside =
    elim (p (get_or xs i d)) as (λ b. p (get_or xs i d) ≡ b → count_by p (take (i + 1) xs) ≡ count_by p (take i xs) + cond b 1 0) [
      | true ↦ λ e. count_by_more_yes p xs i d inside e
      | false ↦ λ e. let h = count_by_more_no p xs i d inside e in omega (arith, h)
    ] refl

-- one more token counts if it passes
pub count_more : (p : TokenKind → Bool) (ts : List Token) (i : ℕ) (t : Token) → i < length ts → t ≡ get_or ts i t
    → count_by p (take (i + 1) (kinds ts)) ≡ count_by p (take i (kinds ts)) + cond (p t.kind) 1 0
count_more p ts i t inside here =
    let short : i < length (kinds ts) = omega (arith, length-map ts (λ x. x.kind)) in
    count_step p (kinds ts) i t.kind short
    ∙ ap (λ k. count_by p (take i (kinds ts)) + cond (p k) 1 0) (kind_at ts i t inside here)

-- the same for a number to which the test was added as 0 or 1
pub counted : (p : TokenKind → Bool) (ts : List Token) (i : ℕ) (t : Token) → i < length ts → t ≡ get_or ts i t
    → (n byte : ℕ) (r : Bool) → n ≡ count_by p (take i (kinds ts)) → byte ≡ bool_byte r → r ≡ p t.kind → n + byte ≡ count_by p (take (i + 1) (kinds ts))
counted p ts i t inside here n byte r so_far is_byte is_test =
    let more = count_more p ts i t inside here in
    let tested : byte ≡ cond (p t.kind) 1 0 = is_byte ∙ as_number r ∙ ap (λ b. cond b 1 0) is_test in
    omega (arith, more, tested, so_far)
  where
    as_number : (b : Bool) → bool_byte b ≡ cond b 1 0
    as_number true = refl
    as_number false = refl

-- among written tokens each is
pub written_at : (ts : List Token) (i : ℕ) (t : Token) → AreWritten (kinds ts) → i < length ts → t ≡ get_or ts i t → IsTrue (is_written t.kind)
written_at ts i t all inside here =
    let short : i < length (kinds ts) = omega (arith, length-map ts (λ x. x.kind)) in
    elim (is_written t.kind) as (λ b. is_written t.kind ≡ b → b ≡ true) [
      | true ↦ λ e. refl
      | false ↦ λ e. absurd (both_ways (list_all is_written (kinds ts)) (list_all_at is_written (kinds ts) i t.kind short (ap is_written (kind_at ts i t inside here) ∙ e)) all)
    ] refl

-- if no token is too large, none at a place is
pub fits_at : (ts : List Token) (i : ℕ) (t : Token) → ¬ (HasTooLarge (kinds ts)) → i < length ts → t ≡ get_or ts i t → ¬ (IsTrue (is_too_large t.kind))
fits_at ts i t none inside here large =
    let short : i < length (kinds ts) = omega (arith, length-map ts (λ x. x.kind)) in
    none (list_any_at is_too_large (kinds ts) i t.kind short (ap is_too_large (kind_at ts i t inside here) ∙ large))

-- a token that passes a test
pub any_at : (p : TokenKind → Bool) (ts : List Token) (i : ℕ) (t : Token) → i < length ts → t ≡ get_or ts i t → p t.kind ≡ true → list_any p (kinds ts) ≡ true
any_at p ts i t inside here passes =
    let short : i < length (kinds ts) = omega (arith, length-map ts (λ x. x.kind)) in
    list_any_at p (kinds ts) i t.kind short (ap p (kind_at ts i t inside here) ∙ passes)

-- and one that doesn't
pub any_more : (p : TokenKind → Bool) (ts : List Token) (i : ℕ) (t : Token) → i < length ts → t ≡ get_or ts i t → list_any p (take i (kinds ts)) ≡ false → p t.kind ≡ false
    → list_any p (take (i + 1) (kinds ts)) ≡ false
any_more p ts i t inside here before fails =
    let short : i < length (kinds ts) = omega (arith, length-map ts (λ x. x.kind)) in
    list_any_more p (kinds ts) i t.kind short ∙ or_from (list_any p (take i (kinds ts))) (p (get_or (kinds ts) i t.kind)) before (ap p (kind_at ts i t inside here) ∙ fails)

-- none did
pub any_none : (p : TokenKind → Bool) (ts : List Token) (i : ℕ) → length ts ≤ i → list_any p (take i (kinds ts)) ≡ false → false ≡ list_any p (kinds ts)
any_none p ts i whole none = sym none ∙ ap (list_any p) (take_all i (kinds ts) (omega (arith, length-map ts (λ x. x.kind))))

-- one more symbol
pub map_kinds_more : {X : Type 0} (f : TokenKind → X) (ts : List Token) (i : ℕ) (t : Token) → i < length ts → t ≡ get_or ts i t
    → map f (take (i + 1) (kinds ts)) ≡ map f (take i (kinds ts)) ++ f t.kind ∷ []
map_kinds_more f ts i t inside here =
    let short : i < length (kinds ts) = omega (arith, length-map ts (λ x. x.kind)) in
    map_more f (kinds ts) i t.kind short ∙ ap (λ k. map f (take i (kinds ts)) ++ f k ∷ []) (kind_at ts i t inside here)

-- up to a place a statement is not too deep
pub record ShallowTo (i : ℕ) (ks : List TokenKind) : Type 0 where
  pub shallow : (n : ℕ) → n ≤ i → count_by is_opening (take n ks) ≤ count_by is_closing (take n ks) + 64

pub shallow_none : (ks : List TokenKind) → ShallowTo 0 ks
shallow_none ks = record {
  shallow = λ n least.
      let first : n ≡ 0 = omega arith in
      subst (λ m. count_by is_opening (take m ks) ≤ count_by is_closing (take m ks) + 64) (sym first) (omega arith);
}

pub shallow_more : (ks : List TokenKind) (i : ℕ) → ShallowTo i ks → count_by is_opening (take (i + 1) ks) ≤ count_by is_closing (take (i + 1) ks) + 64
    → ShallowTo (i + 1) ks
shallow_more ks i before here = record {
  shallow = λ n within. ⊎_elim
      (λ (k : (leb n i ≡ true) × (n ≤ i)). before.shallow n k.1)
      (λ (k : (leb n i ≡ false) × (i < n)).
      let last : n ≡ i + 1 = omega arith in
      subst (λ m. count_by is_opening (take m ks) ≤ count_by is_closing (take m ks) + 64) (sym last) here)
      (leb_tells n i);
}

pub not_deep : (ks : List TokenKind) (i : ℕ) → length ks ≤ i → ShallowTo i ks → ¬ (IsTooDeep ks)
not_deep ks i whole before deep =
    ⊎_elim
    (λ (k : (leb deep.0 i ≡ true) × (deep.0 ≤ i)). let h = before.shallow deep.0 k.1 in omega arith)
    (λ (k : (leb deep.0 i ≡ false) × (i < deep.0)).
    let h = before.shallow i (omega arith) in
    let same : take deep.0 ks ≡ take i ks = take_all deep.0 ks (omega arith) ∙ sym (take_all i ks (omega arith)) in
    let o = ap (count_by is_opening) same in
    let c = ap (count_by is_closing) same in
    omega arith)
    (leb_tells deep.0 i)
