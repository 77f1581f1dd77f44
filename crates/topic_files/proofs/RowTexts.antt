-- A row of texts is a text: what csv writes between the bytes of fields is ASCII.
use Rattle.std.proofs.Common.{◌≡◌, ℕ, ◌-◌, ◌<◌, ◌≤◌, suc, List, [], ◌∷◌, ◌++◌, length, get_or, take, codes, Bool, true, false, cond, IsUtf8, refl, sym, ap, ap₂, subst, ◌∙◌, inl, inr, arith, append_assoc, append-nil, length-append}
use Rattle.std.proofs.lemmas.Bool.{and_parts, cases_eq, cases_lt}
use Rattle.std.proofs.lemmas.Str.{IsUtf8-append, IsUtf8-encode, IsUtf8-nil, encode_ascii, inside_one}
use Rattle.std.proofs.Math.Seq.{take-append_seam}
use Rattle.std.proofs.Math.Utf8.{encode, encodes, scalar, scalars}
use Rattle.json.proofs.Printed.Utf8.{IsUtf8-are_ascii}
use Rattle.csv.specs.Records.{AllText}
use Rattle.csv.specs.Writing.{default_writer, escaped, field_text, fields_text, is_blank, needs_quotes, quoted, row_body, row_text}
use Rattle.csv.proofs.WriteFacts.{escaped-append, escaped-double, escaped-other}
use Rattle.topic_files.specs.Cells.{truth_text}
use Rattle.topic_files.specs.Delimited.{without_end}

-- the texts of the truth values are ASCII
pub IsUtf8-truth_text : (truth : Bool) → IsUtf8 (truth_text truth)
IsUtf8-truth_text true = IsUtf8-are_ascii (codes "true") refl
IsUtf8-truth_text false = IsUtf8-are_ascii (codes "false") refl

-- bytes that are no ASCII have no quote among them
escaped-high : (xs : List ℕ) → ((k : ℕ) → k < length xs → 128 ≤ get_or xs k 0) → escaped default_writer xs ≡ xs
unfolding escaped
escaped-high [] high = refl
escaped-high (x ∷ xs) high =
    let first : 128 ≤ x = high 0 (omega arith) in
    escaped-append default_writer (x ∷ []) xs
    ∙ ap₂ (λ (a b : List ℕ). a ++ b) (escaped-other default_writer x (λ e. omega arith)) (escaped-high xs (λ k below. high (suc k) (omega arith)))

-- a character of ASCII, with the quote twice
escaped-low : (c : ℕ) → c < 128 → IsUtf8 (c ∷ []) → IsUtf8 (escaped default_writer (c ∷ []))
escaped-low c small one = elim (cases_eq c 34) [
  | inl quote ↦ subst IsUtf8 (sym (escaped-double default_writer c quote refl)) (IsUtf8-append (c ∷ []) (c ∷ []) one one)
  | inr other ↦ subst IsUtf8 (sym (escaped-other default_writer c other)) one
]

one_char : (c : ℕ) → scalar c ≡ true → IsUtf8 (escaped default_writer (encode c))
one_char c ok = elim (cases_lt c 128) [
  | inl small ↦
      let alone = encode_ascii c small in
      subst (λ xs. IsUtf8 (escaped default_writer xs)) (sym alone) (escaped-low c small (subst IsUtf8 alone (IsUtf8-encode c ok)))
  | inr big ↦
      let high : (k : ℕ) → k < length (encode c) → 128 ≤ get_or (encode c) k 0 = λ k below. elim (cases_lt (get_or (encode c) k 0) 128) [
        | inl low ↦ absurd (omega (arith, inside_one c [] (encode c) k (sym (append-nil _)) below low))
        | inr h ↦ h
      ] in
      subst IsUtf8 (sym (escaped-high (encode c) high)) (IsUtf8-encode c ok)
]

all_chars : (cs : List ℕ) → scalars cs ≡ true → IsUtf8 (escaped default_writer (encodes cs))
unfolding escaped
all_chars [] ok = IsUtf8-nil
all_chars (c ∷ cs) ok =
    let both = and_parts _ _ ok in
    subst IsUtf8 (sym (escaped-append default_writer (encode c) (encodes cs))) (IsUtf8-append _ _ (one_char c both.0) (all_chars cs both.1))

IsUtf8-escaped : (field : List ℕ) → IsUtf8 field → IsUtf8 (escaped default_writer field)
IsUtf8-escaped field utf8 = subst (λ xs. IsUtf8 (escaped default_writer xs)) utf8.1.1 (all_chars utf8.0 utf8.1.0)

IsUtf8-field_text : (field : List ℕ) → IsUtf8 field → IsUtf8 (field_text default_writer field)
IsUtf8-field_text field utf8 = by_test (needs_quotes default_writer field)
  where
    quote : IsUtf8 (34 ∷ [])
    quote = IsUtf8-are_ascii (34 ∷ []) refl

    by_test : (needs : Bool) → IsUtf8 (cond needs (quoted default_writer field) field)
    by_test true = IsUtf8-append (34 ∷ []) _ quote (IsUtf8-append _ (34 ∷ []) (IsUtf8-escaped field utf8) quote)
    by_test false = utf8

IsUtf8-fields_text : (fields : List (List ℕ)) → AllText fields → IsUtf8 (fields_text default_writer fields)
unfolding AllText fields_text
IsUtf8-fields_text [] text = IsUtf8-nil
IsUtf8-fields_text (field ∷ fields) text =
    IsUtf8-append (44 ∷ []) _ (IsUtf8-are_ascii (44 ∷ []) refl) (IsUtf8-append _ _ (IsUtf8-field_text field text.0) (IsUtf8-fields_text fields text.1))

IsUtf8-row_body : (fields : List (List ℕ)) → AllText fields → IsUtf8 (row_body default_writer fields)
unfolding AllText
IsUtf8-row_body [] text = IsUtf8-nil
IsUtf8-row_body (field ∷ fields) text = IsUtf8-append _ _ (IsUtf8-field_text field text.0) (IsUtf8-fields_text fields text.1)

without_end-line : (body part : List ℕ) → without_end (body ++ (part ++ 10 ∷ [])) ≡ body ++ part
without_end-line body part =
    let whole = sym (append_assoc body part (10 ∷ [])) in
    let size : length ((body ++ part) ++ 10 ∷ []) - 1 ≡ length (body ++ part) = omega (arith, length-append (body ++ part) (10 ∷ [])) in
    ap without_end whole ∙ ap (λ n. take n ((body ++ part) ++ 10 ∷ [])) size ∙ take-append_seam (body ++ part) (10 ∷ [])

-- a row of texts without its line feed is a text
pub IsUtf8-line : (fields : List (List ℕ)) → AllText fields → IsUtf8 (without_end (row_text default_writer fields))
IsUtf8-line fields text = by_test (is_blank default_writer fields)
  where
    by_test : (blank : Bool) → IsUtf8 (without_end (row_body default_writer fields ++ (cond blank (34 ∷ 34 ∷ []) [] ++ 10 ∷ [])))
    by_test true = subst IsUtf8 (sym (without_end-line (row_body default_writer fields) (34 ∷ 34 ∷ []))) (IsUtf8-append _ _ (IsUtf8-row_body fields text) (IsUtf8-are_ascii (34 ∷ 34 ∷ []) refl))
    by_test false = subst IsUtf8 (sym (without_end-line (row_body default_writer fields) [])) (IsUtf8-append _ _ (IsUtf8-row_body fields text) IsUtf8-nil)
