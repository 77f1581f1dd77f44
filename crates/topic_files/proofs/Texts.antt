-- Lemmas on texts that are appended to.
use Rattle.std.proofs.Common.{◌≡◌, ℕ, ◌+◌, ◌<◌, zero, suc, List, [], ◌∷◌, ◌++◌, length, get_or, take, map, min, true, ◌==◌, codes, refl, ap, sym, ◌∙◌, append_assoc, append-nil, add-one, arith}
use Rattle.std.proofs.lemmas.Bool.{and_parts, or_parts, not-true, eqb-false, ltb-false}
use Rattle.std.proofs.lemmas.List.{map-append}
use Rattle.std.proofs.lemmas.List.Folds.{concat-append}
use Rattle.std.specs.List.{concat, list_all}
use Rattle.json.specs.Print.{escape}
use Rattle.json.specs.Run.{is_plain, is_stop}
use Rattle.json.proofs.Printed.Strings.{escape_byte_plain}
use Rattle.ksql_types.specs.declared.value.Value.{Value}
use Rattle.topic_files.specs.Printed.{after_commas, comma_joined, fields_of, labelled_text, led_text, printed}

-- one text after another, in any grouping
pub ruleset appends = (append_assoc)

-- a text without quotes, backslashes and controls needs no escapes
pub escape-plain : (text : List ℕ) → list_all is_plain text ≡ true → escape text ≡ text
escape-plain [] plain = refl
escape-plain (x ∷ xs) plain =
    let parts = and_parts (is_plain x) (list_all is_plain xs) plain in
    let none = or_parts _ _ (not-true (is_stop x) parts.0) in
    let tests = or_parts (x == 34) _ none.0 in
    let first = escape_byte_plain x (eqb-false x 34 tests.0) (eqb-false x 92 tests.1) (ltb-false x 32 none.1) in
    let rest = escape-plain xs parts.1 in
    λ i. first i ++ rest i

-- one text after another, and texts without escapes
pub ruleset plain_texts = (append_assoc, escape-plain)

-- what comes between these pieces and a next one
unfoldable pub comma_after : List (List ℕ) → List ℕ
comma_after [] = []
comma_after (piece ∷ pieces) = 44 ∷ []

pub comma_after-push : (pieces : List (List ℕ)) (piece : List ℕ) → comma_after (pieces ++ piece ∷ []) ≡ 44 ∷ []
unfolding comma_after
comma_after-push [] piece = refl
comma_after-push (first ∷ pieces) piece = refl

-- one more piece goes after a comma, unless it is the first
pub comma_joined-push : (pieces : List (List ℕ)) (piece : List ℕ)
    → comma_joined (pieces ++ piece ∷ []) ≡ comma_joined pieces ++ (comma_after pieces ++ piece)
unfolding comma_after
comma_joined-push [] piece = refl
comma_joined-push (first ∷ []) piece = refl
comma_joined-push (first ∷ second ∷ pieces) piece =
    ap (λ text. first ++ (44 ∷ text)) (comma_joined-push (second ∷ pieces) piece)
    ∙ sym (append_assoc first (44 ∷ comma_joined (second ∷ pieces)) (comma_after (second ∷ pieces) ++ piece))

-- one more piece after a text that ends in the others
pub joined_more : (pieces : List (List ℕ)) (piece old : List ℕ)
    → ((old ++ comma_joined pieces) ++ comma_after pieces) ++ piece ≡ old ++ comma_joined (pieces ++ piece ∷ [])
joined_more pieces piece old = rw (comma_joined-push pieces piece) (simp append_assoc)

-- one more label goes after a comma, unless it is the first
pub after_commas-push : (labels : List (List ℕ)) (label : List ℕ)
    → after_commas (labels ++ label ∷ []) ≡ after_commas labels ++ (comma_after labels ++ label) ∷ []
unfolding after_commas comma_after
after_commas-push [] label = refl
after_commas-push (first ∷ labels) label = ap (λ more. first ∷ more) (map-append (λ next. codes "," ++ next) labels (label ∷ []))

-- the fields after a first one, each with its comma
concat-rest : (labels : List (List ℕ)) (row : List Value) (first : List ℕ)
    → first ++ concat (fields_of (map (λ next. codes "," ++ next) labels) row) ≡ comma_joined (first ∷ fields_of labels row)
unfolding fields_of
concat-rest [] row first = append-nil first
concat-rest (label ∷ labels) [] first = append-nil first
concat-rest (label ∷ labels) (value ∷ row) first = ap (λ text. first ++ (44 ∷ text)) (concat-rest labels row (label ++ printed value))

-- fields whose labels are after commas are fields with commas between
concat-after_commas : (labels : List (List ℕ)) (row : List Value) → concat (fields_of (after_commas labels) row) ≡ comma_joined (fields_of labels row)
unfolding after_commas fields_of
concat-after_commas [] row = refl
concat-after_commas (label ∷ labels) [] = refl
concat-after_commas (label ∷ labels) (value ∷ row) = concat-rest labels row (label ++ printed value)

pub led_text-after_commas : (labels : List (List ℕ)) (row : List Value) → led_text (after_commas labels) row ≡ labelled_text labels row
unfolding labelled_text
led_text-after_commas labels row = ap (λ fields. codes "{" ++ (fields ++ codes "}")) (concat-after_commas labels row)

-- one more field after a text that ends in the others
pub concat_more : (fields : List (List ℕ)) (field old : List ℕ) → (old ++ concat fields) ++ field ≡ old ++ concat (fields ++ field ∷ [])
concat_more fields field old = rw (concat-append fields (field ∷ [])) (simp (append_assoc, append-nil))

-- the fields of one more label and value
fields_of-suc : (labels : List (List ℕ)) (row : List Value) (i : ℕ) (label : List ℕ) (value : Value)
    → i < length labels → i < length row
    → fields_of (take (suc i) labels) (take (suc i) row)
    ≡ fields_of (take i labels) (take i row) ++ (get_or labels i label ++ printed (get_or row i value)) ∷ []
unfolding fields_of
fields_of-suc [] row i label value p q = absurd (omega arith)
fields_of-suc (l ∷ labels) [] i label value p q = absurd (omega arith)
fields_of-suc (l ∷ labels) (v ∷ row) zero label value p q = refl
fields_of-suc (l ∷ labels) (v ∷ row) (suc i) label value p q =
    ap (λ fields. (l ++ printed v) ∷ fields) (fields_of-suc labels row i label value (omega arith) (omega arith))

-- fields end with the shorter of the two lists
pub fields_of-min : (labels : List (List ℕ)) (row : List Value) (n : ℕ) → n ≡ min (length labels) (length row)
    → fields_of (take n labels) (take n row) ≡ fields_of labels row
unfolding fields_of
fields_of-min [] row zero e = refl
fields_of-min (l ∷ labels) [] zero e = refl
fields_of-min (l ∷ labels) (v ∷ row) zero e = absurd (omega arith)
fields_of-min [] row (suc n) e = absurd (omega arith)
fields_of-min (l ∷ labels) [] (suc n) e = absurd (omega arith)
fields_of-min (l ∷ labels) (v ∷ row) (suc n) e =
    ap (λ fields. (l ++ printed v) ∷ fields) (fields_of-min labels row n (omega arith))

-- the fields with one more label and value, at place n
pub fields_of-next : (labels : List (List ℕ)) (row : List Value) (n next : ℕ) (label : List ℕ) (value : Value)
    → next ≡ n + 1 → n < length labels → n < length row → label ≡ get_or labels n label → value ≡ get_or row n value
    → fields_of (take next labels) (take next row) ≡ fields_of (take n labels) (take n row) ++ (label ++ printed value) ∷ []
fields_of-next labels row n next label value e p q is_label is_value =
    let more = fields_of-suc labels row n label value p q in
    let one = add-one n in
    cc
