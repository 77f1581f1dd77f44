-- What a table keeps of its entries, and of one more.
use Rattle.std.proofs.Common.{◌≡◌, ◌∙◌, ap, refl, List, [], ◌∷◌, ◌++◌, ℕ, Bool, true, false, cond}
use Rattle.std.specs.Prelude.{Option, None, Some, IfSome, option_map, option_and_then}
use Rattle.std.proofs.lemmas.List.{append-nil}
use Rattle.std.specs.List.{AllByRecursion, filter, last_or}
use Rattle.std.specs.Str.{bytes_eq}
use Rattle.ksql_nodes.specs.Entries.{Entry}
use Rattle.record_codec.specs.Spelling.{values, spelling, IsSpellable}
use Rattle.operator.specs.Kept.{at_bytes, kept, kept_after, rows_at}
use Rattle.operator.specs.StandsFor.{HasSpelledKey, HasSpelledRow}
use Rattle.operator.proofs.SameKeys.{at_bytes-more}

last-more : {A : Type 0} (o : Option A) (xs : List A) (x : A) → last_or o (xs ++ x ∷ []) ≡ Some x
last-more o [] x = refl
last-more o (y ∷ ys) x = last-more (Some y) ys x

kept_after-more : (es : List Entry) (e : Entry) → kept_after (es ++ e ∷ []) ≡ kept e.change
kept_after-more es e = ap (option_and_then (λ (e : Entry). kept e.change)) (last-more None es e)

-- one entry more, under any bytes
pub rows_at-more : (b : List ℕ) (es : List Entry) (e : Entry) →
    rows_at (es ++ e ∷ []) b ≡ cond (bytes_eq b (values e.change.key)) (option_map spelling (kept e.change)) (rows_at es b)
rows_at-more b es e =
    ap (λ es. option_map spelling (kept_after es)) (at_bytes-more b es e) ∙ by (bytes_eq b (values e.change.key))
  where
    by : (t : Bool) → option_map spelling (kept_after (at_bytes b es ++ cond t (e ∷ []) [])) ≡ cond t (option_map spelling (kept e.change)) (rows_at es b)
    by true = ap (option_map spelling) (kept_after-more (at_bytes b es) e)
    by false = ap (λ es. option_map spelling (kept_after es)) (append-nil (at_bytes b es))

-- ---- what is spelled

pub All-keys : (es : List Entry) → AllByRecursion HasSpelledRow es → AllByRecursion HasSpelledKey es
All-keys [] all = tt
All-keys (e ∷ es) all = (all.0.0, All-keys es all.1)

pub All-filter : {A : Type 0} (P : A → Type 0) (p : A → Bool) (xs : List A) → AllByRecursion P xs → AllByRecursion P (filter p xs)
All-filter P p [] all = tt
All-filter {A} P p (x ∷ xs) all = by (p x) (All-filter P p xs all.1)
  where
    by : (b : Bool) → AllByRecursion P (filter p xs) → AllByRecursion P (cond b (x ∷ filter p xs) (filter p xs))
    by true rest = (all.0, rest)
    by false rest = rest

kept-after : (o : Option Entry) (es : List Entry) → IfSome o HasSpelledRow → AllByRecursion HasSpelledRow es → IfSome (option_and_then (λ (e : Entry). kept e.change) (last_or o es)) IsSpellable
kept-after None [] h all = tt
kept-after (Some e) [] h all = h.1
kept-after o (e ∷ es) h all = kept-after (Some e) es all.0 all.1

-- what is kept of those entries that pass a test
pub kept_after-spelled : (p : Entry → Bool) (es : List Entry) → AllByRecursion HasSpelledRow es → IfSome (kept_after (filter p es)) IsSpellable
kept_after-spelled p es all = kept-after None (filter p es) tt (All-filter HasSpelledRow p es all)
