-- Readers that read exactly what is spelled, and how such readers are put together.
use Rattle.std.proofs.Common.{◌≡◌, ℕ, zero, suc, ◌+◌, ◌<◌, ◌≤◌, ◌^◌, Bool, true, false, ◌&&◌, cond, ltb, leb, List, ◌∷◌, ◌++◌, length, take, drop, bytes_eq, Option, Some, None, refl, sym, ap, subst, ◌∙◌, append_assoc, arith, []}
use Rattle.std.specs.List.{All, flat_map}
use Rattle.std.specs.Int.{w32, w64, from_be_bytes}
use Rattle.std.proofs.lemmas.Bool.{ltb-true, lt-ltb, ltb-false, le-ltb, leb-true, le-leb}
use Rattle.std.proofs.lemmas.List.{append-nil, take_at, drop_at, take-append-drop, length-append, length-take}
use Rattle.std.proofs.lemmas.List.Elements.{All-from_recursion, All-cons, All-head, All-tail}
use Rattle.std.proofs.lemmas.Nat.{from_be_bytes-to_be_bytes_4, from_be_bytes-to_be_bytes_8}
use Rattle.std.proofs.lemmas.Slice.Eq.{bytes_eq-Decides}
use Rattle.std.proofs.lemmas.Option.{same_Some, some_pair_parts, cond_some}
use Rattle.record_codec.specs.Spelling.{four, eight, optional, InFour, InEight, ThisMany, Optionally}
use Rattle.record_codec.specs.Reading.{Begins}
use Rattle.record_codec.proofs.Parsers.{◌>>=◌, Reader, both, seen_as, where_true, times, number_at, four_at, eight_at, counted, list_at, optional_at, taken}

-- the value of a step that read something
pub bind_some : {A B : Type 0} (o : Option A) (f : A → Option B) (y : B) → (o >>= f) ≡ Some y → (x : A) × (o ≡ Some x) × (f x ≡ Some y)
bind_some (Some x) f y e = (x, refl, e)
bind_some None f y e = absurd cc

-- what is read has this spelling, and what has this spelling is read
pub record Reads {A : Type 0} (spelled : A → List ℕ) (fits : A → Type 0) (read : Reader A) : Type 0 where
  pub found : (bytes : List ℕ) (x : A × List ℕ) → read bytes ≡ Some x → Begins spelled fits bytes x
  pub only : (a : A) (rest : List ℕ) → fits a → read (spelled a ++ rest) ≡ Some (a, rest)

abbrev some_pair : {A : Type 0} → A → List ℕ → Option (A × List ℕ)
some_pair a rest = Some (a, rest)

-- the same reader, by another word for what fits
pub reads-suits : {A : Type 0} (s : A → List ℕ) (fits suits : A → Type 0) (read : Reader A) → ((a : A) → fits a → suits a) → ((a : A) → suits a → fits a)
    → Reads s fits read → Reads s suits read
reads-suits s fits suits read to back r = record {
  found = λ bytes x e. let k = r.found bytes x e in record { parts = k.parts; fitting = to x.0 k.fitting };
  only = λ a rest h. r.only a rest (back a h);
}

-- ---- all of the bytes

pub spelled-apart : {A : Type 0} (s : A → List ℕ) (fits : A → Type 0) (read : Reader A) → Reads s fits read → (a b : A) (more : List ℕ) → fits a → fits b
    → s a ++ more ≡ s b → (a ≡ b) × (more ≡ [])
spelled-apart s fits read r a b more ha hb e =
    some_pair_parts a b more [] (sym (r.only a more ha) ∙ ap read (e ∙ sym (append-nil (s b))) ∙ r.only b [] hb)

-- ---- two parts in a row

abbrev pub in_row : {A B : Type 0} → (A → List ℕ) → (B → List ℕ) → A × B → List ℕ
in_row first second p = first p.0 ++ second p.1

abbrev pub and_then : {A B : Type 0} → (A → Type 0) → (A → B → Type 0) → A × B → Type 0
and_then first second p = first p.0 × second p.0 p.1

pub reads-both : {A B : Type 0} (s : A → List ℕ) (t : B → List ℕ) (fits : A → Type 0) (suits : A → B → Type 0) (first : Reader A) (second : A → Reader B)
    → Reads s fits first → ((a : A) → fits a → Reads t (suits a) (second a)) → Reads (in_row s t) (and_then fits suits) (both first second)
reads-both {A} {B} s t fits suits first second r1 r2 = record {
  found = λ bytes x e.
      let p = bind_some (first bytes) (λ a. second a.0 a.1 >>= λ b. Some ((a.0, b.0), b.1)) x e in
      let q = bind_some (second p.0.0 p.0.1) (λ b. Some ((p.0.0, b.0), b.1)) x p.2 in
      let f1 = r1.found bytes p.0 p.1 in
      let f2 = (r2 p.0.0 f1.fitting).found p.0.1 q.0 q.1 in
      let made : (A × B) × List ℕ = ((p.0.0, q.0.0), q.0.1) in
      subst (λ (y : (A × B) × List ℕ). Begins (in_row s t) (and_then fits suits) bytes y) (same_Some made x q.2)
      (record { parts = f1.parts ∙ ap (λ (w : List ℕ). s p.0.0 ++ w) f2.parts ∙ sym (append_assoc (s p.0.0) (t q.0.0) q.0.1); fitting = (f1.fitting, f2.fitting) });
  only = λ p rest h.
      ap (both first second) (append_assoc (s p.0) (t p.1) rest) ∙ rw (r1.only p.0 (t p.1 ++ rest) h.0, (r2 p.0 h.0).only p.1 rest h.1) refl;
}

-- the same, where the second doesn't depend on the first
pub reads-next : {A B : Type 0} (s : A → List ℕ) (t : B → List ℕ) (fits : A → Type 0) (suits : B → Type 0) (first : Reader A) (second : Reader B)
    → Reads s fits first → Reads t suits second → Reads (in_row s t) (and_then fits (λ _. suits)) (both first (λ _. second))
reads-next s t fits suits first second r1 r2 = reads-both s t fits (λ _. suits) first (λ _. second) r1 (λ _ _. r2)

-- ---- what is read, mapped by a function

pub reads-as : {A B : Type 0} (s : A → List ℕ) (t : B → List ℕ) (fits : A → Type 0) (suits : B → Type 0) (f : A → B) (g : B → A) (read : Reader A)
    → ((a : A) → fits a → (s a ≡ t (f a)) × suits (f a)) → ((b : B) → suits b → (f (g b) ≡ b) × fits (g b)) → Reads s fits read → Reads t suits (seen_as f read)
reads-as {A} {B} s t fits suits f g read to back r = record {
  found = λ bytes y e.
      let p = bind_some (read bytes) (λ x. Some (f x.0, x.1)) y e in
      let k = r.found bytes p.0 p.1 in
      let m = to p.0.0 k.fitting in
      let made : B × List ℕ = (f p.0.0, p.0.1) in
      subst (λ (z : B × List ℕ). Begins t suits bytes z) (same_Some made y p.2)
      (record { parts = k.parts ∙ ap (λ (w : List ℕ). w ++ p.0.1) m.0; fitting = m.1 });
  only = λ b rest h.
      let k = back b h in
      let m : t b ≡ s (g b) = sym ((to (g b) k.1).0 ∙ ap t k.0) in
      let step : read (t b ++ rest) ≡ Some (g b, rest) = ap (λ (w : List ℕ). read (w ++ rest)) m ∙ r.only (g b) rest k.1 in
      rw step (ap (λ (c : B). some_pair c rest) k.0);
}

-- ---- what is read, if it passes a test

abbrev pub passing : {A : Type 0} → (A → Type 0) → (A → Bool) → A → Type 0
passing fits test a = fits a × (test a ≡ true)

pub reads-where : {A : Type 0} (s : A → List ℕ) (fits : A → Type 0) (test : A → Bool) (read : Reader A) → Reads s fits read → Reads s (passing fits test) (where_true test read)
reads-where {A} s fits test read r = record {
  found = λ bytes y e.
      let p = bind_some (read bytes) (λ x. cond (test x.0) (Some x) None) y e in
      let k = r.found bytes p.0 p.1 in
      let m = cond_some (test p.0.0) p.0 y p.2 in
      subst (λ (z : A × List ℕ). Begins s (passing fits test) bytes z) m.1 (record { parts = k.parts; fitting = (k.fitting, m.0) });
  only = λ a rest h. rw (r.only a rest h.0, h.1) refl;
}

-- ---- the first bytes, and numbers

taken_is : {A : Type 0} (b : Bool) (x y : A) → cond b None (Some x) ≡ Some y → (b ≡ false) × (x ≡ y)
taken_is true x y e = absurd cc
taken_is false x y e = (refl, same_Some x y e)

abbrev pub as_long : ℕ → List ℕ → Type 0
as_long n bytes = (length bytes ≡ n) × Unit {0}

abbrev pub itself : List ℕ → List ℕ
itself bytes = bytes

pub reads-taken : (n : ℕ) → Reads itself (as_long n) (taken n)
reads-taken n = record {
  found = λ bytes x e.
      let m = taken_is (ltb (length bytes) n) (take n bytes, drop n bytes) x e in
      let long : n ≤ length bytes = ltb-false _ _ m.0 in
      subst (λ (z : List ℕ × List ℕ). Begins itself (as_long n) bytes z) m.1
      (record { parts = sym (take-append-drop n bytes); fitting = (omega (arith, length-take n bytes), tt) });
  only = λ a rest h.
      let long : ltb (length (a ++ rest)) n ≡ false = le-ltb _ _ (omega (arith, length-append a rest, h.0)) in
      rw (long, take_at a rest n h.0, drop_at a rest n h.0) refl;
}

pub length-four : (n : ℕ) → length (four n) ≡ 4
unfolding four
length-four n = refl

pub length-eight : (n : ℕ) → length (eight n) ≡ 8
unfolding eight
length-eight n = refl

four-again : (n : ℕ) → n < 2 ^ 32 → from_be_bytes w32 (four n) ≡ n
unfolding four
four-again n lt = from_be_bytes-to_be_bytes_4 n lt

eight-again : (n : ℕ) → n < 2 ^ 64 → from_be_bytes w64 (eight n) ≡ n
unfolding eight
eight-again n lt = from_be_bytes-to_be_bytes_8 n lt

is_number : {A : Type 0} (short small same : Bool) (x y : A) → cond short None (cond (small && same) (Some x) None) ≡ Some y → (short ≡ false) × (small ≡ true) × (same ≡ true) × (x ≡ y)
is_number true small same x y e = absurd cc
is_number false false same x y e = absurd cc
is_number false true false x y e = absurd cc
is_number false true true x y e = (refl, refl, refl, same_Some x y e)

reads-number : (size limit : ℕ) (s : ℕ → List ℕ) (number : List ℕ → ℕ) → ((n : ℕ) → length (s n) ≡ size) → ((n : ℕ) → n < limit → number (s n) ≡ n)
    → Reads s (λ n. n < limit) (number_at size limit s number)
reads-number size limit s number long again = record {
  found = λ bytes x e.
      let front = take size bytes in
      let m = is_number (ltb (length bytes) size) (ltb (number front) limit) (bytes_eq (s (number front)) front) (number front, drop size bytes) x e in
      let same : s (number front) ≡ front = (bytes_eq-Decides (s (number front)) front).0 m.2 in
      subst (λ (z : ℕ × List ℕ). Begins s (λ n. n < limit) bytes z) m.3
      (record { parts = sym (take-append-drop size bytes) ∙ ap (λ (w : List ℕ). w ++ drop size bytes) (sym same); fitting = ltb-true _ _ m.1 });
  only = λ n rest lt.
      let enough : ltb (length (s n ++ rest)) size ≡ false = le-ltb _ _ (omega (arith, length-append (s n) rest, long n)) in
      let small : ltb n limit ≡ true = lt-ltb _ _ lt in
      let same : bytes_eq (s n) (s n) ≡ true = (bytes_eq-Decides (s n) (s n)).1 refl in
      rw (enough, take_at (s n) rest size (long n), drop_at (s n) rest size (long n), again n lt, small, same) refl;
}

pub reads-four : Reads four InFour four_at
unfolding four_at
reads-four = reads-number 4 (2 ^ 32) four (from_be_bytes w32) length-four four-again

pub reads-eight : Reads eight InEight eight_at
unfolding eight_at
reads-eight = reads-number 8 (2 ^ 64) eight (from_be_bytes w64) length-eight eight-again

-- ---- several parts of one sort

found-times : {A : Type 0} (s : A → List ℕ) (fits : A → Type 0) (read : Reader A) → Reads s fits read → (n : ℕ) (bytes : List ℕ) (x : List A × List ℕ)
    → times read n bytes ≡ Some x → Begins (flat_map s) (ThisMany n fits) bytes x
unfolding times
found-times {A} s fits read r zero bytes x e =
    subst (λ (y : List A × List ℕ). Begins (flat_map s) (ThisMany zero fits) bytes y) (same_Some ([], bytes) x e)
    (record { parts = refl; fitting = (refl, All-from_recursion fits [] tt) })
found-times {A} s fits read r (suc n) bytes x e =
    let p = bind_some (read bytes) (λ y. times read n y.1 >>= λ ys. Some (y.0 ∷ ys.0, ys.1)) x e in
    let q = bind_some (times read n p.0.1) (λ ys. Some (p.0.0 ∷ ys.0, ys.1)) x p.2 in
    let f1 = r.found bytes p.0 p.1 in
    let f2 = found-times s fits read r n p.0.1 q.0 q.1 in
    let made : List A × List ℕ = (p.0.0 ∷ q.0.0, q.0.1) in
    subst (λ (y : List A × List ℕ). Begins (flat_map s) (ThisMany (suc n) fits) bytes y) (same_Some made x q.2)
    (record { parts = f1.parts ∙ ap (λ (w : List ℕ). s p.0.0 ++ w) f2.parts ∙ sym (append_assoc (s p.0.0) (flat_map s q.0.0) q.0.1); fitting = (ap suc f2.fitting.0, All-cons fits p.0.0 q.0.0 f1.fitting f2.fitting.1) })

only-times : {A : Type 0} (s : A → List ℕ) (fits : A → Type 0) (read : Reader A) → Reads s fits read → (xs : List A) (rest : List ℕ) → All fits xs
    → times read (length xs) (flat_map s xs ++ rest) ≡ Some (xs, rest)
unfolding times
only-times s fits read r [] rest h = refl
only-times s fits read r (x ∷ xs) rest h =
    ap (times read (suc (length xs))) (append_assoc (s x) (flat_map s xs) rest)
    ∙ rw (r.only x (flat_map s xs ++ rest) (All-head fits x xs h), only-times s fits read r xs rest (All-tail fits x xs h)) refl

pub reads-times : {A : Type 0} (s : A → List ℕ) (fits : A → Type 0) (read : Reader A) → Reads s fits read → (n : ℕ) → Reads (flat_map s) (ThisMany n fits) (times read n)
reads-times s fits read r n = record {
  found = found-times s fits read r n;
  only = λ xs rest h. subst (λ (k : ℕ). times read k (flat_map s xs ++ rest) ≡ Some (xs, rest)) h.0 (only-times s fits read r xs rest h.1);
}

-- one that isn't read leaves all of them unread
pub stops : {A : Type 0} {s : A → List ℕ} {fits : A → Type 0} {read : Reader A} → Reads s fits read → (xs : List A) (n : ℕ) (rest : List ℕ) → All fits xs → length xs < n → read rest ≡ None
    → times read n (flat_map s xs ++ rest) ≡ None
unfolding times
stops r xs zero rest h lt none = absurd (omega (arith, lt))
stops r [] (suc n) rest h lt none = rw none refl
stops {s = s} {fits = fits} {read = read} r (x ∷ xs) (suc n) rest h lt none =
    ap (times read (suc n)) (append_assoc (s x) (flat_map s xs) rest)
    ∙ rw (r.only x (flat_map s xs ++ rest) (All-head fits x xs h), stops r xs n rest (All-tail fits x xs h) (omega (arith, lt)) none) refl

-- one more is read after some
pub goes_on : {A : Type 0} (s : A → List ℕ) (xs : List A) (x : A) (here after : List ℕ) → here ≡ s x ++ after → flat_map s xs ++ here ≡ flat_map s (xs ++ x ∷ []) ++ after
goes_on s [] x here after e = e ∙ ap (λ (w : List ℕ). w ++ after) (sym (append-nil (s x)))
goes_on s (y ∷ ys) x here after e =
    append_assoc (s y) (flat_map s ys) here ∙ ap (λ (w : List ℕ). s y ++ w) (goes_on s ys x here after e) ∙ sym (append_assoc (s y) (flat_map s (ys ++ x ∷ [])) after)

pub one_more : {A : Type 0} (fits : A → Type 0) (xs : List A) (x : A) → All fits xs → fits x → All fits (xs ++ x ∷ [])
one_more fits [] x h k = All-cons fits x [] k (All-from_recursion fits [] tt)
one_more fits (y ∷ ys) x h k = All-cons fits y (ys ++ x ∷ []) (All-head fits y ys h) (one_more fits ys x (All-tail fits y ys h) k)

-- ---- a length of at most the limit, and what is that long

abbrev pub at_most : {A : Type 0} → ℕ → (List A → Type 0) → List A → Type 0
at_most limit fits xs = (length xs ≤ limit) × fits xs

abbrev pub with_length : {A : Type 0} → (List A → List ℕ) → List A → List ℕ
with_length s xs = four (length xs) ++ s xs

pub reads-counted : {A : Type 0} (limit : ℕ) (s : List A → List ℕ) (fits : List A → Type 0) (items : ℕ → Reader (List A)) → limit < 2 ^ 32
    → ((n : ℕ) → Reads s (λ xs. (length xs ≡ n) × fits xs) (items n)) → Reads (with_length s) (at_most limit fits) (counted limit items)
reads-counted {A} limit s fits items small r =
    let number = reads-where four (λ n. n < 2 ^ 32) (λ n. leb n limit) four_at reads-four in
    reads-as (in_row four s) (with_length s) (and_then (passing (λ n. n < 2 ^ 32) (λ n. leb n limit)) (λ n xs. (length xs ≡ n) × fits xs)) (at_most limit fits)
    (λ (p : ℕ × List A). p.1) (λ xs. (length xs, xs)) (both (where_true (λ n. leb n limit) four_at) items)
    (λ p h. (ap (λ (k : ℕ). four k ++ s p.1) (sym h.1.0), (subst (λ (k : ℕ). k ≤ limit) (sym h.1.0) (leb-true _ _ h.0.1), h.1.1)))
    (λ xs h. (refl, ((omega (arith, h.0), le-leb _ _ h.0), (refl, h.1))))
    (reads-both four s (passing (λ n. n < 2 ^ 32) (λ n. leb n limit)) (λ n xs. (length xs ≡ n) × fits xs) (where_true (λ n. leb n limit) four_at) items number (λ n _. r n))

pub reads-list : {A : Type 0} (limit : ℕ) (s : A → List ℕ) (fits : A → Type 0) (read : Reader A) → limit < 2 ^ 32 → Reads s fits read
    → Reads (with_length (flat_map s)) (at_most limit (All fits)) (list_at limit read)
unfolding list_at
reads-list limit s fits read small r = reads-counted limit (flat_map s) (All fits) (times read) small (reads-times s fits read r)

-- ---- what may be absent

found-optional : {A : Type 0} (s : A → List ℕ) (fits : A → Type 0) (read : Reader A) → Reads s fits read → (bytes : List ℕ) (x : Option A × List ℕ)
    → optional_at read bytes ≡ Some x → Begins (optional s) (Optionally fits) bytes x
unfolding optional_at
found-optional s fits read r [] x e = absurd cc
found-optional {A} s fits read r (zero ∷ bytes) x e =
    let made : Option A × List ℕ = (None, bytes) in
    subst (λ (y : Option A × List ℕ). Begins (optional s) (Optionally fits) (0 ∷ bytes) y) (same_Some made x e) (record { parts = refl; fitting = tt })
found-optional {A} s fits read r (suc zero ∷ bytes) x e =
    let p = bind_some (read bytes) (λ y. Some (Some y.0, y.1)) x e in
    let k = r.found bytes p.0 p.1 in
    let made : Option A × List ℕ = (Some p.0.0, p.0.1) in
    subst (λ (y : Option A × List ℕ). Begins (optional s) (Optionally fits) (1 ∷ bytes) y) (same_Some made x p.2) (record { parts = ap (λ (w : List ℕ). 1 ∷ w) k.parts; fitting = k.fitting })
found-optional s fits read r (suc (suc b) ∷ bytes) x e = absurd cc

only-optional : {A : Type 0} (s : A → List ℕ) (fits : A → Type 0) (read : Reader A) → Reads s fits read → (o : Option A) (rest : List ℕ) → Optionally fits o
    → optional_at read (optional s o ++ rest) ≡ Some (o, rest)
unfolding optional_at
only-optional s fits read r None rest h = refl
only-optional s fits read r (Some x) rest h = rw (r.only x rest h) refl

pub reads-optional : {A : Type 0} (s : A → List ℕ) (fits : A → Type 0) (read : Reader A) → Reads s fits read → Reads (optional s) (Optionally fits) (optional_at read)
reads-optional s fits read r = record { found = found-optional s fits read r; only = only-optional s fits read r }
