-- What a function read, and what the functions on lists give.
use Rattle.std.proofs.Common.{◌≡◌, ◌≢◌, ℕ, List, ◌++◌, Option, Some, None, Result, Ok, Err, refl, sym, ap, ◌∙◌, []}
use Rattle.std.proofs.lemmas.List.{append-nil}
use Rattle.std.proofs.lemmas.Option.{some_pair_parts}
use Rattle.record_codec.specs.declared.fault.ReadError.{ReadError}
use Rattle.record_codec.specs.declared.fault.ReadError.TheVariants.{Unspelled, OutOfMemory}
use Rattle.record_codec.specs.Reading.{Begins, BeginsWithNone, IsRead, IsReadWhole, Finds}
use Rattle.record_codec.proofs.Parsers.{Reader}
use Rattle.record_codec.proofs.Readers.{Reads}

-- what was read is what the function gives
pub given : {A : Type 0} {s : A → List ℕ} {fits : A → Type 0} {read : Reader A} → Reads s fits read → {bytes : List ℕ} {x : A × List ℕ} → Begins s fits bytes x → read bytes ≡ Some (x.0, x.1)
given {A} {s} {fits} {read} r {bytes} {x} h = ap read h.parts ∙ r.only x.0 x.1 h.fitting

-- what the function gives is at the front
pub begins : {A : Type 0} {s : A → List ℕ} {fits : A → Type 0} {read : Reader A} → Reads s fits read → (bytes : List ℕ) (x : A × List ℕ) → read bytes ≡ Some x → Begins s fits bytes x
begins r bytes x e = r.found bytes x e

-- nothing is at the front, and the function gives nothing
pub nothing : {A : Type 0} {s : A → List ℕ} {fits : A → Type 0} {read : Reader A} (r : Reads s fits read) (bytes : List ℕ) → ((x : A) (rest : List ℕ) → fits x → bytes ≢ s x ++ rest)
    → (o : Option (A × List ℕ)) → read bytes ≡ o → read bytes ≡ None
nothing r bytes h None e = e
nothing r bytes h (Some x) e = let k = r.found bytes x e in absurd (h x.0 x.1 k.fitting k.parts)

pub begins_not : {A : Type 0} {s : A → List ℕ} {fits : A → Type 0} {read : Reader A} → Reads s fits read → (bytes : List ℕ) → read bytes ≡ None → (e : ReadError) → BeginsWithNone s fits bytes e
begins_not r bytes none OutOfMemory = tt
begins_not {A} {s} {fits} {read} r bytes none Unspelled = λ x rest fit e. let h : read bytes ≡ Some (x, rest) = ap read e ∙ r.only x rest fit in absurd (cc (none, h))

-- a part that isn't read leaves the whole unread
pub unread : {A B : Type 0} {s : A → List ℕ} {fits : A → Type 0} {read : Reader A} {t : B → List ℕ} {suits : B → Type 0} {whole : Reader B} → Reads s fits read → Reads t suits whole
    → (here bytes : List ℕ) → (read here ≡ None → whole bytes ≡ None) → (e : ReadError) → BeginsWithNone s fits here e → BeginsWithNone t suits bytes e
unread r w here bytes f OutOfMemory h = tt
unread {read = read} r w here bytes f Unspelled h = begins_not w bytes (f (nothing r here h (read here) refl)) Unspelled

-- what stands at the front is what was read
pub the_same : {A : Type 0} {s : A → List ℕ} {fits : A → Type 0} {read : Reader A} → Reads s fits read → {bytes : List ℕ} {x : A × List ℕ} → Begins s fits bytes x
    → (y : A) (rest : List ℕ) → fits y → bytes ≡ s y ++ rest → (x.0 ≡ y) × (x.1 ≡ rest)
the_same {A} {s} {fits} {read} r {bytes} {x} h y rest fit e = some_pair_parts x.0 y x.1 rest (sym (given r h) ∙ ap read e ∙ r.only y rest fit)

-- ---- all of the bytes

pub whole_none : {A : Type 0} (s : A → List ℕ) (fits : A → Type 0) (bytes : List ℕ) (e : ReadError) → BeginsWithNone s fits bytes e → IsReadWhole s fits bytes (Err e)
whole_none s fits bytes OutOfMemory h = tt
whole_none s fits bytes Unspelled h = λ x fit e. h x [] fit (e ∙ sym (append-nil (s x)))

-- what was read before the end isn't the whole
pub not_whole : {A : Type 0} {s : A → List ℕ} {fits : A → Type 0} {read : Reader A} → Reads s fits read → {bytes : List ℕ} {x : A × List ℕ} → Begins s fits bytes x → (x.1 ≡ [] → ⊥)
    → (y : A) → fits y → bytes ≢ s y
not_whole {s = s} r h more y fit e = more (the_same r h y [] fit (e ∙ sym (append-nil (s y)))).1

-- all of the bytes spell one thing
pub one_whole : {A : Type 0} {s : A → List ℕ} {fits : A → Type 0} {read : Reader A} → Reads s fits read → {bytes : List ℕ} (x y : A) → fits x → bytes ≡ s x → fits y → bytes ≡ s y → x ≡ y
one_whole {s = s} r x y hx ex hy ey = (the_same r (record { fitting = hx; parts = ex ∙ sym (append-nil (s x)) }) y [] hy (ey ∙ sym (append-nil (s y)))).0

-- ---- what is known to be there

pub only_memory : {A : Type 0} (s : A → List ℕ) (fits : A → Type 0) (bytes : List ℕ) (e : ReadError) → BeginsWithNone s fits bytes e → (x : A) (rest : List ℕ) → fits x → bytes ≡ s x ++ rest → e ≡ OutOfMemory
only_memory s fits bytes OutOfMemory h x rest fit is = refl
only_memory s fits bytes Unspelled h x rest fit is = absurd (h x rest fit is)

pub found_by : {A R : Type 0} {s : A → List ℕ} {fits : A → Type 0} {read : Reader A} → Reads s fits read → (seen : R → A × List ℕ) {bytes : List ℕ} (result : Result R ReadError) → IsRead s fits seen bytes result
    → (x : A) (rest : List ℕ) → fits x → bytes ≡ s x ++ rest → Finds seen (x, rest) result
found_by r seen (Ok y) h x rest fit e = let m = the_same r h x rest fit e in λ i. (m.0 i, m.1 i)
found_by {s = s} {fits = fits} r seen {bytes = bytes} (Err e) h x rest fit is = only_memory s fits bytes e h x rest fit is
