-- How an index of a store of windows keeps up with the store.
use Rattle.std.proofs.Common.{◌≡◌, ℕ, ◌==◌, Bool, true, false, cond, List, [], ◌∷◌, ◌++◌, All, Contains, IsSome, Option, None, Some, Result, Ok, Err, OnOk, OnErr, is_some, refl, sym, ap, subst, ◌∙◌, eqb-true, eq-eqb, true≢false}
use Rattle.std.proofs.lemmas.List.Elements.{All-nil, All-push, Contains-append_left, Contains-push}
use Rattle.std.specs.Cmp.Lexicographic.{slice_cmp, bytes_decides}
use Rattle.std.specs.FinMap as finite
use Rattle.std.specs.Ordering.{nat_cmp}
use Rattle.std.specs.Str.{bytes_eq}
use Rattle.state_store.specs.Store.{Values, Content, with_value}
use Rattle.state_store.proofs.ReplayLemmas.{get-with_value}
use Rattle.window_store.specs.Windows.{IsWindowKey, start_of}
use Rattle.window_store.specs.Starts.{Starts, noted, IsOfStart, IsByStart, IsIndex}

nothing_noted : (starts : Starts) (s : ℕ) → starts.entries ≡ [] → noted starts s ≡ []
nothing_noted starts s e = rw e refl

pub IsByStart-empty : (starts : Starts) → starts.entries ≡ [] → IsByStart starts
IsByStart-empty starts e s = rw (nothing_noted starts s e) (All-nil (IsOfStart s))

-- no bytes have a value in an empty map
pub none_held : (m : Values) (b : List ℕ) → m ≡ finite.empty → IsSome (finite.get m b) → ⊥
none_held m b e h =
    let none : finite.get m b ≡ None = ap (λ (m : Values). finite.get m b) e ∙ finite.get-empty (slice_cmp nat_cmp) b in
    true≢false (sym h ∙ ap is_some none)

pub IsIndex-empty : (starts : Starts) (content : Content) → starts.entries ≡ [] → content.map ≡ finite.empty → content.written ≡ [] → IsIndex starts content
IsIndex-empty starts content e m w = record {
  by_start = IsByStart-empty starts e;
  held = λ b h. absurd (none_held content.map b m h);
  written = rw w (All-nil IsWindowKey);
}

-- the index with these bytes noted too
abbrev pub IsMore : Starts → Starts → List ℕ → Type 0
IsMore old new b = (s : ℕ) → noted new s ≡ cond (s == start_of b) (noted old s ++ b ∷ []) (noted old s)

pub IsByStart-more : (old new : Starts) (b : List ℕ) → IsWindowKey b → IsMore old new b → IsByStart old → IsByStart new
IsByStart-more old new b w more h s = subst (All (IsOfStart s)) (sym (more s)) (by (s == start_of b) refl)
  where
    by : (t : Bool) → (s == start_of b) ≡ t → All (IsOfStart s) (cond t (noted old s ++ b ∷ []) (noted old s))
    by true e = All-push (IsOfStart s) (noted old s) b (h s) (w, sym (eqb-true s (start_of b) e))
    by false e = h s

-- what was noted stays noted
pub noted-more : (old new : Starts) (b : List ℕ) → IsMore old new b → (s : ℕ) (q : List ℕ) → Contains (noted old s) q → Contains (noted new s) q
noted-more old new b more s q h = subst (λ (bs : List (List ℕ)). Contains bs q) (sym (more s)) (by (s == start_of b))
  where
    by : (t : Bool) → Contains (cond t (noted old s ++ b ∷ []) (noted old s)) q
    by true = Contains-append_left (noted old s) (b ∷ []) q h
    by false = h

pub noted-itself : (old new : Starts) (b : List ℕ) → IsMore old new b → Contains (noted new (start_of b)) b
noted-itself old new b more =
    let same : (start_of b == start_of b) ≡ true = eq-eqb (start_of b) (start_of b) refl in
    subst (λ (bs : List (List ℕ)). Contains bs b) (sym (more (start_of b) ∙ ap (λ t. cond t (noted old (start_of b) ++ b ∷ []) (noted old (start_of b))) same)) (Contains-push (noted old (start_of b)) b)

IsIndex-more : (old new : Starts) (content : Content) (b : List ℕ) → IsWindowKey b → IsMore old new b → IsIndex old content → IsIndex new content
IsIndex-more old new content b w more h = record {
  by_start = IsByStart-more old new b w more h.by_start;
  held = λ q is. noted-more old new b more (start_of q) q (h.held q is);
  written = h.written;
}

IsIndex-same : (old new : Starts) (content : Content) → ((s : ℕ) → noted new s ≡ noted old s) → IsIndex old content → IsIndex new content
IsIndex-same old new content same h = record {
  by_start = λ s. subst (All (IsOfStart s)) (sym (same s)) (h.by_start s);
  held = λ q is. subst (λ (bs : List (List ℕ)). Contains bs q) (sym (same (start_of q))) (h.held q is);
  written = h.written;
}

-- after a call that notes these bytes, unless memory ran out
pub IsIndex-noted : {T E : Type 0} (r : Result T E) (old new : Starts) (content : Content) (b : List ℕ) → IsWindowKey b → OnOk r (IsMore old new b) → OnErr r ((s : ℕ) → noted new s ≡ noted old s) → IsIndex old content → IsIndex new content
IsIndex-noted (Ok x) old new content b w more same h = IsIndex-more old new content b w more h
IsIndex-noted (Err e) old new content b w more same h = IsIndex-same old new content same h

-- what has a value after a write was written, or had one before
pub held-with_value : (m : Values) (b : List ℕ) (value : Option (List ℕ)) (P : List ℕ → Type 0) → (IsSome value → P b) → ((q : List ℕ) → IsSome (finite.get m q) → P q) → (q : List ℕ) → IsSome (finite.get (with_value m b value) q) → P q
held-with_value m b value P here before q h = by (bytes_eq q b) refl (subst (λ o. IsSome o) (get-with_value m b value q) h)
  where
    by : (t : Bool) → bytes_eq q b ≡ t → IsSome (cond t value (finite.get m q)) → P q
    by true e is = subst P (sym ((bytes_decides q b).0 e)) (here is)
    by false e is = before q is

-- a window that is noted was set
IsIndex-set : (starts : Starts) (old new : Content) (b value : List ℕ) → IsWindowKey b → Contains (noted starts (start_of b)) b → new.map ≡ finite.insert old.map b value → new.written ≡ old.written ++ b ∷ [] → IsIndex starts old → IsIndex starts new
IsIndex-set starts old new b value w here m written h = record {
  by_start = h.by_start;
  held = λ q is. held-with_value old.map b (Some value) (λ q. Contains (noted starts (start_of q)) q) (λ _. here) h.held q (subst (λ (m : Values). IsSome (finite.get m q)) m is);
  written = subst (All IsWindowKey) (sym written) (All-push IsWindowKey old.written b h.written w);
}

pub IsIndex-after_set : {T E : Type 0} (r : Result T E) (starts : Starts) (old new : Content) (b value : List ℕ) → IsWindowKey b → Contains (noted starts (start_of b)) b → OnOk r (new.map ≡ finite.insert old.map b value) → OnOk r (new.written ≡ old.written ++ b ∷ []) → OnErr r (new ≡ old) → IsIndex starts old → IsIndex starts new
IsIndex-after_set (Ok x) starts old new b value w here m written kept h = IsIndex-set starts old new b value w here m written h
IsIndex-after_set (Err e) starts old new b value w here m written kept h = subst (IsIndex starts) (sym kept) h

-- after a commit
pub IsIndex-committed : (starts : Starts) (old new : Content) → new ≡ record { map = old.map; written = [] } → IsIndex starts old → IsIndex starts new
IsIndex-committed starts old new e h =
    subst (IsIndex starts) (sym e) (record { by_start = h.by_start; held = h.held; written = All-nil IsWindowKey })
