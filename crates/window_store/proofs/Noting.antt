-- How an index of the windows that changes leave grows, one change after another.
use Rattle.std.proofs.Common.{◌≡◌, ℕ, ◌+◌, ◌<◌, List, [], ◌∷◌, ◌++◌, take, get_or, length, All, Contains, IsSome, is_some, false, refl, sym, ap, subst, ◌∙◌, true≢false}
use Rattle.std.proofs.lemmas.List.{take_more}
use Rattle.std.specs.FinMap as finite
use Rattle.ksql_types.specs.declared.relation.StoreEntry.{StoreEntry}
use Rattle.state_store.specs.Store.{Values, with_value, replay}
use Rattle.state_store.proofs.ReplayLemmas.{replay-append}
use Rattle.window_store.specs.Windows.{IsWindowKey, start_of}
use Rattle.window_store.specs.Starts.{Starts, noted}
use Rattle.window_store.proofs.IndexLemmas.{IsMore, held-with_value, noted-more, noted-itself, none_held}

-- what has a value in a map is noted
abbrev pub AreNoted : Starts → Values → Type 0
AreNoted starts m = (b : List ℕ) → IsSome (finite.get m b) → Contains (noted starts (start_of b)) b

pub AreNoted-empty : (starts : Starts) → AreNoted starts finite.empty
AreNoted-empty starts b h = absurd (none_held finite.empty b refl h)

-- the key of a change among such
pub window_at : (changes : List StoreEntry) (i : ℕ) (change : StoreEntry) → i < length changes → change ≡ get_or changes i change → All (λ change. IsWindowKey change.key) changes → IsWindowKey change.key
window_at changes i change within here all =
    let P : StoreEntry → Type 0 = λ change. IsWindowKey change.key in
    subst P (sym here) (all i change within)

replay-more : (m : Values) (log : List StoreEntry) (i : ℕ) (entry : StoreEntry) → i < length log → entry ≡ get_or log i entry → replay m (take (i + 1) log) ≡ with_value (replay m (take i log)) entry.key entry.value
replay-more m log i entry within here =
    ap (replay m) (take_more log i entry within)
    ∙ ap (λ e. replay m (take i log ++ e ∷ [])) (sym here)
    ∙ replay-append m (take i log) (entry ∷ [])

-- a change that leaves a value is noted
pub AreNoted-value : (old new : Starts) (m : Values) (log : List StoreEntry) (i : ℕ) (entry : StoreEntry) → i < length log → entry ≡ get_or log i entry → IsMore old new entry.key → AreNoted old (replay m (take i log)) → AreNoted new (replay m (take (i + 1) log))
AreNoted-value old new m log i entry within here more h =
    subst (AreNoted new) (sym (replay-more m log i entry within here))
    (held-with_value (replay m (take i log)) entry.key entry.value (λ b. Contains (noted new (start_of b)) b) (λ _. noted-itself old new entry.key more) (λ q is. noted-more old new entry.key more (start_of q) q (h q is)))

-- and one that leaves none is passed over
pub AreNoted-none : (starts : Starts) (m : Values) (log : List StoreEntry) (i : ℕ) (entry : StoreEntry) → i < length log → entry ≡ get_or log i entry → is_some entry.value ≡ false → AreNoted starts (replay m (take i log)) → AreNoted starts (replay m (take (i + 1) log))
AreNoted-none starts m log i entry within here none h =
    subst (AreNoted starts) (sym (replay-more m log i entry within here))
    (held-with_value (replay m (take i log)) entry.key entry.value (λ b. Contains (noted starts (start_of b)) b) (λ is. absurd (true≢false (sym is ∙ none))) h)
