-- The starts of the windows that are held for a key are among those of the index.
use Rattle.std.proofs.Common.{◌≡◌, ℕ, ◌<◌, ◌≤◌, ◌^◌, Bool, true, false, cond, List, [], ◌∷◌, ◌++◌, AllPairs, Contains, IsSome, is_some, filter, Option, None, Some, option_copied, unwrap_or, option_map, eqb, refl, sym, ap, subst, ◌∙◌, append_assoc, arith}
use Rattle.std.proofs.lemmas.Cmp.{nat_cmp_total}
use Rattle.std.proofs.lemmas.List.Elements.{All-contains, filter_passes}
use Rattle.std.proofs.lemmas.List.Kept.{IsStrictlySortedBy-filter, AllPairs-from_increasing}
use Rattle.std.proofs.lemmas.Map.Keys.{IsStrictlyIncreasing-from_sorted}
use Rattle.std.proofs.lemmas.Map.Lookups.{exact_unsigned}
use Rattle.std.proofs.lemmas.Map.Views.{exact_unsigned_eq, any-filter_same, Contains-from_any, list_any-from_Contains, btree_map_contains_key_iff}
use Rattle.std.specs.Borrow.{Bor}
use Rattle.std.specs.BTreeMap as tree
use Rattle.std.specs.Cmp.{nat_eq_equiv}
use Rattle.std.specs.FinMap as finite
use Rattle.std.specs.Global.{Vec}
use Rattle.std.specs.List.Sorted.{IsStrictlySortedBy}
use Rattle.std.specs.Ordering.{nat_cmp}
use Rattle.state_store.specs.Store.{Values, Content}
use Rattle.window_store.specs.Windows.{under, IsWindowKey}
use Rattle.window_store.specs.Starts.{Starts, noted, IsOfStart, IsIndex}
use Rattle.window_store.proofs.WindowKeys.{start_of-under, start_of-bounded}

-- whether the window of a key with a start is held
abbrev pub is_held : Values → List ℕ → ℕ → Bool
is_held m key start = is_some (finite.get m (under key start))

pub is_some-copied : {X : Type 0} (o : Option (Bor X)) → is_some (option_copied o) ≡ is_some o
is_some-copied None = refl
is_some-copied (Some x) = refl

-- one more start of the index, which is picked or passed over
filter-next : (p : ℕ → Bool) (left rest : List ℕ) (x : ℕ) (b : Bool) → b ≡ p x → left ≡ x ∷ rest → filter p left ≡ cond b (x ∷ filter p rest) (filter p rest)
filter-next p left rest x b is e = ap (filter p) e ∙ ap (λ b. cond b (x ∷ filter p rest) (filter p rest)) (sym is)

pub picked-more : (p : ℕ → Bool) (picked left rest all : List ℕ) (x : ℕ) → true ≡ p x → left ≡ x ∷ rest → picked ++ filter p left ≡ all → (picked ++ x ∷ []) ++ filter p rest ≡ all
picked-more p picked left rest all x is e h =
    append_assoc picked (x ∷ []) (filter p rest) ∙ ap (λ xs. picked ++ xs) (sym (filter-next p left rest x true is e)) ∙ h

pub passed-more : (p : ℕ → Bool) (picked left rest all : List ℕ) (x : ℕ) → false ≡ p x → left ≡ x ∷ rest → picked ++ filter p left ≡ all → picked ++ filter p rest ≡ all
passed-more p picked left rest all x is e h = ap (λ xs. picked ++ xs) (sym (filter-next p left rest x false is e)) ∙ h

Contains-filter : (p : ℕ → Bool) (xs : List ℕ) (x : ℕ) → Contains xs x → p x ≡ true → Contains (filter p xs) x
Contains-filter p xs x among holds =
    Contains-from_any exact_unsigned_eq x (filter p xs)
    (any-filter_same (eqb x) p true (λ k e. ap p (sym (exact_unsigned_eq x k e)) ∙ holds) xs ∙ list_any-from_Contains nat_eq_equiv x xs among)

module _ (starts : Starts) (content : Content) (key : List ℕ) (h : IsIndex starts content) where
  -- a window that is held is noted under its start
  noted_at : (start : ℕ) → start < 2 ^ 64 → is_held content.map key start ≡ true → Contains (noted starts start) (under key start)
  noted_at start fits is =
      subst (λ (s : ℕ). Contains (noted starts s) (under key start)) (start_of-under key start fits) (h.held (under key start) is)

  has_place : (start : ℕ) → Contains (noted starts start) (under key start) → IsSome (tree.get nat_cmp starts start)
  has_place start among = by (tree.get nat_cmp starts start) among
    where
      by : (o : Option (Vec (List ℕ))) → Contains (unwrap_or (option_map (λ keys. keys.items) o) []) (under key start) → IsSome o
      by None among = absurd (omega (arith, among.1))
      by (Some keys) among = refl

  pub starts_have : (start : ℕ) → start < 2 ^ 64 → is_held content.map key start ≡ true → Contains (filter (is_held content.map key) (tree.keys starts)) start
  starts_have start fits is =
      Contains-filter (is_held content.map key) (tree.keys starts) start
      ((btree_map_contains_key_iff nat_cmp_total exact_unsigned starts start).0 (has_place start (noted_at start fits is)))
      is

  pub start_bounded : (start : ℕ) → start < 2 ^ 64 → is_held content.map key start ≡ true → start ≤ 2 ^ 56
  start_bounded start fits is =
      let window : IsWindowKey (under key start) = (All-contains (IsOfStart start) (noted starts start) (under key start) (h.by_start start) (noted_at start fits is)).0 in
      omega (arith, start_of-bounded (under key start) window, start_of-under key start fits)

-- a start that was picked passes
pub passes : (p : ℕ → Bool) (xs : List ℕ) (x : ℕ) → Contains (filter p xs) x → p x ≡ true
passes p xs x among = All-contains (λ x. p x ≡ true) (filter p xs) x (filter_passes p xs) among

pub ascending : (p : ℕ → Bool) (xs : List ℕ) → IsStrictlySortedBy nat_cmp xs → AllPairs (λ start later. start < later) (filter p xs)
ascending p xs sorted =
    AllPairs-from_increasing (filter p xs) (IsStrictlyIncreasing-from_sorted (filter p xs) (IsStrictlySortedBy-filter nat_cmp p xs sorted))
