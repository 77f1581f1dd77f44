-- How many sub-topologies the longest path to a topic has.
use Rattle.std.proofs.Common.{◌≡◌, ◌∙◌, ap, ap₂, sym, refl, ℕ, ◌+◌, ◌<◌, ◌≤◌, Bool, true, false, List, [], ◌∷◌, ◌++◌, length, map, take, get_or, arith}
use Rattle.std.specs.Prelude.{Option, Some, if◌then◌else◌, ◌==◌, max, unwrap_or}
use Rattle.std.specs.Ordering.{is_eq, nat_cmp}
use Rattle.std.proofs.lemmas.Bool.Decides.{nat_tests}
use Rattle.std.proofs.lemmas.List.{map_more}
use Rattle.ksql_place.specs.Order.{greatest}
use Rattle.topology.specs.declared.topology.Sub.{Sub}
use Rattle.topology.specs.declared.topology.SubInput.{SubInput}
use Rattle.topology.specs.Tasks.{depth_after, with_depth}

-- ---- the greatest of some numbers

greatest-append : (ns : List ℕ) (n : ℕ) → greatest (ns ++ n ∷ []) ≡ max (greatest ns) n
greatest-append [] n = omega arith
greatest-append (m ∷ ns) n = omega (arith, greatest-append ns n)

pub greatest-more : {X : Type 0} (f : X → ℕ) (xs : List X) (i : ℕ) (d : X) → i < length xs →
    greatest (map f (take (i + 1) xs)) ≡ max (greatest (map f (take i xs))) (f (get_or xs i d))
greatest-more f xs i d inside = ap greatest (map_more f xs i d inside) ∙ greatest-append (map f (take i xs)) (f (get_or xs i d))

pub greatest-within : {X : Type 0} (f : X → ℕ) (n : ℕ) (xs : List X) → ((x : X) → f x ≤ n) → greatest (map f xs) ≤ n
greatest-within f n [] within = omega arith
greatest-within f n (x ∷ xs) within = omega (arith, within x, greatest-within f n xs within)

pub greatest-same : {X : Type 0} (f g : X → ℕ) (xs : List X) → ((x : X) → f x ≡ g x) → greatest (map f xs) ≡ greatest (map g xs)
greatest-same f g [] same = refl
greatest-same f g (x ∷ xs) same = ap₂ max (same x) (greatest-same f g xs same)

-- ---- depths

depth_after-append : (f : ℕ → ℕ) (ss : List Sub) (s : Sub) → depth_after f (ss ++ s ∷ []) ≡ with_depth (depth_after f ss) s
unfolding depth_after
depth_after-append f [] s = refl
depth_after-append f (t ∷ ss) s = depth_after-append (with_depth f t) ss s

with_depth-within : (f : ℕ → ℕ) (n : ℕ) (s : Sub) → ((t : ℕ) → f t ≤ n) → (t : ℕ) → with_depth f s t ≤ n + 1
with_depth-within f n s within t =
    elim (t == s.output) as (λ b. (if b then 1 + greatest (map (λ (input : SubInput). f input.topic) s.inputs) else f t) ≤ n + 1) [
      | true ↦ omega (arith, greatest-within (λ (input : SubInput). f input.topic) n s.inputs (λ input. within input.topic))
      | false ↦ omega (arith, within t)
    ]

-- no path is longer than there are sub-topologies
pub depth_after-within : (f : ℕ → ℕ) (n : ℕ) (ss : List Sub) → ((t : ℕ) → f t ≤ n) → (t : ℕ) → depth_after f ss t ≤ n + length ss
unfolding depth_after
depth_after-within f n [] within t = omega (arith, within t)
depth_after-within f n (s ∷ ss) within t = omega (arith, depth_after-within (with_depth f s) (n + 1) ss (with_depth-within f n s within) t)

same_topic : (a b : ℕ) → is_eq (nat_cmp a b) ≡ (b == a)
same_topic a b = grind (arith, nat_tests)

chosen : (b : Bool) (depth rest known : ℕ) (found : Option ℕ) → unwrap_or found 0 ≡ known → depth ≡ rest →
    unwrap_or (if b then Some depth else found) 0 ≡ (if b then rest else known)
chosen true depth rest known found same deep = deep
chosen false depth rest known found same deep = same

-- the depths that are known after one sub-topology more, where those before it are known
pub depth-more : (known : ℕ → Option ℕ) (before : List Sub) (s : Sub) (depth : ℕ) →
    ((t : ℕ) → unwrap_or (known t) 0 ≡ depth_after (λ _. 0) before t) →
    depth ≡ 1 + greatest (map (λ (input : SubInput). unwrap_or (known input.topic) 0) s.inputs) →
    (t : ℕ) → unwrap_or (if is_eq (nat_cmp s.output t) then Some depth else known t) 0 ≡ depth_after (λ _. 0) (before ++ s ∷ []) t
depth-more known before s depth is_known deep t =
    let deepest = greatest-same (λ (input : SubInput). unwrap_or (known input.topic) 0) (λ (input : SubInput). depth_after (λ _. 0) before input.topic) s.inputs (λ input. is_known input.topic) in
    ap (λ (b : Bool). unwrap_or (if b then Some depth else known t) 0) (same_topic s.output t)
    ∙ chosen (t == s.output) depth (1 + greatest (map (λ (input : SubInput). depth_after (λ _. 0) before input.topic) s.inputs)) (depth_after (λ _. 0) before t) (known t) (is_known t)
    (deep ∙ ap (λ (n : ℕ). 1 + n) deepest)
    ∙ ap (λ (f : ℕ → ℕ). f t) (sym (depth_after-append (λ _. 0) before s))
