-- The depth of a topic is the length of a longest path to it, where sub-topologies stand after those that write what
-- they read.
use Rattle.std.proofs.Common.{◌≡◌, ◌∙◌, ap, refl, sym, subst, ℕ, zero, suc, ◌+◌, ◌<◌, ◌≤◌, Bool, true, false, List, [], ◌∷◌, length, map, max, arith, inl, inr, true≢false}
use Rattle.std.proofs.lemmas.Bool.{cases_lt}
use Rattle.std.proofs.lemmas.List.Elements.{All-contains, All-from_recursion, All-nil, recursion_from_All}
use Rattle.std.specs.Cmp.{unsigned_Decides}
use Rattle.std.specs.List.{AllByRecursion}
use Rattle.std.specs.Prelude.{◌⊎◌, ◌==◌, if◌then◌else◌, Contains}
use Rattle.ksql_place.specs.Order.{greatest}
use Rattle.topology.specs.declared.topology.Sub.{Sub}
use Rattle.topology.specs.declared.topology.SubInput.{SubInput}
use Rattle.topology.specs.Tasks.{chain_of, depth_after, with_depth}
use Rattle.topology.proofs.Depths.{greatest-within}
use Rattle.sending_laws.specs.Chain.{AreInRow, IsLongest, IsPath}

-- ---- members

member-cases : {A : Type 0} (x y : A) (ys : List A) → Contains (y ∷ ys) x → (y ≡ x) ⊎ Contains ys x
member-cases x y ys (zero, below, at) = inl at
member-cases x y ys (suc i, below, at) = inr (i, omega (arith, below), at)

member-first : {A : Type 0} (y : A) (ys : List A) → Contains (y ∷ ys) y
member-first y ys = (0, omega arith, refl)

member-later : {A : Type 0} (x y : A) (ys : List A) → Contains ys x → Contains (y ∷ ys) x
member-later x y ys among = (suc among.0, omega (arith, among.1), among.2)

no-member : {A : Type 0} (x : A) → Contains [] x → ⊥
no-member x among = omega (arith, among.1)

pub holds-of : {A : Type 0} (P : A → Type 0) (xs : List A) (x : A) → AllByRecursion P xs → Contains xs x → P x
holds-of P xs x all among = All-contains P xs x (All-from_recursion P xs all) among

all-later : {A : Type 0} (y : A) (ys xs : List A) → AllByRecursion (Contains ys) xs → AllByRecursion (Contains (y ∷ ys)) xs
all-later y ys [] inside = tt
all-later y ys (x ∷ xs) inside = (member-later x y ys inside.0, all-later y ys xs inside.1)

-- ---- the greatest of some numbers

greatest-of : {A : Type 0} (f : A → ℕ) (xs : List A) (x : A) → Contains xs x → f x ≤ greatest (map f xs)
greatest-of f [] x among = absurd (no-member x among)
greatest-of f (y ∷ xs) x among = by (member-cases x y xs among) (greatest-of f xs x)
  where
    by : (y ≡ x) ⊎ Contains xs x → (Contains xs x → f x ≤ greatest (map f xs)) → f x ≤ max (f y) (greatest (map f xs))
    by (inl same) rest = let is : f y ≡ f x = ap f same in omega (arith, is)
    by (inr there) rest = let low : f x ≤ greatest (map f xs) = rest there in omega (arith, low)

-- the greatest of some numbers is 0 or one of them
greatest-is : {A : Type 0} (f : A → ℕ) (xs : List A) → (greatest (map f xs) ≤ 0) ⊎ ((x : A) × (greatest (map f xs) ≤ f x))
greatest-is f [] = inl (omega arith)
greatest-is {A} f (y ∷ xs) = by (greatest-is f xs)
  where
    more : (x : A) → greatest (map f xs) ≤ f x → (f x < f y) ⊎ (f y ≤ f x) → (x : A) × (max (f y) (greatest (map f xs)) ≤ f x)
    more x low (inl less) = (y, omega (arith, low, less))
    more x low (inr most) = (x, omega (arith, low, most))

    by : (greatest (map f xs) ≤ 0) ⊎ ((x : A) × (greatest (map f xs) ≤ f x)) → (max (f y) (greatest (map f xs)) ≤ 0) ⊎ ((x : A) × (max (f y) (greatest (map f xs)) ≤ f x))
    by (inl low) = inr (y, omega (arith, low))
    by (inr found) = inr (more found.0 found.1 (cases_lt (f found.0) (f y)))

greatest-rises : {A : Type 0} (f g : A → ℕ) (xs : List A) → ((x : A) → f x ≤ g x) → greatest (map f xs) ≤ greatest (map g xs)
greatest-rises f g [] low = omega arith
greatest-rises f g (x ∷ xs) low = omega (arith, low x, greatest-rises f g xs low)

-- ---- what sub-topologies read

abbrev pub topics_read : Sub → List ℕ
topics_read s = map (λ (input : SubInput). input.topic) s.inputs

-- sub-topologies after those that write what they read, each writing a different topic
abbrev pub StandInOrder : List Sub → Type 0
StandInOrder [] = Unit {0}
StandInOrder (s ∷ ss) =
    AllByRecursion (λ (t : Sub). Contains (topics_read s) t.output → ⊥) (s ∷ ss) × AllByRecursion (λ (t : Sub). t.output ≡ s.output → ⊥) ss × StandInOrder ss

-- the greatest depth of what a sub-topology reads
abbrev read_depth : (ℕ → ℕ) → Sub → ℕ
read_depth depth s = greatest (map (λ (input : SubInput). depth input.topic) s.inputs)

depths-read : (depth : ℕ → ℕ) (inputs : List SubInput) → map depth (map (λ (input : SubInput). input.topic) inputs) ≡ map (λ (input : SubInput). depth input.topic) inputs
depths-read depth [] = refl
depths-read depth (input ∷ inputs) = ap (λ rest. depth input.topic ∷ rest) (depths-read depth inputs)

reads-deep : (depth : ℕ → ℕ) (s : Sub) (topic : ℕ) → Contains (topics_read s) topic → depth topic ≤ read_depth depth s
reads-deep depth s topic reads = subst (λ n. depth topic ≤ n) (ap greatest (depths-read depth s.inputs)) (greatest-of depth (topics_read s) topic reads)

with-own : (depth : ℕ → ℕ) (s : Sub) (topic : ℕ) → topic ≡ s.output → with_depth depth s topic ≡ 1 + read_depth depth s
with-own depth s topic same = ap (λ b. if b then 1 + read_depth depth s else depth topic) ((unsigned_Decides topic s.output).1 same)

with-other : (depth : ℕ → ℕ) (s : Sub) (topic : ℕ) → (topic ≡ s.output → ⊥) → with_depth depth s topic ≡ depth topic
with-other depth s topic apart = by (topic == s.output) refl
  where
    by : (b : Bool) → (topic == s.output) ≡ b → (if b then 1 + read_depth depth s else depth topic) ≡ depth topic
    by true is = absurd (apart ((unsigned_Decides topic s.output).0 is))
    by false is = refl

-- a topic's depth stays as it is after sub-topologies that write others
depth-kept : (depth : ℕ → ℕ) (ss : List Sub) (topic : ℕ) → AllByRecursion (λ (t : Sub). t.output ≡ topic → ⊥) ss → depth_after depth ss topic ≡ depth topic
unfolding depth_after
depth-kept depth [] topic apart = refl
depth-kept depth (s ∷ ss) topic apart = depth-kept (with_depth depth s) ss topic apart.1 ∙ with-other depth s topic (λ same. apart.0 (sym same))

-- ---- no path is longer

-- a path that begins with this sub-topology is no longer than the depth that a topic has in the end
abbrev IsBounded : List Sub → (ℕ → ℕ) → Sub → List Sub → Type 0
IsBounded ss depth s path = (last : Sub) × Contains ss last × (read_depth depth s + length (s ∷ path) ≤ depth_after depth ss last.output)

abbrev AreBounded : List Sub → (ℕ → ℕ) → Type 0
AreBounded ss depth = (s : Sub) (path : List Sub) → AllByRecursion (Contains ss) (s ∷ path) → AreInRow (s ∷ path) → IsBounded ss depth s path

module _ (s : Sub) (ss : List Sub) (depth : ℕ → ℕ) (order : StandInOrder (s ∷ ss)) (none : AllByRecursion (λ (t : Sub). depth t.output ≡ 0) (s ∷ ss)) where
  -- what follows in a path isn't the first sub-topology of all
  follows-later : (t : Sub) (path : List Sub) → AllByRecursion (Contains (s ∷ ss)) (t ∷ path) → AreInRow (t ∷ path) → AllByRecursion (Contains ss) path
  follows-later t [] inside row = tt
  follows-later t (next ∷ path) inside row = (by (member-cases next s ss inside.1.0), follows-later next path inside.1 row.1)
    where
      by : (s ≡ next) ⊎ Contains ss next → Contains ss next
      by (inl same) =
          absurd (holds-of (λ (x : Sub). Contains (topics_read s) x.output → ⊥) (s ∷ ss) t order.0 inside.0
          (subst (λ (x : Sub). Contains (topics_read x) t.output) (sym same) row.0))
      by (inr there) = there

  depth-rises : (topic : ℕ) → depth topic ≤ with_depth depth s topic
  depth-rises topic = by (topic == s.output) refl
    where
      by : (b : Bool) → (topic == s.output) ≡ b → depth topic ≤ (if b then 1 + read_depth depth s else depth topic)
      by true is = let nothing : depth topic ≡ 0 = ap depth ((unsigned_Decides topic s.output).0 is) ∙ none.0 in omega (arith, nothing)
      by false is = omega arith

  none-later : (ts : List Sub) → AllByRecursion (λ (t : Sub). t.output ≡ s.output → ⊥) ts → AllByRecursion (λ (t : Sub). depth t.output ≡ 0) ts →
      AllByRecursion (λ (t : Sub). with_depth depth s t.output ≡ 0) ts
  none-later [] apart nothing = tt
  none-later (t ∷ ts) apart nothing = (with-other depth s t.output apart.0 ∙ nothing.0, none-later ts apart.1 nothing.1)

  bounded-first : AreBounded ss (with_depth depth s) → (path : List Sub) → AllByRecursion (Contains ss) path → AreInRow (s ∷ path) → IsBounded (s ∷ ss) depth s path
  unfolding depth_after
  bounded-first rest [] inside row =
      let deep : depth_after (with_depth depth s) ss s.output ≡ 1 + read_depth depth s = depth-kept (with_depth depth s) ss s.output order.1 ∙ with-own depth s s.output refl in
      let long : read_depth depth s + 1 ≤ depth_after (with_depth depth s) ss s.output = omega (arith, deep) in
      (s, member-first s ss, long)
  bounded-first rest (next ∷ path) inside row =
      let found = rest next path inside row.1 in
      let deep : 1 + read_depth depth s ≤ read_depth (with_depth depth s) next =
      subst (λ n. n ≤ read_depth (with_depth depth s) next) (with-own depth s s.output refl) (reads-deep (with_depth depth s) next s.output row.0) in
      let low : read_depth (with_depth depth s) next + length (next ∷ path) ≤ depth_after (with_depth depth s) ss found.0.output = found.2 in
      let long : read_depth depth s + length (s ∷ next ∷ path) ≤ depth_after (with_depth depth s) ss found.0.output = omega (arith, deep, low) in
      (found.0, member-later found.0 s ss found.1, long)

  bounded-later : AreBounded ss (with_depth depth s) → (t : Sub) (path : List Sub) → AllByRecursion (Contains ss) (t ∷ path) → AreInRow (t ∷ path) → IsBounded (s ∷ ss) depth t path
  unfolding depth_after
  bounded-later rest t path inside row =
      let found = rest t path inside row in
      let deep : read_depth depth t ≤ read_depth (with_depth depth s) t =
      greatest-rises (λ (input : SubInput). depth input.topic) (λ (input : SubInput). with_depth depth s input.topic) t.inputs (λ input. depth-rises input.topic) in
      let low : read_depth (with_depth depth s) t + length (t ∷ path) ≤ depth_after (with_depth depth s) ss found.0.output = found.2 in
      let long : read_depth depth t + length (t ∷ path) ≤ depth_after (with_depth depth s) ss found.0.output = omega (arith, deep, low) in
      (found.0, member-later found.0 s ss found.1, long)

  bounded-more : AreBounded ss (with_depth depth s) → AreBounded (s ∷ ss) depth
  bounded-more rest t path inside row = by (member-cases t s ss inside.0)
    where
      by : (s ≡ t) ⊎ Contains ss t → IsBounded (s ∷ ss) depth t path
      by (inl same) =
          subst (λ (x : Sub). IsBounded (s ∷ ss) depth x path) same
          (bounded-first rest path (follows-later t path inside row) (subst (λ (x : Sub). AreInRow (x ∷ path)) (sym same) row))
      by (inr there) = bounded-later rest t path (there, follows-later t path inside row) row

all-bounded : (ss : List Sub) (depth : ℕ → ℕ) → StandInOrder ss → AllByRecursion (λ (t : Sub). depth t.output ≡ 0) ss → AreBounded ss depth
all-bounded [] depth order none = λ t path inside row. absurd (no-member t inside.0)
all-bounded (s ∷ ss) depth order none =
    bounded-more s ss depth order none (all-bounded ss (with_depth depth s) order.2 (none-later s ss depth order none ss order.1 none.1))

-- ---- some path is as long

-- the greatest of some numbers, with one put first
first-own : {A B : Type 0} (n d before most own : ℕ) → n ≡ own → B → (most ≤ before) ⊎ (A × (most ≤ own)) → (max n most ≤ max d before) ⊎ (B × (max n most ≤ own))
first-own {A} {B} n d before most own is reads (inl low) = by (cases_lt before own)
  where
    by : (before < own) ⊎ (own ≤ before) → (max n most ≤ max d before) ⊎ (B × (max n most ≤ own))
    by (inl less) = inr (reads, omega (arith, is, low, less))
    by (inr more) = inl (omega (arith, is, low, more))
first-own n d before most own is reads (inr found) = let low : most ≤ own = found.1 in inr (reads, omega (arith, is, low))

first-other : {A B : Type 0} (n d before most own : ℕ) → n ≡ d → (A → B) → (most ≤ before) ⊎ (A × (most ≤ own)) → (max n most ≤ max d before) ⊎ (B × (max n most ≤ own))
first-other n d before most own is reads (inl low) = inl (omega (arith, is, low))
first-other {A} {B} n d before most own is reads (inr found) = by (cases_lt own d)
  where
    low : most ≤ own
    low = found.1

    by : (own < d) ⊎ (d ≤ own) → (max n most ≤ max d before) ⊎ (B × (max n most ≤ own))
    by (inl less) = inl (omega (arith, is, low, less))
    by (inr more) = inr (reads found.0, omega (arith, is, low, more))

-- what inputs read is no deeper than before, or they read the topic of the sub-topology that was put first, and nothing
-- deeper
read-cases : (depth : ℕ → ℕ) (s : Sub) (inputs : List SubInput) →
    (greatest (map (λ (input : SubInput). with_depth depth s input.topic) inputs) ≤ greatest (map (λ (input : SubInput). depth input.topic) inputs))
    ⊎ (Contains (map (λ (input : SubInput). input.topic) inputs) s.output × (greatest (map (λ (input : SubInput). with_depth depth s input.topic) inputs) ≤ 1 + read_depth depth s))
read-cases depth s [] = inl (omega arith)
read-cases depth s (input ∷ inputs) = by (input.topic == s.output) refl (read-cases depth s inputs)
  where
    before : ℕ
    before = greatest (map (λ (i : SubInput). depth i.topic) inputs)

    now : ℕ
    now = greatest (map (λ (i : SubInput). with_depth depth s i.topic) inputs)

    own : ℕ
    own = 1 + read_depth depth s

    by : (b : Bool) → (input.topic == s.output) ≡ b → (now ≤ before) ⊎ (Contains (map (λ (i : SubInput). i.topic) inputs) s.output × (now ≤ own)) →
        (max (with_depth depth s input.topic) now ≤ max (depth input.topic) before)
        ⊎ (Contains (map (λ (i : SubInput). i.topic) (input ∷ inputs)) s.output × (max (with_depth depth s input.topic) now ≤ own))
    by true is rest =
        let same : input.topic ≡ s.output = (unsigned_Decides input.topic s.output).0 is in
        first-own (with_depth depth s input.topic) (depth input.topic) before now own (with-own depth s input.topic same) (0, omega arith, same) rest
    by false is rest =
        first-other (with_depth depth s input.topic) (depth input.topic) before now own
        (with-other depth s input.topic (λ same. true≢false (sym ((unsigned_Decides input.topic s.output).1 same) ∙ is)))
        (member-later s.output input.topic (map (λ (i : SubInput). i.topic) inputs)) rest

-- a path that is at least as long as a depth
abbrev HasPath : List Sub → (ℕ → ℕ) → ℕ → Type 0
HasPath ss depth n = (s : Sub) × (path : List Sub) × AllByRecursion (Contains ss) (s ∷ path) × AreInRow (s ∷ path) × (n ≤ read_depth depth s + length (s ∷ path))

module _ (s : Sub) (ss : List Sub) (depth : ℕ → ℕ) (n : ℕ) where
  path-more : HasPath ss (with_depth depth s) n → HasPath (s ∷ ss) depth n
  path-more found = by (read-cases depth s found.0.inputs)
    where
      t : Sub
      t = found.0

      path : List Sub
      path = found.1

      long : n ≤ read_depth (with_depth depth s) t + length (t ∷ path)
      long = found.4

      inside : AllByRecursion (Contains (s ∷ ss)) (t ∷ path)
      inside = all-later s ss (t ∷ path) found.2

      by : (read_depth (with_depth depth s) t ≤ read_depth depth t) ⊎ (Contains (topics_read t) s.output × (read_depth (with_depth depth s) t ≤ 1 + read_depth depth s)) → HasPath (s ∷ ss) depth n
      by (inl low) = let enough : n ≤ read_depth depth t + length (t ∷ path) = omega (arith, low, long) in (t, path, inside, found.3, enough)
      by (inr reads) =
          let low : read_depth (with_depth depth s) t ≤ 1 + read_depth depth s = reads.1 in
          let enough : n ≤ read_depth depth s + length (s ∷ t ∷ path) = omega (arith, low, long) in
          (s, t ∷ path, (member-first s ss, inside), (reads.0, found.3), enough)

  path-first : (topic : ℕ) → n ≤ with_depth depth s topic → (n ≤ depth topic) ⊎ HasPath (s ∷ ss) depth n
  path-first topic low = by (topic == s.output) low
    where
      by : (b : Bool) → n ≤ (if b then 1 + read_depth depth s else depth topic) → (n ≤ depth topic) ⊎ HasPath (s ∷ ss) depth n
      by true most = let enough : n ≤ read_depth depth s + 1 = omega (arith, most) in inr (s, [], (member-first s ss, tt), tt, enough)
      by false most = inl most

depth-reached : (ss : List Sub) (depth : ℕ → ℕ) (topic : ℕ) → (depth_after depth ss topic ≤ depth topic) ⊎ HasPath ss depth (depth_after depth ss topic)
unfolding depth_after
depth-reached [] depth topic = inl (omega arith)
depth-reached (s ∷ ss) depth topic = by (depth-reached ss (with_depth depth s) topic)
  where
    n : ℕ
    n = depth_after (with_depth depth s) ss topic

    by : (n ≤ with_depth depth s topic) ⊎ HasPath ss (with_depth depth s) n → (n ≤ depth topic) ⊎ HasPath (s ∷ ss) depth n
    by (inl low) = path-first s ss depth n topic low
    by (inr found) = inr (path-more s ss depth n found)

-- ---- the chain

abbrev none_before : ℕ → ℕ
none_before topic = 0

nothing-written : (ss : List Sub) → AllByRecursion (λ (t : Sub). none_before t.output ≡ 0) ss
nothing-written [] = tt
nothing-written (s ∷ ss) = (refl, nothing-written ss)

module _ (ss : List Sub) (order : StandInOrder ss) where
  no-longer : (path : List Sub) → IsPath ss path → length path ≤ chain_of ss
  no-longer [] is = omega arith
  no-longer (s ∷ path) is =
      let found = all-bounded ss none_before order (nothing-written ss) s path (recursion_from_All (Contains ss) (s ∷ path) is.0) is.1 in
      let low : read_depth none_before s + length (s ∷ path) ≤ depth_after none_before ss found.0.output = found.2 in
      let most : depth_after none_before ss found.0.output ≤ chain_of ss = greatest-of (λ (t : Sub). depth_after none_before ss t.output) ss found.0 found.1 in
      omega (arith, low, most)

  none-as-long : chain_of ss ≤ 0 → (path : List Sub) × IsPath ss path × (length path ≡ chain_of ss)
  none-as-long low = let same : 0 ≡ chain_of ss = omega (arith, low) in ([], (All-nil (Contains ss), tt), same)

  as-long : (n : ℕ) → chain_of ss ≤ n → (n ≤ 0) ⊎ HasPath ss none_before n → (path : List Sub) × IsPath ss path × (length path ≡ chain_of ss)
  as-long n most (inl low) = none-as-long (omega (arith, low, most))
  as-long n most (inr found) =
      let path : List Sub = found.0 ∷ found.1 in
      let is : IsPath ss path = (All-from_recursion (Contains ss) path found.2, found.3) in
      let enough : n ≤ read_depth none_before found.0 + length path = found.4 in
      let nothing : read_depth none_before found.0 ≤ 0 = greatest-within (λ (input : SubInput). 0) 0 found.0.inputs (λ input. omega arith) in
      let within : length path ≤ chain_of ss = no-longer path is in
      let same : length path ≡ chain_of ss = omega (arith, most, enough, nothing, within) in
      (path, is, same)

  some-as-long : (path : List Sub) × IsPath ss path × (length path ≡ chain_of ss)
  some-as-long = by (greatest-is (λ (t : Sub). depth_after none_before ss t.output) ss)
    where
      by : (chain_of ss ≤ 0) ⊎ ((s : Sub) × (chain_of ss ≤ depth_after none_before ss s.output)) → (path : List Sub) × IsPath ss path × (length path ≡ chain_of ss)
      by (inl low) = none-as-long low
      by (inr found) = as-long (depth_after none_before ss found.0.output) found.1 (depth-reached ss none_before found.0.output)

  -- the chain is the length of a longest path
  pub chain-longest : IsLongest ss (chain_of ss)
  chain-longest = (some-as-long, no-longer)
