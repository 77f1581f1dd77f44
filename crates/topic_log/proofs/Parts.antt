-- What was sent is put to one partition after another, the last one first.
use Rattle.std.proofs.Common.{◌≡◌, ◌∙◌, ap, sym, refl, subst, ℕ, List, [], ◌∷◌, ◌++◌, ◌+◌, ◌<◌, ◌≤◌, length, get_or, set, take, arith, Some, inl, inr, ◌⊎◌}
use Rattle.std.specs.Prelude.{slice_get}
use Rattle.std.specs.Global.{Vec}
use Rattle.std.proofs.lemmas.List.{get_or-set_other, length-take-le, length-set, length_push, same_from_push, take_more}
use Rattle.std.proofs.lemmas.Option.{get_or_from_slice_get, same_Some, slice_get_read}
use Rattle.ksql_place.specs.declared.change.Change.{Change}
use Rattle.topic_log.proofs.OneTopic.{slice_get-set_else, slice_get-set_same}
use Rattle.topic_log.specs.Commits.{EachCommits, PartCommits}
use Rattle.topic_log.specs.declared.shelves.PartShelf.{PartShelf}

-- the partitions where only the first n of what was sent are left
pub record IsCommitting (closed writer n : ℕ) (sent left : List (Vec Change)) (old now : List PartShelf) : Type 0 where
  pub count : length sent ≡ length old
  pub same : length now ≡ length old
  pub upto : n ≤ length sent
  pub left_is : left ≡ take n sent
  pub before : (q : ℕ) (d : PartShelf) → q < n → get_or now q d ≡ get_or old q d
  pub behind : (q : ℕ) (p : PartShelf) (xs : Vec Change) → n ≤ q → slice_get old q ≡ Some p → slice_get sent q ≡ Some xs →
      (next : PartShelf) × (slice_get now q ≡ Some next) × PartCommits closed writer xs.items p next

-- what is taken off the end is what was sent to the next partition
pub taken_is : (closed writer n m : ℕ) (sent left rest : List (Vec Change)) (xs : Vec Change) (old now : List PartShelf) → IsCommitting closed writer n sent left old now →
    left ≡ rest ++ xs ∷ [] → length rest ≡ m → (n ≡ m + 1) × (rest ≡ take m sent) × (slice_get sent m ≡ Some xs) × (m < length sent)
taken_is closed writer n m sent left rest xs old now h taken len =
    let long : length left ≡ n = ap length h.left_is ∙ length-take-le n sent h.upto in
    let more : length left ≡ length rest + 1 = ap length taken ∙ length_push rest xs in
    let next : n ≡ m + 1 = omega (arith, long, more, len) in
    let within : m < length sent = omega (arith, next, h.upto) in
    let both : rest ++ xs ∷ [] ≡ take m sent ++ get_or sent m xs ∷ [] =
    sym taken ∙ h.left_is ∙ ap (λ (k : ℕ). take k sent) next ∙ take_more sent m xs within in
    let parts : (rest ≡ take m sent) × (xs ≡ get_or sent m xs) = same_from_push rest (take m sent) xs (get_or sent m xs) both in
    (next, parts.0, slice_get_read sent (length sent) m xs refl within parts.1, within)

before_or_behind : (q m : ℕ) → m ≤ q → (q ≡ m) ⊎ (m + 1 ≤ q)
before_or_behind q m low = grind arith

pub committing_more : (closed writer n m : ℕ) (sent left rest : List (Vec Change)) (xs : Vec Change) (p next : PartShelf) (old now : List PartShelf) → IsCommitting closed writer n sent left old now →
    left ≡ rest ++ xs ∷ [] → length rest ≡ m → p ≡ get_or now m p → PartCommits closed writer xs.items p next → IsCommitting closed writer m sent rest old (set now m next)
committing_more closed writer n m sent left rest xs p next old now h taken len at commits =
    let is = taken_is closed writer n m sent left rest xs old now h taken len in
    let within : m < length now = omega (arith, is.3, h.count, h.same) in
    record {
      count = h.count;
      same = length-set now m next ∙ h.same;
      upto = omega (arith, is.3);
      left_is = is.1;
      before = λ q d low. get_or-set_other now m q next d (λ e. omega (arith, low, e)) ∙ h.before q d (omega (arith, low, is.0));
      behind = λ q p₁ xs₁ low old-at sent-at. by q p₁ xs₁ within is.0 is.2 (before_or_behind q m low) old-at sent-at;
    }
  where
    by : (q : ℕ) (p₁ : PartShelf) (xs₁ : Vec Change) → m < length now → n ≡ m + 1 → slice_get sent m ≡ Some xs → (q ≡ m) ⊎ (m + 1 ≤ q) → slice_get old q ≡ Some p₁ → slice_get sent q ≡ Some xs₁ →
        (other : PartShelf) × (slice_get (set now m next) q ≡ Some other) × PartCommits closed writer xs₁.items p₁ other
    by q p₁ xs₁ within n-is here (inr high) old-at sent-at =
        let was = h.behind q p₁ xs₁ (omega (arith, n-is, high)) old-at sent-at in
        (was.0, slice_get-set_else now m q next (λ e. omega (arith, high, e)) ∙ was.1, was.2)
    by q p₁ xs₁ within n-is here (inl same) old-at sent-at =
        let now-at : slice_get now m ≡ Some p = slice_get_read now (length now) m p refl within at in
        let part : p ≡ p₁ = at ∙ h.before m p (omega (arith, n-is)) ∙ get_or_from_slice_get old m p₁ p (subst (λ (k : ℕ). slice_get old k ≡ Some p₁) same old-at) in
        let changes : xs ≡ xs₁ = same_Some xs xs₁ (sym here ∙ subst (λ (k : ℕ). slice_get sent k ≡ Some xs₁) same sent-at) in (
          next,
          subst (λ (k : ℕ). slice_get (set now m next) k ≡ Some next) (sym same) (slice_get-set_same now m p next now-at),
          subst (λ (w : Vec Change). PartCommits closed writer w.items p₁ next) changes (subst (λ (w : PartShelf). PartCommits closed writer xs.items w next) part commits),
        )

pub committing_all : (closed writer : ℕ) (sent left : List (Vec Change)) (old now : List PartShelf) → IsCommitting closed writer 0 sent left old now → EachCommits closed writer sent old now
committing_all closed writer sent left old now h q p xs at there = h.behind q p xs (omega arith) at there
