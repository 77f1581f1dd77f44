-- How many changes go to a partition, and how they are put there.
use Rattle.std.proofs.Common.{◌≡◌, ◌≢◌, ◌∙◌, ℕ, suc, ◌+◌, ◌<◌, ◌≤◌, true, false, cond, not, List, [], ◌∷◌, ◌++◌, length, get_or, set, take, sym, ap, refl, subst, arith}
use Rattle.std.specs.Prelude.{Bool, Option, Some, None, IfSome, filter, position, vec_capacity, ◌==◌}
use Rattle.std.specs.Global.{Vec}
use Rattle.std.proofs.lemmas.Bool.{cond-true, cond-false, eq-eqb, eqb-true, ne_eqb}
use Rattle.std.proofs.lemmas.List.{append_assoc, length-append, length-take-le}
use Rattle.std.proofs.lemmas.List.Filters.{length-filter_both}
use Rattle.std.proofs.lemmas.List.Quantifiers.{position-Some}
use Rattle.ksql_types.specs.Lane.{lane}
use Rattle.ksql_place.specs.Routing.{is_to}
use Rattle.ksql_place.specs.declared.change.Change.{Change}
use Rattle.topic_log.specs.Taking.{AreRooms, IsEmptyRoom, count_to, room_beside}
use Rattle.topic_log.specs.declared.prepared.Rooms.{Rooms}
use Rattle.topic_log.specs.Views.{EachAt}
use Rattle.topic_log.proofs.EachPlace.{EachAt-weaker, EachAt-written}

pub filter-le : {A : Type 0} (p : A → Bool) (xs : List A) → length (filter p xs) ≤ length xs
filter-le p xs = omega (arith, length-filter_both p (λ x. not (p x)) (λ x. refl) xs)

-- among the first changes, no more go to a partition than there are
pub count-front : (n : ℕ) (xs : List Change) (i q : ℕ) → i < length xs → count_to n (take i xs) q ≤ i
count-front n xs i q inside =
    let few : count_to n (take i xs) q ≤ length (take i xs) = filter-le (is_to n q) (take i xs) in
    let len : length (take i xs) ≡ i = length-take-le i xs (omega arith) in
    omega arith

-- lists by the counts of changes are lists for these changes
pub rooms-counted : (n : ℕ) (xs : List Change) (counts : List ℕ) (rooms : Rooms) → length counts ≡ n → EachAt (λ q count. count ≡ count_to n xs q) counts → length rooms.lists.items ≡ length counts →
    rooms.whole ≡ position (λ count. count == length xs) counts → EachAt (λ q list. IsEmptyRoom (room_beside rooms.whole (get_or counts q 0)) list) rooms.lists.items → AreRooms n xs rooms
rooms-counted n xs counts rooms len counted same whole each = record {
  len = same ∙ len;
  whole = by rooms.whole whole;
  lists = EachAt-weaker (λ q list. IsEmptyRoom (room_beside rooms.whole (get_or counts q 0)) list) (λ q list. IsEmptyRoom (room_beside rooms.whole (count_to n xs q)) list) rooms.lists.items
      (λ q list below empty. subst (λ (count : ℕ). IsEmptyRoom (room_beside rooms.whole count) list) (counted q 0 (omega (arith, below, same))) empty) each;
}
  where
    by : (o : Option ℕ) → o ≡ position (λ count. count == length xs) counts → IfSome o (λ part. (part < n) × (count_to n xs part ≡ length xs))
    by None is = tt
    by (Some part) is =
        let at = position-Some (λ (count : ℕ). count == length xs) counts part 0 (sym is) in
        (omega (arith, at.0, len), sym (counted part 0 at.0) ∙ eqb-true (get_or counts part 0) (length xs) at.1)

-- the partition that a change goes to
abbrev pub goes_to : ℕ → Change → ℕ
goes_to n x = lane x.key n x.place.stamp.part

-- ---- putting

-- with the remaining changes, a list gets all that go to its partition among n, and has room for them
pub record WillHave (n : ℕ) (all rest : List Change) (part : ℕ) (xs : Vec Change) : Type 0 where
  pub items : xs.items ++ filter (is_to n part) rest ≡ filter (is_to n part) all
  pub room : length xs.items + count_to n rest part ≤ vec_capacity xs

-- a change is the first of the remaining ones for its partition
first-there : (n : ℕ) (x : Change) (rest : List Change) → filter (is_to n (goes_to n x)) (x ∷ rest) ≡ x ∷ filter (is_to n (goes_to n x)) rest
first-there n x rest = cond-true (is_to n (goes_to n x) x) (x ∷ filter (is_to n (goes_to n x)) rest) (filter (is_to n (goes_to n x)) rest) (eq-eqb (goes_to n x) (goes_to n x) refl)

not-there : (n : ℕ) (x : Change) (rest : List Change) (q : ℕ) → q ≢ goes_to n x → filter (is_to n q) (x ∷ rest) ≡ filter (is_to n q) rest
not-there n x rest q apart = cond-false (is_to n q x) (x ∷ filter (is_to n q) rest) (filter (is_to n q) rest) (ne_eqb (goes_to n x) q (λ e. apart (sym e)))

-- one change is put
pub put-next : (n : ℕ) (all : List Change) (x : Change) (rest : List Change) (rooms : List (Vec Change)) (part : ℕ) (room put : Vec Change) → part ≡ goes_to n x → part < length rooms →
    room ≡ get_or rooms part room → put.items ≡ room.items ++ x ∷ [] → vec_capacity put ≡ vec_capacity room → EachAt (WillHave n all (x ∷ rest)) rooms →
    EachAt (WillHave n all rest) (set rooms part put)
put-next n all x rest rooms part room put lane-is within at items cap each =
    let have : WillHave n all (x ∷ rest) part room = subst (WillHave n all (x ∷ rest) part) (sym at) (each part room within) in
    let first : filter (is_to n part) (x ∷ rest) ≡ x ∷ filter (is_to n part) rest =
    subst (λ (q : ℕ). filter (is_to n q) (x ∷ rest) ≡ x ∷ filter (is_to n q) rest) (sym lane-is) (first-there n x rest) in
    EachAt-written (WillHave n all (x ∷ rest)) (WillHave n all rest) rooms part put within
    (λ q other apart was.
    let same : filter (is_to n q) (x ∷ rest) ≡ filter (is_to n q) rest = not-there n x rest q (λ e. apart (e ∙ sym lane-is)) in
    record {
      items = ap (λ (xs : List Change). other.items ++ xs) (sym same) ∙ was.items;
      room = subst (λ (xs : List Change). length other.items + length xs ≤ vec_capacity other) same was.room;
    })
    (record {
      items = ap (λ (xs : List Change). xs ++ filter (is_to n part) rest) items ∙ append_assoc room.items (x ∷ []) (filter (is_to n part) rest)
          ∙ ap (λ (xs : List Change). room.items ++ xs) (sym first) ∙ have.items;
      room =
          let longer : length put.items ≡ length room.items + 1 = ap length items ∙ length-append room.items (x ∷ []) ∙ omega arith in
          let count : count_to n (x ∷ rest) part ≡ 1 + count_to n rest part = ap length first ∙ omega arith in
          omega (arith, have.room, cap);
    })
    each

-- ---- one partition gets the whole

module _ {A : Type 0} (p : A → Bool) where
  -- if as many pass as there are, the first one passes
  whole-cons : (x : A) (xs : List A) → length (filter p (x ∷ xs)) ≡ length (x ∷ xs) → (p x ≡ true) × (length (filter p xs) ≡ length xs)
  whole-cons x xs = by (p x) refl
    where
      by : (b : Bool) → p x ≡ b → length (cond b (x ∷ filter p xs) (filter p xs)) ≡ suc (length xs) → (p x ≡ true) × (length (filter p xs) ≡ length xs)
      by true is e = (is, omega arith)
      by false is e = absurd (omega (arith, e, filter-le p xs))

  filter-whole : (xs : List A) → length (filter p xs) ≡ length xs → filter p xs ≡ xs
  filter-whole [] e = refl
  filter-whole (x ∷ xs) e = let first = whole-cons x xs e in rw first.0 (ap (λ (l : List A). x ∷ l) (filter-whole xs first.1))

  filter-else : (q : A → Bool) → ((x : A) → p x ≡ true → q x ≡ false) → (xs : List A) → length (filter p xs) ≡ length xs → filter q xs ≡ []
  filter-else q apart [] e = refl
  filter-else q apart (x ∷ xs) e = let first = whole-cons x xs e in rw (apart x first.0) (filter-else q apart xs first.1)

-- all changes are put
pub put-whole : (n : ℕ) (all : Vec Change) (lists : List (Vec Change)) (part : ℕ) → part < length lists → count_to n all.items part ≡ length all.items → EachAt (λ q list. list.items ≡ []) lists →
    EachAt (λ q xs. xs.items ≡ filter (is_to n q) all.items) (set lists part all)
put-whole n all lists part within whole empty =
    EachAt-written (λ q list. list.items ≡ []) (λ q xs. xs.items ≡ filter (is_to n q) all.items) lists part all within
    (λ q list apart none. none ∙ sym (filter-else (is_to n part) (is_to n q) (λ x here. ne_eqb (goes_to n x) q (λ e. apart (sym e ∙ eqb-true (goes_to n x) part here))) all.items whole))
    (sym (filter-whole (is_to n part) all.items whole))
    empty
