-- Steps that give for an entry one at its place or none, and look at its own side alone: they may be taken on each
-- side, before the sides are merged.
use Rattle.std.proofs.Common.{◌≡◌, ◌∙◌, ap, ap₂, refl, sym, subst, ℕ, List, [], ◌∷◌, ◌++◌, Bool, true, false, cond, append_assoc}
use Rattle.std.proofs.lemmas.Bool.{false≢true}
use Rattle.std.proofs.lemmas.Cmp.{nat_cmp_total, tied_itself, upto}
use Rattle.std.proofs.lemmas.List.{append-nil}
use Rattle.std.proofs.lemmas.List.Elements.{filter-append}
use Rattle.std.specs.Cmp.Lexicographic.{slice_cmp}
use Rattle.std.specs.List.{AllByRecursion}
use Rattle.std.specs.Ordering.{is_gt, nat_cmp, ordering_then}
use Rattle.std.specs.Prelude.{◌==◌, if◌then◌else◌, IfSome, Option, Some, None}
use Rattle.std.specs.Option.{option_to_list}
use Rattle.std.specs.declared.cmp.Ordering.{Ordering}
use Rattle.ksql_place.specs.Ascending.{ascending, placed}
use Rattle.ksql_place.specs.Order.{between_cmp, stamp_cmp}
use Rattle.ksql_place.specs.declared.change.Change.{Change}
use Rattle.ksql_place.specs.declared.stamp.Place.{Place}
use Rattle.ksql_place.proofs.Ascending.{Ascends, Ascends-ascending, NoneBefore, NoneBefore-lower, ascending-again, ascending-kept, merge-left, merge-right}
use Rattle.ksql_nodes.specs.Entries.{Entry, Step, from_side, of_side, results}
use Rattle.ksql_nodes.proofs.Lists.{All-append}
use Rattle.ksql_nodes.proofs.Results.{results-append}
use Rattle.query_meaning.specs.Queries.{entry_cmp}
use Rattle.query_meaning.proofs.QuerySteps.{entries_total}
use Rattle.meaning_laws.proofs.Lists.{All-ascending, All-map, All-of, All-weaker}
use Rattle.meaning_laws.proofs.Forks.{IsBefore, Rise, before-less}
use Rattle.lane_laws.specs.Lanes.{merged}

-- what takes the place of an entry after earlier ones, if anything does
abbrev pub Remade : Type 0
Remade = List Entry → Entry → Option Entry

abbrev pub made : Remade → List Entry → Entry → List Entry
made step before e = option_to_list (step before e)

-- an entry has the side and the place of another
abbrev pub IsAt : Entry → Entry → Type 0
IsAt e f = (f.side ≡ e.side) × (f.change.place ≡ e.change.place)

pub record IsSidewise (step : Remade) : Type 0 where
  pub stays : (before : List Entry) (e : Entry) → IfSome (step before e) (IsAt e)
  pub own : (these those : List Entry) (e : Entry) → of_side e.side these ≡ of_side e.side those → step these e ≡ step those e

-- a step gives for mapped entries what it gives for the entries, if it does so for each of them
pub results-on-made : (Same : List Entry → List Entry → Type 0) (g : Step) (step : Remade) →
    ((seen before : List Entry) (e : Entry) → Same seen before → Same (seen ++ made step before e) (before ++ e ∷ [])) →
    ((seen before : List Entry) (e : Entry) → Same seen before → results g seen (made step before e) ≡ g before e) →
    (seen before es : List Entry) → Same seen before → results g seen (results (made step) before es) ≡ results g before es
results-on-made Same g step keeps gives seen before [] same = refl
results-on-made Same g step keeps gives seen before (e ∷ es) same =
    results-append g seen (made step before e) (results (made step) (before ++ e ∷ []) es)
    ∙ ap₂ (λ now rest. now ++ rest) (gives seen before e same)
    (results-on-made Same g step keeps gives (seen ++ made step before e) (before ++ e ∷ []) es (keeps seen before e same))

-- ---- lists that ascend

module _ (a b : ℕ) where
  abbrev cmp : Entry → Entry → Ordering
  cmp = entry_cmp a b

  first-placed : (e : Entry) (es : List Entry) → NoneBefore cmp e es → ascending cmp (e ∷ es) ≡ e ∷ ascending cmp es
  first-placed e es none =
      sym (ascending-again (entries_total a b) (e ∷ []) es)
      ∙ ascending-kept (entries_total a b) (e ∷ ascending cmp es) (All-ascending (λ x. is_gt (cmp e x) ≡ false) cmp es none, Ascends-ascending (entries_total a b) es)

  -- a member that is before those in front of it goes first
  least-first : (e : Entry) (us vs : List Entry) → AllByRecursion (λ u. is_gt (cmp u e) ≡ true) us → NoneBefore cmp e vs →
      ascending cmp (us ++ e ∷ vs) ≡ e ∷ ascending cmp (us ++ vs)
  least-first e [] vs after none = first-placed e vs none
  least-first e (u ∷ us) vs after none =
      ap (placed cmp u) (least-first e us vs after.1 none)
      ∙ ap (λ up. if up then e ∷ placed cmp u (ascending cmp (us ++ vs)) else u ∷ e ∷ ascending cmp (us ++ vs)) after.0

  all-after : (x y : Entry) (us : List Entry) → is_gt (cmp x y) ≡ true → NoneBefore cmp x us → AllByRecursion (λ u. is_gt (cmp u y) ≡ true) us
  all-after x y us gt none = All-weaker (λ u. is_gt (cmp x u) ≡ false) (λ u. is_gt (cmp u y) ≡ true) (λ u low. by u low (is_gt (cmp u y)) refl) us none
    where
      by : (u : Entry) → is_gt (cmp x u) ≡ false → (after : Bool) → is_gt (cmp u y) ≡ after → is_gt (cmp u y) ≡ true
      by u low true is = is
      by u low false is = absurd (false≢true (sym (upto (entries_total a b) x u y low is) ∙ gt))

  at-first : (e f x : Entry) → IsAt e f → cmp e x ≡ cmp f x
  at-first e f x at = ap₂ (λ (s : ℕ) (p : Place). between_cmp p (if s == 0 then a else b) x.change.place (if x.side == 0 then a else b)) (sym at.0) (sym at.1)

  at-second : (e f x : Entry) → IsAt e f → cmp x e ≡ cmp x f
  at-second e f x at = ap₂ (λ (s : ℕ) (p : Place). between_cmp x.change.place (if x.side == 0 then a else b) p (if s == 0 then a else b)) (sym at.0) (sym at.1)

  -- the entries of one side ascend where its changes rise
  pub side-ascends : (side : ℕ) (changes : List Change) → Rise changes → Ascends cmp (from_side side changes)
  side-ascends side [] rise = tt
  side-ascends side (c ∷ cs) rise = (
    All-map (λ later. is_gt (cmp (entry c) later) ≡ false) entry cs
        (All-weaker (λ (d : Change). IsBefore c.place d.place) (λ d. is_gt (cmp (entry c) (entry d)) ≡ false) (λ d before. low c.place d.place before) cs rise.0),
    side-ascends side cs rise.1,
  )
    where
      entry : Change → Entry
      entry c = record { side = side; change = c }

      number : ℕ
      number = if side == 0 then a else b

      low : (p q : Place) → IsBefore p q → is_gt (between_cmp p number q number) ≡ false
      low p q before =
          ap is_gt
          (ap (λ o. ordering_then (stamp_cmp p.stamp q.stamp) (ordering_then o (slice_cmp nat_cmp p.path q.path))) (tied_itself nat_cmp_total number)
          ∙ before-less p q before)

  -- ---- steps on mapped entries

  module _ (step : Remade) (sidewise : IsSidewise step) where
    -- a property of entries holds of their images
    all-made : (P : Entry → Type 0) → ((e f : Entry) → IsAt e f → P e → P f) → (before es : List Entry) → AllByRecursion P es → AllByRecursion P (results (made step) before es)
    all-made P moves before [] h = tt
    all-made P moves before (e ∷ es) h = by (step before e) (sidewise.stays before e) (all-made P moves (before ++ e ∷ []) es h.1)
      where
        by : (o : Option Entry) → IfSome o (IsAt e) → AllByRecursion P (results (made step) (before ++ e ∷ []) es) →
            AllByRecursion P (option_to_list o ++ results (made step) (before ++ e ∷ []) es)
        by None at rest = rest
        by (Some f) at rest = (moves e f at h.0, rest)

    none-made : (x : Entry) (before es : List Entry) → NoneBefore cmp x es → NoneBefore cmp x (results (made step) before es)
    none-made x before es none = all-made (λ e. is_gt (cmp x e) ≡ false) (λ e f at low. ap is_gt (sym (at-second e f x at)) ∙ low) before es none

    none-at : (e f : Entry) (es : List Entry) → IsAt e f → NoneBefore cmp e es → NoneBefore cmp f es
    none-at e f es at none = All-weaker (λ x. is_gt (cmp e x) ≡ false) (λ x. is_gt (cmp f x) ≡ false) (λ x low. ap is_gt (sym (at-first e f x at)) ∙ low) es none

    ascends-made : (before es : List Entry) → Ascends cmp es → Ascends cmp (results (made step) before es)
    ascends-made before [] up = tt
    ascends-made before (e ∷ es) up = by (step before e) (sidewise.stays before e) (ascends-made (before ++ e ∷ []) es up.1)
      where
        rest : List Entry
        rest = results (made step) (before ++ e ∷ []) es

        by : (o : Option Entry) → IfSome o (IsAt e) → Ascends cmp rest → Ascends cmp (option_to_list o ++ rest)
        by None at later = later
        by (Some f) at later = (none-at e f rest at (none-made e (before ++ e ∷ []) es up.0), later)

    kept-made : (before es : List Entry) → Ascends cmp es → results (made step) before (ascending cmp es) ≡ ascending cmp (results (made step) before es)
    kept-made before es up =
        ap (results (made step) before) (ascending-kept (entries_total a b) es up)
        ∙ sym (ascending-kept (entries_total a b) (results (made step) before es) (ascends-made before es up))

    made-first : (before : List Entry) (e : Entry) (us vs : List Entry) → AllByRecursion (λ u. is_gt (cmp u e) ≡ true) us → NoneBefore cmp e vs →
        ascending cmp (us ++ (made step before e ++ vs)) ≡ made step before e ++ ascending cmp (us ++ vs)
    made-first before e us vs after none = by (step before e) (sidewise.stays before e)
      where
        by : (o : Option Entry) → IfSome o (IsAt e) → ascending cmp (us ++ (option_to_list o ++ vs)) ≡ option_to_list o ++ ascending cmp (us ++ vs)
        by None at = refl
        by (Some f) at =
            least-first f us vs (All-weaker (λ u. is_gt (cmp u e) ≡ true) (λ u. is_gt (cmp u f) ≡ true) (λ u gt. ap is_gt (sym (at-second e f u at)) ∙ gt) us after)
            (none-at e f vs at none)

    -- entries of another side change nothing
    results-apart : (side : ℕ) (these those es : List Entry) → of_side side these ≡ of_side side those → AllByRecursion (λ e. e.side ≡ side) es →
        results (made step) these es ≡ results (made step) those es
    results-apart side these those [] same on = refl
    results-apart side these those (e ∷ es) same on =
        ap₂ (λ o rest. option_to_list o ++ rest) (sidewise.own these those e (subst (λ s. of_side s these ≡ of_side s those) (sym on.0) same))
        (results-apart side (these ++ e ∷ []) (those ++ e ∷ []) es
        (filter-append (λ x. x.side == side) these (e ∷ []) ∙ ap (λ xs. xs ++ of_side side (e ∷ [])) same ∙ sym (filter-append (λ x. x.side == side) those (e ∷ []))) on.1)

    apart-more : (side : ℕ) (before : List Entry) (e : Entry) (es : List Entry) → (e.side == side) ≡ false → AllByRecursion (λ x. x.side ≡ side) es →
        results (made step) (before ++ e ∷ []) es ≡ results (made step) before es
    apart-more side before e es apart on =
        results-apart side (before ++ e ∷ []) before es
        (filter-append (λ x. x.side == side) before (e ∷ []) ∙ ap (λ d. of_side side before ++ cond d (e ∷ []) []) apart ∙ append-nil (of_side side before)) on

    -- merging two mapped sides that ascend is mapping and then merging
    made-merged : (before xs ys : List Entry) → AllByRecursion (λ e. e.side ≡ 0) xs → AllByRecursion (λ e. e.side ≡ 1) ys → Ascends cmp xs → Ascends cmp ys →
        results (made step) before (ascending cmp (xs ++ ys)) ≡ ascending cmp (results (made step) before xs ++ results (made step) before ys)
    made-merged before [] ys left right xs-up ys-up = kept-made before ys ys-up
    made-merged before (x ∷ xs) [] left right xs-up ys-up =
        ap (λ es. results (made step) before (ascending cmp es)) (append-nil (x ∷ xs))
        ∙ kept-made before (x ∷ xs) xs-up
        ∙ sym (ap (ascending cmp) (append-nil (results (made step) before (x ∷ xs))))
    made-merged before (x ∷ xs) (y ∷ ys) left right xs-up ys-up =
        by (is_gt (cmp x y)) refl
        (made-merged (before ++ x ∷ []) xs (y ∷ ys) left.1 right xs-up.1 ys-up)
        (made-merged (before ++ y ∷ []) (x ∷ xs) ys left right.1 xs-up ys-up.1)
      where
        of : List Entry → List Entry → List Entry
        of seen es = results (made step) seen es

        by : (after : Bool) → is_gt (cmp x y) ≡ after →
            of (before ++ x ∷ []) (ascending cmp (xs ++ y ∷ ys)) ≡ ascending cmp (of (before ++ x ∷ []) xs ++ of (before ++ x ∷ []) (y ∷ ys)) →
            of (before ++ y ∷ []) (ascending cmp ((x ∷ xs) ++ ys)) ≡ ascending cmp (of (before ++ y ∷ []) (x ∷ xs) ++ of (before ++ y ∷ []) ys) →
            of before (ascending cmp ((x ∷ xs) ++ y ∷ ys)) ≡ ascending cmp (of before (x ∷ xs) ++ of before (y ∷ ys))
        by false low one other =
            let us : List Entry = of (before ++ x ∷ []) xs in
            let vs : List Entry = of before (y ∷ ys) in
            ap (of before) (merge-left (entries_total a b) x y xs ys low xs-up ys-up)
            ∙ ap (λ rest. made step before x ++ rest)
            (one ∙ ap (λ later. ascending cmp (us ++ later)) (apart-more 1 before x (y ∷ ys) (ap (λ s. s == 1) left.0) right))
            ∙ sym (made-first before x [] (us ++ vs) tt
            (All-append (λ e. is_gt (cmp x e) ≡ false) us vs (none-made x (before ++ x ∷ []) xs xs-up.0)
            (none-made x before (y ∷ ys) (low, NoneBefore-lower (entries_total a b) x y ys low ys-up.0))))
            ∙ sym (ap (ascending cmp) (append_assoc (made step before x) us vs))
        by true gt one other =
            let us : List Entry = of before (x ∷ xs) in
            let vs : List Entry = of (before ++ y ∷ []) ys in
            ap (of before) (merge-right (entries_total a b) x y xs ys gt xs-up ys-up)
            ∙ ap (λ rest. made step before y ++ rest)
            (other ∙ ap (λ earlier. ascending cmp (earlier ++ vs)) (apart-more 0 before y (x ∷ xs) (ap (λ s. s == 0) right.0) left))
            ∙ sym (made-first before y us vs
            (all-made (λ u. is_gt (cmp u y) ≡ true) (λ e f at after. ap is_gt (sym (at-first e f y at)) ∙ after) before (x ∷ xs) (gt, all-after x y xs gt xs-up.0))
            (none-made y (before ++ y ∷ []) ys ys-up.0))

    -- the same of the changes of two relations
    pub made-of-merged : (ls rs : List Change) → Rise ls → Rise rs →
        results (made step) [] (merged a b ls rs) ≡ ascending cmp (results (made step) [] (from_side 0 ls) ++ results (made step) [] (from_side 1 rs))
    made-of-merged ls rs left right =
        made-merged [] (from_side 0 ls) (from_side 1 rs) (on 0 ls) (on 1 rs) (side-ascends 0 ls left) (side-ascends 1 rs right)
      where
        on : (side : ℕ) (cs : List Change) → AllByRecursion (λ e. e.side ≡ side) (from_side side cs)
        on side cs = All-map (λ (e : Entry). e.side ≡ side) (λ c. record { side = side; change = c }) cs (All-of {P = λ c. side ≡ side} cs (λ c. refl))
