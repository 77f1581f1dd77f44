-- The steps of showing what is due in a partition.
use Rattle.std.proofs.Common.{Global, ◌≡◌, ◌∙◌, ap, ap₂, sym, refl, subst, ℕ, zero, suc, List, [], ◌∷◌, ◌++◌, ◌+◌, ◌<◌, ◌≤◌, Bool, true, false, length, map, get_or, set, sum, arith, append_assoc, append-nil, Option, Some, None, vec_capacity}
use Rattle.std.specs.Prelude.{nat_lt, nat_le, All}
use Rattle.std.specs.declared.cmp.Ordering.TheVariants.{Less}
use Rattle.std.specs.declared.collections.VecDeque.{VecDeque}
use Rattle.std.proofs.lemmas.Bool.Decides.{nat_tests}
use Rattle.std.proofs.lemmas.List.{get_or-map, length_push, length-map}
use Rattle.std.proofs.lemmas.List.Elements.{All-map, All-set}
use Rattle.ksql_place.specs.Ascending.{Rises}
use Rattle.ksql_place.specs.Routing.{change_cmp}
use Rattle.ksql_place.specs.declared.change.Change.{Change}
use Rattle.core_state.specs.Routes.{merged}
use Rattle.core_state.specs.State.{after, feed_of, upto}
use Rattle.topic_log.specs.Commits.{IsNext, due_of, is_due, waiting_lists}
use Rattle.topic_log.specs.Ready.{waiting_len}
use Rattle.topic_log.specs.declared.shelves.PartShelf.{PartShelf}
use Rattle.topic_log.proofs.Due.{ascending-none, filters-set, lengths-set, none_left, passing}
use Rattle.topic_log.proofs.Gathering.{All-from_map}
use Rattle.topic_log.proofs.InOrder.{pairs-tail}

late_not_due : (c n : ℕ) → nat_le n c ≡ true → nat_lt c n ≡ false
late_not_due c n h = grind (arith, nat_tests)

due_not_late : (c n : ℕ) → nat_le n c ≡ false → nat_lt c n ≡ true
due_not_late c n h = grind (arith, nat_tests)

-- what waits now, and what is shown, where a partition is on the way from the first
pub record IsShowing (closed : ℕ) (first now : PartShelf) : Type 0 where
  pub rises : All (λ w. Rises change_cmp w.items) now.waiting.items
  pub fed : now.fed ≡ first.fed
  pub room : length now.said.items + waiting_len now ≤ vec_capacity now.said
  pub said : now.said.items ++ merged (map (upto closed) (waiting_lists now)) ≡ first.said.items ++ merged (map (upto closed) (waiting_lists first))
  pub waiting : map (after closed) (waiting_lists now) ≡ map (after closed) (waiting_lists first)

map-map : {A B C : Type 0} (f : B → C) (g : A → B) (xs : List A) → map (λ x. f (g x)) xs ≡ map f (map g xs)
map-map f g [] = refl
map-map f g (x ∷ xs) = ap (λ ys. f (g x) ∷ ys) (map-map f g xs)

pub waiting_len-lists : (p : PartShelf) → waiting_len p ≡ sum (map length (waiting_lists p))
waiting_len-lists p = ap sum (map-map length (λ w. w.items) p.waiting.items)

-- at first
pub show_none : (c : ℕ) (first : PartShelf) → All (λ w. Rises change_cmp w.items) first.waiting.items → length first.said.items + waiting_len first ≤ vec_capacity first.said → IsShowing c first first
show_none c first rises room = record { rises = rises; fed = refl; room = room; said = refl; waiting = refl }

there-within : (ls : List (List Change)) (i : ℕ) (x : Change) (rest : List Change) → get_or ls i [] ≡ x ∷ rest → i < length ls
there-within [] i x rest at = absurd (cc (at))
there-within (l ∷ ls) zero x rest at = omega arith
there-within (l ∷ ls) (suc i) x rest at = let inside = there-within ls i x rest at in omega (arith, inside)

-- without the next change, the others are due
next_step : (c : ℕ) (ls : List (List Change)) (i : ℕ) (x : Change) (rest : List Change) → IsNext c ls (Some i) → get_or ls i [] ≡ x ∷ rest → due_of c ls ≡ x ∷ due_of c (set ls i rest)
next_step c ls i x rest (y, later, first, due) at =
    let same : y ∷ later ≡ x ∷ rest = sym first ∙ at in
    let head : y ≡ x = cc (same) in
    let tail : later ≡ rest = cc (same) in
    due ∙ ap₂ (λ (z : Change) (us : List Change). z ∷ due_of c (set ls i us)) head tail

-- and it is of a closed feed
next_due : (c : ℕ) (ls : List (List Change)) (i : ℕ) (x : Change) (rest : List Change) → IsNext c ls (Some i) → get_or ls i [] ≡ x ∷ rest → is_due c x ≡ true
next_due c ls i x rest next at = by (is_due c x) refl
  where
    by : (k : Bool) → is_due c x ≡ k → is_due c x ≡ true
    by true is = is
    by false is =
        let same : due_of c ls ≡ x ∷ due_of c ls =
        next_step c ls i x rest next at ∙ ap (λ (us : List (List Change)). x ∷ merged us) (filters-set (is_due c) ls i x rest at is) in
        absurd (omega (arith, ap length same))

-- one more change is shown
pub show_more : (c : ℕ) (first now next : PartShelf) (i : ℕ) (x : Change) (rest : List Change) → IsShowing c first now → IsNext c (waiting_lists now) (Some i) → get_or (waiting_lists now) i [] ≡ x ∷ rest →
    waiting_lists next ≡ set (waiting_lists now) i rest → next.fed ≡ now.fed → next.said.items ≡ now.said.items ++ x ∷ [] → vec_capacity next.said ≡ vec_capacity now.said →
    IsShowing c first next × (waiting_len next + 1 ≡ waiting_len now)
show_more c first now next i x rest h is at waits fed shows cap =
    let ls = waiting_lists now in
    let within : i < length ls = there-within ls i x rest at in
    let all : All (Rises change_cmp) ls = All-map (Rises change_cmp) (λ w. w.items) now.waiting.items h.rises in
    let own : Rises change_cmp (x ∷ rest) = subst (Rises change_cmp) at (all i [] within) in
    let fewer : waiting_len next + 1 ≡ waiting_len now =
    ap (λ (n : ℕ). n + 1) (waiting_len-lists next ∙ ap (λ (us : List (List Change)). sum (map length us)) waits) ∙ lengths-set ls i x rest within at ∙ sym (waiting_len-lists now) in (
      record {
        rises = All-from_map (Rises change_cmp) next.waiting.items
            (subst (All (Rises change_cmp)) (sym waits) (All-set (Rises change_cmp) ls i rest (pairs-tail (λ a b. change_cmp a b ≡ Less) x rest own) all));
        fed = fed ∙ h.fed;
        room =
            let shows-len : length next.said.items ≡ length now.said.items + 1 = ap length shows ∙ length_push now.said.items x in
            let room : length now.said.items + waiting_len now ≤ vec_capacity now.said = h.room in
            omega (arith, shows-len, room, fewer, cap);
        said =
            ap₂ (λ (us : List Change) (ws : List (List Change)). us ++ due_of c ws) shows waits
            ∙ append_assoc now.said.items (x ∷ []) (due_of c (set ls i rest))
            ∙ ap (λ (us : List Change). now.said.items ++ us) (sym (next_step c ls i x rest is at))
            ∙ h.said;
        waiting = ap (map (after c)) waits ∙ filters-set (λ z. nat_lt c (feed_of z)) ls i x rest at (late_not_due c (feed_of x) (next_due c ls i x rest is at)) ∙ h.waiting;
      },
      fewer,
    )

-- where nothing more is due, all of it is shown
pub show_all : (c : ℕ) (first now : PartShelf) → IsShowing c first now → IsNext c (waiting_lists now) None →
    (now.said.items ≡ first.said.items ++ due_of c (waiting_lists first)) × (waiting_lists now ≡ map (after c) (waiting_lists first))
show_all c first now h none = (
  sym (append-nil now.said.items) ∙ ap (λ (us : List Change). now.said.items ++ us) (sym none) ∙ h.said,
  sym (none_left (is_due c) (λ z. nat_lt c (feed_of z)) (λ z. due_not_late c (feed_of z)) (waiting_lists now) (ascending-none change_cmp (passing (is_due c) (waiting_lists now)) none)) ∙ h.waiting,
)

-- ---- the same of what the code reads

pub next_at : (c : ℕ) (p : PartShelf) (ws : List (VecDeque Change Global)) (o : Option ℕ) → ws ≡ p.waiting.items → IsNext c (map (λ w. w.items) ws) o → IsNext c (waiting_lists p) o
next_at c p ws o same h = subst (λ (us : List (VecDeque Change Global)). IsNext c (map (λ w. w.items) us) o) same h

pub next_within : (c : ℕ) (p : PartShelf) (i : ℕ) → IsNext c (waiting_lists p) (Some i) → i < length p.waiting.items
next_within c p i (x, later, first, due) = subst (λ (n : ℕ). i < n) (length-map p.waiting.items (λ w. w.items)) (there-within (waiting_lists p) i x later first)

-- the writer that is next has a first change
pub next_has : (c : ℕ) (p : PartShelf) (i : ℕ) (d : VecDeque Change Global) → IsNext c (waiting_lists p) (Some i) → d ≡ get_or p.waiting.items i d →
    (get_or (waiting_lists p) i [] ≡ d.items) × (0 < length d.items)
next_has c p i d (x, later, first, due) is =
    let within : i < length p.waiting.items = next_within c p i (x, later, first, due) in
    let at : get_or (waiting_lists p) i [] ≡ d.items = get_or-map (λ w. w.items) p.waiting.items i d [] within ∙ ap (λ (w : VecDeque Change Global). w.items) (sym is) in
    (at, let long = ap length (sym at ∙ first) in omega (arith, long))

-- where a first change waits, something waits
pub next_waits : (p : PartShelf) (i : ℕ) (x : Change) (rest : List Change) → get_or (waiting_lists p) i [] ≡ x ∷ rest → 0 < waiting_len p
next_waits p i x rest at =
    let more = lengths-set (waiting_lists p) i x rest (there-within (waiting_lists p) i x rest at) at in
    let same = waiting_len-lists p in
    omega (arith, more, same)
