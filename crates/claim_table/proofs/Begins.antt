-- A new round keeps the rule, and its claims know nothing yet.
use Rattle.std.proofs.Common.{◌≡◌, ℕ, zero, suc, ◌+◌, ◌^◌, ◌<◌, false, List, [], ◌∷◌, map, length, sym, refl, ap, ◌∙◌, subst, arith}
use Rattle.std.proofs.lemmas.List.{length-map}
use mathlib.Core.Option.{some, some-injective, some-ne-none}
use lib.ListN.{get_elem?}
use Rattle.std.specs.Prelude.{Option, Some, slice_get}
use Rattle.atomic_table.specs.Table.{Me, opening}
use Rattle.claim_table.specs.declared.plays.View.{View}
use Rattle.claim_table.specs.Rule.{AtHome, Kept, opened}
use Rattle.claim_table.specs.declared.table.Claim.{Claim}
use Rattle.claim_table.specs.Held.{Holds}
use Rattle.claim_table.specs.Claims.{Sits, IsNew}
use Rattle.claim_table.proofs.Stands.{Stands}
use Rattle.claim_table.proofs.Parting.{bare}

-- the item at a place of the list is at home there
at_home : {T : Type 0} (items : List T) (i : ℕ) → i < length items → (x : T) × (slice_get items i ≡ Some x) × AtHome (map some (map Some items)) i x
at_home [] i h = absurd (omega arith)
at_home (x ∷ xs) zero h = (x, refl, refl)
at_home (x ∷ xs) (suc i) h = at_home xs i (omega arith)

module _ {T P : Type 0} (fresh done : P → ℕ → T → Type 0) (number : T → ℕ) (plan : P) where
  alone : (claims : ℕ) (homes : _) (k : ℕ) (v : View P) → get_elem? (opened plan claims ∷ []) k ≡ some v → Stands fresh done number plan claims homes v
  alone claims homes zero v e = subst (Stands fresh done number plan claims homes) (some-injective (opened plan claims) v e) (bare fresh done number plan claims homes (opened plan claims) refl refl refl (λ _. refl))
  alone claims homes (suc k) v e = absurd (some-ne-none v (sym e))

  pub opens : (claims : ℕ) (items : List T) (slots : List (Option T)) → slots ≡ map Some items → length items + claims + 1 < 2 ^ 64 → ((i : ℕ) (x : T) → slice_get items i ≡ Some x → fresh plan i x)
      → Kept fresh done number plan claims (opening (0 ∷ 0 ∷ []) slots (opened plan claims))
  opens claims items slots is small good = let long : length (map some slots) ≡ length items = length-map slots some ∙ ap length is ∙ length-map items Some in record {
    wide = refl;
    small = subst (λ (n : ℕ). n + claims + 1 < 2 ^ 64) (sym long) small;
    drawn = λ h. refl;
    numbers = λ h. refl;
    parted = omega arith;
    waits = λ i _ to. (let r = at_home items i (subst (λ (n : ℕ). i < n) long to) in (r.0, subst (λ (l : List (Option T)). AtHome (map some l) i r.0) (sym is) r.2, good i r.0 r.1));
    each = alone claims (map some slots);
  }

module _ {T P : Type 0} (fresh : P → ℕ → T → Type 0) (plan : P) where
  -- the view of a claim that has done nothing
  pub sits_new : (n : ℕ) (me : Me (Option T) (View P)) → me ≡ (opened plan 1, []) → Sits fresh plan n false me
  sits_new n me is = subst (Sits fresh plan n false) (sym is) record {
    planned = refl;
    part = refl;
    going = λ _. refl;
    ended = λ e. absurd (cc);
    good = λ i x h. elim h [ ];
    owes = λ i s h. elim h [ ];
    once = tt;
    back = λ i h. elim h [ ];
    named = λ i h. elim h [ ];
  }

module _ {T P : Type 0} (plan : P) where
  pub is_new : (c : Claim T P) (k : ℕ) → c.seat.me ≡ (opened plan k, []) → IsNew c
  is_new c k is = (
    ap (λ (m : Me (Option T) (View P)). m.0.drawn) is,
    ap (λ (m : Me (Option T) (View P)). m.0.returned) is,
    ap (λ (m : Me (Option T) (View P)). m.0.numbered) is,
    λ i owed. (let h : Holds [] i owed.0 = subst (λ (l : List (ℕ × Option T)). Holds l i owed.0) (λ j. (is j).1) owed.1 in elim h [ ]),
  )
