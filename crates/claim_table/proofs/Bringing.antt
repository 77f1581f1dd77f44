-- What a seat owns in one order of its slots it owns in another.
use Rattle.atomic_table.proofs.Names.{ℕ, ◌<◌, List, [], ◌∷◌, ent, sem, ‵, ◌$◌, ◌∵◌, !, qed, by, move, fsplit3, fjoin3, done, use1, Fml, RattleType, Coded, id⊢}
use Rattle.std.proofs.Common.{Bool, true, false, eqb, cond}
use seplogic.Ra.Ura.{Ura}
use types.Logic.{Logic}
use types.Kit.{frame}
use base.Share.{three_quarters}
use Rattle.atomic_table.specs.Seated as seated
use Rattle.atomic_table.specs.Seated.{TableId, age, place, names, tracked, carried, mine, seen}
use Rattle.claim_table.specs.Held.{behind, brought}

module _ {M : Type 1} {𝓤 : Ura M} (𝓛 : Logic 𝓤) (R : RattleType) {V : Type 0} (cv : Coded V) (z : TableId) where
  abbrev out : List (ℕ × R.Denot) → Fml
  out = carried (age z) R (place z) (names z) z.slots

  second : (x : ℕ × R.Denot) (xs : List (ℕ × R.Denot)) → ent 𝓤 (sem 𝓛 (out (x ∷ xs))) (sem 𝓛 (out (behind x xs)))
  second x [] = id⊢ 𝓤 _
  second x (y ∷ ys) = qed 𝓛 (‵ (seated.fact (x.0 < z.slots)) ∷ ‵ (tracked (age z) R (place z) (names z) x.0 x.1) ∷ ‵ (out (y ∷ ys)) ∷ []) ∵
      move ! (2 ∷ []) $ fsplit3 ! $ frame ! $ frame ! $ move ! (1 ∷ 2 ∷ 0 ∷ []) $ fjoin3 ! $ done !

  choose : (x : ℕ × R.Denot) (xs ys : List (ℕ × R.Denot)) (b : Bool) → ent 𝓤 (sem 𝓛 (out xs)) (sem 𝓛 (out ys)) → ent 𝓤 (sem 𝓛 (out (x ∷ xs))) (sem 𝓛 (out (cond b (x ∷ xs) (behind x ys))))
  choose x xs ys true e = id⊢ 𝓤 _
  choose x xs ys false e = qed 𝓛 (‵ (seated.fact (x.0 < z.slots)) ∷ ‵ (tracked (age z) R (place z) (names z) x.0 x.1) ∷ ‵ (out xs) ∷ []) ∵
      move ! (2 ∷ []) $ use1 𝓛 (‵ (out ys)) e $ move ! (1 ∷ 2 ∷ 0 ∷ []) $ fjoin3 ! $ by ! (second x ys)

  arranged : (i : ℕ) (xs : List (ℕ × R.Denot)) → ent 𝓤 (sem 𝓛 (out xs)) (sem 𝓛 (out (brought i xs)))
  arranged i [] = id⊢ 𝓤 _
  arranged i (x ∷ xs) = choose x xs (brought i xs) (eqb x.0 i) (arranged i xs)

  pub brings : (i id : ℕ) (v : V) (cs : List (ℕ × R.Denot)) → ent 𝓤 (sem 𝓛 (mine R cv.code z id (v, cs))) (sem 𝓛 (mine R cv.code z id (v, brought i cs)))
  brings i id v cs = qed 𝓛 (‵ (seen cv.code z.views_name id three_quarters v) ∷ ‵ (out cs) ∷ []) ∵ frame ! $ by ! (arranged i cs)
