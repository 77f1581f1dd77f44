-- The stamps of one partition, one after another.
use Rattle.std.proofs.Common.{◌≡◌, ◌∙◌, ap, ap₂, sym, ℕ, List, [], ◌∷◌, ◌++◌, ◌+◌, ◌<◌, length, max, take, drop, get_or, arith, append_assoc}
use Rattle.std.proofs.lemmas.List.{take_more, at_drop_more, length-take-le}
use Rattle.ksql_place.specs.declared.stamp.Stamp.{Stamp}
use Rattle.ksql_place.specs.Order.{greatest, stamped}

pub greatest-append : (times : List ℕ) (t : ℕ) → greatest (times ++ t ∷ []) ≡ max t (greatest times)
greatest-append [] t = omega arith
greatest-append (n ∷ ns) t = omega (arith, greatest-append ns t)

pub greatest-take_more : (times : List ℕ) (i : ℕ) → i < length times → greatest (take (i + 1) times) ≡ max (greatest (take i times)) (get_or times i 0)
greatest-take_more times i below = ap greatest (take_more times i 0 below) ∙ omega (arith, greatest-append (take i times) (get_or times i 0))

-- the stamps from a record on, and those after it
stamped-drop : (feed topic part first : ℕ) (times : List ℕ) (i high : ℕ) → i < length times → high ≡ greatest (take (i + 1) times) →
    stamped feed topic part first (take i times) (drop i times)
    ≡ record { feed = feed; high = high; topic = topic; part = part; offset = first + i } ∷ stamped feed topic part first (take (i + 1) times) (drop (i + 1) times)
unfolding stamped
stamped-drop feed topic part first times i high below high-is =
    let stamp : ℕ → ℕ → Stamp = λ h o. record { feed = feed; high = h; topic = topic; part = part; offset = first + o } in
    let rest : List ℕ → List Stamp = λ through. stamped feed topic part first through (drop (i + 1) times) in
    at_drop_more (stamped feed topic part first (take i times)) times i 0 below
    ∙ ap (λ (through : List ℕ). stamp (greatest through) (length (take i times)) ∷ rest through) (sym (take_more times i 0 below))
    ∙ ap₂ (λ (h o : ℕ). stamp h o ∷ rest (take (i + 1) times)) (sym high-is) (length-take-le i times (omega arith))

pub stamped-step : (feed topic part first : ℕ) (times : List ℕ) (i high : ℕ) (stamps new : List Stamp) → i < length times → high ≡ greatest (take (i + 1) times) →
    new ≡ stamps ++ record { feed = feed; high = high; topic = topic; part = part; offset = first + i } ∷ [] →
    new ++ stamped feed topic part first (take (i + 1) times) (drop (i + 1) times) ≡ stamps ++ stamped feed topic part first (take i times) (drop i times)
stamped-step feed topic part first times i high stamps new below high-is new-is =
    let rest = stamped feed topic part first (take (i + 1) times) (drop (i + 1) times) in
    ap (λ (ss : List Stamp). ss ++ rest) new-is
    ∙ append_assoc stamps (record { feed = feed; high = high; topic = topic; part = part; offset = first + i } ∷ []) rest
    ∙ ap (λ (ss : List Stamp). stamps ++ ss) (sym (stamped-drop feed topic part first times i high below high-is))
