-- What nodes in a row give, entry by entry.
use Rattle.std.proofs.Common.{◌≡◌, ◌∙◌, ap, refl, sym, subst, List, [], ◌∷◌, ◌++◌, map}
use Rattle.std.proofs.lemmas.List.{map-append}
use Rattle.std.proofs.lemmas.List.Elements.{All-from_recursion}
use Rattle.std.specs.Prelude.{All}
use Rattle.std.specs.List.{AllByRecursion}
use Rattle.ksql_place.specs.declared.change.Change.{Change}
use Rattle.ksql_place.specs.declared.stamp.Stamp.{Stamp}
use Rattle.ksql_nodes.specs.declared.node.Node.{Node}
use Rattle.ksql_nodes.specs.Entries.{Entry, Step, from_side, results}
use Rattle.ksql_nodes.specs.Nodes.{gives}
use Rattle.ksql_nodes.specs.Steps.{KeepsStamp}
use Rattle.ksql_nodes.proofs.Lists.{All-append}
use Rattle.ksql_nodes.proofs.Results.{results-append}
use Rattle.ksql_nodes.proofs.Stamps.{gives-keeps}
use Rattle.core_state.specs.State.{feed_of}
use Rattle.core_state.specs.Whole.{results_by}
use Rattle.op_chain.specs.Chain.{given, passed}

-- ---- entry by entry

passed-append : (n : Node) (earlier us vs : List Entry) → passed n earlier (us ++ vs) ≡ passed n earlier us ++ passed n (earlier ++ us) vs
passed-append n earlier us vs =
    ap (from_side 0) (results-append (gives 1 n) earlier us vs)
    ∙ map-append (λ (c : Change). record { side = 0; change = c }) (results (gives 1 n) earlier us) (results (gives 1 n) (earlier ++ us) vs)

pub given-append : (nodes : List Node) (earlier us vs : List Entry) → given nodes earlier (us ++ vs) ≡ given nodes earlier us ++ given nodes (earlier ++ us) vs
unfolding given
given-append [] earlier us vs = map-append (λ (e : Entry). e.change) us vs
given-append (n ∷ ns) earlier us vs =
    ap (given ns (passed n [] earlier)) (passed-append n earlier us vs)
    ∙ given-append ns (passed n [] earlier) (passed n earlier us) (passed n (earlier ++ us) vs)
    ∙ ap (λ before. given ns (passed n [] earlier) (passed n earlier us) ++ given ns before (passed n (earlier ++ us) vs)) (sym (passed-append n [] earlier us))

pub given-none : (nodes : List Node) (earlier : List Entry) → given nodes earlier [] ≡ []
unfolding given
given-none [] earlier = refl
given-none (n ∷ ns) earlier = given-none ns (passed n [] earlier)

-- what a row of nodes gives for entries is what it gives for each of them
pub given-steps : (nodes : List Node) (es us : List Entry) → given nodes es us ≡ results_by (λ earlier e. given nodes earlier (e ∷ [])) es us
given-steps nodes es [] = given-none nodes es
given-steps nodes es (u ∷ us) = given-append nodes es (u ∷ []) us ∙ ap (λ rest. given nodes es (u ∷ []) ++ rest) (given-steps nodes (es ++ u ∷ []) us)

-- ---- stamps

abbrev Has : Stamp → Change → Type 0
Has s c = c.place.stamp ≡ s

abbrev Brings : Stamp → Entry → Type 0
Brings s e = e.change.place.stamp ≡ s

results-keep : (s : Stamp) (step : Step) → KeepsStamp step → (before es : List Entry) → AllByRecursion (Brings s) es → AllByRecursion (Has s) (results step before es)
results-keep s step keeps before [] all = tt
results-keep s step keeps before (e ∷ es) all =
    All-append (Has s) (step before e) (results step (before ++ e ∷ []) es)
    (subst (λ t. AllByRecursion (Has t) (step before e)) all.0 (keeps before e))
    (results-keep s step keeps (before ++ e ∷ []) es all.1)

entries-keep : (s : Stamp) (cs : List Change) → AllByRecursion (Has s) cs → AllByRecursion (Brings s) (from_side 0 cs)
entries-keep s [] all = tt
entries-keep s (c ∷ cs) all = (all.0, entries-keep s cs all.1)

changes-keep : (s : Stamp) (es : List Entry) → AllByRecursion (Brings s) es → AllByRecursion (Has s) (map (λ (e : Entry). e.change) es)
changes-keep s [] all = tt
changes-keep s (e ∷ es) all = (all.0, changes-keep s es all.1)

given-keeps : (s : Stamp) (nodes : List Node) (earlier more : List Entry) → AllByRecursion (Brings s) more → AllByRecursion (Has s) (given nodes earlier more)
unfolding given
given-keeps s [] earlier more all = changes-keep s more all
given-keeps s (n ∷ ns) earlier more all =
    given-keeps s ns (passed n [] earlier) (passed n earlier more) (entries-keep s (results (gives 1 n) earlier more) (results-keep s (gives 1 n) (gives-keeps 1 n) earlier more all))

feeds-keep : (s : Stamp) (cs : List Change) → AllByRecursion (Has s) cs → AllByRecursion (λ c. feed_of c ≡ s.feed) cs
feeds-keep s [] all = tt
feeds-keep s (c ∷ cs) all = (ap (λ (t : Stamp). t.feed) all.0, feeds-keep s cs all.1)

-- what an entry gives has its feed
pub given-feed : (nodes : List Node) (es : List Entry) (e : Entry) → All (λ x. feed_of x ≡ e.change.place.stamp.feed) (given nodes es (e ∷ []))
given-feed nodes es e =
    All-from_recursion (λ x. feed_of x ≡ e.change.place.stamp.feed) (given nodes es (e ∷ []))
    (feeds-keep e.change.place.stamp (given nodes es (e ∷ [])) (given-keeps e.change.place.stamp nodes es (e ∷ []) (refl, tt)))
