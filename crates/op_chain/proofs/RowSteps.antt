-- The steps of one operator after another, whatever the operators are.
use Rattle.std.proofs.Common.{◌≡◌, ◌∙◌, ap, refl, sym, subst, ℕ, List, [], ◌∷◌, ◌++◌, append_assoc, map}
use Rattle.std.proofs.lemmas.List.{append-nil}
use Rattle.ksql_place.specs.declared.change.Change.{Change}
use Rattle.ksql_nodes.specs.declared.node.Node.{Node}
use Rattle.ksql_nodes.specs.Entries.{Entry, from_side, results}
use Rattle.ksql_nodes.specs.Nodes.{gives}
use Rattle.ksql_nodes.proofs.Results.{results-more}
use Rattle.std.specs.List.{AllZip}
use Rattle.operator.specs.Holding.{Held, IsBaseOf, Maps, committed, maps_of}
use Rattle.operator.specs.StandsFor.{StandsFor}
use Rattle.op_chain.specs.Along.{StepAlong, Steps}
use Rattle.op_chain.specs.Chain.{StandAlong, given, passed}
use Rattle.op_chain.proofs.Laws.{passed-append}

-- whether an operator stands for entries depends only on its maps
pub stands-committed : (n : Node) (h : Held) (es : List Entry) → StandsFor n h es → StandsFor n (committed (maps_of h)) es
stands-committed n h es s = record { spelled = s.spelled; exact = s.exact }

pub stands-held : (n : Node) (h : Held) (es : List Entry) → StandsFor n (committed (maps_of h)) es → StandsFor n h es
stands-held n h es s = record { spelled = s.spelled; exact = s.exact }

-- ---- one operator

pub steps-none : (n : Node) (h : Held) (old : List Change) → Steps n h h [] old old
steps-none n h old = λ earlier s. (sym (append-nil old), subst (StandsFor n h) (sym (append-nil earlier)) s)

-- one entry more
pub steps-more : (n : Node) (first held next : Held) (es : List Entry) (e : Entry) (old changes more : List Change) → Steps n first held es old changes →
    ((before : List Entry) → StandsFor n held before → (more ≡ changes ++ gives 1 n before e) × StandsFor n next (before ++ e ∷ [])) → Steps n first next (es ++ e ∷ []) old more
steps-more n first held next es e old changes more steps step = λ earlier s.
    let so_far = steps earlier s in
    let here = step (earlier ++ es) so_far.1 in (
      here.0 ∙ ap (λ (given : List Change). given ++ gives 1 n (earlier ++ es) e) so_far.0
          ∙ append_assoc old (results (gives 1 n) earlier es) (gives 1 n (earlier ++ es) e)
          ∙ ap (λ (given : List Change). old ++ given) (sym (results-more (gives 1 n) earlier es e)),
      subst (StandsFor n next) (append_assoc earlier es (e ∷ [])) here.1,
    )

-- ---- operators in a row

pub along-none : (entries : List Entry) (old new : List Change) → new ≡ old ++ map (λ e. e.change) entries → StepAlong [] [] [] entries old new
unfolding given
along-none entries old new is = λ earlier s. (is, tt)

-- what comes in on a side is what was given
from_side-changes : (side : ℕ) (cs : List Change) → map (λ (e : Entry). e.change) (from_side side cs) ≡ cs
from_side-changes side [] = refl
from_side-changes side (c ∷ cs) = ap (λ (cs : List Change). c ∷ cs) (from_side-changes side cs)

-- changes that come in after the last operator are given as they are
pub along-given : (changes old new : List Change) → new ≡ old ++ changes → StepAlong [] [] [] (from_side 0 changes) old new
along-given changes old new is = along-none (from_side 0 changes) old new (is ∙ ap (λ (cs : List Change). old ++ cs) (sym (from_side-changes 0 changes)))

-- the steps of the last operator
pub along-last : (n : Node) (h next : Held) (entries : List Entry) (old new : List Change) → Steps n h next entries old new →
    StepAlong (n ∷ []) (h ∷ []) (next ∷ []) entries old new
unfolding given
along-last n h next entries old new steps = λ earlier s.
    let last = steps earlier (stands-held n h earlier s.0) in (
      last.0 ∙ ap (λ (given : List Change). old ++ given) (sym (from_side-changes 0 (results (gives 1 n) earlier entries))),
      (stands-committed n next (earlier ++ entries) last.1, tt),
    )

-- the first operator's steps and then the later ones'
pub along-more : (n : Node) (ns : List Node) (h next : Held) (hs nexts : List Held) (entries : List Entry) (changes old new : List Change) →
    Steps n h next entries [] changes → StepAlong ns hs nexts (from_side 0 changes) old new → StepAlong (n ∷ ns) (h ∷ hs) (next ∷ nexts) entries old new
unfolding given
along-more n ns h next hs nexts entries changes old new steps rest = λ earlier s.
    let first = steps earlier (stands-held n h earlier s.0) in
    let came : from_side 0 changes ≡ passed n earlier entries = ap (from_side 0) first.0 in
    let on = rest (passed n [] earlier) s.1 in
    let whole : passed n [] earlier ++ from_side 0 changes ≡ passed n [] (earlier ++ entries) = ap (λ (es : List Entry). passed n [] earlier ++ es) came ∙ sym (passed-append n [] earlier entries) in (
      on.0 ∙ ap (λ (es : List Entry). old ++ given ns (passed n [] earlier) es) came,
      (stands-committed n next (earlier ++ entries) first.1, subst (StandAlong ns (map maps_of nexts)) whole on.1),
    )

-- maps at the last commit stay so
pub bases-more : (bases : List Maps) (h next : Held) (hs nexts : List Held) → ((base : Maps) → IsBaseOf base h → IsBaseOf base next) →
    ((bases : List Maps) → AllZip IsBaseOf bases hs → AllZip IsBaseOf bases nexts) → AllZip IsBaseOf bases (h ∷ hs) → AllZip IsBaseOf bases (next ∷ nexts)
bases-more [] h next hs nexts first later all = absurd all
bases-more (base ∷ bases) h next hs nexts first later all = (first base all.0, later bases all.1)

-- the content of stores without writes since the last commit
pub maps-committed : (maps : List Maps) → map maps_of (map committed maps) ≡ maps
maps-committed [] = refl
maps-committed (m ∷ maps) = ap (λ (ms : List Maps). m ∷ ms) (maps-committed maps)
