-- What can be stored as a whole can be stored part by part.
use Rattle.std.proofs.Common.{◌≡◌, ◌∙◌, ap, sym, subst, List, [], ◌∷◌, ◌++◌}
use Rattle.std.specs.List.{AllByRecursion}
use Rattle.std.proofs.lemmas.List.{map-append}
use Rattle.std.proofs.lemmas.List.Elements.{All-from_recursion, recursion_from_All}
use Rattle.ksql_place.specs.declared.change.Change.{Change}
use Rattle.ksql_nodes.specs.declared.node.Node.{Node}
use Rattle.ksql_nodes.specs.Entries.{Entry, from_side, results}
use Rattle.ksql_nodes.specs.Nodes.{gives}
use Rattle.ksql_nodes.proofs.Results.{results-append}
use Rattle.operator.specs.Storable.{IsStorable}
use Rattle.op_chain.specs.Chain.{AreStorable, passed}

All-split : {A : Type 0} (P : A → Type 0) (xs ys : List A) → AllByRecursion P (xs ++ ys) → AllByRecursion P xs × AllByRecursion P ys
All-split P [] ys h = (tt, h)
All-split P (x ∷ xs) ys h = let rest = All-split P xs ys h.1 in ((h.0, rest.0), rest.1)

pub passed-append : (x : Node) (before now later : List Entry) → passed x before (now ++ later) ≡ passed x before now ++ passed x (before ++ now) later
passed-append x before now later =
    ap (from_side 0) (results-append (gives 1 x) before now later)
    ∙ map-append (λ (c : Change). record { side = 0; change = c }) (results (gives 1 x) before now) (results (gives 1 x) (before ++ now) later)

pub stored-parts : (nodes : List Node) (before now later : List Entry) → AreStorable nodes before (now ++ later) → AreStorable nodes before now × AreStorable nodes (before ++ now) later
stored-parts [] before now later h = (tt, tt)
stored-parts (x ∷ xs) before now later h =
    let P : Entry → Type 0 = λ e. IsStorable x e.side e.change in
    let own = All-split P now later (recursion_from_All P (now ++ later) h.0) in
    let rest = stored-parts xs (passed x [] before) (passed x before now) (passed x (before ++ now) later) (subst (AreStorable xs (passed x [] before)) (passed-append x before now later) h.1) in (
      (All-from_recursion P now own.0, rest.0),
      (All-from_recursion P later own.1, subst (λ es. AreStorable xs es (passed x (before ++ now) later)) (sym (passed-append x [] before now)) rest.1),
    )
