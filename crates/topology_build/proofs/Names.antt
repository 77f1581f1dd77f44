-- The names of repartition topics, which are short.
use Rattle.std.proofs.Common.{◌≡◌, ◌∙◌, ap, ap₂, sym, ℕ, ◌+◌, ◌≤◌, List, ◌++◌, length, append_assoc, arith}
use Rattle.std.specs.Prelude.{codes}
use Rattle.std.proofs.lemmas.List.{length-append}
use Rattle.topology.specs.declared.stage.CutName.{CutName}
use Rattle.topology.specs.declared.stage.CutName.TheVariants.{Left, Right, Group}
use Rattle.topology.specs.Topologies.{cut_text, repartition_name}

text-short : (name : CutName) → length (cut_text name) ≤ 5
text-short Left = omega arith
text-short Right = omega arith
text-short Group = omega arith

pub name-short : (query : List ℕ) (name : CutName) → length (repartition_name query name) ≤ length query + 23
name-short query name =
    let a = length-append (codes "ksql-") query in
    let b = length-append (codes "ksql-" ++ query) (codes "-") in
    let c = length-append (codes "ksql-" ++ query ++ codes "-") (cut_text name) in
    let d = length-append (codes "ksql-" ++ query ++ codes "-" ++ cut_text name) (codes "-repartition") in
    omega (arith, a, b, c, d, text-short name)

-- the parts of a name, one after another
pub name-spelled : (bytes query text of_query : List ℕ) (name : CutName) →
    bytes ≡ codes "ksql-" ++ (query ++ (codes "-" ++ (text ++ codes "-repartition"))) → query ≡ of_query → text ≡ cut_text name → bytes ≡ repartition_name of_query name
name-spelled bytes query text of_query name is is_query is_text =
    is
    ∙ ap₂ (λ (q t : List ℕ). codes "ksql-" ++ (q ++ (codes "-" ++ (t ++ codes "-repartition")))) is_query is_text
    ∙ ap (λ (xs : List ℕ). codes "ksql-" ++ xs)
    (sym (append_assoc of_query (codes "-") (cut_text name ++ codes "-repartition"))
    ∙ sym (append_assoc (of_query ++ codes "-") (cut_text name) (codes "-repartition")))
