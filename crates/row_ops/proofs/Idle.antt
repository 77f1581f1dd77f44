-- The steps of operators that hold nothing.
use Rattle.std.proofs.Common.{◌≡◌, ◌∙◌, ap, refl, sym, Bool, true, false, List, [], ◌∷◌, ◌++◌, Ok, Err, Result}
use Rattle.std.specs.Prelude.{OnOk, if◌then◌else◌}
use Rattle.ksql_place.specs.declared.change.Change.{Change}
use Rattle.ksql_expr.specs.declared.typed.Typed.{Typed}
use Rattle.ksql_nodes.specs.declared.node.Node.{Node}
use Rattle.ksql_nodes.specs.declared.node.Node.TheVariants.{Filter, Having, Select}
use Rattle.ksql_nodes.specs.Entries.{Entry}
use Rattle.ksql_nodes.specs.Nodes.{gives}
use Rattle.ksql_nodes.specs.Rows.{filtered, selected}
use Rattle.operator.specs.Holding.{nothing}
use Rattle.operator.specs.StandsFor.{StandsFor}
use Rattle.row_ops.specs.declared.rekey_op.Keying.{Keying}
use Rattle.row_ops.specs.declared.rekey_op.Keying.TheVariants.{Join, Group}
use Rattle.row_ops.specs.Keying.{node_of, given_by}

pub filter-gives : (having : Bool) (on : Typed) (es : List Entry) (e : Entry) → gives 1 (if having then Having on else Filter on) es e ≡ filtered on e.change
unfolding gives
filter-gives true on es e = refl
filter-gives false on es e = refl

pub select-gives : (keys items : List Typed) (es : List Entry) (e : Entry) → gives 1 (Select keys items) es e ≡ selected keys items e.change
unfolding gives
select-gives keys items es e = refl

pub rekey-gives : (keying : Keying) (es : List Entry) (e : Entry) → gives 1 (node_of keying) es e ≡ given_by keying e.change
unfolding gives
rekey-gives (Join key) es e = refl
rekey-gives (Group keys) es e = refl

pub idle-next : {T E : Type 0} (r : Result T E) (node : Node) (new old made : List Change) (e : Entry) → ((es : List Entry) → gives 1 node es e ≡ made) → ((es : List Entry) → StandsFor node nothing es) →
    OnOk r (new ≡ old ++ made) → OnOk r ((es : List Entry) → StandsFor node nothing es → (new ≡ old ++ gives 1 node es e) × StandsFor node nothing (es ++ e ∷ []))
idle-next (Ok x) node new old made e is stands h = λ es s. (h ∙ ap (λ (made : List Change). old ++ made) (sym (is es)), stands (es ++ e ∷ []))
idle-next (Err x) node new old made e is stands h = tt
