use Rattle.std.proofs.Common.{◌≡◌, ◌∙◌, [], ◌∷◌, ◌++◌, ap, ap₂, sym, List, Some}
use Rattle.std.specs.Prelude.{Option, option_and_then}
use Rattle.ksql_types.specs.declared.value.Value.{Value}
use Rattle.ksql_place.specs.declared.change.Body.TheVariants.{Turned}
use Rattle.ksql_place.specs.declared.change.Change.{Change}
use Rattle.ksql_nodes.specs.Entries.{Row}
use Rattle.ksql_nodes.specs.Rows.{turned, with_body}
use Rattle.reference.specs.Plain.{change_at, plain_gives, row_left}
use Rattle.reference.proofs.ChangeByChange.{turned-gives}
use Rattle.reference.proofs.plain.push_turned.Goals as goal

pub returns : goal.returns
returns c =
    let at = c.args.at in
    let plain = c.args.plain.now in
    let said = change_at at (Turned c.args.old.now c.args.new.now) in
    let left : Option Row → Option Row = option_and_then (row_left plain.columns plain.filter.now plain.values.now at.time at.key.now) in
    let body : turned (left c.args.old.now) (left c.args.new.now) ≡ Some c.in-Some.body =
    ap₂ turned (sym c.in_ok-old.ensures) (sym c.in_ok-new.ensures) ∙ sym c.turned.ensures ∙ c.in-Some.is in
    let given : plain_gives plain.columns plain.filter.now plain.keys.now plain.values.now said ≡ record said { body = c.in-Some.body } ∷ [] =
    turned-gives plain.columns plain.filter.now plain.keys.now plain.values.now at c.args.old.now c.args.new.now ∙ ap (with_body said) body in
    let made : c.in_ok-result_at.field-0 ≡ record said { body = c.in-Some.body } =
    c.in_ok-result_at.ensures ∙ ap (λ (key : List Value). record said { key = key; body = c.in-Some.body }) c.in_ok-key.ensures in
    c.in_ok-push.ensures.items
    ∙ ap (λ (change : Change). c.args.changes.now.items ++ change ∷ []) made
    ∙ ap (λ (changes : List Change). c.args.changes.now.items ++ changes) (sym given)
