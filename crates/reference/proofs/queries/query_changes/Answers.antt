use Rattle.std.proofs.Common.{◌≡◌, ◌∙◌, ap₂, map, sym, subst, List}
use Rattle.std.specs.Prelude.{IfOk}
use Rattle.std.specs.List.{flat_map}
use Rattle.ksql_place.specs.declared.change.Change.{Change}
use Rattle.ksql_expr.specs.declared.typed.Typed.{Typed}
use Rattle.reference.specs.Plain.{changes_of, plain_gives}
use Rattle.query_meaning.specs.Queries.{changes_at, key_columns}
use Rattle.reference.proofs.Shapes.{query-plain}
use Rattle.reference.proofs.queries.query_changes.Goals as goal

pub returns-in-One-Plain : goal.returns-in-One-Plain
returns-in-One-Plain c =
    let items = c.args.program.now.items in
    let lists = map changes_of c.args.lists.now in
    let number = c.in-One-Plain.relation in
    subst (λ (list : List Change). IfOk c.plain_over.result (λ changes. changes.items ≡ list))
    (ap₂ (λ (keys values : List Typed). flat_map (plain_gives (key_columns items number) c.args.query.now.filter keys values) (changes_at lists number)) c.items-keys.ensures c.items-values.ensures
    ∙ sym (query-plain items lists c.args.query.now number c.in-One-Plain.keys c.in-One-Plain.values c.in-One-Plain.is-0 c.in-One-Plain.is-1))
    c.plain_over.ensures
