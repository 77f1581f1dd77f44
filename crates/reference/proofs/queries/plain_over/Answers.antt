use Rattle.std.proofs.Common.{◌≡◌, ◌∙◌, sym, refl, subst, ap, List, length, ℕ, Some, None}
use Rattle.std.specs.Prelude.{IfOk}
use Rattle.std.specs.List.{flat_map}
use Rattle.std.proofs.lemmas.Option.{slice_get_past, slice_get_read}
use Rattle.ksql_place.specs.declared.change.Change.{Change}
use Rattle.reference.specs.Plain.{changes_of, plain_gives}
use Rattle.query_meaning.specs.Queries.{key_columns}
use Rattle.reference.proofs.Shapes.{found-at}
use Rattle.reference.proofs.queries.plain_over.Goals as goal

pub returns-in-Some : goal.returns-in-Some
returns-in-Some c =
    let lists = c.args.lists.now in
    let number = c.args.number in
    let filter = c.args.filter.now in
    let source = c.in-Some.source.now in
    let found = slice_get_read lists (length lists) number source refl c.in-Some.ensures.lookup.3.0 c.in-Some.ensures.lookup.1 in
    let columns = ap (λ (n : ℕ). flat_map (plain_gives n filter c.args.keys.now c.args.values.now) (changes_of source)) c.key_columns-columns.ensures in
    let at = ap (flat_map (plain_gives (key_columns c.args.program.now.items number) filter c.args.keys.now c.args.values.now)) (found-at lists number (Some source) found) in
    subst (λ (list : List Change). IfOk c.plain_changes.result (λ changes. changes.items ≡ list)) (columns ∙ sym at) c.plain_changes.ensures

pub returns-in-None : goal.returns-in-None
returns-in-None c =
    let lists = c.args.lists.now in
    let number = c.args.number in
    c.new.ensures.items
    ∙ sym (ap (flat_map (plain_gives (key_columns c.args.program.now.items number) c.args.filter.now c.args.keys.now c.args.values.now))
    (found-at lists number None (slice_get_past lists number c.in-None.ensures.lookup.3)))
