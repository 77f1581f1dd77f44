use Rattle.std.proofs.Common.{◌∙◌, ap, append_assoc, arith, subst, sym}
use Rattle.std.proofs.lemmas.Grind.{common_steps}
use Rattle.std.proofs.lemmas.List.{append-nil, get_or-map, length-map}
use Rattle.std.proofs.lemmas.List.Concat.{flat_map-append}
use Rattle.std.specs.Prelude.{map}
use Rattle.ksql_program.specs.Program.{relation_of}
use Rattle.reference.specs.Plain.{changes_of}
use Rattle.reference.specs.Sections.{sections}
use Rattle.run_text.specs.Report.{IsPrintable}
use Rattle.reference.proofs.Sections.{sections-more}
use Rattle.reference.proofs.program_report.push_items.Goals as goal

pub loop-item-init : goal.loop-item-init
unfolding sections
loop-item-init c = grind (arith, common_steps)

pub loop-item-preserved : goal.loop-item-preserved
loop-item-preserved c =
    let more =
    sections-more c.args.closed.now c.args.items.now c.args.order.now (map changes_of c.args.lists.now) c.loop-item.item-index c.item-item.result c.loop-item-test.true in
    grind (arith, append_assoc, flat_map-append, append-nil, more)

pub push_item-requires : goal.push_item-requires
push_item-requires c =
    let item = c.item-item.result in
    let relation = get_or-map relation_of c.args.items.now c.loop-item.item-index item (relation_of item) c.loop-item-test.true
    ∙ ap relation_of (sym c.item-item.is) ∙ sym c.relation_of.ensures in
    subst IsPrintable relation (c.requires.printable c.loop-item.item-index (relation_of item) (simp length-map c.loop-item-test.true))
