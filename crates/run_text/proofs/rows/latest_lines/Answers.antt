use Rattle.std.proofs.Common.{List, [], ◌∷◌, ap, map, reverse, sym, arith, ◌∙◌, ◌≡◌}
use Rattle.std.proofs.lemmas.Grind.{common_steps}
use Rattle.std.proofs.lemmas.List.{nil_from_length, reverse-append}
use Rattle.std.specs.Iterator.Adapters.{rev_source}
use Rattle.std.specs.Slice.Iter.{iter_rest}
use Rattle.indexmap.specs.IndexSet.{insert_all}
use Rattle.run_text.specs.Lines.{shown_of}
use Rattle.run_text.specs.declared.line.Line.{Line}
use Rattle.run_text.proofs.LatestLemmas.{is_same_line, latest-gathered}
use Rattle.run_text.proofs.rows.latest_lines.Goals as goal

pub loop-line-init : goal.loop-line-init
loop-line-init c = record { set = grind (arith, common_steps); can = tt; finite = tt }

pub loop-line-preserved : goal.loop-line-preserved
loop-line-preserved c =
    let rest : List Line = iter_rest (rev_source c.next.new.self) in
    let turned = ap reverse c.in-Some.ensures.steps ∙ reverse-append rest (c.in-Some.line.now ∷ []) in
    let more = ap (λ (ks : List Line). insert_all is_same_line ks (reverse rest)) c.in_ok-insert.ensures.keys in
    record { set = more ∙ sym (ap (insert_all is_same_line c.loop-line.latest.keys) turned) ∙ c.loop-line.invariant.set; can = tt; finite = tt }

pub returns : goal.returns
returns c =
    let left : List Line = iter_rest (rev_source c.loop-line.line-iterator) in
    let none : left ≡ [] = nil_from_length left c.in-None.ensures.steps.0 in
    let all : c.loop-line.latest.keys ≡ insert_all is_same_line [] (reverse c.args.lines.now) =
    sym (ap (λ (ls : List Line). insert_all is_same_line c.loop-line.latest.keys (reverse ls)) none) ∙ c.loop-line.invariant.set in
    ap (map shown_of) (c.reverse.ensures.keys ∙ ap reverse all) ∙ latest-gathered c.args.lines.now
