use Rattle.std.proofs.Common.{[], ◌∷◌, refl, arith}
use Rattle.std.proofs.lemmas.Grind.{common_steps}
use Rattle.std.proofs.lemmas.List.{map_more}
use Rattle.topic_files.proofs.Texts.{comma_after, comma_after-push, joined_more}
use Rattle.run_text.proofs.printed.push_cells.Goals as goal

pub loop-cell-init : goal.loop-cell-init
unfolding comma_after
loop-cell-init c = record { written = grind (arith, common_steps); next = refl; is_text = ([], (refl, refl)) }

pub loop-cell-preserved : goal.loop-cell-preserved
unfolding lib.Utf8.encode
loop-cell-preserved c = record {
  written = grind (arith, common_steps, map_more, joined_more);
  next = grind (arith, common_steps, map_more, comma_after-push);
  is_text = (44 ∷ [], (refl, refl));
}
