use Rattle.std.proofs.Common.{[], ◌∷◌, refl, arith}
use Rattle.std.proofs.lemmas.Grind.{common_steps}
use Rattle.std.proofs.lemmas.List.{map_more}
use Rattle.topic_files.specs.Printed.{after_commas}
use Rattle.topic_files.proofs.Texts.{after_commas-push, comma_after, comma_after-push}
use Rattle.topic_files.proofs.printed.labels.Goals as goal

pub loop-column-init : goal.loop-column-init
unfolding after_commas comma_after
loop-column-init c = record { made = grind (arith, common_steps); next = refl; is_text = ([], (refl, refl)) }

pub loop-column-preserved : goal.loop-column-preserved
unfolding lib.Utf8.encode
loop-column-preserved c = record {
  made = grind (arith, common_steps, map_more, after_commas-push);
  next = grind (arith, common_steps, map_more, comma_after-push);
  is_text = (44 ∷ [], (refl, refl));
}
