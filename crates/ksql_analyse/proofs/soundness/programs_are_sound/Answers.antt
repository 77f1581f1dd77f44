use Rattle.ksql_analyse.proofs.sound.SoundPrograms.{sound}
use Rattle.ksql_analyse.proofs.soundness.programs_are_sound.Goals as goal

pub returns : goal.returns
returns c = sound
