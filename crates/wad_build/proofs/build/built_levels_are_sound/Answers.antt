use Rattle.wad_build.proofs.SoundLemmas.{sound_over}
use Rattle.wad_build.proofs.build.built_levels_are_sound.Goals as goal

pub returns : goal.returns
returns c = sound_over
