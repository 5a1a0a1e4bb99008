use Rattle.wad_build.proofs.AuditLemmas.{in_range-no_fault}
use Rattle.wad_build.proofs.ReadBackLemmas.{read_is_sound, never_refused}
use Rattle.wad_build.proofs.laws.sound_builds_read_back.Goals as goal

pub returns-clause-read : goal.returns-clause-read
returns-clause-read c = read_is_sound

pub returns-clause-memory : goal.returns-clause-memory
returns-clause-memory c = never_refused

pub returns-clause-no_fault : goal.returns-clause-no_fault
returns-clause-no_fault c = λ m level s. in_range-no_fault level s.in_range
