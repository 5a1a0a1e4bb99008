-- The levels so far are those of the maps so far; if the first map has no line, there is none yet.
use Rattle.std.specs.Prelude.{take}
use Rattle.map_tables.specs.Projects.{project_of}
use Rattle.wad_build.specs.Projects.{AreLevelsOf}
use Rattle.wad_build.proofs.ProjectLemmas.{NoneYet}
use Rattle.wad_build.proofs.projects.levels_of.Given as goal

abbrev pub invariant-loop-n : goal.invariant-loop-n
invariant-loop-n l =
    record {
      levels : AreLevelsOf (take l.n (project_of l.maps).maps) l.levels.items;
      first : NoneYet (project_of l.maps).maps l.n;
    }
