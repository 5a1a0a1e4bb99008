-- What the lines of a dump draw, and the lines into which its text is cut.
use Rattle.std.specs.Prelude.{◌≡◌, ℕ, ◌≤◌, List}
use Rattle.map_tables.specs.Projects.{ProjectMaps, WellFormedProject, body_len, empty_project}
use Rattle.map_commands.specs.ProjectLines.{Leads}
use Rattle.map_dump.specs.Dump.{dump_of}
use Rattle.map_dump.specs.Texts.{IsCutInto, text_of}

-- each line of the project's dump is accepted, and the lines lead from the empty project to this one, at each limit
-- that is at least the length of its body
abbrev pub DrawsAgain : ProjectMaps → Type 0
DrawsAgain p = (cap : ℕ) → body_len p ≤ cap → Leads cap empty_project (dump_of p) p

-- every well-formed project is drawn again by its dump
abbrev pub DumpsDrawAgain : Type 0
DumpsDrawAgain = (p : ProjectMaps) → WellFormedProject p → DrawsAgain p

-- two well-formed projects with the same dump are equal
abbrev pub DumpsTellProjectsApart : Type 0
DumpsTellProjectsApart =
    (p q : ProjectMaps) → WellFormedProject p → WellFormedProject q → dump_of p ≡ dump_of q → p ≡ q

-- the text of the lines is cut into these lines, and into no others
pub record HoldsItsLines (lines : List (List ℕ)) : Type 0 where
  pub cut : IsCutInto (text_of lines) lines
  pub only : (others : List (List ℕ)) → IsCutInto (text_of lines) others → others ≡ lines

-- the text of every well-formed project's dump is cut into the lines of the dump
abbrev pub DumpsAreCutIntoLines : Type 0
DumpsAreCutIntoLines = (p : ProjectMaps) → WellFormedProject p → HoldsItsLines (dump_of p)
