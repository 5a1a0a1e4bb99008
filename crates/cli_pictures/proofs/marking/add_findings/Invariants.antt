use Rattle.std.proofs.Common.{◌≡◌, ◌++◌, map, take}
use Rattle.cli_pictures.specs.Marking.{finding_mark, said_at}
use Rattle.cli_pictures.proofs.marking.add_findings.Given as goal

-- the marks so far have been added
abbrev pub invariant-loop-finding : goal.invariant-loop-finding
invariant-loop-finding l =
    map said_at l.marks.items ≡ map said_at l.fn.marks.items ++ map (finding_mark l.drawn.tables) (take l.finding-index l.found)
