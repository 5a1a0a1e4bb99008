use Rattle.std.proofs.Common.{◌≡◌, ◌++◌, map, take}
use Rattle.cli_pictures.specs.Marking.{warning_mark, said_at}
use Rattle.cli_pictures.proofs.marking.add_warnings.Given as goal

-- the marks so far have been added
abbrev pub invariant-loop-warning : goal.invariant-loop-warning
invariant-loop-warning l =
    map said_at l.marks.items ≡ map said_at l.fn.marks.items ++ map (warning_mark l.drawn.tables) (take l.warning-index l.warned)
