use Rattle.map_picture.specs.Borders.{AreBorders}
use Rattle.map_picture.proofs.borders.sector_borders.Given as goal

-- the lists have the lines so far
abbrev pub invariant-loop-n : goal.invariant-loop-n
invariant-loop-n l = AreBorders l.map.tables l.n l.borders.items
