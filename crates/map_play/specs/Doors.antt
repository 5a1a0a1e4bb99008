-- Doors that open by hand: what opens is the sector behind their line.
use Rattle.std.specs.Prelude.{Bool, ◌&&◌, not}
use Rattle.lump_records.specs.declared.records.Line.{Line}
use Rattle.lump_records.specs.Sides.{has_left}
use Rattle.map_play.specs.Specials.{doors, has_special}

-- the line is a door that opens by hand, and has no left side
abbrev pub door_without_back : Line → Bool
door_without_back l = has_special doors l && not (has_left l)
