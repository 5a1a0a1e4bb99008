use Rattle.cli_dump.specs.LevelDumps.{dumped_maps}
use Rattle.cli_dump.proofs.laws.draw_dumped_levels.Goals as goal

pub returns : goal.returns
returns c = λ exact wad ls fine room.
    let ms = dumped_maps exact wad ls in
    let made = c.draw_maps_in_turn.ensures ms (record { count = room.count; maps = fine; names = room.names }) in
    record { cut = c.map_dumps_are_cut_into_lines.ensures ms fine; drawn = made.0; holds = made.1; leads = made.2 }
