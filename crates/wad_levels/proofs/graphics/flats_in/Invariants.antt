use Rattle.std.proofs.Common.{◌≡◌, filter, map}
use Rattle.std.specs.List.{range_with_len}
use Rattle.wad_levels.specs.Graphics.{are_flats_open, flat_name, is_flat}
use Rattle.wad_levels.proofs.graphics.flats_in.Given as goal

-- the names of the flats up to the k-th entry, and whether flats stand there
abbrev pub invariant-loop-k : goal.invariant-loop-k
invariant-loop-k l =
    (l.names.items ≡ map (flat_name l.wad) (filter (is_flat l.wad) (range_with_len 0 l.k)))
    × (l.among_flats ≡ are_flats_open l.wad l.k)
