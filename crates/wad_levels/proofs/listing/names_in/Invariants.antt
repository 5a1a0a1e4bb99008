use Rattle.std.proofs.Common.{◌≡◌, filter, map}
use Rattle.std.specs.List.{range_with_len}
use Rattle.wad_levels.specs.Listing.{entry_name, is_level_marker}
use Rattle.wad_levels.proofs.listing.names_in.Given as goal

-- the names of the markers up to the k-th entry
abbrev pub invariant-loop-k : goal.invariant-loop-k
invariant-loop-k l =
    l.names.items ≡ map (entry_name l.wad) (filter (is_level_marker l.wad) (range_with_len 0 l.k))
