-- No entry from the last one so far has the name.
use Rattle.std.specs.Prelude.{◌≡◌, ◌-◌}
use Rattle.wad_file.specs.Directory.{last_named, lump_count}
use Rattle.wad_file.proofs.wad.Wad.last_named.Given as goal

abbrev pub invariant-loop-behind : goal.invariant-loop-behind
invariant-loop-behind l =
    last_named l.self l.name (lump_count l.self) ≡ last_named l.self l.name (l.count - l.behind)
