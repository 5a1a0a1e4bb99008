use Rattle.std.proofs.Common.{◌≡◌, ℕ, ◌<◌, ◌≤◌, false, filter}
use Rattle.std.specs.List.{list_any}
use Rattle.map_plane.specs.Bands.{is_in_band}
use Rattle.map_play.specs.Walls.{is_stopped_by}
use Rattle.map_play.proofs.walls.is_walled_in.Given as goal

-- no line of the bands so far stops the thing
abbrev pub invariant-loop-band : goal.invariant-loop-band
invariant-loop-band l =
    (b : ℕ) → l.first ≤ b → b < l.band → list_any (is_stopped_by l.map.tables l.thing l.body) (filter (is_in_band b) l.filed.lines.items) ≡ false
