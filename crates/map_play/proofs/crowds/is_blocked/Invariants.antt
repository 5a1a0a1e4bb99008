use Rattle.std.proofs.Common.{◌≡◌, ℕ, ◌<◌, ◌≤◌, false, filter}
use Rattle.std.specs.List.{list_any}
use Rattle.map_plane.specs.Bands.{is_in_band}
use Rattle.map_play.specs.Points.{is_blocked_at}
use Rattle.map_play.proofs.crowds.is_blocked.Given as goal

-- no thing of the bands so far is in the way
abbrev pub invariant-loop-band : goal.invariant-loop-band
invariant-loop-band l =
    (b : ℕ) → l.first ≤ b → b < l.band → list_any (is_blocked_at l.map.tables l.n l.thing l.body) (filter (is_in_band b) l.solids.lines.items) ≡ false
