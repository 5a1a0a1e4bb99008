use Rattle.std.proofs.Common.{arith}
use Rattle.map_plane.proofs.FilingSteps.{no_lines}
use Rattle.map_plane.proofs.bands.empty_bands.Goals as goal

pub returns : goal.returns
returns c =
    no_lines c.loop-band._band c.loop-band.bands.items (omega (arith, c.loop-band-test.false, c.loop-band.auto._band-end)) c.loop-band.invariant
