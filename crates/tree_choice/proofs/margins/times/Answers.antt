use Rattle.tree_choice.proofs.FarPlaces.{short_times}
use Rattle.tree_choice.proofs.margins.times.Goals as goal

pub returns-clause-low : goal.returns-clause-low
returns-clause-low c = (short_times c.args.k c.args.z c.ranges.k c.ranges.z (record { low = c.requires.low; high = c.requires.high })).low

pub returns-clause-high : goal.returns-clause-high
returns-clause-high c = (short_times c.args.k c.args.z c.ranges.k c.ranges.z (record { low = c.requires.low; high = c.requires.high })).high
