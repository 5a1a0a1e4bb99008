-- What is counted of a map before the tests of what stops or spoils a game.
use Rattle.std.specs.Prelude.{◌≡◌}
use Rattle.map_tables.specs.Tables.{Tables}
use Rattle.map_play.specs.declared.game.GameFacts.{GameFacts}
use Rattle.map_plane.specs.Bands.{IsFiling}
use Rattle.map_play.specs.Points.{solid_points}
use Rattle.map_play.specs.Donuts.{donut_gaps}
use Rattle.map_play.specs.Exits.{has_exit}
use Rattle.map_play.specs.Locks.{AreKeys}
use Rattle.map_play.specs.Scrolls.{scrolling}
use Rattle.map_play.specs.Sided.{sided_lines}
use Rattle.map_play.specs.Specials.{raisers, special_tag}
use Rattle.map_play.specs.Tags.{tag_of, MarksTags}
use Rattle.map_play.specs.Teleports.{landing_tag}

-- this decides whether a game of the map goes on
pub record AreGameFacts (m : Tables) (f : GameFacts) : Type 0 where
  pub sector_tags : MarksTags tag_of m.sectors f.sector_tags.items
  pub sided : f.sided.items ≡ sided_lines m
  pub raiser_tags : MarksTags (special_tag raisers) m.lines f.raiser_tags.items
  pub donut_gaps : f.donut_gaps.items ≡ donut_gaps m
  pub scrolling : f.scrolling.items ≡ scrolling m
  pub landing_tags : MarksTags (landing_tag m) m.things f.landing_tags.items
  pub has_exit : f.has_exit ≡ has_exit m
  pub keys : AreKeys m.things f.keys
  pub solids : IsFiling (solid_points m) f.solids
