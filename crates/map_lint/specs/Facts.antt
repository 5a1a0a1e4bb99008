-- What is counted before the rules are tested.
use Rattle.map_tables.specs.Tables.{Tables}
use Rattle.map_plane.specs.Bands.{AreFiledLines}
use Rattle.map_plane.specs.Crossed.{MarksCrossed}
use Rattle.map_play.specs.Game.{AreGameFacts}
use Rattle.map_play.specs.Tags.{MarksTags}
use Rattle.map_lint.specs.declared.facts.Facts.{Facts}
use Rattle.map_lint.specs.Tags.{line_tag}
use Rattle.map_lint.specs.Tallies.{AreStarts, MarksBordered, AreAreas}

-- these are the facts of the map
pub record AreFacts (m : Tables) (f : Facts) : Type 0 where
  pub line_tags : MarksTags line_tag m.lines f.line_tags.items
  pub starts : AreStarts m 5 f.starts.items
  pub bordered : MarksBordered m m.lines f.bordered.items
  pub areas : AreAreas m f.areas.items
  pub filed : AreFiledLines m f.filed
  pub crossed : MarksCrossed m f.crossed.items
  pub game : AreGameFacts m f.game
