-- Where a script stopped (docs/COMMANDS.md, "Scripts").
use Rattle.std.specs.Prelude.{◌≡◌, ◌<◌, ℕ, All, List}
use Rattle.map_blocks.specs.declared.stop.OpenBlock.{OpenBlock}
use Rattle.map_blocks.specs.declared.stop.Stop.{Stop}

-- it tells of the line at a place, which was refused with a code, and of these blocks
pub record IsStop (line refusal : ℕ) (told : List OpenBlock) (stop : Stop) : Type 0 where
  pub place : stop.place ≡ line
  pub code : stop.code ≡ refusal
  pub blocks : stop.open.items ≡ told

-- its line and those of its blocks are among so many
abbrev pub IsStopWithin : ℕ → Stop → Type 0
IsStopWithin count stop =
    (stop.place < count) × All (λ (b : OpenBlock). b.place < count) stop.open.items
