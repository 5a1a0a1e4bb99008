-- What `inspect` prints of a level (docs/COMMANDS.md, "The program"): how long its lumps are, and
-- whether it is sound.
use Rattle.std.specs.Prelude.{◌≡◌, ◌↔◌, ◌++◌, ℕ, Bool, true, List, [], ◌∷◌, length, Option, Some, None, codes, decimal}
use Rattle.std.specs.Io.KnownBytes.{Appends, Keeps}
use Rattle.lump_text.specs.Texts.{joined}
use Rattle.wad_build.specs.Audit.{first_fault}
use Rattle.wad_levels.specs.Levels.{IsLevel, Lumps, refusal}
use Rattle.wad_build.specs.Range.{IsInRange}
use Rattle.wad_levels.specs.Views.{RefusesLevel}
use Rattle.wad_build.specs.declared.fault.Fault.{Fault}
use Rattle.wad_build.specs.declared.fault.Fault.TheVariants.{LineVertex, LineSide, SideSector, SegVertex, SegLine, SegSide, SubRange, SubTotal, NodeChild, SubOnce, NodeOnce, Reject, BlockHeader, BlockList}
use Rattle.run_edit.specs.declared.error.InspectError.{InspectError}
use Rattle.run_edit.specs.declared.error.InspectError.TheVariants.{Level, WriterFailed}

-- ---- Texts

-- these counts of the records of the first five lumps
abbrev pub front_text : ℕ → ℕ → ℕ → ℕ → ℕ → List ℕ
front_text things lines sides vertices segs =
    joined
    (codes "things " ∷ decimal things ∷ codes " lines " ∷ decimal lines ∷ codes " sides "
    ∷ decimal sides ∷ codes " vertices " ∷ decimal vertices ∷ codes " segs " ∷ decimal segs ∷ [])

-- these counts of the records of the next three lumps, and the lengths of the last two in bytes
abbrev pub back_text : ℕ → ℕ → ℕ → ℕ → ℕ → List ℕ
back_text subs nodes sectors reject blockmap =
    joined
    (codes " subsectors " ∷ decimal subs ∷ codes " nodes " ∷ decimal nodes ∷ codes " sectors "
    ∷ decimal sectors ∷ codes " reject " ∷ decimal reject ∷ codes " blockmap "
    ∷ decimal blockmap ∷ codes "\n" ∷ [])

-- how many records the lumps have, and how many bytes REJECT and BLOCKMAP have
abbrev pub lengths_text : Lumps → List ℕ
lengths_text l =
    front_text (length l.things) (length l.lines) (length l.sides) (length l.vertices)
    (length l.segs)
    ++ back_text (length l.subs) (length l.nodes) (length l.sectors) (length l.reject)
    (length l.blockmap)

-- the name of a fault
abbrev pub fault_name : Fault → List ℕ
fault_name (LineVertex n) = codes "LineVertex"
fault_name (LineSide n) = codes "LineSide"
fault_name (SideSector n) = codes "SideSector"
fault_name (SegVertex n) = codes "SegVertex"
fault_name (SegLine n) = codes "SegLine"
fault_name (SegSide n) = codes "SegSide"
fault_name (SubRange n) = codes "SubRange"
fault_name SubTotal = codes "SubTotal"
fault_name (NodeChild n) = codes "NodeChild"
fault_name (SubOnce n) = codes "SubOnce"
fault_name (NodeOnce n) = codes "NodeOnce"
fault_name Reject = codes "Reject"
fault_name BlockHeader = codes "BlockHeader"
fault_name (BlockList n) = codes "BlockList"

-- the number of the faulty item, or 0 if the fault is that of a whole lump
abbrev pub fault_number : Fault → ℕ
fault_number (LineVertex n) = n
fault_number (LineSide n) = n
fault_number (SideSector n) = n
fault_number (SegVertex n) = n
fault_number (SegLine n) = n
fault_number (SegSide n) = n
fault_number (SubRange n) = n
fault_number SubTotal = 0
fault_number (NodeChild n) = n
fault_number (SubOnce n) = n
fault_number (NodeOnce n) = n
fault_number Reject = 0
fault_number BlockHeader = 0
fault_number (BlockList n) = n

-- `fault NAME I`
abbrev pub fault_text : Fault → List ℕ
fault_text fault =
    codes "fault " ++ fault_name fault ++ codes " " ++ decimal (fault_number fault) ++ 10 ∷ []

-- `sound`, or the fault
abbrev pub verdict_text : Option Fault → List ℕ
verdict_text None = codes "sound" ++ 10 ∷ []
verdict_text (Some fault) = fault_text fault

-- what is printed of a level: its lengths, then `sound` or its first fault
abbrev pub level_text : Lumps → List ℕ
level_text l = lengths_text l ++ verdict_text (first_fault l)

-- ---- What was done

-- the text for the WAD's level of this name was written, and `sound` is whether all references of
-- the level are in range
pub record IsInspected (wad name : List ℕ) (sound : Bool)
    (writer-old writer-new : Option (List ℕ)) : Type 0 where
  pub level : Lumps
  pub read : IsLevel wad name level
  pub written : Appends writer-old writer-new (level_text level)
  pub is : (sound ≡ true) ↔ IsInRange level

-- a level was not inspected: it can't be read or audited and nothing was written, or the writer
-- failed
abbrev pub RefusesInspection : List ℕ → List ℕ → InspectError → Option (List ℕ) → Option (List ℕ)
    → Type 0
RefusesInspection wad name (Level e) writer-old writer-new =
    RefusesLevel wad name e × Keeps writer-old writer-new
RefusesInspection wad name WriterFailed writer-old writer-new = refusal wad name ≡ None
