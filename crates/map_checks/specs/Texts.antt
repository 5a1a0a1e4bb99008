-- The text of a finding: one line without its end.
use Rattle.std.specs.Prelude.{ℕ, Bool, true, false, List, ◌++◌, codes, decimal}
use Rattle.map_checks.specs.declared.finding.Texture.{Texture}
use Rattle.map_checks.specs.declared.finding.Texture.TheVariants.{Upper, Lower, Middle}
use Rattle.map_checks.specs.declared.finding.Finding.{Finding}
use Rattle.map_checks.specs.declared.finding.Finding.TheVariants.{VertexUnused, SideUnused, SectorUnused, TextureMissing, SectorOpen, NoPlayerStart}

-- the word for a texture
abbrev pub texture_text : Texture → List ℕ
texture_text Upper = codes "upper"
texture_text Lower = codes "lower"
texture_text Middle = codes "middle"

-- the word for a side
abbrev pub side_text : Bool → List ℕ
side_text true = codes "left"
side_text false = codes "right"

-- the text of a finding, its numbers in decimal
abbrev pub finding_text : Finding → List ℕ
finding_text (VertexUnused n) = codes "vertex " ++ decimal n ++ codes " unused"
finding_text (SideUnused n) = codes "side " ++ decimal n ++ codes " unused"
finding_text (SectorUnused n) = codes "sector " ++ decimal n ++ codes " unused"
finding_text (TextureMissing line left texture) =
    codes "line " ++ decimal line ++ codes " " ++ side_text left ++ codes " "
    ++ texture_text texture
    ++ codes " missing"
finding_text (SectorOpen sector vertex) = codes "sector " ++ decimal sector
    ++ codes " open at vertex " ++ decimal vertex
finding_text NoPlayerStart = codes "no player start"
