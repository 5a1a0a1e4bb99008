-- The lines that ask something and change nothing, and the answers that they may have
-- (docs/COMMANDS.md, "Answers and queries").
use Rattle.std.specs.Prelude.{◌≡◌, ◌≢◌, ◌⊎◌, List, ℕ, [], ◌∷◌, ◌++◌, length, drop, flat_map, find, Option, Result, MatchResult, codes, bytes_eq}
use Rattle.std.specs.Io.KnownBytes.{Appends}
use Rattle.lump_records.specs.Names.{name_text}
use Rattle.lump_records.specs.Records.{seg_record, sub_record, node_record, vertex_record}
use Rattle.map_tables.specs.Body.{lump_of}
use Rattle.map_tables.specs.Projects.{ProjectMaps, current_map}
use Rattle.map_tables.specs.Tables.{Tables}
use Rattle.map_tables.specs.declared.kind.Kind.{Kind}
use Rattle.map_tables.specs.declared.kind.Kind.TheVariants as kind
use Rattle.map_checks.specs.Findings.{findings}
use Rattle.wad_build.specs.Errors.{build_code_of}
use Rattle.wad_levels.specs.Levels.{IsLevel, Lumps}
use Rattle.wad_build.specs.Projects.{IsRefusalOfAll}
use Rattle.wad_build.specs.Sound.{IsBuildRefusal, IsSoundBuild}
use Rattle.wad_build.specs.declared.error.BuildError.{BuildError}
use Rattle.wad_build.specs.declared.error.BuildError.TheVariants as refused
use Rattle.wad_build.specs.Counted.{IsBuildCounted}
use Rattle.run_edit.specs.Building.{built_text}
use Rattle.run_edit.specs.Runs.{Unwritten}
use Rattle.run_edit.specs.Texts.{count_text, findings_text, hex_text, maps_text, refused_text}
use Rattle.wad_build.specs.declared.counted.BuildCounts.{BuildCounts}
use Rattle.run_edit.specs.declared.error.EditorError.{EditorError}
use Rattle.run_edit.specs.declared.error.EditorError.TheVariants.{OutOfMemory, WriterFailed}
use Rattle.run_edit.specs.declared.lump.BuiltLump.{BuiltLump}
use Rattle.run_edit.specs.declared.lump.BuiltLump.TheVariants.{Segs, Ssectors, Nodes, Reject, Blockmap, Added}
use Rattle.run_edit.specs.declared.lump.Lump.{Lump}
use Rattle.run_edit.specs.declared.lump.Lump.TheVariants.{Things, Linedefs, Sidedefs, Vertexes, Sectors}
use Rattle.run_edit.specs.declared.query.Query.{Query}
use Rattle.run_edit.specs.declared.query.Query.TheVariants.{Check, Count, Maps, Build, Hex, HexBuilt}

-- ---- Lines

-- the line of each query for a drawn lump, with the query
abbrev pub drawn_lines : List (List ℕ × Query)
drawn_lines =
    (codes "hex THINGS", Hex Things) ∷ (codes "hex LINEDEFS", Hex Linedefs)
    ∷ (codes "hex SIDEDEFS", Hex Sidedefs)
    ∷ (codes "hex VERTEXES", Hex Vertexes) ∷ (codes "hex SECTORS", Hex Sectors) ∷ []

-- the line of each query for a built lump, with the query
abbrev pub built_lines : List (List ℕ × Query)
built_lines =
    (codes "hex SEGS", HexBuilt Segs) ∷ (codes "hex SSECTORS", HexBuilt Ssectors)
    ∷ (codes "hex NODES", HexBuilt Nodes) ∷ (codes "hex REJECT", HexBuilt Reject)
    ∷ (codes "hex BLOCKMAP", HexBuilt Blockmap) ∷ (codes "hex ADDED", HexBuilt Added) ∷ []

-- the line of each query, with the query
abbrev pub queries : List (List ℕ × Query)
queries =
    (codes "check", Check) ∷ (codes "count", Count) ∷ (codes "maps", Maps) ∷ (codes "build", Build)
    ∷ (drawn_lines ++ built_lines)

-- the query, if the line is one
abbrev pub query_of : List ℕ → Option (List ℕ × Query)
query_of line = find (λ q. bytes_eq line q.0) queries

-- ---- Lumps

-- the kind of item whose records are in a drawn lump
abbrev pub kind_of_lump : Lump → Kind
kind_of_lump Things = kind.Thing
kind_of_lump Linedefs = kind.Line
kind_of_lump Sidedefs = kind.Side
kind_of_lump Vertexes = kind.Vertex
kind_of_lump Sectors = kind.Sector

-- the bytes of a lump of the level that a build makes from the map; `ADDED` has the vertices after
-- the drawn ones
abbrev pub built_lump_of : Tables → Lumps → BuiltLump → List ℕ
built_lump_of m l Segs = flat_map seg_record l.segs
built_lump_of m l Ssectors = flat_map sub_record l.subs
built_lump_of m l Nodes = flat_map node_record l.nodes
built_lump_of m l Reject = l.reject
built_lump_of m l Blockmap = l.blockmap
built_lump_of m l Added = flat_map vertex_record (drop (length m.vertices) l.vertices)

-- some sound build of the map holds the level
pub record IsOfBuild (m : Tables) (l : Lumps) : Type 0 where
  pub wad : List ℕ
  pub build : IsSoundBuild m wad
  pub reads : IsLevel wad (name_text m.name) l

-- ---- Answers

-- `no CODE` with the cause for which a build is refused, which isn't lack of memory
pub record TellsRefusal (IsCause : BuildError → Type 0) (text : List ℕ) : Type 0 where
  pub error : BuildError
  pub cause : IsCause error
  pub not_memory : error ≢ refused.OutOfMemory
  pub told : text ≡ refused_text (build_code_of error)

-- the text has the counts of some sound build of each map, or the refusal of the first map that
-- can't be built
abbrev pub TellsBuild : List Tables → List ℕ → Type 0
TellsBuild ms text =
    ((wad : List ℕ) × (c : BuildCounts) × IsBuildCounted ms wad c × (text ≡ built_text c))
    ⊎ TellsRefusal (IsRefusalOfAll ms) text

-- the text has the bytes of a lump of some sound build of the map, or the refusal of its build
abbrev pub TellsBuilt : Tables → BuiltLump → List ℕ → Type 0
TellsBuilt m lump text =
    ((l : Lumps) × IsOfBuild m l × (text ≡ hex_text (built_lump_of m l lump)))
    ⊎ TellsRefusal (IsBuildRefusal m) text

-- the text is an answer to the query, about the maps as they are
abbrev pub IsAnswer : ProjectMaps → Query → List ℕ → Type 0
IsAnswer p Check text = text ≡ findings_text (findings (current_map p))
IsAnswer p Count text = text ≡ count_text (current_map p)
IsAnswer p Maps text = text ≡ maps_text p
IsAnswer p Build text = TellsBuild p.maps text
IsAnswer p (Hex lump) text = text ≡ hex_text (lump_of (current_map p) (kind_of_lump lump))
IsAnswer p (HexBuilt lump) text = TellsBuilt (current_map p) lump text

-- an answer to the query must be built in memory
abbrev pub TakesMemory : Query → Type 0
TakesMemory Check = Unit {0}
TakesMemory Count = ⊥
TakesMemory Maps = ⊥
TakesMemory Build = Unit {0}
TakesMemory (Hex lump) = Unit {0}
TakesMemory (HexBuilt lump) = Unit {0}

-- ---- What a call wrote

-- a text that fits wasn't written: the text takes memory, there was none and nothing was written;
-- or the writer failed during such a text
pub record Unanswered (e : EditorError) (Fits : List ℕ → Type 0) (TakesLines : Type 0)
    (writer-old writer-new : Option (List ℕ)) : Type 0 where
  pub unwritten : Unwritten e writer-old writer-new
  pub lacks : e ≡ OutOfMemory → TakesLines
  pub failed : e ≡ WriterFailed → (text : List ℕ) × Fits text

-- how a call ended that should write a fitting text
abbrev pub WritesText : {U : Type 0} → Result U EditorError → (List ℕ → Type 0) → Type 0
    → Option (List ℕ) → Option (List ℕ) → Type 0
WritesText result Fits TakesLines writer-old writer-new =
    MatchResult result (λ _. (text : List ℕ) × Fits text × Appends writer-old writer-new text)
    (λ e. Unanswered e Fits TakesLines writer-old writer-new)

-- how a call ended that should answer a query: an answer was written; or nothing, for lack of
-- memory that the answer takes; or the writer failed during an answer
abbrev pub WritesAnswer : {U : Type 0} → Result U EditorError → ProjectMaps → Query
    → Option (List ℕ) → Option (List ℕ) → Type 0
WritesAnswer result p query writer-old writer-new =
    WritesText result (λ text. IsAnswer p query text) (TakesMemory query) writer-old writer-new

-- the same for a lump that a build of the map makes
abbrev pub WritesBuilt : {U : Type 0} → Result U EditorError → Tables → BuiltLump → Option (List ℕ)
    → Option (List ℕ) → Type 0
WritesBuilt result m lump writer-old writer-new =
    WritesText result (λ text. TellsBuilt m lump text) (Unit {0}) writer-old writer-new

-- how a call ended that should write `no CODE` for a refused build: for lack of memory nothing was
-- written; for any other cause it was written, or the writer failed
abbrev pub WritesRefusal : {U : Type 0} → Result U EditorError → BuildError → Option (List ℕ)
    → Option (List ℕ) → Type 0
WritesRefusal result cause writer-old writer-new =
    MatchResult result (λ _. (cause ≢ refused.OutOfMemory)
    × Appends writer-old writer-new (refused_text (build_code_of cause)))
    (λ e. Unwritten e writer-old writer-new × (e ≡ WriterFailed → cause ≢ refused.OutOfMemory))
