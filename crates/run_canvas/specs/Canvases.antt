-- What a script is drawn onto, a project file or maps in memory, and what each promises for a
-- command and for a query (docs/COMMANDS.md, "Answers and queries").
use Rattle.std.specs.Prelude.{◌≡◌, ◌⊎◌, ℕ, Bool, true, false, List, Option, Some, None, MatchOption, Result, is_some}
use Rattle.std.specs.Io.KnownBytes.{Appends, Keeps}
use Rattle.store_disk.specs.declared.disk.Disk.{Ghosts}
use Rattle.map_tables.specs.Projects.{ProjectMaps, empty_project, project_of}
use Rattle.store_project.specs.States.{State}
use Rattle.run_edit.specs.Answers.{ChangesBy}
use Rattle.run_edit.specs.Queries.{IsAnswer, TakesMemory, query_of}
use Rattle.run_edit.specs.declared.limits.TheConstants.{LONGEST_BODY}
use Rattle.run_edit.specs.declared.query.Query.{Query}
use Rattle.run_canvas.specs.Rooms.{MakesRoom}
use Rattle.run_canvas.specs.Waiting.{BeginsLine, ChangesProject, Drawing, Loses, Settles, drawn_maps}
use Rattle.run_canvas.specs.declared.canvas.Canvas as canvas

-- ---- Queries

-- the first if the test holds, else the second
abbrev pub OneOf : Bool → Type 0 → Type 0 → Type 0
OneOf true P Q = P
OneOf false P Q = Q

-- whether a line is a query of `edit`
abbrev pub is_query_line : List ℕ → Bool
is_query_line line = is_some (query_of line)

-- an answer to a query about these maps was written; or the answer takes memory, there was none,
-- the query was refused and nothing was written
abbrev pub TellsQuery : ProjectMaps → Query → Option ℕ → Option (List ℕ) → Option (List ℕ) → Type 0
TellsQuery p query None writer-old writer-new =
    (text : List ℕ) × IsAnswer p query text × Appends writer-old writer-new text
TellsQuery p query (Some code) writer-old writer-new =
    (code ≡ 31) × TakesMemory query × Keeps writer-old writer-new

-- the answer to a query about these maps was written; a line that is no query is refused
abbrev pub TellsOfMaps : ProjectMaps → List ℕ → Option ℕ → Option (List ℕ) → Option (List ℕ)
    → Type 0
TellsOfMaps p line refusal writer-old writer-new =
    MatchOption (query_of line) ((refusal ≡ Some 1) × Keeps writer-old writer-new)
    (λ q. TellsQuery p q.1 refusal writer-old writer-new)

-- the same for a project, of which nothing waits; if it must be reopened, it refuses every query
abbrev pub TellsOfProject : {D : Type 0} → State D → List ℕ → Option ℕ → Option (List ℕ)
    → Option (List ℕ) → Type 0
TellsOfProject project line refusal writer-old writer-new =
    OneOf project.must_reopen ((refusal ≡ Some 32) × Keeps writer-old writer-new)
    (TellsOfMaps (project_of project.maps) line refusal writer-old writer-new)

-- what waited was put, and then the query was answered or refused; or it is lost, and the query is
-- refused with 30
abbrev pub TellsBehind : {D : Type 0} → Ghosts D → Drawing D → List ℕ → Option ℕ → Drawing D
    → Option (List ℕ) → Option (List ℕ) → Type 0
TellsBehind facts old line refusal new writer-old writer-new =
    (Settles facts old new × (new.has_lost ≡ old.has_lost)
    × TellsOfProject new.project line refusal writer-old writer-new)
    ⊎ ((refusal ≡ Some 30) × Loses facts old new × Keeps writer-old writer-new)

-- ---- Maps in memory

-- what a contract sees of them: the maps, and how long their body may be
pub record Drafted : Type 0 where
  pub maps : ProjectMaps
  pub cap : ℕ

-- the empty project, which may grow as long as that of any project file
abbrev pub first_draft : Drafted
first_draft = record { maps = empty_project; cap = LONGEST_BODY }

-- the maps of a project, which may grow as long as they may there
abbrev pub draft_over : {D : Type 0} → State D → Drafted
draft_over project = record { maps = project_of project.maps; cap = project.cap }

-- a line that is no query changed the maps alone
abbrev pub ChangesDraft : Drafted → List ℕ → Result ℕ ℕ → Drafted → Type 0
ChangesDraft old line outcome new =
    ChangesBy old.cap old.maps line outcome new.maps × (new.cap ≡ old.cap)

-- the maps stay, and the answer to a query about them was written
abbrev pub TellsOfDraft : Drafted → List ℕ → Option ℕ → Drafted → Option (List ℕ)
    → Option (List ℕ) → Type 0
TellsOfDraft old line refusal new writer-old writer-new =
    (new ≡ old) × TellsOfMaps old.maps line refusal writer-old writer-new

-- ---- Canvases

-- a project over a disk
abbrev pub project_canvas : {D : Type 0} → Ghosts D → canvas.Ghosts (Drawing D)
project_canvas facts = record {
  changes = ChangesProject facts;
  maps_in = drawn_maps;
  cap_in = λ d. d.project.cap;
  is_query = is_query_line;
  tells = TellsBehind facts;
  begins = λ old place alone new. BeginsLine facts old alone new;
  makes_room = MakesRoom facts;
  settles = Settles facts;
  loses = Loses facts;
  is_alone = λ d. d.is_alone;
  holds_earlier = λ d. d.holds_earlier;
  has_lost = λ d. d.has_lost;
}

-- maps in memory; no command waits
abbrev pub draft_canvas : canvas.Ghosts Drafted
draft_canvas = record {
  changes = ChangesDraft;
  maps_in = λ d. d.maps;
  cap_in = λ d. d.cap;
  is_query = is_query_line;
  tells = TellsOfDraft;
  begins = λ old place alone new. new ≡ old;
  makes_room = λ old lines refusal new. (refusal ≡ None) × (new ≡ old);
  settles = λ old new. new ≡ old;
  loses = λ old new. ⊥;
  is_alone = λ _. true;
  holds_earlier = λ _. false;
  has_lost = λ _. false;
}

-- no command waits on a canvas
abbrev pub NothingWaits : {S : Type 0} → canvas.Ghosts S → S → Type 0
NothingWaits {S = S} facts canvas = (last : S) → ¬ facts.loses canvas last
