-- The outcome of an edit of a map.
use Rattle.std.specs.Prelude.{◌≡◌, ℕ, ◌+◌, ◌≤◌, Bool, if◌then◌else◌, List, [], ◌∷◌, length, Option, Some, None, Result, Ok, Err, MatchResult}
use Rattle.map_tables.specs.declared.error.MapError.{MapError}
use Rattle.map_tables.specs.declared.error.MapError.TheVariants.{OutOfMemory}
use Rattle.map_tables.specs.declared.edit.Need.{Need}
use Rattle.map_tables.specs.declared.kind.Kind.{Kind}
use Rattle.map_tables.specs.declared.kind.Kind.TheVariants as kind
use Rattle.map_tables.specs.Errors.{code_of}
use Rattle.map_tables.specs.Tables.{Tables, Counts}

-- the least of the codes whose tests hold; the list is by rising code
abbrev pub least : List (ℕ × Bool) → Option ℕ
least [] = None
least (fault ∷ faults) = if fault.1 then Some fault.0 else least faults

-- the outcome of an edit: a new map or project and an answer, or the code that refuses it
abbrev pub unless : {S X : Type 0} → Option ℕ → S → X → Result (S × X) ℕ
unless None new answer = Ok (new, answer)
unless (Some code) new answer = Err code

-- A call that edits a map or a project ended as `edit` says: it returned the answer and made the change, or it
-- failed with the code and changed nothing.
abbrev pub EndsExactly : {S X : Type 0} → Result X MapError → Result (S × X) ℕ → S → S → Type 0
EndsExactly (Ok answer) edit old new = edit ≡ Ok (new, answer)
EndsExactly (Err e) edit old new = (edit ≡ Err (code_of e)) × (new ≡ old)

-- the refusal is the edit's, or out of memory, which is possible whatever the edit's outcome is
abbrev pub RefusesEdit : {S X : Type 0} → MapError → Result (S × X) ℕ → Type 0
RefusesEdit OutOfMemory edit = Unit {0}
RefusesEdit e edit = edit ≡ Err (code_of e)

-- the same for a call that may run out of memory
abbrev pub EndsEdit : {S X : Type 0} → Result X MapError → Result (S × X) ℕ → S → S → Type 0
EndsEdit (Ok answer) edit old new = edit ≡ Ok (new, answer)
EndsEdit (Err e) edit old new = RefusesEdit e edit × (new ≡ old)

-- A test of an edit returns `Ok` if the edit is accepted, otherwise the least code that refuses it.
abbrev pub Tells : {X : Type 0} → Result X MapError → List (ℕ × Bool) → Type 0
Tells result faults =
    MatchResult result (λ _. least faults ≡ None) (λ e. least faults ≡ Some (code_of e))

-- the spare counts are enough for what is needed
pub record Covers (spare : Counts) (need : Need) : Type 0 where
  pub vertices : need.vertices ≤ spare.vertices
  pub sectors : need.sectors ≤ spare.sectors
  pub sides : need.sides ≤ spare.sides
  pub lines : need.lines ≤ spare.lines
  pub things : need.things ≤ spare.things

-- an edit used at most this number of spare places of each kind
pub record Spends (taken : Need) (old new : Counts) : Type 0 where
  pub vertices : old.vertices ≤ new.vertices + taken.vertices
  pub sectors : old.sectors ≤ new.sectors + taken.sectors
  pub sides : old.sides ≤ new.sides + taken.sides
  pub lines : old.lines ≤ new.lines + taken.lines
  pub things : old.things ≤ new.things + taken.things

-- how many items each table has room for in all: if that stays, no table grew or shrank
abbrev pub places : Tables → Counts → Counts
places m spare =
    record {
      vertices = length m.vertices + spare.vertices;
      sectors = length m.sectors + spare.sectors;
      sides = length m.sides + spare.sides;
      lines = length m.lines + spare.lines;
      things = length m.things + spare.things;
    }

-- no spare place
abbrev pub nothing : Counts
nothing = record { vertices = 0; sectors = 0; sides = 0; lines = 0; things = 0 }

-- no item is needed
abbrev pub no_need : Need
no_need = record { vertices = 0; sectors = 0; sides = 0; lines = 0; things = 0 }

-- one item of a kind is needed
abbrev pub one_of : Kind → Need
one_of kind.Vertex = record no_need { vertices = 1 }
one_of kind.Sector = record no_need { sectors = 1 }
one_of kind.Side = record no_need { sides = 1 }
one_of kind.Line = record no_need { lines = 1 }
one_of kind.Thing = record no_need { things = 1 }
