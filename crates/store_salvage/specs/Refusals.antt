-- The refusals of a salvage: their numbers, their texts and their causes.
use Rattle.std.specs.Prelude.{◌≡◌, ◌≤◌, ◌⊎◌, ℕ, List, ◌++◌, codes, decimal}
use Rattle.store_disk.specs.declared.area.Area.{Area}
use Rattle.store_slots.specs.Bodies.{IsLive}
use Rattle.store_slots.specs.Damage.{AreBlank, AreSlotsDamagedAt}
use Rattle.map_tables.specs.ProjectBody.{NoProjectHas}
use Rattle.store_project.specs.Damage.{HasBadGeometry, IsBlank, IsForeign}
use Rattle.store_project.specs.Places.{which_parts}
use Rattle.store_project.specs.Stands.{HasGeometry}
use Rattle.store_project.specs.declared.geometry.Geometry.{Geometry}
use Rattle.store_project.specs.declared.places.Places.{Places}
use Rattle.store_salvage.specs.declared.error.SalvageError.{SalvageError}
use Rattle.store_salvage.specs.declared.error.SalvageError.TheVariants.{Damaged, Blank, NotAProject, BadGeometry, OutOfMemory}

-- the number of each refusal
abbrev pub code_of : SalvageError → ℕ
code_of (Damaged place) = 40
code_of Blank = 41
code_of NotAProject = 42
code_of BadGeometry = 44
code_of OutOfMemory = 31

-- the text of a refusal
abbrev pub message_of : SalvageError → List ℕ
message_of (Damaged place) = codes "damaged at " ++ decimal place
message_of Blank = codes "no slot is open"
message_of NotAProject = codes "not a project"
message_of BadGeometry = codes "a length is outside its limits"
message_of OutOfMemory = codes "out of memory"

-- reading the header fails because the bytes have none, or have one with lengths outside the limits
abbrev pub RefusesGeometry : List ℕ → SalvageError → Type 0
RefusesGeometry file NotAProject = IsForeign file
RefusesGeometry file BadGeometry = HasBadGeometry file
RefusesGeometry file _ = ⊥

-- finding the live one of two slots fails because none is open, or because they are damaged
abbrev pub RefusesLiveSlot : Area → Area → List ℕ → SalvageError → Type 0
RefusesLiveSlot a b file Blank = AreBlank a b file
RefusesLiveSlot a b file (Damaged place) = AreSlotsDamagedAt a b place file
RefusesLiveSlot a b file _ = ⊥

-- reading a live body, whose slot is at this offset, fails because no project has this body
abbrev pub RefusesLiveBody : List ℕ → ℕ → SalvageError → Type 0
RefusesLiveBody body place OutOfMemory = Unit {0}
RefusesLiveBody body place (Damaged at) = NoProjectHas body × (at ≡ place)
RefusesLiveBody body place _ = ⊥

-- the live slot is at this offset and has a body that no project has
pub record HasNoBody (g : Geometry) (p : Places) (place : ℕ) (file : List ℕ) : Type 0 where
  pub slot : ℕ
  pub which : slot ≤ 1
  pub generation : ℕ
  pub body : List ℕ
  pub live : IsLive (which_parts p slot).live (which_parts p slot).other generation body file
  pub none : NoProjectHas body
  pub there : place ≡ (which_parts p slot).live.base

-- no maps can be read from the slots: they are damaged at this offset, or no project has the live body
abbrev pub IsLostAt : ℕ → List ℕ → Type 0
IsLostAt place file = (g : Geometry) × (p : Places) × HasGeometry g p file
    × (AreSlotsDamagedAt p.a p.b place file ⊎ HasNoBody g p place file)

-- why nothing can be salvaged: the same cause for which opening fails
abbrev pub RefusesSalvage : List ℕ → SalvageError → Type 0
RefusesSalvage file OutOfMemory = Unit {0}
RefusesSalvage file NotAProject = IsForeign file
RefusesSalvage file BadGeometry = HasBadGeometry file
RefusesSalvage file Blank = IsBlank file
RefusesSalvage file (Damaged place) = IsLostAt place file
