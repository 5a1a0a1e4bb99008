-- What was made on a disk, and what a file leaves open of what was told of a level.
use Rattle.std.proofs.Common.{◌≡◌, ℕ, List, Option, Result, Ok, Err, IfErr, IfOk, refl, sym, subst}
use Rattle.std.specs.Io.KnownBytes.{Appends}
use Rattle.std.specs.Prelude.{codes, ◌++◌, ◌∷◌, []}
use Rattle.store_disk.specs.Stops.{Each}
use Rattle.store_disk.specs.declared.disk.Disk.{Ghosts}
use Rattle.map_tables.specs.Projects.{ProjectMaps, empty_project}
use Rattle.store_project.specs.Places.{IsAllowed, cap_of}
use Rattle.store_project.specs.Stands.{Stands, TellsLengths}
use Rattle.store_project.specs.declared.geometry.Geometry.{Geometry}
use Rattle.cli_requests.specs.Requests.{IsCreated, IsExamined, IsExaminedOf, IsMade}
use Rattle.run_edit.specs.declared.error.EditorError.TheVariants.{WriterFailed}
use Rattle.cli_refusals.specs.declared.refusal.Refusal.{Refusal}
use Rattle.cli_refusals.specs.declared.refusal.Refusal.TheVariants.{Build, Level, Lines, NoSuchMap, NotAMap, Project, TreeOutside}

pub made_told : {D : Type 0} (facts : Ghosts D) (g : Geometry)
    (before after : D) (how : Result ℕ Refusal) → IfErr how (λ r. r ≡ Lines WriterFailed)
    → Each (facts.may_leave after) (Stands (cap_of g) empty_project 1) → Each (facts.may_leave after) (TellsLengths g) → IsMade facts g before after how
made_told facts g before after (Ok status) failed images lengths = (images, lengths)
made_told facts g before after (Err e) failed images lengths =
    subst (λ (r : Refusal). IsMade facts g before after (Err r)) (sym failed) (images, lengths)

pub created_told : (slot journal : ℕ) (how : Result ℕ Refusal) (u w : Option (List ℕ))
    → IsAllowed slot journal → IfOk how (λ status. (status ≡ 0) × Appends u w (codes "created" ++ 10 ∷ [])) → IfErr how (λ r. r ≡ Lines WriterFailed)
    → IsCreated slot journal how u w
created_told slot journal (Ok status) u w allowed said failed = (said.0, allowed, said.1)
created_told slot journal (Err e) u w allowed said failed = subst (λ (r : Refusal). IsCreated slot journal (Err r) u w) (sym failed) refl

-- each image stands for the empty project, as the one that was made says
pub images_empty : (files : List ℕ → Type 0) (g : Geometry) (cap generation : ℕ) (maps : ProjectMaps) → cap ≡ cap_of g → maps ≡ empty_project
    → generation ≡ 1 → Each files (Stands cap maps generation) → Each files (Stands (cap_of g) empty_project 1)
images_empty files g cap generation maps same empty first images = λ file may.
    subst (λ (n : ℕ). Stands (cap_of g) empty_project n file) first
    (subst (λ (m : ProjectMaps). Stands (cap_of g) m generation file) empty
    (subst (λ (c : ℕ). Stands c maps generation file) same (images file may)))

pub examined_some : (name : List ℕ) (how : Result ℕ Refusal) (r s u w : Option (List ℕ)) → IsExaminedOf name how r s u w → IsExamined name how u w
examined_some name (Ok status) r s u w (wad, all, sound, is, told) = (wad, sound, is, told)
examined_some name (Err (Level e)) r s u w (wad, all, refused) = (wad, refused)
examined_some name (Err (Lines e)) r s u w lost = lost
examined_some name (Err (Project e)) r s u w never = absurd never
examined_some name (Err (Build e)) r s u w never = absurd never
examined_some name (Err NoSuchMap) r s u w never = absurd never
examined_some name (Err (NotAMap e)) r s u w never = absurd never
examined_some name (Err TreeOutside) r s u w never = absurd never
