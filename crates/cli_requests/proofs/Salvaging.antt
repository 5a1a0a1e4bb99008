-- What was written of a file that is salvaged.
use Rattle.std.proofs.Common.{◌≡◌, ◌⊎◌, inl, inr, ⊎_elim, ℕ, List, Option, Result, Ok, Err, ap}
use Rattle.std.proofs.KnownBytes.{Keeps-refl}
use Rattle.store_disk.specs.Stops.{Each, Rose}
use Rattle.store_disk.specs.declared.disk.Disk.{Ghosts}
use Rattle.map_tables.specs.Projects.{MapsView, project_of}
use Rattle.store_project.specs.declared.error.ProjectError.{ProjectError}
use Rattle.store_project.specs.declared.error.ProjectError.TheVariants as opening
use Rattle.cli_refusals.specs.declared.refusal.Refusal.{Refusal}
use Rattle.cli_refusals.specs.declared.refusal.Refusal.TheVariants.{Project, Lines, Level, Build, NoSuchMap, NotAMap, TreeOutside}
use Rattle.store_salvage.specs.Salvages.{IsSalvaged}
use Rattle.cli_dump.specs.Dumping.{IsDumpedOf}
use Rattle.cli_requests.specs.Salvaging.{IsSalvagedFrom, IsSalvagedInto, IsSalvagedOver, IsUnreadFile}

pub salvaged_from : (file : List ℕ) (maps : MapsView) (records behind : ℕ) (how : Result ℕ Refusal) (u w : Option (List ℕ))
    → IsSalvaged (project_of maps) records behind file → IsDumpedOf maps how u w → IsSalvagedFrom file how u w
salvaged_from file maps records behind (Ok status) u w is done = (maps, records, behind, is, done)
salvaged_from file maps records behind (Err (Lines e)) u w is done = (maps, records, behind, is, done)
salvaged_from file maps records behind (Err (Project e)) u w is never = absurd never
salvaged_from file maps records behind (Err (Level e)) u w is never = absurd never
salvaged_from file maps records behind (Err (Build e)) u w is never = absurd never
salvaged_from file maps records behind (Err NoSuchMap) u w is never = absurd never
salvaged_from file maps records behind (Err (NotAMap e)) u w is never = absurd never
salvaged_from file maps records behind (Err TreeOutside) u w is never = absurd never

-- a file that wasn't read
pub unread : {D : Type 0} (facts : Ghosts D) (before after : D) (e : ProjectError) (u : Option (List ℕ)) → (e ≡ opening.Device) ⊎ (e ≡ opening.OutOfMemory)
    → (e ≡ opening.Device → Rose (facts.failures before) (facts.failures after)) → IsSalvagedOver facts before after (Err (Project e)) u u
unread facts before after e u is counted =
    let refusal : ProjectError → Result ℕ Refusal = λ r. Err (Project r) in
    inl ((⊎_elim (λ device. inl (ap refusal device)) (λ memory. inr (ap refusal memory)) is, Keeps-refl u), λ fault. counted (cc))

-- of a real file
pub salvaged_into : (reads : List ℕ → Type 0) (counted : Type 0) (how : Result ℕ Refusal) (u w : Option (List ℕ))
    → (IsUnreadFile how u w × counted) ⊎ ((file : List ℕ) × Each reads (λ other. file ≡ other) × IsSalvagedFrom file how u w) → IsSalvagedInto how u w
salvaged_into reads counted how u w (inl (none, rose)) = inl none
salvaged_into reads counted how u w (inr (file, has, done)) = inr (file, done)
