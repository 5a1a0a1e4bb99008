-- A sound build reads back as the sound level that was built.
use Rattle.std.proofs.Common.{◌≡◌, ◌∙◌, refl, sym, subst, ℕ, List, Option, Some, None}
use Rattle.lump_records.specs.Names.{name_text}
use Rattle.map_tables.specs.Tables.{Tables}
use Rattle.wad_levels.specs.Levels.{Lumps, IsLevel, refusal}
use Rattle.wad_levels.specs.Views.{RefusesLevel}
use Rattle.wad_levels.specs.declared.error.ReadError.{ReadError}
use Rattle.wad_levels.specs.declared.error.ReadError.TheVariants.{LumpLength, NotAWad, DirectoryOutside, NoSuchLevel, LumpMissing, LumpOutside, HexenLevel, TextureLump, OutOfMemory}
use Rattle.wad_build.specs.Sound.{IsSoundBuild, IsSoundLevel}

pub read_is_sound : (m : Tables) (wad : List ℕ) (level : Lumps) → IsSoundBuild m wad → IsLevel wad (name_text m.name) level → IsSoundLevel m level
read_is_sound m wad level s r =
    let same : s.level ≡ level = s.reads.holds ∙ sym r.holds in
    subst (λ (l : Lumps). IsSoundLevel m l) same s.sound

none_some : {X : Type 0} (o : Option X) (x : X) → o ≡ None → o ≡ Some x → ⊥
none_some None x e f = cc
none_some (Some y) x e f = cc

-- reading what was built fails only if memory runs out
pub never_refused : (m : Tables) (wad : List ℕ) (e : ReadError) → IsSoundBuild m wad → RefusesLevel wad (name_text m.name) e → e ≡ OutOfMemory
never_refused m wad LumpLength s r = absurd (none_some (refusal wad (name_text m.name)) LumpLength s.reads.accepted r)
never_refused m wad NotAWad s r = absurd (none_some (refusal wad (name_text m.name)) NotAWad s.reads.accepted r)
never_refused m wad DirectoryOutside s r = absurd (none_some (refusal wad (name_text m.name)) DirectoryOutside s.reads.accepted r)
never_refused m wad NoSuchLevel s r = absurd (none_some (refusal wad (name_text m.name)) NoSuchLevel s.reads.accepted r)
never_refused m wad LumpMissing s r = absurd (none_some (refusal wad (name_text m.name)) LumpMissing s.reads.accepted r)
never_refused m wad LumpOutside s r = absurd (none_some (refusal wad (name_text m.name)) LumpOutside s.reads.accepted r)
never_refused m wad HexenLevel s r = absurd (none_some (refusal wad (name_text m.name)) HexenLevel s.reads.accepted r)
never_refused m wad TextureLump s r = absurd (none_some (refusal wad (name_text m.name)) TextureLump s.reads.accepted r)
never_refused m wad OutOfMemory s r = refl
