-- The picture of a level of a WAD, by what was drawn of the map that it is.
use Rattle.std.proofs.Common.{◌≡◌, ◌⊎◌, inl, inr, ℕ, Bool, List, Option, None, Result, Ok, Err, refl, subst}
use Rattle.run_edit.specs.declared.error.EditorError.TheVariants.{OutOfMemory, InputTooLong, ReaderFailed, WriterFailed}
use Rattle.wad_levels.specs.declared.entries.LevelEntries.{LevelEntries}
use Rattle.map_tables.specs.Tables.{Tables}
use Rattle.cli_refusals.specs.declared.refusal.Refusal.{Refusal}
use Rattle.cli_refusals.specs.declared.refusal.Refusal.TheVariants.{Build, Level, Lines, NoSuchMap, NotAMap, Project, TreeOutside}
use Rattle.map_svg.specs.declared.overlay.Overlay.{Overlay}
use Rattle.cli_print.specs.LevelLines.{IsMapRefusal, level_map, map_refusal}
use Rattle.cli_pictures.specs.LevelPicture.{IsLaidOverLevel, IsLevelPicturedOf, NotPictured, RefusesLayers}
use Rattle.cli_pictures.specs.Picturing.{IsDrawn}
use Rattle.cli_print.specs.WantedLevels.{IsWanted}
use Rattle.cli_pictures.specs.declared.laid_over.Layers.{Layers}

-- the level that was wanted was drawn so
pub level_drawn : (layers : Layers) (name : Option (List ℕ)) (into : Bool) (wad : List ℕ) (how : Result ℕ Refusal) (u w : Option (List ℕ)) (l : LevelEntries) (m : Tables) (o : Overlay)
    → IsWanted wad name l → map_refusal wad l ≡ None → m ≡ level_map wad l → IsLaidOverLevel layers wad l m o → IsDrawn layers m o into how u w
    → IsLevelPicturedOf layers name into wad how u w
level_drawn layers name into wad (Ok status) u w l m o wanted none is laid done = (
  l,
  o,
  wanted,
  none,
  subst (λ (t : Tables). IsLaidOverLevel layers wad l t o) is laid,
  subst (λ (t : Tables). IsDrawn layers t o into (Ok status) u w) is done,
)
level_drawn layers name into wad (Err (Lines OutOfMemory)) u w l m o wanted none is laid (why, kept) = inl (inr (inr (inr refl)), kept)
level_drawn layers name into wad (Err (Lines WriterFailed)) u w l m o wanted none is laid left = inr (refl, left)
level_drawn layers name into wad (Err (Lines InputTooLong)) u w l m o wanted none is laid never = absurd never
level_drawn layers name into wad (Err (Lines ReaderFailed)) u w l m o wanted none is laid never = absurd never
level_drawn layers name into wad (Err (Project e)) u w l m o wanted none is laid never = absurd never
level_drawn layers name into wad (Err (Level e)) u w l m o wanted none is laid never = absurd never
level_drawn layers name into wad (Err (Build e)) u w l m o wanted none is laid never = absurd never
level_drawn layers name into wad (Err NoSuchMap) u w l m o wanted none is laid never = absurd never
level_drawn layers name into wad (Err (NotAMap e)) u w l m o wanted none is laid never = absurd never
level_drawn layers name into wad (Err TreeOutside) u w l m o wanted none is laid never = absurd never

-- the level that was wanted is no map
pub level_no_map : (layers : Layers) (name : Option (List ℕ)) (wad : List ℕ) (r : Refusal) (l : LevelEntries) → IsWanted wad name l → IsMapRefusal wad l r → NotPictured layers name wad r
level_no_map layers name wad (Lines OutOfMemory) l wanted is = inr (inr (inr refl))
level_no_map layers name wad (NotAMap e) l wanted is = inr (inl (l, e, wanted, is, refl))
level_no_map layers name wad (Lines InputTooLong) l wanted never = absurd never
level_no_map layers name wad (Lines ReaderFailed) l wanted never = absurd never
level_no_map layers name wad (Lines WriterFailed) l wanted never = absurd never
level_no_map layers name wad (Project e) l wanted never = absurd never
level_no_map layers name wad (Level e) l wanted never = absurd never
level_no_map layers name wad (Build e) l wanted never = absurd never
level_no_map layers name wad NoSuchMap l wanted never = absurd never
level_no_map layers name wad TreeOutside l wanted never = absurd never

-- nothing could be laid over the level that was wanted
pub level_bare : (layers : Layers) (name : Option (List ℕ)) (wad : List ℕ) (r : Refusal) (l : LevelEntries) → IsWanted wad name l
    → RefusesLayers layers wad l r ⊎ (r ≡ Lines OutOfMemory) → NotPictured layers name wad r
level_bare layers name wad r l wanted (inl refused) = inr (inr (inl (l, wanted, refused)))
level_bare layers name wad r l wanted (inr memory) = inr (inr (inr memory))
