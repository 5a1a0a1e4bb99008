-- What a build of all maps has written.
use Rattle.std.proofs.Common.{◌≡◌, refl, ap, sym, subst, ℕ, List, length, Option}
use Rattle.std.specs.Prelude.{All}
use Rattle.std.specs.Io.KnownBytes.{Appends}
use Rattle.map_tables.specs.Tables.{Tables, empty_tables}
use Rattle.map_tables.specs.Projects.{ProjectMaps, WellFormedProject}
use Rattle.wad_build.specs.Counted.{CountsLevels}
use Rattle.wad_build.specs.Projects.{AreLevelsOf}
use Rattle.wad_build.specs.Views.{built_view, level_parts}
use Rattle.wad_build.specs.Wad.{AreParts, IsCoded, all_lumps, wad_bytes}
use Rattle.wad_build.specs.Written.{IsWadWritten}
use Rattle.wad_build.specs.declared.counted.BuildCounts.{BuildCounts}
use Rattle.wad_build.specs.declared.levels.NamedLevel.{NamedLevel}
use Rattle.wad_build.proofs.CountedLemmas.{is_counted, views_in}
use Rattle.wad_build.proofs.LevelLemmas.{IsSizedLevel, levels_read}
use Rattle.wad_build.proofs.ProjectLemmas.{all_sound, holds_only, levels_sized, one_wad}

-- the levels are lent as a slice of the same items
pub lent_sized : (p : ProjectMaps) (xs ys : List NamedLevel) → AreLevelsOf p.maps xs → ys ≡ xs → All IsSizedLevel ys
lent_sized p xs ys a same = subst (All IsSizedLevel) (sym same) (levels_sized p.maps xs a)

pub lent_parts : (p : ProjectMaps) (xs ys : List NamedLevel) → WellFormedProject p → AreLevelsOf p.maps xs → ys ≡ xs → AreParts (level_parts ys)
lent_parts p xs ys w a same = subst (λ (zs : List NamedLevel). AreParts (level_parts zs)) (sym same) (one_wad p xs empty_tables w a)

-- the counts were made of one slice of them, and the PWAD written of another
pub wad_written : (p : ProjectMaps) (xs ys zs : List NamedLevel) (c : BuildCounts) (u v : Option (List ℕ)) → WellFormedProject p → AreLevelsOf p.maps xs → ys ≡ xs → zs ≡ xs
    → CountsLevels (views_in ys) (length (wad_bytes (all_lumps (level_parts ys)))) c → Appends u v (wad_bytes (all_lumps (level_parts zs)))
    → All (λ (l : NamedLevel). IsCoded (built_view l.level)) zs → IsWadWritten p.maps c u v
wad_written p xs ys zs c u v w a y z counts put coded =
    let wad = wad_bytes (all_lumps (level_parts xs)) in
    let here : All (λ (l : NamedLevel). IsCoded (built_view l.level)) xs = subst (λ (ls : List NamedLevel). All (λ (l : NamedLevel). IsCoded (built_view l.level)) ls) z coded in
    let read = levels_read wad xs (one_wad p xs empty_tables w a) refl here in
    let counted = subst (λ (ls : List NamedLevel). CountsLevels (views_in ls) (length (wad_bytes (all_lumps (level_parts ls)))) c) y counts in (
      wad,
      is_counted wad p.maps xs c a read (all_sound wad p.maps xs a read) counted,
      holds_only wad p.maps xs a refl,
      subst (λ (ls : List NamedLevel). Appends u v (wad_bytes (all_lumps (level_parts ls)))) z put,
    )
