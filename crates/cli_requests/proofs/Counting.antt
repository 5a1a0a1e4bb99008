-- From the counts that are told to what the request `build` promises.
use Rattle.std.proofs.Common.{◌≡◌, ℕ, List, Option, Result, Ok, Err, refl, sym, subst}
use Rattle.std.specs.Prelude.{MatchResult}
use Rattle.std.specs.Io.KnownBytes.{Appends}
use Rattle.map_tables.specs.Projects.{MapsView, project_of}
use Rattle.wad_build.specs.Counted.{IsBuildCounted}
use Rattle.wad_build.specs.declared.counted.BuildCounts.{BuildCounts}
use Rattle.run_edit.specs.Building.{built_text}
use Rattle.cli_requests.specs.Requests.{IsBuiltFrom}
use Rattle.run_edit.specs.declared.error.EditorError.TheVariants.{WriterFailed}
use Rattle.cli_refusals.specs.declared.refusal.Refusal.{Refusal}
use Rattle.cli_refusals.specs.declared.refusal.Refusal.TheVariants.{Lines}

pub built_told : (r : Result ℕ Refusal) (maps : MapsView) (wad : List ℕ) (c : BuildCounts) (u w : Option (List ℕ)) → IsBuildCounted (project_of maps).maps wad c
    → MatchResult r (λ status. (status ≡ 0) × Appends u w (built_text c)) (λ refusal. refusal ≡ Lines WriterFailed) → IsBuiltFrom maps r u w
built_told (Ok status) maps wad c u w is (done, told) = (wad, c, done, is, told)
built_told (Err refusal) maps wad c u w is same = subst (λ (why : Refusal). IsBuiltFrom maps (Err why) u w) (sym same) refl
