-- The counts of the levels that are written, and of those that read back from the bytes.
use Rattle.std.proofs.Common.{◌≡◌, ◌∙◌, refl, sym, ap, subst, ℕ, ◌+◌, ◌<◌, List, [], ◌∷◌, length, get_or, take}
use Rattle.std.specs.Prelude.{All, map, sum_by}
use Rattle.std.proofs.lemmas.List.Elements.{All-head, All-tail}
use Rattle.std.proofs.lemmas.List.Sums.{sum_by_more}
use Rattle.lump_records.specs.Names.{name_text}
use Rattle.lump_records.specs.declared.records.Name8.{Name8}
use Rattle.map_tables.specs.Tables.{Tables}
use Rattle.wad_build.specs.Counted.{CountsLevels, CountsMore, IsBuildCounted, level_of}
use Rattle.wad_levels.specs.Levels.{IsLevel, Lumps, lumps_behind, marker_at}
use Rattle.wad_build.specs.Projects.{AreLevelsOf, IsSoundBuildOfAll}
use Rattle.wad_build.specs.Views.{built_view}
use Rattle.wad_build.specs.declared.counted.BuildCounts.{BuildCounts}
use Rattle.wad_build.specs.declared.levels.NamedLevel.{NamedLevel}

-- what the levels hold
abbrev pub views_in : List NamedLevel → List Lumps
views_in xs = map (λ (x : NamedLevel). built_view x.level) xs

-- a sum with one more level
sum_more : (f : Lumps → ℕ) (ls : List Lumps) (n a b : ℕ) (l : Lumps) → n < length ls → get_or ls n l ≡ l
    → a ≡ sum_by f (take n ls) → b ≡ a + f l → b ≡ sum_by f (take (n + 1) ls)
sum_more f ls n a b l within at before more =
    more ∙ ap (λ (k : ℕ). k + f l) before ∙ ap (λ (k : Lumps). sum_by f (take n ls) + f k) (sym at)
    ∙ sym (sum_by_more f ls n l within)

pub counts_more : (ls : List Lumps) (n len : ℕ) (l : Lumps) (old new : BuildCounts) → n < length ls → get_or ls n l ≡ l
    → CountsLevels (take n ls) len old → CountsMore old l new → CountsLevels (take (n + 1) ls) len new
counts_more ls n len l old new within at before more =
    record {
      vertices = sum_more (λ (k : Lumps). length k.vertices) ls n old.vertices new.vertices l within at before.vertices more.vertices;
      segs = sum_more (λ (k : Lumps). length k.segs) ls n old.segs new.segs l within at before.segs more.segs;
      subs = sum_more (λ (k : Lumps). length k.subs) ls n old.subs new.subs l within at before.subs more.subs;
      nodes = sum_more (λ (k : Lumps). length k.nodes) ls n old.nodes new.nodes l within at before.nodes more.nodes;
      bytes = more.bytes ∙ before.bytes;
    }

-- the levels that are written are those that read back from the bytes
levels_back : (wad : List ℕ) (ms : List Tables) (xs : List NamedLevel) → AreLevelsOf ms xs
    → All (λ (x : NamedLevel). IsLevel wad (name_text x.name) (built_view x.level)) xs → views_in xs ≡ map (level_of wad) ms
levels_back wad [] [] a r = refl
levels_back wad [] (x ∷ xs) a r = absurd a
levels_back wad (m ∷ ms) [] a r = absurd a
levels_back wad (m ∷ ms) (x ∷ xs) a r =
    let P = λ (y : NamedLevel). IsLevel wad (name_text y.name) (built_view y.level) in
    let here = All-head P x xs r in
    ap (λ (l : Lumps). l ∷ views_in xs)
    (here.holds ∙ ap (λ (name : Name8). lumps_behind wad (marker_at wad (name_text name))) a.0.named)
    ∙ ap (λ (ls : List Lumps). level_of wad m ∷ ls) (levels_back wad ms xs a.1 (All-tail P x xs r))

pub is_counted : (wad : List ℕ) (ms : List Tables) (xs : List NamedLevel) (c : BuildCounts) → AreLevelsOf ms xs
    → All (λ (x : NamedLevel). IsLevel wad (name_text x.name) (built_view x.level)) xs → IsSoundBuildOfAll ms wad
    → CountsLevels (views_in xs) (length wad) c → IsBuildCounted ms wad c
is_counted wad ms xs c a r sound counts =
    record {
      build = sound;
      counts = subst (λ (ls : List Lumps). CountsLevels ls (length wad) c) (levels_back wad ms xs a r) counts;
    }
