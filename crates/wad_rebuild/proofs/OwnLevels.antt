-- A level that a build makes of a map is the map as drawn.
use Rattle.std.proofs.Common.{◌≡◌, ◌∙◌, refl, ap, ℕ, ◌+◌, ◌<◌, ◌≤◌, Bool, true, false, List, [], ◌∷◌, ◌++◌, length, take, arith}
use Rattle.std.specs.Prelude.{All, fold, if◌then◌else◌, nat_le, nat_lt}
use Rattle.std.proofs.lemmas.List.{take_at}
use Rattle.std.proofs.lemmas.List.Elements.{All-head, All-tail}
use Rattle.lump_records.specs.declared.records.Line.{Line}
use Rattle.lump_records.specs.declared.records.Vertex.{Vertex}
use Rattle.map_tables.specs.WellFormed.{HasEnds}
use Rattle.wad_build.specs.Reject.{reject_size}
use Rattle.wad_build.specs.Sound.{no_rejects}
use Rattle.wad_levels.specs.Levels.{Lumps}
use Rattle.wad_rebuild.specs.ReadBack.{BuildsAreDrawnAs}
use Rattle.wad_rebuild.specs.Remade.{reject_over, used_count, with_number}

-- lines that name vertices of a list need no more than there are
number_within : (b : Bool) (most count n : ℕ) → count ≤ most → n < most → (if b then count else (n + 1)) ≤ most
number_within true most count n c l = c
number_within false most count n c l = omega arith

count_within : (vs : List Vertex) (ls : List Line) (count : ℕ) → All (HasEnds vs) ls → count ≤ length vs
    → fold (λ (k : ℕ) (x : Line). with_number (with_number k x.v1) x.v2) count ls ≤ length vs
count_within vs [] count ends c = c
count_within vs (x ∷ ls) count ends c =
    let here = All-head (HasEnds vs) x ls ends in
    let first = number_within (nat_lt x.v1 count) (length vs) count x.v1 c here.v1 in
    let second = number_within (nat_lt x.v2 (with_number count x.v1)) (length vs) (with_number count x.v1) x.v2 first here.v2 in
    count_within vs ls (with_number (with_number count x.v1) x.v2) (All-tail (HasEnds vs) x ls ends) second

same_front : (n : ℕ) (vs added : List Vertex) → n ≡ length vs → take n (vs ++ added) ≡ vs
same_front n vs added e = let f : length vs ≡ n = omega arith in take_at vs added n f

none_over : (n : ℕ) (b : Bool) → (if b then no_rejects n else no_rejects n) ≡ no_rejects n
none_over n true = refl
none_over n false = refl

pub own_drawn : BuildsAreDrawnAs
own_drawn m level d built holds used =
    let is = built.is_over in
    let lines : d.lines ≡ m.lines = holds.lines ∙ ap (λ (x : Lumps). x.lines) is in
    let added = built.built.sound.added_ends in
    let vertices : d.vertices ≡ m.vertices ++ added.added = holds.vertices ∙ ap (λ (x : Lumps). x.vertices) is ∙ added.all in
    let few : used_count m.lines ≤ length m.vertices = count_within m.vertices m.lines 0 built.well_formed.ends (omega arith) in
    let all : used_count m.lines ≡ length m.vertices = omega (arith, few, used) in
    let reject : d.reject ≡ no_rejects (length m.sectors) = holds.reject ∙ ap (λ (x : Lumps). x.reject) is in
    let sight : reject_over (length m.sectors) d.reject ≡ no_rejects (length m.sectors) =
    ap (reject_over (length m.sectors)) reject ∙ none_over (length m.sectors) (nat_le (reject_size (length m.sectors)) (length (no_rejects (length m.sectors)))) in
    record {
      well_formed = built.well_formed;
      things = holds.things ∙ ap (λ (x : Lumps). x.things) is;
      lines = lines;
      sides = holds.sides ∙ ap (λ (x : Lumps). x.sides) is;
      vertices =
          ap (λ (ls : List Line). take (used_count ls) d.vertices) lines ∙ ap (take (used_count m.lines)) vertices
          ∙ same_front (used_count m.lines) m.vertices added.added all;
      sectors = holds.sectors ∙ ap (λ (x : Lumps). x.sectors) is;
      in_sight = sight;
    }
