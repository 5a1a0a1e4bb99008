-- The nearest line, one more line at a time.
use Rattle.std.proofs.Common.{◌≡◌, ℕ, ◌+◌, List, take, Option, Some, ap, ◌∙◌}
use Rattle.std.specs.List.{slice_get}
use Rattle.std.proofs.lemmas.List.Sums.{fold_more}
use Rattle.std.proofs.lemmas.Option.{slice_get_within, get_or_from_slice_get}
use Rattle.std.specs.Prelude.{None}
use Rattle.lump_records.specs.declared.records.Vertex.{Vertex}
use Rattle.map_plane.specs.declared.places.PlacedLine.{PlacedLine}
use Rattle.map_plane.specs.Nearest.{nearest, nearer_of}

-- the nearest of one more line
pub nearest_more : (ls : List PlacedLine) (p : Vertex) (n : ℕ) (l : PlacedLine) → slice_get ls n ≡ Some l
    → nearest (take (n + 1) ls) p ≡ nearer_of p (nearest (take n ls) p) l
nearest_more ls p n l is =
    fold_more (nearer_of p) None ls n l (slice_get_within ls n l is)
    ∙ ap (nearer_of p (nearest (take n ls) p)) (get_or_from_slice_get ls n l l is)
