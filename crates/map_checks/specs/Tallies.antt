-- What the body counts: how many edges leave and reach each vertex of each sector.
use Rattle.std.specs.Prelude.{◌≡◌, ℕ, ◌+◌, ◌<◌, ◌^◌, Bool, false, ◌&&◌, ◌==◌, not, if◌then◌else◌, List, length, get_or, map, filter, count_by, unwrap_or}
use Rattle.std.specs.List.{list_any, range_with_len}
use Rattle.std.specs.declared.cmp.Ordering.{Ordering}
use Rattle.std.specs.Ordering.{nat_cmp, ordering_then}
use Rattle.std.specs.BTreeMap.{BTreeMap, get}
use Rattle.map_tables.specs.declared.kind.Kind.{Kind}
use Rattle.map_tables.specs.declared.kind.Kind.TheVariants as kind
use Rattle.map_checks.specs.Corners.{Edge, leaves_vertex, reaches}
use Rattle.map_checks.specs.declared.corners.Degrees.{Degrees}
use Rattle.map_checks.specs.declared.finding.Finding.{Finding}
use Rattle.map_checks.specs.declared.finding.Finding.TheVariants.{VertexUnused, SideUnused, SectorUnused, SectorOpen}

-- the order of corners: by sector, then by vertex
abbrev pub corner_cmp : ℕ × ℕ → ℕ × ℕ → Ordering
corner_cmp a b = ordering_then (nat_cmp a.0 b.0) (nat_cmp a.1 b.1)

-- whether two corners are the same
abbrev pub same_corner : ℕ × ℕ → ℕ × ℕ → Bool
same_corner a b = (a.0 == b.0) && (a.1 == b.1)

-- a corner at which no edge was counted
abbrev pub no_degrees : Degrees
no_degrees = record { outgoing = 0; incoming = 0 }

-- the counts at a corner
abbrev pub degrees_of : BTreeMap (ℕ × ℕ) Degrees → ℕ × ℕ → Degrees
degrees_of m corner = unwrap_or (get corner_cmp m corner) no_degrees

-- no count overflows if n more edges are counted
pub record HasCountsLeft (n : ℕ) (m : BTreeMap (ℕ × ℕ) Degrees) : Type 0 where
  pub outgoing : (q : ℕ × ℕ) → (degrees_of m q).outgoing + n < 2 ^ 32
  pub incoming : (q : ℕ × ℕ) → (degrees_of m q).incoming + n < 2 ^ 32

-- 1 if it is true, else 0
abbrev pub one_if : Bool → ℕ
one_if b = if b then 1 else 0

-- one more edge was counted that leaves the corner
pub record Leaves (old new : BTreeMap (ℕ × ℕ) Degrees) (corner : ℕ × ℕ) : Type 0 where
  pub outgoing : (q : ℕ × ℕ) → (degrees_of new q).outgoing ≡ (degrees_of old q).outgoing
      + one_if (same_corner corner q)
  pub incoming : (q : ℕ × ℕ) → (degrees_of new q).incoming ≡ (degrees_of old q).incoming

-- one more edge was counted that reaches the corner
pub record Reaches (old new : BTreeMap (ℕ × ℕ) Degrees) (corner : ℕ × ℕ) : Type 0 where
  pub outgoing : (q : ℕ × ℕ) → (degrees_of new q).outgoing ≡ (degrees_of old q).outgoing
  pub incoming : (q : ℕ × ℕ) → (degrees_of new q).incoming ≡ (degrees_of old q).incoming
      + one_if (same_corner corner q)

-- these edges were added to the counts
pub record AddsEdges (old new : BTreeMap (ℕ × ℕ) Degrees) (es : List Edge) : Type 0 where
  pub outgoing : (q : ℕ × ℕ) → (degrees_of new q).outgoing ≡ (degrees_of old q).outgoing
      + count_by (leaves_vertex q.0 q.1) es
  pub incoming : (q : ℕ × ℕ) → (degrees_of new q).incoming ≡ (degrees_of old q).incoming
      + count_by (reaches q.0 q.1) es

-- the counts are those of exactly these edges
pub record IsTally (es : List Edge) (m : BTreeMap (ℕ × ℕ) Degrees) : Type 0 where
  pub outgoing : (q : ℕ × ℕ) → (degrees_of m q).outgoing ≡ count_by (leaves_vertex q.0 q.1) es
  pub incoming : (q : ℕ × ℕ) → (degrees_of m q).incoming ≡ count_by (reaches q.0 q.1) es

-- whether a corner's counts differ
abbrev pub is_uneven : (ℕ × ℕ) × Degrees → Bool
is_uneven e = not (e.1.outgoing == e.1.incoming)

-- the finding that a corner is open
abbrev pub corner_open : (ℕ × ℕ) × Degrees → Finding
corner_open e = SectorOpen e.0.0 e.0.1

-- a finding for each corner whose counts differ
abbrev pub uneven_corners : BTreeMap (ℕ × ℕ) Degrees → List Finding
uneven_corners m = map corner_open (filter is_uneven m.entries)

-- each item's mark says whether one of the users uses it
pub record Marks {X Y : Type 0} (uses : ℕ → Y → Bool) (items : List X) (users : List Y)
    (marks : List Bool) : Type 0 where
  pub count : length marks ≡ length items
  pub used : (n : ℕ) → n < length items → get_or marks n false ≡ list_any (uses n) users

-- the numbers of the items without a mark
abbrev pub unmarked : List Bool → List ℕ
unmarked marks = filter (λ n. not (get_or marks n false)) (range_with_len 0 (length marks))

-- the finding that an item is unused, for vertices, sides and sectors
abbrev pub unused_item : Kind → ℕ → Finding
unused_item kind.Vertex n = VertexUnused n
unused_item kind.Side n = SideUnused n
unused_item _ n = SectorUnused n
