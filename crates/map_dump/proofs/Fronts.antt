-- A map's next item isn't refused once those before it are drawn.
use Rattle.std.proofs.Common.{◌≡◌, ◌≢◌, ℕ, ◌+◌, ◌<◌, ◌≤◌, Bool, true, false, ◌&&◌, ◌||◌, not, List, [], ◌∷◌, ◌++◌, length, get_or, None, refl, subst, ◌∙◌, ap, arith, length-append, nat_eq}
use Rattle.std.proofs.Math.Seq.{get_or-append_seam}
use Rattle.std.proofs.lemmas.List.{get_or_append_left}
use Rattle.std.proofs.lemmas.Bool.{eqb-true, false_from_ne_true, le-ltb}
use Rattle.std.specs.List.{All, AllPairs}
use Rattle.lump_records.specs.declared.records.Thing.{Thing}
use Rattle.lump_records.specs.declared.records.Line.{Line}
use Rattle.lump_records.specs.declared.records.Side.{Side}
use Rattle.lump_records.specs.declared.records.Vertex.{Vertex}
use Rattle.lump_records.specs.declared.records.Sector.{Sector}
use Rattle.lump_records.specs.Sides.{has_left, is_two_sided, no_side}
use Rattle.lump_records.specs.Drawing.{longest_squared, squared_distance}
use Rattle.map_tables.specs.Tables.{Tables}
use Rattle.map_tables.specs.WellFormed.{WellFormed, HasEnds, HasSides, nth_vertex}
use Rattle.map_tables.specs.Outcomes.{least}
use Rattle.map_tables.specs.Faults.{is_taken, is_too_long, lacks, lacks_room, lacks_sector_room, line_faults, sector_faults, side_faults, thing_faults, vertex_faults}
use Rattle.map_tables.proofs.PlaceLemmas.{free_among}
use Rattle.map_commands.proofs.Drawing.{lacks-not, or-both}

-- ---- A list cut before an item

pub inside : {X : Type 0} (front back : List X) (x : X) → length front < length (front ++ x ∷ back)
inside front back x = omega (arith, length-append front (x ∷ back))

-- what is true of all items is true of the item
pub holds_at : {X : Type 0} (P : X → Type 0) (front back : List X) (x : X) → All P (front ++ x ∷ back) → P x
holds_at P front back x all = subst P (get_or-append_seam front x back x) (all (length front) x (inside front back x))

-- what is true of each two items is true of one before the item and the item
pub holds_before : {X : Type 0} (R : X → X → Type 0) (front back : List X) (x : X) → AllPairs R (front ++ x ∷ back)
    → (k : ℕ) (d : X) → k < length front → R (get_or front k d) x
holds_before R front back x pairs k d h =
    subst (λ y. R (get_or front k d) y) (get_or-append_seam front x back d)
    (subst (λ y. R y (get_or (front ++ x ∷ back) (length front) d)) (get_or_append_left front (x ∷ back) d k h)
    (pairs k (length front) d h (inside front back x)))

-- the items so far and the next one are no more than all
pub fewer : {X : Type 0} (all front back : List X) (x : X) → all ≡ front ++ x ∷ back → length front + 1 ≤ length all
fewer all front back x e = let same = ap length e in let h = inside front back x in omega (arith, same, h)

room : {X : Type 0} (all front back : List X) (x : X) → all ≡ front ++ x ∷ back → length all ≤ 32767 → lacks_room front 1 ≡ false
room all front back x e h = let few = fewer all front back x e in le-ltb 32767 (length front + 1) (omega (arith, few, h))

sector_room : {X : Type 0} (all front back : List X) (x : X) → all ≡ front ++ x ∷ back → length all ≤ 4096 → lacks_sector_room front 1 ≡ false
sector_room all front back x e h = let few = fewer all front back x e in le-ltb 4096 (length front + 1) (omega (arith, few, h))

-- ---- The five tables

pub vertex_free : (m n : Tables) (front back : List Vertex) (v : Vertex) → WellFormed m → m.vertices ≡ front ++ v ∷ back → n.vertices ≡ front
    → least (vertex_faults n v) ≡ None
vertex_free m n front back v w e is =
    let apart = subst (AllPairs (λ a b. a ≢ b)) e w.places in
    let free = free_among front v (holds_before (λ a b. a ≢ b) front back v apart) in
    let few = room m.vertices front back v e w.vertex_count in
    ap (λ vs. least ((10, is_taken vs v) ∷ (12, lacks_room vs 1) ∷ [])) is ∙ (λ i. least ((10, free i) ∷ (12, few i) ∷ []))

pub sector_free : (m n : Tables) (front back : List Sector) (s : Sector) → WellFormed m → m.sectors ≡ front ++ s ∷ back → n.sectors ≡ front
    → least (sector_faults n) ≡ None
sector_free m n front back s w e is =
    let few = sector_room m.sectors front back s e w.sector_count in
    ap (λ xs. least ((12, lacks_sector_room xs 1) ∷ [])) is ∙ (λ i. least ((12, few i) ∷ []))

pub side_free : (m n : Tables) (front back : List Side) (s : Side) → WellFormed m → m.sides ≡ front ++ s ∷ back → n.sides ≡ front → n.sectors ≡ m.sectors
    → least (side_faults n s) ≡ None
side_free m n front back s w e is same =
    let there = lacks-not m.sectors s.sector (holds_at (λ t. t.sector < length m.sectors) front back s (subst (All (λ t. t.sector < length m.sectors)) e w.side_sectors)) in
    let few = room m.sides front back s e w.side_count in
    (λ i. least ((4, lacks (same i) s.sector) ∷ (12, lacks_room (is i) 1) ∷ [])) ∙ (λ i. least ((4, there i) ∷ (12, few i) ∷ []))

-- a line's left side exists
left-there : (sides : List Side) (l : Line) (t : Bool) → nat_eq l.left no_side ≡ t → HasSides sides l → (not t && lacks sides l.left) ≡ false
left-there sides l true e h = refl
left-there sides l false e h =
    lacks-not sides l.left (h.left (λ is. absurd (cc (e, is))))

-- a two-sided line has a left side
two-sided : (sides : List Side) (l : Line) (t u : Bool) → is_two_sided l ≡ t → nat_eq l.left no_side ≡ u → HasSides sides l → (t && not (not u)) ≡ false
two-sided sides l false u e f h = refl
two-sided sides l true false e f h = refl
two-sided sides l true true e f h = absurd (h.two_sided e (eqb-true l.left no_side f))

pub line_free : (m n : Tables) (front back : List Line) (l : Line) → WellFormed m → m.lines ≡ front ++ l ∷ back → n.lines ≡ front
    → n.vertices ≡ m.vertices → n.sides ≡ m.sides → least (line_faults n l) ≡ None
line_free m n front back l w e is vs ss =
    let ends = holds_at (HasEnds m.vertices) front back l (subst (All (HasEnds m.vertices)) e w.ends) in
    let sides = holds_at (HasSides m.sides) front back l (subst (All (HasSides m.sides)) e w.line_sides) in
    let there : (lacks m.vertices l.v1 || lacks m.vertices l.v2) ≡ false =
    or-both (lacks m.vertices l.v1) (lacks m.vertices l.v2) (lacks-not m.vertices l.v1 ends.v1) (lacks-not m.vertices l.v2 ends.v2) in
    let beside : (lacks m.sides l.right || (has_left l && lacks m.sides l.left)) ≡ false =
    or-both (lacks m.sides l.right) (has_left l && lacks m.sides l.left) (lacks-not m.sides l.right sides.right) (left-there m.sides l (nat_eq l.left no_side) refl sides) in
    let differ : nat_eq l.v1 l.v2 ≡ false = false_from_ne_true (nat_eq l.v1 l.v2) (λ t. ends.differ (eqb-true l.v1 l.v2 t)) in
    let flags : (is_two_sided l && not (has_left l)) ≡ false = two-sided m.sides l (is_two_sided l) (nat_eq l.left no_side) refl refl sides in
    let few = room m.lines front back l e w.line_count in
    let short : is_too_long m.vertices l ≡ false = le-ltb longest_squared (squared_distance (nth_vertex m.vertices l.v1) (nth_vertex m.vertices l.v2)) ends.short in
    (λ i. least ((3, lacks (vs i) l.v1 || lacks (vs i) l.v2) ∷ (5, lacks (ss i) l.right || (has_left l && lacks (ss i) l.left))
    ∷ (9, nat_eq l.v1 l.v2) ∷ (11, is_two_sided l && not (has_left l)) ∷ (12, lacks_room (is i) 1) ∷ (13, is_too_long (vs i) l) ∷ []))
    ∙ (λ i. least ((3, there i) ∷ (5, beside i) ∷ (9, differ i) ∷ (11, flags i) ∷ (12, few i) ∷ (13, short i) ∷ []))

pub thing_free : (m n : Tables) (front back : List Thing) (t : Thing) → WellFormed m → m.things ≡ front ++ t ∷ back → n.things ≡ front
    → least (thing_faults n) ≡ None
thing_free m n front back t w e is =
    let few = room m.things front back t e w.thing_count in
    ap (λ xs. least ((12, lacks_room xs 1) ∷ [])) is ∙ (λ i. least ((12, few i) ∷ []))
