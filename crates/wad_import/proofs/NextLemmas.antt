-- An item that nothing refuses is added, unless there is no memory.
use Rattle.std.proofs.Common.{◌≡◌, ℕ, ◌+◌, ◌<◌, Bool, true, false, ◌&&◌, ◌||◌, not, List, [], ◌∷◌, length, Option, Some, None, Result, Ok, Err, refl, sym, ap, arith, nat_eq}
use Rattle.std.proofs.lemmas.Bool.{eqb-true, false_from_ne_true, le-ltb, lt-ltb}
use Rattle.lump_records.specs.declared.records.Line.{Line}
use Rattle.lump_records.specs.declared.records.Side.{Side}
use Rattle.lump_records.specs.declared.records.Vertex.{Vertex}
use Rattle.lump_records.specs.Sides.{has_left, is_two_sided, no_side}
use Rattle.lump_records.specs.Drawing.{longest_squared, squared_distance}
use Rattle.map_tables.specs.declared.error.MapError.{MapError}
use Rattle.map_tables.specs.declared.error.MapError.TheVariants.{OutOfMemory}
use Rattle.map_tables.specs.Tables.{Tables}
use Rattle.map_tables.specs.WellFormed.{HasEnds, HasSides, nth_vertex}
use Rattle.map_tables.specs.Outcomes.{EndsExactly, RefusesEdit, least, unless}
use Rattle.map_tables.specs.Faults.{is_taken, is_too_long, lacks, lacks_room, lacks_sector_room, line_faults, sector_faults, side_faults, thing_faults, vertex_faults}

-- an edit that is accepted is refused by lack of memory alone
pub only_memory : {S X : Type 0} (e : MapError) (o : Option ℕ) (new : S) (answer : X) → o ≡ None → RefusesEdit e (unless o new answer) → e ≡ OutOfMemory
only_memory OutOfMemory o new answer none h = refl
only_memory _ None new answer none h = absurd cc
only_memory _ (Some code) new answer none h = absurd cc

given : {S X : Type 0} → Result (S × X) ℕ → S → S
given (Ok p) d = p.0
given (Err code) d = d

-- what an edit that is accepted gives
pub edited : {S X : Type 0} (o : Option ℕ) (new found : S) (answer told : X) → unless o new answer ≡ Ok (found, told) → found ≡ new
unfolding given
edited None new found answer told e = sym (ap (λ r. given r new) e)
edited (Some code) new found answer told e = absurd cc

-- an edit that takes no memory and isn't refused
pub ends_well : {S X : Type 0} (r : Result X MapError) (o : Option ℕ) (new found old : S) (answer : X) → o ≡ None
    → EndsExactly r (unless o new answer) old found → found ≡ new
ends_well (Ok told) o new found old answer none h = edited o new found answer told h
ends_well (Err e) None new found old answer none h = absurd cc
ends_well (Err e) (Some code) new found old answer none h = absurd cc

or-both : (a b : Bool) → a ≡ false → b ≡ false → (a || b) ≡ false
or-both true b e f = absurd cc
or-both false b e f = f

lacks-not : {X : Type 0} (xs : List X) (n : ℕ) → n < length xs → lacks xs n ≡ false
lacks-not xs n h = ap not (lt-ltb n (length xs) h)

room : {X : Type 0} (xs : List X) → length xs < 32767 → lacks_room xs 1 ≡ false
room xs h = le-ltb 32767 (length xs + 1) (omega arith)

pub sector_free : (m : Tables) → length m.sectors < 4096 → least (sector_faults m) ≡ None
sector_free m h =
    let few : lacks_sector_room m.sectors 1 ≡ false = le-ltb 4096 (length m.sectors + 1) (omega arith) in
    λ i. least ((12, few i) ∷ [])

pub vertex_free : (m : Tables) (v : Vertex) → is_taken m.vertices v ≡ false → length m.vertices < 32767 → least (vertex_faults m v) ≡ None
vertex_free m v free h = let few = room m.vertices h in λ i. least ((10, free i) ∷ (12, few i) ∷ [])

pub side_free : (m : Tables) (s : Side) → s.sector < length m.sectors → length m.sides < 32767 → least (side_faults m s) ≡ None
side_free m s within h =
    let there = lacks-not m.sectors s.sector within in
    let few = room m.sides h in
    λ i. least ((4, there i) ∷ (12, few i) ∷ [])

-- a left side that a line has is there
left-there : (sides : List Side) (l : Line) (t : Bool) → nat_eq l.left no_side ≡ t → HasSides sides l → (not t && lacks sides l.left) ≡ false
left-there sides l true e h = refl
left-there sides l false e h = lacks-not sides l.left (h.left (λ is. absurd (cc (e, is))))

-- a line with two sides has a left one
two-sided : (sides : List Side) (l : Line) (t u : Bool) → is_two_sided l ≡ t → nat_eq l.left no_side ≡ u → HasSides sides l → (t && not (not u)) ≡ false
two-sided sides l false u e f h = refl
two-sided sides l true false e f h = refl
two-sided sides l true true e f h = absurd (h.two_sided e (eqb-true l.left no_side f))

pub line_free : (m : Tables) (l : Line) → HasEnds m.vertices l → HasSides m.sides l → length m.lines < 32767 → least (line_faults m l) ≡ None
line_free m l ends sides h =
    let there : (lacks m.vertices l.v1 || lacks m.vertices l.v2) ≡ false =
    or-both (lacks m.vertices l.v1) (lacks m.vertices l.v2) (lacks-not m.vertices l.v1 ends.v1) (lacks-not m.vertices l.v2 ends.v2) in
    let beside : (lacks m.sides l.right || (has_left l && lacks m.sides l.left)) ≡ false =
    or-both (lacks m.sides l.right) (has_left l && lacks m.sides l.left) (lacks-not m.sides l.right sides.right) (left-there m.sides l (nat_eq l.left no_side) refl sides) in
    let differ : nat_eq l.v1 l.v2 ≡ false = false_from_ne_true (nat_eq l.v1 l.v2) (λ t. ends.differ (eqb-true l.v1 l.v2 t)) in
    let flags : (is_two_sided l && not (has_left l)) ≡ false = two-sided m.sides l (is_two_sided l) (nat_eq l.left no_side) refl refl sides in
    let few = room m.lines h in
    let short : is_too_long m.vertices l ≡ false = le-ltb longest_squared (squared_distance (nth_vertex m.vertices l.v1) (nth_vertex m.vertices l.v2)) ends.short in
    λ i. least ((3, there i) ∷ (5, beside i) ∷ (9, differ i) ∷ (11, flags i) ∷ (12, few i) ∷ (13, short i) ∷ [])

pub thing_free : (m : Tables) → length m.things < 32767 → least (thing_faults m) ≡ None
thing_free m h = let few = room m.things h in λ i. least ((12, few i) ∷ [])
