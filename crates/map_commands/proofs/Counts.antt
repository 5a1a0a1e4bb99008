-- How many items a map has after a command, and how long its body then is.
use Rattle.std.proofs.Common.{◌≡◌, ℕ, suc, ◌+◌, ◌≤◌, List, [], ◌∷◌, length, take, drop, Option, Some, None, sym, ap, ◌∙◌, arith, nat_lt, length-append, length-drop}
use Rattle.std.specs.Prelude.{remove}
use Rattle.std.proofs.lemmas.Bool.{le-ltb}
use Rattle.std.proofs.lemmas.List.{length-map, length-set, length-take}
use Rattle.lump_records.specs.declared.records.Name8.{Name8}
use Rattle.map_tables.specs.declared.edit.Edit.TheVariants as edit
use Rattle.map_tables.specs.declared.edit.Item.{Item}
use Rattle.map_tables.specs.declared.edit.Item.TheVariants as item
use Rattle.map_tables.specs.declared.edit.Need.{Need}
use Rattle.map_tables.specs.declared.kind.Kind.{Kind}
use Rattle.map_tables.specs.declared.kind.Kind.TheVariants as kind
use Rattle.map_tables.specs.Edits.{line_without_vertex, line_without_side, side_without_sector, without}
use Rattle.map_tables.specs.Outcomes.{no_need}
use Rattle.map_tables.specs.Tables.{Tables, body_len_of_one, count_of}
use Rattle.map_commands.specs.declared.command.Command.{Command}
use Rattle.map_commands.specs.declared.command.Command.TheVariants.{Name, Edit}
use Rattle.map_commands.specs.Step.{growth_of, need_of, after}

-- how many items of a kind are needed
abbrev pub need_at : Need → Kind → ℕ
need_at need kind.Vertex = need.vertices
need_at need kind.Sector = need.sectors
need_at need kind.Side = need.sides
need_at need kind.Line = need.lines
need_at need kind.Thing = need.things

-- a command adds of a kind what it needs, and drops nothing
abbrev pub Counts : Tables → Command → Kind → Type 0
Counts m c k = count_of (after m c) k ≡ count_of m k + need_at (need_of c) k

-- so of each kind, or else it only drops an item
abbrev pub Counted : Tables → Command → Option (Kind × ℕ) → Type 0
Counted m c None = (k : Kind) → Counts m c k
Counted m c (Some d) = (after m c ≡ without m d.0 d.1) × (need_of c ≡ no_need)

-- ---- Edits

pub name_each : (m : Tables) (name : Name8) (k : Kind) → Counts m (Name name) k
name_each m name kind.Vertex = omega arith
name_each m name k = omega arith

pub add_each : (m : Tables) (i : Item) (k : Kind) → Counts m (Edit (edit.Add i)) k
add_each m (item.Vertex x) kind.Vertex = length-append m.vertices (x ∷ [])
add_each m (item.Sector x) kind.Sector = length-append m.sectors (x ∷ [])
add_each m (item.Side x) kind.Side = length-append m.sides (x ∷ [])
add_each m (item.Line x) kind.Line = length-append m.lines (x ∷ [])
add_each m (item.Thing x) kind.Thing = length-append m.things (x ∷ [])
add_each m i k = omega arith

pub set_each : (m : Tables) (n : ℕ) (i : Item) (k : Kind) → Counts m (Edit (edit.Set n i)) k
set_each m n (item.Vertex x) kind.Vertex = let same = length-set m.vertices n x in omega (arith, same)
set_each m n (item.Sector x) kind.Sector = let same = length-set m.sectors n x in omega (arith, same)
set_each m n (item.Side x) kind.Side = let same = length-set m.sides n x in omega (arith, same)
set_each m n (item.Line x) kind.Line = let same = length-set m.lines n x in omega (arith, same)
set_each m n (item.Thing x) kind.Thing = let same = length-set m.things n x in omega (arith, same)
set_each m n i k = omega arith

-- ---- The length of the body

shorter-remove : {X : Type 0} (xs : List X) (n : ℕ) → length (remove xs n) ≤ length xs
shorter-remove xs n = let a = length-append (take n xs) (drop (suc n) xs) in let b = length-take n xs in let c = length-drop (suc n) xs in omega (arith, a, b, c)

both-fit : (a b cap : ℕ) → a ≤ cap → b ≤ cap → nat_lt cap a ≡ nat_lt cap b
both-fit a b cap h i = le-ltb cap a h ∙ sym (le-ltb cap b i)

without-shorter : (m : Tables) (k : Kind) (n : ℕ) → body_len_of_one (without m k n) ≤ body_len_of_one m
without-shorter m kind.Vertex n = let a = shorter-remove m.vertices n in let b = length-map m.lines (line_without_vertex n) in omega (arith, a, b)
without-shorter m kind.Sector n = let a = shorter-remove m.sectors n in let b = length-map m.sides (side_without_sector n) in omega (arith, a, b)
without-shorter m kind.Side n = let a = shorter-remove m.sides n in let b = length-map m.lines (line_without_side n) in omega (arith, a, b)
without-shorter m kind.Line n = let a = shorter-remove m.lines n in omega (arith, a)
without-shorter m kind.Thing n = let a = shorter-remove m.things n in omega (arith, a)

longer : (m n : Tables) (need : Need) → ((k : Kind) → count_of n k ≡ count_of m k + need_at need k) → body_len_of_one n ≡ body_len_of_one m + growth_of need
longer m n need h =
    let vertices = h kind.Vertex in
    let sectors = h kind.Sector in
    let sides = h kind.Side in
    let lines = h kind.Line in
    let things = h kind.Thing in
    omega (arith, vertices, sectors, sides, lines, things)

-- the new body is too long exactly where the old one and what is added are
pub fullness_by : (m : Tables) (c : Command) (dropped : Option (Kind × ℕ)) (cap : ℕ) → Counted m c dropped → body_len_of_one m ≤ cap
    → nat_lt cap (body_len_of_one (after m c)) ≡ nat_lt cap (body_len_of_one m + growth_of (need_of c))
fullness_by m c None cap counts fits = ap (nat_lt cap) (longer m (after m c) (need_of c) counts)
fullness_by m c (Some d) cap counts fits =
    let shorter = without-shorter m d.0 d.1 in
    ap (λ t. nat_lt cap (body_len_of_one t)) counts.0
    ∙ both-fit (body_len_of_one (without m d.0 d.1)) (body_len_of_one m + growth_of no_need) cap (omega (arith, shorter)) (omega arith)
    ∙ sym (ap (λ need. nat_lt cap (body_len_of_one m + growth_of need)) counts.1)
