-- A map's items are added one by one, each accepted.
use Rattle.std.proofs.Common.{◌≡◌, ℕ, ◌≤◌, List, [], ◌∷◌, ◌++◌, length, map, None, Ok, refl, sym, subst, ◌∙◌, ap, arith, append_assoc, append-nil, false, length-append, nat_lt}
use Rattle.std.specs.List.{All}
use Rattle.std.proofs.lemmas.Bool.{le-ltb}
use Rattle.std.proofs.lemmas.List.Sums.{sum_by-append, sum_by-cons}
use Rattle.lump_records.specs.declared.records.Thing.{Thing}
use Rattle.lump_records.specs.declared.records.Line.{Line}
use Rattle.lump_records.specs.declared.records.Side.{Side}
use Rattle.lump_records.specs.declared.records.Vertex.{Vertex}
use Rattle.lump_records.specs.declared.records.Sector.{Sector}
use Rattle.map_tables.specs.Tables.{Tables, empty_tables, part_len}
use Rattle.map_tables.specs.WellFormed.{WellFormed}
use Rattle.map_tables.specs.Ranges.{IsLine, IsSector, IsSide, IsThing, IsVertex}
use Rattle.map_tables.specs.Outcomes.{least}
use Rattle.map_tables.specs.Edits.{with_name}
use Rattle.map_tables.specs.Projects.{ProjectMaps, body_len, current_map, with_current}
use Rattle.map_tables.proofs.ProjectLemmas.{get_middle, set_middle}
use Rattle.map_commands.specs.declared.command.Command.{Command}
use Rattle.map_commands.specs.declared.command.Command.TheVariants.{Edit}
use Rattle.map_tables.specs.declared.edit.Edit.TheVariants as edit
use Rattle.map_tables.specs.declared.edit.Item.TheVariants as item
use Rattle.map_commands.specs.declared.project.command.ProjectCommand.{ProjectCommand}
use Rattle.map_commands.specs.declared.project.command.ProjectCommand.TheVariants.{Current}
use Rattle.map_commands.specs.Step as of_one_map
use Rattle.map_commands.specs.ProjectCommands.{project_spelling}
use Rattle.map_commands.specs.ProjectStep.{project_after, naming_faults, project_number_of}
use Rattle.map_commands.specs.ProjectLines.{Leads, LeadsTo}
use Rattle.map_commands.proofs.ProjectSteps.{step-accepts}
use Rattle.map_commands.proofs.Steps.{least-none}
use Rattle.map_dump.specs.Dump.{items_of}
use Rattle.map_dump.proofs.Fronts.{fewer, holds_at, line_free, sector_free, side_free, thing_free, vertex_free}

-- ---- Commands one after another

-- the commands lead from one project to the other, each accepted
abbrev pub Draws : ℕ → ProjectMaps → List ProjectCommand → ProjectMaps → Type 0
Draws cap old cs new = Leads cap old (map project_spelling cs) new

pub Draws-append : (cap : ℕ) (old mid new : ProjectMaps) (cs ds : List ProjectCommand) → Draws cap old cs mid → Draws cap mid ds new → Draws cap old (cs ++ ds) new
Draws-append cap old mid new [] ds f g = subst (λ p. Draws cap p ds new) f g
Draws-append cap old mid new (c ∷ cs) ds f g = (f.0, f.1, Draws-append cap f.0 mid new cs ds f.2 g)

edits-append : (cap : ℕ) (old mid new : ProjectMaps) (cs ds : List Command) → Draws cap old (map Current cs) mid → Draws cap mid (map Current ds) new → Draws cap old (map Current (cs ++ ds)) new
edits-append cap old mid new [] ds f g = subst (λ p. Draws cap p (map Current ds) new) f g
edits-append cap old mid new (c ∷ cs) ds f g = (f.0, f.1, edits-append cap f.0 mid new cs ds f.2 g)

-- ---- The current map is drawn

-- the current map, between others
abbrev pub between : List Tables → Tables → List Tables → ProjectMaps
between done m behind = record { maps = done ++ m ∷ behind; current = length done }

-- the same, if no map follows it
abbrev pub drawing : List Tables → Tables → ProjectMaps
drawing done m = between done m []

-- a command leads from one map to another, and the new one is no longer than the final one
pub record Adds (whole old : Tables) (c : Command) (new : Tables) : Type 0 where
  pub range : of_one_map.InRange c
  pub free : least (of_one_map.faults old c) ≡ None
  pub made : of_one_map.after old c ≡ new
  pub short : part_len new ≤ part_len whole

pub leads_one : (cap : ℕ) (done behind : List Tables) (whole old new : Tables) (c : Command) → Adds whole old c new
    → least (naming_faults (between done old behind) c) ≡ None → body_len (between done whole behind) ≤ cap → LeadsTo cap (between done old behind) (project_spelling (Current c)) (between done new behind)
leads_one cap done behind whole old new c a naming fits =
    let p = between done old behind in
    let here : current_map p ≡ old = get_middle done behind old empty_tables in
    let none = least-none (of_one_map.faults (current_map p) c) (naming_faults p c) (ap (λ m. least (of_one_map.faults m c)) here ∙ a.free) ∙ naming in
    let is : project_after p (Current c) ≡ between done new behind =
    ap (λ m. with_current p (of_one_map.after m c)) here ∙ ap (with_current p) a.made
    ∙ (λ i. record { maps = set_middle done behind old new i; current = length done }) in
    let few : body_len (between done new behind) ≤ cap = omega (arith, fits, a.short, sum_by-append part_len done (new ∷ behind), sum_by-cons part_len new behind, sum_by-append part_len done (whole ∷ behind), sum_by-cons part_len whole behind) in
    let short : nat_lt cap (body_len (project_after p (Current c))) ≡ false = ap (λ q. nat_lt cap (body_len q)) is ∙ le-ltb cap (body_len (between done new behind)) few in (
      project_number_of p (Current c),
      record {
        command = Current c;
        range = a.range;
        line_is = refl;
        stepped = step-accepts p (Current c) cap none short ∙ ap (λ q. Ok (q, project_number_of p (Current c))) is;
      },
    )

-- ---- One table

-- how each item of a table is added
abbrev EachAdds : {X : Type 0} → Tables → (X → Command) → (List X → Tables) → List X → Type 0
EachAdds {X} whole make stage all =
    (front back : List X) (x : X) → all ≡ front ++ x ∷ back
    → Adds whole (stage front) (make x) (stage (front ++ x ∷ [])) × ((p : ProjectMaps) → naming_faults p (make x) ≡ [])

leads_table : {X : Type 0} (cap : ℕ) (done behind : List Tables) (whole : Tables) (make : X → Command) (stage : List X → Tables) (all front back : List X)
    → body_len (between done whole behind) ≤ cap → all ≡ front ++ back → EachAdds whole make stage all
    → Draws cap (between done (stage front) behind) (map Current (map make back)) (between done (stage all) behind)
leads_table cap done behind whole make stage all front [] fits e each = ap (λ xs. between done (stage xs) behind) (e ∙ append-nil front)
leads_table {X} cap done behind whole make stage all front (x ∷ back) fits e each =
    let one = each front back x e in
    let next : all ≡ (front ++ x ∷ []) ++ back = e ∙ sym (append_assoc front (x ∷ []) back) in (
      between done (stage (front ++ x ∷ [])) behind,
      leads_one cap done behind whole (stage front) (stage (front ++ x ∷ [])) (make x) one.0 (ap least (one.1 (between done (stage front) behind))) fits,
      leads_table cap done behind whole make stage all (front ++ x ∷ []) back fits next each,
    )

-- ---- The five tables, each up to an item

abbrev to_vertices : Tables → List Vertex → Tables
to_vertices m vs = record { name = m.name; vertices = vs; sectors = []; sides = []; lines = []; things = [] }

abbrev to_sectors : Tables → List Sector → Tables
to_sectors m ss = record { name = m.name; vertices = m.vertices; sectors = ss; sides = []; lines = []; things = [] }

abbrev to_sides : Tables → List Side → Tables
to_sides m ss =
    record { name = m.name; vertices = m.vertices; sectors = m.sectors; sides = ss; lines = []; things = [] }

abbrev to_lines : Tables → List Line → Tables
to_lines m ls =
    record { name = m.name; vertices = m.vertices; sectors = m.sectors; sides = m.sides; lines = ls; things = [] }

abbrev to_things : Tables → List Thing → Tables
to_things m ts =
    record { name = m.name; vertices = m.vertices; sectors = m.sectors; sides = m.sides; lines = m.lines; things = ts }

vertex_adds : (m : Tables) → WellFormed m → EachAdds m (λ v. Edit (edit.Add (item.Vertex v))) (to_vertices m) m.vertices
vertex_adds m w front back v e =
    let few = fewer m.vertices front back v e in (
      record {
        range = holds_at IsVertex front back v (subst (All IsVertex) e w.vertices);
        free = vertex_free m (to_vertices m front) front back v w e refl;
        made = refl;
        short = omega (arith, few, length-append front (v ∷ []));
      },
      λ p. refl,
    )

sector_adds : (m : Tables) → WellFormed m → EachAdds m (λ v. Edit (edit.Add (item.Sector v))) (to_sectors m) m.sectors
sector_adds m w front back s e =
    let few = fewer m.sectors front back s e in (
      record {
        range = holds_at IsSector front back s (subst (All IsSector) e w.sectors);
        free = sector_free m (to_sectors m front) front back s w e refl;
        made = refl;
        short = omega (arith, few, length-append front (s ∷ []));
      },
      λ p. refl,
    )

side_adds : (m : Tables) → WellFormed m → EachAdds m (λ v. Edit (edit.Add (item.Side v))) (to_sides m) m.sides
side_adds m w front back s e =
    let few = fewer m.sides front back s e in (
      record {
        range = holds_at IsSide front back s (subst (All IsSide) e w.sides);
        free = side_free m (to_sides m front) front back s w e refl refl;
        made = refl;
        short = omega (arith, few, length-append front (s ∷ []));
      },
      λ p. refl,
    )

line_adds : (m : Tables) → WellFormed m → EachAdds m (λ v. Edit (edit.Add (item.Line v))) (to_lines m) m.lines
line_adds m w front back l e =
    let few = fewer m.lines front back l e in (
      record {
        range = holds_at IsLine front back l (subst (All IsLine) e w.lines);
        free = line_free m (to_lines m front) front back l w e refl refl refl;
        made = refl;
        short = omega (arith, few, length-append front (l ∷ []));
      },
      λ p. refl,
    )

thing_adds : (m : Tables) → WellFormed m → EachAdds m (λ v. Edit (edit.Add (item.Thing v))) (to_things m) m.things
thing_adds m w front back t e =
    let few = fewer m.things front back t e in (
      record {
        range = holds_at IsThing front back t (subst (All IsThing) e w.things);
        free = thing_free m (to_things m front) front back t w e refl;
        made = refl;
        short = omega (arith, few, length-append front (t ∷ []));
      },
      λ p. refl,
    )

-- ---- All items

-- the items of a map lead from the empty map with its name to the map
pub leads_items : (cap : ℕ) (done behind : List Tables) (m : Tables) → WellFormed m → body_len (between done m behind) ≤ cap
    → Draws cap (between done (with_name empty_tables m.name) behind) (map Current (items_of m)) (between done m behind)
leads_items cap done behind m w fits =
    let vertices = leads_table cap done behind m (λ v. Edit (edit.Add (item.Vertex v))) (to_vertices m) m.vertices [] m.vertices fits refl (vertex_adds m w) in
    let sectors = leads_table cap done behind m (λ v. Edit (edit.Add (item.Sector v))) (to_sectors m) m.sectors [] m.sectors fits refl (sector_adds m w) in
    let sides = leads_table cap done behind m (λ v. Edit (edit.Add (item.Side v))) (to_sides m) m.sides [] m.sides fits refl (side_adds m w) in
    let lines = leads_table cap done behind m (λ v. Edit (edit.Add (item.Line v))) (to_lines m) m.lines [] m.lines fits refl (line_adds m w) in
    let things = leads_table cap done behind m (λ v. Edit (edit.Add (item.Thing v))) (to_things m) m.things [] m.things fits refl (thing_adds m w) in
    let start = between done (with_name empty_tables m.name) behind in
    let to_one = between done (to_vertices m m.vertices) behind in
    let to_two = between done (to_sectors m m.sectors) behind in
    let to_three = between done (to_sides m m.sides) behind in
    let to_four = between done (to_lines m m.lines) behind in
    let end = between done m behind in
    let behind_four = map (λ v. Edit (edit.Add (item.Thing v))) m.things ++ [] in
    let behind_three = map (λ v. Edit (edit.Add (item.Line v))) m.lines ++ behind_four in
    let behind_two = map (λ v. Edit (edit.Add (item.Side v))) m.sides ++ behind_three in
    let behind_one = map (λ v. Edit (edit.Add (item.Sector v))) m.sectors ++ behind_two in
    let from_four = edits-append cap to_four end end (map (λ v. Edit (edit.Add (item.Thing v))) m.things) [] things refl in
    let from_three = edits-append cap to_three to_four end (map (λ v. Edit (edit.Add (item.Line v))) m.lines) behind_four lines from_four in
    let from_two = edits-append cap to_two to_three end (map (λ v. Edit (edit.Add (item.Side v))) m.sides) behind_three sides from_three in
    let from_one = edits-append cap to_one to_two end (map (λ v. Edit (edit.Add (item.Sector v))) m.sectors) behind_two sectors from_two in
    edits-append cap start to_one end (map (λ v. Edit (edit.Add (item.Vertex v))) m.vertices) behind_one vertices from_one
