-- Drawings under way: one more command, and what it leaves.
use Rattle.std.proofs.Common.{◌≡◌, ℕ, ◌<◌, ◌≤◌, All, Bool, false, true, ◌||◌, ◌&&◌, ◌==◌, not, List, [], ◌∷◌, ◌++◌, length, Option, None, refl, sym, ap, ◌∙◌, subst, arith}
use Rattle.std.proofs.lemmas.Bool.Decides.{nat_tests}
use Rattle.std.proofs.lemmas.List.Elements.{All-append, All-cons, All-head, All-nil, All-tail}
use Rattle.std.proofs.lemmas.Option.{slice_get_within}
use Rattle.lump_records.specs.Sides.{has_left, is_two_sided}
use Rattle.lump_records.specs.declared.records.Line.{Line}
use Rattle.lump_records.specs.declared.records.Side.{Side}
use Rattle.map_plane.specs.declared.places.PlacedLine.{PlacedLine}
use Rattle.map_tables.specs.Faults.{is_too_long, lacks, lacks_room, lacks_sector_room, sector_faults, set_line_faults, set_side_faults, side_faults}
use Rattle.map_tables.specs.Errors.{code_of}
use Rattle.map_tables.specs.Outcomes.{least}
use Rattle.map_tables.specs.Tables.{Tables}
use Rattle.map_commands.specs.declared.command.Command.{Command}
use Rattle.map_areas.specs.Drawings.{IsBecoming, IsUnderway, IsLedOn, IsRefusedForRoom, IsTaken}
use Rattle.map_areas.specs.Drawn.{DrawsOn, IsFaultOf, LeadTo, RefusesDrawing, TakesCommand}
use Rattle.map_areas.specs.declared.border.Border.{Border}
use Rattle.map_areas.specs.declared.drawing.Drawing.{Drawing}
use Rattle.map_areas.specs.declared.error.AreaError.{AreaError}
use Rattle.map_areas.specs.declared.error.AreaError.TheVariants.{Crossing, NotAPolygon, NotEmpty, OutOfMemory, OutOfRange, OverVertex, Refused, SeveralSectors}
use Rattle.map_areas.specs.Stays.{Draws, KeepsItems}
use Rattle.map_areas.proofs.Keeping.{keeps_drawing}
use Rattle.map_areas.proofs.Leading.{LeadTo-drawn, LeadTo-more}

-- one more command
pub led_more : (m : Tables) (b : Border) (d e : Drawing) (c : Command) → IsLedOn m b d → DrawsOn b.edges.items c → TakesCommand d.map.tables c e.map.tables
    → e.commands.items ≡ d.commands.items ++ c ∷ [] → IsLedOn m b e
led_more m b d e c h draws taken noted = record {
  led =
      subst (λ (cs : List Command). LeadTo m cs e.map.tables) (sym noted) (LeadTo-more m d.commands.items d.map.tables c e.map.tables h.led taken);
  drawing =
      subst (All (DrawsOn b.edges.items)) (sym noted)
      (All-append (DrawsOn b.edges.items) d.commands.items (c ∷ []) h.drawing
      (All-cons (DrawsOn b.edges.items) c [] draws (All-nil (DrawsOn b.edges.items))));
}

-- the command is refused
pub refused_more : (m : Tables) (b : Border) (d : Drawing) (c : Command) (e : AreaError) → IsLedOn m b d → DrawsOn b.edges.items c
    → IsRefusedForRoom d.map.tables c → IsFaultOf d.map.tables c e → RefusesDrawing m b.edges.items e
refused_more m b d c OutOfRange h draws fits f = absurd f
refused_more m b d c (NotAPolygon corner) h draws fits f = absurd f
refused_more m b d c (Crossing line near) h draws fits f = absurd f
refused_more m b d c (SeveralSectors first second) h draws fits f = absurd f
refused_more m b d c (NotEmpty line) h draws fits f = absurd f
refused_more m b d c (OverVertex vertex) h draws fits f = absurd f
refused_more m b d c (Refused e) h draws fits f = record {
  room = fits (code_of e) f;
  before = d.commands.items;
  drawing = h.drawing;
  new = d.map.tables;
  led = h.led;
  next = c;
  draws = draws;
  refused = f;
}
refused_more m b d c OutOfMemory h draws fits f = tt

-- the first command is refused
pub refused_first : (m : Tables) (es : List PlacedLine) (t : Tables) (c : Command) (e : AreaError) → t ≡ m → DrawsOn es c → IsRefusedForRoom t c → IsFaultOf t c e
    → RefusesDrawing m es e
refused_first m es t c OutOfRange same draws fits f = absurd f
refused_first m es t c (NotAPolygon corner) same draws fits f = absurd f
refused_first m es t c (Crossing line near) same draws fits f = absurd f
refused_first m es t c (SeveralSectors first second) same draws fits f = absurd f
refused_first m es t c (NotEmpty line) same draws fits f = absurd f
refused_first m es t c (OverVertex vertex) same draws fits f = absurd f
refused_first m es t c (Refused e) same draws fits f = record {
  room = fits (code_of e) f;
  before = [];
  drawing = All-nil (DrawsOn es);
  new = t;
  led = same;
  next = c;
  draws = draws;
  refused = f;
}
refused_first m es t c OutOfMemory same draws fits f = tt

-- the drawing whose copy is this map
pub drawn_by : (m : Tables) (b : Border) (round : Option ℕ) (d : Drawing) (t : Tables) → IsLedOn m b d → d.map.tables ≡ t → d.vertices.items ≡ t.vertices
    → d.lines.items ≡ t.lines → IsBecoming m b round t → length m.sectors < length t.sectors → IsUnderway m b round d
drawn_by m b round d t led is vertices lines h lt = record {
  sectors = subst (λ (u : Tables). length m.sectors < length u.sectors) (sym is) lt;
  led = led;
  vertices = vertices ∙ ap (λ (u : Tables). u.vertices) (sym is);
  lines = lines ∙ ap (λ (u : Tables). u.lines) (sym is);
  becoming = subst (IsBecoming m b round) (sym is) h;
}

-- ---- what a command says of the lists

two_none : (c d : ℕ) (a b : Bool) → least ((c, a) ∷ (d, b) ∷ []) ≡ None → (a ≡ false) × (b ≡ false)
two_none c d true b h = cc
two_none c d false true h = cc
two_none c d false false h = (refl, refl)

-- a list has room for one more
pub room : {X : Type 0} (xs : List X) → lacks_room xs 1 ≡ false → length xs < 32767
room xs h = grind (arith, nat_tests)

there : {X : Type 0} (xs : List X) (n : ℕ) → lacks xs n ≡ false → n < length xs
there xs n h = grind (arith, nat_tests)

-- a side that was drawn has room
pub side_room : (t : Tables) (s : Side) → least (side_faults t s) ≡ None → length t.sides < 32767
side_room t s h = room t.sides (two_none 4 12 (lacks t.sectors s.sector) (lacks_room t.sides 1) h).1

-- a side that was changed is there
pub side_there : (t : Tables) (n : ℕ) (s : Side) → least (set_side_faults t n s) ≡ None → n < length t.sides
side_there t n s h = there t.sides n (two_none 4 5 (lacks t.sectors s.sector) (lacks t.sides n) h).1

six_none : (a b c d e f : Bool) → least ((3, a) ∷ (5, b) ∷ (6, c) ∷ (9, d) ∷ (11, e) ∷ (13, f) ∷ []) ≡ None → c ≡ false
six_none true b c d e f h = cc
six_none false true c d e f h = cc
six_none false false true d e f h = cc
six_none false false false d e f h = refl

-- so is a line
pub line_there : (t : Tables) (n : ℕ) (l : Line) → least (set_line_faults t n l) ≡ None → n < length t.lines
line_there t n l h =
    there t.lines n
    (six_none (lacks t.vertices l.v1 || lacks t.vertices l.v2) (lacks t.sides l.right || (has_left l && lacks t.sides l.left)) (lacks t.lines n) (l.v1 == l.v2)
    (is_two_sided l && not (has_left l)) (is_too_long t.vertices l) h)

one_none : (c : ℕ) (a : Bool) → least ((c, a) ∷ []) ≡ None → a ≡ false
one_none c true h = cc
one_none c false h = refl

sector_room : {X : Type 0} (xs : List X) → lacks_sector_room xs 1 ≡ false → length xs ≤ 4095
sector_room xs h = grind (arith, nat_tests)

all_draw : (es : List PlacedLine) (cs : List Command) → All (DrawsOn es) cs → All Draws cs
all_draw es [] h = All-nil Draws
all_draw es (c ∷ cs) h = All-cons Draws c cs (All-head (DrawsOn es) c cs h).draws (all_draw es cs (All-tail (DrawsOn es) c cs h))

-- the things, the name, the sectors and the vertices that were there are as they were
pub drawing_keeps : (m : Tables) (b : Border) (d : Drawing) → IsLedOn m b d → KeepsItems m d.map.tables
drawing_keeps m b d h =
    subst (KeepsItems m) (sym (LeadTo-drawn m d.commands.items d.map.tables h.led))
    (keeps_drawing m d.commands.items (all_draw b.edges.items d.commands.items h.drawing))

-- where one more sector was drawn there was room for it
pub sectors_room : (m : Tables) → least (sector_faults m) ≡ None → length m.sectors ≤ 4095
sectors_room m h = sector_room m.sectors (one_none 12 (lacks_sector_room m.sectors 1) h)

-- a line after all that are there is none that the outline leaves alone
pub taken_new : (m : Tables) (b : Border) (round : Option ℕ) (t : Tables) (n : ℕ) → IsBecoming m b round t → length t.lines ≤ n → IsTaken m b n
taken_new m b round t n h le l is alone =
    let y = h.lines n l is in
    let lt = slice_get_within t.lines n y.0 y.1 in
    absurd (omega (arith, lt, le))
