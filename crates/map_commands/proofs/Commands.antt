-- What is proved of each command of a map: its words, the command back from them, its codes, and how many items the map
-- then has.
use Rattle.std.proofs.Common.{◌≡◌, ℕ, ◌+◌, ◌≤◌, false, cond, List, [], ◌∷◌, length, Option, Some, None, refl, sym, ap, ◌∙◌, arith, nat_lt, lit≤, length-append}
use Rattle.std.specs.Prelude.{slice_set}
use Rattle.std.proofs.lemmas.Bool.{le-ltb}
use Rattle.std.proofs.lemmas.List.{length-set}
use Rattle.lump_records.specs.Names.{is_marker, name_of}
use Rattle.map_tables.specs.declared.edit.Edit.TheVariants as edit
use Rattle.map_tables.specs.declared.edit.Item.TheVariants as item
use Rattle.map_tables.specs.declared.kind.Kind.{Kind}
use Rattle.map_tables.specs.declared.kind.Kind.TheVariants as kind
use Rattle.map_tables.specs.Outcomes.{least}
use Rattle.map_tables.specs.Ranges.{last_of}
use Rattle.map_tables.specs.Tables.{Tables, body_len_of_one}
use Rattle.map_commands.specs.declared.command.Command.{Command}
use Rattle.map_commands.specs.declared.command.Command.TheVariants.{Name, Edit, Room, Split}
use Rattle.map_commands.specs.declared.command.LineSplit.{LineSplit}
use Rattle.map_commands.specs.declared.command.RoomPlan.{RoomPlan}
use Rattle.map_commands.specs.declared.grammar.Head.{Head}
use Rattle.map_commands.specs.declared.grammar.Head.TheVariants as head
use Rattle.map_commands.specs.Grammar.{command_fault, fault_behind, fault_of, head_for, head_of, head_word, spelling, words_behind, words_of}
use Rattle.map_commands.specs.Places as place
use Rattle.map_commands.specs.Places.{Named, sector_item, vertex_places, sector_places, side_places, line_places, thing_places}
use Rattle.map_commands.specs.Rooms.{corners, room_sector, room_sides, walls}
use Rattle.map_commands.specs.Spelling.{kind_of}
use Rattle.map_commands.specs.Splits.{cut_off, cut_short, line_or_some}
use Rattle.map_commands.specs.Step.{InRange, after, dropped_of, faults, growth_of, need_of}
use Rattle.map_words.specs.Words.{parts}
use Rattle.map_commands.proofs.Accepted.{all-read, item-ok, marker-ok, next}
use Rattle.map_commands.proofs.Counts.{Counted, Counts, add_each, fullness_by, name_each, set_each}
use Rattle.map_commands.proofs.LowFaults.{IsLow, drop_low, places_low, room_low}
use Rattle.map_commands.proofs.NumbersBack.{natural_of, natural-back}
use Rattle.map_commands.proofs.RecordWords.{vertex-texts, vertex-ok, vertex-back, vertex_of, sector-texts, sector-ok, sector-back, sector_of, side-texts, side-ok, side-back, side_of, line-texts, line-ok, line-back, line_of, thing-texts, thing-ok, thing-back, thing_of, room-texts, room-ok, room-back, room_of}
use Rattle.map_commands.proofs.Rooms.{room-fits}
use Rattle.map_commands.proofs.Steps.{are_low, edit-low, least-low}
use Rattle.map_commands.proofs.Wordings.{AreTexts, IsText, drop-texts, join-short, kind-text, marker-is-text, number-text, parts-join}

-- ---- Its words

-- the first words are texts
head-text : (h : Head) → IsText (head_word h)
head-text head.Name = record { inside = refl; short = lit≤ tt }
head-text h = record { inside = refl; short = lit≤ tt }

texts : (c : Command) → InRange c → AreTexts (words_of c)
texts (Name n) h = (head-text head.Name, (marker-is-text n h, tt))
texts (Edit (edit.Add (item.Vertex v))) h = (head-text head.Vertex, vertex-texts v h)
texts (Edit (edit.Add (item.Sector s))) h = (head-text head.Sector, sector-texts s h)
texts (Edit (edit.Add (item.Side s))) h = (head-text head.Side, side-texts s h)
texts (Edit (edit.Add (item.Line l))) h = (head-text head.Line, line-texts l h)
texts (Edit (edit.Add (item.Thing t))) h = (head-text head.Thing, thing-texts t h)
texts (Edit (edit.Set n (item.Vertex v))) h = (head-text head.MoveVertex, (number-text n 32766 h.0 (lit≤ tt), vertex-texts v h.1))
texts (Edit (edit.Set n (item.Sector s))) h = (head-text head.SetSector, (number-text n 4095 h.0 (lit≤ tt), sector-texts s h.1))
texts (Edit (edit.Set n (item.Side s))) h = (head-text head.SetSide, (number-text n 32766 h.0 (lit≤ tt), side-texts s h.1))
texts (Edit (edit.Set n (item.Line l))) h = (head-text head.SetLine, (number-text n 32766 h.0 (lit≤ tt), line-texts l h.1))
texts (Edit (edit.Set n (item.Thing t))) h = (head-text head.SetThing, (number-text n 32766 h.0 (lit≤ tt), thing-texts t h.1))
texts (Edit (edit.Drop k n)) h = (head-text head.Drop, (kind-text k, (drop-texts k n h, tt)))
texts (Room r) h = (head-text head.Room, room-texts r h.plan)
texts (Split s) h = (head-text head.Split, (number-text s.line 32766 h.0 (lit≤ tt), vertex-texts s.at h.1))

few : (c : Command) → length (words_of c) ≤ 11
few (Edit (edit.Add (item.Vertex v))) = lit≤ tt
few (Edit (edit.Set n (item.Vertex v))) = lit≤ tt
few c = lit≤ tt

drop-fits : (k : Kind) (n : ℕ) → n ≤ last_of k → command_fault (words_of (Edit (edit.Drop k n))) ≡ None
drop-fits kind.Vertex n h = (next _ _ _ _ (item-ok n 32766 h (lit≤ tt)) all-read).none
drop-fits kind.Sector n h = (next _ _ _ _ (item-ok n 4095 h (lit≤ tt)) all-read).none
drop-fits kind.Side n h = (next _ _ _ _ (item-ok n 32766 h (lit≤ tt)) all-read).none
drop-fits kind.Line n h = (next _ _ _ _ (item-ok n 32766 h (lit≤ tt)) all-read).none
drop-fits kind.Thing n h = (next _ _ _ _ (item-ok n 32766 h (lit≤ tt)) all-read).none

-- the words of a command in range have no fault
fits : (c : Command) → InRange c → command_fault (words_of c) ≡ None
fits (Name n) h = (next _ _ _ _ (marker-ok n h) all-read).none
fits (Edit (edit.Add (item.Vertex v))) h = (vertex-ok v h).none
fits (Edit (edit.Add (item.Sector s))) h = (sector-ok s h).none
fits (Edit (edit.Add (item.Side s))) h = (side-ok s h).none
fits (Edit (edit.Add (item.Line l))) h = (line-ok l h).none
fits (Edit (edit.Add (item.Thing t))) h = (thing-ok t h).none
fits (Edit (edit.Set n (item.Vertex v))) h = (next _ _ _ _ (item-ok n 32766 h.0 (lit≤ tt)) (vertex-ok v h.1)).none
fits (Edit (edit.Set n (item.Sector s))) h = (next _ _ _ _ (item-ok n 4095 h.0 (lit≤ tt)) (sector-ok s h.1)).none
fits (Edit (edit.Set n (item.Side s))) h = (next _ _ _ _ (item-ok n 32766 h.0 (lit≤ tt)) (side-ok s h.1)).none
fits (Edit (edit.Set n (item.Line l))) h = (next _ _ _ _ (item-ok n 32766 h.0 (lit≤ tt)) (line-ok l h.1)).none
fits (Edit (edit.Set n (item.Thing t))) h = (next _ _ _ _ (item-ok n 32766 h.0 (lit≤ tt)) (thing-ok t h.1)).none
fits (Edit (edit.Drop k n)) h = drop-fits k n h
fits (Room r) h = room-fits r h (room-ok r h.plan).none
fits (Split s) h = (next _ _ _ _ (item-ok s.line 32766 h.0 (lit≤ tt)) (vertex-ok s.at h.1)).none

-- the parts of a command's line are its words
pub parts-spelling : (c : Command) → InRange c → parts (spelling c) ≡ words_of c
parts-spelling c h = parts-join (head_word (head_for c)) (words_behind c) (texts c h)

short-enough : (n : ℕ) → n ≤ 256 → nat_lt 256 n ≡ false
short-enough n h = le-ltb 256 n h

-- the line of a command in range has no fault
pub spelling-accepted : (c : Command) → InRange c → fault_of (spelling c) ≡ None
spelling-accepted c h =
    let l = join-short (words_of c) (texts c h) in
    let w = few c in
    let short = short-enough (length (spelling c)) (omega (arith, l, w)) in
    let same = parts-spelling c h in
    (λ i. cond {A = Option ℕ} (short i) (Some 1) (command_fault (same i))) ∙ fits c h

-- ---- The command of its words

abbrev first : List (List ℕ) → List ℕ
first [] = []
first (w ∷ ws) = w

abbrev rest : List (List ℕ) → List (List ℕ)
rest [] = []
rest (w ∷ ws) = ws

abbrev kind_or : Option Kind → Kind
kind_or None = kind.Vertex
kind_or (Some k) = k

abbrev command_behind : Head → List (List ℕ) → Command
command_behind head.Name ws = Name (name_of (first ws))
command_behind head.Vertex ws = Edit (edit.Add (item.Vertex (vertex_of ws)))
command_behind head.Sector ws = Edit (edit.Add (item.Sector (sector_of ws)))
command_behind head.Side ws = Edit (edit.Add (item.Side (side_of ws)))
command_behind head.Line ws = Edit (edit.Add (item.Line (line_of ws)))
command_behind head.Thing ws = Edit (edit.Add (item.Thing (thing_of ws)))
command_behind head.MoveVertex ws = Edit (edit.Set (natural_of (first ws)) (item.Vertex (vertex_of (rest ws))))
command_behind head.SetSector ws = Edit (edit.Set (natural_of (first ws)) (item.Sector (sector_of (rest ws))))
command_behind head.SetSide ws = Edit (edit.Set (natural_of (first ws)) (item.Side (side_of (rest ws))))
command_behind head.SetLine ws = Edit (edit.Set (natural_of (first ws)) (item.Line (line_of (rest ws))))
command_behind head.SetThing ws = Edit (edit.Set (natural_of (first ws)) (item.Thing (thing_of (rest ws))))
command_behind head.Drop ws = Edit (edit.Drop (kind_or (kind_of (first ws))) (natural_of (first (rest ws))))
command_behind head.Room ws = Room (room_of ws)
command_behind head.Split ws = Split (record { line = natural_of (first ws); at = vertex_of (rest ws) })

abbrev command_at : Option Head → List (List ℕ) → Command
command_at None ws = Name (name_of [])
command_at (Some h) ws = command_behind h ws

abbrev command_of : List (List ℕ) → Command
command_of ws = command_at (head_of (first ws)) (rest ws)

drop-back : (k : Kind) (n : ℕ) → n ≤ last_of k → command_of (words_of (Edit (edit.Drop k n))) ≡ Edit (edit.Drop k n)
drop-back kind.Vertex n h = ap (λ n. Edit (edit.Drop kind.Vertex n)) (natural-back n (omega arith))
drop-back kind.Sector n h = ap (λ n. Edit (edit.Drop kind.Sector n)) (natural-back n (omega arith))
drop-back kind.Side n h = ap (λ n. Edit (edit.Drop kind.Side n)) (natural-back n (omega arith))
drop-back kind.Line n h = ap (λ n. Edit (edit.Drop kind.Line n)) (natural-back n (omega arith))
drop-back kind.Thing n h = ap (λ n. Edit (edit.Drop kind.Thing n)) (natural-back n (omega arith))

at-most : (n last : ℕ) → n ≤ last → last ≤ 32767 → n ≤ 32767
at-most n last h l = omega arith

back : (c : Command) → InRange c → command_of (words_of c) ≡ c
back (Name n) h = ap Name (sym h.padded)
back (Edit (edit.Add (item.Vertex v))) h = ap (λ v. Edit (edit.Add (item.Vertex v))) (vertex-back v h)
back (Edit (edit.Add (item.Sector s))) h = ap (λ v. Edit (edit.Add (item.Sector v))) (sector-back s h)
back (Edit (edit.Add (item.Side s))) h = ap (λ v. Edit (edit.Add (item.Side v))) (side-back s h)
back (Edit (edit.Add (item.Line l))) h = ap (λ v. Edit (edit.Add (item.Line v))) (line-back l h)
back (Edit (edit.Add (item.Thing t))) h = ap (λ v. Edit (edit.Add (item.Thing v))) (thing-back t h)
back (Edit (edit.Set n (item.Vertex v))) h = λ i. Edit (edit.Set (natural-back n (at-most n 32766 h.0 (lit≤ tt)) i) (item.Vertex (vertex-back v h.1 i)))
back (Edit (edit.Set n (item.Sector s))) h = λ i. Edit (edit.Set (natural-back n (at-most n 4095 h.0 (lit≤ tt)) i) (item.Sector (sector-back s h.1 i)))
back (Edit (edit.Set n (item.Side s))) h = λ i. Edit (edit.Set (natural-back n (at-most n 32766 h.0 (lit≤ tt)) i) (item.Side (side-back s h.1 i)))
back (Edit (edit.Set n (item.Line l))) h = λ i. Edit (edit.Set (natural-back n (at-most n 32766 h.0 (lit≤ tt)) i) (item.Line (line-back l h.1 i)))
back (Edit (edit.Set n (item.Thing t))) h = λ i. Edit (edit.Set (natural-back n (at-most n 32766 h.0 (lit≤ tt)) i) (item.Thing (thing-back t h.1 i)))
back (Edit (edit.Drop k n)) h = drop-back k n h
back (Room r) h = ap Room (room-back r h.plan)
back (Split s) h = λ i. Split (record { line = natural-back s.line (at-most s.line 32766 h.0 (lit≤ tt)) i; at = vertex-back s.at h.1 i })

-- one line is the line of one command in range
pub spelling-one : (c d : Command) → InRange c → InRange d → spelling c ≡ spelling d → c ≡ d
spelling-one c d h g e =
    sym (back c h) ∙ ap command_of (sym (parts-spelling c h) ∙ ap parts e ∙ parts-spelling d g) ∙ back d g

-- ---- Its codes

faults-low : (m : Tables) (c : Command) → are_low (faults m c)
faults-low m (Edit e) = edit-low m e
faults-low m c = search arith

-- why a command is refused is why an edit of the map is
pub code_is_low : (m : Tables) (c : Command) (k : ℕ) → least (faults m c) ≡ Some k → k ≤ 13
code_is_low m c k e = least-low (faults m c) k (faults-low m c) e

-- the fault of a line is low
pub behind_low : (h : Head) (ws : List (List ℕ)) → IsLow (fault_behind h ws)
behind_low head.Name ws = places_low (Named is_marker ∷ []) ws
behind_low head.Vertex ws = places_low vertex_places ws
behind_low head.Sector ws = places_low sector_places ws
behind_low head.Side ws = places_low side_places ws
behind_low head.Line ws = places_low line_places ws
behind_low head.Thing ws = places_low thing_places ws
behind_low head.MoveVertex ws = places_low (place.item ∷ vertex_places) ws
behind_low head.SetSector ws = places_low (sector_item ∷ sector_places) ws
behind_low head.SetSide ws = places_low (place.item ∷ side_places) ws
behind_low head.SetLine ws = places_low (place.item ∷ line_places) ws
behind_low head.SetThing ws = places_low (place.item ∷ thing_places) ws
behind_low head.Drop ws = drop_low ws
behind_low head.Room ws = room_low ws
behind_low head.Split ws = places_low (place.item ∷ vertex_places) ws

-- ---- What it adds

room_each : (m : Tables) (r : RoomPlan) (k : Kind) → Counts m (Room r) k
room_each m r kind.Vertex = length-append m.vertices (corners r)
room_each m r kind.Sector = length-append m.sectors (room_sector r ∷ [])
room_each m r kind.Side = length-append m.sides (room_sides r (length m.sectors))
room_each m r kind.Line = length-append m.lines (walls (length m.vertices) (length m.sides))
room_each m r kind.Thing = omega arith

split_each : (m : Tables) (s : LineSplit) (k : Kind) → Counts m (Split s) k
split_each m s kind.Vertex = length-append m.vertices (s.at ∷ [])
split_each m s kind.Line =
    let line = line_or_some m.lines s.line in
    let vertex = length m.vertices in
    let lines = slice_set m.lines s.line (cut_short line vertex) in
    omega (arith, length-append lines (cut_off line vertex ∷ []), length-set m.lines s.line (cut_short line vertex))
split_each m s k = omega arith

-- the map has what the command adds besides, or else lacks what it drops
pub counted : (m : Tables) (c : Command) → Counted m c (dropped_of c)
counted m (Name name) = name_each m name
counted m (Edit (edit.Add i)) = add_each m i
counted m (Edit (edit.Set n i)) = set_each m n i
counted m (Edit (edit.Drop k n)) = (refl, refl)
counted m (Room r) = room_each m r
counted m (Split s) = split_each m s

-- the new body is too long exactly where the old one and what is added are
pub fullness : (m : Tables) (c : Command) (cap : ℕ) → body_len_of_one m ≤ cap → nat_lt cap (body_len_of_one (after m c)) ≡ nat_lt cap (body_len_of_one m + growth_of (need_of c))
fullness m c cap fits = fullness_by m c (dropped_of c) cap (counted m c) fits
