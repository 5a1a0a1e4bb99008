-- The text of a dump is cut into its lines at each LF, and into no others.
use Rattle.std.proofs.Common.{◌≡◌, ◌∙◌, ℕ, suc, zero, Bool, true, false, cond, ◌&&◌, ◌||◌, List, [], ◌∷◌, ◌++◌, length, Option, Some, None, refl, sym, ap, subst, arith, nat_eq, map}
use Rattle.std.specs.Prelude.{◌+◌, ◌==◌, bytes_eq, codes, if◌then◌else◌, nat_lt, not}
use Rattle.std.specs.List.{All, join_with_byte, list_all}
use Rattle.std.proofs.lemmas.Bool.{eqb-true}
use Rattle.std.proofs.lemmas.List.{map-append}
use Rattle.std.proofs.lemmas.List.Folds.{list_all-append}
use Rattle.std.proofs.lemmas.Slice.Eq.{bytes_eq-Decides}
use Rattle.lump_records.specs.declared.records.Name8.{Name8}
use Rattle.lump_records.specs.Names.{IsNamed, is_digit, is_marker, is_nonzero_digit, name_text}
use Rattle.lump_records.specs.declared.records.Thing.{Thing}
use Rattle.lump_records.specs.declared.records.Line.{Line}
use Rattle.lump_records.specs.declared.records.Side.{Side}
use Rattle.lump_records.specs.declared.records.Vertex.{Vertex}
use Rattle.lump_records.specs.declared.records.Sector.{Sector}
use Rattle.map_tables.specs.Tables.{Tables}
use Rattle.map_tables.specs.Projects.{ProjectMaps, WellFormedProject, current_map}
use Rattle.map_tables.specs.Ranges.{IsLine, IsSector, IsSide, IsThing, IsVertex}
use Rattle.map_tables.specs.WellFormed.{WellFormed}
use Rattle.map_commands.specs.Places.{Place, Number, NumberOrNone, Named, fault_at, prior_fault, has_form, is_form_fault, line_places, place_fault, places_fault, sector_places, side_places, thing_places, vertex_places}
use Rattle.map_commands.specs.ProjectCommands.{project_spelling}
use Rattle.map_commands.specs.Spelling.{line_words, sector_words, side_words, thing_words, vertex_words}
use Rattle.map_words.specs.Words.{is_natural, is_numeral, is_printable, is_word}
use Rattle.map_commands.specs.declared.command.Command.{Command}
use Rattle.map_commands.specs.declared.command.Command.TheVariants.{Edit, Name}
use Rattle.map_tables.specs.declared.edit.Edit.TheVariants as edit
use Rattle.map_tables.specs.declared.edit.Item.TheVariants as item
use Rattle.map_commands.specs.declared.project.command.ProjectCommand.{ProjectCommand}
use Rattle.map_commands.specs.declared.project.command.ProjectCommand.TheVariants.{Current, SelectMap}
use Rattle.map_commands.proofs.Accepted.{marker-ok}
use Rattle.map_words.proofs.NumeralWords.{both}
use Rattle.map_commands.proofs.Padding.{apart}
use Rattle.map_commands.proofs.RecordWords.{line-ok, sector-ok, side-ok, thing-ok, vertex-ok}
use Rattle.map_commands.proofs.Wordings.{all-of, both-back}
use Rattle.map_dump.specs.Dump.{commands_from, commands_of_map, dump_of, items_of, is_map01, map_dump_of, naming_of, selection_of}
use Rattle.map_dump.specs.Laws.{DumpsAreCutIntoLines, HoldsItsLines}
use Rattle.map_dump.specs.MapDumps.{MapDumpsAreCutIntoLines, map_dumps_of}
use Rattle.map_dump.specs.Texts.{with_lf, is_one_line, text_of}

-- a byte that isn't LF
abbrev is_inside : ℕ → Bool
is_inside b = not (nat_eq b 10)

-- ---- Words hold no LF

digit-inside : (b : ℕ) → is_digit b ≡ true → is_inside b ≡ true
digit-inside b e = ap not (apart is_digit 10 b refl e)

nonzero-inside : (b : ℕ) → is_nonzero_digit b ≡ true → is_inside b ≡ true
nonzero-inside b e = ap not (apart is_nonzero_digit 10 b refl e)

printable-inside : (b : ℕ) → is_printable b ≡ true → is_inside b ≡ true
printable-inside b e = ap not (apart is_printable 10 b refl e)

natural-line : (w : List ℕ) → is_natural w ≡ true → is_one_line w ≡ true
natural-line [] e = absurd cc
natural-line (b ∷ []) e = both-back (is_inside b) true (digit-inside b e) refl
natural-line (b ∷ c ∷ bs) e =
    let h = both (is_nonzero_digit b) (list_all is_digit (c ∷ bs)) e in
    both-back (is_inside b) (is_one_line (c ∷ bs)) (nonzero-inside b h.0) (all-of is_digit is_inside digit-inside (c ∷ bs) h.1)

numeral-if : (b : ℕ) (bs : List ℕ) (t : Bool) → nat_eq b 45 ≡ t → cond t (is_natural bs && not (bytes_eq bs (codes "0"))) (is_natural (b ∷ bs)) ≡ true
    → is_one_line (b ∷ bs) ≡ true
numeral-if b bs true is e =
    both-back (is_inside b) (is_one_line bs) (ap is_inside (eqb-true b 45 is)) (natural-line bs (both (is_natural bs) (not (bytes_eq bs (codes "0"))) e).0)
numeral-if b bs false is e = natural-line (b ∷ bs) e

numeral-line : (w : List ℕ) → is_numeral w ≡ true → is_one_line w ≡ true
numeral-line [] e = absurd cc
numeral-line (b ∷ bs) e = numeral-if b bs (nat_eq b 45) refl e

word-line : (w : List ℕ) → is_word w ≡ true → is_one_line w ≡ true
word-line w e = all-of is_printable is_inside printable-inside w (both (nat_lt 0 (length w)) (list_all is_printable w) e).1

form-of : (t : Bool) (x : Option ℕ) → cond t x (Some 1) ≡ None → t ≡ true
form-of true x e = refl
form-of false x e = absurd cc

numeral-or : (w : List ℕ) (t : Bool) → is_numeral w ≡ t → (t || bytes_eq w (codes "-")) ≡ true → is_one_line w ≡ true
numeral-or w true is e = numeral-line w is
numeral-or w false is e = subst (λ (v : List ℕ). is_one_line v ≡ true) (sym ((bytes_eq-Decides w (codes "-")).0 e)) refl

place-line : (p : Place) (w : List ℕ) → place_fault p w ≡ None → is_one_line w ≡ true
place-line (Number low high) w e = numeral-line w (form-of (is_numeral w) (fault_at (Number low high) w) e)
place-line (NumberOrNone low high) w e = numeral-or w (is_numeral w) refl (form-of (has_form (NumberOrNone low high) w) (fault_at (NumberOrNone low high) w) e)
place-line (Named test) w e = word-line w (form-of (is_word w) (fault_at (Named test) w) e)

some-fault : (t : Bool) (a b : ℕ) → cond t (Some a) (Some b) ≡ None → ⊥
some-fault true a b e = cc
some-fault false a b e = cc

no-faults : (x y : Option ℕ) → prior_fault x y ≡ None → (x ≡ None) × (y ≡ None)
no-faults None y e = (refl, e)
no-faults (Some a) y e = absurd (some-fault (is_form_fault y) 1 a e)

-- words at their places
places-lines : (ps : List Place) (ws : List (List ℕ)) → places_fault ps ws ≡ None → list_all is_one_line ws ≡ true
places-lines [] [] e = refl
places-lines [] (w ∷ ws) e = absurd cc
places-lines (p ∷ ps) [] e = absurd cc
places-lines (p ∷ ps) (w ∷ ws) e =
    let h = no-faults (place_fault p w) (places_fault ps ws) e in
    both-back (is_one_line w) (list_all is_one_line ws) (place-line p w h.0) (places-lines ps ws h.1)

-- ---- Nor do lines of words

all-append : {X : Type 0} (p : X → Bool) (xs ys : List X) → list_all p xs ≡ true → list_all p ys ≡ true → list_all p (xs ++ ys) ≡ true
all-append p xs ys e f = list_all-append p xs ys ∙ both-back (list_all p xs) (list_all p ys) e f

join-line : (ws : List (List ℕ)) → list_all is_one_line ws ≡ true → is_one_line (join_with_byte 32 ws) ≡ true
join-line [] e = refl
join-line (w ∷ []) e = (both (is_one_line w) true e).0
join-line (w ∷ v ∷ vs) e =
    let h = both (is_one_line w) (list_all is_one_line (v ∷ vs)) e in
    all-append is_inside w (32 ∷ join_with_byte 32 (v ∷ vs)) h.0 (join-line (v ∷ vs) h.1)

vertex-line : (v : Vertex) → IsVertex v → is_one_line (project_spelling (Current (Edit (edit.Add (item.Vertex v))))) ≡ true
vertex-line v h = join-line (codes "vertex" ∷ vertex_words v) (places-lines vertex_places (vertex_words v) (vertex-ok v h).none)

sector-line : (s : Sector) → IsSector s → is_one_line (project_spelling (Current (Edit (edit.Add (item.Sector s))))) ≡ true
sector-line s h = join-line (codes "sector" ∷ sector_words s) (places-lines sector_places (sector_words s) (sector-ok s h).none)

side-line : (s : Side) → IsSide s → is_one_line (project_spelling (Current (Edit (edit.Add (item.Side s))))) ≡ true
side-line s h = join-line (codes "side" ∷ side_words s) (places-lines side_places (side_words s) (side-ok s h).none)

line-line : (l : Line) → IsLine l → is_one_line (project_spelling (Current (Edit (edit.Add (item.Line l))))) ≡ true
line-line l h = join-line (codes "line" ∷ line_words l) (places-lines line_places (line_words l) (line-ok l h).none)

thing-line : (t : Thing) → IsThing t → is_one_line (project_spelling (Current (Edit (edit.Add (item.Thing t))))) ≡ true
thing-line t h = join-line (codes "thing" ∷ thing_words t) (places-lines thing_places (thing_words t) (thing-ok t h).none)

name-inside : (name : Name8) → IsNamed is_marker name → is_one_line (name_text name) ≡ true
name-inside name h = place-line (Named is_marker) (name_text name) (marker-ok name h).none

naming-line : (n : ℕ) (name : Name8) → IsNamed is_marker name → is_one_line (project_spelling (naming_of n name)) ≡ true
naming-line zero name h = by (is_map01 name)
  where
    by : (t : Bool) → is_one_line (project_spelling (if t then SelectMap name else Current (Name name))) ≡ true
    by true = join-line (codes "map" ∷ name_text name ∷ []) (both-back (is_one_line (name_text name)) true (name-inside name h) refl)
    by false = join-line (codes "name" ∷ name_text name ∷ []) (both-back (is_one_line (name_text name)) true (name-inside name h) refl)
naming-line (suc n) name h = join-line (codes "map" ∷ name_text name ∷ []) (both-back (is_one_line (name_text name)) true (name-inside name h) refl)

-- ---- All lines of a dump

-- each command's line is a single line
abbrev AreLines : List ProjectCommand → Type 0
AreLines cs = list_all is_one_line (map project_spelling cs) ≡ true

AreLines-append : (cs ds : List ProjectCommand) → AreLines cs → AreLines ds → AreLines (cs ++ ds)
AreLines-append cs ds e f = ap (list_all is_one_line) (map-append project_spelling cs ds) ∙ all-append is_one_line (map project_spelling cs) (map project_spelling ds) e f

edits-append : (cs ds : List Command) → AreLines (map Current cs) → AreLines (map Current ds) → AreLines (map Current (cs ++ ds))
edits-append cs ds e f = subst AreLines (sym (map-append Current cs ds)) (AreLines-append (map Current cs) (map Current ds) e f)

table-lines : {X : Type 0} (P : X → Type 0) (make : X → Command) → ((x : X) → P x → is_one_line (project_spelling (Current (make x))) ≡ true) → (xs : List X) → All P xs
    → AreLines (map Current (map make xs))
table-lines P make one [] all = refl
table-lines P make one (x ∷ xs) all =
    both-back (is_one_line (project_spelling (Current (make x)))) (list_all is_one_line (map project_spelling (map Current (map make xs)))) (one x (all 0 x (omega arith)))
    (table-lines P make one xs (λ k d h. all (suc k) d (omega arith)))

items-lines : (m : Tables) → WellFormed m → AreLines (map Current (items_of m))
items-lines m w =
    let vertices = table-lines IsVertex (λ v. Edit (edit.Add (item.Vertex v))) vertex-line m.vertices w.vertices in
    let sectors = table-lines IsSector (λ v. Edit (edit.Add (item.Sector v))) sector-line m.sectors w.sectors in
    let sides = table-lines IsSide (λ v. Edit (edit.Add (item.Side v))) side-line m.sides w.sides in
    let lines = table-lines IsLine (λ v. Edit (edit.Add (item.Line v))) line-line m.lines w.lines in
    let things = table-lines IsThing (λ v. Edit (edit.Add (item.Thing v))) thing-line m.things w.things in
    edits-append (map (λ v. Edit (edit.Add (item.Vertex v))) m.vertices) (map (λ v. Edit (edit.Add (item.Sector v))) m.sectors ++ (map (λ v. Edit (edit.Add (item.Side v))) m.sides ++ (map (λ v. Edit (edit.Add (item.Line v))) m.lines ++ (map (λ v. Edit (edit.Add (item.Thing v))) m.things ++ [])))) vertices
    (edits-append (map (λ v. Edit (edit.Add (item.Sector v))) m.sectors) (map (λ v. Edit (edit.Add (item.Side v))) m.sides ++ (map (λ v. Edit (edit.Add (item.Line v))) m.lines ++ (map (λ v. Edit (edit.Add (item.Thing v))) m.things ++ []))) sectors
    (edits-append (map (λ v. Edit (edit.Add (item.Side v))) m.sides) (map (λ v. Edit (edit.Add (item.Line v))) m.lines ++ (map (λ v. Edit (edit.Add (item.Thing v))) m.things ++ [])) sides
    (edits-append (map (λ v. Edit (edit.Add (item.Line v))) m.lines) (map (λ v. Edit (edit.Add (item.Thing v))) m.things ++ []) lines
    (edits-append (map (λ v. Edit (edit.Add (item.Thing v))) m.things) [] things refl))))

map-lines : (n : ℕ) (m : Tables) → WellFormed m → AreLines (commands_of_map n m)
map-lines n m w =
    both-back (is_one_line (project_spelling (naming_of n m.name))) (list_all is_one_line (map project_spelling (map Current (items_of m)))) (naming-line n m.name w.name) (items-lines m w)

maps-lines : (n : ℕ) (ms : List Tables) → All WellFormed ms → AreLines (commands_from n ms)
maps-lines n [] all = refl
maps-lines n (m ∷ ms) all =
    AreLines-append (commands_of_map n m) (commands_from (suc n) ms) (map-lines n m (all 0 m (omega arith)))
    (maps-lines (suc n) ms (λ k d h. all (suc k) d (omega arith)))

dump-lines : (p : ProjectMaps) → WellFormedProject p → list_all is_one_line (dump_of p) ≡ true
dump-lines p w = AreLines-append (commands_from 0 p.maps) (selection_of p) (maps-lines 0 p.maps w.maps) (by (p.current + 1 == length p.maps))
  where
    by : (t : Bool) → AreLines (if t then [] else SelectMap (current_map p).name ∷ [])
    by true = refl
    by false = both-back (is_one_line (project_spelling (naming_of 1 (current_map p).name))) true (naming-line 1 (current_map p).name (w.maps p.current _ w.current).name) refl

-- ---- One text is cut in one way

no-inside : (b : ℕ) → is_inside b ≡ true → b ≡ 10 → ⊥
no-inside b e is = let f : false ≡ true = ap is_inside (sym is) ∙ e in cc

ends-once : (x y t s : List ℕ) → is_one_line x ≡ true → is_one_line y ≡ true → with_lf x ++ t ≡ with_lf y ++ s → (x ≡ y) × (t ≡ s)
ends-once [] [] t s e f same = (refl, cc)
ends-once [] (b ∷ y) t s e f same = let is : 10 ≡ b = cc in absurd (no-inside b (both (is_inside b) (is_one_line y) f).0 (sym is))
ends-once (a ∷ x) [] t s e f same = let is : a ≡ 10 = cc in absurd (no-inside a (both (is_inside a) (is_one_line x) e).0 is)
ends-once (a ∷ x) (b ∷ y) t s e f same =
    let first : a ≡ b = cc in
    let behind : with_lf x ++ t ≡ with_lf y ++ s = cc in
    let h = ends-once x y t s (both (is_inside a) (is_one_line x) e).1 (both (is_inside b) (is_one_line y) f).1 behind in
    ((λ i. first i ∷ h.0 i), h.1)

with_lf-some : (x t : List ℕ) → [] ≡ with_lf x ++ t → ⊥
with_lf-some [] t e = cc
with_lf-some (a ∷ x) t e = cc

cut-once : (xs ys : List (List ℕ)) → list_all is_one_line xs ≡ true → list_all is_one_line ys ≡ true → text_of xs ≡ text_of ys → xs ≡ ys
cut-once [] [] e f same = refl
cut-once [] (y ∷ ys) e f same = absurd (with_lf-some y (text_of ys) same)
cut-once (x ∷ xs) [] e f same = absurd (with_lf-some x (text_of xs) (sym same))
cut-once (x ∷ xs) (y ∷ ys) e f same =
    let g = both (is_one_line x) (list_all is_one_line xs) e in
    let h = both (is_one_line y) (list_all is_one_line ys) f in
    let one = ends-once x y (text_of xs) (text_of ys) g.0 h.0 same in
    let rest = cut-once xs ys g.1 h.1 one.1 in
    λ i. one.0 i ∷ rest i

holds_lines : (lines : List (List ℕ)) → list_all is_one_line lines ≡ true → HoldsItsLines lines
holds_lines lines all =
    record {
      cut = record { joined = refl; cut = all };
      only = λ others c. sym (cut-once lines others all c.cut c.joined);
    }

pub are_cut : DumpsAreCutIntoLines
are_cut p w = holds_lines (dump_of p) (dump-lines p w)

-- ---- Dumps of single maps

map_dumps-lines : (ms : List Tables) → All WellFormed ms → list_all is_one_line (map_dumps_of ms) ≡ true
map_dumps-lines [] all = refl
map_dumps-lines (m ∷ ms) all =
    all-append is_one_line (map_dump_of m) (map_dumps_of ms) (map-lines 1 m (all 0 m (omega arith))) (map_dumps-lines ms (λ k d h. all (suc k) d (omega arith)))

pub map_dumps_are_cut : MapDumpsAreCutIntoLines
map_dumps_are_cut ms w = holds_lines (map_dumps_of ms) (map_dumps-lines ms w)
