-- A map's dump draws it over a project that has room for it.
use Rattle.std.proofs.Common.{◌≡◌, ◌≢◌, ℕ, suc, ◌+◌, ◌<◌, ◌≤◌, Bool, true, false, ◌&&◌, not, List, [], ◌∷◌, ◌++◌, length, get_or, take, drop, map, None, refl, sym, subst, ◌∙◌, ap, arith, length-append, nat_lt}
use Rattle.std.proofs.Math.Seq.{drop-cons}
use Rattle.std.specs.Prelude.{sum_by}
use Rattle.std.proofs.lemmas.Bool.{cond-false, cond-true, le-ltb, ltb-false, ltb-true}
use Rattle.std.proofs.lemmas.List.{get_or-set_other, get_or-set_same, get_or_append_left, length-set, length-take-le, take-append-drop}
use Rattle.std.proofs.lemmas.List.Sums.{fails_before_first, passes_at_first, position_or_len_is, sum_by-append, sum_by-cons}
use Rattle.lump_records.specs.declared.records.Name8.{Name8}
use Rattle.map_tables.specs.Tables.{Tables, empty_tables, part_len}
use Rattle.map_tables.specs.WellFormed.{WellFormed}
use Rattle.map_tables.specs.Ranges.{IsNamed, is_marker}
use Rattle.map_tables.specs.Outcomes.{least}
use Rattle.map_tables.specs.Edits.{with_name}
use Rattle.map_tables.specs.ProjectEdits.{with_selected}
use Rattle.map_tables.specs.Projects.{ProjectMaps, body_len, current_map, has_map, is_named, map_number_of, with_current}
use Rattle.map_tables.proofs.ProjectLemmas.{same_name, set_middle}
use Rattle.map_commands.specs.declared.project.command.ProjectCommand.TheVariants.{Current, SelectMap}
use Rattle.map_commands.specs.ProjectCommands.{project_spelling}
use Rattle.map_commands.specs.ProjectStep.{project_number_of}
use Rattle.map_commands.specs.ProjectLines.{LeadsTo}
use Rattle.map_commands.proofs.ProjectSteps.{step-accepts}
use Rattle.map_dump.specs.Dump.{commands_of_one, items_of}
use Rattle.map_dump.specs.MapDumps.{HasRoomFor, MapDumpsDraw, with_map}
use Rattle.map_dump.proofs.Items.{Draws, between, leads_items}

-- ---- The map with a name

-- the map that is added if none has the name
abbrev pub added : Name8 → Tables
added name = with_name empty_tables name

pub selected-there : (p : ProjectMaps) (name : Name8) → has_map p name ≡ true → (with_selected p name).maps ≡ p.maps
selected-there p name there = cond-true (has_map p name) p.maps (p.maps ++ added name ∷ []) there

pub selected-new : (p : ProjectMaps) (name : Name8) → has_map p name ≡ false → (with_selected p name).maps ≡ p.maps ++ added name ∷ []
selected-new p name none = cond-false (has_map p name) p.maps (p.maps ++ added name ∷ []) none

-- the number of the map that is added
pub new_number : (p : ProjectMaps) (name : Name8) → has_map p name ≡ false → map_number_of p name ≡ length p.maps
new_number p name none =
    let past = ltb-false (map_number_of p name) (length p.maps) none in
    position_or_len_is (is_named name) p.maps (length p.maps) empty_tables (omega arith)
    (λ k h. fails_before_first (is_named name) p.maps k empty_tables (omega arith))
    (λ h. absurd (omega arith))

pub selected_within : (p : ProjectMaps) (name : Name8) → (with_selected p name).current < length (with_selected p name).maps
selected_within p name = by (has_map p name) refl
  where
    by : (t : Bool) → has_map p name ≡ t → map_number_of p name < length (with_selected p name).maps
    by true e =
        let same = ap length (selected-there p name e) in
        let within = ltb-true (map_number_of p name) (length p.maps) e in
        omega (arith, same, within)
    by false e =
        let longer = ap length (selected-new p name e) in
        let last = new_number p name e in
        omega (arith, longer, last, length-append p.maps (added name ∷ []))

no_fewer : (p : ProjectMaps) (name : Name8) → length p.maps ≤ length (with_selected p name).maps
no_fewer p name = by (has_map p name) refl
  where
    by : (t : Bool) → has_map p name ≡ t → length p.maps ≤ length (with_selected p name).maps
    by true e = let same = ap length (selected-there p name e) in omega (arith, same)
    by false e =
        let longer = ap length (selected-new p name e) in
        omega (arith, longer, length-append p.maps (added name ∷ []))

-- ---- The current map and the others

parted : {X : Type 0} (xs : List X) (n : ℕ) (d : X) → n < length xs → xs ≡ take n xs ++ get_or xs n d ∷ drop (suc n) xs
parted xs n d h = sym (take-append-drop n xs) ∙ ap (λ ys. take n xs ++ ys) (drop-cons xs n d h)

-- the maps before the current one, and those after it
abbrev front : ProjectMaps → List Tables
front p = take p.current p.maps

abbrev behind : ProjectMaps → List Tables
behind p = drop (suc p.current) p.maps

is_between : (p : ProjectMaps) → p.current < length p.maps → p ≡ between (front p) (current_map p) (behind p)
is_between p h =
    let count : length (front p) ≡ p.current = length-take-le p.current p.maps (omega arith) in
    λ i. record { maps = parted p.maps p.current empty_tables h i; current = sym count i }

pub placed_between : (p : ProjectMaps) (m : Tables) → p.current < length p.maps → with_current p m ≡ between (front p) m (behind p)
placed_between p m h =
    ap (λ q. with_current q m) (is_between p h)
    ∙ (λ i. record { maps = set_middle (front p) (behind p) (current_map p) m i; current = length (front p) })

-- ---- The lines

-- a map that takes the place of an empty one makes no body shorter
longer_between : (done back : List Tables) (m : Tables) → body_len (between done (added m.name) back) ≤ body_len (between done m back)
longer_between done back m =
    omega (arith, sum_by-append part_len done (added m.name ∷ back), sum_by-cons part_len (added m.name) back, sum_by-append part_len done (m ∷ back), sum_by-cons part_len m back)

-- the map with the name is made current, or added
leads_selected : (cap : ℕ) (p : ProjectMaps) (name : Name8) → IsNamed is_marker name → HasRoomFor p name → body_len (with_selected p name) ≤ cap
    → LeadsTo cap p (project_spelling (SelectMap name)) (with_selected p name)
leads_selected cap p name named room fits =
    let none = by (has_map p name) refl in
    let short : nat_lt cap (body_len (with_selected p name)) ≡ false = le-ltb cap (body_len (with_selected p name)) fits in (
      project_number_of p (SelectMap name),
      record {
        command = SelectMap name;
        range = named;
        line_is = refl;
        stepped = step-accepts p (SelectMap name) cap none short;
      },
    )
  where
    by : (t : Bool) → has_map p name ≡ t → least ((16, not (has_map p name) && nat_lt 32 (length p.maps + 1)) ∷ []) ≡ None
    by true e = λ i. least ((16, not (e i) && nat_lt 32 (length p.maps + 1)) ∷ [])
    by false e =
        let longer = ap length (selected-new p name e) in
        let count = room.count in
        let few : nat_lt 32 (length p.maps + 1) ≡ false = le-ltb 32 (length p.maps + 1) (omega (arith, longer, count, length-append p.maps (added name ∷ []))) in
        λ i. least ((16, not (e i) && few i) ∷ [])

-- the project with an empty map with the name, and the project with the map
abbrev start : ProjectMaps → Tables → ProjectMaps
start p m = let q = with_selected p m.name in between (front q) (added m.name) (behind q)

abbrev end : ProjectMaps → Tables → ProjectMaps
end p m = let q = with_selected p m.name in between (front q) m (behind q)

selected_is : (p : ProjectMaps) (m : Tables) → HasRoomFor p m.name → with_selected p m.name ≡ start p m
selected_is p m room =
    let q = with_selected p m.name in
    is_between q (selected_within p m.name) ∙ ap (λ e. between (front q) e (behind q)) room.empty

placed_is : (p : ProjectMaps) (m : Tables) → with_map p m ≡ end p m
placed_is p m = placed_between (with_selected p m.name) m (selected_within p m.name)

no_shorter : (p : ProjectMaps) (m : Tables) → HasRoomFor p m.name → body_len (with_selected p m.name) ≤ body_len (with_map p m)
no_shorter p m room =
    let q = with_selected p m.name in
    let old = ap body_len (selected_is p m room) in
    let new = ap body_len (placed_is p m) in
    omega (arith, old, new, longer_between (front q) (behind q) m)

-- nor does an added map make it shorter
pub no_longer : (p : ProjectMaps) (m : Tables) → HasRoomFor p m.name → body_len p ≤ body_len (with_map p m)
no_longer p m room = by (has_map p m.name) refl
  where
    by : (t : Bool) → has_map p m.name ≡ t → body_len p ≤ body_len (with_map p m)
    by true e =
        let same = ap (sum_by part_len) (selected-there p m.name e) in
        omega (arith, same, no_shorter p m room)
    by false e =
        let more = ap (sum_by part_len) (selected-new p m.name e) in
        omega (arith, more, no_shorter p m room, sum_by-append part_len p.maps (added m.name ∷ []))

leads_over : (cap : ℕ) (p : ProjectMaps) (m : Tables) → WellFormed m → HasRoomFor p m.name → body_len (with_map p m) ≤ cap
    → Draws cap p (commands_of_one m) (with_map p m)
leads_over cap p m w room fits =
    let q = with_selected p m.name in
    let is = placed_is p m in
    let whole : body_len (end p m) ≤ cap = omega (arith, fits, ap body_len is) in
    let items : Draws cap (start p m) (map Current (items_of m)) (end p m) = leads_items cap (front q) (behind q) m w whole in (
      q,
      leads_selected cap p m.name w.name room (omega (arith, fits, no_shorter p m room)),
      subst (λ old. Draws cap old (map Current (items_of m)) (with_map p m)) (sym (selected_is p m room))
          (subst (λ new. Draws cap (start p m) (map Current (items_of m)) new) (sym is) items),
    )

-- ---- The other maps

-- a map with another name isn't the current one, and stays
stays : (p : ProjectMaps) (m : Tables) (k : ℕ) (d : Tables) → k < length p.maps → (get_or p.maps k d).name ≢ m.name
    → get_or (with_map p m).maps k d ≡ get_or p.maps k d
stays p m k d h other =
    get_or-set_other (with_selected p m.name).maps (map_number_of p m.name) k m d (λ is. other (current_named is)) ∙ by (has_map p m.name) refl
  where
    current_named : k ≡ map_number_of p m.name → (get_or p.maps k d).name ≡ m.name
    current_named is =
        let within : map_number_of p m.name < length p.maps = omega (arith, is, h) in
        same_name m.name (get_or p.maps k d) (ap (λ n. is_named m.name (get_or p.maps n d)) is ∙ passes_at_first (is_named m.name) p.maps d within)

    by : (t : Bool) → has_map p m.name ≡ t → get_or (with_selected p m.name).maps k d ≡ get_or p.maps k d
    by true e = ap (λ ms. get_or ms k d) (selected-there p m.name e)
    by false e = ap (λ ms. get_or ms k d) (selected-new p m.name e) ∙ get_or_append_left p.maps (added m.name ∷ []) d k h

-- a map after the old ones is the one that is drawn
new_is : (p : ProjectMaps) (m : Tables) (k : ℕ) (d : Tables) → length p.maps ≤ k → k < length (with_map p m).maps
    → (get_or (with_map p m).maps k d).name ≡ m.name
new_is p m k d past h = by (has_map p m.name) refl
  where
    by : (t : Bool) → has_map p m.name ≡ t → (get_or (with_map p m).maps k d).name ≡ m.name
    by true e =
        let same = ap length (selected-there p m.name e) in
        absurd (omega (arith, same, past, h, length-set (with_selected p m.name).maps (map_number_of p m.name) m))
    by false e =
        let longer = ap length (selected-new p m.name e) in
        let number = new_number p m.name e in
        let at : k ≡ map_number_of p m.name = omega (arith, longer, past, h, number, length-append p.maps (added m.name ∷ []), length-set (with_selected p m.name).maps (map_number_of p m.name) m) in
        ap (λ n. (get_or (with_map p m).maps n d).name) at
        ∙ ap (λ t. t.name) (get_or-set_same (with_selected p m.name).maps (map_number_of p m.name) m d (selected_within p m.name))

pub drawn_over : MapDumpsDraw
drawn_over p m w room =
    let q = with_selected p m.name in
    record {
      leads = λ cap fits. leads_over cap p m w room fits;
      current = get_or-set_same q.maps q.current m empty_tables (selected_within p m.name);
      others =
          record {
            fewer = omega (arith, no_fewer p m.name, length-set q.maps q.current m);
            others = λ k d h other. stays p m k d h other;
            only = λ k d past h. new_is p m k d past h;
          };
    }
