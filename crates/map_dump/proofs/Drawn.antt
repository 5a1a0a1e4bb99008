-- The lines of a dump lead from the empty project to the one that was dumped.
use Rattle.std.proofs.Common.{◌≡◌, ◌≢◌, ℕ, zero, suc, ◌+◌, ◌<◌, ◌≤◌, Bool, true, false, ◌&&◌, not, List, [], ◌∷◌, ◌++◌, length, get_or, map, None, Ok, refl, sym, subst, ◌∙◌, ap, arith, append_assoc, length-append, nat_lt}
use Rattle.std.specs.Prelude.{◌==◌, if◌then◌else◌, sum_by}
use Rattle.std.specs.List.{All, AllPairs}
use Rattle.std.proofs.lemmas.Bool.{cond-true, eqb-true, false_from_ne_true, le-ltb, lt-ltb}
use Rattle.std.proofs.lemmas.List.Sums.{position_or_len_is, sum_by-append, sum_by-cons}
use Rattle.std.proofs.lemmas.Slice.Eq.{bytes_eq-Decides}
use Rattle.lump_records.specs.declared.records.Name8.{Name8}
use Rattle.map_tables.specs.Tables.{Tables, empty_tables, part_len}
use Rattle.map_tables.specs.WellFormed.{WellFormed}
use Rattle.map_tables.specs.Ranges.{IsNamed, is_marker}
use Rattle.map_tables.specs.Outcomes.{least}
use Rattle.map_tables.specs.Edits.{with_name}
use Rattle.map_tables.specs.ProjectEdits.{name_faults, with_selected}
use Rattle.map_tables.specs.Projects.{ProjectMaps, WellFormedProject, body_len, current_map, empty_project, has_map, is_named}
use Rattle.map_tables.specs.Projects as project
use Rattle.map_tables.proofs.ProjectLemmas.{added_is}
use Rattle.map_commands.specs.declared.command.Command.TheVariants.{Name}
use Rattle.map_commands.specs.declared.project.command.ProjectCommand.{ProjectCommand}
use Rattle.map_commands.specs.declared.project.command.ProjectCommand.TheVariants.{Current, SelectMap}
use Rattle.map_commands.specs.ProjectCommands.{project_spelling}
use Rattle.map_commands.specs.ProjectStep.{project_number_of}
use Rattle.map_commands.specs.ProjectLines.{Leads, LeadsTo}
use Rattle.map_commands.proofs.ProjectOutcomes.{one_project}
use Rattle.map_commands.proofs.ProjectSteps.{step-accepts}
use Rattle.map_dump.specs.Dump.{commands_from, dump_of, is_map01, items_of, naming_of, selection_of}
use Rattle.map_dump.specs.Laws.{DumpsDrawAgain, DumpsTellProjectsApart}
use Rattle.map_dump.proofs.Fronts.{holds_at, holds_before, inside}
use Rattle.map_dump.proofs.Items.{Draws, Draws-append, drawing, leads_items, leads_one}

-- ---- Names

pub other_name : (name : Name8) (m : Tables) → m.name ≢ name → is_named name m ≡ false
other_name name m other = false_from_ne_true (is_named name m) (λ t. other (λ i. record { bytes = (bytes_eq-Decides m.name.bytes name.bytes).0 t i }))

pub own_name : (name : Name8) (m : Tables) → m.name ≡ name → is_named name m ≡ true
own_name name m e = (bytes_eq-Decides m.name.bytes name.bytes).1 (ap (λ n. n.bytes) e)

-- if each map has another name, no map has this name
pub none_named : (p : ProjectMaps) (name : Name8) → ((k : ℕ) (d : Tables) → k < length p.maps → is_named name (get_or p.maps k d) ≡ false) → has_map p name ≡ false
none_named p name others =
    let past : project.map_number_of p name ≡ length p.maps =
    position_or_len_is (is_named name) p.maps (length p.maps) empty_tables (omega arith)
    (λ k h. others k empty_tables h) (λ h. absurd (omega (arith, h))) in
    ap (λ n. nat_lt n (length p.maps)) past ∙ le-ltb (length p.maps) (length p.maps) (omega arith)

and-false : (b : Bool) → (b && false) ≡ false
and-false true = refl
and-false false = refl

-- the only map takes any name
rename_free : (m : Tables) (name : Name8) → least (name_faults (drawing [] m) name) ≡ None
rename_free m name = by (is_named name m) refl
  where
    only : is_named name m ≡ false → (k : ℕ) (d : Tables) → k < 1 → is_named name (get_or (m ∷ []) k d) ≡ false
    only e zero d h = e
    only e (suc k) d h = absurd (omega (arith, h))

    by : (t : Bool) → is_named name m ≡ t → least (name_faults (drawing [] m) name) ≡ None
    by true e = (λ i. least ((17, has_map (drawing [] m) name && not (e i)) ∷ [])) ∙ (λ i. least ((17, and-false (has_map (drawing [] m) name) i) ∷ []))
    by false e = let none = none_named (drawing [] m) name (only e) in (λ i. least ((17, none i && not (is_named name m)) ∷ []))

-- ---- The first map is renamed, each other is added

-- it is selected if it has its name already
leads_there : (cap : ℕ) (p : ProjectMaps) (name : Name8) (k : ℕ) → IsNamed is_marker name → project.map_number_of p name ≡ k → k < length p.maps → body_len p ≤ cap
    → LeadsTo cap p (project_spelling (SelectMap name)) (record { maps = p.maps; current = k })
leads_there cap p name k named at inside fits =
    let q : ProjectMaps = record { maps = p.maps; current = k } in
    let there : has_map p name ≡ true = ap (λ k. nat_lt k (length p.maps)) at ∙ lt-ltb k (length p.maps) inside in
    let none : least ((16, not (has_map p name) && nat_lt 32 (length p.maps + 1)) ∷ []) ≡ None = λ i. least ((16, not (there i) && nat_lt 32 (length p.maps + 1)) ∷ []) in
    let same = cond-true (has_map p name) p.maps (p.maps ++ with_name empty_tables name ∷ []) there in
    let is : with_selected p name ≡ q = λ i. record { maps = same i; current = at i } in
    let short : nat_lt cap (body_len (with_selected p name)) ≡ false = ap (λ r. nat_lt cap (body_len r)) is ∙ le-ltb cap (body_len q) fits in (
      project_number_of p (SelectMap name),
      record {
        command = SelectMap name;
        range = named;
        line_is = refl;
        stepped = step-accepts p (SelectMap name) cap none short ∙ ap (λ r. Ok (r, project_number_of p (SelectMap name))) is;
      },
    )

leads_first : (cap : ℕ) (m : Tables) → WellFormed m → body_len (drawing [] m) ≤ cap → is_map01 m.name ≡ true
    → LeadsTo cap empty_project (project_spelling (SelectMap m.name)) (drawing [] (with_name empty_tables m.name))
leads_first cap m w fits first =
    let named : empty_tables.name ≡ m.name = sym (λ i. record { bytes = (bytes_eq-Decides m.name.bytes empty_tables.name.bytes).0 first i }) in
    let at : project.map_number_of empty_project m.name ≡ 0 =
    position_or_len_is (is_named m.name) empty_project.maps 0 empty_tables (omega arith) (λ k h. absurd (omega (arith, h))) (λ h. own_name m.name empty_tables named) in
    subst (λ (t : Tables). LeadsTo cap empty_project (project_spelling (SelectMap m.name)) (drawing [] t)) (ap (with_name empty_tables) named)
    (leads_there cap empty_project m.name 0 w.name at (omega arith) (omega (arith, fits, sum_by-cons part_len m [], sum_by-cons part_len empty_tables [])))

leads_name : (cap : ℕ) (m : Tables) → WellFormed m → body_len (drawing [] m) ≤ cap → LeadsTo cap empty_project (project_spelling (Current (Name m.name))) (drawing [] (with_name empty_tables m.name))
leads_name cap m w fits =
    leads_one cap [] [] m empty_tables (with_name empty_tables m.name) (Name m.name) (record { range = w.name; free = refl; made = refl; short = omega arith }) (rename_free empty_tables m.name) fits

leads_naming : (cap : ℕ) (m : Tables) → WellFormed m → body_len (drawing [] m) ≤ cap
    → LeadsTo cap empty_project (project_spelling (naming_of 0 m.name)) (drawing [] (with_name empty_tables m.name))
leads_naming cap m w fits = by (is_map01 m.name) refl
  where
    by : (t : Bool) → is_map01 m.name ≡ t
        → LeadsTo cap empty_project (project_spelling (if t then SelectMap m.name else Current (Name m.name))) (drawing [] (with_name empty_tables m.name))
    by true e = leads_first cap m w fits e
    by false e = leads_name cap m w fits

leads_new : (cap : ℕ) (p : ProjectMaps) (name : Name8) → IsNamed is_marker name → has_map p name ≡ false → length p.maps < 32 → body_len p + 18 ≤ cap
    → LeadsTo cap p (project_spelling (SelectMap name)) (record { maps = p.maps ++ with_name empty_tables name ∷ []; current = length p.maps })
leads_new cap p name named new room fits =
    let few : nat_lt 32 (length p.maps + 1) ≡ false = le-ltb 32 (length p.maps + 1) (omega (arith, room)) in
    let added = with_name empty_tables name in
    let q : ProjectMaps = record { maps = p.maps ++ added ∷ []; current = length p.maps } in
    let none : least ((16, not (has_map p name) && nat_lt 32 (length p.maps + 1)) ∷ []) ≡ None = λ i. least ((16, not (new i) && few i) ∷ []) in
    let is : with_selected p name ≡ q = sym (added_is p name added new refl) in
    let longer : body_len q ≤ cap = omega (arith, fits, sum_by-append part_len p.maps (added ∷ []), sum_by-cons part_len added []) in
    let short : nat_lt cap (body_len (with_selected p name)) ≡ false = ap (λ r. nat_lt cap (body_len r)) is ∙ le-ltb cap (body_len q) longer in (
      project_number_of p (SelectMap name),
      record {
        command = SelectMap name;
        range = named;
        line_is = refl;
        stepped = step-accepts p (SelectMap name) cap none short ∙ ap (λ r. Ok (r, project_number_of p (SelectMap name))) is;
      },
    )

-- ---- The maps after the first

-- the first maps of a list are no longer than all
front_len : (all front back : List Tables) (m : Tables) → all ≡ front ++ m ∷ back → sum_by part_len (front ++ m ∷ []) ≤ sum_by part_len all
front_len all front back m e =
    let whole : sum_by part_len all ≡ sum_by part_len (front ++ m ∷ back) = ap (sum_by part_len) e in
    omega (arith, whole, sum_by-append part_len front (m ∷ back), sum_by-cons part_len m back, sum_by-append part_len front (m ∷ []), sum_by-cons part_len m [])

-- all maps are drawn, and the last one is current
abbrev Reaches : ℕ → ProjectMaps → List ProjectCommand → List Tables → Type 0
Reaches cap old cs maps = (n : ℕ) × (n + 1 ≡ length maps) × Draws cap old cs (record { maps = maps; current = n })

leads_maps : (cap : ℕ) (p : ProjectMaps) (k : ℕ) (done : List Tables) (m : Tables) (ms : List Tables) → WellFormedProject p → body_len p ≤ cap → p.maps ≡ done ++ m ∷ ms
    → Reaches cap (drawing done m) (commands_from (suc k) ms) p.maps
leads_maps cap p k done m [] w fits e =
    let last : length done + 1 ≡ length p.maps = let same = ap length e in omega (arith, same, length-append done (m ∷ [])) in
    (length done, last, λ i. record { maps = e i; current = length done })
leads_maps cap p k done m (x ∷ ms) w fits e =
    let front = done ++ m ∷ [] in
    let next : p.maps ≡ front ++ x ∷ ms = e ∙ sym (append_assoc done (m ∷ []) (x ∷ ms)) in
    let fine : WellFormed x = holds_at WellFormed front ms x (subst (All WellFormed) next w.maps) in
    let apart = holds_before (λ a b. a.name ≢ b.name) front ms x (subst (AllPairs (λ a b. a.name ≢ b.name)) next w.names) in
    let new : has_map (drawing done m) x.name ≡ false = none_named (drawing done m) x.name (λ j d h. other_name x.name (get_or front j d) (apart j d h)) in
    let room : length front < 32 = let same = ap length next in let h = inside front ms x in omega (arith, same, h, w.count) in
    let part : body_len (drawing front x) ≤ cap = omega (arith, fits, front_len p.maps front ms x next) in
    let short : body_len (drawing done m) + 18 ≤ cap = omega (arith, part, sum_by-append part_len front (x ∷ []), sum_by-cons part_len x []) in
    let rest = leads_maps cap p (suc k) front x ms w fits next in (
      rest.0,
      rest.1,
      (
        drawing front (with_name empty_tables x.name),
        leads_new cap (drawing done m) x.name fine.name new room short,
        Draws-append cap (drawing front (with_name empty_tables x.name)) (drawing front x)
            (record { maps = p.maps; current = rest.0 }) (map Current (items_of x)) (commands_from (suc (suc k)) ms)
            (leads_items cap front [] x fine part) rest.2,
      ),
    )

-- ---- The current map is selected

leads_current : (cap : ℕ) (p : ProjectMaps) (n : ℕ) → WellFormedProject p → body_len p ≤ cap
    → LeadsTo cap (record { maps = p.maps; current = n }) (project_spelling (SelectMap (current_map p).name)) p
leads_current cap p n w fits =
    let q : ProjectMaps = record { maps = p.maps; current = n } in
    let name = (current_map p).name in
    let at : project.map_number_of q name ≡ p.current =
    position_or_len_is (is_named name) p.maps p.current empty_tables (omega (arith, w.current))
    (λ k h. other_name name (get_or p.maps k empty_tables) (w.names k p.current empty_tables h w.current))
    (λ h. own_name name (get_or p.maps p.current empty_tables) refl) in
    leads_there cap q name p.current (w.maps p.current empty_tables w.current).name at w.current fits

-- behind the last map, unless it is that one
selects : (cap : ℕ) (p : ProjectMaps) (n : ℕ) → n + 1 ≡ length p.maps → WellFormedProject p → body_len p ≤ cap
    → Draws cap (record { maps = p.maps; current = n }) (selection_of p) p
selects cap p n last w fits = by (p.current + 1 == length p.maps) refl
  where
    by : (t : Bool) → (p.current + 1 == length p.maps) ≡ t
        → Draws cap (record { maps = p.maps; current = n }) (if t then [] else SelectMap (current_map p).name ∷ []) p
    by true e =
        let here : p.current ≡ n = let is = eqb-true (p.current + 1) (length p.maps) e in omega (arith, last, is) in
        λ i. record { maps = p.maps; current = here i }
    by false e = (p, leads_current cap p n w fits, refl)

-- ---- All lines

draws_maps : (cap : ℕ) (p : ProjectMaps) (m : Tables) (ms : List Tables) → WellFormedProject p → body_len p ≤ cap → p.maps ≡ m ∷ ms
    → Reaches cap empty_project (commands_from 0 (m ∷ ms)) p.maps
draws_maps cap p m ms w fits e =
    let fine : WellFormed m = holds_at WellFormed [] ms m (subst (All WellFormed) e w.maps) in
    let part : body_len (drawing [] m) ≤ cap = omega (arith, fits, front_len p.maps [] ms m e) in
    let rest = leads_maps cap p 0 [] m ms w fits e in (
      rest.0,
      rest.1,
      (
        drawing [] (with_name empty_tables m.name),
        leads_naming cap m fine part,
        Draws-append cap (drawing [] (with_name empty_tables m.name)) (drawing [] m)
            (record { maps = p.maps; current = rest.0 }) (map Current (items_of m)) (commands_from 1 ms)
            (leads_items cap [] [] m fine part) rest.2,
      ),
    )

draws_all : (cap : ℕ) (p : ProjectMaps) (maps : List Tables) → p.maps ≡ maps → WellFormedProject p → body_len p ≤ cap → Reaches cap empty_project (commands_from 0 maps) p.maps
draws_all cap p [] e w fits = let none = ap length e in absurd (omega (arith, none, w.current))
draws_all cap p (m ∷ ms) e w fits = draws_maps cap p m ms w fits e

pub draws_again : DumpsDrawAgain
draws_again p w cap fits =
    let all = draws_all cap p p.maps refl w fits in
    let q : ProjectMaps = record { maps = p.maps; current = all.0 } in
    Draws-append cap empty_project q p (commands_from 0 p.maps) (selection_of p) all.2 (selects cap p all.0 all.1 w fits)

-- equal dumps lead to the same project
pub tells_apart : DumpsTellProjectsApart
tells_apart p q v w same =
    let cap = body_len p + body_len q in
    let one = draws_again p v cap (omega arith) in
    let other = draws_again q w cap (omega arith) in
    one_project cap empty_project p q (dump_of p) one (subst (λ lines. Leads cap empty_project lines q) (sym same) other)
