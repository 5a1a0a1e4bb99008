-- A project stays well-formed under the edits of its maps; and its maps as one list.
use Rattle.std.proofs.Common.{◌≡◌, ◌≢◌, ℕ, zero, suc, ◌+◌, ◌-◌, ◌<◌, ◌≤◌, true, false, not, ltb, take_all, drop_of_length-le, List, [], ◌∷◌, ◌++◌, length, get_or, take, drop, refl, sym, ◌∙◌, ap, subst, inl, inr, arith, None, length-append, length-take-le}
use Rattle.std.specs.Prelude.{Option, Some, Result, Ok, Err, sum_by}
use Rattle.std.specs.List.{insert, remove}
use Rattle.std.proofs.Math.ListN.{set}
use Rattle.std.specs.List.{take-map, drop-map}
use Rattle.std.proofs.lemmas.Bool.{cases_lt, and_cases, both_ways, not-false, ltb-true, ltb-false, lt-ltb, le-ltb, cond-true, cond-false}
use Rattle.std.proofs.lemmas.Slice.Eq.{bytes_eq-Decides}
use Rattle.std.proofs.lemmas.List.Sums.{fails_before_first, passes_at_first, position_or_len_is, sum_by-append, sum_by-cons, sum_by-take-drop}
use Rattle.std.proofs.lemmas.List.Quantifiers.{all_pairs_push, all_pairs_remove}
use Rattle.std.proofs.lemmas.List.{map-append, length-set, length-map, get_or-map}
use Rattle.std.proofs.lemmas.List.Elements.{All-set, All-push}
use Rattle.std.proofs.lemmas.List.Edits.{length-insert, length-remove, get_or-insert_below, get_or-insert_above}
use Rattle.map_tables.specs.declared.error.MapError.{MapError}
use Rattle.map_tables.specs.declared.maps.Maps.TheInside.{Inside}
use Rattle.map_tables.specs.Tables.{Tables, MapView, empty_tables, part_len}
use Rattle.map_tables.specs.WellFormed.{WellFormed}
use Rattle.map_tables.specs.Outcomes.{EndsEdit, unless, least}
use Rattle.map_tables.specs.declared.edit.Edit.{Edit}
use Rattle.map_tables.specs.declared.edit.Edit.TheVariants.{Add, Set, Drop}
use Rattle.map_tables.specs.declared.edit.Item.TheVariants as item
use Rattle.map_tables.specs.declared.kind.Kind.TheVariants as kind
use Rattle.map_tables.specs.EditFaults.{edit_faults}
use Rattle.map_tables.specs.Edits.{after_edit, edit_number, with_name, lowered}
use Rattle.map_tables.specs.Edits as edits
use Rattle.map_tables.specs.ProjectEdits.{name_faults, drop_map_faults, named_map, with_current_named, with_selected}
use Rattle.lump_records.specs.declared.records.Name8.{Name8}
use Rattle.map_tables.specs.Projects.{ProjectMaps, MapsView, WellFormedProject, project_of, tables_of_each, current_map, with_current, body_len, map_limit, is_named, has_map, map_number_of}
use Rattle.map_tables.specs.MapsFields.{KeepsMaps, maps_view}
use Rattle.map_tables.proofs.ListLemmas.{all_pairs_set, All-remove, lowered_fits}
use Rattle.map_tables.proofs.FaultLemmas.{none_hold}

-- ---- An edit keeps a map well-formed, and keeps its name

pub record Stays (old new : Tables) : Type 0 where
  pub name : new.name ≡ old.name
  pub well_formed : WellFormed new

-- an edit keeps a map's name
after_edit-name : (m : Tables) (e : Edit) → (after_edit m e).name ≡ m.name
after_edit-name m (Add (item.Vertex v)) = refl
after_edit-name m (Add (item.Sector s)) = refl
after_edit-name m (Add (item.Side s)) = refl
after_edit-name m (Add (item.Line l)) = refl
after_edit-name m (Add (item.Thing t)) = refl
after_edit-name m (Set n (item.Vertex v)) = refl
after_edit-name m (Set n (item.Sector s)) = refl
after_edit-name m (Set n (item.Side s)) = refl
after_edit-name m (Set n (item.Line l)) = refl
after_edit-name m (Set n (item.Thing t)) = refl
after_edit-name m (Drop kind.Vertex n) = refl
after_edit-name m (Drop kind.Sector n) = refl
after_edit-name m (Drop kind.Side n) = refl
after_edit-name m (Drop kind.Line n) = refl
after_edit-name m (Drop kind.Thing n) = refl

abbrev made : {S X : Type 0} → S → Result (S × X) ℕ → S
made d (Ok p) = p.0
made d (Err code) = d

ended-name : (result : Result ℕ MapError) (faults : Option ℕ) (after : Tables) (answer : ℕ) (old new : Tables)
    → EndsEdit result (unless faults after answer) old new → after.name ≡ old.name → new.name ≡ old.name
ended-name (Ok a) None after answer old new e same = ap (λ m. m.name) (sym (ap (made after) e)) ∙ same
ended-name (Ok a) (Some code) after answer old new e same = cc
ended-name (Err x) faults after answer old new e same = ap (λ m. m.name) e.1

-- so does the call that makes it, whatever its outcome is
pub edited-stays : (result : Result ℕ MapError) (edit : Edit) (old new : Tables) → EndsEdit result (edits.edited old edit) old new → WellFormed new → Stays old new
edited-stays result edit old new e w =
    record {
      name = ended-name result (least (edit_faults old edit)) (after_edit old edit) (edit_number old edit) old new e (after_edit-name old edit);
      well_formed = w;
    }

-- ---- One map replaced

pub get_middle : (before behind : List Tables) (m d : Tables) → get_or (before ++ m ∷ behind) (length before) d ≡ m
get_middle [] behind m d = refl
get_middle (x ∷ before) behind m d = get_middle before behind m d

pub set_middle : (before behind : List Tables) (m n : Tables) → set (before ++ m ∷ behind) (length before) n ≡ before ++ n ∷ behind
set_middle [] behind m n = refl
set_middle (x ∷ before) behind m n = ap (λ ms. x ∷ ms) (set_middle before behind m n)

-- one map is replaced by a well-formed map whose name no other has
pub replaced : (maps : List Tables) (k current : ℕ) (new : Tables) → k < length maps → WellFormed new
    → ((j : ℕ) (d : Tables) → j < length maps → j ≢ k → (get_or maps j d).name ≢ new.name)
    → WellFormedProject (record { maps = maps; current = current }) → WellFormedProject (record { maps = set maps k new; current = current })
replaced maps k current new at fine apart w =
    let as_many = length-set maps k new in
    record {
      count = omega (arith, as_many, w.count);
      current = omega (arith, as_many, w.current);
      maps = All-set WellFormed maps k new fine w.maps;
      names = all_pairs_set (λ m n. m.name ≢ n.name) maps k new at w.names (λ j d within other. (apart j d within other, λ e. apart j d within other (sym e)));
    }

length_middle : (before behind : List Tables) (m : Tables) → length before < length (before ++ m ∷ behind)
length_middle before behind m = omega (arith, length-append before (m ∷ behind))

pub named_middle : (before behind : List Tables) (current : ℕ) (old new : Tables) → WellFormed new
    → ((j : ℕ) (d : Tables) → j < length (before ++ old ∷ behind) → j ≢ length before → (get_or (before ++ old ∷ behind) j d).name ≢ new.name)
    → WellFormedProject (record { maps = before ++ old ∷ behind; current = current }) → WellFormedProject (record { maps = before ++ new ∷ behind; current = current })
named_middle before behind current old new fine apart w =
    subst (λ maps. WellFormedProject (record { maps = maps; current = current })) (set_middle before behind old new)
    (replaced (before ++ old ∷ behind) (length before) current new (length_middle before behind old) fine apart w)

pub edited : (before behind : List Tables) (current : ℕ) (old new : Tables) → Stays old new
    → WellFormedProject (record { maps = before ++ old ∷ behind; current = current }) → WellFormedProject (record { maps = before ++ new ∷ behind; current = current })
edited before behind current old new stays w =
    let maps = before ++ old ∷ behind in
    let k = length before in
    named_middle before behind current old new stays.well_formed (λ j d within other e.
    let here : (get_or maps k d).name ≡ new.name = ap (λ m. m.name) (get_middle before behind old d) ∙ sym stays.name in
    elim (cases_lt j k) [
      | inl below ↦ w.names j k d below (length_middle before behind old) (e ∙ sym here)
      | inr above ↦ w.names k j d (omega arith) within (here ∙ sym e)
    ]) w

pub keeps_edit : (a : Inside) (m : MapView) → Stays a.map.tables m.tables → KeepsMaps a → KeepsMaps (record { map = m; number = a.number; others = a.others })
keeps_edit a m stays k =
    record {
      number = k.number;
      project = edited (tables_of_each (take a.number a.others.items)) (tables_of_each (drop a.number a.others.items)) (length (take a.number a.others.items)) a.map.tables m.tables stays k.project;
    }

-- ---- For the crates above

-- the current map is as contracts see it
pub current_of : (v : MapsView) → current_map (project_of v) ≡ v.tables
current_of v =
    ap (λ n. get_or (tables_of_each v.others.before ++ v.tables ∷ tables_of_each v.others.behind) n empty_tables) (sym (length-map v.others.before (λ m. m.tables)))
    ∙ get_middle (tables_of_each v.others.before) (tables_of_each v.others.behind) v.tables empty_tables

-- the current map is replaced, the other maps stay
pub with_current_of : (v w : MapsView) → w.others ≡ v.others → project_of w ≡ with_current (project_of v) w.tables
with_current_of v w same =
    let n : length (tables_of_each v.others.before) ≡ length v.others.before = length-map v.others.before (λ m. m.tables) in
    let is : set (tables_of_each v.others.before ++ v.tables ∷ tables_of_each v.others.behind)
    (length v.others.before) w.tables ≡ tables_of_each v.others.before ++ w.tables
    ∷ tables_of_each v.others.behind =
    ap (λ k. set (tables_of_each v.others.before ++ v.tables ∷ tables_of_each v.others.behind) k w.tables) (sym n)
    ∙ set_middle (tables_of_each v.others.before) (tables_of_each v.others.behind) v.tables w.tables in
    (λ i. record { maps = tables_of_each (same i).before ++ w.tables ∷ tables_of_each (same i).behind; current = length (same i).before })
    ∙ (λ i. record { maps = sym is i; current = length v.others.before })

sum_middle : (before behind : List Tables) (m : Tables) → sum_by part_len (before ++ m ∷ behind) ≡ sum_by part_len before + (part_len m + sum_by part_len behind)
sum_middle before behind m = sum_by-append part_len before (m ∷ behind) ∙ ap (λ n. sum_by part_len before + n) (sum_by-cons part_len m behind)

-- the length of a map's part
abbrev pub len_of_part : MapView → ℕ
len_of_part m = part_len m.tables

-- the lengths of the parts of several maps
sum_of_each : (items : List MapView) → sum_by part_len (tables_of_each items) ≡ sum_by len_of_part items
sum_of_each [] = refl
sum_of_each (m ∷ items) =
    sum_by-cons part_len m.tables (tables_of_each items) ∙ ap (λ n. part_len m.tables + n) (sum_of_each items) ∙ sym (sum_by-cons len_of_part m items)

-- the length of all parts: that of the current map's and those of the others
pub sum_of_parts : (items : List MapView) (i : ℕ) (m : Tables)
    → sum_by part_len (tables_of_each (take i items) ++ m ∷ tables_of_each (drop i items)) ≡ part_len m + sum_by len_of_part items
sum_of_parts items i m =
    let parts = sum_middle (tables_of_each (take i items)) (tables_of_each (drop i items)) m in
    let whole = sum_by-take-drop len_of_part items i in
    omega (arith, parts, sum_of_each (take i items), sum_of_each (drop i items), whole)

-- the body's length changes only with that of the current map's part
pub body_len_with : (v w : MapsView) → w.others ≡ v.others → body_len (project_of w) + part_len v.tables ≡ body_len (project_of v) + part_len w.tables
body_len_with v w same =
    let there = sum_middle (tables_of_each v.others.before) (tables_of_each v.others.behind) v.tables in
    let here : sum_by part_len (tables_of_each w.others.before ++ w.tables ∷ tables_of_each w.others.behind)
    ≡ sum_by part_len (tables_of_each v.others.before)
    + (part_len w.tables + sum_by part_len (tables_of_each v.others.behind)) =
    ap (λ o. sum_by part_len (tables_of_each o.before ++ w.tables ∷ tables_of_each o.behind)) same ∙ sum_middle (tables_of_each v.others.before) (tables_of_each v.others.behind) w.tables in
    omega (arith, there, here)

-- ---- The maps as one list

pub maps_are : (items : List MapView) (i : ℕ) (m : MapView) → tables_of_each (take i items) ++ m.tables ∷ tables_of_each (drop i items) ≡ tables_of_each (insert items i m)
maps_are items i m = sym (map-append (λ m. m.tables) (take i items) (m ∷ drop i items))

pub maps_count : (items : List MapView) (i : ℕ) (m : MapView) → i ≤ length items → length (tables_of_each (take i items) ++ m.tables ∷ tables_of_each (drop i items)) ≡ length items + 1
maps_count items i m le = ap length (maps_are items i m) ∙ length-map (insert items i m) (λ m. m.tables) ∙ length-insert items i m le

pub map_below : (items : List MapView) (i k : ℕ) (m x : MapView) (d : Tables) → i ≤ length items → k < i → get_or items k x ≡ x
    → get_or (tables_of_each (take i items) ++ m.tables ∷ tables_of_each (drop i items)) k d ≡ x.tables
map_below items i k m x d le below is =
    ap (λ ms. get_or ms k d) (maps_are items i m) ∙ get_or-map (λ m. m.tables) (insert items i m) k x d (omega (arith, length-insert items i m le))
    ∙ ap (λ v. v.tables) (get_or-insert_below items i m x k below le ∙ is)

pub map_above : (items : List MapView) (i k : ℕ) (m x : MapView) (d : Tables) → i ≤ k → k < length items → get_or items k x ≡ x
    → get_or (tables_of_each (take i items) ++ m.tables ∷ tables_of_each (drop i items)) (k + 1) d ≡ x.tables
map_above items i k m x d above within is =
    ap (λ ms. get_or ms (k + 1) d) (maps_are items i m) ∙ get_or-map (λ m. m.tables) (insert items i m) (k + 1) x d (omega (arith, length-insert items i m (omega arith)))
    ∙ ap (λ v. v.tables) (get_or-insert_above items i m x k above (omega arith) ∙ is)

-- what was removed is put back
pub put_back : {X : Type 0} (xs : List X) (n : ℕ) (x : X) → n < length xs → get_or xs n x ≡ x → insert (remove xs n) n x ≡ xs
put_back (y ∷ ys) zero x at is = ap (λ z. z ∷ ys) (sym is)
put_back (y ∷ ys) (suc n) x at is = ap (λ zs. y ∷ zs) (put_back ys n x (omega arith) is)
put_back [] n x at is = absurd (omega arith)

-- one is removed before or after another that was inserted
pub taken_below : {X : Type 0} (xs : List X) (i n : ℕ) (x : X) → n ≤ i → i < length xs → remove (insert xs (suc i) x) n ≡ insert (remove xs n) i x
taken_below [] i n x below at = absurd (omega arith)
taken_below (y ∷ ys) i zero x below at = refl
taken_below (y ∷ ys) zero (suc n) x below at = absurd (omega arith)
taken_below (y ∷ ys) (suc i) (suc n) x below at = ap (λ zs. y ∷ zs) (taken_below ys i n x (omega arith) (omega arith))

pub taken_above : {X : Type 0} (xs : List X) (i n : ℕ) (x : X) → i ≤ n → n < length xs → remove (insert xs i x) (suc n) ≡ insert (remove xs n) i x
taken_above xs zero n x above at = refl
taken_above [] (suc i) n x above at = absurd (omega arith)
taken_above (y ∷ ys) (suc i) zero x above at = absurd (omega arith)
taken_above (y ∷ ys) (suc i) (suc n) x above at = ap (λ zs. y ∷ zs) (taken_above ys i n x (omega arith) (omega arith))

-- ---- Maps by their names

pub same_name : (name : Name8) (m : Tables) → is_named name m ≡ true → m.name ≡ name
same_name name m e = λ i. record { bytes = (bytes_eq-Decides m.name.bytes name.bytes).0 e i }

told_name : (name : Name8) (m : Tables) → m.name ≡ name → is_named name m ≡ true
told_name name m e = (bytes_eq-Decides m.name.bytes name.bytes).1 (ap (λ n. n.bytes) e)

-- if no map has the name, each has another
absent : (p : ProjectMaps) (name : Name8) → has_map p name ≡ false → (j : ℕ) (d : Tables) → j < length p.maps → (get_or p.maps j d).name ≢ name
absent p name none j d within e =
    let past = ltb-false (map_number_of p name) (length p.maps) none in
    both_ways (is_named name (get_or p.maps j d)) (fails_before_first (is_named name) p.maps j d (omega arith)) (told_name name (get_or p.maps j d) e)

-- and the number for the name is the count of maps
absent_number : (p : ProjectMaps) (name : Name8) → has_map p name ≡ false → map_number_of p name ≡ length p.maps
absent_number p name none =
    let past = ltb-false (map_number_of p name) (length p.maps) none in
    position_or_len_is (is_named name) p.maps (length p.maps) empty_tables (omega arith)
    (λ k within. fails_before_first (is_named name) p.maps k empty_tables (omega arith))
    (λ past. absurd (omega arith))

-- a map that may be dropped isn't the current one
pub other_map : (p : ProjectMaps) (name : Name8) (n : ℕ) → n ≡ map_number_of p name → least (drop_map_faults p name) ≡ None → n ≢ p.current
other_map p name n is free e =
    let none = none_hold (drop_map_faults p name) free in
    let there = ltb-true (map_number_of p name) (length p.maps) (not-false (has_map p name) none.0) in
    both_ways (is_named name (current_map p)) none.1.0
    (ap (λ k. is_named name (get_or p.maps k empty_tables)) (sym e ∙ is) ∙ passes_at_first (is_named name) p.maps empty_tables there)

-- the current map with a name that no other has
pub named_keeps : (a : Inside) (m : MapView) (name : Name8) → m.tables ≡ with_name a.map.tables name → WellFormed m.tables
    → least (name_faults (project_of (maps_view a)) name) ≡ None → KeepsMaps a → KeepsMaps (record { map = m; number = a.number; others = a.others })
named_keeps a m name is fine free k =
    let p = project_of (maps_view a) in
    let before = tables_of_each (take a.number a.others.items) in
    let behind = tables_of_each (drop a.number a.others.items) in
    let named : m.tables.name ≡ name = ap (λ t. t.name) is in
    let none = none_hold (name_faults p name) free in
    let apart : (j : ℕ) (d : Tables) → j < length p.maps → j ≢ length before → (get_or p.maps j d).name ≢ m.tables.name = λ j d within other e.
    elim (and_cases (has_map p name) (not (is_named name (current_map p))) none.0) [
      | inl none ↦ absent p name none j d within (e ∙ named)
      | inr current ↦
          let here : (get_or p.maps (length before) d).name ≡ name =
          ap (λ t. t.name) (get_middle before behind a.map.tables d ∙ sym (current_of (maps_view a)))
          ∙ same_name name (current_map p) (not-false (is_named name (current_map p)) current) in
          elim (cases_lt j (length before)) [
            | inl below ↦ k.project.names j (length before) d below (length_middle before behind a.map.tables) (e ∙ named ∙ sym here)
            | inr above ↦ k.project.names (length before) j d (omega arith) within (here ∙ sym named ∙ sym e)
          ]
    ] in
    record { number = k.number; project = named_middle before behind (length (take a.number a.others.items)) a.map.tables m.tables fine apart k.project }

pub named_edit : (v w : MapsView) (name : Name8) → w.others ≡ v.others → w.tables ≡ with_name v.tables name → least (name_faults (project_of v) name) ≡ None
    → named_map (project_of v) name ≡ Ok (project_of w, tt)
named_edit v w name same is free =
    ap (λ f. unless f (with_current_named (project_of v) name) tt) free
    ∙ ap (λ p. Ok (p, tt)) (sym (with_current_of v w same ∙ ap (with_current (project_of v)) (is ∙ ap (λ m. with_name m name) (sym (current_of v)))))

-- ---- The current map put among the others, and another made current

pub chosen : (items after : List MapView) (i n : ℕ) (m x : MapView) → i ≤ length items → n < length items + 1 → after ≡ remove (insert items i m) n → x ≡ get_or (insert items i m) n x
    → (tables_of_each (take n after) ++ x.tables ∷ tables_of_each (drop n after) ≡ tables_of_each (take i items)
    ++ m.tables ∷ tables_of_each (drop i items)) × (length (take n after) ≡ n) × (n ≤ length after)
chosen items after i n m x le within is at =
    let size = length-insert items i m le in
    let fewer = length-remove (insert items i m) n (omega arith) in
    let long : n ≤ length after = omega (arith, ap length is) in (
      maps_are after n x ∙ ap tables_of_each (ap (λ l. insert l n x) is ∙ put_back (insert items i m) n x (omega arith) (sym at)) ∙ sym (maps_are items i m),
      length-take-le n after long,
      long,
    )

pub chosen_keeps : (maps maps' : List Tables) (current n n' : ℕ) → maps' ≡ maps → n' ≡ n → n < length maps
    → WellFormedProject (record { maps = maps; current = current })
    → WellFormedProject (record { maps = maps'; current = n' })
chosen_keeps maps maps' current n n' same is within w =
    subst (λ ms. WellFormedProject (record { maps = ms; current = n' })) (sym same)
    (subst (λ k. WellFormedProject (record { maps = maps; current = k })) (sym is) (record { count = w.count; current = within; maps = w.maps; names = w.names }))

pub added : (items after : List MapView) (i n : ℕ) (m x : MapView) → i ≤ length items → after ≡ insert items i m → n ≡ length after
    → (tables_of_each (take n after) ++ x.tables ∷ tables_of_each (drop n after) ≡ (tables_of_each (take i items) ++ m.tables ∷ tables_of_each (drop i items)) ++ x.tables ∷ [])
    × (length (take n after) ≡ length (tables_of_each (take i items) ++ m.tables ∷ tables_of_each (drop i items)))
added items after i n m x le is all =
    let front : take n after ≡ after = take_all n after (omega arith) in
    let behind : drop n after ≡ [] = drop_of_length-le after (omega arith) in
    let maps : tables_of_each after ≡ tables_of_each (take i items) ++ m.tables ∷ tables_of_each (drop i items) = ap tables_of_each is ∙ sym (maps_are items i m) in (
      (λ j. tables_of_each (front j) ++ x.tables ∷ tables_of_each (behind j)) ∙ ap (λ ms. ms ++ x.tables ∷ []) maps,
      ap length front ∙ sym (length-map after (λ m. m.tables)) ∙ ap length maps,
    )

pub added_keeps : (p : ProjectMaps) (maps' : List Tables) (n' : ℕ) (name : Name8) (m : Tables) → maps' ≡ p.maps ++ m ∷ [] → n' ≡ length p.maps → m.name ≡ name → WellFormed m
    → has_map p name ≡ false → length p.maps < map_limit → WellFormedProject p → WellFormedProject (record { maps = maps'; current = n' })
added_keeps p maps' n' name m same is named fine none room w =
    let longer = length-append p.maps (m ∷ []) in
    subst (λ ms. WellFormedProject (record { maps = ms; current = n' })) (sym same)
    (record {
      count = omega (arith, longer, room);
      current = omega (arith, longer, is);
      maps = All-push WellFormed p.maps m w.maps fine;
      names = all_pairs_push (λ m n. m.name ≢ n.name) p.maps m w.names (λ k d within e. absent p name none k d within (e ∙ named));
    })

pub added_is : (p : ProjectMaps) (name : Name8) (m : Tables) → has_map p name ≡ false → m ≡ with_name empty_tables name
    → record { maps = p.maps ++ m ∷ []; current = length p.maps } ≡ with_selected p name
added_is p name m none is =
    (λ i. record { maps = p.maps ++ is i ∷ []; current = sym (absent_number p name none) i })
    ∙ (λ i. record { maps = sym (cond-false (has_map p name) p.maps (p.maps ++ with_name empty_tables name ∷ []) none) i; current = map_number_of p name })

-- ---- A removed map

tables_without : (items : List MapView) (n : ℕ) → tables_of_each (remove items n) ≡ remove (tables_of_each items) n
tables_without items n =
    map-append (λ m. m.tables) (take n items) (drop (suc n) items)
    ∙ (λ i. sym (take-map (λ m. m.tables) n items) i ++ sym (drop-map (λ m. m.tables) (suc n) items) i)

pub out_below : (items after : List MapView) (i i' n : ℕ) (m : MapView) → i ≤ length items → i ≡ suc i' → n < i → after ≡ remove items n
    → (tables_of_each (take i' after) ++ m.tables ∷ tables_of_each (drop i' after) ≡ remove (tables_of_each (take i items) ++ m.tables ∷ tables_of_each (drop i items)) n)
    × (length (take i' after) ≡ lowered n i) × (i' ≤ length after)
out_below items after i i' n m le next below is =
    let fewer = length-remove items n (omega arith) in
    let long : i' ≤ length after = omega (arith, ap length is) in
    let whole : tables_of_each (insert items (suc i') m) ≡ tables_of_each (take i items) ++ m.tables
    ∷ tables_of_each (drop i items) = ap (λ k. tables_of_each (insert items k m)) (sym next)
    ∙ sym (maps_are items i m) in (
      maps_are after i' m ∙ ap tables_of_each (ap (λ l. insert l i' m) is ∙ sym (taken_below items i' n m (omega arith) (omega arith)))
          ∙ tables_without (insert items (suc i') m) n ∙ ap (λ ms. remove ms n) whole,
      length-take-le i' after long ∙ sym (cond-true (ltb n i) (i - 1) i (lt-ltb n i below) ∙ omega arith),
      long,
    )

pub out_above : (items after : List MapView) (i n n' : ℕ) (m : MapView) → i ≤ n' → n ≡ suc n' → n' < length items → after ≡ remove items n'
    → (tables_of_each (take i after) ++ m.tables ∷ tables_of_each (drop i after) ≡ remove (tables_of_each (take i items) ++ m.tables ∷ tables_of_each (drop i items)) n)
    × (length (take i after) ≡ lowered n i) × (i ≤ length after)
out_above items after i n n' m above next within is =
    let fewer = length-remove items n' within in
    let long : i ≤ length after = omega (arith, ap length is) in (
      maps_are after i m ∙ ap tables_of_each (ap (λ l. insert l i m) is ∙ sym (taken_above items i n' m above within))
          ∙ tables_without (insert items i m) (suc n') ∙ ap (λ ms. remove ms (suc n')) (sym (maps_are items i m))
          ∙ ap (λ k. remove (tables_of_each (take i items) ++ m.tables ∷ tables_of_each (drop i items)) k)
          (sym next),
      length-take-le i after long ∙ sym (cond-false (ltb n i) (i - 1) i (le-ltb n i (omega arith))),
      long,
    )

pub out_keeps : (p : ProjectMaps) (maps' : List Tables) (n n' : ℕ) → maps' ≡ remove p.maps n → n' ≡ lowered n p.current
    → n < length p.maps → n ≢ p.current → WellFormedProject p
    → WellFormedProject (record { maps = maps'; current = n' })
out_keeps p maps' n n' same is within other w =
    let fewer = length-remove p.maps n within in
    let below = lowered_fits n p.current (length (remove p.maps n)) (omega arith) (omega (arith, w.current)) (λ e. other (sym e)) in
    subst (λ ms. WellFormedProject (record { maps = ms; current = n' })) (sym same)
    (record {
      count = omega (arith, fewer, w.count);
      current = omega (arith, is, below);
      maps = All-remove WellFormed p.maps n w.maps;
      names = all_pairs_remove (λ m n. m.name ≢ n.name) p.maps n within w.names;
    })
