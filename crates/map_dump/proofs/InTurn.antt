-- The dumps of maps with different names draw them one after another.
use Rattle.std.proofs.Common.{◌≡◌, ◌≢◌, ℕ, zero, suc, ◌-◌, ◌≤◌, Bool, true, false, cond, not, nat_lt, List, [], ◌∷◌, ◌++◌, length, get_or, refl, sym, subst, ◌∙◌, ap, arith, append_assoc, append-nil, length-append}
use Rattle.std.proofs.Math.ListN.{set}
use Rattle.std.specs.Prelude.{filter}
use Rattle.std.specs.List.{All, AllPairs, position_or_len}
use Rattle.std.proofs.lemmas.Bool.{both_ways, false_from_ne_true, lt-ltb}
use Rattle.std.proofs.lemmas.List.{length-set}
use Rattle.std.proofs.lemmas.List.Sums.{position_or_len_is}
use Rattle.std.proofs.lemmas.List.Elements.{All-filter, filter-append}
use Rattle.map_tables.specs.Tables.{Tables, empty_tables}
use Rattle.map_tables.specs.WellFormed.{WellFormed}
use Rattle.map_tables.specs.Edits.{with_name}
use Rattle.map_tables.specs.ProjectEdits.{with_selected}
use Rattle.map_tables.specs.Projects.{ProjectMaps, body_len, current_map, empty_project, has_map, is_named, map_number_of}
use Rattle.map_tables.proofs.ProjectLemmas.{get_middle, same_name, set_middle}
use Rattle.map_dump.specs.Dump.{map_dump_of}
use Rattle.map_dump.specs.MapDumps.{AreOfOneProject, HasRoomFor, HoldsMaps, MapDumpsDrawAll, has_first_name, map_dumps_of, maps_with, with_map}
use Rattle.map_commands.specs.ProjectLines.{Leads}
use Rattle.map_dump.proofs.Drawn.{none_named, other_name, own_name}
use Rattle.map_dump.proofs.Fronts.{holds_at, holds_before}
use Rattle.map_dump.proofs.Over.{added, drawn_over, new_number, no_longer, selected-new, selected-there, selected_within}

-- ---- Lines one after another

leads-append : (cap : ℕ) (old mid new : ProjectMaps) (xs ys : List (List ℕ)) → Leads cap old xs mid → Leads cap mid ys new → Leads cap old (xs ++ ys) new
leads-append cap old mid new [] ys f g = subst (λ p. Leads cap p ys new) f g
leads-append cap old mid new (x ∷ xs) ys f g = (f.0, f.1, leads-append cap f.0 mid new xs ys f.2 g)

-- ---- The maps of some

-- the name isn't MAP01
abbrev has_other_name : Tables → Bool
has_other_name m = not (has_first_name m)

-- the map named MAP01, or the empty one
abbrev first_of : List Tables → Tables
first_of ms = get_or (filter has_first_name ms) 0 empty_tables

-- the others
abbrev others_of : List Tables → List Tables
others_of ms = filter has_other_name ms

first-or : (P : Tables → Type 0) (ms : List Tables) (d : Tables) → All P ms → P d → P (get_or ms 0 d)
first-or P [] d all h = h
first-or P (m ∷ ms) d all h = all 0 d (omega arith)

-- more maps are no fewer
more_maps : (xs ys : List Tables) → length (maps_with xs) ≤ length (maps_with (xs ++ ys))
more_maps xs ys =
    let parts = ap length (filter-append has_other_name xs ys) in
    omega (arith, parts, length-append (others_of xs) (others_of ys))

-- none of the items passes
filter-none : {X : Type 0} (p : X → Bool) (xs : List X) → All (λ x. p x ≡ false) xs → filter p xs ≡ []
filter-none p [] all = refl
filter-none p (x ∷ xs) all =
    ap (λ t. cond t (x ∷ filter p xs) (filter p xs)) (all 0 x (omega arith)) ∙ filter-none p xs (λ k d h. all (suc k) d (omega arith))

-- one more item
filter-push : {X : Type 0} (p : X → Bool) (xs : List X) (x : X) (t : Bool) → p x ≡ t → filter p (xs ++ x ∷ []) ≡ filter p xs ++ cond t (x ∷ []) []
filter-push p xs x t is = filter-append p xs (x ∷ []) ∙ ap (λ b. filter p xs ++ cond b (x ∷ []) []) is

-- ---- One more map

-- the map with the name is empty, and the map is drawn in its place
record IsPlaced (done : List Tables) (m : Tables) (p : ProjectMaps) : Type 0 where
  empty : current_map (with_selected p m.name) ≡ added m.name
  maps : (with_map p m).maps ≡ maps_with (done ++ m ∷ [])

-- no map so far has the name
abbrev AreOthers : Tables → List Tables → Type 0
AreOthers m ms = All (λ x. x.name ≢ m.name) ms

-- a map named MAP01 takes the place of the first
first_placed : (done : List Tables) (m : Tables) (p : ProjectMaps) → AreOthers m done → HoldsMaps done p → has_first_name m ≡ true → IsPlaced done m p
first_placed done m p apart held h =
    let same : m.name ≡ empty_tables.name = same_name empty_tables.name m h in
    let none : filter has_first_name done ≡ [] =
    filter-none has_first_name done (λ k d l. false_from_ne_true (has_first_name (get_or done k d))
    (λ t. apart k d l (same_name empty_tables.name (get_or done k d) t ∙ sym same))) in
    let is : p.maps ≡ empty_tables ∷ others_of done = held.maps ∙ ap (λ xs. get_or xs 0 empty_tables ∷ others_of done) none in
    let number : map_number_of p m.name ≡ 0 =
    ap (position_or_len (is_named m.name)) is
    ∙ position_or_len_is (is_named m.name) (empty_tables ∷ others_of done) 0 empty_tables (omega arith) (λ k l. absurd (omega arith)) (λ l. own_name m.name empty_tables (sym same)) in
    let there : has_map p m.name ≡ true = ap (λ n. nat_lt n (length p.maps)) number ∙ lt-ltb 0 (length p.maps) (let count = ap length is in omega (arith, count)) in
    let selected : (with_selected p m.name).maps ≡ empty_tables ∷ others_of done = selected-there p m.name there ∙ is in
    let firsts : filter has_first_name (done ++ m ∷ []) ≡ m ∷ [] = filter-push has_first_name done m true h ∙ ap (λ xs. xs ++ m ∷ []) none in
    let others : others_of (done ++ m ∷ []) ≡ others_of done = filter-push has_other_name done m false (ap not h) ∙ append-nil (others_of done) in
    record {
      empty = (λ i. get_or (selected i) (number i) empty_tables) ∙ ap (with_name empty_tables) (sym same);
      maps = (λ i. set (selected i) (number i) m) ∙ (λ i. get_or (sym firsts i) 0 empty_tables ∷ sym others i);
    }

-- a map with another name is appended
other_placed : (done : List Tables) (m : Tables) (p : ProjectMaps) → AreOthers m done → HoldsMaps done p → has_first_name m ≡ false → IsPlaced done m p
other_placed done m p apart held h =
    let others : AreOthers m p.maps = subst (AreOthers m) (sym held.maps) each in
    let new : has_map p m.name ≡ false = none_named p m.name (λ k d l. other_name m.name (get_or p.maps k d) (others k d l)) in
    let selected = selected-new p m.name new in
    let number = new_number p m.name new in
    let firsts : filter has_first_name (done ++ m ∷ []) ≡ filter has_first_name done =
    filter-push has_first_name done m false h ∙ append-nil (filter has_first_name done) in
    let rest : others_of (done ++ m ∷ []) ≡ others_of done ++ m ∷ [] = filter-push has_other_name done m true (ap not h) in
    record {
      empty = (λ i. get_or (selected i) (number i) empty_tables) ∙ get_middle p.maps [] (added m.name) empty_tables;
      maps =
          (λ i. set (selected i) (number i) m) ∙ set_middle p.maps [] (added m.name) m ∙ ap (λ ms. ms ++ m ∷ []) held.maps
          ∙ (λ i. get_or (sym firsts i) 0 empty_tables ∷ sym rest i);
    }
  where
    first : AreOthers m (first_of done ∷ [])
    first zero d l =
        first-or (λ x. x.name ≢ m.name) (filter has_first_name done) empty_tables (All-filter has_first_name (λ x. x.name ≢ m.name) done apart)
        (λ is. both_ways (has_first_name m) h (own_name empty_tables.name m (sym is)))
    first (suc k) d l = absurd (omega (arith, l))

    each : AreOthers m (maps_with done)
    each zero d l = first zero d (omega arith)
    each (suc k) d l = All-filter has_other_name (λ x. x.name ≢ m.name) done apart k d (omega (arith, l))

placed : (done : List Tables) (m : Tables) (p : ProjectMaps) → AreOthers m done → HoldsMaps done p → IsPlaced done m p
placed done m p apart held = by (has_first_name m) refl
  where
    by : (t : Bool) → has_first_name m ≡ t → IsPlaced done m p
    by true h = first_placed done m p apart held h
    by false h = other_placed done m p apart held h

-- ---- All maps

-- the last of them
last_is : (done : List Tables) (m : Tables) → get_or (done ++ m ∷ []) (length (done ++ m ∷ []) - 1) empty_tables ≡ m
last_is done m =
    let at : length (done ++ m ∷ []) - 1 ≡ length done = omega (arith, length-append done (m ∷ [])) in
    ap (λ n. get_or (done ++ m ∷ []) n empty_tables) at ∙ get_middle done [] m empty_tables

-- the maps still to be drawn lead to the end
record LeadsOn (ms rest : List Tables) (p : ProjectMaps) : Type 0 where
  end : ProjectMaps
  holds : HoldsMaps ms end
  longer : body_len p ≤ body_len end
  leads : (cap : ℕ) → body_len end ≤ cap → Leads cap p (map_dumps_of rest) end

leads_on : (ms done rest : List Tables) (p : ProjectMaps) → AreOfOneProject ms → ms ≡ done ++ rest → HoldsMaps done p → LeadsOn ms rest p
leads_on ms done [] p fine e held =
    record {
      end = p;
      holds = subst (λ xs. HoldsMaps xs p) (sym (e ∙ append-nil done)) held;
      longer = omega arith;
      leads = λ cap fits. refl;
    }
leads_on ms done (m ∷ rest) p fine e held =
    let next : ms ≡ (done ++ m ∷ []) ++ rest = e ∙ sym (append_assoc done (m ∷ []) rest) in
    let apart : AreOthers m done = holds_before (λ a b. a.name ≢ b.name) done rest m (subst (AllPairs (λ a b. a.name ≢ b.name)) e fine.names) in
    let w : WellFormed m = holds_at WellFormed done rest m (subst (All WellFormed) e fine.maps) in
    let one = placed done m p apart held in
    let q = with_map p m in
    let count = fine.count in
    let all = ap (λ xs. length (maps_with xs)) next in
    let now = ap length one.maps in
    let same = length-set (with_selected p m.name).maps (map_number_of p m.name) m in
    let room : HasRoomFor p m.name = record { empty = one.empty; count = omega (arith, count, all, now, same, more_maps (done ++ m ∷ []) rest) } in
    let drawn = drawn_over p m w room in
    let held' : HoldsMaps (done ++ m ∷ []) q =
    record { maps = one.maps; current = omega (arith, same, selected_within p m.name); last = drawn.current ∙ sym (last_is done m) } in
    let behind = leads_on ms (done ++ m ∷ []) rest q fine next held' in
    let longer = behind.longer in
    record {
      end = behind.end;
      holds = behind.holds;
      longer = omega (arith, longer, no_longer p m room);
      leads =
          λ cap fits.
          leads-append cap p q behind.end (map_dump_of m) (map_dumps_of rest) (drawn.leads cap (omega (arith, longer, fits)))
          (behind.leads cap fits);
    }

pub drawn_in_turn : MapDumpsDrawAll
drawn_in_turn ms fine =
    let all = leads_on ms [] ms empty_project fine refl (record { maps = refl; current = omega arith; last = refl }) in
    (all.end, all.holds, λ cap fits. all.leads cap fits)
