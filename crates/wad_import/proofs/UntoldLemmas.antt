-- Where nothing is told of a level, its lists stay.
use Rattle.std.proofs.Common.{◌≡◌, ℕ, zero, suc, ◌+◌, ◌-◌, ◌<◌, ◌≤◌, Bool, true, false, cond, not, nat_eq, List, [], ◌∷◌, ◌++◌, length, get_or, take, map, Option, Some, None, All, refl, sym, subst, ap, ◌∙◌, arith, take_all}
use Rattle.std.specs.Prelude.{filter, filter_map, pos}
use Rattle.std.specs.List.{cons_option, enumerate_from, range_with_len}
use Rattle.std.specs.Ordering.{int_eq}
use Rattle.std.proofs.lemmas.Bool.{and_parts, eqb-true}
use Rattle.std.proofs.lemmas.Bool.Decides.{Decides-int_eq}
use Rattle.std.proofs.lemmas.List.{length-take, length-take-le, take_more}
use Rattle.std.proofs.lemmas.List.Elements.{All-cons, All-nil}
use Rattle.std.proofs.lemmas.List.FromFn.{get_or-range_with_len, length-range_with_len}
use Rattle.std.proofs.lemmas.Slice.Eq.{bytes_eq-Decides}
use Rattle.lump_records.specs.declared.records.Name8.{Name8}
use Rattle.lump_records.specs.declared.records.Thing.{Thing}
use Rattle.lump_records.specs.declared.records.Line.{Line}
use Rattle.lump_records.specs.declared.records.Side.{Side}
use Rattle.lump_records.specs.declared.records.Vertex.{Vertex}
use Rattle.lump_records.specs.declared.records.Sector.{Sector}
use Rattle.wad_levels.specs.Drawn.{DrawnLists}
use Rattle.wad_levels.specs.Lengths.{has_no_length, other_hindrance}
use Rattle.map_tables.specs.WellFormed.{nth_vertex}
use Rattle.wad_import.specs.Mended.{is_kept, lacks_left_side, linked_line, mended_angle, mended_light, mended_line, mended_name, mended_sector, mended_side, mended_thing}
use Rattle.wad_import.specs.Added.{IsBetweenSome}
use Rattle.wad_import.specs.Once.{comes_again, each_once, kept_number, kept_vertex, number_at, place_change, place_changes}
use Rattle.wad_import.specs.Imported.{changes_among, flat_change, imported, kept_lines, light_change, line_change, changes, reached_vertices, same_name, texture_change, thing_change, vertex_changes, vertex_reach}
use Rattle.wad_import.specs.Unchanged.{HasLists}
use Rattle.wad_import.specs.declared.change.Change.{Change}
use Rattle.wad_import.specs.declared.change.Change.TheVariants.{Angle, Flats, Light, LineOut, Textures, ThingOut, TwoSided, VertexAgain, VerticesBehind}
use Rattle.wad_import.proofs.FineLemmas.{ends_reached}
use Rattle.wad_import.proofs.OnceLemmas.{first_number, made_some, once-some, once_to}

-- ---- Nothing is told

both_empty : {X : Type 0} (xs ys : List X) → xs ++ ys ≡ [] → (xs ≡ []) × (ys ≡ [])
both_empty [] ys h = (refl, h)
both_empty (x ∷ xs) ys h = absurd cc

untold : {X : Type 0} (o : Option X) (xs : List X) → cons_option o xs ≡ [] → (o ≡ None) × (xs ≡ [])
untold None xs h = (refl, h)
untold (Some x) xs h = absurd cc

each_none : {X Y : Type 0} (h : X → Option Y) (xs : List X) → filter_map h xs ≡ [] → All (λ x. h x ≡ None) xs
each_none h [] e = All-nil (λ x. h x ≡ None)
each_none h (x ∷ xs) e =
    let two = untold (h x) (filter_map h xs) e in
    All-cons (λ x. h x ≡ None) x xs two.0 (each_none h xs two.1)

-- nothing is told of an item, under its number
abbrev IsUntold : {X : Type 0} → (ℕ × X → Option Change) → X → Type 0
IsUntold change x = (n : ℕ) × (change (n, x) ≡ None)

each_untold : {X : Type 0} (change : ℕ × X → Option Change) (n : ℕ) (xs : List X) → filter_map change (enumerate_from n xs) ≡ [] → All (IsUntold change) xs
each_untold change n [] e = All-nil (IsUntold change)
each_untold change n (x ∷ xs) e =
    let two = untold (change (n, x)) (filter_map change (enumerate_from (n + 1) xs)) e in
    All-cons (IsUntold change) x xs (n, two.0) (each_untold change (n + 1) xs two.1)

map-stays : {X : Type 0} (f : X → X) (xs : List X) → All (λ x. f x ≡ x) xs → map f xs ≡ xs
map-stays f [] all = refl
map-stays f (x ∷ xs) all =
    let first = all 0 x (omega arith) in
    let rest = map-stays f xs (λ k d h. all (suc k) d (omega arith)) in
    λ i. first i ∷ rest i

pub filter-stays : {X : Type 0} (p : X → Bool) (xs : List X) → All (λ x. p x ≡ true) xs → filter p xs ≡ xs
filter-stays p [] all = refl
filter-stays p (x ∷ xs) all =
    ap (λ t. cond t (x ∷ filter p xs) (filter p xs)) (all 0 x (omega arith))
    ∙ ap (λ ys. x ∷ ys) (filter-stays p xs (λ k d h. all (suc k) d (omega arith)))

passes : (t : Bool) (c : Change) → cond t None (Some c) ≡ None → t ≡ true
passes true c h = refl
passes false c h = absurd cc

fails : (t : Bool) (c : Change) → cond t (Some c) None ≡ None → t ≡ false
fails true c h = absurd cc
fails false c h = refl

both_pass : (t u : Bool) (b c : Change) → cond (not t) (Some b) (cond u None (Some c)) ≡ None → (t ≡ true) × (u ≡ true)
both_pass true true b c h = (refl, refl)
both_pass true false b c h = absurd cc
both_pass false u b c h = absurd cc

-- ---- Single items

name_stays : (n : Name8) → same_name (mended_name n) n ≡ true → mended_name n ≡ n
name_stays n h = λ i. record { bytes = (bytes_eq-Decides (mended_name n).bytes n.bytes).0 h i }

sector_stays : (s : Sector) → IsUntold light_change s → IsUntold flat_change s → mended_sector s ≡ s
sector_stays s light flats =
    let bright = (Decides-int_eq (mended_light s.light) s.light).0 (passes (int_eq (mended_light s.light) s.light) (Light light.0 s.light (mended_light s.light)) light.1) in
    let floor = same_name (mended_name s.floor_name) s.floor_name in
    let ceiling = same_name (mended_name s.ceiling_name) s.ceiling_name in
    let two = and_parts floor ceiling (passes _ (Flats flats.0) flats.1) in
    let one = name_stays s.floor_name two.0 in
    let other = name_stays s.ceiling_name two.1 in
    λ i. record s { floor_name = one i; ceiling_name = other i; light = bright i }

side_stays : (s : Side) → IsUntold texture_change s → mended_side s ≡ s
side_stays s told =
    let same = λ (n : Name8). same_name (mended_name n) n in
    let three = and_parts _ (same s.middle) (passes _ (Textures told.0) told.1) in
    let two = and_parts (same s.upper) (same s.lower) three.0 in
    let upper = name_stays s.upper two.0 in
    let lower = name_stays s.lower two.1 in
    let middle = name_stays s.middle three.1 in
    λ i. record s { upper = upper i; lower = lower i; middle = middle i }

both_fail : (t u : Bool) (b c : Change) → cond t (Some b) (cond u (Some c) None) ≡ None → (t ≡ false) × (u ≡ false)
both_fail true u b c h = absurd cc
both_fail false true b c h = absurd cc
both_fail false false b c h = (refl, refl)

line_fails : (d : DrawnLists) (x : Line) → IsUntold (line_change d) x → (has_no_length d x ≡ false) × (lacks_left_side x ≡ false)
line_fails d x told = both_fail (has_no_length d x) (lacks_left_side x) (LineOut told.0) (TwoSided told.0) told.1

line_stays : (d : DrawnLists) (number : ℕ → ℕ) (x : Line) → IsUntold (line_change d) x → number x.v1 ≡ x.v1 → number x.v2 ≡ x.v2 → linked_line number x ≡ x
line_stays d number x told v1 v2 =
    let stays : mended_line x ≡ x = ap (λ t. cond t (record x { flags = x.flags - 4 }) x) (line_fails d x told).1 in
    λ i. record (stays i) { v1 = v1 i; v2 = v2 i }

thing_passes : (t : Thing) → IsUntold thing_change t → (is_kept t ≡ true) × (int_eq (mended_angle t.angle) t.angle ≡ true)
thing_passes t told =
    both_pass (is_kept t) (int_eq (mended_angle t.angle) t.angle) (ThingOut told.0) (Angle told.0 t.angle (mended_angle t.angle)) told.1

thing_stays : (t : Thing) → IsUntold thing_change t → mended_thing t ≡ t
thing_stays t told =
    let angle = (Decides-int_eq (mended_angle t.angle) t.angle).0 (thing_passes t told).1 in
    λ i. record t { angle = angle i }

-- ---- Vertices

none_behind : (n : ℕ) (t : Bool) → nat_eq n 0 ≡ t → cond t [] (VerticesBehind n ∷ []) ≡ [] → n ≡ 0
none_behind n true e h = eqb-true n 0 e
none_behind n false e h = absurd cc

all_reached : (d : DrawnLists) → vertex_changes d ≡ [] → reached_vertices d ≡ d.vertices
all_reached d h =
    let behind = length d.vertices - length (reached_vertices d) in
    let none = none_behind behind (nat_eq behind 0) refl h in
    take_all (vertex_reach (kept_lines d)) d.vertices (omega (arith, none, length-take (vertex_reach (kept_lines d)) d.vertices))

-- no vertex comes again
abbrev pub AreApart : List Vertex → Type 0
AreApart vs = (n : ℕ) → n < length vs → comes_again vs n ≡ false

none_again : (vs : List Vertex) → place_changes vs ≡ [] → AreApart vs
none_again vs e n h =
    let all = each_none (place_change vs) (range_with_len 0 (length vs)) e n 0 (omega (arith, h, length-range_with_len 0 (length vs))) in
    let at : get_or (range_with_len 0 (length vs)) n 0 ≡ n = get_or-range_with_len 0 (length vs) n 0 h ∙ omega arith in
    fails (comes_again vs n) (VertexAgain n (number_at vs (nth_vertex vs n))) (subst (λ k. place_change vs k ≡ None) at all)

once_more : (vs : List Vertex) (n : ℕ) → AreApart vs → n < length vs → once_to vs n ≡ take n vs → once_to vs (n + 1) ≡ take (n + 1) vs
once_more vs n apart h so_far =
    made_some (kept_vertex vs) n (nth_vertex vs n) (once-some vs n (apart n h)) ∙ ap (λ xs. xs ++ nth_vertex vs n ∷ []) so_far
    ∙ sym (take_more vs n (record { x = pos 0; y = pos 0 }) h)

once_is : (vs : List Vertex) (n : ℕ) → AreApart vs → n ≤ length vs → once_to vs n ≡ take n vs
once_is vs zero apart h = refl
once_is vs (suc n) apart h =
    let next : suc n ≡ n + 1 = omega arith in
    subst (λ k. once_to vs k ≡ take k vs) (sym next) (once_more vs n apart (omega (arith, h)) (once_is vs n apart (omega (arith, h))))

all_kept : (vs : List Vertex) → AreApart vs → each_once vs ≡ vs
all_kept vs apart = once_is vs (length vs) apart (omega arith) ∙ take_all (length vs) vs (omega arith)

own_number : (vs : List Vertex) (n : ℕ) → AreApart vs → n < length vs → kept_number vs n ≡ n
own_number vs n apart h =
    first_number vs n h (apart n h) ∙ ap length (once_is vs n apart (omega (arith, h))) ∙ length-take-le n vs (omega (arith, h))

-- ---- All lists

-- nothing is told of any list
record IsAllUntold (d : DrawnLists) : Type 0 where
  behind : vertex_changes d ≡ []
  places : place_changes (reached_vertices d) ≡ []
  lights : changes_among light_change d.sectors ≡ []
  flats : changes_among flat_change d.sectors ≡ []
  textures : changes_among texture_change d.sides ≡ []
  lines : changes_among (line_change d) d.lines ≡ []
  things : changes_among thing_change d.things ≡ []

all_untold : (d : DrawnLists) → changes d ≡ [] → IsAllUntold d
all_untold d e =
    let v = vertex_changes d in
    let p = place_changes (reached_vertices d) in
    let l = changes_among light_change d.sectors in
    let f = changes_among flat_change d.sectors in
    let t = changes_among texture_change d.sides in
    let x = changes_among (line_change d) d.lines in
    let six = both_empty (v ++ p ++ l ++ f ++ t ++ x) (changes_among thing_change d.things) e in
    let five = both_empty (v ++ p ++ l ++ f ++ t) x six.0 in
    let four = both_empty (v ++ p ++ l ++ f) t five.0 in
    let three = both_empty (v ++ p ++ l) f four.0 in
    let two = both_empty (v ++ p) l three.0 in
    let one = both_empty v p two.0 in
    record { behind = one.0; places = one.1; lights = two.1; flats = three.1; textures = four.1; lines = five.1; things = six.1 }

pub untold_stay : (name : Name8) (d : DrawnLists) → other_hindrance d ≡ None → changes d ≡ [] → HasLists d (imported name d)
untold_stay name d hindered e =
    let all = all_untold d e in
    let apart = none_again (reached_vertices d) all.places in
    let lines = each_untold (line_change d) 0 d.lines all.lines in
    let stay : kept_lines d ≡ d.lines = filter-stays (λ x. not (has_no_length d x)) d.lines (λ k x h. ap not (line_fails d (get_or d.lines k x) (lines k x h)).0) in
    let ends : All (IsBetweenSome (length (reached_vertices d))) d.lines = subst (All (IsBetweenSome (length (reached_vertices d)))) stay (ends_reached d hindered) in
    let things = each_untold thing_change 0 d.things all.things in
    let number = kept_number (reached_vertices d) in
    record {
      vertices = all_kept (reached_vertices d) apart ∙ all_reached d all.behind;
      sectors = map-stays mended_sector d.sectors (λ k s h. sector_stays (get_or d.sectors k s)
          (each_untold light_change 0 d.sectors all.lights k s h) (each_untold flat_change 0 d.sectors all.flats k s h));
      sides = map-stays mended_side d.sides (λ k s h. side_stays (get_or d.sides k s) (each_untold texture_change 0 d.sides all.textures k s h));
      lines = ap (map (linked_line number)) stay ∙ map-stays (linked_line number) d.lines (λ k s h.
          let x = get_or d.lines k s in
          line_stays d number x (lines k s h)
          (own_number (reached_vertices d) x.v1 apart (ends k s h).v1) (own_number (reached_vertices d) x.v2 apart (ends k s h).v2));
      things =
          ap (map mended_thing) (filter-stays is_kept d.things (λ k t h. (thing_passes (get_or d.things k t) (things k t h)).0))
          ∙ map-stays mended_thing d.things (λ k t h. thing_stays (get_or d.things k t) (things k t h));
    }
