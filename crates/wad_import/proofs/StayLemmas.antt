-- Where the lists of a level stay, nothing is told of it.
use Rattle.std.proofs.Common.{◌≡◌, ℕ, zero, suc, ◌+◌, ◌-◌, ◌/◌, ◌%◌, ◌<◌, ◌≤◌, Bool, true, false, cond, not, nat_eq, List, [], ◌∷◌, ◌++◌, length, get_or, take, map, Option, Some, None, All, refl, sym, subst, ap, ◌∙◌, arith, inl, inr, length-append, take_all}
use Rattle.std.specs.Prelude.{filter, filter_map, pos}
use Rattle.std.specs.List.{cons_option, enumerate_from}
use Rattle.std.proofs.lemmas.Bool.{and_from, and_parts, cases_lt, eq-eqb, eqb-true}
use Rattle.std.proofs.lemmas.Bool.Decides.{Decides-int_eq}
use Rattle.std.proofs.lemmas.List.{get_or_append_left, length-map, length-take, take-append-le}
use Rattle.std.proofs.lemmas.List.Elements.{All-cons, All-nil}
use Rattle.std.proofs.lemmas.Slice.Eq.{bytes_eq-Decides}
use Rattle.std.proofs.Math.Seq.{get_or-append_seam}
use Rattle.lump_records.specs.declared.records.Name8.{Name8}
use Rattle.lump_records.specs.declared.records.Thing.{Thing}
use Rattle.lump_records.specs.declared.records.Line.{Line}
use Rattle.lump_records.specs.declared.records.Side.{Side}
use Rattle.lump_records.specs.declared.records.Vertex.{Vertex}
use Rattle.lump_records.specs.declared.records.Sector.{Sector}
use Rattle.lump_records.specs.Sides.{has_left, is_two_sided}
use Rattle.wad_levels.specs.Drawn.{DrawnLists}
use Rattle.wad_levels.specs.Lengths.{has_no_length}
use Rattle.map_tables.specs.Faults.{is_taken}
use Rattle.map_tables.specs.WellFormed.{nth_vertex}
use Rattle.wad_import.specs.Mended.{is_kept, lacks_left_side, linked_line, mended_angle, mended_light, mended_name, mended_sector, mended_side, mended_thing}
use Rattle.wad_import.specs.Once.{comes_again, each_once, kept_number, kept_vertex, place_change, place_changes}
use Rattle.wad_import.specs.Imported.{changes, changes_among, flat_change, imported, kept_lines, light_change, line_change, reached_vertices, same_name, texture_change, thing_change, vertex_changes, vertex_reach}
use Rattle.wad_import.specs.Unchanged.{HasLists, UntoldLevelsStay}
use Rattle.wad_import.specs.declared.change.Change.{Change}
use Rattle.wad_import.specs.declared.change.Change.TheVariants.{Angle, Flats, Light, LineOut, Textures, ThingOut, TwoSided, VerticesBehind}
use Rattle.wad_import.proofs.OnceLemmas.{again-none, each_once-length, made, made_none, made_some, once-some, once_to, taken_once, told-none}
use Rattle.wad_import.proofs.FineLemmas.{not_from_true_not}
use Rattle.wad_import.proofs.UntoldLemmas.{AreApart, filter-stays, untold_stay}

-- ---- Nothing is told

-- nothing is told of an item, whatever its number
abbrev IsNeverTold : {X : Type 0} → (ℕ × X → Option Change) → X → Type 0
IsNeverTold change x = (n : ℕ) → change (n, x) ≡ None

none_told : {X : Type 0} (change : ℕ × X → Option Change) (n : ℕ) (xs : List X) → All (IsNeverTold change) xs → filter_map change (enumerate_from n xs) ≡ []
none_told change n [] all = refl
none_told change n (x ∷ xs) all =
    ap (λ o. cons_option o (filter_map change (enumerate_from (n + 1) xs))) (all 0 x (omega arith) n)
    ∙ none_told change (n + 1) xs (λ k d h. all (suc k) d (omega arith))

-- where a list stays, each item does
each_stays : {X : Type 0} (f : X → X) (xs : List X) → map f xs ≡ xs → All (λ x. f x ≡ x) xs
each_stays f [] e = All-nil (λ x. f x ≡ x)
each_stays f (x ∷ xs) e =
    let first : f x ≡ x = cc in
    let rest : map f xs ≡ xs = cc in
    All-cons (λ x. f x ≡ x) x xs first (each_stays f xs rest)

filter-length : {X : Type 0} (p : X → Bool) (xs : List X) → length (filter p xs) ≤ length xs
filter-length p [] = omega arith
filter-length p (x ∷ xs) = by (p x) refl (filter-length p xs)
  where
    by : (t : Bool) → p x ≡ t → length (filter p xs) ≤ length xs → length (cond t (x ∷ filter p xs) (filter p xs)) ≤ suc (length xs)
    by true e h = omega (arith, h)
    by false e h = omega (arith, h)

-- where as many pass, all do
all_passing : {X : Type 0} (p : X → Bool) (xs : List X) → length (filter p xs) ≡ length xs → All (λ x. p x ≡ true) xs
all_passing p [] e = All-nil (λ x. p x ≡ true)
all_passing p (x ∷ xs) e =
    let two = by (p x) refl e (filter-length p xs) in
    All-cons (λ x. p x ≡ true) x xs two.0 (all_passing p xs two.1)
  where
    by : (t : Bool) → p x ≡ t → length (cond t (x ∷ filter p xs) (filter p xs)) ≡ suc (length xs) → length (filter p xs) ≤ length xs
        → (p x ≡ true) × (length (filter p xs) ≡ length xs)
    by true is h most = (is, omega (arith, h))
    by false is h most = absurd (omega (arith, h, most))

-- ---- Single items

own_name : (n : Name8) → mended_name n ≡ n → same_name (mended_name n) n ≡ true
own_name n e = (bytes_eq-Decides (mended_name n).bytes n.bytes).1 (ap (λ (m : Name8). m.bytes) e)

light_untold : (s : Sector) → mended_sector s ≡ s → IsNeverTold light_change s
light_untold s e = λ n. ap (λ t. cond t None (Some (Light n s.light (mended_light s.light)))) ((Decides-int_eq (mended_light s.light) s.light).1 (ap (λ (r : Sector). r.light) e))

flat_untold : (s : Sector) → mended_sector s ≡ s → IsNeverTold flat_change s
flat_untold s e =
    λ n. ap (λ t. cond t None (Some (Flats n)))
    (and_from (same_name (mended_name s.floor_name) s.floor_name) (same_name (mended_name s.ceiling_name) s.ceiling_name)
    (own_name s.floor_name (ap (λ (r : Sector). r.floor_name) e)) (own_name s.ceiling_name (ap (λ (r : Sector). r.ceiling_name) e)))

texture_untold : (s : Side) → mended_side s ≡ s → IsNeverTold texture_change s
texture_untold s e =
    let same = λ (n : Name8). same_name (mended_name n) n in
    let two = and_from (same s.upper) (same s.lower) (own_name s.upper (ap (λ (r : Side). r.upper) e)) (own_name s.lower (ap (λ (r : Side). r.lower) e)) in
    λ n. ap (λ t. cond t None (Some (Textures n))) (and_from _ (same s.middle) two (own_name s.middle (ap (λ (r : Side). r.middle) e)))

flags_stay : (x : Line) (t : Bool) → lacks_left_side x ≡ t → (cond t (record x { flags = x.flags - 4 }) x).flags ≡ x.flags → lacks_left_side x ≡ false
flags_stay x true is e =
    let set = eqb-true (x.flags / 4 % 2) 1 (and_parts (is_two_sided x) (not (has_left x)) is).0 in
    absurd (omega (arith, set, e))
flags_stay x false is e = is

line_untold : (d : DrawnLists) (number : ℕ → ℕ) (x : Line) → not (has_no_length d x) ≡ true → linked_line number x ≡ x → IsNeverTold (line_change d) x
line_untold d number x stays e =
    let left = flags_stay x (lacks_left_side x) refl (ap (λ (y : Line). y.flags) e) in
    let long = not_from_true_not (has_no_length d x) stays in
    λ n. (λ i. cond (long i) (Some (LineOut n)) (cond (left i) (Some (TwoSided n)) None))

thing_untold : (t : Thing) → is_kept t ≡ true → mended_thing t ≡ t → IsNeverTold thing_change t
thing_untold t kept e =
    let angle = (Decides-int_eq (mended_angle t.angle) t.angle).1 (ap (λ (u : Thing). u.angle) e) in
    λ n. (λ i. cond (not (kept i)) (Some (ThingOut n)) (cond (angle i) None (Some (Angle n t.angle (mended_angle t.angle)))))

-- ---- Vertices

-- one more that stands elsewhere
apart_push : (xs : List Vertex) (w : Vertex) → AreApart xs → is_taken xs w ≡ false → AreApart (xs ++ w ∷ [])
apart_push xs w apart free k h = elim (cases_lt k (length xs)) [
  | inl below ↦
      (λ i. is_taken (take-append-le k xs (w ∷ []) (omega (arith, below)) i) (get_or_append_left xs (w ∷ []) (record { x = pos 0; y = pos 0 }) k below i))
      ∙ apart k below
  | inr past ↦
      let last : k ≡ length xs = omega (arith, past, h, length-append xs (w ∷ [])) in
      let front : take (length xs) (xs ++ w ∷ []) ≡ xs = take-append-le (length xs) xs (w ∷ []) (omega arith) ∙ take_all (length xs) xs (omega arith) in
      ap (comes_again (xs ++ w ∷ [])) last
      ∙ (λ i. is_taken (front i) (get_or-append_seam xs w [] (record { x = pos 0; y = pos 0 }) i)) ∙ free
]

apart_more : (vs : List Vertex) (n : ℕ) → n < length vs → AreApart (once_to vs n) → AreApart (once_to vs (n + 1))
apart_more vs n h so_far = by (comes_again vs n) refl
  where
    by : (t : Bool) → comes_again vs n ≡ t → AreApart (once_to vs (n + 1))
    by true again = subst AreApart (sym (made_none (kept_vertex vs) n (again-none vs n again))) so_far
    by false first =
        subst AreApart (sym (made_some (kept_vertex vs) n (nth_vertex vs n) (once-some vs n first)))
        (apart_push (once_to vs n) (nth_vertex vs n) so_far (taken_once vs n (nth_vertex vs n) (omega (arith, h)) ∙ first))

once_apart : (vs : List Vertex) (n : ℕ) → n ≤ length vs → AreApart (once_to vs n)
once_apart vs zero h = λ k l. absurd (omega (arith, l))
once_apart vs (suc n) h =
    let next : suc n ≡ n + 1 = omega arith in
    subst (λ k. AreApart (once_to vs k)) (sym next) (apart_more vs n (omega (arith, h)) (once_apart vs n (omega (arith, h))))

none_made : (vs : List Vertex) (n : ℕ) → n ≤ length vs → AreApart vs → made (place_change vs) n ≡ []
none_made vs zero h apart = refl
none_made vs (suc n) h apart =
    let next : suc n ≡ n + 1 = omega arith in
    ap (made (place_change vs)) next ∙ made_none (place_change vs) n (told-none vs n (apart n (omega (arith, h)))) ∙ none_made vs n (omega (arith, h)) apart

none_behind : (n : ℕ) → n ≡ 0 → cond (nat_eq n 0) [] (VerticesBehind n ∷ []) ≡ []
none_behind n e = ap (λ t. cond t [] (VerticesBehind n ∷ [])) (eq-eqb n 0 e)

-- ---- All lists

untold_parts : (a b c d e f g : List Change) → a ≡ [] → b ≡ [] → c ≡ [] → d ≡ [] → e ≡ [] → f ≡ [] → g ≡ [] → a ++ b ++ c ++ d ++ e ++ f ++ g ≡ []
untold_parts a b c d e f g ha hb hc hd he hf hg = λ i. ha i ++ hb i ++ hc i ++ hd i ++ he i ++ hf i ++ hg i

stay_untold : (name : Name8) (d : DrawnLists) → HasLists d (imported name d) → changes d ≡ []
stay_untold name d has =
    let vs = reached_vertices d in
    let count = ap length has.vertices in
    let most = each_once-length vs in
    let reach = length-take (vertex_reach (kept_lines d)) d.vertices in
    let whole : vs ≡ d.vertices = take_all (vertex_reach (kept_lines d)) d.vertices (omega (arith, count, most, reach)) in
    let kept : each_once vs ≡ vs = has.vertices ∙ sym whole in
    let apart : AreApart vs = subst AreApart kept (once_apart vs (length vs) (omega arith)) in
    let sectors = each_stays mended_sector d.sectors has.sectors in
    let sides = each_stays mended_side d.sides has.sides in
    let keeps = λ (x : Line). not (has_no_length d x) in
    let long = all_passing keeps d.lines (sym (length-map (kept_lines d) (linked_line (kept_number vs))) ∙ ap length has.lines) in
    let same_lines : map (linked_line (kept_number vs)) d.lines ≡ d.lines = ap (map (linked_line (kept_number vs))) (sym (filter-stays keeps d.lines long)) ∙ has.lines in
    let lines = each_stays (linked_line (kept_number vs)) d.lines same_lines in
    let as_many : length (filter is_kept d.things) ≡ length d.things = sym (length-map (filter is_kept d.things) mended_thing) ∙ ap length has.things in
    let passing = all_passing is_kept d.things as_many in
    let same : map mended_thing d.things ≡ d.things = ap (map mended_thing) (sym (filter-stays is_kept d.things passing)) ∙ has.things in
    let things = each_stays mended_thing d.things same in
    untold_parts (vertex_changes d) (place_changes vs) (changes_among light_change d.sectors) (changes_among flat_change d.sectors)
    (changes_among texture_change d.sides) (changes_among (line_change d) d.lines) (changes_among thing_change d.things)
    (none_behind (length d.vertices - length vs) (omega (arith, ap length whole)))
    (none_made vs (length vs) (omega arith) apart)
    (none_told light_change 0 d.sectors (λ k s h. light_untold (get_or d.sectors k s) (sectors k s h)))
    (none_told flat_change 0 d.sectors (λ k s h. flat_untold (get_or d.sectors k s) (sectors k s h)))
    (none_told texture_change 0 d.sides (λ k s h. texture_untold (get_or d.sides k s) (sides k s h)))
    (none_told (line_change d) 0 d.lines (λ k s h. line_untold d (kept_number vs) (get_or d.lines k s) (long k s h) (lines k s h)))
    (none_told thing_change 0 d.things (λ k s h. thing_untold (get_or d.things k s) (passing k s h) (things k s h)))

pub told_exactly : UntoldLevelsStay
told_exactly name d hindered = (untold_stay name d hindered, stay_untold name d)
