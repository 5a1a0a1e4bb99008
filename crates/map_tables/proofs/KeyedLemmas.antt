-- Lines and sides with numbers, after an edit of what they name; their stored form stays.
use Rattle.std.proofs.Common.{◌≡◌, ◌≢◌, ◌∙◌, refl, sym, ap, ℕ, ◌<◌, ◌≤◌, Bool, true, false, not, ◌&&◌, ◌||◌, ◌==◌, List, [], ◌∷◌, length, map, arith}
use Rattle.std.specs.Prelude.{Option, Some, None, All}
use Rattle.std.specs.List.{list_any}
use Rattle.std.proofs.lemmas.Bool.{eqb-false, eqb-true, ne_eqb, or_parts}
use Rattle.std.proofs.lemmas.List.Sums.{prefix_len-le-length}
use Rattle.std.proofs.lemmas.List.Elements.{All-head, All-tail}
use Rattle.lump_records.specs.declared.records.Line.{Line}
use Rattle.lump_records.specs.declared.records.Side.{Side}
use Rattle.lump_records.specs.declared.records.Vertex.{Vertex}
use Rattle.lump_records.specs.declared.records.Sector.{Sector}
use Rattle.map_tables.specs.declared.map.keyed_line.KeyedLine.{KeyedLine}
use Rattle.map_tables.specs.declared.map.keyed_side.KeyedSide.{KeyedSide}
use Rattle.map_tables.specs.Tables.{Tables, no_side}
use Rattle.map_tables.specs.Outcomes.{least}
use Rattle.map_tables.specs.Faults.{in_sector, uses_vertex, uses_side, has_left, drop_sector_faults, drop_vertex_faults, drop_side_faults}
use Rattle.map_tables.proofs.FaultLemmas.{none_hold, none_passes}
use Rattle.map_tables.specs.Edits.{lowered_left, side_without_sector, line_without_vertex, line_without_side}
use Rattle.map_tables.specs.WellFormed.{HasEnds, HasSides, HasSector}
use Rattle.map_tables.specs.Keys.{TableView, rank_of, KeepRanks, LowerRanks}
use Rattle.map_tables.specs.Keyed.{left_of, line_of, side_of, IsFound, is_left}
use Rattle.map_tables.proofs.SideLemmas.{left_missing, left_there, left_apart}
use Rattle.map_tables.proofs.ListLemmas.{any-map, any_same}

-- ---- Sides after an edit of the sectors

-- one more sector
pub sides_push_sector : (old new : TableView Sector) (ss : List KeyedSide) → KeepRanks old new → All (HasSector old.items) (map (side_of old.keys) ss)
    → map (side_of new.keys) ss ≡ map (side_of old.keys) ss
sides_push_sector old new [] keep within = refl
sides_push_sector old new (s ∷ ss) keep within =
    let k = keep s.sector (All-head (HasSector old.items) (side_of old.keys s) (map (side_of old.keys) ss) within) in
    let here : side_of new.keys s ≡ side_of old.keys s = λ i. record (side_of old.keys s) { sector = k i } in
    let rest = sides_push_sector old new ss keep (All-tail (HasSector old.items) (side_of old.keys s) (map (side_of old.keys) ss) within) in
    ap (λ (k : Side). k ∷ map (side_of new.keys) ss) here
    ∙ ap (λ (ks : List Side). side_of old.keys s ∷ ks) rest

-- a removed sector to which no side belongs
pub sides_drop_sector : (old new : TableView Sector) (n : ℕ) (ss : List KeyedSide) → LowerRanks n old new → All (HasSector old.items) (map (side_of old.keys) ss)
    → All (λ s. in_sector n s ≡ false) (map (side_of old.keys) ss) → map (side_of new.keys) ss ≡ map (side_without_sector n) (map (side_of old.keys) ss)
sides_drop_sector old new n [] lower within unused = refl
sides_drop_sector old new n (s ∷ ss) lower within unused =
    let apart = All-head (λ s. in_sector n s ≡ false) (side_of old.keys s) (map (side_of old.keys) ss) unused in
    let k = lower s.sector (All-head (HasSector old.items) (side_of old.keys s) (map (side_of old.keys) ss) within) (eqb-false (rank_of old.keys s.sector) n apart) in
    let here : side_of new.keys s ≡ side_without_sector n (side_of old.keys s) = λ i. record (side_of old.keys s) { sector = k i } in
    let rest = sides_drop_sector old new n ss lower
    (All-tail (HasSector old.items) (side_of old.keys s) (map (side_of old.keys) ss) within)
    (All-tail (λ s. in_sector n s ≡ false) (side_of old.keys s) (map (side_of old.keys) ss) unused) in
    ap (λ (k : Side). k ∷ map (side_of new.keys) ss) here
    ∙ ap (λ (ks : List Side). side_without_sector n (side_of old.keys s) ∷ ks) rest

-- no side belongs to a sector that can be removed
pub none_in : (m : Tables) (n : ℕ) → least (drop_sector_faults m n) ≡ None → All (λ s. in_sector n s ≡ false) m.sides
none_in m n fine = none_passes (in_sector n) m.sides (none_hold (drop_sector_faults m n) fine).1.0

-- the sides of a sector are those with its key
pub sides_in : (sectors : List ℕ) (n key : ℕ) (ss : List KeyedSide) → ((k : ℕ) → (rank_of sectors k == n) ≡ (k == key))
    → list_any (in_sector n) (map (side_of sectors) ss) ≡ list_any (λ s. s.sector == key) ss
sides_in sectors n key ss only =
    any-map (in_sector n) (side_of sectors) ss
    ∙ any_same (λ s. in_sector n (side_of sectors s)) (λ s. s.sector == key) ss (λ s. only s.sector)

-- ---- Lines after an edit of the vertices

-- one more vertex
pub lines_push_vertex : (old new : TableView Vertex) (sides : List ℕ) (ls : List KeyedLine) → KeepRanks old new → All (HasEnds old.items) (map (line_of old.keys sides) ls)
    → map (line_of new.keys sides) ls ≡ map (line_of old.keys sides) ls
lines_push_vertex old new sides [] keep ends = refl
lines_push_vertex old new sides (l ∷ ls) keep ends =
    let h = All-head (HasEnds old.items) (line_of old.keys sides l) (map (line_of old.keys sides) ls) ends in
    let v1 = keep l.v1 h.v1 in
    let v2 = keep l.v2 h.v2 in
    let here : line_of new.keys sides l ≡ line_of old.keys sides l = λ i. record (line_of old.keys sides l) { v1 = v1 i; v2 = v2 i } in
    let rest = lines_push_vertex old new sides ls keep (All-tail (HasEnds old.items) (line_of old.keys sides l) (map (line_of old.keys sides) ls) ends) in
    ap (λ (k : Line). k ∷ map (line_of new.keys sides) ls) here
    ∙ ap (λ (ks : List Line). line_of old.keys sides l ∷ ks) rest

-- a removed vertex that no line uses
pub lines_drop_vertex : (old new : TableView Vertex) (sides : List ℕ) (n : ℕ) (ls : List KeyedLine) → LowerRanks n old new → All (HasEnds old.items) (map (line_of old.keys sides) ls)
    → All (λ l. uses_vertex n l ≡ false) (map (line_of old.keys sides) ls) → map (line_of new.keys sides) ls ≡ map (line_without_vertex n) (map (line_of old.keys sides) ls)
lines_drop_vertex old new sides n [] lower ends unused = refl
lines_drop_vertex old new sides n (l ∷ ls) lower ends unused =
    let h = All-head (HasEnds old.items) (line_of old.keys sides l) (map (line_of old.keys sides) ls) ends in
    let apart = or_parts (rank_of old.keys l.v1 == n) (rank_of old.keys l.v2 == n) (All-head (λ l. uses_vertex n l ≡ false) (line_of old.keys sides l) (map (line_of old.keys sides) ls) unused) in
    let v1 = lower l.v1 h.v1 (eqb-false (rank_of old.keys l.v1) n apart.0) in
    let v2 = lower l.v2 h.v2 (eqb-false (rank_of old.keys l.v2) n apart.1) in
    let here : line_of new.keys sides l ≡ line_without_vertex n (line_of old.keys sides l) = λ i. record (line_of old.keys sides l) { v1 = v1 i; v2 = v2 i } in
    let rest = lines_drop_vertex old new sides n ls lower
    (All-tail (HasEnds old.items) (line_of old.keys sides l) (map (line_of old.keys sides) ls) ends)
    (All-tail (λ l. uses_vertex n l ≡ false) (line_of old.keys sides l) (map (line_of old.keys sides) ls) unused) in
    ap (λ (k : Line). k ∷ map (line_of new.keys sides) ls) here
    ∙ ap (λ (ks : List Line). line_without_vertex n (line_of old.keys sides l) ∷ ks) rest

-- no line uses a vertex that can be removed
pub none_at : (m : Tables) (n : ℕ) → least (drop_vertex_faults m n) ≡ None → All (λ l. uses_vertex n l ≡ false) m.lines
none_at m n fine = none_passes (uses_vertex n) m.lines (none_hold (drop_vertex_faults m n) fine).1.0

-- the lines of a vertex are those with its key
pub lines_at : (vertices sides : List ℕ) (n key : ℕ) (ls : List KeyedLine) → ((k : ℕ) → (rank_of vertices k == n) ≡ (k == key))
    → list_any (uses_vertex n) (map (line_of vertices sides) ls) ≡ list_any (λ l. (l.v1 == key) || (l.v2 == key)) ls
lines_at vertices sides n key ls only =
    any-map (uses_vertex n) (line_of vertices sides) ls
    ∙ any_same (λ l. uses_vertex n (line_of vertices sides l)) (λ l. (l.v1 == key) || (l.v2 == key)) ls (λ l.
    ap (λ b. b || (rank_of vertices l.v2 == n)) (only l.v1) ∙ ap (λ b. (l.v1 == key) || b) (only l.v2))

-- ---- Lines after an edit of the sides

-- a key's rank is at most the number of keys
pub rank_le : (keys : List ℕ) (key : ℕ) → rank_of keys key ≤ length keys
rank_le keys key = prefix_len-le-length (λ k. not (k == key)) keys

-- so it is never `no_side`
rank_some : (keys : List ℕ) (key : ℕ) → length keys ≤ 32767 → rank_of keys key ≢ no_side
rank_some keys key few e = let most = rank_le keys key in omega (arith, most, few, e)

left_push : (old new : TableView KeyedSide) (left : Option ℕ) → KeepRanks old new → length old.keys ≡ length old.items → length old.items ≤ 32767
    → (left_of old.keys left ≢ no_side → left_of old.keys left < length old.items) → left_of new.keys left ≡ left_of old.keys left
left_push old new None keep count few there = refl
left_push old new (Some key) keep count few there = keep key (there (rank_some old.keys key (omega (arith, count, few))))

left_drop : (old new : TableView KeyedSide) (n : ℕ) (left : Option ℕ) → LowerRanks n old new → length old.keys ≡ length old.items → length old.items ≤ 32767
    → (left_of old.keys left ≢ no_side → left_of old.keys left < length old.items) → (left_of old.keys left ≢ no_side → left_of old.keys left ≢ n)
    → left_of new.keys left ≡ lowered_left n (left_of old.keys left)
left_drop old new n None lower count few there apart = sym (left_missing n no_side refl)
left_drop old new n (Some key) lower count few there apart =
    let some = rank_some old.keys key (omega (arith, count, few)) in
    lower key (there some) (apart some) ∙ sym (left_there n (rank_of old.keys key) some)

-- one more side
pub lines_push_side : (vertices : List ℕ) (old new : TableView KeyedSide) (ss : List Side) (ls : List KeyedLine) → KeepRanks old new → length old.keys ≡ length old.items → length old.items ≤ 32767
    → length ss ≡ length old.items → All (HasSides ss) (map (line_of vertices old.keys) ls) → map (line_of vertices new.keys) ls ≡ map (line_of vertices old.keys) ls
lines_push_side vertices old new ss [] keep count few many sides = refl
lines_push_side vertices old new ss (l ∷ ls) keep count few many sides =
    let h = All-head (HasSides ss) (line_of vertices old.keys l) (map (line_of vertices old.keys) ls) sides in
    let right = keep l.right (omega (arith, h.right, many)) in
    let left = left_push old new l.left keep count few (λ some. let within = h.left some in omega (arith, within, many)) in
    let here : line_of vertices new.keys l ≡ line_of vertices old.keys l = λ i. record (line_of vertices old.keys l) { right = right i; left = left i } in
    let rest = lines_push_side vertices old new ss ls keep count few many (All-tail (HasSides ss) (line_of vertices old.keys l) (map (line_of vertices old.keys) ls) sides) in
    ap (λ (k : Line). k ∷ map (line_of vertices new.keys) ls) here
    ∙ ap (λ (ks : List Line). line_of vertices old.keys l ∷ ks) rest

-- a removed side that no line has
pub lines_drop_side : (vertices : List ℕ) (old new : TableView KeyedSide) (n : ℕ) (ss : List Side) (ls : List KeyedLine)
    → LowerRanks n old new → length old.keys ≡ length old.items → length old.items ≤ 32767
    → length ss ≡ length old.items → All (HasSides ss) (map (line_of vertices old.keys) ls) → All (λ l. uses_side n l ≡ false) (map (line_of vertices old.keys) ls)
    → map (line_of vertices new.keys) ls ≡ map (line_without_side n) (map (line_of vertices old.keys) ls)
lines_drop_side vertices old new n ss [] lower count few many sides unused = refl
lines_drop_side vertices old new n ss (l ∷ ls) lower count few many sides unused =
    let h = All-head (HasSides ss) (line_of vertices old.keys l) (map (line_of vertices old.keys) ls) sides in
    let free = All-head (λ l. uses_side n l ≡ false) (line_of vertices old.keys l) (map (line_of vertices old.keys) ls) unused in
    let apart = or_parts (rank_of old.keys l.right == n) (has_left (line_of vertices old.keys l) && (left_of old.keys l.left == n)) free in
    let right = lower l.right (omega (arith, h.right, many)) (eqb-false (rank_of old.keys l.right) n apart.0) in
    let left = left_drop old new n l.left lower count few (λ some. let within = h.left some in omega (arith, within, many)) (left_apart n (line_of vertices old.keys l) free) in
    let here : line_of vertices new.keys l ≡ line_without_side n (line_of vertices old.keys l) = λ i. record (line_of vertices old.keys l) { right = right i; left = left i } in
    let rest = lines_drop_side vertices old new n ss ls lower count few many
    (All-tail (HasSides ss) (line_of vertices old.keys l) (map (line_of vertices old.keys) ls) sides)
    (All-tail (λ l. uses_side n l ≡ false) (line_of vertices old.keys l) (map (line_of vertices old.keys) ls) unused) in
    ap (λ (k : Line). k ∷ map (line_of vertices new.keys) ls) here
    ∙ ap (λ (ks : List Line). line_without_side n (line_of vertices old.keys l) ∷ ks) rest

-- no line has a side that can be removed
pub none_with : (m : Tables) (n : ℕ) → least (drop_side_faults m n) ≡ None → All (λ l. uses_side n l ≡ false) m.lines
none_with m n fine = none_passes (uses_side n) m.lines (none_hold (drop_side_faults m n) fine).1.0

-- the left side's number is n if it has the key
left_with : (sides : List ℕ) (n key : ℕ) (left : Option ℕ) → n < no_side → ((k : ℕ) → (rank_of sides k == n) ≡ (k == key))
    → (not (left_of sides left == no_side) && (left_of sides left == n)) ≡ is_left left key
left_with sides n key None few only = refl
left_with sides n key (Some k) few only = by (rank_of sides k == n) refl ∙ only k
  where
    by : (b : Bool) → (rank_of sides k == n) ≡ b → (not (rank_of sides k == no_side) && b) ≡ b
    by false e = cases (not (rank_of sides k == no_side))
      where
        cases : (c : Bool) → (c && false) ≡ false
        cases true = refl
        cases false = refl
    by true e =
        let same = eqb-true (rank_of sides k) n e in
        ap (λ b. not b && true) (ne_eqb (rank_of sides k) no_side (λ f. omega (arith, same, f, few)))

-- the lines of a side are those with its key
pub lines_with : (vertices sides : List ℕ) (n key : ℕ) (ls : List KeyedLine) → n < no_side → ((k : ℕ) → (rank_of sides k == n) ≡ (k == key))
    → list_any (uses_side n) (map (line_of vertices sides) ls) ≡ list_any (λ l. (l.right == key) || is_left l.left key) ls
lines_with vertices sides n key ls few only =
    any-map (uses_side n) (line_of vertices sides) ls
    ∙ any_same (λ l. uses_side n (line_of vertices sides l)) (λ l. (l.right == key) || is_left l.left key) ls (λ l.
    ap (λ b. b || (not (left_of sides l.left == no_side) && (left_of sides l.left == n))) (only l.right) ∙ ap (λ b. (l.right == key) || b) (left_with sides n key l.left few only))

-- ---- What a line names

pub found_from : (vs : List Vertex) (ss : List Side) (many : ℕ) (l : Line) → length ss ≡ many → HasEnds vs l → HasSides ss l → IsFound (length vs) many l
found_from vs ss many l count ends sides =
    record {
      v1 = ends.v1;
      v2 = ends.v2;
      right = omega (arith, sides.right, count);
      left = λ some. let within = sides.left some in omega (arith, within, count);
    }
