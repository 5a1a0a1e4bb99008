-- A line that may be cut: the three edits that cut it are accepted.
use Rattle.std.proofs.Common.{◌≡◌, ◌≢◌, ℕ, ◌+◌, ◌<◌, ◌≤◌, Bool, true, false, ◌&&◌, ◌||◌, ◌==◌, not, List, [], ◌∷◌, ◌++◌, length, nat_lt, Some, None, refl, sym, ap, ◌∙◌, ⊎_elim, subst, arith, length-append}
use Rattle.std.specs.Bool.{IsTrue}
use Rattle.std.specs.List.{slice_get, slice_set}
use Rattle.std.proofs.lemmas.Bool.Decides.{eqb_tells, nat_tests}
use Rattle.std.proofs.lemmas.List.{length-set}
use Rattle.std.proofs.lemmas.Option.{get_or_from_slice_get, slice_get_within}
use Rattle.lump_records.specs.Limits.{item_limit}
use Rattle.lump_records.specs.Sides.{has_left, is_two_sided, no_side}
use Rattle.lump_records.specs.declared.records.Line.{Line}
use Rattle.lump_records.specs.declared.records.Side.{Side}
use Rattle.map_tables.specs.Edits.{with_line_at, with_vertex}
use Rattle.map_tables.specs.Faults.{is_taken, is_too_long, lacks, lacks_room, line_faults, set_line_faults, vertex_faults}
use Rattle.map_tables.specs.Outcomes.{least}
use Rattle.map_tables.specs.Ranges.{IsLine}
use Rattle.map_tables.specs.Tables.{Tables}
use Rattle.map_tables.specs.WellFormed.{HasSides, WellFormed}
use Rattle.map_commands.specs.Rooms.{wall}
use Rattle.map_commands.specs.Splits.{cut_off, cut_short, line_or_some, split_faults}
use Rattle.map_commands.specs.declared.command.LineSplit.{LineSplit}
use Rattle.map_areas.proofs.Sofar.{room}
use Rattle.map_areas.proofs.Steps.{line_there}

-- a map accepts each of the three edits by which a line is cut
pub record AreHalves (m : Tables) (s : LineSplit) (l : Line) : Type 0 where
  pub vertex : least (vertex_faults m s.at) ≡ None
  pub short : least (set_line_faults (with_vertex m s.at) s.line (cut_short l (length m.vertices))) ≡ None
  pub rest : least
      (line_faults (with_line_at (with_vertex m s.at) s.line (cut_short l (length m.vertices)))
      (cut_off l (length m.vertices))) ≡ None

four_none : (a b c d : Bool) → least ((6, a) ∷ (10, b) ∷ (12, c) ∷ (13, d) ∷ []) ≡ None → (a ≡ false) × (b ≡ false) × (c ≡ false) × (d ≡ false)
four_none true b c d h = cc
four_none false true c d h = cc
four_none false false true d h = cc
four_none false false false true h = cc
four_none false false false false h = (refl, refl, refl, refl)

neither : (a b : Bool) → (a || b) ≡ false → (a ≡ false) × (b ≡ false)
neither true b h = cc
neither false b h = (refl, h)

pub or_none : (a b : Bool) → a ≡ false → b ≡ false → (a || b) ≡ false
or_none a b p q = λ i. p i || q i

pub is_there : {X : Type 0} (xs : List X) (n : ℕ) → n < length xs → lacks xs n ≡ false
is_there xs n lt = grind (arith, nat_tests)

there_longer : {X : Type 0} (xs : List X) (x : X) (n : ℕ) → n < length xs → lacks (xs ++ x ∷ []) n ≡ false
there_longer xs x n lt = let e : length (xs ++ x ∷ []) ≡ length xs + 1 = length-append xs (x ∷ []) in is_there (xs ++ x ∷ []) n (omega (arith, e, lt))

there_last : {X : Type 0} (xs : List X) (x : X) → lacks (xs ++ x ∷ []) (length xs) ≡ false
there_last xs x = let e : length (xs ++ x ∷ []) ≡ length xs + 1 = length-append xs (x ∷ []) in is_there (xs ++ x ∷ []) (length xs) (omega (arith, e))

not_last : (n k : ℕ) → n < k → (n == k) ≡ false
not_last n k lt = ⊎_elim (λ same. let e = same.1 in absurd (omega (arith, e, lt))) (λ other. other.0) (eqb_tells n k)

last_not : (n k : ℕ) → n < k → (k == n) ≡ false
last_not n k lt = ⊎_elim (λ same. let e = same.1 in absurd (omega (arith, e, lt))) (λ other. other.0) (eqb_tells k n)

pub sides_there : (ss : List Side) (l : Line) → HasSides ss l → (lacks ss l.right || (has_left l && lacks ss l.left)) ≡ false
sides_there ss l has =
    or_none (lacks ss l.right) (has_left l && lacks ss l.left) (is_there ss l.right has.right)
    (⊎_elim
    (λ without. ap (λ b. not b && lacks ss l.left) without.0)
    (λ with. ap (λ b. not b && lacks ss l.left) with.0 ∙ is_there ss l.left (has.left with.1))
    (eqb_tells l.left no_side))

pub fits : (ss : List Side) (l : Line) → HasSides ss l → (is_two_sided l && not (has_left l)) ≡ false
fits ss l has = by (is_two_sided l) (λ h. has.two_sided h)
  where
    left : l.left ≢ no_side → not (has_left l) ≡ false
    left apart = ⊎_elim (λ same. absurd (apart same.1)) (λ other. ap (λ b. not (not b)) other.0) (eqb_tells l.left no_side)

    by : (t : Bool) → (IsTrue t → l.left ≢ no_side) → (t && not (has_left l)) ≡ false
    by false h = refl
    by true h = left (h refl)

pub may_be_cut : (m : Tables) (s : LineSplit) (l : Line) → WellFormed m → slice_get m.lines s.line ≡ Some l → least (split_faults m s) ≡ None → AreHalves m s l
may_be_cut m s l fine is ok =
    let v = length m.vertices in
    let vs = m.vertices ++ s.at ∷ [] in
    let some = line_or_some m.lines s.line in
    let same : some ≡ l = get_or_from_slice_get m.lines s.line l (wall 0 0 0) is in
    let four = four_none (lacks m.lines s.line) (is_taken m.vertices s.at) (lacks_room m.vertices 1 || lacks_room m.lines 1)
    (is_too_long vs (cut_short some v) || is_too_long vs (cut_off some v)) ok in
    let room = neither (lacks_room m.vertices 1) (lacks_room m.lines 1) four.2 in
    let long = neither (is_too_long vs (cut_short some v)) (is_too_long vs (cut_off some v)) four.3 in
    let there = line_there m s.line l fine is in
    let ends = there.0 in
    let has = there.1 in
    let v1 : (lacks vs l.v1 || lacks vs v) ≡ false = or_none (lacks vs l.v1) (lacks vs v) (there_longer m.vertices s.at l.v1 ends.v1) (there_last m.vertices s.at) in
    let v2 : (lacks vs v || lacks vs l.v2) ≡ false = or_none (lacks vs v) (lacks vs l.v2) (there_last m.vertices s.at) (there_longer m.vertices s.at l.v2 ends.v2) in
    let sides = sides_there m.sides l has in
    let shape = fits m.sides l has in
    let short_long : is_too_long vs (cut_short l v) ≡ false = ap (λ x. is_too_long vs (cut_short x v)) (sym same) ∙ long.0 in
    let rest_long : is_too_long vs (cut_off l v) ≡ false = ap (λ x. is_too_long vs (cut_off x v)) (sym same) ∙ long.1 in
    let first = not_last l.v1 v ends.v1 in
    let last = last_not l.v2 v ends.v2 in
    let full : nat_lt item_limit (length (slice_set m.lines s.line (cut_short l v)) + 1) ≡ false =
    ap (λ (n : ℕ). nat_lt item_limit (n + 1)) (length-set m.lines s.line (cut_short l v)) ∙ room.1 in
    record {
      vertex = λ i. least ((10, four.1 i) ∷ (12, room.0 i) ∷ []);
      short = λ i. least ((3, v1 i) ∷ (5, sides i) ∷ (6, four.0 i) ∷ (9, first i) ∷ (11, shape i) ∷ (13, short_long i) ∷ []);
      rest = λ i. least ((3, v2 i) ∷ (5, sides i) ∷ (9, last i) ∷ (11, shape i) ∷ (12, full i) ∷ (13, rest_long i) ∷ []);
    }

-- so are their ranges
pub halves_in_range : (m : Tables) (s : LineSplit) (l : Line) (v : ℕ) → WellFormed m → slice_get m.lines s.line ≡ Some l → v ≡ length m.vertices → least (split_faults m s) ≡ None
    → IsLine (cut_short l v) × IsLine (cut_off l v)
halves_in_range m s l v fine is number ok =
    let vs = m.vertices ++ s.at ∷ [] in
    let some = line_or_some m.lines s.line in
    let four = four_none (lacks m.lines s.line) (is_taken m.vertices s.at) (lacks_room m.vertices 1 || lacks_room m.lines 1)
    (is_too_long vs (cut_short some (length m.vertices)) || is_too_long vs (cut_off some (length m.vertices))) ok in
    let lt = room m.vertices (neither (lacks_room m.vertices 1) (lacks_room m.lines 1) four.2).0 in
    let le : v ≤ 32766 = omega (arith, lt, number) in
    let line : IsLine l = subst IsLine (get_or_from_slice_get m.lines s.line l l is) (fine.lines s.line l (slice_get_within m.lines s.line l is)) in (
      record { v1 = line.v1; v2 = le; flags = line.flags; special = line.special; tag = line.tag; right = line.right; left = line.left },
      record { v1 = le; v2 = line.v2; flags = line.flags; special = line.special; tag = line.tag; right = line.right; left = line.left },
    )
