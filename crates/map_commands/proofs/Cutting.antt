-- Cutting a line in two: nothing refuses its halves.
use Rattle.std.proofs.Common.{◌≡◌, ◌≢◌, ℕ, ◌+◌, ◌<◌, ◌≤◌, ◌⊎◌, inl, inr, Bool, true, false, cond, ◌&&◌, not, Result, Ok, Err, List, [], ◌∷◌, ◌++◌, length, None, Some, Option, refl, sym, subst, ◌∙◌, ap, arith, length-append, get_or, nat_eq, nat_lt}
use Rattle.std.specs.Prelude.{◌||◌, IfSome, slice_get}
use Rattle.std.proofs.lemmas.Bool.{both_ways, eq-eqb, eqb-true, false_from_ne_true, le-ltb, or_parts}
use Rattle.std.proofs.lemmas.List.{length-set}
use Rattle.std.proofs.lemmas.Option.{get_or_from_slice_get, slice_get_cases, slice_get_within}
use Rattle.lump_records.specs.declared.records.Line.{Line}
use Rattle.lump_records.specs.declared.records.Side.{Side}
use Rattle.lump_records.specs.declared.records.Vertex.{Vertex}
use Rattle.map_tables.specs.Tables.{Tables}
use Rattle.map_tables.specs.WellFormed.{HasEnds, HasSides}
use Rattle.map_tables.specs.Outcomes.{least, Tells}
use Rattle.map_tables.specs.declared.error.MapError.{MapError}
use Rattle.lump_records.specs.Sides.{has_left, is_two_sided, no_side}
use Rattle.map_tables.specs.Faults.{is_too_long, lacks, lacks_room, line_faults, set_line_faults}
use Rattle.map_tables.specs.Edits.{with_line, with_line_at, with_vertex}
use Rattle.map_tables.proofs.FaultLemmas.{none_hold}
use Rattle.map_commands.specs.declared.command.LineSplit.{LineSplit}
use Rattle.map_commands.specs.Rooms.{wall}
use Rattle.map_commands.specs.Splits.{cut_faults, cut_off, cut_short, line_or_some, split_faults, with_split}
use Rattle.map_commands.proofs.Drawing.{lacks-not, or-both}

left-if : (none missing : Bool) → (none ≡ false → missing ≡ false) → (not none && missing) ≡ false
left-if true missing f = refl
left-if false missing f = f refl

two-if : (two none : Bool) → (two ≡ true → none ≡ false) → (two && not (not none)) ≡ false
two-if false none f = refl
two-if true true f = absurd (both_ways true (f refl) refl)
two-if true false f = refl

-- the line's sides are there
sides-there : (sides : List Side) (l : Line) → HasSides sides l → (lacks sides l.right || (has_left l && lacks sides l.left)) ≡ false
sides-there sides l h =
    or-both (lacks sides l.right) (has_left l && lacks sides l.left) (lacks-not sides l.right h.right)
    (left-if (nat_eq l.left no_side) (lacks sides l.left)
    (λ some. lacks-not sides l.left (h.left (λ same. both_ways (nat_eq l.left no_side) some (eq-eqb l.left no_side same)))))

-- a two-sided line has a left side
left-there : (sides : List Side) (l : Line) → HasSides sides l → (is_two_sided l && not (has_left l)) ≡ false
left-there sides l h =
    two-if (is_two_sided l) (nat_eq l.left no_side)
    (λ two. false_from_ne_true (nat_eq l.left no_side) (λ none. h.two_sided two (eqb-true l.left no_side none)))

unlike : (a b : ℕ) → a ≢ b → nat_eq a b ≡ false
unlike a b ne = false_from_ne_true (nat_eq a b) (λ t. ne (eqb-true a b t))

-- what is known of a line that may be cut at a place
pub record MayCut (m : Tables) (at : Vertex) (n : ℕ) (l : Line) : Type 0 where
  pub found : lacks m.lines n ≡ false
  pub room : lacks_room m.lines 1 ≡ false
  pub front : is_too_long (m.vertices ++ at ∷ []) (cut_short l (length m.vertices)) ≡ false
  pub back : is_too_long (m.vertices ++ at ∷ []) (cut_off l (length m.vertices)) ≡ false
  pub ends : HasEnds m.vertices l
  pub sides : HasSides m.sides l

pub may_cut : (m : Tables) (s : LineSplit) (n : ℕ) (l : Line) → n ≡ s.line → line_or_some m.lines s.line ≡ l
    → least (split_faults m s) ≡ None → HasEnds m.vertices l → HasSides m.sides l → MayCut m s.at n l
may_cut m s n l named is fine ends sides =
    let none = none_hold (split_faults m s) fine in
    let rooms = or_parts (lacks_room m.vertices 1) (lacks_room m.lines 1) none.1.1.0 in
    let vertices = m.vertices ++ s.at ∷ [] in
    let halves = or_parts (is_too_long vertices (cut_short (line_or_some m.lines s.line) (length m.vertices)))
    (is_too_long vertices (cut_off (line_or_some m.lines s.line) (length m.vertices))) none.1.1.1.0 in
    record {
      found = subst (λ k. lacks m.lines k ≡ false) (sym named) none.0;
      room = rooms.1;
      front = subst (λ k. is_too_long vertices (cut_short k (length m.vertices)) ≡ false) is halves.0;
      back = subst (λ k. is_too_long vertices (cut_off k (length m.vertices)) ≡ false) is halves.1;
      ends = ends;
      sides = sides;
    }

-- nothing refuses the front half
pub front_free : (m o : Tables) (at : Vertex) (n v : ℕ) (l : Line) → MayCut m at n l → o ≡ with_vertex m at → v ≡ length m.vertices → least (set_line_faults o n (cut_short l v)) ≡ None
front_free m o at n v l h e is =
    let vertices = m.vertices ++ at ∷ [] in
    let long = length-append m.vertices (at ∷ []) in
    let from = h.ends.v1 in
    let ends : (lacks vertices l.v1 || lacks vertices (length m.vertices)) ≡ false =
    or-both (lacks vertices l.v1) (lacks vertices (length m.vertices)) (lacks-not vertices l.v1 (omega arith))
    (lacks-not vertices (length m.vertices) (omega arith)) in
    let sides = sides-there m.sides l h.sides in
    let found = h.found in
    let differ = unlike l.v1 (length m.vertices) (omega arith) in
    let left = left-there m.sides l h.sides in
    let short = h.front in
    (λ i. least (set_line_faults (e i) n (cut_short l (is i))))
    ∙ (λ i. least ((3, ends i) ∷ (5, sides i) ∷ (6, found i) ∷ (9, differ i) ∷ (11, left i) ∷ (13, short i) ∷ []))

-- nor, behind it, against the back half
pub back_free : (m o p : Tables) (at : Vertex) (n v : ℕ) (l : Line) → MayCut m at n l → o ≡ with_vertex m at → p
    ≡ with_line_at o n (cut_short l v) → v ≡ length m.vertices → least (line_faults p (cut_off l v)) ≡ None
back_free m o p at n v l h e f is =
    let vertices = m.vertices ++ at ∷ [] in
    let long = length-append m.vertices (at ∷ []) in
    let to = h.ends.v2 in
    let ends : (lacks vertices (length m.vertices) || lacks vertices l.v2) ≡ false =
    or-both (lacks vertices (length m.vertices)) (lacks vertices l.v2)
    (lacks-not vertices (length m.vertices) (omega arith)) (lacks-not vertices l.v2 (omega arith)) in
    let sides = sides-there m.sides l h.sides in
    let differ = unlike (length m.vertices) l.v2 (omega arith) in
    let left = left-there m.sides l h.sides in
    let room = ap (λ k. nat_lt 32767 (k + 1)) (length-set m.lines n (cut_short l (length m.vertices))) ∙ h.room in
    let short = h.back in
    ap (λ t. least (line_faults t (cut_off l v))) f
    ∙ (λ i. least (line_faults (with_line_at (e i) n (cut_short l (is i))) (cut_off l (is i))))
    ∙ (λ i. least ((3, ends i) ∷ (5, sides i) ∷ (9, differ i) ∷ (11, left i) ∷ (12, room i) ∷ (13, short i) ∷ []))

-- the three edits make what the split is to make
pub cut_is : (m o p q : Tables) (s : LineSplit) (n v : ℕ) (l : Line) → n ≡ s.line → line_or_some m.lines s.line ≡ l → o
    ≡ with_vertex m s.at → p ≡ with_line_at o n (cut_short l v) → q ≡ with_line p (cut_off l v) → v ≡ length m.vertices
    → q ≡ with_split m s
cut_is m o p q s n v l named is e f g number =
    g ∙ ap (λ t. with_line t (cut_off l v)) f
    ∙ (λ i. with_line (with_line_at (e i) (named i) (cut_short (sym is i) (number i))) (cut_off (sym is i) (number i)))

-- the line of a number that was found
pub found_line : (ls : List Line) (n k : ℕ) (o : Option Line) (l : Line) → n ≡ k → o ≡ slice_get ls n → o ≡ Some l → line_or_some ls k ≡ l
found_line ls n k o l named e f = ap (line_or_some ls) (sym named) ∙ get_or_from_slice_get ls n l _ (sym e ∙ f)

pub of_found : (P : Line → Type 0) (o : Option Line) (l : Line) → IfSome o P → o ≡ Some l → P l
of_found P o l h e = subst (λ x. IfSome x P) e h

-- ---- Telling

-- two lists of faults with one least code are told alike
pub tells-alike : {X : Type 0} (r : Result X MapError) (fs gs : List (ℕ × Bool)) → least fs ≡ least gs → Tells r fs → Tells r gs
tells-alike (Ok x) fs gs e h = sym e ∙ h
tells-alike (Err f) fs gs e h = sym e ∙ h

-- the table has the line
pub with-line : (m : Tables) (s : LineSplit) (n : ℕ) (l : Line) → n ≡ s.line → slice_get m.lines n ≡ Some l → least (cut_faults m l s.at) ≡ least (split_faults m s)
with-line m s n l e at =
    let here : slice_get m.lines s.line ≡ Some l = subst (λ (k : ℕ). slice_get m.lines k ≡ Some l) e at in
    let there : lacks m.lines s.line ≡ false = lacks-not m.lines s.line (slice_get_within m.lines s.line l here) in
    let is : line_or_some m.lines s.line ≡ l = get_or_from_slice_get m.lines s.line l (wall 0 0 0) here in
    sym (ap (λ (t : Bool). cond t (Some 6) (least (cut_faults m (line_or_some m.lines s.line) s.at))) there ∙ ap (λ (x : Line). least (cut_faults m x s.at)) is)

lacks-past : {X : Type 0} (xs : List X) (n : ℕ) → length xs ≤ n → lacks xs n ≡ true
lacks-past xs n h = ap not (le-ltb n (length xs) h)

lacks-none : {X : Type 0} (xs : List X) (n : ℕ) → slice_get xs n ≡ None → lacks xs n ≡ true
lacks-none {X = X} xs n e = at (slice_get_cases xs n).1
  where
    at : ((x : X) × (n < length xs) × (slice_get xs n ≡ Some x) × (get_or xs n x ≡ x)) ⊎ ((length xs ≤ n) × (slice_get xs n ≡ None)) → lacks xs n ≡ true
    at (inl (x, lt, some, is)) = absurd (cc (e, some))
    at (inr (le, none)) = lacks-past xs n le

-- the table hasn't the line
pub without-line : (m : Tables) (s : LineSplit) (n : ℕ) → n ≡ s.line → slice_get m.lines n ≡ None → least (split_faults m s) ≡ Some 6
without-line m s n e none =
    ap (λ (t : Bool). cond t (Some 6) (least (cut_faults m (line_or_some m.lines s.line) s.at))) (lacks-none m.lines s.line (subst (λ (k : ℕ). slice_get m.lines k ≡ None) e none))
