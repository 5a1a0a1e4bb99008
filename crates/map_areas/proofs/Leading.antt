-- Commands in turn: one more command, and the outcome of an edit and of a cut.
use Rattle.std.proofs.Common.{◌≡◌, ℕ, zero, suc, ◌+◌, ◌<◌, Bool, true, false, ◌&&◌, ◌||◌, ◌==◌, not, List, [], ◌∷◌, ◌++◌, length, get_or, nat_lt, Option, Some, None, Result, Ok, Err, refl, sym, ap, ◌∙◌, subst, arith}
use Rattle.std.proofs.lemmas.List.{length-set}
use Rattle.lump_records.specs.Limits.{item_limit}
use Rattle.lump_records.specs.declared.records.Line.{Line}
use Rattle.map_tables.specs.EditFaults.{edit_faults}
use Rattle.map_tables.specs.Edits.{after_edit, edit_number, edited, with_vertex, with_line_at, with_line}
use Rattle.map_tables.specs.Faults.{vertex_faults, set_line_faults, line_faults, is_too_long, is_taken, lacks, lacks_room, has_left, is_two_sided}
use Rattle.map_tables.specs.Outcomes.{least, unless}
use Rattle.map_tables.specs.Tables.{Tables}
use Rattle.map_tables.specs.declared.edit.Edit.{Edit}
use Rattle.map_tables.specs.declared.edit.Edit.TheVariants.{Add, Set}
use Rattle.map_tables.specs.declared.edit.Item.TheVariants as item
use Rattle.map_commands.specs.Splits.{split_faults, with_split, cut_short, cut_off, line_or_some}
use Rattle.map_commands.specs.Step.{InRange, after, faults}
use Rattle.map_commands.specs.declared.command.Command.{Command}
use Rattle.map_commands.specs.declared.command.Command.TheVariants.{Split}
use Rattle.map_commands.specs.declared.command.LineSplit.{LineSplit}
use Rattle.map_areas.specs.Drawn.{TakesCommand, LeadTo, drawn}

-- ---- an edit

-- what was made, if something was
abbrev made_of : {S X : Type 0} → S → Result (S × X) ℕ → S
made_of d (Ok p) = p.0
made_of d (Err e) = d

unless-ok : {S X : Type 0} (o : Option ℕ) (s t : S) (x y : X) → unless o s x ≡ Ok (t, y) → (o ≡ None) × (t ≡ s)
unless-ok None s t x y e = (refl, sym (ap (made_of s) e))
unless-ok (Some code) s t x y e = cc

-- an edit that was made is accepted, and leaves its map
pub edited-made : (m : Tables) (e : Edit) (t : Tables) (n : ℕ) → edited m e ≡ Ok (t, n) → (least (edit_faults m e) ≡ None) × (t ≡ after_edit m e)
edited-made m e t n h = unless-ok (least (edit_faults m e)) (after_edit m e) t (edit_number m e) n h

-- ---- one more command

pub LeadTo-more : (old : Tables) (cs : List Command) (mid : Tables) (c : Command) (new : Tables) → LeadTo old cs mid → TakesCommand mid c new → LeadTo old (cs ++ c ∷ []) new
LeadTo-more old [] mid c new h t =
    subst (λ (m : Tables). InRange c × (least (faults m c) ≡ None) × (new ≡ after m c)) h (t.range, t.accepted, t.left)
LeadTo-more old (d ∷ ds) mid c new h t = (h.0, h.1, LeadTo-more (after old d) ds mid c new h.2 t)

-- the map that commands lead to is the one that they leave
pub LeadTo-drawn : (old : Tables) (cs : List Command) (new : Tables) → LeadTo old cs new → new ≡ drawn old cs
LeadTo-drawn old [] new h = h
LeadTo-drawn old (c ∷ cs) new h = LeadTo-drawn (after old c) cs new h.2

-- commands that are taken in turn are in range
pub LeadTo-range : (old : Tables) (cs : List Command) (new : Tables) → LeadTo old cs new → (k : ℕ) (d : Command) → k < length cs → InRange (get_or cs k d)
LeadTo-range old [] new h k d lt = absurd (omega arith)
LeadTo-range old (c ∷ cs) new h zero d lt = h.0
LeadTo-range old (c ∷ cs) new h (suc k) d lt = LeadTo-range (after old c) cs new h.2 k d (omega arith)

-- ---- a cut

vertex_none : (a b : Bool) → least ((10, a) ∷ (12, b) ∷ []) ≡ None → (a ≡ false) × (b ≡ false)
vertex_none true b h = cc
vertex_none false true h = cc
vertex_none false false h = (refl, refl)

set_none : (a b c d e f : Bool) → least ((3, a) ∷ (5, b) ∷ (6, c) ∷ (9, d) ∷ (11, e) ∷ (13, f) ∷ []) ≡ None → (c ≡ false) × (f ≡ false)
set_none true b c d e f h = cc
set_none false true c d e f h = cc
set_none false false true d e f h = cc
set_none false false false true e f h = cc
set_none false false false false true f h = cc
set_none false false false false false true h = cc
set_none false false false false false false h = (refl, refl)

line_none : (a b c d e f : Bool) → least ((3, a) ∷ (5, b) ∷ (9, c) ∷ (11, d) ∷ (12, e) ∷ (13, f) ∷ []) ≡ None → (e ≡ false) × (f ≡ false)
line_none true b c d e f h = cc
line_none false true c d e f h = cc
line_none false false true d e f h = cc
line_none false false false true e f h = cc
line_none false false false false true f h = cc
line_none false false false false false true h = cc
line_none false false false false false false h = (refl, refl)

-- a cut is accepted if its vertex, the line cut short, and the new line are accepted in turn
split_taken : (m : Tables) (s : LineSplit)
    → least (vertex_faults m s.at) ≡ None
    → least (set_line_faults (with_vertex m s.at) s.line (cut_short (line_or_some m.lines s.line) (length m.vertices))) ≡ None
    → least
    (line_faults (with_line_at (with_vertex m s.at) s.line (cut_short (line_or_some m.lines s.line) (length m.vertices)))
    (cut_off (line_or_some m.lines s.line) (length m.vertices))) ≡ None
    → least (split_faults m s) ≡ None
split_taken m s h1 h2 h3 =
    let short = cut_short (line_or_some m.lines s.line) (length m.vertices) in
    let rest = cut_off (line_or_some m.lines s.line) (length m.vertices) in
    let t1 = with_vertex m s.at in
    let t2 = with_line_at t1 s.line short in
    let a = vertex_none (is_taken m.vertices s.at) (lacks_room m.vertices 1) h1 in
    let b =
    set_none (lacks t1.vertices short.v1 || lacks t1.vertices short.v2) (lacks t1.sides short.right || (has_left short && lacks t1.sides short.left))
    (lacks t1.lines s.line) (short.v1 == short.v2) (is_two_sided short && not (has_left short)) (is_too_long t1.vertices short) h2 in
    let c =
    line_none (lacks t2.vertices rest.v1 || lacks t2.vertices rest.v2) (lacks t2.sides rest.right || (has_left rest && lacks t2.sides rest.left))
    (rest.v1 == rest.v2) (is_two_sided rest && not (has_left rest)) (lacks_room t2.lines 1) (is_too_long t2.vertices rest) h3 in
    let full : nat_lt item_limit (length m.lines + 1) ≡ false =
    ap (λ (n : ℕ). nat_lt item_limit (n + 1)) (sym (length-set m.lines s.line short)) ∙ c.0 in
    λ i. least ((6, b.0 i) ∷ (10, a.0 i) ∷ (12, a.1 i || full i) ∷ (13, b.1 i || c.1 i) ∷ [])

-- a cut that was made by three edits is taken as a command
pub split_made : (m : Tables) (s : LineSplit) (l : Line) (v : ℕ) (t1 t2 t3 : Tables) (n1 n2 n3 : ℕ)
    → InRange (Split s) → l ≡ line_or_some m.lines s.line → v ≡ length m.vertices
    → edited m (Add (item.Vertex s.at)) ≡ Ok (t1, n1)
    → edited t1 (Set s.line (item.Line (cut_short l v))) ≡ Ok (t2, n2)
    → edited t2 (Add (item.Line (cut_off l v))) ≡ Ok (t3, n3)
    → TakesCommand m (Split s) t3
split_made m s l v t1 t2 t3 n1 n2 n3 range le ve h1 h2 h3 =
    let d1 = edited-made m (Add (item.Vertex s.at)) t1 n1 h1 in
    let d2 = edited-made t1 (Set s.line (item.Line (cut_short l v))) t2 n2 h2 in
    let d3 = edited-made t2 (Add (item.Line (cut_off l v))) t3 n3 h3 in
    let short : cut_short l v ≡ cut_short (line_or_some m.lines s.line) (length m.vertices) = λ i. cut_short (le i) (ve i) in
    let rest : cut_off l v ≡ cut_off (line_or_some m.lines s.line) (length m.vertices) = λ i. cut_off (le i) (ve i) in
    let second : t2 ≡ with_line_at (with_vertex m s.at) s.line (cut_short (line_or_some m.lines s.line) (length m.vertices)) =
    d2.1 ∙ (λ i. with_line_at (d1.1 i) s.line (short i)) in
    let second_faults : least (set_line_faults t1 s.line (cut_short l v))
    ≡ least (set_line_faults (with_vertex m s.at) s.line (cut_short (line_or_some m.lines s.line) (length m.vertices))) =
    λ i. least (set_line_faults (d1.1 i) s.line (short i)) in
    let third_faults : least (line_faults t2 (cut_off l v))
    ≡ least
    (line_faults (with_line_at (with_vertex m s.at) s.line (cut_short (line_or_some m.lines s.line) (length m.vertices)))
    (cut_off (line_or_some m.lines s.line) (length m.vertices))) =
    λ i. least (line_faults (second i) (rest i)) in
    let left : with_line t2 (cut_off l v) ≡ with_split m s = λ i. with_line (second i) (rest i) in
    record {
      range = range;
      accepted = split_taken m s d1.0 (sym second_faults ∙ d2.0) (sym third_faults ∙ d3.0);
      left = d3.1 ∙ left;
      draws = tt;
    }
