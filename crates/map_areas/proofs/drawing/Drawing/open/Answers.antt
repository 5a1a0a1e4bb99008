use Rattle.std.proofs.Common.{◌≡◌, ℕ, ◌≤◌, true, ◌&&◌, ◌||◌, ◌==◌, nat_le, arith, List, Some, sym, ap, ◌∙◌, subst, refl}
use Rattle.std.specs.List.{slice_get}
use Rattle.std.specs.Option.{option_map}
use Rattle.lump_records.specs.declared.records.Line.{Line}
use Rattle.lump_records.specs.declared.records.Side.{Side}
use Rattle.lump_records.specs.declared.records.Vertex.{Vertex}
use Rattle.map_plane.specs.Meeting.{is_at}
use Rattle.map_tables.specs.WellFormed.{nth_vertex}
use Rattle.map_areas.specs.Drawings.{BecamePart, side_on}
use Rattle.map_areas.proofs.Steps.{became_open, but_then, lines_but}
use Rattle.std.proofs.lemmas.Bool.Decides.{nat_tests}
use Rattle.std.proofs.lemmas.Option.{slice_get_within}
use Rattle.map_areas.proofs.Fits.{open_fits}
use Rattle.map_areas.proofs.drawing.Drawing.open.Goals as goal

same : {a b : Line} → Some a ≡ Some b → a ≡ b
same e = cc

pub set_line-requires-clause-part : goal.set_line-requires-clause-part
set_line-requires-clause-part c = λ was is at r.
    let which = c.args.which.now in
    let here : is ≡ which.line =
    same (sym at ∙ ap (λ ls. slice_get ls which.number) (c.in_ok-left.ensures.lines ∙ c.in_ok-right.ensures.lines) ∙ c.requires.own.line) in
    became_open was which.line _ refl refl c.opened_flags.ensures.flags c.in_ok-left.ensures.number c.requires.left (subst (BecamePart was) here r)

pub set_line-requires-clause-ends : goal.set_line-requires-clause-ends
set_line-requires-clause-ends c = λ is at.
    let which = c.args.which.now in
    let here : which.line ≡ is =
    same (sym (ap (λ ls. slice_get ls which.number) (c.in_ok-left.ensures.lines ∙ c.in_ok-right.ensures.lines) ∙ c.requires.own.line) ∙ at) in
    (ap (λ (l : Line). l.v1) here, ap (λ (l : Line). l.v2) here)

pub returns-clause-kept : goal.returns-clause-kept
returns-clause-kept c =
    let n = c.args.which.now.number in
    let t = c.args.self.now.map.tables in
    let one = c.change_side.new.self.map.tables in
    let two = c.add_side.new.self.map.tables in
    but_then n t two c.set_line.new.self.map.tables (but_then n t one two c.in_ok-right.ensures.kept (lines_but n one two c.in_ok-left.ensures.kept))
    c.in_ok-set_line.ensures.kept

pub returns-clause-wall : goal.returns-clause-wall
returns-clause-wall c = λ w h.
    let which = c.args.which.now in
    let old = c.args.self.now.map.tables in
    let vertices = c.in_ok-set_line.ensures.vertices ∙ c.in_ok-left.ensures.vertices ∙ c.in_ok-right.ensures.vertices in
    let sides = c.in_ok-set_line.ensures.sides in
    record {
      number = which.number;
      line = _;
      there = c.in_ok-set_line.ensures.there;
      leads =
          ap (λ (vs : List Vertex). is_at (nth_vertex vs which.line.v1) w.to && is_at (nth_vertex vs which.line.v2) w.from) vertices ∙ h;
      inner =
          ap (λ (ss : List Side). option_map (λ s. s.sector) (slice_get ss c.in_ok-left.left)) sides ∙ ap (option_map (λ (s : Side). s.sector)) c.in_ok-left.ensures.there
          ∙ ap (λ (k : ℕ). Some k) c.open_side-left.ensures.sector;
      outer =
          ap (λ (ss : List Side). option_map (λ s. s.sector) (slice_get ss c.in_ok-right.right)) sides
          ∙ ap (option_map (λ (s : Side). s.sector)) (c.in_ok-left.ensures.others c.in_ok-right.right c.opened-right.result c.in_ok-right.ensures.there)
          ∙ ap (λ (k : ℕ). Some k) c.opened-right.ensures.sector
          ∙ sym (ap (option_map (λ (s : Side). s.sector)) (ap (λ r. slice_get old.sides (side_on r which.line)) (sym c.requires.right) ∙ c.requires.own.side));
    }

in_range : (k : ℕ) → k ≤ 32766 → (nat_le k 32766 || (k == 65535)) ≡ true
in_range k le = grind (arith, nat_tests)

pub set_line-requires-clause-line : goal.set_line-requires-clause-line
set_line-requires-clause-line c =
    let range = c.requires.own.line_range in
    record {
      v1 = range.v1;
      v2 = range.v2;
      flags = c.opened_flags.ensures.range range.flags;
      special = range.special;
      tag = range.tag;
      right = c.in_ok-right.ensures.number;
      left = in_range c.in_ok-left.left c.in_ok-left.ensures.number;
    }

pub set_line-requires-clause-fits : goal.set_line-requires-clause-fits
set_line-requires-clause-fits c =
    let which = c.args.which.now in
    let one = c.change_side.new.self.map.tables in
    let two = c.add_side.new.self.map.tables in
    let lt = slice_get_within one.sides c.in_ok-right.right _ c.in_ok-right.ensures.there in
    let count = c.in_ok-left.ensures.count in
    open_fits c.args.self.now.map.tables two which.line _ refl refl (omega (arith, lt, count))
    (slice_get_within two.sides c.in_ok-left.left _ c.in_ok-left.ensures.there) c.in_ok-left.ensures.number c.requires.own.ends
    (c.in_ok-left.ensures.vertices ∙ c.in_ok-right.ensures.vertices)

pub set_line-requires-clause-here : goal.set_line-requires-clause-here
set_line-requires-clause-here c =
    let which = c.args.which.now in
    slice_get_within c.add_side.new.self.map.tables.lines which.number which.line
    (ap (λ ls. slice_get ls which.number) (c.in_ok-left.ensures.lines ∙ c.in_ok-right.ensures.lines) ∙ c.requires.own.line)
