use Rattle.std.proofs.Common.{◌≡◌, Bool, true, false, not, if◌then◌else◌, sym, ap, ◌∙◌, refl}
use Rattle.map_plane.specs.Places.{placed}
use Rattle.map_areas.specs.Bordered.{leads}
use Rattle.map_areas.specs.Ways.{is_left_of_way, sector_by_side}
use Rattle.map_areas.proofs.drawing.Drawing.is_shared.Goals as goal

not_true : (b : Bool) → not b ≡ true → b ≡ false
not_true false h = refl
not_true true h = cc

pub returns : goal.returns
returns c = λ h.
    let m = c.args.map.now.tables in
    let w = c.args.way.now in
    let t = c.args.self.now.map.tables in
    let runs = c.args.runs in
    let which = c.args.which.now in
    let from = if runs then w.from else w.to in
    let to = if runs then w.to else w.from in
    record {
      own = c.requires.own;
      taken = c.is_left_alone.ensures (not_true c.is_left_alone.result h);
      leads =
          (λ i. leads from to (placed t (sym c.from.ensures i, which.line))) ∙ ap (leads from to) (sym c.placed-line.ensures) ∙ sym c.leads.ensures ∙ c.if-not-leads.false;
      free = c.is_free.ensures c.if-not-is_free.false;
      outer =
          ap (is_left_of_way m w) (ap (sector_by_side t) (sym c.side_on.ensures) ∙ sym c.sector_by_side-outer.ensures) ∙ sym c.is_left_of_way.ensures
          ∙ c.if-not-is_left_of_way.false;
    }
