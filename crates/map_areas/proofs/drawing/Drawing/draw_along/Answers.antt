use Rattle.std.proofs.Common.{◌≡◌, false, not, Some, sym, ◌∙◌, subst}
use Rattle.lump_records.specs.declared.records.Line.{Line}
use Rattle.map_areas.specs.Drawings.{IsUnfaced, side_on}
use Rattle.map_areas.specs.Ways.{sector_by_side}
use Rattle.map_areas.proofs.Walled.{free_of, walled_by, walls_but}
use Rattle.map_areas.proofs.drawing.Drawing.draw_along.Goals as goal

same : {a b : Line} → Some a ≡ Some b → a ≡ b
same e = cc

pub returns-in_ok-face-in-Some-find_faced-clause-walled : goal.returns-in_ok-face-in-Some-find_faced-clause-walled
returns-in_ok-face-in-Some-find_faced-clause-walled c =
    let t = c.args.self.now.map.tables in
    let w = c.args.way.now in
    let sector = c.args.paint.now.sector in
    let which = c.in-Some-find_faced.which in
    let shared = c.in-Some-find_faced.ensures.shared in
    walled_by c.args.map.now.tables c.face.new.self.map.tables sector (sector_by_side t (side_on (not which.on_right) which.line)) w which.on_right
    (c.in_ok-face-in-Some-find_faced.ensures.wall w shared.leads) (free_of t sector which.line (not which.on_right) shared.free) shared.outer

pub returns-in_ok-face-in-Some-find_faced-clause-kept : goal.returns-in_ok-face-in-Some-find_faced-clause-kept
returns-in_ok-face-in-Some-find_faced-clause-kept c =
    let t = c.args.self.now.map.tables in
    let sector = c.args.paint.now.sector in
    let which = c.in-Some-find_faced.which in
    let shared = c.in-Some-find_faced.ensures.shared in
    walls_but c.args.map.now.tables t c.face.new.self.map.tables sector which.number c.in_ok-face-in-Some-find_faced.ensures.kept
    (λ l is. subst (IsUnfaced t sector) (same (sym shared.own.line ∙ is)) shared.free)

pub returns-in_ok-open-in-Some-find_closed-clause-walled : goal.returns-in_ok-open-in-Some-find_closed-clause-walled
returns-in_ok-open-in-Some-find_closed-clause-walled c =
    let t = c.args.self.now.map.tables in
    let w = c.args.way.now in
    let sector = c.args.paint.now.sector in
    let which = c.in-Some-find_closed.which in
    let shared = c.in-Some-find_closed.ensures.shared in
    walled_by c.args.map.now.tables c.open.new.self.map.tables sector (sector_by_side t (side_on (not false) which.line)) w false
    (c.in_ok-open-in-Some-find_closed.ensures.wall w shared.leads) (free_of t sector which.line (not false) shared.free) shared.outer

pub returns-in_ok-open-in-Some-find_closed-clause-kept : goal.returns-in_ok-open-in-Some-find_closed-clause-kept
returns-in_ok-open-in-Some-find_closed-clause-kept c =
    let t = c.args.self.now.map.tables in
    let sector = c.args.paint.now.sector in
    let which = c.in-Some-find_closed.which in
    let shared = c.in-Some-find_closed.ensures.shared in
    walls_but c.args.map.now.tables t c.open.new.self.map.tables sector which.number c.in_ok-open-in-Some-find_closed.ensures.kept
    (λ l is. subst (IsUnfaced t sector) (same (sym shared.own.line ∙ is)) shared.free)
