use Rattle.std.proofs.Common.{◌≡◌, ◌∙◌, ◌≤◌, ℕ, sym, ap, subst}
use Rattle.map_tables.specs.Projects.{ProjectMaps, body_len, project_of}
use Rattle.store_project.proofs.Catching.{all_caught_up}
use Rattle.store_project.proofs.project.Project.put_and_begin.Goals as goal

pub caught_up-requires : goal.caught_up-requires
caught_up-requires g c =
    let cap : c.args.self.now.cap ≡ c.cap.result = sym c.in-Ok.ensures.cap ∙ sym (ap (λ (v : _). v.cap) c.self.view_is) ∙ sym c.cap.ensures in
    subst (λ (m : ProjectMaps). body_len m ≤ c.cap.result) (sym c.in-Ok.ensures.before) (subst (λ (k : ℕ). body_len (project_of c.args.self.now.maps) ≤ k) cap c.in-Ok.ensures.fits)

pub returns-clause-begun : goal.returns-clause-begun
returns-clause-begun g c =
    all_caught_up c.args.self.now c.exchange.new.self c.args.group c.exchange.new.group c.cap.result c.caught_up.result c.requires
    (c.cap.ensures ∙ ap (λ (v : _). v.cap) c.self.view_is ∙ c.in-Ok.ensures.cap) c.in-Ok.ensures.lines c.in-Ok.ensures.before c.in-Ok.ensures.ends.2 c.caught_up.ensures.lines
    c.caught_up.ensures.led
