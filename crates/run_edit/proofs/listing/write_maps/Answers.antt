use Rattle.std.proofs.Common.{ℕ, ◌++◌, subst}
use Rattle.std.specs.Io.KnownBytes.{Appends}
use Rattle.map_tables.specs.Projects.{project_of}
use Rattle.run_edit.specs.Texts.{current_text, map_lines}
use Rattle.run_edit.proofs.Going.{Appends-append}
use Rattle.run_edit.proofs.listing.write_maps.Goals as goal

pub returns : goal.returns
returns g c =
    let ms = (project_of c.args.maps.now).maps in
    let u = g.W.Write.contents c.args.writer.now in
    let x = g.W.Write.contents c.write_current.new.writer in
    subst (λ (n : ℕ). Appends u x (map_lines 0 ms ++ current_text n)) c.current_number-current.ensures.value
    (Appends-append u (g.W.Write.contents c.write_each.new.writer) x (map_lines 0 ms) (current_text c.current_number-current.result)
    c.in_ok-write_each.ensures c.in_ok-write_current.ensures)
