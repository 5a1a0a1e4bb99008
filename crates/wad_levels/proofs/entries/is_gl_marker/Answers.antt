use Rattle.std.proofs.Common.{◌≡◌, ◌∙◌, ap, take, drop, List, ℕ, true}
use Rattle.std.specs.Prelude.{codes}
use Rattle.wad_file.specs.Fields.{same_bytes}
use Rattle.wad_levels.specs.Entries.{is_gl_marker}
use Rattle.wad_levels.proofs.entries.is_gl_marker.Goals as goal

pub returns-in-Some : goal.returns-in-Some
unfolding is_gl_marker
returns-in-Some c =
    let front : same_bytes (take 3 c.args.text.now) (codes "GL_") ≡ true = c.in-Some.ensures.cases.0 in
    let back : c.in-Some.rest.now ≡ drop 3 c.args.text.now = c.in-Some.ensures.cases.1 in
    rw front (c.eq.ensures ∙ ap (λ (r : List ℕ). same_bytes r c.args.level.now) back)
