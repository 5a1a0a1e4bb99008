use Rattle.std.proofs.Common.{◌∙◌, ◌++◌, List, ℕ, ap, ap₂, refl}
use Rattle.std.specs.Prelude.{replicate}
use Rattle.map_script.specs.Files.{files_of}
use Rattle.map_script.specs.declared.files.FilePart.{FilePart}
use Rattle.map_script.proofs.FileParts.{one_more}
use Rattle.map_script.proofs.files.put_part.Goals as goal

pub returns-clause-ok : goal.returns-clause-ok
returns-clause-ok c =
    ap files_of c.in_ok-push.ensures.items ∙ one_more c.grow_last.new.parts.items (record { name = c.in_ok-name.name; count = c.args.count })
    ∙ ap₂ (λ (ps : List FilePart) (name : List ℕ). files_of ps ++ replicate c.args.count name) (c.if-grow_last.ensures.stays refl) c.in_ok-name.ensures.ok
