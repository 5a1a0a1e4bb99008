use Rattle.std.proofs.Common.{◌≡◌, ◌∙◌, ◌++◌, [], ◌∷◌, List, ℕ, ap, subst}
use Rattle.std.specs.Prelude.{codes, decimal}
use Rattle.std.specs.Io.KnownBytes.{Appends}
use Rattle.lump_records.specs.Names.{name_text}
use Rattle.lump_records.specs.declared.records.Name8.{Name8}
use Rattle.run_edit.proofs.Going.{Appends-append}
use Rattle.run_edit.proofs.listing.write_map.Goals as goal

pub returns : goal.returns
returns g c =
    let u = g.W.Write.contents c.args.writer.now in
    let v = g.W.Write.contents c.write.new.self in
    let x = g.W.Write.contents c.write_all-2.new.self in
    let name = c.text.result.now in
    let named : name ≡ name_text c.args.map.now.tables.name = c.text.ensures.text ∙ ap (λ (n : Name8). name_text n) c.name-name.ensures in
    subst (λ (t : List ℕ). Appends u x ((decimal c.args.number ++ codes " ") ++ (t ++ 10 ∷ []))) named
    (Appends-append u v x (decimal c.args.number ++ codes " ") (name ++ 10 ∷ []) c.in_ok-write.ensures.bytes
    (Appends-append v (g.W.Write.contents c.write_all.new.self) x name (10 ∷ []) c.in_ok-write_all.ensures.bytes c.in_ok-write_all-2.ensures.bytes))
