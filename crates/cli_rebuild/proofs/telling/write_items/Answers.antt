use Rattle.std.proofs.Common.{◌≡◌, ◌++◌, [], ◌∷◌, List, ℕ, sym, subst, append_assoc}
use Rattle.std.specs.Prelude.{codes, decimal}
use Rattle.std.specs.Io.KnownBytes.{Appends}
use Rattle.cli_rebuild.specs.Rebuilding.{items_text}
use Rattle.cli_rebuild.proofs.telling.write_items.Goals as goal

-- the parts one in the other, as they are written
in_parts : (vertices segs subs nodes : ℕ) → items_text vertices segs subs nodes ≡ codes " rebuilt vertices " ++ (decimal vertices ++ (codes " segs " ++ (decimal segs
    ++ (codes " subsectors " ++ (decimal subs ++ (codes " nodes " ++ (decimal nodes ++ 10 ∷ [])))))))
in_parts vertices segs subs nodes = simp append_assoc

pub returns-in-Ok : goal.returns-in-Ok
returns-in-Ok g c =
    subst (λ (text : List ℕ). Appends (g.W.Write.contents c.args.writer.now) (g.W.Write.contents c.write-written.new.self) text)
    (sym (in_parts c.args.vertices c.args.segs c.args.subs c.args.nodes)) c.in-Ok.ensures.bytes
