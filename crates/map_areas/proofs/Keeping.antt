-- What commands keep of a map, one after another.
use Rattle.std.proofs.Common.{All, List, [], ◌∷◌, ◌++◌, refl, sym, ap, ◌∙◌, append_assoc, append-nil}
use Rattle.std.proofs.lemmas.List.Elements.{All-head, All-tail}
use Rattle.map_tables.specs.Edits.{after_edit}
use Rattle.map_tables.specs.Tables.{Tables}
use Rattle.map_tables.specs.declared.edit.Edit.{Edit}
use Rattle.map_tables.specs.declared.edit.Edit.TheVariants.{Add, Set, Drop}
use Rattle.map_tables.specs.declared.edit.Item.TheVariants as item
use Rattle.map_commands.specs.Step.{after}
use Rattle.map_commands.specs.declared.command.Command.{Command}
use Rattle.map_commands.specs.declared.command.Command.TheVariants as command
use Rattle.map_areas.specs.Drawn.{drawn}
use Rattle.map_areas.specs.Stays.{Continues, Draws, IsDrawing, KeepsItems}

-- nothing was added
same_list : {X : Type 0} (xs : List X) → Continues xs xs
same_list xs = ([], sym (append-nil xs))

-- something was added, and then something more
longer : {X : Type 0} (xs ys zs : List X) → Continues xs ys → Continues ys zs → Continues xs zs
longer xs ys zs p q = (p.0 ++ q.0, q.1 ∙ ap (λ l. l ++ q.0) p.1 ∙ append_assoc xs p.0 q.0)

-- nothing was done
pub keeps_same : (m : Tables) → KeepsItems m m
keeps_same m = record {
  name = refl;
  vertices = same_list m.vertices;
  sectors = same_list m.sectors;
  things = refl;
}

-- one thing was done after another
pub keeps_then : (a b c : Tables) → KeepsItems a b → KeepsItems b c → KeepsItems a c
keeps_then a b c p q = record {
  name = q.name ∙ p.name;
  vertices = longer a.vertices b.vertices c.vertices p.vertices q.vertices;
  sectors = longer a.sectors b.sectors c.sectors p.sectors q.sectors;
  things = q.things ∙ p.things;
}

-- an edit that draws
edit_keeps : (m : Tables) (e : Edit) → IsDrawing e → KeepsItems m (after_edit m e)
edit_keeps m (Add (item.Vertex v)) h = record {
  name = refl;
  vertices = (v ∷ [], refl);
  sectors = same_list m.sectors;
  things = refl;
}
edit_keeps m (Add (item.Sector s)) h = record {
  name = refl;
  vertices = same_list m.vertices;
  sectors = (s ∷ [], refl);
  things = refl;
}
edit_keeps m (Add (item.Side s)) h = record {
  name = refl;
  vertices = same_list m.vertices;
  sectors = same_list m.sectors;
  things = refl;
}
edit_keeps m (Add (item.Line l)) h = record {
  name = refl;
  vertices = same_list m.vertices;
  sectors = same_list m.sectors;
  things = refl;
}
edit_keeps m (Add (item.Thing t)) h = absurd h
edit_keeps m (Set n (item.Side s)) h = record {
  name = refl;
  vertices = same_list m.vertices;
  sectors = same_list m.sectors;
  things = refl;
}
edit_keeps m (Set n (item.Line l)) h = record {
  name = refl;
  vertices = same_list m.vertices;
  sectors = same_list m.sectors;
  things = refl;
}
edit_keeps m (Set n (item.Vertex v)) h = absurd h
edit_keeps m (Set n (item.Sector s)) h = absurd h
edit_keeps m (Set n (item.Thing t)) h = absurd h
edit_keeps m (Drop k n) h = absurd h

-- a command that draws
command_keeps : (m : Tables) (c : Command) → Draws c → KeepsItems m (after m c)
command_keeps m (command.Edit e) h = edit_keeps m e h
command_keeps m (command.Split s) h = record {
  name = refl;
  vertices = (s.at ∷ [], refl);
  sectors = same_list m.sectors;
  things = refl;
}
command_keeps m c h = absurd h

-- commands that draw
pub keeps_drawing : (m : Tables) (cs : List Command) → All Draws cs → KeepsItems m (drawn m cs)
keeps_drawing m [] h = keeps_same m
keeps_drawing m (c ∷ cs) h =
    keeps_then m (after m c) (drawn (after m c) cs) (command_keeps m c (All-head Draws c cs h)) (keeps_drawing (after m c) cs (All-tail Draws c cs h))
