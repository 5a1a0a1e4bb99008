use Rattle.std.proofs.Common.{◌≡◌, ◌<◌, All, List, None, false, length, sym, ap, ◌∙◌, subst}
use Rattle.lump_records.specs.declared.records.Vertex.{Vertex}
use Rattle.map_plane.specs.declared.places.PlacedLine.{PlacedLine}
use Rattle.map_tables.specs.Ranges.{IsVertex}
use Rattle.map_areas.specs.Outlines.{bad_corner, edges_round, outline_edges}
use Rattle.map_areas.specs.Pillars.{pillar_drawn}
use Rattle.map_areas.specs.Refusals.{AreInSector, MayStand}
use Rattle.map_areas.proofs.Leading.{LeadTo-range}
use Rattle.map_areas.proofs.Pillars.{corners_in_range, pillar_keeps, some_edges}
use Rattle.map_areas.proofs.pillar.pillar_commands.Goals as goal

pub commands_within-requires-clause-some : goal.commands_within-requires-clause-some
commands_within-requires-clause-some c =
    let cs = c.args.pillar.now.corners.items in
    let es : c.deref-2.result.now ≡ edges_round false cs =
    c.deref-2.ensures.value ∙ c.in_ok-edges.ensures.edges ∙ ap (λ (vs : List Vertex). edges_round false vs) c.deref.ensures.value in
    subst (λ (ls : List PlacedLine). 0 < length ls) (sym es)
    (some_edges cs (subst (λ (vs : List Vertex). bad_corner (outline_edges vs) ≡ None) c.deref.ensures.value c.in_ok-edges.ensures.polygon))

pub commands_within-requires-clause-corners : goal.commands_within-requires-clause-corners
commands_within-requires-clause-corners c =
    let cs = c.args.pillar.now.corners.items in
    let es : c.deref-2.result.now ≡ edges_round false cs =
    c.deref-2.ensures.value ∙ c.in_ok-edges.ensures.edges ∙ ap (λ (vs : List Vertex). edges_round false vs) c.deref.ensures.value in
    subst (λ (ls : List PlacedLine). All (λ (e : PlacedLine). IsVertex e.from) ls) (sym es) (corners_in_range cs c.in_ok-find_in_range.ensures.range.corners)

pub returns-clause-ok : goal.returns-clause-ok
returns-clause-ok c =
    let m = c.args.map.now.tables in
    let cs = c.args.pillar.now.corners.items in
    let es : c.deref-2.result.now ≡ edges_round false cs =
    c.deref-2.ensures.value ∙ c.in_ok-edges.ensures.edges ∙ ap (λ (vs : List Vertex). edges_round false vs) c.deref.ensures.value in
    let drawing = c.in_ok-commands.ensures.drawing in
    record {
      polygon = subst (λ (vs : List Vertex). bad_corner (outline_edges vs) ≡ None) c.deref.ensures.value c.in_ok-edges.ensures.polygon;
      stands = subst (λ (ls : List PlacedLine). MayStand m ls) es c.in_ok-commands.ensures.stands;
      sector = drawing.0;
      corners = subst (λ (ls : List PlacedLine). AreInSector m ls drawing.0) es drawing.1;
      drawing = drawing.2 ∙ ap (λ (ls : List PlacedLine). pillar_drawn m ls c.args.pillar.now.wall drawing.0) es;
      taken = c.in_ok-commands.ensures.taken;
      stays = pillar_keeps m c.deref-2.result.now c.args.pillar.now.wall drawing.0 c.in_ok-commands.commands.items drawing.2;
    }

pub returns-clause-range : goal.returns-clause-range
returns-clause-range c = λ k d lt.
    LeadTo-range c.args.map.now.tables c.in_ok-commands.commands.items c.in_ok-commands.ensures.taken.0 c.in_ok-commands.ensures.taken.1 k d lt
