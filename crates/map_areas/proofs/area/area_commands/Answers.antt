use Rattle.std.proofs.Common.{◌≡◌, ◌<◌, All, List, None, false, true, length, ◌∙◌, ap, subst, sym}
use Rattle.lump_records.specs.declared.records.Vertex.{Vertex}
use Rattle.map_plane.specs.Meeting.{is_at}
use Rattle.map_plane.specs.declared.places.PlacedLine.{PlacedLine}
use Rattle.map_areas.proofs.Corners.{round_long, round_some}
use Rattle.map_areas.specs.Areas.{DrawsArea}
use Rattle.map_areas.specs.Drawn.{drawn}
use Rattle.map_areas.specs.Outlines.{bad_corner, edges_round, outline_edges}
use Rattle.map_areas.specs.Order.{MayBecome}
use Rattle.map_areas.proofs.area.area_commands.Goals as goal

pub returns-clause-ok : goal.returns-clause-ok
returns-clause-ok c =
    let m = c.args.map.now.tables in
    let cs = c.args.area.now.corners.items in
    let es : c.in_ok-edges.edges.items ≡ edges_round true cs =
    c.in_ok-edges.ensures.edges ∙ ap (λ (vs : List Vertex). edges_round true vs) c.deref.ensures.value in
    record {
      polygon = subst (λ (vs : List Vertex). bad_corner (outline_edges vs) ≡ None) c.deref.ensures.value c.in_ok-edges.ensures.polygon;
      becomes = subst (λ (gs : List PlacedLine). MayBecome m gs) es c.in_ok-commands.ensures.becomes;
      taken = c.in_ok-commands.ensures.taken;
      area = subst (λ (gs : List PlacedLine). DrawsArea gs m (drawn m c.in_ok-commands.commands.items)) es c.in_ok-commands.ensures.area;
    }

pub commands_within-requires-clause-some : goal.commands_within-requires-clause-some
commands_within-requires-clause-some c =
    let cs = c.args.area.now.corners.items in
    let es : c.in_ok-edges.edges.items ≡ edges_round true cs =
    c.in_ok-edges.ensures.edges ∙ ap (λ (vs : List Vertex). edges_round true vs) c.deref.ensures.value in
    subst (λ (ls : List PlacedLine). 0 < length ls) (sym es)
    (round_some cs (subst (λ (vs : List Vertex). bad_corner (outline_edges vs) ≡ None) c.deref.ensures.value c.in_ok-edges.ensures.polygon))

pub commands_within-requires-clause-long : goal.commands_within-requires-clause-long
commands_within-requires-clause-long c =
    let cs = c.args.area.now.corners.items in
    let es : c.in_ok-edges.edges.items ≡ edges_round true cs =
    c.in_ok-edges.ensures.edges ∙ ap (λ (vs : List Vertex). edges_round true vs) c.deref.ensures.value in
    subst (λ (ls : List PlacedLine). All (λ (e : PlacedLine). is_at e.from e.to ≡ false) ls) (sym es)
    (round_long cs (subst (λ (vs : List Vertex). bad_corner (outline_edges vs) ≡ None) c.deref.ensures.value c.in_ok-edges.ensures.polygon))
