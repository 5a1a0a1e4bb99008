-- A level that could be a map's is made anew as a build makes it.
use Rattle.std.proofs.Common.{◌≡◌, ◌∙◌, ap, subst, List, length}
use Rattle.lump_records.specs.declared.records.Line.{Line}
use Rattle.lump_records.specs.declared.records.Sector.{Sector}
use Rattle.lump_records.specs.declared.records.Vertex.{Vertex}
use Rattle.map_tables.specs.Tables.{Tables}
use Rattle.tree_blocks.specs.Blocks.{ends_over}
use Rattle.tree_blocks.specs.Lump.{IsBlockmapOver}
use Rattle.tree_nodes.specs.Built.{IsBuiltOver}
use Rattle.tree_pieces.specs.Edges.{edges_in}
use Rattle.wad_build.specs.Sound.{no_rejects}
use Rattle.wad_levels.specs.Drawn.{DrawnLists}
use Rattle.wad_rebuild.specs.Made.{reject_of}
use Rattle.wad_rebuild.specs.ReadBack.{IsDrawnAs, RebuiltMapsAreBuilt}
use Rattle.wad_rebuild.specs.Remade.{reject_over, used_front}

-- what is said of vertices and lines is said of the map's
over : (P : List Vertex → List Line → Type 0) (m : Tables) (d : DrawnLists) → IsDrawnAs m d → P (used_front d) d.lines → P m.vertices m.lines
over P m d is p = subst (λ (ls : List Line). P m.vertices ls) is.lines (subst (λ (vs : List Vertex). P vs d.lines) is.vertices p)

pub built_again : RebuiltMapsAreBuilt
built_again m d made is anew =
    let reject : reject_of d.reject made ≡ no_rejects (length m.sectors) = anew.reject ∙ ap (λ (xs : List Sector). reject_over (length xs) d.reject) is.sectors ∙ is.in_sight in
    record {
      well_formed = is.well_formed;
      tree = anew.tree;
      built = over (λ (vs : List Vertex) (ls : List Line). IsBuiltOver (edges_in vs ls) vs anew.tree) m d is anew.built;
      blockmap = made.blockmap.items;
      is_blockmap = over (λ (vs : List Vertex) (ls : List Line). IsBlockmapOver (ends_over vs ls) made.blockmap.items) m d is anew.blocks;
      is_over =
          λ i.
          record {
            things = is.things i;
            lines = is.lines i;
            sides = is.sides i;
            vertices = anew.lists.vertices i;
            segs = anew.lists.segs i;
            subs = anew.lists.subs i;
            nodes = anew.lists.nodes i;
            sectors = is.sectors i;
            reject = reject i;
            blockmap = made.blockmap.items;
          };
    }
