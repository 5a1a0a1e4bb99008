use Rattle.std.proofs.Common.{◌≤◌, ◌<◌, ◌∙◌, sym, subst, ℕ, List, All}
use Rattle.lump_records.specs.declared.records.Vertex.{Vertex}
use Rattle.tree_pieces.specs.declared.piece.Piece.{Piece}
use Rattle.tree_pieces.specs.Pieces.{IsPiece}
use Rattle.tree_pieces.specs.LineAngles.{AreAngles}
use Rattle.tree_nodes.specs.Tiling.{total}
use Rattle.tree_nodes.specs.TreeLists.{AreSegsOf}
use Rattle.tree_nodes.specs.Sound.{IsSound, IsSmall, IsBuiltOf}
use Rattle.tree_nodes.specs.Numbers.{AreNumbered, AreSegsRefused}
use Rattle.tree_nodes.specs.Growth.{lists_of}
use Rattle.tree_nodes.proofs.Building.{within_limits, built_of, lists_pieces, lists_some, lists_total, segs_refused_too, small_of, sound_of}
use Rattle.tree_nodes.proofs.built.number_over.Goals as goal

pub segs_of-requires-clause-pieces : goal.segs_of-requires-clause-pieces
segs_of-requires-clause-pieces c = subst (All (IsPiece c.args.lines.now)) (sym c.deref.ensures.value) (lists_pieces c.args.lines.now c.args.points.now (lists_of c.args.grown) c.requires.lists)

pub segs_of-requires-clause-angles : goal.segs_of-requires-clause-angles
segs_of-requires-clause-angles c = subst (AreAngles c.args.lines.now) (sym c.deref-2.ensures.value) c.in-Ok.ensures

pub returns-in-Err-segs_of-clause-refused : goal.returns-in-Err-segs_of-clause-refused
returns-in-Err-segs_of-clause-refused c =
    segs_refused_too c.args.lines.now c.args.points.now (lists_of c.args.grown) c.requires.lists c.in-Err-segs_of.error
    (subst (λ (ps : List Piece). AreSegsRefused c.args.lines.now c.args.points.now ps c.in-Err-segs_of.error) c.deref.ensures.value c.in-Err-segs_of.ensures.refused)

pub subs_of-requires-clause-some : goal.subs_of-requires-clause-some
subs_of-requires-clause-some c =
    subst (All (λ (n : ℕ). 0 < n)) (sym c.deref-3.ensures.value)
    (lists_some c.args.lines.now c.args.points.now (lists_of c.args.grown) c.requires.lists c.requires.some)

pub subs_of-requires-clause-few : goal.subs_of-requires-clause-few
subs_of-requires-clause-few c = subst (λ (xs : List ℕ). total xs ≤ 32767) (sym c.deref-3.ensures.value) (lists_total c.args.lines.now c.args.points.now (lists_of c.args.grown) c.requires.lists)

pub returns-in-Ok-vertices_of-clause-built : goal.returns-in-Ok-vertices_of-clause-built
returns-in-Ok-vertices_of-clause-built c =
    let lines = c.args.lines.now in
    let drawn = c.args.points.now in
    let vs = c.segs_of.new.points in
    let segs = c.in-Ok-segs_of.segs.items in
    let subs = c.in-Ok-subs_of.subs.items in
    let nodes = c.args.grown.nodes.items in
    let e = sym c.in-Ok-vertices_of.ensures in
    let sizes = c.in-Ok-subs_of.ensures.counts ∙ c.deref-3.ensures.value in
    let a = subst (λ (ps : List Piece). AreSegsOf lines vs ps segs) c.deref.ensures.value c.in-Ok-segs_of.ensures.segs in
    let n = subst (λ (ps : List Piece). AreNumbered lines drawn vs ps segs) c.deref.ensures.value c.in-Ok-segs_of.ensures.numbered in
    record {
      some_line = c.requires.some;
      few_lines = c.requires.few;
      small = subst (λ (v : List Vertex). IsSmall v segs subs nodes) e (small_of lines drawn (lists_of c.args.grown) c.requires.lists vs segs subs a sizes c.in-Ok-subs_of.ensures.follow n);
      sound = subst (λ (v : List Vertex). IsSound lines drawn v segs subs nodes) e
          (sound_of lines drawn
          (lists_of c.args.grown) c.requires.lists vs segs subs a sizes c.in-Ok-subs_of.ensures.follow n c.requires.few);
      of_tree = subst (λ (v : List Vertex). IsBuiltOf lines v segs subs nodes) e
          (built_of lines drawn
          (lists_of c.args.grown) c.requires.lists vs segs subs a sizes c.in-Ok-subs_of.ensures.follow);
    }

pub returns-in-Err-segs_of-clause-last : goal.returns-in-Err-segs_of-clause-last
returns-in-Err-segs_of-clause-last c = λ h. within_limits c.args.lines.now (lists_of c.args.grown) c.requires.lists
