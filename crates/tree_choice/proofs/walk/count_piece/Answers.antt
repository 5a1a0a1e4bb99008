use Rattle.std.specs.Prelude.{not}
use mir.Val.{bool_byte}
use Rattle.std.proofs.Common.{refl, ◌≡◌, sym, ap, ◌∙◌, Bool, true, false, List, ◌∷◌, [], Some, None}
use Rattle.tree_pieces.specs.declared.edge.Edge.{Edge}
use Rattle.tree_pieces.specs.declared.piece.Piece.{Piece}
use Rattle.tree_pieces.specs.declared.piece.Place.TheVariants.{Right, Left}
use Rattle.tree_pieces.specs.Division.{parts_of}
use Rattle.tree_pieces.specs.Local.{place_on}
use Rattle.tree_choice.specs.declared.counts.Counts.{Counts}
use Rattle.tree_choice.specs.Counts.{AreCounts}
use Rattle.tree_choice.proofs.OneMore.{piece_counts}
use Rattle.tree_choice.proofs.WholeLines.{parts_by_place}
use Rattle.tree_choice.proofs.walk.count_piece.Goals as goal

-- a piece of a line on one side
by_side : (lines : List Edge) (h q : Piece) (right : Bool)
    → (right ≡ true → record { right = Some q; left = None } ≡ parts_of lines h q) → (right ≡ false → record { right = None; left = Some q } ≡ parts_of lines h q)
    → (c : Counts) → c.splits ≡ 0 → c.right ≡ bool_byte right → c.left ≡ bool_byte (not right) → AreCounts lines h (q ∷ []) c
by_side lines h q true f g c s r l = piece_counts lines h q _ c (f refl) r l s
by_side lines h q false f g c s r l = piece_counts lines h q _ c (g refl) r l s

pub returns-in-Some : goal.returns-in-Some
returns-in-Some c =
    let lines = c.args.by.now.lines.now in
    let h = c.args.by.now.piece.now in
    let q = c.args.piece.now in
    let r = c.args.by.now.margins.ray in
    let own = c.line_of-edge.ensures.line in
    let o = c.side_of_line.ensures in
    by_side lines h q c.in-Some.right
    (λ t. parts_by_place lines h q r Right c.requires.candidate.ray (sym (o.right (c.in-Some.is ∙ ap Some t)) ∙ ap (λ (x : Edge). place_on r x q) own))
    (λ t. parts_by_place lines h q r Left c.requires.candidate.ray (sym (o.left (c.in-Some.is ∙ ap Some t)) ∙ ap (λ (x : Edge). place_on r x q) own))
    _ refl refl refl
