use Rattle.std.proofs.Common.{subst}
use Rattle.lump_records.specs.declared.plane.Ray.{Ray}
use Rattle.tree_pieces.specs.declared.piece.Ends.{Ends}
use Rattle.tree_pieces.specs.Pieces.{first_end, last_end}
use Rattle.tree_choice.proofs.EndLemmas.{IsWellRight, IsWellLeft, ends_right, ends_left}
use Rattle.tree_choice.proofs.candidate.Candidate.place_of.Goals as goal

pub returns-then-last : goal.returns-then-last
returns-then-last c =
    let by = c.args.self.now in
    let lines = by.lines.now in
    let q = c.args.piece.now in
    let r = by.margins.ray in
    let a = c.sides_of_place-first in
    let b = c.sides_of_place-last in
    ends_right lines by.piece.now q c.requires.piece
    (subst (λ (x : Ray). IsWellRight x (first_end lines q)) c.requires.candidate.ray (subst (λ (x : Ends). IsWellRight r x.first) c.requires.ends (a.ensures.right c.if-first.true)))
    (subst (λ (x : Ray). IsWellRight x (last_end lines q)) c.requires.candidate.ray (subst (λ (x : Ends). IsWellRight r x.last) c.requires.ends (b.ensures.right c.if-last.true)))

pub returns-then-last-2 : goal.returns-then-last-2
returns-then-last-2 c =
    let by = c.args.self.now in
    let lines = by.lines.now in
    let q = c.args.piece.now in
    let r = by.margins.ray in
    let a = c.sides_of_place-first in
    let b = c.sides_of_place-last in
    ends_left lines by.piece.now q c.requires.piece
    (subst (λ (x : Ray). IsWellLeft x (first_end lines q)) c.requires.candidate.ray (subst (λ (x : Ends). IsWellLeft r x.first) c.requires.ends (a.ensures.left c.if-first-2.true)))
    (subst (λ (x : Ray). IsWellLeft x (last_end lines q)) c.requires.candidate.ray (subst (λ (x : Ends). IsWellLeft r x.last) c.requires.ends (b.ensures.left c.if-last-2.true)))
