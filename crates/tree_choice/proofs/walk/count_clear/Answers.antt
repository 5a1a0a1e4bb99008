use Rattle.std.proofs.Common.{subst}
use Rattle.lump_records.specs.declared.plane.Ray.{Ray}
use Rattle.tree_pieces.specs.Pieces.{first_end, last_end}
use Rattle.tree_pieces.specs.declared.piece.Ends.{Ends}
use Rattle.tree_choice.proofs.EndLemmas.{IsWellRight, IsWellLeft}
use Rattle.tree_choice.proofs.ClearLemmas.{by_sides}
use Rattle.tree_choice.proofs.walk.count_clear.Goals as goal

pub returns : goal.returns
returns c =
    let lines = c.args.by.now.lines.now in
    let q = c.args.piece.now in
    let r = c.args.by.now.margins.ray in
    let a = c.sides_of_place-first in
    let b = c.sides_of_place-last in
    let e = c.counts_by_sides.ensures in
    by_sides lines c.args.by.now.piece.now q c.requires.piece a.result.right a.result.left b.result.right b.result.left a.ensures.one b.ensures.one
    (λ h. subst (λ (x : Ray). IsWellRight x (first_end lines q)) c.requires.candidate.ray (subst (λ (x : Ends). IsWellRight r x.first) c.requires.ends (a.ensures.right h)))
    (λ h. subst (λ (x : Ray). IsWellLeft x (first_end lines q)) c.requires.candidate.ray (subst (λ (x : Ends). IsWellLeft r x.first) c.requires.ends (a.ensures.left h)))
    (λ h. subst (λ (x : Ray). IsWellRight x (last_end lines q)) c.requires.candidate.ray (subst (λ (x : Ends). IsWellRight r x.last) c.requires.ends (b.ensures.right h)))
    (λ h. subst (λ (x : Ray). IsWellLeft x (last_end lines q)) c.requires.candidate.ray (subst (λ (x : Ends). IsWellLeft r x.last) c.requires.ends (b.ensures.left h)))
    c.counts_by_sides.result e.right e.left e.splits
