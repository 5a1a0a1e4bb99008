-- A line's left side, if it has one.
use Rattle.std.proofs.Common.{◌≡◌, ◌≢◌, true, not, ap, sym, ◌∙◌}
use Rattle.std.proofs.lemmas.Bool.{false≢true, eq-eqb}
use Rattle.lump_records.specs.declared.records.Line.{Line}
use Rattle.lump_records.specs.Sides.{has_left, no_side}

pub has_left-true : (l : Line) → has_left l ≡ true → l.left ≢ no_side
has_left-true l h e = false≢true (sym (ap not (eq-eqb l.left no_side e)) ∙ h)
