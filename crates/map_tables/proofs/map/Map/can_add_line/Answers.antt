-- Each test returns the least of its faults, and the lists of faults follow one another.
use Rattle.std.proofs.Common.{ℕ, Bool, List, [], ◌∷◌, ◌++◌, ◌∙◌}
use Rattle.map_tables.specs.declared.error.MapError.TheVariants.{TableFull, LineTooLong}
use Rattle.map_tables.specs.Errors.{code_of}
use Rattle.map_tables.specs.Faults.{lacks_room, is_too_long, reference_faults, shape_faults, line_faults}
use Rattle.map_tables.proofs.TellsLemmas.{told_before, told_behind, passed_on}
use Rattle.map_tables.proofs.map.Map.can_add_line.Goals as goal

pub returns-in_err-check_references : goal.returns-in_err-check_references
returns-in_err-check_references c =
    let m = c.args.self.now.tables in
    let l = c.args.line in
    let room : List (ℕ × Bool) = (code_of TableFull, lacks_room m.lines 1) ∷ (code_of LineTooLong, is_too_long m.vertices l) ∷ [] in
    passed_on (line_faults m l) c.from_residual.result c.in_err-check_references.field-0.0 c.from_residual.ensures.1
    (told_before (reference_faults m l) (shape_faults l ++ room) _ c.in_err-check_references.ensures)

pub returns-in_err-check_shape : goal.returns-in_err-check_shape
returns-in_err-check_shape c =
    let m = c.args.self.now.tables in
    let l = c.args.line in
    let room : List (ℕ × Bool) = (code_of TableFull, lacks_room m.lines 1) ∷ (code_of LineTooLong, is_too_long m.vertices l) ∷ [] in
    passed_on (line_faults m l) c.from_residual-in_err-check_shape.result c.in_err-check_shape.field-0.0 c.from_residual-in_err-check_shape.ensures.1
    (told_behind (reference_faults m l) (shape_faults l ++ room) c.in_ok-check_references.ensures
    ∙ told_before (shape_faults l) room _ c.in_err-check_shape.ensures)
