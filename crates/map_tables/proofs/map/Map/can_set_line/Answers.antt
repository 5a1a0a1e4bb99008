-- Each test returns the least of its faults, and the lists of faults follow one another.
use Rattle.std.proofs.Common.{ℕ, Bool, List, [], ◌∷◌, ◌++◌, ◌∙◌, sym}
use Rattle.map_tables.specs.declared.error.MapError.TheVariants.{NoLine, LineTooLong}
use Rattle.map_tables.specs.Errors.{code_of}
use Rattle.map_tables.specs.Faults.{lacks, is_too_long, reference_faults, shape_faults, set_line_faults}
use Rattle.map_tables.proofs.TellsLemmas.{told_before, told_behind, passed_on, told_last, none_last}
use Rattle.map_tables.proofs.map.Map.can_set_line.Goals as goal

pub returns-in_err-check_references : goal.returns-in_err-check_references
returns-in_err-check_references c =
    let m = c.args.self.now.tables in
    let l = c.args.line in
    let short : List (ℕ × Bool) = (code_of LineTooLong, is_too_long m.vertices l) ∷ [] in
    let there : List (ℕ × Bool) = (code_of NoLine, lacks m.lines c.args.n) ∷ shape_faults l ++ short in
    passed_on (set_line_faults m c.args.n l) c.from_residual.result c.in_err-check_references.field-0.0 c.from_residual.ensures.1
    (told_before (reference_faults m l) there _ c.in_err-check_references.ensures)

pub returns-in_err-check_has_line : goal.returns-in_err-check_has_line
returns-in_err-check_has_line c =
    let m = c.args.self.now.tables in
    let l = c.args.line in
    let short : List (ℕ × Bool) = (code_of LineTooLong, is_too_long m.vertices l) ∷ [] in
    let there : List (ℕ × Bool) = (code_of NoLine, lacks m.lines c.args.n) ∷ shape_faults l ++ short in
    passed_on (set_line_faults m c.args.n l) c.from_residual-in_err-check_has_line.result c.in_err-check_has_line.field-0.0 c.from_residual-in_err-check_has_line.ensures.1
    (told_behind (reference_faults m l) there c.in_ok-check_references.ensures
    ∙ told_before ((code_of NoLine, lacks m.lines c.args.n) ∷ []) (shape_faults l ++ short) _ c.in_err-check_has_line.ensures)

pub returns-in_err-check_shape : goal.returns-in_err-check_shape
returns-in_err-check_shape c =
    let m = c.args.self.now.tables in
    let l = c.args.line in
    let short : List (ℕ × Bool) = (code_of LineTooLong, is_too_long m.vertices l) ∷ [] in
    let there : List (ℕ × Bool) = (code_of NoLine, lacks m.lines c.args.n) ∷ shape_faults l ++ short in
    passed_on (set_line_faults m c.args.n l) c.from_residual-in_err-check_shape.result c.in_err-check_shape.field-0.0 c.from_residual-in_err-check_shape.ensures.1
    (told_behind (reference_faults m l) there c.in_ok-check_references.ensures
    ∙ told_behind ((code_of NoLine, lacks m.lines c.args.n) ∷ []) (shape_faults l ++ short) c.in_ok-check_has_line.ensures
    ∙ told_before (shape_faults l) short _ c.in_err-check_shape.ensures)

pub returns-then-is_too_long : goal.returns-then-is_too_long
returns-then-is_too_long c =
    let m = c.args.self.now.tables in
    let l = c.args.line in
    let short : List (ℕ × Bool) = (code_of LineTooLong, is_too_long m.vertices l) ∷ [] in
    let there : List (ℕ × Bool) = (code_of NoLine, lacks m.lines c.args.n) ∷ shape_faults l ++ short in
    told_behind (reference_faults m l) there c.in_ok-check_references.ensures
    ∙ told_behind ((code_of NoLine, lacks m.lines c.args.n) ∷ []) (shape_faults l ++ short) c.in_ok-check_has_line.ensures
    ∙ told_behind (shape_faults l) short c.in_ok-check_shape.ensures
    ∙ told_last (code_of LineTooLong) (is_too_long m.vertices l) (sym c.is_too_long.ensures ∙ c.if-is_too_long.true)

pub returns : goal.returns
returns c =
    let m = c.args.self.now.tables in
    let l = c.args.line in
    let short : List (ℕ × Bool) = (code_of LineTooLong, is_too_long m.vertices l) ∷ [] in
    let there : List (ℕ × Bool) = (code_of NoLine, lacks m.lines c.args.n) ∷ shape_faults l ++ short in
    told_behind (reference_faults m l) there c.in_ok-check_references.ensures
    ∙ told_behind ((code_of NoLine, lacks m.lines c.args.n) ∷ []) (shape_faults l ++ short) c.in_ok-check_has_line.ensures
    ∙ told_behind (shape_faults l) short c.in_ok-check_shape.ensures
    ∙ none_last (code_of LineTooLong) (is_too_long m.vertices l) (sym c.is_too_long.ensures ∙ c.if-is_too_long.false)
