use Rattle.std.proofs.Common.{◌≡◌, ◌≤◌, ◌∙◌, List, ℕ, ap, ap₂, arith, get_or, length, sym}
use Rattle.std.specs.Prelude.{slice_get, Some}
use Rattle.map_script.specs.Views.{begin_of, lines_from, text_between}
use Rattle.map_script.specs.declared.script.LineEnd.{LineEnd}
use Rattle.map_script.proofs.LineTexts.{line_at, line_within}
use Rattle.map_script.proofs.script.line_in.Goals as goal

abbrev none : LineEnd
none = record { number = 0; end = 0 }

pub text_between-requires-clause-begins : goal.text_between-requires-clause-begins
text_between-requires-clause-begins c =
    let both = line_within 0 c.args.ends.now (length c.args.texts.now) c.args.place none c.requires.ends c.requires.place in
    omega (arith, both.0, c.begin_of-begin.ensures)

pub text_between-requires-clause-ends : goal.text_between-requires-clause-ends
text_between-requires-clause-ends c =
    (line_within 0 c.args.ends.now (length c.args.texts.now) c.args.place none c.requires.ends c.requires.place).1

pub returns : goal.returns
returns c =
    let e : LineEnd = get_or c.args.ends.now c.args.place none in
    line_at c.args.texts.now 0 c.args.ends.now c.args.place none c.requires.place
    ∙ ap (λ (text : List ℕ). Some (e.number, text)) (ap (λ (from : ℕ). text_between c.args.texts.now from e.end) (sym c.begin_of-begin.ensures) ∙ sym c.text_between.ensures)
