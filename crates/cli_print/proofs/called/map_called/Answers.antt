use Rattle.std.proofs.Common.{◌≡◌, ◌∙◌, ℕ, None, false, get_or, sym, arith}
use Rattle.std.specs.Prelude.{slice_get}
use Rattle.std.proofs.lemmas.Option.{slice_get-get_or}
use borrow.Author.Count.{below_more}
use Rattle.map_tables.specs.Projects.{project_of}
use Rattle.map_tables.specs.Tables.{Tables}
use Rattle.cli_print.specs.Called.{is_called}
use Rattle.cli_print.proofs.FirstCalled.{fails_here, found, none_found}
use Rattle.cli_print.proofs.called.map_called.Goals as goal
use Rattle.cli_print.proofs.called.map_called.Goals.{in-Some+else-is_called, in_default}

pub returns-then-is_called : goal.returns-then-is_called
returns-then-is_called c =
    found (is_called c.args.name.now) (project_of c.args.maps.now).maps c.loop-n.n c.in-Some.map.now.tables (omega (arith, c.len-n-end.ensures.value))
    c.loop-n.invariant c.in-Some.ensures (sym c.is_called.ensures ∙ c.if-is_called.true)

pub loop-n-preserved : goal.loop-n-preserved
loop-n-preserved c =
    let ms = (project_of c.args.maps.now).maps in
    let p = is_called c.args.name.now in
    let n = c.loop-n.n in
    let here : (d : Tables) → p (get_or ms n d) ≡ false = λ d. elim c.match-at.branch [
      | in-Some+else-is_called w ↦ fails_here p ms n w.in-Some.map.now.tables d w.in-Some.ensures (sym w.is_called.ensures ∙ w.if-is_called.false)
      | in_default w ↦
          let there = slice_get-get_or ms n d (omega (arith, c.len-n-end.ensures.value)) in
          let gone : slice_get ms n ≡ None = w.in_default.ensures in cc
    ] in
    λ k d below. below_more (λ (k : ℕ). (d : Tables) → p (get_or ms k d) ≡ false) n (λ k under d. c.loop-n.invariant k d under) here k below d

pub returns : goal.returns
returns c =
    none_found (is_called c.args.name.now) (project_of c.args.maps.now).maps c.loop-n.n (omega (arith, c.len-n-end.ensures.value)) c.loop-n.invariant
