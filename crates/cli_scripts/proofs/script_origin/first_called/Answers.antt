use Rattle.std.proofs.Common.{◌≡◌, ◌∙◌, ℕ, false, get_or, sym, arith}
use Rattle.std.proofs.lemmas.List.Sums.{position_or_len_is}
use Rattle.std.proofs.lemmas.Option.{slice_get-get_or}
use borrow.Author.Count.{below_more}
use Rattle.map_tables.specs.Projects.{project_of}
use Rattle.map_tables.specs.Tables.{Tables, empty_tables}
use Rattle.cli_print.specs.Called.{is_called}
use Rattle.cli_scripts.proofs.script_origin.first_called.Goals as goal

pub returns-then-is_nth_called : goal.returns-then-is_nth_called
returns-then-is_nth_called c =
    let ms = (project_of c.args.maps.now).maps in
    sym (position_or_len_is (is_called c.args.name.now) ms c.loop-n.n empty_tables (omega (arith, c.len-len.ensures.value))
    (λ k below. c.loop-n.invariant k empty_tables below)
    (λ within. sym (c.is_nth_called.ensures (get_or ms c.loop-n.n empty_tables) (slice_get-get_or ms c.loop-n.n empty_tables within)) ∙ c.if-is_nth_called.true))

pub loop-n-preserved : goal.loop-n-preserved
loop-n-preserved c =
    let ms = (project_of c.args.maps.now).maps in
    let p = is_called c.args.name.now in
    let n = c.loop-n.n in
    let here : (d : Tables) → p (get_or ms n d) ≡ false = λ d.
    sym (c.is_nth_called.ensures (get_or ms n d) (slice_get-get_or ms n d (omega (arith, c.len-len.ensures.value)))) ∙ c.if-is_nth_called.false in
    λ k d below. below_more (λ (k : ℕ). (d : Tables) → p (get_or ms k d) ≡ false) n (λ k under d. c.loop-n.invariant k d under) here k below d

pub returns : goal.returns
returns c =
    let ms = (project_of c.args.maps.now).maps in
    sym (position_or_len_is (is_called c.args.name.now) ms c.len-len.result empty_tables (omega (arith, c.len-len.ensures.value))
    (λ k below. c.loop-n.invariant k empty_tables (omega arith)) (λ within. absurd (omega (arith, c.len-len.ensures.value))))
